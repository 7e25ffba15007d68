-- Of every core that calls reach: each byte of a load or a store is the byte at the translation of its own address, and
-- DC ZVA leaves 64 zero bytes at the translation of the aligned address and every other byte as it was. The laws are
-- the core's, of cores that are well-formed; `read_of`, `write_of`, `ram_after_write`, `sys_of` and `sys_ram` are what
-- `step_of` and `ram_after` make of a call that misses no check.
use Rattle.std.specs.Prelude.{◌≡◌, true, false, List, ℕ, ◌+◌, ◌/◌, ◌%◌, ◌^◌, ◌≤◌, ◌<◌, get_or, Ok}
use Rattle.std.proofs.Math.ListN.{length}
use Rattle.word.specs.Bits.{align_down, wrap}
use Rattle.word.specs.Ram.{within}
use Rattle.tlb.specs.Access.{flat_answer}
use Rattle.tlb.specs.declared.access.Kind.{Kind}
use Rattle.tlb.specs.declared.access.Kind.TheVariants.{Read, Write}
use Rattle.cpu.specs.Core.{fresh_core, reg_of}
use Rattle.cpu.specs.Bytes.{byte_in}
use Rattle.cpu.specs.Memory.{translate_of, read_of, write_of, ram_after_write}
use Rattle.cpu.specs.OwnAddress.{own_answer, OwnByte, Zeroed}
use Rattle.system.specs.declared.decode.SysOp.TheVariants as Op
use Rattle.cpu.specs.System.{op_of, sys_of, sys_ram}
use Rattle.history.specs.World as World
use Rattle.history.specs.Calls.{Fed, Shown}
use Rattle.history.specs.Instance.{Ram, memory_of, real}
use Rattle.transparency.specs.Events.{plain_in}
use Rattle.transparency.specs.Machine.{machine}
use Rattle.transparency.specs.Direct.{core_now, bare_now}

-- WITH STAGE 1 OFF every translation is of the untagged address itself, or too large

module _ (list : List (Fed real machine)) (m : Ram) where
  abbrev pub flat_after : Type 0
  flat_after =
      World.on_now real (plain_in (bare_now list)) ≡ false → (kind : Kind) (va : ℕ)
      → (translate_of (core_now list) (memory_of m) va kind).answer ≡ flat_answer (World.untag_now real (plain_in (bare_now list)) va)

-- and an access of n bytes, which is one translation, of its first byte, lies whole from there on, also past 2^44
abbrev pub flat_load_after : Type 0
flat_load_after =
    (list : List (Fed real machine)) (seen : Shown real machine fresh_core list) (m : Ram) (va n pa : ℕ)
    → World.on_now real (plain_in (bare_now list)) ≡ false → m.base + length m.bytes ≤ 2 ^ 64 → ((k : ℕ) → get_or m.bytes k 0 < 256)
    → (translate_of (core_now list) (memory_of m) va Read).answer ≡ Ok pa → within m.base (length m.bytes) n pa ≡ true
    → (v : ℕ) × ((read_of (core_now list) m.base m.bytes va n).answer ≡ Ok v)
    × ((i : ℕ) → i < n → v / 256 ^ i % 256 ≡ byte_in m.base m.bytes (pa + i))

abbrev pub flat_store_after : Type 0
flat_store_after =
    (list : List (Fed real machine)) (seen : Shown real machine fresh_core list) (m : Ram) (va n v pa : ℕ)
    → World.on_now real (plain_in (bare_now list)) ≡ false → m.base + length m.bytes ≤ 2 ^ 64
    → (translate_of (core_now list) (memory_of m) va Write).answer ≡ Ok pa → within m.base (length m.bytes) n pa ≡ true
    → ((write_of (core_now list) m.base m.bytes va n).answer ≡ Ok tt)
    × ((i : ℕ) → i < n → byte_in m.base (ram_after_write (core_now list) m.base m.bytes va n v) (pa + i) ≡ v / 256 ^ i % 256)

-- and changes no byte beside those; none at all where its first byte's translation faults
abbrev pub flat_others_after : Type 0
flat_others_after =
    (list : List (Fed real machine)) (seen : Shown real machine fresh_core list) (m : Ram) (va n v k : ℕ)
    → World.on_now real (plain_in (bare_now list)) ≡ false
    → ((i pa : ℕ) → i < n → (translate_of (core_now list) (memory_of m) va Write).answer ≡ Ok pa → pa + i ≡ m.base + k → ⊥)
    → get_or (ram_after_write (core_now list) m.base m.bytes va n v) k 0 ≡ get_or m.bytes k 0

-- with stage 1 on, or a fault of the first byte's translation, or no byte of the access past 2^44: else its later bytes' own translations would
-- fault
abbrev pub Within44 : List (Fed real machine) → Ram → ℕ → ℕ → Kind → Type 0
Within44 list m va n kind =
    World.on_now real (plain_in (bare_now list)) ≡ false → (pa : ℕ)
    → (translate_of (core_now list) (memory_of m) va kind).answer ≡ Ok pa → pa + n ≤ 2 ^ 44

-- EACH BYTE

-- byte i of what a load answers is the byte of RAM at the translation of its own address
abbrev pub load_byte_after : Type 0
load_byte_after =
    (list : List (Fed real machine)) (seen : Shown real machine fresh_core list) (m : Ram) (va n v i : ℕ)
    → va < 2 ^ 64 → n ≤ 8 → Within44 list m va n Read → m.base + length m.bytes ≤ 2 ^ 64 → ((k : ℕ) → get_or m.bytes k 0 < 256)
    → (read_of (core_now list) m.base m.bytes va n).answer ≡ Ok v → i < n
    → (o : OwnByte (core_now list) m.base m.bytes va Read i) × (v / 256 ^ i % 256 ≡ byte_in m.base m.bytes (wrap o.pa))

-- after a store that is done, the byte of RAM at the translation of byte i's own address is byte i of the value; of two
-- bytes at one place the later
abbrev pub store_byte_after : Type 0
store_byte_after =
    (list : List (Fed real machine)) (seen : Shown real machine fresh_core list) (m : Ram) (va n v i : ℕ)
    → va < 2 ^ 64 → n ≤ 8 → Within44 list m va n Write → m.base + length m.bytes ≤ 2 ^ 64
    → (write_of (core_now list) m.base m.bytes va n).answer ≡ Ok tt → i < n
    → (o : OwnByte (core_now list) m.base m.bytes va Write i)
    × (((j pa : ℕ) → i < j → j < n → own_answer (core_now list) (memory_of m) va Write j ≡ Ok pa
    → wrap pa ≡ wrap o.pa → ⊥)
    → byte_in m.base (ram_after_write (core_now list) m.base m.bytes va n v) (wrap o.pa) ≡ v / 256 ^ i % 256)

-- and every byte that is at the translation of none of its bytes' own addresses stays
abbrev pub store_others_after : Type 0
store_others_after =
    (list : List (Fed real machine)) (seen : Shown real machine fresh_core list) (m : Ram) (va n v k : ℕ)
    → va < 2 ^ 64 → n ≤ 8 → Within44 list m va n Write → m.base + length m.bytes ≤ 2 ^ 64 → k < length m.bytes
    → ((i pa : ℕ) → i < n → own_answer (core_now list) (memory_of m) va Write i ≡ Ok pa → wrap pa ≡ m.base + k → ⊥)
    → get_or (ram_after_write (core_now list) m.base m.bytes va n v) k 0 ≡ get_or m.bytes k 0

-- DC ZVA that is done
abbrev pub zva_after : Type 0
zva_after =
    (list : List (Fed real machine)) (seen : Shown real machine fresh_core list) (m : Ram) (op1 crn crm op2 rt : ℕ)
    → reg_of (core_now list) rt < 2 ^ 64 → op_of (core_now list) op1 crn crm op2 ≡ Op.Zva
    → (sys_of (core_now list) m.base m.bytes op1 crn crm op2 rt).answer ≡ Ok tt
    → (pa : ℕ)
    × (((translate_of (core_now list) (memory_of m) (align_down (reg_of (core_now list) rt) 6) Write).answer ≡ Ok pa)
    × Zeroed m.base pa m.bytes (sys_ram (core_now list) m.base m.bytes op1 crn crm op2 rt))
