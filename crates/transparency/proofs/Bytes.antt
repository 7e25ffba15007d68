-- Of every core that calls reach: each byte of a load or a store is the byte at the translation of its own address, and
-- DC ZVA leaves 64 zero bytes at the translation of the aligned address and every other byte as it was. The laws are
-- the core's, of cores that are well-formed; `read_of`, `write_of`, `ram_after_write`, `sys_of` and `sys_ram` are what
-- `step_of` and `ram_after` make of a call that misses no check.
use Rattle.std.proofs.Common.{rules, sym, ap, ◌∙◌, arith}
use Rattle.std.specs.Prelude.{◌≡◌, refl, false, slice_index, Err, List, [], ◌∷◌, ◌++◌, ℕ, ◌+◌, ◌^◌, ◌≤◌, ◌<◌, Ok}
use Rattle.std.proofs.Math.ListN.{length}
use Rattle.walk.proofs.SizeLaws.{untagged-plus}
use Rattle.word.specs.Ram.{word_at}
use Rattle.tlb.specs.Access.{flat_answer}
use Rattle.tlb.specs.Answers.{Answer}
use Rattle.tlb.proofs.Cells.{flat-given, flat-fits}
use Rattle.tlb.specs.Asks.{translates}
use Rattle.tlb.specs.declared.access.Kind.{Kind}
use Rattle.tlb.specs.declared.access.Kind.TheVariants.{Read, Write}
use Rattle.cpu.specs.Bare.{Bare, fresh_bare, bare_of}
use Rattle.cpu.specs.Bytes.{Placed, placed_one, address_in}
use Rattle.cpu.specs.Core.{fresh_core, after_access}
use Rattle.cpu.specs.Memory.{translate_in, located_of, stepped_now, located_now, translate_of, ram_after_write}
use Rattle.cpu.specs.Asks.{on_now}
use Rattle.cpu.specs.OwnAddress.{byte_va, Ready}
use Rattle.cpu.proofs.ByteMeaning.{load_byte, store_byte, store-others, load-flat, store-flat}
use Rattle.cpu.proofs.OpLaws.{write-leaves}
use Rattle.cpu.proofs.ZeroMeaning.{zva-zeroes}
use Rattle.cpu.specs.declared.{Core.Core, place.Place.Place}
use Rattle.cpu.specs.declared.place.Place.TheVariants.{Whole}
use Rattle.cpu.specs.Check.{missed_of}
use Rattle.cpu.specs.Step.{run_of, step_of}
use Rattle.cpu.specs.declared.call.Call.TheVariants.{Translate}
use Rattle.history.specs.World as World
use Rattle.history.proofs.Corollaries.{off-settled}
use Rattle.history.specs.Calls.{Fed, lent_of, Shown, showing}
use Rattle.history.proofs.EveryReply.{run-one, bare-one, shown-one}
use Rattle.history.specs.Instance.{Ram, real}
use Rattle.history.specs.Window.{memory_of}
use Rattle.history.proofs.Instance.{real-laws}
use Rattle.transparency.specs.Bare.{missed_in, bare_step}
use Rattle.transparency.specs.Events.{plain_in}
use Rattle.transparency.specs.Machine.{machine}
use Rattle.transparency.proofs.Beside.{two-cores}
use Rattle.transparency.specs.Direct.{core_now, bare_now, SettledAt}
use Rattle.transparency.proofs.Direct.{begins, one-ask}
use Rattle.transparency.proofs.ModelCalls.{every-core-well}
use Rattle.transparency.specs.Bytes as Statement

-- WITH STAGE 1 OFF every translation is of the untagged address itself, or too large

module _ (list : List (Fed real machine)) (seen : Shown real machine fresh_core list) (m : Ram) where
  off-here : World.on_now real (plain_in (bare_now list)) ≡ false → (va : ℕ) → SettledAt list m va
  off-here off va = grind (arith, off-settled, real-laws, begins)

  pub flat-after : Statement.flat_after list m
  unfolding translate_of stepped_now translate_in
  flat-after off kind va = one-ask list seen m (translates kind va) (off-here off va) ∙ rw off

  -- a translation after the list is a call that misses no check
  passed : (m.base + length m.bytes ≤ 2 ^ 64) → (kind : Kind) (va : ℕ) → missed_in (bare_of (core_now list)) m (Translate kind va) ≡ 0
  unfolding missed_of
  passed room kind va = grind (arith, length, every-core-well)

-- EACH BYTE

-- a translation leaves the state without a cache
unmoved : (b : Bare) (m : Ram) (kind : Kind) (va : ℕ) → bare_step b m (Translate kind va) ≡ b
unmoved b m kind va = grind arith

-- what a law of bytes asks of the core, the window and the access
pub ready-after : (list : List (Fed real machine)) (seen : Shown real machine fresh_core list) (m : Ram) (va n : ℕ) (kind : Kind)
    → va < 2 ^ 64 → n ≤ 8 → Statement.Within44 list m va n kind → m.base + length m.bytes ≤ 2 ^ 64 → Ready (core_now list) m.base m.bytes va n kind
unfolding step_of run_of
ready-after list seen m va n kind small few near room =
    record {
      well = (every-core-well (lent_of real machine list)).cache;
      level = (every-core-well (lent_of real machine list)).level;
      address = small;
      bytes = few;
      window = room;
      flat = λ off pa i e h k. rw next at (flat-after more more-seen m (still ∙ same ∙ off) kind (byte_va va i) ∙ ap flat_answer (later i) ∙ onward off pa i e k);
    }
  where
    same : World.on_now real (plain_in (bare_now list)) ≡ on_now (core_now list)
    same = ap (λ (b : Bare). World.on_now real (plain_in b)) (sym (two-cores (lent_of real machine list)))

    -- the list with this translation
    one : Fed real machine
    one = showing real machine (core_now list) (record { ram = m; call = Translate kind va })

    more : List (Fed real machine)
    more = list ++ one ∷ []

    more-seen : Shown real machine fresh_core more
    more-seen = shown-one real machine fresh_core list one seen refl

    next : core_now more ≡ (translate_of (core_now list) (memory_of m) va kind).core
    next = run-one real machine fresh_core list one ∙ rw (passed list seen m room kind va)

    untag : ℕ → ℕ
    untag = World.untag_now real (plain_in (bare_now list))

    later : (i : ℕ) → World.untag_now real (plain_in (bare_now more)) (byte_va va i) ≡ untag (byte_va va i)
    later i = ap (λ (b : Bare). World.untag_now real (plain_in b) (byte_va va i)) (bare-one real machine fresh_bare list one ∙ unmoved (bare_now list) m kind va)

    -- byte i's untagged address lies as far behind the first
    onward : on_now (core_now list) ≡ false → (pa i : ℕ) → (translate_of (core_now list) (memory_of m) va kind).answer ≡ Ok pa → i < n
        → flat_answer (untag (byte_va va i)) ≡ Ok (pa + i)
    onward off pa i e k =
        let own = flat-given (untag va) pa (sym (flat-after list seen m (same ∙ off) kind va) ∙ e) in
        let is : untag va ≡ pa = own.0 in
        let fits : pa + n ≤ 2 ^ 44 = near (same ∙ off) pa e in
        ap flat_answer (untagged-plus _ _ va i small (omega arith) ∙ ap (λ (u : ℕ). u + i) is) ∙ flat-fits (pa + i) (omega arith)

    still : World.on_now real (plain_in (bare_now more)) ≡ World.on_now real (plain_in (bare_now list))
    still = ap (λ (b : Bare). World.on_now real (plain_in b)) (bare-one real machine fresh_bare list one ∙ unmoved (bare_now list) m kind va)

-- byte i of what a load answers is the byte of RAM at the translation of its own address
pub load-byte-after : Statement.load_byte_after
load-byte-after list seen m va n v i small few near room bytes e h =
    load_byte (core_now list) m.base m.bytes va n v i (ready-after list seen m va n Read small few near room) bytes e h

-- after a store that is done, the byte of RAM at the translation of byte i's own address is byte i of the value; of two
-- bytes at one place the later
pub store-byte-after : Statement.store_byte_after
store-byte-after list seen m va n v i small few near room e h = search (rules, store_byte, ready-after)

-- and every byte that is at the translation of none of its bytes' own addresses stays
pub store-others-after : Statement.store_others_after
store-others-after list seen m va n v k small few near room h none = search (rules, store-others, ready-after)

-- with stage 1 off an access lies whole from its first byte's translation on
on-same : (list : List (Fed real machine)) → World.on_now real (plain_in (bare_now list)) ≡ on_now (core_now list)
on-same list = ap (λ (b : Bare). World.on_now real (plain_in b)) (sym (two-cores (lent_of real machine list)))

pub flat-load-after : Statement.flat_load_after
flat-load-after list seen m va n pa off room bytes e inside = grind (arith, load-flat, two-cores)

pub flat-store-after : Statement.flat_store_after
flat-store-after list seen m va n v pa off room e inside =
    store-flat (core_now list) m.base m.bytes va n v pa (sym (on-same list) ∙ off) room e inside

-- and changes no other byte
module _ (c : Core) (base : ℕ) (ram : List ℕ) (va n v k : ℕ) (off : on_now c ≡ false) where
  abbrev first_answer : Answer
  first_answer = (translate_of c (word_at base ram 8) va Write).answer

  abbrev Placing : Placed → Type 0
  Placing x = (located_now c (word_at base ram 8) va n Write).placed ≡ x

  placing : (a : Answer) → first_answer ≡ a → Placing (placed_one va a)
  unfolding translate_of stepped_now located_now located_of after_access
  placing a h1 = grind arith

  flat-leaves : ((i pa : ℕ) → i < n → first_answer ≡ Ok pa → pa + i ≡ base + k → ⊥)
      → slice_index (ram_after_write c base ram va n v) k ≡ slice_index ram k
  flat-leaves none = write-leaves c base ram va n v k (λ place p i l q. go first_answer refl place (sym (placing first_answer refl) ∙ p) i l q)
    where
      go : (a : Answer) → first_answer ≡ a → (place : Place) → placed_one va a ≡ Ok place → (i : ℕ) → i < n → base + k ≡ address_in place i → ⊥
      go (Ok pa) e place p i l q =
          let same : Whole pa ≡ place = cc in
          none i pa l e (ap (λ (x : Place). address_in x i) same ∙ sym q)
      go (Err f) e place p i l q = let z : ◌≡◌ {A = ℕ} 0 1 = cc in absurd (omega arith)

pub flat-others-after : Statement.flat_others_after
flat-others-after list seen m va n v k off none = grind (arith, flat-leaves, on-same)

-- DC ZVA that is done
pub zva-after : Statement.zva_after
zva-after list seen m op1 crn crm op2 rt small named e = grind (arith, zva-zeroes, every-core-well)
