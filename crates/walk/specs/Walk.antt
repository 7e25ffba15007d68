-- The walk as the code's own types hold it: what is left of `Table`'s result once the permission byte of `Permission` stands for the attributes.
use Rattle.std.specs.Prelude.{Bool, not, ℕ, Option, Ok, Err, if◌then◌else◌, ◌==◌, nat_lt, ◌+◌, ◌-◌, ◌%◌, ◌^◌, Some, None, ◌≡◌, zero, suc, List, []}
use Rattle.std.specs.Prelude.{◌∷◌, length}
use Rattle.sysreg.specs.Regs.{single_priv}
use Rattle.sysreg.specs.declared.regs.Regime.{Regime}
use Rattle.word.specs.Bits.{field}
use Rattle.walk.specs.Regime.{wxn_of, tbi, pa_max, stage1_on, untagged}
use Rattle.walk.specs.Table.{Translation, Result, mapped, faults, status_of, table_walk, startlevel, entered, Lookup, Next, deeper, ends}
use Rattle.walk.specs.Table.{first_lookup, range_of, params_of, descaddr, lookup_next}
use Rattle.walk.specs.Permission.{permission_byte}
use Rattle.walk.specs.declared.{regime.Bank.Bank, level.Leaf.Leaf, fresh.Fresh.Fresh, range.Range.Range, level.Params.Params}
use Rattle.walk.specs.Answers.{Walked}
use Rattle.walk.specs.declared.fresh.Fresh.TheVariants.{Flat, Ended}

-- a leaf keeps the output address, the permission byte, the level, whether it holds for every ASID, and its descriptor. M1 (docs/DIFFERENCES.md): in
-- Secure EL1&0 NSTable would make it hold for one ASID alone
abbrev pub leaf_of : Bool → Bool → Translation → Leaf
leaf_of singlepriv wxn t =
    record {
      oa = t.address;
      desc = t.descriptor;
      perms = permission_byte singlepriv wxn t.perms;
      level = t.level;
      global = not t.not_global;
    }

abbrev pub walked_of : Bool → Bool → Result → Walked
walked_of singlepriv wxn (mapped t) = Ok (leaf_of singlepriv wxn t)
walked_of singlepriv wxn (faults f) = Err (status_of f)

unfoldable pub walk_of : Bank → Regime → ℕ → (ℕ → Option ℕ) → Walked
walk_of s r va memory = walked_of (single_priv r) (wxn_of s) (table_walk s r va memory)

-- The address with stage 1 off: DDI 0487, AArch64.TranslateAddressS1Off and AddrTop of ARMv8.0. Written from knowledge of them; the document itself
-- was not at hand.

-- the highest bit of an address that is no tag
abbrev pub addr_top : ℕ → Regime → ℕ → ℕ
addr_top tcr r va = if tbi tcr r va then 55 else 63

-- bits Top to PAMax are all zero: the address below them; else an address size fault of level 0
abbrev pub flat_of : ℕ → Regime → ℕ → Option ℕ
flat_of tcr r va = if field va pa_max (addr_top tcr r va + 1 - pa_max) == 0 then Some (va % 2 ^ pa_max) else None

-- the same of an address without its tag
abbrev pub flat_by : ℕ → Option ℕ
flat_by u = if nat_lt u (2 ^ pa_max) then Some u else None

-- How an address ends with nothing cached, from the registers of its regime and RAM: AArch64.FirstStageTranslate without a TLB and without its
-- permission check, from knowledge of ARMv8.0. AT, the page census and the core without a cache answer by it.

-- an untagged address with stage 1 off: itself, or an address size fault of level 0
abbrev pub flat_end : Option ℕ → Fresh
flat_end (Some pa) = Flat pa
flat_end None = Ended (Err 0)

-- The address is untagged; with stage 1 on it is walked, with it off it is flat.
unfoldable pub fresh_of : Bank → Regime → ℕ → (ℕ → Option ℕ) → Fresh
fresh_of s r va memory = if stage1_on s r then Ended (walk_of s r (untagged s.tcr r va) memory) else flat_end (flat_by (untagged s.tcr r va))

-- The descriptors that a walk fetches. A walk sees of memory only these, and there are few (proofs/FetchLaws.antt).
abbrev pub after_next : Next → (Lookup → List ℕ) → List ℕ
after_next (deeper l) k = k l
after_next (ends r) k = []

-- the addresses of the descriptors that the walk fetches from a table on, in order
unfoldable pub fetches_from : ℕ → (ℕ → Option ℕ) → Params → ℕ → Lookup → List ℕ
fetches_from zero memory p va l = []
fetches_from (suc n) memory p va l = descaddr p va l ∷ after_next (lookup_next memory p va l) (fetches_from n memory p va)

unfoldable pub fetches_range : Params → Range → ℕ → (ℕ → Option ℕ) → List ℕ
fetches_range p g va memory = entered p.outputsize g va (λ f. []) (fetches_from (4 - startlevel g) memory p va (first_lookup g))

-- those of the whole walk
unfoldable pub fetches_of : Bank → Regime → ℕ → (ℕ → Option ℕ) → List ℕ
fetches_of s r va memory = fetches_range (params_of s r (range_of s r va)) (range_of s r va) va memory

-- how many the fresh answer of an address takes: those of its walk, and none with stage 1 off
unfoldable pub fresh_reads : Bank → Regime → ℕ → (ℕ → Option ℕ) → ℕ
fresh_reads s r va memory = if stage1_on s r then length (fetches_of s r (untagged s.tcr r va) memory) else 0

-- two memories have one word at each address of a list
pub data Agree (m m' : ℕ → Option ℕ) : List ℕ → Type 0 where
  none : Agree m m' []
  one : {a : ℕ} {l : List ℕ} → m a ≡ m' a → Agree m m' l → Agree m m' (a ∷ l)
