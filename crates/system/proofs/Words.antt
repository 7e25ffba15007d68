-- Bits tested by AND, and the two formats of PAR_EL1, joined by OR.
use Rattle.std.proofs.Common.{◌≡◌, refl, not, ℕ, ◌+◌, ◌*◌, ◌/◌, ◌%◌, ◌^◌, ◌<◌, ◌≤◌, Bool, sym, ap, ◌∙◌, mod-eq_of_lt, arith, rules}
use Rattle.std.proofs.Common.{subst, inl, inr, eqb-true, le-leb, leb-true}
use Rattle.std.specs.Prelude.{Option, Ok, if◌then◌else◌, true, false, ◌&&◌, ◌||◌, List, [], ◌∷◌, ◌⊎◌, ◌==◌, is_none, None}
use Rattle.std.proofs.lemmas.Bool.{lt-leb}
use Rattle.std.proofs.Math.Dec.{leb}
use Rattle.word.specs.Bits.{bit0, field}
use Rattle.sysreg.specs.declared.regs.Regime.{Regime}
use Rattle.walk.specs.Walk.{fresh_of, leaf_of, walk_of}
use Rattle.walk.proofs.WalkBounds.{fresh-leaf, status-small, walk_sound}
use Rattle.walk.specs.declared.{regime.Bank.Bank, level.Leaf.Leaf}
use Rattle.walk.specs.declared.fresh.Fresh.{Fresh}
use Rattle.walk.specs.declared.fresh.Fresh.TheVariants.{Ended}
use Rattle.walk.specs.Answers.{Walked}
use Rattle.word.proofs.RamLaws.{both}
use Rattle.sysreg.specs.declared.regs.Regime.TheVariants.{El1}
use Rattle.sysreg.specs.declared.regs.Control.{Control}
use Rattle.tlb.specs.declared.Inval.TheVariants.{Page, Asid}
use Rattle.walk.specs.Regime.{bank_of, wxn_of, stage1_on}
use Rattle.sysreg.specs.Regs.{single_priv}
use Rattle.walk.specs.Table.{Translation, table_walk}
use Rattle.walk.specs.Permission.{kind_bit, first_bit}
use Rattle.walk.proofs.Levels.{permission-bit}
use Rattle.walk.specs.declared.regime.Bank.{Bank}
use Rattle.tlb.specs.Access.{right_of}
use Rattle.system.specs.declared.decode.SysOp.TheVariants.{At, Tlbi, Undefined}
use Rattle.system.specs.Par.{success, abort, kind_of, permits, leaf_par, walk_par, par_in, at_par, access_of, checked, result_par}
use Rattle.system.specs.Par.{at_walk, at_flat, granted}
use Rattle.system.specs.declared.{decode.AtForm.AtForm, decode.SysOp.SysOp}
use Rattle.system.specs.Decode.{Row, table, absent, encodes, look_up, named, operation, refusal, ruled, decode_of, TlbiFields}
use Rattle.system.specs.Tlbi.{what_of, tlbi_of}
use Rattle.system.specs.declared.decode.AtForm.{AtForm}
use lib.Bits.{bit_and, bit_or, and_mask, and_block, and_le_r, or_shifted, or_shifted_r}
use lib.Pow.{split}
use mir.Val.{bool_byte}

-- a fault
pub fault_word : (fsc : ℕ) → fsc < 2 ^ 8 → bit_or (bit_or 1 (fsc * 2 % 2 ^ 64)) 0x800 ≡ abort fsc
unfolding abort
fault_word fsc h =
    let m : fsc * 2 % 2 ^ 64 ≡ fsc * 2 = mod-eq_of_lt (omega arith) in
    rw (m, or_shifted_r fsc 1 1 (omega arith), or_shifted_r 1 11 (fsc * 2 + 1) (omega arith)) (omega arith)

-- the status of a permission fault
pub permission_status : (level : ℕ) → level ≤ 3 → bit_or 12 level ≡ 12 + level
permission_status level h = or_shifted 3 2 level (omega arith)

-- PA<47:12>
pa_masked : (pa : ℕ) → bit_and pa 0xFFFF_FFFF_F000 ≡ field pa 12 36 * 2 ^ 12
pa_masked pa =
    let z = and_le_r (pa % 2 ^ 12) 0 in
    let e = and_block 12 (pa / 2 ^ 12) 0xF_FFFF_FFFF (pa % 2 ^ 12) 0 (omega arith) (omega arith) in
    let m = and_mask (pa / 2 ^ 12) 36 in
    ap (λ (n : ℕ). bit_and n 0xFFFF_FFFF_F000) (sym (split pa 12)) ∙ e ∙ omega (arith, z, m)

-- a translation: its fields do not meet
fields_join : (a p n s : ℕ) → a < 2 ^ 8 → p < 2 ^ 36 → n < 2 → s < 2 ^ 2
    → bit_or (bit_or (bit_or (bit_or (a * 2 ^ 56) (p * 2 ^ 12)) 0x800) (n * 2 ^ 9)) (s * 2 ^ 7)
    ≡ a * 2 ^ 56 + p * 2 ^ 12 + 2 ^ 11 + n * 2 ^ 9 + s * 2 ^ 7
fields_join a p n s ha hp hn hs =
    let e : a * 2 ^ 56 + p * 2 ^ 12 ≡ (a * 2 ^ 44 + p) * 2 ^ 12 = omega arith in
    let f : (a * 2 ^ 44 + p) * 2 ^ 12 + 0x800 ≡ (a * 2 ^ 45 + p * 2 + 1) * 2 ^ 11 = omega arith in
    let g : (a * 2 ^ 45 + p * 2 + 1) * 2 ^ 11 + n * 2 ^ 9 ≡ (a * 2 ^ 47 + p * 2 ^ 3 + 2 ^ 2 + n) * 2 ^ 9 = omega arith in
    rw (
      or_shifted a 56 (p * 2 ^ 12) (omega arith),
      e,
      or_shifted (a * 2 ^ 44 + p) 12 0x800 (omega arith),
      f,
      or_shifted (a * 2 ^ 45 + p * 2 + 1) 11 (n * 2 ^ 9) (omega arith),
      g,
      or_shifted (a * 2 ^ 47 + p * 2 ^ 3 + 2 ^ 2 + n) 9 (s * 2 ^ 7) (omega arith),
    )
    (omega arith)

pub success_word : (attr pa : ℕ) (ns : Bool) (sh : ℕ) → attr < 256 → sh < 4
    → bit_or (bit_or (bit_or (bit_or (attr * 2 ^ 56 % 2 ^ 64) (bit_and pa 0xFFFF_FFFF_F000)) 0x800) (bool_byte ns * 2 ^ 9)) (sh * 2 ^ 7 % 2 ^ 64) ≡ success attr pa ns sh
unfolding success
success_word attr pa ns sh ha hs = grind (arith, mod-eq_of_lt, pa_masked, fields_join)

-- The leaf of a fresh answer is of level 3 at most.
pub low_leaf : (s : Bank) (r : Regime) (va : ℕ) (memory : ℕ → Option ℕ) (x : Fresh) (w : Walked)
    (leaf : Leaf) → x ≡ fresh_of s r va memory → x ≡ Ended w → w ≡ Ok leaf → leaf.level ≤ 3
low_leaf s r va memory x w leaf ex ew m = (fresh-leaf s r va memory x w leaf ex ew m).level-high

-- Laws of the table, and of what is decoded by it.
abbrev pub every : (Row → Bool) → List Row → Bool
every p [] = true
every p (r ∷ rs) = p r && every p rs

implied : (a b : Bool) → a ≡ true → (not a || b) ≡ true → b ≡ true
implied a b e h = grind arith

either : (a b : Bool) → (a || b) ≡ true → (a ≡ true) ⊎ (b ≡ true)
either a b e = grind arith

-- what is found is a row of the list that has the encoding, or none
module _ (P : Row → Type 0) (p : Row → Bool) (op1 crn crm op2 : ℕ) (good : (r : Row) → op1 ≡ r.op1 → crn ≡ r.crn → p r ≡ true → P r)
    (other : P absent) where
  found : (rs : List Row) → every p rs ≡ true → P (look_up rs op1 crn crm op2)
  found [] e = other
  found (r ∷ rs) e =
      let k = both (p r) (every p rs) e in
      elim (encodes r op1 crn crm op2) as (λ b. encodes r op1 crn crm op2 ≡ b → P (if b then r else look_up rs op1 crn crm op2))
      [ true ↦ λ n. good r (grind arith) (grind arith) k.0 | false ↦ λ n. found rs k.1 ] refl

-- an encoding that names nothing is refused at every level
pub absent-refused : (level : ℕ) → refusal level ≡ ruled level absent
absent-refused level = grind arith

module _ (level op1 crn crm op2 : ℕ) where
  -- from EL1 and from op1 / 2 up, what is named is what is decoded
  pub at_level : 1 ≤ level → op1 / 2 ≤ level → operation (named op1 crn crm op2).name ≡ decode_of level op1 crn crm op2
  unfolding decode_of named
  at_level o h = search (rules, le-leb, inl, leb-true, inr, both, eqb-true)

  -- below, everything is refused but the rows that p names, where p names no row of this op1 and CRn
  refused_but : (p : Row → Bool) → every (λ r. p r || (leb 1 r.lowest && leb (r.op1 / 2) r.lowest)) table ≡ true
      → ((r : Row) → op1 ≡ r.op1 → crn ≡ r.crn → p r ≡ true → ⊥) → (level < 1) ⊎ (level < op1 / 2) → decode_of level op1 crn crm op2 ≡ refusal level
  unfolding decode_of named
  refused_but p all n h = search (rules, found, either, absent-refused, lt-leb, inl, inr, both, leb-true)

  -- everything but op1 3
  pub too-low : (op1 ≡ 3 → ⊥) → (level < 1) ⊎ (level < op1 / 2) → decode_of level op1 crn crm op2 ≡ refusal level
  too-low n h = refused_but (λ r. r.op1 == 3) refl (λ r a b e. n (a ∙ eqb-true r.op1 3 e)) h

  -- CRn 7 and 8 alone name an operation
  pub other_crn : (crn ≡ 7 → ⊥) → (crn ≡ 8 → ⊥) → decode_of level op1 crn crm op2 ≡ refusal level
  unfolding decode_of named
  other_crn n m = search rules

  -- what is decoded is a refusal, or the operation of a row that has the encoding's op1 and CRn
  decoded : (P : SysOp → Type 0) (p : Row → Bool) → ((r : Row) → op1 ≡ r.op1 → crn ≡ r.crn → p r ≡ true → P (operation r.name)) → P (refusal level)
      → every p table ≡ true → P (decode_of level op1 crn crm op2)
  unfolding decode_of named
  decoded P p good refused all = found (λ r. P (ruled level r)) p op1 crn crm op2 (λ r a b t. go r (leb r.lowest level) (good r a b t)) (subst P (absent-refused level) refused) table all
    where
      go : (r : Row) (t : Bool) → P (operation r.name) → P (if t then operation r.name else refusal level)
      go r true x = x
      go r false x = refused

-- of each operation: whether it is Undefined, a TLBI, and a translation as EL0's in the regime of EL1 or none
defined : SysOp → Bool
defined Undefined = false
defined _ = true

is_tlbi : SysOp → Bool
is_tlbi Tlbi = true
is_tlbi _ = false

abbrev UserInEl1 : SysOp → Type 0
UserInEl1 (At f) = f.user ≡ true → f.regime ≡ El1
UserInEl1 _ = Unit

user_fits : SysOp → Bool
user_fits (At f) = not f.user || not (single_priv f.regime)
user_fits _ = true

pub undefined-el0 : (level op1 crn crm op2 : ℕ) → decode_of level op1 crn crm op2 ≡ Undefined → level ≡ 0
unfolding defined
undefined-el0 level op1 crn crm op2 =
    decoded level op1 crn crm op2 (λ o. o ≡ Undefined → level ≡ 0) (λ r. defined (operation r.name)) (λ r a b t e. grind arith) (λ e. grind arith) refl

pub tlbi-fields : (level op1 crn crm op2 : ℕ) → decode_of level op1 crn crm op2 ≡ Tlbi → TlbiFields op1 crn
unfolding is_tlbi
tlbi-fields level op1 crn crm op2 =
    decoded level op1 crn crm op2 (λ o. o ≡ Tlbi → TlbiFields op1 crn)
    (λ r. not (is_tlbi (operation r.name)) || (r.crn == 8 && (r.op1 == 0 || (r.op1 == 4 || r.op1 == 6)))) (λ r a b t e. grind arith) (λ e. grind arith) refl

pub user-el1 : (level op1 crn crm op2 : ℕ) (f : AtForm) → decode_of level op1 crn crm op2 ≡ At f → f.user ≡ true → f.regime ≡ El1
unfolding user_fits
user-el1 level op1 crn crm op2 f e =
    subst UserInEl1 e
    (decoded level op1 crn crm op2 UserInEl1 (λ r. user_fits (operation r.name)) (λ r a b t. grind arith) (grind arith) refl)

pub ruleset refusals = (too-low)

-- Laws of what a TLBI invalidates.
pub asid-small : (c : Control) (op1 crm op2 x n : ℕ) → tlbi_of c op1 crm op2 x ≡ Asid n → n < 2 ^ 16
unfolding tlbi_of what_of
asid-small c op1 crm op2 x n e = grind arith

pub page-operand : (c : Control) (op1 crm op2 x page : ℕ) → tlbi_of c op1 crm op2 x ≡ Page page → page ≡ x
unfolding tlbi_of what_of
page-operand c op1 crm op2 x page e = grind arith

-- Laws of PAR_EL1 after an AT.
pub par-f : (c : Control) (mair : ℕ) (f : AtForm) (va : ℕ) (memory : ℕ → Option ℕ)
    → bit0 (at_par c mair f va memory)
    ≡ (if stage1_on (bank_of c f.regime) f.regime then not (granted f (at_walk c f va memory)) else is_none (at_flat c f va))
unfolding at_par par_in fresh_of leaf_par abort success
par-f c mair f va memory = search rules

-- with stage 1 off: the address that is too large is an address size fault of level 0, any other is PA
pub flat-fault : (c : Control) (mair : ℕ) (f : AtForm) (va : ℕ) (memory : ℕ → Option ℕ) → stage1_on (bank_of c f.regime) f.regime ≡ false
    → at_flat c f va ≡ None → at_par c mair f va memory ≡ 0x801
unfolding at_par par_in fresh_of abort
flat-fault c mair f va memory off none = rw (off, none)

pub par-small : (c : Control) (mair : ℕ) (f : AtForm) (va : ℕ) (memory : ℕ → Option ℕ) → at_par c mair f va memory < 2 ^ 64
unfolding at_par par_in fresh_of leaf_par success abort
par-small c mair f va memory = search (rules, walk_sound, status-small)

-- PAR_EL1 by the manual's own walk and permission check
module _ (s : Bank) (f : AtForm) where
  bits : (w u : Bool) → right_of (kind_of w) u ≡ kind_bit (access_of w) + first_bit (not u)
  bits w u = grind arith

  permits-checked : (t : Translation) → permits f (leaf_of (single_priv f.regime) (wxn_of s) t) ≡ checked s f t
  permits-checked t = search (rules, bits, permission-bit)

  pub manual-par : (mair : ℕ) (n : Bool) (va : ℕ) (memory : ℕ → Option ℕ)
      → walk_par mair n f (walk_of s f.regime va memory) ≡ result_par s f mair n (table_walk s f.regime va memory)
  unfolding walk_of leaf_par result_par
  manual-par mair n va memory = grind (arith, permits-checked)
