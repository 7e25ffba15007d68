-- Translations go by pages: in one cache the addresses of a page get one answer but for the offset in the page, which is each address's own.
use Rattle.std.specs.Prelude.{if◌then◌else◌, ◌≡◌, ℕ, ◌+◌, ◌*◌, ◌/◌, ◌%◌, Bool, Option, Some, None, Ok, Err, true, false, ◌==◌}
use Rattle.std.proofs.Math.Path.{refl, ap}
use Rattle.std.proofs.Common.{◌∙◌, arith, rules, mod-lt}
use Rattle.std.proofs.Math.Seq.{get_or-set_same}
use Rattle.walk.specs.Answers.{Walked}
use Rattle.sysreg.specs.Regs.{regime_of}
use Rattle.walk.proofs.SizeLaws.{untagged-page, untagged-offset}
use Rattle.walk.specs.WalkBounds.{paged}
use Rattle.walk.proofs.WalkBounds.{walk_of-page}
use Rattle.walk.specs.declared.{regime.Bank.Bank}
use Rattle.tlb.specs.Access.{user_of, judged, flat_answer, may_hint, right_of, has_right}
use Rattle.tlb.specs.Answers.{Answer, Outcome}
use Rattle.tlb.proofs.Cells.{or-page, each-getD, each-imp}
use Rattle.tlb.specs.Tlb.{slot_of, no_hint, on_page, data_slot, entry_at, hint_at, get_of, serves, page_of, place_of, hint_key, hint_for, put_of}
use Rattle.tlb.specs.Live.{Aligned, WellFormed}
use Rattle.tlb.specs.Model.{Access}
use Rattle.tlb.specs.Translate.{access_of, tag_in, walked_in, looked_in, miss_in, tried_in, judged_in}
use Rattle.tlb.specs.declared.{access.Kind.Kind, access.Privilege.Privilege, entry.Entry.Entry, hint.Hint.Hint, Tlb.Tlb}
use Rattle.cpu.specs.Memory.{translate_in}
use Rattle.cpu.specs.Core.{Stepped}
use borrow.Author.Tests.{eqb-true, eq-eqb}

-- an answer as another address of its page gets it
abbrev pub answer_at : Answer → ℕ → Answer
answer_at (Ok pa) b = Ok (pa / 4096 * 4096 + b % 4096)
answer_at (Err f) b = Err f

-- so with stage 1 off
pub flat-at : (u v b : ℕ) → u / 4096 ≡ v / 4096 → v % 4096 ≡ b % 4096 → flat_answer v ≡ answer_at (flat_answer u) b
flat-at u v b e o = grind arith

module _ (a b : ℕ) where
  on-page : (pa : ℕ) → pa % 4096 ≡ 0 → on_page pa b ≡ on_page pa a / 4096 * 4096 + b % 4096
  on-page pa q = grind (arith, or-page)

  judged-page : (e : Entry) (user : Bool) (kind : Kind) → e.pa % 4096 ≡ 0 → judged e user kind b ≡ answer_at (judged e user kind a) b
  unfolding judged
  judged-page e user kind q = grind (arith, or-page)

-- IN ONE CACHE

module _ (t : Tlb) (f : WellFormed t) where
  pub hint-aligned : (i : ℕ) → (hint_at t i).pa % 4096 ≡ 0
  hint-aligned i = grind (arith, each-getD)

  pub entry-aligned : (i : ℕ) → (entry_at t i).pa % 4096 ≡ 0
  entry-aligned i = grind (arith, each-getD, each-imp)

module _ (s : Bank) (privilege : Privilege) (memory : ℕ → Option ℕ) (kind : Kind) (t : Tlb) (f : WellFormed t) (a b : ℕ)
    (same : a / 4096 ≡ b / 4096) where
  abbrev of : ℕ → Access
  of va = access_of s privilege va kind memory

  walk-page : (v w : Walked) → paged v ≡ paged w → (walked_in w (of b) t).answer ≡ answer_at (walked_in v (of a) t).answer b
  unfolding walked_in judged
  walk-page v w e = grind (arith, untagged-page, or-page)

  miss-page : (miss_in (of b) t).answer ≡ answer_at (miss_in (of a) t).answer b
  unfolding miss_in get_of
  miss-page = grind (arith, judged-page, entry-aligned, walk-page, walk_of-page, untagged-page, flat-at, untagged-offset)

  -- addresses of one page get one answer, each with its own offset
  pub step-page : (translate_in s privilege memory b kind t).answer ≡ answer_at (translate_in s privilege memory a kind t).answer b
  unfolding translate_in
  step-page = grind (arith, on-page, hint-aligned, miss-page)

-- so an address that is answered has the offset of the one that was asked for
pub step-offset : (s : Bank) (privilege : Privilege) (memory : ℕ → Option ℕ) (kind : Kind) (t : Tlb) (f : WellFormed t) (a pa : ℕ)
    → (translate_in s privilege memory a kind t).answer ≡ Ok pa → pa % 4096 ≡ a % 4096
step-offset s privilege memory kind t f a pa e = grind (arith, step-page s privilege memory kind t f a a)

-- Once a page was given an address, the cache gives it again to the same level, mark and kind, whatever the tables then hold.
-- the access of an address, whatever the tables hold, and the entry that may serve it
abbrev asking : Bank → Privilege → Kind → ℕ → Access
asking s privilege kind a = access_of s privilege a kind (λ x. None)

abbrev entry_from : Access → Tlb → Entry
entry_from x t = entry_at t (slot_of (tag_in x))

abbrev user_in : Access → Bool
user_in x = user_of x.regime x.privilege x.kind

-- The page of a is given the frame of pa, whatever the tables hold: by its hint; where hints may not serve by its entry, or with stage 1 off
-- by itself.
pub data Gives (s : Bank) (privilege : Privilege) (kind : Kind) (a pa : ℕ) (t : Tlb) : Type 0 where
  by-its-hint : may_hint privilege kind ≡ true → hint_at t (data_slot a kind) ≡ hint_for a privilege.level pa → Gives s privilege kind a pa t
  by-its-entry : may_hint privilege kind ≡ false → (asking s privilege kind a).on ≡ true
      → serves (entry_from (asking s privilege kind a) t) t (tag_in (asking s privilege kind a)) ≡ true
      → has_right (entry_from (asking s privilege kind a) t).perms (right_of kind (user_in (asking s privilege kind a))) ≡ true
      → (entry_from (asking s privilege kind a) t).pa ≡ page_of pa → Gives s privilege kind a pa t
  by_itself : may_hint privilege kind ≡ false → (asking s privilege kind a).on ≡ false
      → flat_answer (page_of (asking s privilege kind a).untagged) ≡ Ok (page_of pa) → Gives s privilege kind a pa t

module _ (s : Bank) (privilege : Privilege) (kind : Kind) where
  -- so is each address of the page
  pub gives-page : {a pa : ℕ} {t : Tlb} (b : ℕ) → a / 4096 ≡ b / 4096 → Gives s privilege kind a pa t → Gives s privilege kind b pa t
  gives-page b same g = grind (arith, untagged-page)

  module _ (memory : ℕ → Option ℕ) (t : Tlb) (a : ℕ) where
    abbrev x : Access
    x = access_of s privilege a kind memory

    abbrev step : Stepped
    step = translate_in s privilege memory a kind t

    abbrev entry : Entry
    entry = entry_from x t

    -- it answers, and gives it again
    pub given : (pa : ℕ) → Gives s privilege kind a pa t
        → (step.answer ≡ Ok (pa / 4096 * 4096 + a % 4096)) × Gives s privilege kind a pa step.tlb
    unfolding translate_in get_of judged miss_in
    given pa h = grind (arith, eq-eqb, or-page, flat-at, untagged-offset, answer_at)

    -- ONCE A PAGE WAS GIVEN AN ADDRESS
    module _ (f : WellFormed t) (pa : ℕ) (e : step.answer ≡ Ok pa) where
      by-hint : may_hint privilege kind ≡ true → Gives s privilege kind a pa step.tlb
      unfolding translate_in miss_in place_of walked_in put_of
      by-hint m = search (rules, or-page, hint-aligned, eqb-true, get_or-set_same, by-its-hint)

      by-table : may_hint privilege kind ≡ false → x.on ≡ true → serves entry t (tag_in x) ≡ false → (w : Walked) → x.walk ≡ w
          → Gives s privilege kind a pa step.tlb
      unfolding walked_in put_of judged get_of translate_in miss_in
      by-table m o q h w = search (rules, get_or-set_same, or-page, mod-lt, eq-eqb)

      by-entry : may_hint privilege kind ≡ false → x.on ≡ true → serves entry t (tag_in x) ≡ true → Gives s privilege kind a pa step.tlb
      unfolding translate_in miss_in get_of judged
      by-entry m o q = grind (arith, by-its-entry, or-page, entry-aligned)

      by-off : may_hint privilege kind ≡ false → x.on ≡ false → Gives s privilege kind a pa step.tlb
      unfolding translate_in miss_in
      by-off m o = grind (arith, by_itself)

      -- the same address is given again to every address of the page
      pub step_gives : Gives s privilege kind a pa step.tlb
      step_gives = by-mark (may_hint privilege kind) refl
        where
          by-slot : may_hint privilege kind ≡ false → x.on ≡ true → (b : Bool) → serves entry t (tag_in x) ≡ b → Gives s privilege kind a pa step.tlb
          by-slot m o true q = by-entry m o q
          by-slot m o false q = by-table m o q x.walk refl

          by-stage : may_hint privilege kind ≡ false → (on : Bool) → x.on ≡ on → Gives s privilege kind a pa step.tlb
          by-stage m true o = by-slot m o (serves entry t (tag_in x)) refl
          by-stage m false o = by-off m o

          by-mark : (m : Bool) → may_hint privilege kind ≡ m → Gives s privilege kind a pa step.tlb
          by-mark true m = by-hint m
          by-mark false m = by-stage m x.on refl
