-- What an access reads: of one page its translation's descriptors, of two pages by their hints none.
use Rattle.std.proofs.Common.{rules, arith}
use Rattle.std.specs.Prelude.{◌≡◌, ◌≤◌, Bool, true, false, ◌&&◌, ℕ, Option, Some}
use Rattle.tlb.specs.Translate.{hint_in, no_work}
use Rattle.tlb.specs.declared.{access.Kind.Kind, work.Work.Work}
use Rattle.cpu.specs.Asks.{on_now}
use Rattle.cpu.specs.Bytes.{in_page, next_page, crosses}
use Rattle.cpu.specs.Work.{translate_work, access_work}
use Rattle.cpu.specs.declared.Core.{Core}

pub and-false : (x : Bool) → x && false ≡ false
and-false x = grind arith

module _ (c : Core) (memory : ℕ → Option ℕ) (va n : ℕ) (kind : Kind) where
  pub one-reads : n ≤ in_page va → (k : Work) → k ≡ translate_work c memory va kind no_work → k ≡ access_work c memory va n kind no_work
  unfolding translate_work access_work
  one-reads near k e = search rules

  pub two-read-none : (pa pa2 : ℕ) → crosses (on_now c) va n ≡ true → hint_in c.privilege va kind c.tlb ≡ Some pa
      → hint_in c.privilege (next_page va) kind c.tlb ≡ Some pa2 → no_work ≡ access_work c memory va n kind no_work
  unfolding access_work
  two-read-none pa pa2 k h h2 = grind arith
