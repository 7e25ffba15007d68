-- Two histories that leave a page to one ASID give one answer.
use Rattle.std.specs.Prelude.{◌≡◌, ℕ, ◌+◌, ◌-◌, ◌≤◌, ◌<◌, length, get_or}
use Rattle.std.proofs.Common.{arith}
use mathlib.Core.List.{List, Memᴰ}
use Rattle.word.specs.Ram.{word_at}
use Rattle.walk.specs.Regime.{bank_of}
use Rattle.walk.specs.Walk.{fetches_of}
use Rattle.walk.proofs.Loop.{bytes-agree}
use Rattle.tlb.specs.Tlb.{fresh}
use Rattle.tlb.specs.Asks.{Ask, address_of}
use Rattle.history.specs.World.{World, Laws, Plain, regime_now, untag_now}
use Rattle.history.specs.History.{Event, plain_run, tlb_run, answer_of}
use Rattle.history.proofs.Corollaries.{one-settled}
use Rattle.history.specs.Instance.{window_of, real, fresh_plain}
use Rattle.history.proofs.Instance.{real-laws, fresh-asid}
use Rattle.history.specs.Neighbours.{OwnFor}
use Rattle.history.proofs.Neighbours.{own-settled}

module _ (w : World) where
  -- Two histories that come to the same registers, level and mark, with RAMs now under which the address has one walk.
  module _ (laws : Laws w) (c₀ : Plain w) (zero-asid : w.asid c₀.regs ≡ 0) (low : c₀.privilege.level ≤ 3) (one two : List (Event w)) (m n : w.Ram)
      (a : Ask) where
    pub neighbours : plain_run w c₀ one ≡ plain_run w c₀ two
        → w.walk (plain_run w c₀ one).regs m (regime_now w (plain_run w c₀ one)) (untag_now w (plain_run w c₀ one) (address_of a))
        ≡ w.walk (plain_run w c₀ one).regs n (regime_now w (plain_run w c₀ one)) (untag_now w (plain_run w c₀ one) (address_of a))
        → OwnFor w c₀ one m a → OwnFor w c₀ two n a
        → answer_of w (plain_run w c₀ one) m a (tlb_run w c₀ one fresh) ≡ answer_of w (plain_run w c₀ two) n a (tlb_run w c₀ two fresh)
    neighbours same walks own₁ own₂ = grind (arith, one-settled, own-settled)

-- Of the real walk: RAMs of one window that agree on the bytes of each descriptor that the walk fetches.
module _ (one two : List (Event real)) (base : ℕ) (xs ys : List ℕ) (a : Ask) where
  abbrev now : Plain real
  now = plain_run real fresh_plain one

  abbrev fetched : List ℕ
  fetched =
      fetches_of (bank_of now.regs (regime_now real now)) (regime_now real now) (untag_now real now (address_of a))
      (word_at base xs 8)

  pub real-neighbours : now ≡ plain_run real fresh_plain two → length xs ≡ length ys
      → ((d : ℕ) → Memᴰ d fetched → base ≤ d → d + 8 ≤ base + length xs → (i : ℕ) → i < 8 → get_or xs (d - base + i) 0 ≡ get_or ys (d - base + i) 0)
      → OwnFor real fresh_plain one (window_of base xs) a → OwnFor real fresh_plain two (window_of base ys) a
      → answer_of real now (window_of base xs) a (tlb_run real fresh_plain one fresh)
      ≡ answer_of real (plain_run real fresh_plain two) (window_of base ys) a (tlb_run real fresh_plain two fresh)
  real-neighbours same long bytes own₁ own₂ = grind (arith, neighbours, real-laws, fresh-asid, bytes-agree)
