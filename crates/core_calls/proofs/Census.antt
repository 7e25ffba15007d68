-- The promise of a census, refused or done.
use Rattle.std.specs.Prelude.{List, ℕ, zero, suc, length}
use Rattle.std.proofs.Common.{◌≡◌, refl, sym, ap, ◌∙◌, arith}
use Rattle.word.specs.Ram.{word_at}
use Rattle.walk.specs.Regime.{bank_of}
use Rattle.sysreg.specs.Regs.{regime_of}
use Rattle.walk.specs.declared.{regime.Bank.Bank}
use Rattle.sysreg.specs.declared.regs.Regime.{Regime}
use Rattle.census.specs.Count.{census_of}
use Rattle.cpu.specs.Check.{missed_of}
use Rattle.cpu.specs.declared.call.Call.TheVariants.{Census}
use Rattle.cpu.specs.declared.call.Reply.TheVariants.{Refused}
use Rattle.cpu.specs.declared.Core.{Core}
use Rattle.cpu.specs.Step.{ends, refused_or, missed_by, run_of, step_of, counts_of, counts_after}
use Rattle.history.specs.Calls.{Lent}
use Rattle.history.specs.Instance.{window_of, real}
use Rattle.transparency.specs.Machine.{machine}
use Rattle.transparency.specs.Beside.{core_after, bare_after}
use Rattle.transparency.specs.Replies.{bare_reply}
use Rattle.transparency.specs.Census.{bare_counts}
use Rattle.transparency.proofs.Census.{census-after}
use Rattle.transparency.proofs.Looks.{look-reply}
use Rattle.call_words.specs.Replies.{code_by}
use Rattle.core_calls.specs.Promise.{CensusPromise}

module _ (first pages base : ℕ) (ram : List ℕ) (c : Core) (old : List ℕ) where
  missed : ℕ
  missed = missed_by c base ram (Census first pages)

  code_is : missed ≡ code_by (step_of c base ram (Census first pages)).reply
  unfolding missed step_of run_of
  code_is = go (missed_by c base ram (Census first pages))
    where
      go : (n : ℕ) → n ≡ code_by (refused_or n (λ k. ends c (Refused k)) (run_of c base ram (Census first pages))).reply
      go zero = refl
      go (suc n) = refl

  after : (n : ℕ) (counts : List ℕ) → n ≡ code_by (step_of c base ram (Census first pages)).reply
      → counts ≡ counts_after c base ram first pages old → (list : List (Lent real machine)) → c ≡ core_after list
      → (counts ≡ bare_counts (bare_after list) (window_of base ram) first pages old)
      × (n ≡ code_by (bare_reply (bare_after list) (window_of base ram) (Census first pages)).reply)
  after n counts en ec list made = (
    ec ∙ ap (λ (d : Core). counts_after d base ram first pages old) made ∙ census-after list (window_of base ram) first pages old,
    en ∙ ap (λ (d : Core). code_by (step_of d base ram (Census first pages)).reply) made
        ∙ ap code_by (look-reply list (window_of base ram) (Census first pages) refl),
  )

  pub promise-refused : (n : ℕ) → n ≡ missed_of c.privilege.level base (length ram) (Census first pages) → (n ≡ 0 → ⊥)
      → CensusPromise first pages base ram c n old old
  unfolding missed counts_after
  promise-refused n e some =
      record { code = e ∙ code_is; counted = stays; unchanged = λ h. refl; faithful = after n old (e ∙ code_is) stays }
    where
      stays : old ≡ counts_after c base ram first pages old
      stays = go (missed_by c base ram (Census first pages)) (λ z. some (e ∙ z))
        where
          go : (k : ℕ) → (k ≡ 0 → ⊥) → old ≡ refused_or k (λ j. old) (counts_of c base ram first pages)
          go zero ne = absurd (ne refl)
          go (suc k) ne = refl

  pub promise-done : (n : ℕ) → n ≡ missed_of c.privilege.level base (length ram) (Census first pages) → n ≡ 0
      → (r : Regime) → r ≡ regime_of c.privilege.level
      → (s : Bank) → s ≡ bank_of c.control r → (counts : List ℕ) → counts ≡ census_of s r (word_at base ram 8) first pages
      → CensusPromise first pages base ram c 0 old counts
  unfolding missed counts_after
  promise-done n e none r er s es counts ec =
      record { code = sym none ∙ e ∙ code_is; counted = done; unchanged = λ h. absurd (omega arith); faithful = after 0 counts (sym none ∙ e ∙ code_is) done }
    where
      done : counts ≡ counts_after c base ram first pages old
      done = rw (sym e ∙ none) (ec ∙ rw (es, er))
