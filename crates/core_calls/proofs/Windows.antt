-- The promise of windows, and what they are on every core.
use Rattle.std.specs.Prelude.{◌≡◌, refl, List, ℕ, zero, suc, ◌<◌, ◌+◌, ◌*◌, false, Bool, Ok, Err}
use Rattle.std.proofs.Common.{sym, ap, ◌∙◌, arith}
use Rattle.cpu.specs.Bare.{Bare, with_privilege}
use Rattle.cpu.specs.Cases.{at}
use Rattle.cpu.specs.Check.{missed_of}
use Rattle.cpu.specs.Step.{run_of, step_of}
use Rattle.cpu.specs.declared.Core.{Core}
use Rattle.word.specs.Ram.{word_at, little_endian, bytes_of}
use Rattle.word.specs.Tables.{table}
use Rattle.walk.specs.Regime.{pa_size, untagged, bank_of}
use Rattle.walk.specs.Table.{range_of, params_of, table_next, leaf_permissions, leaf_translation, leaf_result, level_next, descaddr, lookup_next}
use Rattle.walk.specs.Table.{walk_from, walk_range, table_walk}
use Rattle.walk.specs.Walk.{walk_of, fresh_of}
use Rattle.sysreg.specs.Regs.{regime_of}
use Rattle.sysreg.specs.declared.regs.Regime.{Regime}
use Rattle.sysreg.specs.declared.regs.Regime.TheVariants.{El1}
use Rattle.tlb.specs.Translate.{fresh_answer}
use Rattle.tlb.specs.Model.{as_user}
use Rattle.tlb.specs.declared.access.Kind.TheVariants.{Write}
use Rattle.windows.specs.Pages.{page_answer}
use Rattle.windows.specs.List.{list_of}
use Rattle.windows.specs.Windows.{Found, found_in, windows_of}
use Rattle.windows.specs.declared.WindowsError.TheVariants as Error
use Rattle.history.specs.Instance.{window_of, memory_of, real}
use Rattle.history.specs.World.{uncached}
use Rattle.history.proofs.Fresh.{uncached-fresh}
use Rattle.transparency.specs.Events.{plain_in}
use Rattle.transparency.proofs.Beside.{two-cores}
use Rattle.core_calls.specs.Windows.{found_number, found_words, windows_in, bare_windows, windows_after, privileged, pages_as_stores, one_step}
use Rattle.core_calls.specs.WindowsRows.{WindowsRows}
use Rattle.core_calls.specs.Promise.{WindowsPromise}

pub windows-after : windows_after
windows-after list m bytes = ap (λ (b : Bare). bare_windows b m bytes) (two-cores list)

stays : (f : Found) (n : ℕ) (old words : List ℕ) → n ≡ found_number f → words ≡ found_words f old → 0 < n → n < 10 → words ≡ old
stays (Ok pair) n old words en ew low high = absurd (omega arith)
stays (Err (Error.Page e)) n old words en ew low high = absurd (omega arith)
stays (Err (Error.List why)) n old words en ew low high = ew
stays (Err (Error.Check check)) n old words en ew low high = ew

pub promise : (bytes : List ℕ) (base : ℕ) (ram : List ℕ) (c : Core) (n : ℕ) (old words : List ℕ) (found : Found)
    → found ≡ windows_in c base ram bytes → n ≡ found_number found → words ≡ found_words found old
    → WindowsPromise bytes base ram c n old words
promise bytes base ram c n old words found e en ew =
    record {
      code = en ∙ ap found_number e;
      told = ew ∙ ap (λ (f : Found). found_words f old) e;
      unchanged = stays found n old words en ew;
      faithful = λ list made.
          let same = e ∙ ap (λ (d : Core). windows_in d base ram bytes) made ∙ windows-after list (window_of base ram) bytes in
          (en ∙ ap found_number same, ew ∙ ap (λ (f : Found). found_words f old) same);
    }

pub pages-as-stores : pages_as_stores
pages-as-stores b m w j = go b.privilege.level
  where
    own : (r : Regime) (n : ℕ) → as_user r (suc n) false Write ≡ false
    own El1 n = refl
    own _ n = refl

    go : (level : ℕ)
        → page_answer (bank_of b.control (regime_of level)) (regime_of level) (memory_of m) w j
        ≡ uncached real (plain_in (with_privilege b (privileged level) false)) m Write (w.start + 4096 * j)
    go zero = sym (uncached-fresh (plain_in (with_privilege b 1 false)) m Write (w.start + 4096 * j))
    go (suc n) =
        ap (λ (user : Bool). fresh_answer (bank_of b.control (regime_of (suc n))) (regime_of (suc n)) user Write (w.start + 4096 * j) (memory_of m))
        (sym (own (regime_of (suc n)) n))
        ∙ sym (uncached-fresh (plain_in (with_privilege b (suc n) false)) m Write (w.start + 4096 * j))

pub one-step : one_step
unfolding step_of run_of missed_of windows_of found_in
one-step c base ram bytes = grind arith

-- the rows, computed
pub rows : WindowsRows
unfolding windows_of found_in list_of fresh_of walk_of table_walk walk_range walk_from lookup_next level_next leaf_result leaf_translation leaf_permissions
    table_next descaddr range_of params_of pa_size fresh_answer word_at little_endian bytes_of table at untagged
rows = record { shared = refl; apart = refl; faults = refl; start = refl; count = refl; ram = refl; level = refl }
