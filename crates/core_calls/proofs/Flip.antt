-- The promise of a flip, and what it is on every core.
use Rattle.std.specs.Prelude.{◌≡◌, refl, ℕ, ◌<◌, Bool, true, false, List, Option, Some, Result, Ok}
use Rattle.std.proofs.Common.{sym, ap, ◌∙◌, arith}
use Rattle.cpu.specs.Bare.{Bare, with_privilege}
use Rattle.cpu.specs.Check.{missed_of}
use Rattle.cpu.specs.Step.{run_of, step_of}
use Rattle.cpu.specs.declared.Core.{Core}
use Rattle.walk.specs.Regime.{bank_of, pa_size, untagged}
use Rattle.sysreg.specs.Regs.{regime_of}
use Rattle.sysreg.specs.declared.regs.Regime.{Regime}
use Rattle.sysreg.specs.declared.regs.Regime.TheVariants.{El1, El2, El3}
use Rattle.tlb.specs.Translate.{fresh_answer}
use Rattle.tlb.specs.declared.{access.Kind.Kind, access.NoSuchKind.NoSuchKind}
use Rattle.tlb.specs.declared.access.Kind.TheVariants.{Read, Write, Fetch}
use Rattle.flip.specs.Flip.{flipped, first_in, first_flip, flip_of}
use Rattle.flip.specs.Question.{viewed}
use Rattle.history.specs.Instance.{Ram, window_of, memory_of, real}
use Rattle.history.specs.World.{uncached}
use Rattle.history.proofs.Fresh.{uncached-fresh}
use Rattle.call_words.specs.Ops.{kind_of, view_at, flip_call}
use Rattle.transparency.specs.Events.{plain_in}
use Rattle.transparency.proofs.Beside.{two-cores}
use Rattle.core_calls.specs.Flip.{Flipped, flip_number, flip_words, flip_in, bare_flip, level_of_view, flip_after, flip_by_words}
use Rattle.core_calls.specs.Flip.{answers_as_translated, flip_is_a_step}
use Rattle.core_calls.specs.FlipRows.{FlipRows}
use Rattle.core_calls.specs.Promise.{FlipPromise}
use Rattle.cpu.specs.Cases.{at}
use Rattle.word.specs.Ram.{word_at, little_endian, bytes_of}
use Rattle.word.specs.Tables.{table}
use Rattle.walk.specs.Table.{range_of, params_of, table_next, leaf_permissions, leaf_translation, leaf_result, level_next, descaddr, lookup_next}
use Rattle.walk.specs.Table.{walk_from, walk_range, table_walk}
use Rattle.walk.specs.Walk.{walk_of, fresh_of, fetches_from, fetches_range, fetches_of}

pub flip-after : flip_after
flip-after list m va kind user = ap (λ (b : Bare). bare_flip b m va kind user) (two-cores list)

stays : (f : Option Flipped) (n : ℕ) (old words : List ℕ) → n ≡ flip_number f → words ≡ flip_words f old → 0 < n → words ≡ old
stays f n old words en ew low = grind arith

promise : (va kind user base : ℕ) (ram : List ℕ) (c : Core) (n : ℕ) (old words ys : List ℕ) (found : Option Flipped)
    → found ≡ flip_in c base ram va kind user → n ≡ flip_number found → words ≡ flip_words found old → ys ≡ ram
    → FlipPromise va kind user base ram c n old words ys
promise va kind user base ram c n old words ys found e en ew ey =
    record {
      code = en ∙ ap flip_number e;
      told = ew ∙ ap (λ (f : Option Flipped). flip_words f old) e;
      bytes = ey;
      unchanged = stays found n old words en ew;
      faithful = λ list made.
          let same = e ∙ ap (λ (d : Core). flip_in d base ram va kind user) made ∙ flip-after list (window_of base ram) va kind user in
          (en ∙ ap flip_number same, ew ∙ ap (λ (f : Option Flipped). flip_words f old) same);
    }

-- words that name a kind and a view, and words of which one names nothing
pub named : (va kind user base : ℕ) (ram : List ℕ) (c : Core) (n : ℕ) (old words ys : List ℕ) (kinds : Result Kind NoSuchKind) (views : Option Bool)
    (k : Kind) (view : Bool) (found : Flipped)
    → kinds ≡ kind_of kind → views ≡ view_at user → kinds ≡ Ok k → views ≡ Some view
    → found ≡ flip_of c.control c.privilege.level base ram va k view → n ≡ flip_number (Some found) → words ≡ flip_words (Some found) old → ys ≡ ram
    → FlipPromise va kind user base ram c n old words ys
named va kind user base ram c n old words ys kinds views k view found ek ev ok some e en ew ey =
    promise va kind user base ram c n old words ys (Some found) (rw (← ek, ← ev, ok, some, e) refl) en ew ey

pub flip-by-words : flip_by_words
unfolding flip_call
flip-by-words c base ram va kind user k view h = grind arith

in-view : (b : Bare) (m : Ram) (va : ℕ) (kind : Kind) (r : Regime) (user : Bool)
    → uncached real (plain_in (with_privilege b (level_of_view r user) false)) m kind va
    ≡ fresh_answer (bank_of b.control r) r (viewed r user) kind va (memory_of m)
in-view b m va kind El1 true = uncached-fresh (plain_in (with_privilege b 0 false)) m kind va
in-view b m va Read El1 false = uncached-fresh (plain_in (with_privilege b 1 false)) m Read va
in-view b m va Write El1 false = uncached-fresh (plain_in (with_privilege b 1 false)) m Write va
in-view b m va Fetch El1 false = uncached-fresh (plain_in (with_privilege b 1 false)) m Fetch va
in-view b m va kind El2 user = uncached-fresh (plain_in (with_privilege b 2 false)) m kind va
in-view b m va kind El3 user = uncached-fresh (plain_in (with_privilege b 3 false)) m kind va

pub answers-as-translated : answers_as_translated
answers-as-translated b m va kind user = sym (in-view b m va kind (regime_of b.privilege.level) user)

pub flip-is-a-step : flip_is_a_step
unfolding step_of run_of missed_of flip_of flip_call
flip-is-a-step c base ram va kind user = grind arith

-- the rows, computed
pub rows : FlipRows
unfolding flip_of first_flip first_in flipped fresh_answer table fresh_of walk_of table_walk walk_range walk_from lookup_next level_next leaf_result
    leaf_translation leaf_permissions table_next descaddr range_of params_of pa_size untagged word_at little_endian bytes_of fetches_of fetches_range fetches_from at
rows = record { block = refl; fetch = refl; second = refl; none = refl; off = refl; level = refl; ram = refl; kind = refl; view = refl }
