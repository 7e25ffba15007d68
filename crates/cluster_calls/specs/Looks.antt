-- What a call that only looks promises, on the core i of the four cores cs: of the core alone, and what is delivered after it.
use Rattle.std.specs.Prelude.{◌≡◌, List, ℕ, ◌<◌, ◌≤◌}
use Rattle.cpu.specs.Bare.{Bare}
use Rattle.cpu.specs.Step.{counts_after, step_of}
use Rattle.cpu.specs.declared.Core.{Core}
use Rattle.cpu.specs.declared.call.Call.TheVariants.{Census}
use Rattle.history.specs.Calls.{bare_run}
use Rattle.history.specs.Instance.{real}
use Rattle.history.specs.Window.{window_of}
use Rattle.transparency.specs.Census.{bare_counts}
use Rattle.transparency.specs.Replies.{bare_reply}
use Rattle.call_words.specs.Replies.{code_by}
use Rattle.core_calls.specs.Windows.{found_number, found_words, windows_in, bare_windows}
use Rattle.core_calls.specs.Flip.{flip_number, flip_words, flip_in, bare_flip}
use Rattle.cluster.specs.Cluster.{core_in, Turn, cluster_after}
use Rattle.cluster.specs.Machines.{core_machine, fresh_bares, lents}
use Rattle.cluster_calls.specs.Four.{if_core, delivered_after}

-- the core i without a cache, after a list of calls on the four
abbrev pub bare_at : List Turn → ℕ → Bare
bare_at list i = bare_run real (core_machine i) fresh_bares (lents i list) i

-- A census: the number n, the counts, which were old, and the cores ds.
--   unchanged   any other number than 0 says that nothing was written
--   faithful    whatever list of calls left the four cores: counts and number are those of the core i without a cache
pub record ClusterCensus (first pages base : ℕ) (ram : List ℕ) (cs : List Core) (i n : ℕ) (old counts : List ℕ) (ds : List Core) : Type 0 where
  pub code : n ≡ if_core i (code_by (step_of (core_in cs i) base ram (Census first pages)).reply) 8
  pub counted : counts ≡ if_core i (counts_after (core_in cs i) base ram first pages old) old
  pub cores : ds ≡ if_core i (delivered_after n cs i) cs
  pub unchanged : 0 < n → n < 256 → (ds ≡ cs) × (counts ≡ old)
  pub faithful : i ≤ 3 → (list : List Turn) → cs ≡ cluster_after list
      → (counts ≡ bare_counts (bare_at list i) (window_of base ram) first pages old)
      × (n ≡ code_by (bare_reply (bare_at list i) (window_of base ram) (Census first pages)).reply)

-- Windows: the number n, three words, which were old, and the cores ds.
--   unchanged   1, 2, 8 and 9 say that no word was written, and 10 too that nothing was delivered
pub record ClusterWindows (bytes : List ℕ) (base : ℕ) (ram : List ℕ) (cs : List Core) (i n : ℕ) (old words : List ℕ) (ds : List Core) : Type 0 where
  pub code : n ≡ if_core i (found_number (windows_in (core_in cs i) base ram bytes)) 8
  pub told : words ≡ if_core i (found_words (windows_in (core_in cs i) base ram bytes) old) old
  pub cores : ds ≡ if_core i (delivered_after n cs i) cs
  pub kept : 0 < n → n < 256 → ds ≡ cs
  pub unchanged : 0 < n → n < 10 → words ≡ old
  pub faithful : i ≤ 3 → (list : List Turn) → cs ≡ cluster_after list
      → (n ≡ found_number (bare_windows (bare_at list i) (window_of base ram) bytes))
      × (words ≡ found_words (bare_windows (bare_at list i) (window_of base ram) bytes) old)

-- A flip: the number n, three words, which were old, the bytes ys, and the cores ds.
--   bytes       RAM ends as it began
pub record ClusterFlip (va kind user base : ℕ) (ram : List ℕ) (cs : List Core) (i n : ℕ) (old words ys : List ℕ) (ds : List Core) : Type 0 where
  pub code : n ≡ if_core i (flip_number (flip_in (core_in cs i) base ram va kind user)) 8
  pub told : words ≡ if_core i (flip_words (flip_in (core_in cs i) base ram va kind user) old) old
  pub bytes : ys ≡ ram
  pub cores : ds ≡ if_core i (delivered_after n cs i) cs
  pub unchanged : 0 < n → n < 256 → (ds ≡ cs) × (words ≡ old)
  pub faithful : i ≤ 3 → (list : List Turn) → cs ≡ cluster_after list
      → (n ≡ flip_number (bare_flip (bare_at list i) (window_of base ram) va kind user))
      × (words ≡ flip_words (bare_flip (bare_at list i) (window_of base ram) va kind user) old)
