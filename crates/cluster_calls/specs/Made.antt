-- Four cores that were fresh, and then calls, each as its contract promises: they are those after the list of the calls.
use Rattle.std.specs.Prelude.{◌≡◌, List, [], ◌∷◌, ◌++◌, ℕ}
use Rattle.cpu.specs.declared.Core.{Core}
use Rattle.history.specs.Window.{window_of}
use Rattle.cluster.specs.Cluster.{fresh_cluster, Turn, cluster_after}
use Rattle.call_words.specs.declared.reply.Report.{Report}
use Rattle.call_words.specs.declared.op.DecodedCall.{DecodedCall}
use Rattle.call_words.specs.declared.op.DecodedCall.TheVariants.{Known, Unknown}
use Rattle.cluster_calls.specs.Promise.{ClusterPromise, ClusterSetting, ClusterStep}
use Rattle.cluster_calls.specs.Looks.{ClusterCensus, ClusterWindows, ClusterFlip}

-- what a call on the number n adds to the list; words that name none add nothing
abbrev pub added : DecodedCall → ℕ → ℕ → List ℕ → List Turn
added (Known x) n base ram = record { number = n; ram = window_of base ram; call = x } ∷ []
added Unknown n base ram = []

-- the four after a list of calls, to which one that only looks adds nothing
pub data Made : List Core → List Turn → Type 0 where
  fresh : (cs : List Core) → cs ≡ fresh_cluster → Made cs []
  called : (call : DecodedCall) (base : ℕ) (ram : List ℕ) (cs : List Core) (n k : ℕ) (old new : Report) (ys : List ℕ) (ds : List Core) (list : List Turn)
      → Made cs list → ClusterPromise call base ram cs n k old new ys ds → Made ds (list ++ added call n base ram)
  set : (call : DecodedCall) (base : ℕ) (ram : List ℕ) (cs : List Core) (n k : ℕ) (ds : List Core) (list : List Turn)
      → Made cs list → ClusterSetting call cs n k ds → Made ds (list ++ added call n base ram)
  stepped : (call : DecodedCall) (base : ℕ) (ram : List ℕ) (cs : List Core) (n k : ℕ) (old v ys : List ℕ) (ds : List Core) (list : List Turn)
      → Made cs list → ClusterStep call base ram cs n k old v ys ds → Made ds (list ++ added call n base ram)
  counted : (first pages base : ℕ) (ram : List ℕ) (cs : List Core) (n k : ℕ) (old counts : List ℕ) (ds : List Core) (list : List Turn)
      → Made cs list → ClusterCensus first pages base ram cs n k old counts ds → Made ds list
  found : (bytes : List ℕ) (base : ℕ) (ram : List ℕ) (cs : List Core) (n k : ℕ) (old words : List ℕ) (ds : List Core) (list : List Turn)
      → Made cs list → ClusterWindows bytes base ram cs n k old words ds → Made ds list
  flipped : (va kind user base : ℕ) (ram : List ℕ) (cs : List Core) (n k : ℕ) (old words ys : List ℕ) (ds : List Core) (list : List Turn)
      → Made cs list → ClusterFlip va kind user base ram cs n k old words ys ds → Made ds list

abbrev pub made_is_after : Type 0
made_is_after = (cs : List Core) (list : List Turn) → Made cs list → cs ≡ cluster_after list
