-- The calls on four cores are the cluster's steps.
use Rattle.std.specs.Prelude.{◌≡◌, ℕ, List, length}
use Rattle.cpu.specs.declared.{Core.Core, call.Call.Call}
use Rattle.tlb.specs.Translate.{no_work}
use Rattle.cluster.specs.Cluster.{four_after, four_reply, four_ram, four_work}
use Rattle.call_words.specs.Replies.{code_by, value_by, reads_by}
use Rattle.call_words.specs.declared.op.DecodedCall.TheVariants.{Known}
use Rattle.cluster_calls.specs.Four.{number_on, value_on, reads_on, ram_on, cores_on}

-- number, value and what was read tell the step's reply and work, and cores and RAM are those that it leaves
abbrev pub calls_are_steps : Type 0
calls_are_steps =
    (cs : List Core) (i base : ℕ) (ram : List ℕ) (x : Call) → length cs ≡ 4
    → (number_on (Known x) cs i base ram ≡ code_by (four_reply cs i base ram x))
    × ((old : ℕ) → value_on (Known x) cs i base ram old ≡ value_by (four_reply cs i base ram x) old)
    × ((old : ℕ) → reads_on (Known x) cs i base ram old ≡ reads_by (four_reply cs i base ram x) (four_work cs i base ram x no_work).reads old)
    × (ram_on (Known x) cs i base ram ≡ four_ram cs i base ram x)
    × (cores_on (Known x) cs i base ram ≡ four_after cs i base ram x)
