-- A call on one of four cores: what the call on that core alone gives, and what is delivered after it.
use Rattle.std.specs.Prelude.{if◌then◌else◌, ℕ, Bool, ◌&&◌, nat_lt, is_none, List, slice_set, Option, None, Result}
use Rattle.tlb.specs.declared.{access.Kind.Kind, access.NoSuchKind.NoSuchKind}
use Rattle.cpu.specs.declared.Core.{Core}
use Rattle.cluster.specs.Cluster.{core_in, delivered_of, four_after}
use Rattle.call_words.specs.declared.op.DecodedCall.{DecodedCall}
use Rattle.call_words.specs.declared.op.DecodedCall.TheVariants.{Known, Unknown}
use Rattle.quick.specs.Says.{served}
use Rattle.core_calls.specs.Named.{call_number, call_value, call_reads, call_ram, call_core}

-- a number that says that a call was refused
abbrev pub is_refusal : ℕ → Bool
is_refusal n = nat_lt 0 n && nat_lt n 256

-- one of the four, with nothing pending
abbrev pub is_quiet : List Core → ℕ → Bool
is_quiet cs i = nat_lt i 4 && is_none (core_in cs i).tlb.broadcast

-- where the data hint of one of the four sends an access at once, with nothing pending
abbrev pub served_on : List Core → ℕ → ℕ → ℕ → ℕ → Result Kind NoSuchKind → Option ℕ
served_on cs i base len va w = if is_quiet cs i then served (core_in cs i) base len va w else None

-- what core i has pending is delivered, unless the number says that its call was refused
abbrev pub delivered_after : ℕ → List Core → ℕ → List Core
delivered_after n cs i = if is_refusal n then cs else delivered_of cs i

-- one thing for a number above 3, another for one of the four
abbrev pub if_core : {A : Type 0} → ℕ → A → A → A
if_core i some none = if nat_lt 3 i then none else some

-- the call on the core i: its number, the value and what was read, or else the word as it was, RAM, and the four cores
module _ (call : DecodedCall) (cs : List Core) (i base : ℕ) (ram : List ℕ) where
  abbrev pub number_on : ℕ
  number_on = if_core i (call_number call (core_in cs i) base ram) 8

  abbrev pub value_on : ℕ → ℕ
  value_on old = if_core i (call_value call (core_in cs i) base ram old) old

  abbrev pub reads_on : ℕ → ℕ
  reads_on old = if_core i (call_reads call (core_in cs i) base ram old) old

  abbrev pub ram_on : List ℕ
  ram_on = if_core i (call_ram call (core_in cs i) base ram) ram

  abbrev pub cores_on : List Core
  cores_on = if_core i (delivered_after (call_number call (core_in cs i) base ram) (slice_set cs i (call_core call (core_in cs i) base ram)) i) cs

-- every call by eight words: the cluster's step
abbrev pub cores_stepped : DecodedCall → List Core → ℕ → ℕ → List ℕ → List Core
cores_stepped (Known x) cs i base ram = four_after cs i base ram x
cores_stepped Unknown cs i base ram = cs
