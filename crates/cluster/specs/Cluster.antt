-- Four cores as the list that the array is: what is handed on among them, and what a call makes of them.
use Rattle.std.specs.Prelude.{if◌then◌else◌, ◌≡◌, ℕ, List, [], ◌∷◌, ◌==◌, nat_lt, true, false, Option, Some, None, Result, Ok, Err, slice_index_or}
use Rattle.std.specs.Prelude.{slice_set}
use Rattle.std.specs.Borrow.{Bor}
use Rattle.tlb.specs.Tlb.{invalidate_of}
use Rattle.tlb.specs.declared.{Inval.Inval, work.Work.Work}
use Rattle.cpu.specs.Core.{fresh_core}
use Rattle.cpu.specs.Check.{refuses}
use Rattle.cpu.specs.Step.{Stepped, step_of, ram_after}
use Rattle.cpu.specs.Work.{step_work}
use Rattle.cpu.specs.declared.{Core.Core, call.Call.Call, call.Reply.Reply, check.Check.Check}
use Rattle.cpu.specs.declared.call.Reply.TheVariants.{Refused}
use Rattle.history.specs.Window.{Ram}

abbrev pub core_in : List Core → ℕ → Core
core_in cs i = slice_index_or cs i fresh_core

-- the four by their numbers
abbrev pub four : (ℕ → Core) → List Core
four f = f 0 ∷ f 1 ∷ f 2 ∷ f 3 ∷ []

abbrev pub fresh_cluster : List Core
fresh_cluster = four (λ i. fresh_core)

-- a core lent by its number, and one put in its place: 8 above 3
abbrev pub core_at : List Core → ℕ → Result (Bor Core) Check → Type 0
core_at cs n (Ok c) = (nat_lt 3 n ≡ false) × (c.now ≡ core_in cs n)
core_at cs n (Err check) = (nat_lt 3 n ≡ true) × (check ≡ Check.Core)

abbrev pub put_in : List Core → ℕ → Core → List Core
put_in cs n c = if nat_lt 3 n then cs else slice_set cs n c

abbrev pub put_number : ℕ → Result Unit Check → Type 0
put_number n (Ok x) = nat_lt 3 n ≡ false
put_number n (Err check) = (nat_lt 3 n ≡ true) × (check ≡ Check.Core)

-- HANDED ON: a core whose mark is cleared, and one that does what another asks for

abbrev pub unmarked : Core → Core
unmarked c = record c { tlb = record c.tlb { broadcast = None } }

abbrev pub told : Inval → Core → Core
told what c = record c { tlb = invalidate_of c.tlb what }

-- where there is something to hear; M23: a Page is of 4 KiB, whatever the pages of the core that hears it
abbrev pub heard : Option Inval → Core → Core
heard None c = c
heard (Some what) c = told what c

-- what core i asks for: its own mark is cleared, and the others are told
abbrev pub shared_among : List Core → ℕ → Inval → List Core
shared_among cs i what = four (λ j. if j == i then unmarked (core_in cs i) else told what (core_in cs j))

abbrev pub delivered_by : Option Inval → List Core → ℕ → List Core
delivered_by None cs i = cs
delivered_by (Some what) cs i = shared_among cs i what

-- what core i has pending; a number above 3 does nothing
abbrev pub delivered_of : List Core → ℕ → List Core
delivered_of cs i = if nat_lt 3 i then cs else delivered_by (core_in cs i).tlb.broadcast cs i

-- A CALL on core n. One that is refused hands nothing on.

abbrev pub stepped_in : List Core → ℕ → ℕ → List ℕ → Call → Stepped
stepped_in cs n base ram x = step_of (core_in cs n) base ram x

abbrev pub four_after : List Core → ℕ → ℕ → List ℕ → Call → List Core
four_after cs n base ram x =
    if nat_lt 3 n then cs
    else if refuses (stepped_in cs n base ram x).reply then cs
    else delivered_of (slice_set cs n (stepped_in cs n base ram x).core) n

abbrev pub four_reply : List Core → ℕ → ℕ → List ℕ → Call → Reply
four_reply cs n base ram x = if nat_lt 3 n then Refused 8 else (stepped_in cs n base ram x).reply

abbrev pub four_ram : List Core → ℕ → ℕ → List ℕ → Call → List ℕ
four_ram cs n base ram x = if nat_lt 3 n then ram else ram_after (core_in cs n) base ram x

-- the descriptors that it reads, added to what was read before
abbrev pub four_work : List Core → ℕ → ℕ → List ℕ → Call → Work → Work
four_work cs n base ram x w = if nat_lt 3 n then w else step_work (core_in cs n) base ram x w

-- A LIST OF CALLS, each on the core of its number, with RAM as it stands when the call begins
pub record Turn : Type 0 where
  pub number : ℕ
  pub ram : Ram
  pub call : Call

abbrev pub cluster_run : List Core → List Turn → List Core
cluster_run cs [] = cs
cluster_run cs (t ∷ l) = cluster_run (four_after cs t.number t.ram.base t.ram.bytes t.call) l

-- from four fresh cores
abbrev pub cluster_after : List Turn → List Core
cluster_after l = cluster_run fresh_cluster l
