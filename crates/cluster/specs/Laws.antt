-- What a call makes of the four cores, said of each: the number, what is shared, the marks, the others.
use Rattle.std.specs.Prelude.{◌≡◌, ℕ, ◌<◌, ◌≤◌, false, List, length, slice_set, Option, Some, None}
use Rattle.tlb.specs.Tlb.{invalidate_of}
use Rattle.tlb.specs.declared.{Inval.Inval, work.Work.Work}
use Rattle.system.specs.declared.decode.Encoding.{Encoding}
use Rattle.cpu.specs.Bare.{Bare, bare_of}
use Rattle.cpu.specs.Check.{refuses}
use Rattle.cpu.specs.Step.{step_of}
use Rattle.cpu.specs.declared.{Core.Core, call.Call.Call}
use Rattle.cpu.specs.declared.call.Call.TheVariants.{System}
use Rattle.cpu.specs.declared.call.Reply.TheVariants.{Refused}
use Rattle.history.specs.Delivered.{unpending}
use Rattle.history.specs.Window.{Ram}
use Rattle.cluster.specs.Cluster.{core_in, four_after, four_reply, four_ram, four_work, Turn, cluster_after}
use Rattle.cluster.specs.Shared.{shared_in}

-- what a core has pending, and what it would have after a call
abbrev pub pending : Core → Option Inval
pending c = c.tlb.broadcast

abbrev pub core_made : Core → Ram → Call → Core
core_made c m x = (step_of c m.base m.bytes x).core

abbrev pub cores_then : List Core → ℕ → Ram → Call → List Core
cores_then cs n m x = four_after cs n m.base m.bytes x

-- THE NUMBER is judged before all else, and then nothing changes
abbrev pub eight_first : Type 0
eight_first =
    (cs : List Core) (n : ℕ) (m : Ram) (x : Call) (w : Work) → 3 < n
    → (four_reply cs n m.base m.bytes x ≡ Refused 8) × (cores_then cs n m x ≡ cs) × (four_ram cs n m.base m.bytes x ≡ m.bytes)
    × (four_work cs n m.base m.bytes x w ≡ w)

-- WHAT IS SHARED: of a core with nothing pending, what a call leaves pending is what it shares by its state without a
-- cache, whatever the call
abbrev pub left_as_shared : Type 0
left_as_shared = (c : Core) (m : Ram) (x : Call) → pending c ≡ None → pending (core_made c m x) ≡ shared_in (bare_of c) m x

-- a TLBI with any other CRm than 3 shares nothing
abbrev pub local_tlbi : Type 0
local_tlbi = (b : Bare) (m : Ram) (e : Encoding) → (e.crm ≡ 3 → ⊥) → shared_in b m (System e) ≡ None

-- MARKS: none is ever left after a list of calls on fresh cores
abbrev pub never_pending : Type 0
never_pending = (list : List Turn) (i : ℕ) → pending (core_in (cluster_after list) i) ≡ None

-- four cores, whatever they are, and a call on one of them
module _ (cs : List Core) (n : ℕ) (m : Ram) (x : Call) where
  -- that is not refused
  abbrev pub done : Type 0
  done = refuses (four_reply cs n m.base m.bytes x) ≡ false

  -- the caller has no mark after it, whatever it had before
  abbrev pub CallerCleared : Type 0
  CallerCleared = length cs ≡ 4 → n ≤ 3 → done → pending (core_in (cores_then cs n m x) n) ≡ None

  -- but for the mark the caller is what the call makes of a single core
  abbrev pub CallerSame : Type 0
  CallerSame =
      let d = core_made (core_in cs n) m x in
      length cs ≡ 4 → n ≤ 3 → done → core_in (cores_then cs n m x) n ≡ record d { tlb = unpending d.tlb }

  -- a call that is refused leaves all four, marks too
  abbrev pub RefusedSame : Type 0
  RefusedSame = (done → ⊥) → cores_then cs n m x ≡ cs

  -- each other core drops what the caller then had pending, as by a TLBI of its own, once; all else of it stays
  abbrev pub OthersHear : Type 0
  OthersHear =
      (i : ℕ) (what : Inval) → length cs ≡ 4 → n ≤ 3 → done → i ≤ 3 → (i ≡ n → ⊥)
      → pending (core_made (core_in cs n) m x) ≡ Some what
      → (bare_of (core_in (cores_then cs n m x) i) ≡ bare_of (core_in cs i))
      × ((core_in (cores_then cs n m x) i).tlb ≡ invalidate_of (core_in cs i).tlb what)
      × ((core_in (cores_then cs n m x) i).last_pa ≡ (core_in cs i).last_pa)
      × ((core_in (cores_then cs n m x) i).abort_pa ≡ (core_in cs i).abort_pa)

  -- and stays as it is where nothing was pending and the call shares nothing
  abbrev pub OthersStay : Type 0
  OthersStay =
      (i : ℕ) → length cs ≡ 4 → pending (core_in cs n) ≡ None → shared_in (bare_of (core_in cs n)) m x ≡ None → (i ≡ n → ⊥)
      → core_in (cores_then cs n m x) i ≡ core_in cs i

  -- such a call is that of the single core
  abbrev pub CallerAlone : Type 0
  CallerAlone =
      length cs ≡ 4 → n ≤ 3 → pending (core_in cs n) ≡ None → shared_in (bare_of (core_in cs n)) m x ≡ None
      → cores_then cs n m x ≡ slice_set cs n (core_made (core_in cs n) m x)

-- of every call on any four cores
abbrev pub EveryCallOfFour : (List Core → ℕ → Ram → Call → Type 0) → Type 0
EveryCallOfFour says = (cs : List Core) (n : ℕ) (m : Ram) (x : Call) → says cs n m x
