-- What four cores make of a TLBI, of a number and of a mark, in numbers. Of a TLBI on core 2 first.
use Rattle.std.specs.Prelude.{◌≡◌, ℕ, ◌-◌, ◌^◌, List, [], ◌∷◌, map, Option, Some, None}
use Rattle.tlb.specs.declared.Inval.{Inval}
use Rattle.tlb.specs.declared.Inval.TheVariants.{Page}
use Rattle.cpu.specs.Core.{fresh_core}
use Rattle.cpu.specs.declared.{Core.Core, call.Call.Call, call.Reply.Reply}
use Rattle.cpu.specs.declared.call.Call.TheVariants.{Load, General, Level, Register, System}
use Rattle.cpu.specs.declared.call.Reply.TheVariants.{Refused}
use Rattle.transparency.specs.Worked.{none}
use Rattle.cluster.specs.Cluster.{core_in, put_in, four_reply, cluster_run, cluster_after, fresh_cluster, Turn}
use Rattle.cluster.specs.Worked.{turn}

-- a core's flushes, drops and epoch; those of the four after a list
abbrev pub Counts : Type 0
Counts = ℕ × ℕ × ℕ

abbrev pub counts : Core → Counts
counts c = (c.tlb.flushes, c.tlb.drops, c.tlb.epoch)

abbrev pub counts_after : List Turn → List Counts
counts_after l = map counts (cluster_after l)

-- a TLBI by its op1, CRm and op2, of register 31
abbrev pub tlbi_call : ℕ → ℕ → ℕ → Call
tlbi_call op1 crm op2 = System (record { op1 = op1; crn = 8; crm = crm; op2 = op2; rt = 31 })

abbrev pub tlbi : ℕ → ℕ → ℕ → Turn
tlbi op1 crm op2 = turn 2 none (tlbi_call op1 crm op2)

abbrev pub each : Counts → List Counts
each a = a ∷ a ∷ a ∷ a ∷ []

abbrev pub alone : Counts → List Counts
alone a = (0, 0, 0) ∷ (0, 0, 0) ∷ a ∷ (0, 0, 0) ∷ []

-- VMALLE1IS and VMALLE1, VAE3IS and VAE3, ASIDE1IS and ASIDE1: each core once, or core 2 alone
abbrev pub form_rows : Type 0
form_rows =
    (counts_after (tlbi 0 3 0 ∷ []) ≡ each (1, 0, 1))
    × (counts_after (tlbi 0 7 0 ∷ []) ≡ alone (1, 0, 1))
    × (counts_after (tlbi 6 3 1 ∷ []) ≡ each (0, 1, 1))
    × (counts_after (tlbi 6 7 1 ∷ []) ≡ alone (0, 1, 1))
    × (counts_after (tlbi 0 3 2 ∷ []) ≡ each (0, 0, 1))
    × (counts_after (tlbi 0 7 2 ∷ []) ≡ alone (0, 0, 1))

-- IPAS2E1IS and IPAS2LE1IS have CRm 0, and are not handed on. Two that differ are heard one after the other, and not as
-- one of all. At EL0 a TLBI is Undefined.
abbrev pub other_rows : Type 0
other_rows =
    (counts_after (tlbi 4 0 1 ∷ []) ≡ alone (1, 0, 1))
    × (counts_after (tlbi 4 0 5 ∷ []) ≡ alone (1, 0, 1))
    × (counts_after (tlbi 0 3 0 ∷ tlbi 6 3 1 ∷ []) ≡ each (1, 1, 2))
    × (counts_after (turn 2 none (Level 0) ∷ tlbi 0 3 0 ∷ []) ≡ each (0, 0, 0))

-- by CRm 0 to 15, with op1 and op2 0: the flushes of core 2, and of core 1
abbrev pub flushes_by : ℕ → ℕ × ℕ
flushes_by crm =
    let cs = cluster_after (tlbi 0 crm 0 ∷ []) in
    ((core_in cs 2).tlb.flushes, (core_in cs 1).tlb.flushes)

abbrev pub crm_rows : Type 0
crm_rows =
    map flushes_by (0 ∷ 1 ∷ 2 ∷ 3 ∷ 4 ∷ 5 ∷ 6 ∷ 7 ∷ 8 ∷ 9 ∷ 10 ∷ 11 ∷ 12 ∷ 13 ∷ 14 ∷ 15 ∷ [])
    ≡ (1, 0) ∷ (1, 0) ∷ (1, 0) ∷ (1, 1) ∷ (1, 0) ∷ (1, 0) ∷ (1, 0) ∷ (1, 0) ∷ (1, 0) ∷ (1, 0) ∷ (1, 0) ∷ (1, 0) ∷ (1, 0) ∷ (1, 0)
    ∷ (1, 0) ∷ (1, 0) ∷ []

-- VAE1IS is heard as its sender reads it: by its own TCR_EL1 of a page, or of all where that has other pages than of
-- 4 KiB, whatever the receiver's has. The write of TCR_EL1 flushes.
abbrev pub small_pages : ℕ → Turn
small_pages n = turn n none (Register 0xC102 0x80000019)

abbrev pub sender_rows : Type 0
sender_rows =
    (counts_after (small_pages 2 ∷ tlbi 0 3 1 ∷ []) ≡ (0, 1, 1) ∷ (0, 1, 1) ∷ (1, 1, 2) ∷ (0, 1, 1) ∷ [])
    × (counts_after (small_pages 0 ∷ tlbi 0 3 1 ∷ []) ≡ (2, 0, 2) ∷ (1, 0, 1) ∷ (1, 0, 1) ∷ (1, 0, 1) ∷ [])

-- THE NUMBER, of a call whose window passes 2^64 and whose size is none: 3 is a core's, 4 and 2^64 - 1 are none's
abbrev pub refused_at : ℕ → Reply
refused_at n = four_reply fresh_cluster n (2 ^ 64 - 1) (0 ∷ 0 ∷ []) (Load 0 3)

abbrev pub number_rows : Type 0
number_rows = (refused_at 3 ≡ Refused 2) × (refused_at 4 ≡ Refused 8) × (refused_at (2 ^ 64 - 1) ≡ Refused 8)

-- A MARK that core 1 was put in with: what is pending of each core, and their counts, after a call
abbrev pub marked : List Core
marked = put_in fresh_cluster 1 (record fresh_core { tlb = record fresh_core.tlb { broadcast = Some (Page 5) } })

abbrev pub marks_after : Turn → List (Option Inval × Counts)
marks_after t = map (λ c. (c.tlb.broadcast, counts c)) (cluster_run marked (t ∷ []))

abbrev pub quiet : Counts → Option Inval × Counts
quiet a = (None, a)

-- a general register above 31 is refused, and hands nothing on; nor does a call on another core; any other call of core
-- 1 does, a TLBI with what was pending before it
abbrev pub mark_rows : Type 0
mark_rows =
    (marks_after (turn 1 none (General 32 0)) ≡ quiet (0, 0, 0) ∷ (Some (Page 5), (0, 0, 0)) ∷ quiet (0, 0, 0) ∷ quiet (0, 0, 0) ∷ [])
    × (marks_after (turn 0 none (General 1 0)) ≡ quiet (0, 0, 0) ∷ (Some (Page 5), (0, 0, 0)) ∷ quiet (0, 0, 0) ∷ quiet (0, 0, 0) ∷ [])
    × (marks_after (turn 1 none (General 1 0)) ≡ quiet (0, 1, 1) ∷ quiet (0, 0, 0) ∷ quiet (0, 1, 1) ∷ quiet (0, 1, 1) ∷ [])
    × (marks_after (turn 1 none (tlbi_call 0 3 0)) ≡ quiet (1, 0, 1) ∷ quiet (1, 0, 1) ∷ quiet (1, 0, 1) ∷ quiet (1, 0, 1) ∷ [])
