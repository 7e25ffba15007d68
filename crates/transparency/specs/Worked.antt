-- A worked list of calls, by computation on the core itself: the premise of faithfulness holds where the cache answers, and
-- fails where a table was changed without a TLBI.
use Rattle.std.specs.Prelude.{◌≡◌, true, false, List, [], ◌∷◌, ◌++◌, ℕ, Some, Ok}
use Rattle.word.specs.Ram.{bytes_of}
use Rattle.tlb.specs.Asks.{translates}
use Rattle.tlb.specs.Translate.{hint_in}
use Rattle.tlb.specs.declared.access.Kind.TheVariants.{Read}
use Rattle.cpu.specs.Bare.{bare_of, fresh_bare}
use Rattle.cpu.specs.Core.{fresh_core}
use Rattle.cpu.specs.Step.{step_of}
use Rattle.cpu.specs.declared.Core.{Core}
use Rattle.cpu.specs.declared.call.Call.{Call}
use Rattle.cpu.specs.declared.call.Call.TheVariants.{Translate, FetchPa, Load, Register, Level, Mark, General, System}
use Rattle.cpu.specs.declared.call.Reply.TheVariants.{Value}
use Rattle.history.specs.World.{uncached}
use Rattle.history.specs.Calls.{Lent}
use Rattle.history.specs.Instance.{Ram, real}
use Rattle.transparency.specs.Bare.{missed_in}
use Rattle.transparency.specs.Events.{plain_in}
use Rattle.transparency.specs.Machine.{machine}
use Rattle.transparency.specs.Beside.{core_after, bare_after}
use Rattle.transparency.specs.Faithful.{fed_by}
use Rattle.transparency.specs.Direct.{SettledAt}
use Rattle.transparency.specs.Reads.{reads_on}
use Rattle.transparency.specs.Steps.{Step, core_run, bare_run}
use Rattle.transparency.specs.Claim as Claim
use Rattle.transparency.specs.Claim.{SettledFor, answers_of}

-- RAM with this word at 0x1008: no table, a 1 GiB block at 0x80000000, one at 0xC0000000
abbrev pub table : ℕ → Ram
table word = record { base = 0x1008; bytes = bytes_of 8 word }

abbrev pub none : Ram
none = table 0

abbrev pub old : Ram
old = table 0x80000401

abbrev pub new : Ram
new = table 0xC0000401

abbrev pub lent : Ram → Call → Lent real machine
lent m x = record { ram = m; call = x }

abbrev pub read : Call
read = Translate Read 0x40001234

-- From reset, at EL3: TCR_EL1 (T0SZ 25, TG1 4 KiB), TTBR0_EL1 and SCTLR_EL1.M are written; then EL1, and the page
-- 0x40001 is read by the old table.
abbrev pub start : List (Lent real machine)
start =
    lent none (Register 0xC102 0x80000019)
    ∷ lent none (Register 0xC100 0x1000)
    ∷ lent none (Register 0xC080 1)
    ∷ lent none (Level 1)
    ∷ lent old read
    ∷ []

-- The table is changed, TLBI VAE1 of another page of the block is carried out, and the page is read again.
abbrev pub tidied : List (Lent real machine)
tidied =
    start
    ++ lent new (General 1 0x7FFFF)
    ∷ lent new (System (record { op1 = 0; crn = 8; crm = 7; op2 = 1; rt = 1 }))
    ∷ lent new read
    ∷ []

-- WITH THE TLBI the page is settled, and the cache answers from a hint, as the core without a cache does.

abbrev pub tidied_settled : Type 0
tidied_settled = SettledAt (fed_by tidied) new 0x40001234

abbrev pub by_cache : Type 0
by_cache =
    (hint_in (core_after tidied).privilege 0x40001234 Read (core_after tidied).tlb ≡ Some 0xC0001234)
    × ((step_of (core_after tidied) new.base new.bytes read).reply ≡ Value 0xC0001234)
    × (uncached real (plain_in (bare_after tidied)) new Read 0x40001234 ≡ Ok 0xC0001234)

-- WITHOUT IT the cache answers by the old table, so the page is not settled.

abbrev pub start_stale : Type 0
start_stale =
    ((step_of (core_after start) new.base new.bytes read).reply ≡ Value 0x80001234)
    × (uncached real (plain_in (bare_after start)) new Read 0x40001234 ≡ Ok 0xC0001234)
    × (missed_in (bare_of (core_after start)) new read ≡ 0)

abbrev pub start_unsettled : Type 0
start_unsettled = SettledAt (fed_by start) new 0x40001234 → ⊥

-- IN THE CLAIM'S OWN WORDS (Claim.antt): after these steps its premise is met, the core makes one translation and
-- answers it from the cache, and the core without one answers the same; without the TLBI the premise is not met.

abbrev pub steps_of : List (Lent real machine) → List Step
steps_of [] = []
steps_of (x ∷ l) = record { ram = x.ram; call = x.call } ∷ steps_of l

abbrev pub claim_met : Type 0
claim_met =
    SettledFor (steps_of tidied) new 0x40001234
    × (answers_of (core_run fresh_core (steps_of tidied)) (record { ram = new; call = read })
    ≡ record { ask = translates Read 0x40001234; answer = Ok 0xC0001234 } ∷ [])
    × (Claim.uncached (bare_run fresh_bare (steps_of tidied)) new Read 0x40001234 ≡ Ok 0xC0001234)

abbrev pub claim_unmet : Type 0
claim_unmet = SettledFor (steps_of start) new 0x40001234 → ⊥

-- THE COUNTERS BY LEVEL. EL1's first read was walked. Under the mark EL1 reads again: judged as EL0's it is refused by
-- the entry, and that is a hit of EL1, not of EL0; a fetch under the mark, which is judged as EL1's, is another. Then
-- EL0 fetches from the page, whose fetch hint is of EL1: a hit of EL0.
abbrev pub counted : List (Lent real machine)
counted =
    start ++ lent old (Mark true) ∷ lent old read ∷ lent old (FetchPa 0x40001234) ∷ lent old (Level 0)
    ∷ lent old (FetchPa 0x40001234) ∷ []

abbrev pub counted_by_level : Type 0
counted_by_level =
    (core_after counted).tlb.levels
    ≡ record { hits = 1; walks = 0 } ∷ record { hits = 2; walks = 1 } ∷ record { hits = 0; walks = 0 }
    ∷ record { hits = 0; walks = 0 } ∷ []

-- WHAT EACH CALL READS, with one word of RAM at 0x1000: a table that holds itself at levels 0 to 2, and a page of EL1's at level 3. EL1's first
-- read walks by four descriptors; the next goes by its hint, and one under the mark, which EL1 is refused as EL0, by the entry. A load over two
-- pages walks for the second, whose last descriptor lies outside RAM. AT walks afresh; after a TLBI so does the read, and after another a zeroing's
-- first store, whose second one goes by the hint and ends outside RAM.
abbrev pub own_table : Ram
own_table = record { base = 0x1000; bytes = bytes_of 8 0x1403 }

abbrev pub low : Call
low = Translate Read 0x234

abbrev pub system : ℕ → ℕ → ℕ → ℕ → Call
system op1 crn crm op2 = System (record { op1 = op1; crn = crn; crm = crm; op2 = op2; rt = 31 })

abbrev pub reading : List Call
reading =
    Register 0xC102 0x80000010 ∷ Register 0xC100 0x1000 ∷ Register 0xC080 1 ∷ Level 1 ∷ low ∷ low ∷ Mark true ∷ low ∷ Mark false
    ∷ Load 0xFFC 8 ∷ system 0 7 8 0 ∷ system 0 8 7 0 ∷ low ∷ system 0 8 7 0 ∷ system 3 7 4 1 ∷ []

abbrev pub reads_run : Core → List Call → List ℕ
reads_run c [] = []
reads_run c (x ∷ l) = reads_on c own_table x ∷ reads_run (step_of c own_table.base own_table.bytes x).core l

abbrev pub worked_reads : Type 0
worked_reads =
    reads_run fresh_core reading
    ≡ 0 ∷ 0 ∷ 0 ∷ 0 ∷ 4 ∷ 0 ∷ 0 ∷ 0 ∷ 0 ∷ 4 ∷ 4 ∷ 0 ∷ 4 ∷ 0 ∷ 4 ∷ []
