-- A worked list on two cores, by computation: with core 0's Inner Shareable TLBI of another page of the block core 1's page is
-- settled and its cache answers rightly; with core 0's own TLBI core 1 answers by the old table, and its page is not
-- settled.
use Rattle.std.specs.Prelude.{◌≡◌, ℕ, List, [], ◌∷◌, ◌++◌, Some, Ok}
use Rattle.tlb.specs.Answers.{Answer}
use Rattle.tlb.specs.Translate.{hint_in}
use Rattle.tlb.specs.declared.access.Kind.TheVariants.{Read}
use Rattle.cpu.specs.Bare.{bare_of, fresh_bare}
use Rattle.cpu.specs.declared.{call.Call.Call, call.Reply.Reply}
use Rattle.cpu.specs.declared.call.Call.TheVariants.{Store, General, Register, Level, System}
use Rattle.cpu.specs.declared.call.Reply.TheVariants.{Value}
use Rattle.history.specs.Calls.{Lent}
use Rattle.history.specs.Faithful.{events_by, plain_by}
use Rattle.history.specs.History.{Settled}
use Rattle.history.specs.Instance.{real}
use Rattle.history.specs.SeenFrom.{Numbered}
use Rattle.history.specs.Window.{Ram}
use Rattle.history.specs.World.{uncached, regime_now, page_now}
use Rattle.transparency.specs.Events.{plain_in}
use Rattle.transparency.specs.Machine.{machine}
use Rattle.transparency.specs.Worked.{old, new, read, start}
use Rattle.cluster.specs.Cluster.{core_in, four_reply, fresh_cluster, Turn, cluster_after}
use Rattle.cluster.specs.EveryCore.{on_one, left_by}
use Rattle.cluster.specs.Machines.{core_machine, fresh_cores, fresh_bares, lents, numbered}

-- the page of an address is settled for core k after the list
abbrev pub SettledSeen : ℕ → List Turn → Ram → ℕ → Type 0
SettledSeen k list m va =
    let now = plain_by real (core_machine k) fresh_cores fresh_bares (lents k list) in
    Settled real (plain_in fresh_bare) (events_by real (core_machine k) fresh_cores fresh_bares (lents k list)) m (regime_now real now)
    (page_now real now va)

abbrev pub turn : ℕ → Ram → Call → Turn
turn n m x = record { number = n; ram = m; call = x }

-- a list of a single core, on core n
abbrev pub on : ℕ → List (Lent real machine) → List Turn
on n [] = []
on n (x ∷ l) = turn n x.ram x.call ∷ on n l

-- TLBI VAE1IS has CRm 3, VAE1 has 7: of the page that X1 names
abbrev pub vae1 : ℕ → Call
vae1 crm = System (record { op1 = 0; crn = 8; crm = crm; op2 = 1; rt = 1 })

-- Core 1 reads the page 0x40001 by the old table (transparency/specs/Worked.antt). The table is changed, and core 0, whose
-- own TCR_EL1 has 4 KiB pages, carries out a TLBI of another page of the block.
abbrev pub invalidated : ℕ → List Turn
invalidated crm =
    on 1 start
    ++ turn 0 new (Register 0xC102 0x80000019) ∷ turn 0 new (General 1 0x7FFFF) ∷ turn 0 new (vae1 crm) ∷ []

-- what core 1 replies to the read then, and what it would without a cache
abbrev pub said : List Turn → Reply
said list = four_reply (cluster_after list) 1 new.base new.bytes read

abbrev pub uncached_then : List Turn → Answer
uncached_then list = uncached real (plain_in (bare_of (core_in (cluster_after list) 1))) new Read 0x40001234

-- WITH THE INNER SHAREABLE ONE
abbrev pub told_settled : Type 0
told_settled = SettledSeen 1 (invalidated 3) new 0x40001234

abbrev pub told_right : Type 0
told_right = (said (invalidated 3) ≡ Value 0xC0001234) × (uncached_then (invalidated 3) ≡ Ok 0xC0001234)

-- and once it has read the page again its cache answers, by a hint
abbrev pub read_again : List Turn
read_again = invalidated 3 ++ turn 1 new read ∷ []

abbrev pub again_settled : Type 0
again_settled = SettledSeen 1 read_again new 0x40001234

abbrev pub again_by_cache : Type 0
again_by_cache =
    let c = core_in (cluster_after read_again) 1 in
    (hint_in c.privilege 0x40001234 Read c.tlb ≡ Some 0xC0001234) × (said read_again ≡ Value 0xC0001234)

-- WITH ITS OWN ALONE
abbrev pub untold_stale : Type 0
untold_stale = (said (invalidated 7) ≡ Value 0x80001234) × (uncached_then (invalidated 7) ≡ Ok 0xC0001234)

abbrev pub untold_unsettled : Type 0
untold_unsettled = SettledSeen 1 (invalidated 7) new 0x40001234 → ⊥

-- ON ONE RAM, the table is what core 0 stores: with its Inner Shareable TLBI after that core 1 answers by it, with its own
-- alone by the old one.
abbrev pub calls : ℕ → List (Numbered Call)
calls crm =
    numbered 1 (Register 0xC102 0x80000019)
    ∷ numbered 1 (Register 0xC100 0x1000)
    ∷ numbered 1 (Register 0xC080 1)
    ∷ numbered 1 (Level 1)
    ∷ numbered 1 read
    ∷ numbered 0 (Register 0xC102 0x80000019)
    ∷ numbered 0 (Store 0x1008 8 0xC0000401)
    ∷ numbered 0 (General 1 0x7FFFF)
    ∷ numbered 0 (vae1 crm)
    ∷ []

abbrev pub stored_by : ℕ → List ℕ
stored_by crm = left_by fresh_cluster old.base old.bytes (calls crm)

abbrev pub said_by : ℕ → Reply
said_by crm = four_reply (cluster_after (on_one fresh_cluster old.base old.bytes (calls crm))) 1 old.base (stored_by crm) read

abbrev pub stored_told : Type 0
stored_told =
    (stored_by 3 ≡ new.bytes) × (said_by 3 ≡ Value 0xC0001234) × (stored_by 7 ≡ new.bytes) × (said_by 7 ≡ Value 0x80001234)
