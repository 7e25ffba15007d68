-- THE CLAIM for every history. After every list of calls from the fresh core, whatever RAM is at each step, every
-- translation of a settled page, alone or inside a load, a store, a fetch or a zeroing, gives what the core without a
-- cache gives: the same physical address, or the same fault with its status and address.
--
-- All is read from the calls, on the registers of the core without a cache (Bare.antt). The core itself stands in two
-- places, by the definitions that the code's contracts cite: `core_run`, and `answers_of`, what its cache answers.
use Rattle.std.specs.Prelude.{if◌then◌else◌, ◌≡◌, true, false, List, [], ◌∷◌, ◌++◌, ◌⊎◌, ℕ, ◌+◌, ◌*◌, ◌/◌, ◌%◌, ◌^◌, ◌==◌, Option, Some, None, Ok}
use Rattle.std.specs.Prelude.{Err}
use Rattle.word.specs.Ram.{width_of, bytes_in}
use Rattle.word.specs.declared.ram.Width.{Width}
use Rattle.fault.specs.First.{first}
use Rattle.sysreg.specs.Shape.{same_shape, asid_of}
use Rattle.sysreg.specs.declared.regs.Control.{Control}
use Rattle.walk.specs.Answers.{Walked}
use Rattle.walk.specs.Regime.{bank_of, stage1_on, untagged}
use Rattle.sysreg.specs.Regs.{regime_of}
use Rattle.walk.specs.Walk.{walk_of}
use Rattle.walk.specs.declared.{level.Leaf.Leaf}
use Rattle.sysreg.specs.declared.regs.Regime.{Regime}
use Rattle.tlb.specs.Access.{flat_answer}
use Rattle.tlb.specs.Answers.{Answer}
use Rattle.tlb.specs.Asks.{Ask, translates, fetches, Given, kind_of, address_of, answers}
use Rattle.tlb.specs.Live.{Each}
use Rattle.tlb.specs.Model.{as_user, need, span_bits}
use Rattle.tlb.specs.declared.{access.Kind.Kind, Inval.Inval}
use Rattle.tlb.specs.declared.access.Kind.TheVariants.{Read, Write}
use Rattle.tlb.specs.declared.Inval.TheVariants.{All, Page, Asid}
use Rattle.system.specs.Tlbi.{tlbi_of}
use Rattle.system.specs.declared.decode.SysOp.{SysOp}
use Rattle.system.specs.declared.decode.SysOp.TheVariants as Op
use Rattle.cpu.specs.Asks.{access_asks, access_at}
use Rattle.cpu.specs.Bare.{Bare, fresh_bare, bare_of}
use Rattle.cpu.specs.Core.{fresh_core, bank_now}
use Rattle.cpu.specs.declared.Core.{Core}
use Rattle.system.specs.declared.decode.Encoding.{Encoding}
use Rattle.cpu.specs.declared.{call.Call.Call}
use Rattle.cpu.specs.declared.call.Call.TheVariants.{Translate, DataPa, FetchPa, Load, Store, Fetch, System, Register}
use Rattle.history.specs.Window.{Ram, memory_of}
use Rattle.transparency.specs.Steps.{Step, core_run, bare_run, steps_run}
use Rattle.transparency.specs.Bare.{op_in, operand_in, written_in, ruling_in, if_allowed, bare_step}

-- WHAT A STEP TRANSLATES, in order, until one faults: the next page too where an access crosses with stage 1 on.
abbrev pub access_in : Bare → ℕ → ℕ → Kind → List Ask
access_in b va n kind =
    let r = regime_of b.privilege.level in access_asks (stage1_on (bank_of b.control r) r) va n kind

abbrev pub sized_in : Bare → ℕ → Option Width → Kind → List Ask
sized_in b va (Some w) kind = access_in b va (bytes_in w) kind
sized_in b va None kind = []

abbrev pub asks_of : Bare → Call → List Ask
asks_of b (Translate kind va) = translates kind va ∷ []
asks_of b (DataPa va) = translates Read va ∷ []
asks_of b (FetchPa va) = fetches va ∷ []
asks_of b (Fetch va) = fetches va ∷ []
asks_of b (Load va size) = sized_in b va (width_of size) Read
asks_of b (Store va size value) = sized_in b va (width_of size) Write
asks_of b _ = []

abbrev pub asked : Bare → Step → List Ask
asked b s = if_allowed (ruling_in b s.ram s.call) (asks_of b s.call) []

-- the core's answers
abbrev pub answers_of : Core → Step → List Given
answers_of c s = answers (access_at (bank_now c) c.privilege (memory_of s.ram)) (asked (bare_of c) s) c.tlb

-- WHAT A STEP INVALIDATES: a TLBI that is not refused what it names, a register write All where `shaping` changed.
abbrev pub tlbi_drops : SysOp → Bare → Encoding → List Inval
tlbi_drops Op.Tlbi b e = tlbi_of b.control e.op1 e.crm e.op2 (operand_in b e) ∷ []
tlbi_drops _ b e = []

abbrev pub drops_of : Bare → Call → List Inval
drops_of b (System e) = tlbi_drops (op_in b e) b e
drops_of b (Register key value) = if same_shape b.control (written_in b key value).control then [] else All ∷ []
drops_of b _ = []

abbrev pub drops_run : Bare → List Step → List Inval
drops_run b [] = []
drops_run b (s ∷ l) = if_allowed (ruling_in b s.ram s.call) (drops_of b s.call) [] ++ drops_run (bare_step b s.ram s.call) l

-- What it covers of the walks of a page p that ended in the leaf ℓ under the ASID a. 18, 9 or 0 low bits of a page's
-- number lie within a leaf of level 1, 2 or 3.
abbrev pub Covers : Inval → ℕ → Leaf → ℕ → Type 0
Covers All p ℓ a = Unit {0}
Covers (Page n) p ℓ a = p % 2 ^ 44 / 2 ^ span_bits ℓ.level ≡ n % 2 ^ 44 / 2 ^ span_bits ℓ.level
Covers (Asid b) p ℓ a = (ℓ.global ≡ false) × (a ≡ b)

-- SETTLED is a page p (untagged) of a regime r after steps, with the RAM m now, where each walk that it had as a step
-- began, with stage 1 on, that ended in a leaf ℓ, global or under today's ASID, and that no invalidation of that step or
-- a later one covers, equals its walk now: in physical page, permission bits and level.
abbrev pub walk_of_page : Control → Ram → Regime → ℕ → Walked
walk_of_page k m r p = walk_of (bank_of k r) r (p * 4096) (memory_of m)

pub record EqualLeaves (ℓ ℓ' : Leaf) : Type 0 where
  pub pages : ℓ.oa / 4096 ≡ ℓ'.oa / 4096
  pub perms : ℓ.perms ≡ ℓ'.perms
  pub levels : ℓ.level ≡ ℓ'.level

pub record Settled (past : List Step) (m : Ram) (r : Regime) (p : ℕ) : Type 0 where
  pub holds : (before : List Step) (s : Step) (later : List Step) → past ≡ before ++ s ∷ later →
      let old = bare_run fresh_bare before in
      let now = bare_run fresh_bare past in
      (ℓ : Leaf) → stage1_on (bank_of old.control r) r ≡ true → walk_of_page old.control s.ram r p ≡ Ok ℓ →
      (ℓ.global ≡ true) ⊎ (asid_of old.control ≡ asid_of now.control) →
      Each (λ v. Covers v p ℓ (asid_of old.control) → ⊥) (drops_run old (s ∷ later)) →
      (ℓ' : Leaf) × (walk_of_page now.control m r p ≡ Ok ℓ') × EqualLeaves ℓ ℓ'

-- THE CORE WITHOUT A CACHE answers a translation of va: it untags; with stage 1 off that address is the answer, or fault
-- 0x00 from 2^44 on; else it walks. A fault of the walk is the answer; else 0x0C plus the leaf's level, where the leaf
-- lacks the bit that the access needs; else the leaf's page with the address's low twelve bits.
abbrev pub answer_by : Walked → ℕ → ℕ → Answer
answer_by (Err code) bit va = Err (first code)
answer_by (Ok ℓ) bit va =
    if ℓ.perms / bit % 2 == 1 then Ok (ℓ.oa / 4096 * 4096 + va % 4096) else Err (first (12 + ℓ.level))

abbrev pub untagged_in : Bare → ℕ → ℕ
untagged_in b va = let r = regime_of b.privilege.level in untagged (bank_of b.control r).tcr r va

abbrev pub uncached : Bare → Ram → Kind → ℕ → Answer
uncached b m k va =
    let r = regime_of b.privilege.level in
    let s = bank_of b.control r in
    if stage1_on s r
    then answer_by (walk_of s r (untagged_in b va) (memory_of m)) (need k (as_user r b.privilege.level b.privilege.unprivileged k)) va
    else flat_answer (untagged_in b va)

-- THE CLAIM: at each step of every list, each translation of a settled page is answered so. A list leaves the core as its
-- steps do.
abbrev pub SettledFor : List Step → Ram → ℕ → Type 0
SettledFor past m va =
    let now = bare_run fresh_bare past in Settled past m (regime_of now.privilege.level) (untagged_in now va / 4096)

abbrev pub FaithfulAt : List Step → Ram → Given → Type 0
FaithfulAt past m g =
    SettledFor past m (address_of g.ask) → g.answer ≡ uncached (bare_run fresh_bare past) m (kind_of g.ask) (address_of g.ask)

abbrev pub every_list : Type 0
every_list =
    (list before : List Step) (s : Step) (later : List Step) → steps_run fresh_core list ≡ before ++ s ∷ later →
    Each (FaithfulAt before s.ram) (answers_of (core_run fresh_core before) s)

abbrev pub steps_are_calls : Type 0
steps_are_calls = (list : List Step) → core_run fresh_core (steps_run fresh_core list) ≡ core_run fresh_core list
