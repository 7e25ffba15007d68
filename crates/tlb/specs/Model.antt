-- The cache as the requirement tells it: slots that hold at most one line, places that hold at most one hint, the counters, and what is
-- pending. No generations, no tags, no keys. It shares no function with the code's definitions that it judges: only the types of what goes in
-- and out, and how a fault is made.
use Rattle.std.specs.Prelude.{if◌then◌else◌, ℕ, zero, suc, ◌+◌, ◌-◌, ◌*◌, ◌/◌, ◌%◌, ◌^◌, Bool, true, false, not, ◌&&◌, ◌==◌, bit_xor, Ok, Err}
use Rattle.fault.specs.First.{first}
use Rattle.walk.specs.declared.{level.Leaf.Leaf}
use Rattle.sysreg.specs.declared.regs.Regime.{Regime}
use Rattle.sysreg.specs.declared.regs.Regime.TheVariants.{El1, El2, El3}
use Rattle.tlb.specs.declared.{access.Kind.Kind, access.Privilege.Privilege, Inval.Inval}
use Rattle.tlb.specs.Answers.{Answer, Outcome}
use Rattle.tlb.specs.declared.access.Kind.TheVariants.{Read, Write, Fetch}
use Rattle.tlb.specs.declared.Inval.TheVariants.{All, Page, Asid}
use Rattle.walk.specs.Answers.{Walked}

-- at most one
pub data Slot (A : Type 0) : Type 0 where
  empty : Slot A
  holds : A → Slot A

-- whom a line serves: every ASID, or one
pub data Reach : Type 0 where
  everyone : Reach
  only : ℕ → Reach

-- what a walk of an untagged page in a regime found: the physical page, the rights, the table level
pub record Line : Type 0 where
  pub page : ℕ
  pub regime : Regime
  pub frame : ℕ
  pub perms : ℕ
  pub level : ℕ
  pub reach : Reach

-- a raw page that an access at an exception level was allowed to, and its physical page
pub record Known : Type 0 where
  pub page : ℕ
  pub level : ℕ
  pub frame : ℕ

-- answers from a line and walks, by exception level, 0 to 3; flushes, Pages, and how often all hints went
pub record Counters : Type 0 where
  pub hits : ℕ → ℕ
  pub walks : ℕ → ℕ
  pub flushes : ℕ
  pub drops : ℕ
  pub epoch : ℕ

-- lines by slot number, below 1,024; hints by place, below 512: reads, then writes
pub record Model : Type 0 where
  pub asid : ℕ
  pub lines : ℕ → Slot Line
  pub hints : ℕ → Slot Known
  pub fetch : Slot Known
  pub counts : Counters
  pub pending : Slot Inval

abbrev pub empty_model : Model
empty_model =
    record {
      asid = 0;
      lines = λ i. empty;
      hints = λ i. empty;
      fetch = empty;
      counts = record { hits = λ l. 0; walks = λ l. 0; flushes = 0; drops = 0; epoch = 0 };
      pending = empty;
    }

-- COUNTERS: each goes up by one, and wraps at 2^64

abbrev pub up : ℕ → ℕ
up n = (n + 1) % 2 ^ 64

-- of one level
abbrev pub up_at : ℕ → (ℕ → ℕ) → ℕ → ℕ
up_at level f l = if l == level then up (f l) else f l

abbrev pub one_hit : ℕ → Counters → Counters
one_hit level k = record k { hits = up_at level k.hits }

abbrev pub one_walk : ℕ → Counters → Counters
one_walk level k = record k { walks = up_at level k.walks }

abbrev pub one_flush : Counters → Counters
one_flush k = record k { flushes = up k.flushes }

abbrev pub one_drop : Counters → Counters
one_drop k = record k { drops = up k.drops }

abbrev pub one_epoch : Counters → Counters
one_epoch k = record k { epoch = up k.epoch }

-- the model with other counters
abbrev pub counting : (Counters → Counters) → Model → Model
counting f m = record m { counts = f m.counts }

-- INVALIDATION

-- 18, 9 or 0 low bits of a page number lie within a leaf of level 1, 2 or 3
abbrev pub span_bits : ℕ → ℕ
span_bits (suc zero) = 18
span_bits (suc (suc zero)) = 9
span_bits level = 0

abbrev pub belongs_to : Reach → ℕ → Bool
belongs_to everyone a = false
belongs_to (only b) a = b == a

-- All covers every line; a Page those whose page's low 44 bits agree with its own above the leaf's span; an Asid its own
abbrev pub covers : Inval → Line → Bool
covers All l = true
covers (Page n) l = l.page % 2 ^ 44 / 2 ^ span_bits l.level == n % 2 ^ 44 / 2 ^ span_bits l.level
covers (Asid a) l = belongs_to l.reach a

abbrev pub uncovered : Inval → Slot Line → Slot Line
uncovered what empty = empty
uncovered what (holds l) = if covers what l then empty else holds l

-- All counts as a flush, a Page as a drop, whether it matched or not; each moves the epoch, an Asid nothing else
abbrev pub inval_counted : Inval → Counters → Counters
inval_counted All k = one_epoch (one_flush k)
inval_counted (Page n) k = one_epoch (one_drop k)
inval_counted (Asid a) k = one_epoch k

-- the lines that it covers go, and every hint
unfoldable pub invalidate : Inval → Model → Model
invalidate what m =
    record m { lines = λ i. uncovered what (m.lines i); hints = λ i. empty; fetch = empty; counts = inval_counted what m.counts }

-- another ASID in force: every hint goes
unfoldable pub retag : ℕ → Model → Model
retag a m = record m { asid = a; hints = λ i. empty; fetch = empty; counts = one_epoch m.counts }

-- both All, Pages of one number, or Asids of one number
abbrev pub equal : Inval → Inval → Bool
equal All All = true
equal (Page p) (Page q) = p == q
equal (Asid a) (Asid b) = a == b
equal v w = false

-- a second broadcast that differs from the pending one becomes All; an equal one stays
abbrev pub joined : Slot Inval → Inval → Slot Inval
joined empty what = holds what
joined (holds earlier) what = holds (if equal earlier what then earlier else All)

unfoldable pub broadcast : Inval → Model → Model
broadcast what m = record m { pending = joined m.pending what }

-- LINES

abbrev pub reaches : Reach → ℕ → Bool
reaches everyone a = true
reaches (only b) a = b == a

abbrev pub same_regime : Regime → Regime → Bool
same_regime El1 El1 = true
same_regime El2 El2 = true
same_regime El3 El3 = true
same_regime r s = false

-- the line, where it is of the page and the regime and serves the ASID
abbrev pub serving : ℕ → Regime → ℕ → Slot Line → Slot Line
serving a r p empty = empty
serving a r p (holds l) = if (l.page == p && same_regime l.regime r) && reaches l.reach a then holds l else empty

-- a page's line stands in the slot of its low ten bits
unfoldable pub line_for : Model → Regime → ℕ → Slot Line
line_for m r p = serving m.asid r p (m.lines (p % 1024))

unfoldable pub keep : Line → Model → Model
keep l m = record m { lines = λ i. if i == l.page % 1024 then holds l else m.lines i }

-- HINTS

-- a kind as `data_slot` numbers it
abbrev pub kind_number : Kind → ℕ
kind_number Read = 1
kind_number Write = 2
kind_number Fetch = 4

-- (p xor p >> 5 xor p >> 10) mod 256
unfoldable pub folded : ℕ → ℕ
folded p = bit_xor (bit_xor p (p / 2 ^ 5)) (p / 2 ^ 10) % 256

-- a data hint's place: (kind - 1) * 256, and the raw page folded; a fetch has none below 512
abbrev pub hint_place : Kind → ℕ → ℕ
hint_place kind va = (kind_number kind - 1) * 256 + folded (va / 4096)

-- the physical page of the hint, where it is of the raw page and the level
abbrev pub knowing : ℕ → ℕ → Slot Known → Slot ℕ
knowing p l empty = empty
knowing p l (holds h) = if h.page == p && h.level == l then holds h.frame else empty

abbrev pub keep_hint : ℕ → Known → Model → Model
keep_hint place h m = record m { hints = λ i. if i == place then holds h else m.hints i }

abbrev pub keep_fetch : Known → Model → Model
keep_fetch h m = record m { fetch = holds h }

-- TRANSLATION

-- who asks for what, and what registers and tables say of the address: whether stage 1 is on, the regime, the untagged address, its walk, and
-- how many descriptors that reads
pub record Access : Type 0 where
  pub privilege : Privilege
  pub kind : Kind
  pub va : ℕ
  pub on : Bool
  pub regime : Regime
  pub untagged : ℕ
  pub walk : Walked
  pub reads : ℕ

-- the physical page with the address's low twelve bits
abbrev pub address_in : ℕ → ℕ → Answer
address_in frame va = Ok (frame * 4096 + va % 4096)

-- it is judged as EL0's in regime 1, at level 0, or under the mark unless it is a fetch
abbrev pub as_user : Regime → ℕ → Bool → Kind → Bool
as_user El1 zero mark kind = true
as_user El1 (suc n) mark Fetch = false
as_user El1 (suc n) mark kind = mark
as_user r level mark kind = false

-- the permission bit that it needs, EL0's or the regime's own
abbrev pub need : Kind → Bool → ℕ
need Read true = 1
need Write true = 2
need Fetch true = 4
need Read false = 8
need Write false = 16
need Fetch false = 32

-- 0x0C plus the level, where the line lacks that bit
unfoldable pub judge : Line → Access → Answer
judge l a =
    if l.perms / need a.kind (as_user a.regime a.privilege.level a.privilege.unprivileged a.kind) % 2 == 1
    then address_in l.frame a.va
    else Err (first (12 + l.level))

abbrev pub reach_of : Bool → ℕ → Reach
reach_of true a = everyone
reach_of false a = only a

abbrev pub line_of_leaf : Leaf → Access → ℕ → Line
line_of_leaf leaf a asid =
    record {
      page = a.untagged / 4096;
      regime = a.regime;
      frame = leaf.oa / 4096;
      perms = leaf.perms;
      level = leaf.level;
      reach = reach_of leaf.global asid;
    }

-- a walk counts one at the level of the access, which the mark does not lower; a leaf is kept and judged; a fault is the answer and leaves no
-- line
unfoldable pub walked : Walked → Access → Model → Outcome Model
walked (Err code) a m = record { answer = Err (first code); after = counting (one_walk a.privilege.level) m }
walked (Ok leaf) a m =
    record {
      answer = judge (line_of_leaf leaf a m.asid) a;
      after = keep (line_of_leaf leaf a m.asid) (counting (one_walk a.privilege.level) m);
    }

-- a line that serves is a hit at that level; where none does, the page is walked
unfoldable pub looked : Slot Line → Access → Model → Outcome Model
looked (holds l) a m = record { answer = judge l a; after = counting (one_hit a.privilege.level) m }
looked empty a m = walked a.walk a m

-- with stage 1 off: the untagged address, or an address size fault of level 0 where it has bits above 43
abbrev pub flat : ℕ → Answer
flat u = if u / 2 ^ 44 == 0 then Ok u else Err (first 0)

unfoldable pub unhinted : Bool → Access → Model → Outcome Model
unhinted true a m = looked (line_for m a.regime (a.untagged / 4096)) a m
unhinted false a m = record { answer = flat a.untagged; after = m }

-- an address becomes a hint, a fault does not
abbrev pub known_of : Access → ℕ → Known
known_of a pa = record { page = a.va / 4096; level = a.privilege.level; frame = pa / 4096 }

-- what is known is noted, as a data hint or as the fetch hint
abbrev pub noting : (Known → Model → Model) → Answer → Access → Model → Model
noting note (Ok pa) a m = note (known_of a pa) m
noting note (Err f) a m = m

unfoldable pub noted : (Known → Model → Model) → Access → Outcome Model → Outcome Model
noted note a o = record { answer = o.answer; after = noting note o.answer a o.after }

-- a hint answers and changes nothing
unfoldable pub tried : Slot ℕ → (Known → Model → Model) → Access → Model → Outcome Model
tried (holds frame) note a m = record { answer = address_in frame a.va; after = m }
tried empty note a m = noted note a (unhinted a.on a m)

unfoldable pub hinted : Bool → Access → Model → Outcome Model
hinted true a m = tried (knowing (a.va / 4096) a.privilege.level (m.hints (hint_place a.kind a.va))) (keep_hint (hint_place a.kind a.va)) a m
hinted false a m = unhinted a.on a m

-- hints serve reads and writes, and not while the mark is set
abbrev pub hintable : Kind → Bool → Bool
hintable Fetch mark = false
hintable kind mark = not mark

unfoldable pub translate : Access → Model → Outcome Model
translate a m = hinted (hintable a.kind a.privilege.unprivileged) a m

-- a fetch asks the fetch hint first, whatever the mark, and leaves one; its kind is a fetch's
abbrev pub as_fetch : Access → Access
as_fetch a = record a { kind = Fetch }

unfoldable pub fetch : Access → Model → Outcome Model
fetch a m = tried (knowing (a.va / 4096) a.privilege.level m.fetch) keep_fetch (as_fetch a) m
