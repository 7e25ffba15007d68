-- Hints as the code keeps them: by a key that holds the raw page and the level.
use Rattle.std.specs.Prelude.{if◌then◌else◌, ℕ, ◌+◌, ◌-◌, ◌*◌, ◌/◌, ◌%◌, ◌^◌, Bool, ◌&&◌, ◌==◌, Option, Some, None, bit_or, bit_xor, false, not, ◌||◌}
use Rattle.std.specs.Prelude.{List, replicate, slice_index_or, slice_set, true, map}
use Rattle.walk.specs.declared.level.Leaf.{Leaf}
use Rattle.tlb.specs.declared.{access.Kind.Kind, hint.Hint.Hint, hint.FetchHint.FetchHint, entry.Entry.Entry, Tlb.Tlb, count.Tally.Tally, Inval.Inval}
use Rattle.tlb.specs.declared.access.Kind.TheVariants.{Read, Write, Fetch}
use Rattle.tlb.specs.declared.Inval.TheVariants.{All, Page, Asid}

-- the hint that matches no key
abbrev pub no_hint : Hint
no_hint = record { key = 2 ^ 64 - 1; pa = 0 }

-- the address of an address's page
abbrev pub page_of : ℕ → ℕ
page_of va = va / 4096 * 4096

-- the physical page pa, with the low twelve bits of va
abbrev pub on_page : ℕ → ℕ → ℕ
on_page pa va = bit_or pa (va % 4096)

-- a page's place among 256
unfoldable pub place_of : ℕ → ℕ
place_of page = bit_xor (bit_xor page (page / 2 ^ 5)) (page / 2 ^ 10) % 256

-- reads in the first 256, writes in the next; a fetch has no place below 512
abbrev pub first_place : Kind → ℕ
first_place Read = 0
first_place Write = 256
first_place Fetch = 768

abbrev pub data_slot : ℕ → Kind → ℕ
data_slot va kind = first_place kind + place_of (va / 4096)

abbrev pub hint_key : ℕ → ℕ → ℕ
hint_key va level = page_of va + level

abbrev pub hint_for : ℕ → ℕ → ℕ → Hint
hint_for va level pa = record { key = hint_key va level; pa = page_of pa }

abbrev pub hint_found : Hint → ℕ → ℕ → Option ℕ
hint_found h level va = if h.key == hint_key va level then Some (on_page h.pa va) else None

abbrev pub fetch_for : ℕ → ℕ → ℕ → FetchHint
fetch_for va level pa = record { page = page_of va; level = level; pa = page_of pa }

abbrev pub fetch_serves : FetchHint → ℕ → ℕ → Bool
fetch_serves f level va = f.page == page_of va && f.level == level

abbrev pub fetch_found : Option FetchHint → ℕ → ℕ → Option ℕ
fetch_found None level va = None
fetch_found (Some f) level va = if fetch_serves f level va then Some (on_page f.pa va) else None

-- One entry as the code keeps it: by a tag and a generation.

-- an entry that answers for no tag
abbrev pub blank : Entry
blank = record { tag = 0; generation = 0; perms = 0; level = 0; global = false; asid = 0; pa = 0 }

-- the entry that a leaf becomes
abbrev pub entry_for : Leaf → ℕ → ℕ → Entry
entry_for leaf asid tag =
    record {
      tag = tag;
      generation = 0;
      perms = leaf.perms;
      level = leaf.level;
      global = leaf.global;
      asid = asid;
      pa = page_of leaf.oa;
    }

-- the low ten bits of the page of a tag
abbrev pub slot_of : ℕ → ℕ
slot_of tag = tag / 4 % 1024

-- it has the tag, is of the present generation, and is global or of the ASID in force
abbrev pub serves : Entry → Tlb → ℕ → Bool
serves e t tag = (e.tag == tag && e.generation == t.generation) && (e.global || e.asid == t.asid)

abbrev pub stamped : Entry → ℕ → Entry
stamped e g =
    record e { generation = g }

-- how many low bits of a page number a leaf of the level spans
abbrev pub span_of : ℕ → ℕ
span_of level = if level == 1 then 18 else if level == 2 then 9 else 0

-- two pages agree in their low 44 bits above those that a leaf of the level spans
abbrev pub same_page : ℕ → ℕ → ℕ → Bool
same_page level p q = p % 2 ^ 44 / 2 ^ span_of level == q % 2 ^ 44 / 2 ^ span_of level

-- a Page drops it where it is of the generation and its leaf spans the page
unfoldable pub page_dropped : ℕ → ℕ → Entry → Entry
page_dropped g page e = if e.generation == g && same_page e.level (e.tag / 4) page then record e { tag = 0 } else e

-- an Asid drops what is not global and was walked for it, of whatever generation
unfoldable pub asid_dropped : ℕ → Entry → Entry
asid_dropped n e = if not e.global && e.asid == n then record e { tag = 0 } else e

-- Hits and walks, by exception level. Each count wraps at 2^64.
abbrev pub more : ℕ → ℕ
more n = (n + 1) % 2 ^ 64

abbrev pub no_tally : Tally
no_tally = record { hits = 0; walks = 0 }

unfoldable pub no_tallies : List Tally
no_tallies = replicate 4 no_tally

abbrev pub tally_at : Tlb → ℕ → Tally
tally_at t i = slice_index_or t.levels i no_tally

-- a level has two bits
abbrev pub level_place : ℕ → ℕ
level_place level = level % 4

abbrev pub tally_moved : (Tally → Tally) → ℕ → Tlb → Tlb
tally_moved f level t = record t { levels = slice_set t.levels (level_place level) (f (tally_at t (level_place level))) }

-- a hit, a walk at a level
abbrev pub hit_counted : ℕ → Tlb → Tlb
hit_counted level t = tally_moved (λ n. record n { hits = more n.hits }) level t

abbrev pub walk_counted : ℕ → Tlb → Tlb
walk_counted level t = tally_moved (λ n. record n { walks = more n.walks }) level t

-- What each operation of the cache does, on the code's own types.
unfoldable pub blanks : List Entry
blanks = replicate 1024 blank

unfoldable pub no_hints : List Hint
no_hints = replicate 512 no_hint

abbrev pub fresh : Tlb
fresh =
    record {
      generation = 1;
      asid = 0;
      entries = blanks;
      fetch = None;
      hints = no_hints;
      levels = no_tallies;
      flushes = 0;
      drops = 0;
      epoch = 0;
      broadcast = None;
    }

abbrev pub entry_at : Tlb → ℕ → Entry
entry_at t i = slice_index_or t.entries i blank

abbrev pub hint_at : Tlb → ℕ → Hint
hint_at t i = slice_index_or t.hints i no_hint

-- ENTRIES

-- the entry in the slot of the tag, where it answers for it
unfoldable pub get_of : Tlb → ℕ → Option Entry
get_of t tag = if serves (entry_at t (slot_of tag)) t tag then Some (entry_at t (slot_of tag)) else None

-- into its slot, in the present generation
unfoldable pub put_of : Tlb → Entry → Tlb
put_of t e = record t { entries = slice_set t.entries (slot_of e.tag) (stamped e t.generation) }

-- INVALIDATIONS: each empties all hints, which the epoch counts

abbrev pub hintless : Tlb → Tlb
hintless t = record t { fetch = None; hints = no_hints; epoch = more t.epoch }

-- the generation wraps at 2^32
abbrev pub next_generation : ℕ → ℕ
next_generation g = (g + 1) % 2 ^ 32

-- all out: the next generation; where it wraps, the entries are cleared and it is 1
unfoldable pub flush_of : Tlb → Tlb
flush_of t =
    if next_generation t.generation == 0
    then record (hintless t) { flushes = more t.flushes; generation = 1; entries = blanks }
    else record (hintless t) { flushes = more t.flushes; generation = next_generation t.generation }

unfoldable pub drop_page_of : Tlb → ℕ → Tlb
drop_page_of t page = record (hintless t) { drops = more t.drops; entries = map (page_dropped t.generation page) t.entries }

unfoldable pub retag_of : Tlb → ℕ → Tlb
retag_of t n = record (hintless t) { asid = n }

unfoldable pub drop_asid_of : Tlb → ℕ → Tlb
drop_asid_of t n = retag_of (record t { entries = map (asid_dropped n) t.entries }) t.asid

unfoldable pub invalidate_of : Tlb → Inval → Tlb
invalidate_of t All = flush_of t
invalidate_of t (Page page) = drop_page_of t page
invalidate_of t (Asid n) = drop_asid_of t n

-- WHAT IS PENDING

abbrev pub same_inval : Inval → Inval → Bool
same_inval All All = true
same_inval (Page p) (Page q) = p == q
same_inval (Asid n) (Asid m) = n == m
same_inval v w = false

-- nothing pending: this; the same pending: it stays; another: All
abbrev pub pending_after : Option Inval → Inval → Option Inval
pending_after None what = Some what
pending_after (Some earlier) what = Some (if same_inval earlier what then what else All)

unfoldable pub broadcast_of : Tlb → Inval → Tlb
broadcast_of t what = record t { broadcast = pending_after t.broadcast what }

-- What TLB maintenance does to the cache: that of a TLBI, and that of a register write, by the scope's rule.

-- a TLBI is carried out, and where it reaches other cores it is left pending
unfoldable pub invalidated_of : Tlb → Inval → Bool → Tlb
invalidated_of t what shared = if shared then broadcast_of (invalidate_of t what) what else invalidate_of t what

-- A register write does `write_reg`; then, where `shaping` changed, it flushes; then, where `asid` differs from
-- the cache's, it retags."
unfoldable pub reshaped_of : Tlb → Bool → Tlb
reshaped_of t same = if same then t else flush_of t

unfoldable pub retagged_of : Tlb → ℕ → Tlb
retagged_of t asid = if t.asid == asid then t else retag_of t asid

abbrev pub refit_by : Tlb → Bool → ℕ → Tlb
refit_by t same asid = retagged_of (reshaped_of t same) asid
