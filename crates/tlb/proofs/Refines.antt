-- Each operation on the cache does to the plain model what the requirement says, and keeps the cache well-formed.
use Rattle.std.proofs.Common.{refl, ap, rules, ◌∙◌, arith, length-set}
use Rattle.std.specs.Prelude.{if◌then◌else◌, ◌≡◌, ℕ, ◌+◌, ◌*◌, ◌/◌, ◌%◌, ◌^◌, ◌<◌, ◌≤◌, List, map, length, ◌==◌, None, slice_index_or, slice_set}
use Rattle.std.proofs.lemmas.List.{length-map}
use Rattle.std.proofs.Math.ListN.{length-replicate, get_or-map}
use Rattle.sysreg.specs.declared.regs.Regime.{Regime}
use Rattle.tlb.specs.Tlb.{blank, slot_of, serves, stamped, page_dropped, asid_dropped, no_hint, more, no_tallies, blanks, no_hints, fresh, entry_at}
use Rattle.tlb.specs.Tlb.{hintless, put_of, flush_of, drop_page_of, drop_asid_of, retag_of, invalidate_of, broadcast_of}
use Rattle.tlb.specs.Live.{Each, line_in, line_of, hint_of, fetch_hint_of, pending_of, lines_of, hints_of, counters_of, live, Made, Aligned}
use Rattle.tlb.specs.Live.{WellFormed}
use Rattle.tlb.proofs.Cells.{found, each_map, each-imp, each_set, each-getD, each-replicate, replicate-at, get_d_set, regime-low, line_made}
use Rattle.tlb.proofs.Cells.{page-drops, asid-drops, all-covered, flush-drops}
use Rattle.sysreg.specs.Regs.{index_of}
use Rattle.tlb.specs.Model.{Slot, empty, holds, Line, empty_model, uncovered, invalidate, retag, broadcast, line_for, keep}
use Rattle.tlb.specs.declared.{entry.Entry.Entry, Tlb.Tlb, Inval.Inval}
use Rattle.tlb.specs.declared.Inval.TheVariants.{All, Page, Asid}

-- WITHOUT HINTS

blanks_at : (i : ℕ) → slice_index_or blanks i blank ≡ blank
unfolding blanks
blanks_at i = replicate-at blank 1024 i

no-hints-at : (i : ℕ) → hints_of no_hints i ≡ empty
unfolding hints_of no_hints hint_of
no-hints-at i = ap hint_of (replicate-at no_hint 512 i)

pub blank-made : (g : ℕ) → Made g blank
blank-made g = record { early = omega arith; aligned = refl; level = omega arith }

-- a cache without hints
module _ (t : Tlb) (f : t.fetch ≡ None) (h : t.hints ≡ no_hints) where
  cleared-well : 1 ≤ t.generation → t.generation < 2 ^ 32 → length t.entries ≡ 1024 → length t.levels ≡ 4 → Each (Made t.generation) t.entries → WellFormed t
  unfolding no_hints
  cleared-well first last slots levels entries = grind (arith, length-replicate, each-replicate Aligned no_hint refl 512)

  cleared-live : (ls : ℕ → Slot Line) → ((i : ℕ) → lines_of t.generation t.entries i ≡ ls i)
      → live t ≡ record { asid = t.asid; lines = ls; hints = λ i. empty; fetch = empty; counts = counters_of t; pending = pending_of t.broadcast }
  unfolding fetch_hint_of
  cleared-live ls q = grind (arith, no-hints-at)

blank-lines : (i : ℕ) → lines_of 1 blanks i ≡ empty
unfolding lines_of line_of
blank-lines i = grind (arith, blanks_at)

pub fresh-live : live fresh ≡ empty_model
unfolding no_tallies
fresh-live = cleared-live fresh refl refl (λ i. empty) blank-lines ∙ grind arith

pub fresh-sound : WellFormed fresh
unfolding no_tallies no_hints blanks
fresh-sound = search (rules, length-replicate, each-replicate, blank-made)

-- INVALIDATIONS

-- a map over the entries that drops just what is covered
mapped-lines : (what : Inval) (g : ℕ) (f : Entry → Entry) (es : List Entry) → f blank ≡ blank
    → ((e : Entry) → line_of g (f e) ≡ uncovered what (line_of g e)) → (i : ℕ) → lines_of g (map f es) i ≡ uncovered what (lines_of g es i)
unfolding lines_of
mapped-lines what g f es b q i = grind (arith, get_or-map f es i blank)

page-blank : (g page : ℕ) → page_dropped g page blank ≡ blank
unfolding page_dropped
page-blank g page = grind arith

asid-blank : (asid : ℕ) → asid_dropped asid blank ≡ blank
unfolding asid_dropped
asid-blank asid = grind arith

page-made : (g h page : ℕ) (e : Entry) → Made g e → Made g (page_dropped h page e)
unfolding page_dropped
page-made g h page e m = grind arith

asid-made : (g asid : ℕ) (e : Entry) → Made g e → Made g (asid_dropped asid e)
unfolding asid_dropped
asid-made g asid e m = grind arith

older : (g : ℕ) (e : Entry) → Made g e → Made (g + 1) e
older g e m = record { early = omega arith; aligned = m.aligned; level = m.level }

-- a flush either wraps, and clears the entries, or goes to the next generation, which no entry is of
abbrev wrapped : Tlb → Tlb
wrapped t = record (hintless t) { flushes = more t.flushes; generation = 1; entries = blanks }

abbrev advanced : Tlb → Tlb
advanced t = record (hintless t) { flushes = more t.flushes; generation = t.generation + 1 }

module _ (t : Tlb) (s : WellFormed t) where
  flushed : (P : Tlb → Type 0) → P (wrapped t) → (t.generation + 1 < 2 ^ 32 → P (advanced t)) → P (flush_of t)
  unfolding flush_of
  flushed P w a = grind arith

  emptied : (i : ℕ) → lines_of (t.generation + 1) t.entries i ≡ empty
  unfolding lines_of
  emptied i = flush-drops _ _ (each-getD {P = Made t.generation} blank (blank-made _) s.entries i).early

  pub flush-live : live (flush_of t) ≡ invalidate All (live t)
  unfolding invalidate
  flush-live =
      flushed (λ u. live u ≡ invalidate All (live t)) (search (rules, cleared-live, blank-lines, all-covered))
      (λ h. search (rules, cleared-live, emptied, all-covered))

  pub flush-sound : WellFormed (flush_of t)
  unfolding blanks
  flush-sound =
      flushed WellFormed (search (rules, cleared-well, length-replicate, each-replicate, blank-made))
      (λ h. cleared-well (advanced t) refl refl (omega arith) h s.slots s.levels (each-imp (older t.generation) s.entries))

  pub page-live : (page : ℕ) → live (drop_page_of t page) ≡ invalidate (Page page) (live t)
  unfolding drop_page_of invalidate
  page-live page = search (rules, cleared-live, mapped-lines, page-blank, page-drops)

  pub page-sound : (page : ℕ) → WellFormed (drop_page_of t page)
  unfolding drop_page_of
  page-sound page = search (rules, cleared-well, length-map, each_map, page-made)

  pub asid-live : (asid : ℕ) → live (drop_asid_of t asid) ≡ invalidate (Asid asid) (live t)
  unfolding drop_asid_of retag_of invalidate
  asid-live asid = search (rules, cleared-live, mapped-lines, asid-blank, asid-drops)

  pub asid-sound : (asid : ℕ) → WellFormed (drop_asid_of t asid)
  unfolding drop_asid_of retag_of
  asid-sound asid = search (rules, cleared-well, length-map, each_map, asid-made)

  -- every TLBI
  pub invalidate-live : (what : Inval) → live (invalidate_of t what) ≡ invalidate what (live t)
  unfolding invalidate_of
  invalidate-live what = grind (arith, flush-live, page-live, asid-live)

  pub invalidate-sound : (what : Inval) → WellFormed (invalidate_of t what)
  unfolding invalidate_of
  invalidate-sound what = grind (arith, flush-sound, page-sound, asid-sound)

  pub retag-live : (asid : ℕ) → live (retag_of t asid) ≡ retag asid (live t)
  unfolding retag_of retag
  retag-live asid = search (rules, cleared-live)

  pub retag-sound : (asid : ℕ) → WellFormed (retag_of t asid)
  unfolding retag_of no_hints
  retag-sound asid = search (rules, length-replicate, each-replicate)

-- BROADCAST

pub broadcast-live : (t : Tlb) (what : Inval) → live (broadcast_of t what) ≡ broadcast what (live t)
unfolding broadcast_of broadcast
broadcast-live t what = grind arith

pub broadcast-sound : (t : Tlb) (what : Inval) → WellFormed t → WellFormed (broadcast_of t what)
unfolding broadcast_of
broadcast-sound t what s = search rules

-- LINES

-- the slot of a tag is that of its page
pub slot_is : (r : Regime) (p : ℕ) → slot_of (p * 4 + index_of r) ≡ p % 1024
slot_is r p = omega (arith, regime-low r)

pub line-is : (t : Tlb) (r : Regime) (p : ℕ)
    → line_for (live t) r p
    ≡ (if serves (entry_at t (slot_of (p * 4 + index_of r))) t (p * 4 + index_of r) then holds (line_in r (entry_at t (slot_of (p * 4 + index_of r))))
    else empty)
unfolding line_for lines_of
line-is t r p = grind (arith, slot_is, found)

-- an entry of a regime's page, put into its slot in the present generation
pub kept-lines : (g p : ℕ) (r : Regime) (es : List Entry) (e : Entry) → length es ≡ 1024 → e.generation ≡ g
    → e.tag ≡ p * 4 + index_of r → (i : ℕ)
    → lines_of g (slice_set es (slot_of e.tag) e) i ≡ (if i == e.tag / 4 % 1024 then holds (line_in r e) else lines_of g es i)
unfolding lines_of
kept-lines g p r es e long q w i = rw (get_d_set es (slot_of e.tag) i e blank (rw long (omega arith))) (grind (arith, line_made g p r e q w))

module _ (t : Tlb) (s : WellFormed t) (r : Regime) (p : ℕ) (e : Entry) where
  pub put-live : e.tag ≡ p * 4 + index_of r → live (put_of t e) ≡ keep (line_in r e) (live t)
  unfolding put_of keep
  put-live w = λ n. record (live t) { lines = λ i. kept-lines _ p r t.entries (stamped e t.generation) s.slots refl w i n }

  pub put-sound : e.pa % 4096 ≡ 0 → e.level ≤ 3 → WellFormed (put_of t e)
  unfolding put_of
  put-sound a l = search (rules, length-set, each_set)
