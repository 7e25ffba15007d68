-- A status is a byte, of every core that its type allows: a walk's is below 24, a permission fault's is 0x0C or the
-- level of an entry, a flat address's is 0 and an external abort's 0x10. So a call's number is below 512.
use Rattle.std.specs.Prelude.{if◌then◌else◌, ◌≡◌, refl, true, false, Bool, List, [], ◌∷◌, length, ℕ, zero, suc, ◌^◌, ◌<◌, slice_index_or, slice_set}
use Rattle.std.specs.Prelude.{Option, Some, None, Ok, Err, bit_or}
use Rattle.std.proofs.Common.{arith}
use Rattle.std.proofs.lemmas.Nat.{or_of_8}
use Rattle.fault.specs.First.{first}
use Rattle.walk.specs.Answers.{Walked}
use Rattle.walk.specs.Walk.{flat_by}
use Rattle.walk.specs.Regime.{stage1_on, untagged}
use Rattle.sysreg.specs.Regs.{regime_of}
use Rattle.walk.specs.declared.{regime.Bank.Bank}
use Rattle.walk.proofs.WalkBounds.{leaf-bounds, fault-status, status-small}
use Rattle.tlb.specs.Access.{flat_answer, flat_end, judged, has_right, right_of, may_hint, user_of}
use Rattle.tlb.specs.Answers.{Answer, Outcome}
use Rattle.tlb.specs.Tlb.{blank, entry_for, slot_of, data_slot, fetch_found, hint_for, on_page, entry_at, get_of, put_of}
use Rattle.tlb.specs.Live.{Each, done, more}
use Rattle.tlb.proofs.Cells.{each_set, each-getD}
use Rattle.tlb.specs.Model.{Access}
use Rattle.tlb.specs.Translate.{access_of, tag_in, walked_in, looked_in, miss_in, hint_in, hint_left, tried_in, translation_in, fetch_tried, fetch_in}
use Rattle.tlb.specs.declared.{access.Kind.Kind, access.Privilege.Privilege, entry.Entry.Entry, Tlb.Tlb}
use Rattle.tlb.specs.declared.access.Kind.TheVariants.{Fetch}
use Rattle.cpu.specs.Core.{bank_now}
use Rattle.cpu.specs.Memory.{located_now, stepped_now, fetch_stepped_now, one_page, both_pages, translate_in, translate_fetch_in, located_of}
use Rattle.cpu.specs.declared.Core.{Core}
use Rattle.cpu.specs.Bytes.{Placed, next_page, crosses, goes_on, placed_one, placed_both}
use Rattle.saved.specs.Fits.{Fits}

abbrev pub Byte : Answer → Type 0
Byte (Ok pa) = Unit {0}
Byte (Err f) = f.fsc < 2 ^ 8

abbrev Levels : Tlb → Type 0
Levels t = Each (λ e. e.level < 2 ^ 8) t.entries

judged-byte : (e : Entry) (user : Bool) (kind : Kind) (va : ℕ) → e.level < 2 ^ 8 → Byte (judged e user kind va)
unfolding judged
judged-byte e user kind va h = go (has_right e.perms (right_of kind user))
  where
    go : (b : Bool) → Byte (if b then Ok (on_page e.pa va) else Err (first (bit_or 12 e.level)))
    go true = tt
    go false = or_of_8 12 e.level (omega arith) h

flat-byte : (o : Option ℕ) → Byte (flat_end o)
flat-byte (Some pa) = tt
flat-byte None = omega arith

-- ONE TRANSLATION: its answer, and the cache that it leaves

abbrev Kept : Outcome Tlb → Type 0
Kept o = Byte o.answer × Levels o.after

module _ (s : Bank) (privilege : Privilege) (memory : ℕ → Option ℕ) (va : ℕ) (kind : Kind) where
  abbrev asks : Access
  asks = access_of s privilege va kind memory

  walked-kept : (t : Tlb) (w : Walked) → asks.walk ≡ w → Levels t → Kept (walked_in w asks t)
  unfolding walked_in put_of
  walked-kept t (Ok leaf) e l =
      let b = leaf-bounds s (regime_of privilege.level) (untagged s.tcr (regime_of privilege.level) va) memory leaf e in
      let low : leaf.level < 2 ^ 8 = omega (arith, b.level-high) in
      (judged-byte (entry_for leaf t.asid (tag_in asks)) (user_of asks.regime privilege kind) kind va low, each_set _ low l _)
  walked-kept t (Err code) e l =
      let b = status-small code (fault-status s (regime_of privilege.level) (untagged s.tcr (regime_of privilege.level) va) memory code e) in
      (omega (arith, b), l)

  miss-kept : (t : Tlb) → Levels t → Kept (miss_in asks t)
  unfolding miss_in get_of
  miss-kept t l = go asks.on
    where
      looked : (b : Bool) → Kept (looked_in (if b then Some (entry_at t (slot_of (tag_in asks))) else None) asks t)
      looked true = (judged-byte (entry_at t (slot_of (tag_in asks))) (user_of asks.regime privilege kind) kind va (each-getD blank (omega arith) l _), l)
      looked false = walked-kept t asks.walk refl l

      go : (b : Bool) → Kept (if b then looked_in (get_of t (tag_in asks)) asks t else record { answer = flat_answer asks.untagged; after = t })
      go true = looked _
      go false = (flat-byte (flat_by asks.untagged), l)

  hint-kept : (a : Answer) (t : Tlb) → Levels t → Levels (hint_left privilege va kind a t)
  hint-kept (Ok pa) t l = go (may_hint privilege kind)
    where
      go : (b : Bool) → Levels (if b then record t { hints = slice_set t.hints (data_slot va kind) (hint_for va privilege.level pa) } else t)
      go true = l
      go false = l
  hint-kept (Err f) t l = l

  translation-kept : (t : Tlb) → Levels t → Kept (translation_in asks t)
  translation-kept t l = go (hint_in privilege va kind t)
    where
      go : (h : Option ℕ) → Kept (tried_in h asks t)
      go (Some pa) = (tt, l)
      go None = let m = miss-kept t l in (m.0, hint-kept (miss_in asks t).answer (miss_in asks t).after m.1)

module _ (s : Bank) (privilege : Privilege) (memory : ℕ → Option ℕ) (va : ℕ) where
  abbrev fetches : Access
  fetches = access_of s privilege va Fetch memory

  fetch-byte : (t : Tlb) → Levels t → Byte (fetch_in fetches t).answer
  fetch-byte t l = go (fetch_found t.fetch privilege.level va)
    where
      go : (h : Option ℕ) → Byte (fetch_tried h fetches t).answer
      go (Some pa) = tt
      go None = (miss-kept s privilege memory va Fetch t l).0

-- AN ACCESS

abbrev pub PlacedByte : Placed → Type 0
PlacedByte (Ok place) = Unit {0}
PlacedByte (Err failed) = failed.fault.fsc < 2 ^ 8

one-byte : (va : ℕ) (a : Answer) → Byte a → PlacedByte (placed_one va a)
one-byte va (Ok pa) b = tt
one-byte va (Err f) b = b

both-byte : (va : ℕ) (a b : Answer) → Byte a → Byte b → PlacedByte (placed_both va a b)
both-byte va (Ok pa) (Ok pb) x y = tt
both-byte va (Ok pa) (Err f) x y = y
both-byte va (Err f) b x y = x

levels-of : (l : List Entry) (n : ℕ) → length l ≡ n → ((j : ℕ) → j < n → (slice_index_or l j blank).level < 2 ^ 8) → Each (λ e. e.level < 2 ^ 8) l
levels-of [] n e f = done
levels-of (x ∷ l) zero e f = absurd (omega (arith, e))
levels-of (x ∷ l) (suc n) e f = more (f 0 (omega arith)) (levels-of l n (omega (arith, e)) (λ j h. f (suc j) (omega (arith, h))))

module _ (c : Core) (fits : Fits c) where
  levels : Levels c.tlb
  levels = levels-of c.tlb.entries 1024 fits.parts.entries (λ j h. (fits.entries j h).level)

  pub stepped-byte : (memory : ℕ → Option ℕ) (va : ℕ) (kind : Kind) → Byte (stepped_now c memory va kind).answer
  unfolding stepped_now translate_in
  stepped-byte memory va kind = (translation-kept (bank_now c) c.privilege memory va kind c.tlb levels).0

  pub fetched-byte : (memory : ℕ → Option ℕ) (va : ℕ) → Byte (fetch_stepped_now c memory va).answer
  unfolding fetch_stepped_now translate_fetch_in
  fetched-byte memory va = fetch-byte (bank_now c) c.privilege memory va c.tlb levels

  pub located-byte : (memory : ℕ → Option ℕ) (va n : ℕ) (kind : Kind) → PlacedByte (located_now c memory va n kind).placed
  unfolding located_now located_of translate_in
  located-byte memory va n kind =
      go (goes_on (translate_in (bank_now c) c.privilege memory va kind c.tlb).answer (crosses (stage1_on (bank_now c) (regime_of c.privilege.level)) va n))
    where
      own : Kept (translation_in (access_of (bank_now c) c.privilege va kind memory) c.tlb)
      own = translation-kept (bank_now c) c.privilege memory va kind c.tlb levels

      go : (b : Bool) → PlacedByte
          (if b then both_pages va (translate_in (bank_now c) c.privilege memory va kind c.tlb).answer
          (translate_in (bank_now c) c.privilege memory (next_page va) kind (translate_in (bank_now c) c.privilege memory va kind c.tlb).tlb)
          else one_page va (translate_in (bank_now c) c.privilege memory va kind c.tlb)).placed
      go true = both-byte va _ _ own.0 (translation-kept (bank_now c) c.privilege memory (next_page va) kind _ own.1).0
      go false = one-byte va _ own.0
