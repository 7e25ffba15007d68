-- What a load answers and a store leaves, byte by byte.
use Rattle.std.specs.Prelude.{◌≡◌, ℕ, zero, suc, ◌+◌, ◌-◌, ◌*◌, ◌/◌, ◌%◌, ◌^◌, ◌<◌, ◌≤◌, true, false, List, length, ◌≢◌, slice_index, Option, Ok}
use Rattle.std.proofs.Math.Path.{ap}
use Rattle.std.proofs.Common.{sym, ◌∙◌, mod-eq_of_lt, div-one, le-leb}
use Rattle.std.proofs.Math.Nat.{mod-mod}
use native.Mathlib.Omega.{arith}
use Rattle.word.specs.Bits.{wrap}
use Rattle.word.specs.Ram.{within, word_at, stored}
use Rattle.word.proofs.RamLaws.{within_low, within-high, digit-next, byte_of, written_byte}
use Rattle.tlb.specs.declared.access.Kind.{Kind}
use Rattle.tlb.specs.declared.access.Kind.TheVariants.{Read, Write}
use Rattle.cpu.specs.Bytes.{Placed, byte_at, verdict_of, address_in, byte_in, split_value, split_stored, value_at, load_of}
use Rattle.cpu.specs.Bytes.{store_ram, load_end, store_end, store_ram_end}
use Rattle.cpu.proofs.BytesLaws.{all-inside, stored-length, split-length, split-leaves}
use Rattle.cpu.specs.Core.{after_access}
use Rattle.cpu.specs.Memory.{located_of, stepped_now, located_now, translate_of, read_of, write_of, ram_after_write}
use Rattle.cpu.specs.Asks.{on_now}
use Rattle.cpu.proofs.OpLaws.{write-leaves}
use Rattle.cpu.specs.declared.Core.{Core}
use Rattle.cpu.specs.declared.{place.Pages.Pages, place.Place.Place}
use Rattle.cpu.specs.declared.place.Place.TheVariants.{Whole, Split}
use Rattle.cpu.proofs.OwnAddress.{Own, lies-own}
use Rattle.cpu.specs.OwnAddress.{LoadsOwnBytes, StoreLeavesOthers, StoresOwnBytes, LoadsFlatBytes, StoresFlatBytes}

-- a byte of RAM
small-in : (base : ℕ) (ram : List ℕ) (pa : ℕ) → ((k : ℕ) → slice_index ram k < 256) → byte_in base ram pa < 256
unfolding byte_in
small-in base ram pa small = grind arith

there-in : (base : ℕ) (ram : List ℕ) (pa : ℕ) → base ≤ pa → pa < base + length ram → byte_in base ram pa ≡ slice_index ram (pa - base)
unfolding byte_in
there-in base ram pa h k = grind (arith, le-leb)

stored-byte : (base : ℕ) (ram : List ℕ) (n pa v i : ℕ) → base ≤ pa → pa + n ≤ base + length ram → i < n
    → slice_index (stored base ram n pa v) (pa - base + i) ≡ v / 256 ^ i % 256
unfolding stored
stored-byte base ram n pa v i h k l = grind (arith, written_byte, le-leb)

-- the byte of a store of one, and one that none of a split store's is
stored-here : (base : ℕ) (ram : List ℕ) (q v : ℕ) → within base (length ram) 1 q ≡ true → byte_in base (stored base ram 1 q v) q ≡ v % 256
unfolding byte_in stored
stored-here base ram q v w =
    grind (arith, written_byte ram (q - base) 1 v 0, within_low, within-high, le-leb, stored-length base ram 1 q v, div-one)

split-stays : (base : ℕ) (p : Pages) (v s n q : ℕ) (ram : List ℕ) → ((i : ℕ) → s ≤ i → i < s + n → q ≢ byte_at p i)
    → byte_in base (split_stored base p v s n ram) q ≡ byte_in base ram q
unfolding byte_in
split-stays base p v s n q ram none = grind (arith, split-leaves base p v s n (q - base) ram, split-length base p v s n ram, within_low)

-- the byte at byte i's place is byte i - s of a split value
split-digit : (base : ℕ) (ram : List ℕ) (p : Pages) (s n i : ℕ) → ((k : ℕ) → slice_index ram k < 256) → s ≤ i → i < s + n
    → split_value base ram p s n / 256 ^ (i - s) % 256 ≡ byte_in base ram (byte_at p i)
unfolding split_value
split-digit base ram p s zero i small low h = absurd (omega arith)
split-digit base ram p s (suc n) i small low h =
    grind (
      arith,
      div-one,
      small-in base ram (byte_at p s) small,
      digit-next (split_value base ram p (s + 1) n * 256 + byte_in base ram (byte_at p s)) (i - (s + 1)),
      split-digit base ram p (s + 1) n i small,
    )

-- after a split store, the byte at byte i's place is byte i - s of the value, unless a later byte has the same place
split-byte : (base : ℕ) (p : Pages) (v s n i : ℕ) (ram : List ℕ) → s ≤ i → i < s + n → within base (length ram) 1 (byte_at p i) ≡ true
    → ((j : ℕ) → i < j → j < s + n → byte_at p j ≢ byte_at p i)
    → byte_in base (split_stored base p v s n ram) (byte_at p i) ≡ v / 256 ^ (i - s) % 256
unfolding split_stored
split-byte base p v s zero i ram low h w last = absurd (omega arith)
split-byte base p v s (suc n) i ram low h w last =
    let one : List ℕ = stored base ram 1 (byte_at p s) v in
    grind (
      arith,
      div-one,
      stored-here base ram (byte_at p s) v,
      stored-length base ram 1 (byte_at p s) v,
      split-stays base p (v / 256) (s + 1) n (byte_at p i) one,
      digit-next v (i - (s + 1)),
      split-byte base p (v / 256) (s + 1) n i one,
    )

-- BYTES OF AN ACCESS THAT LIES IN RAM

module _ (base : ℕ) (ram : List ℕ) (n i : ℕ) (window : base + length ram ≤ 2 ^ 64) (h : i < n) where
  in_window : (place : Place) → verdict_of base (length ram) place n ≡ Ok tt → within base (length ram) 1 (wrap (address_in place i)) ≡ true
  unfolding verdict_of
  in_window place e = grind (arith, le-leb, within_low, within-high, mod-eq_of_lt, mod-mod, all-inside)

  wraps : (place : Place) → verdict_of base (length ram) place n ≡ Ok tt → wrap (address_in place i) ≡ address_in place i
  unfolding verdict_of
  wraps place e = grind (arith, mod-eq_of_lt, within-high, mod-mod)

  value-byte : ((k : ℕ) → slice_index ram k < 256) → (place : Place) → verdict_of base (length ram) place n ≡ Ok tt
      → value_at base ram place n / 256 ^ i % 256 ≡ byte_in base ram (wrap (address_in place i))
  unfolding verdict_of
  value-byte small (Whole pa) e = grind (arith, wraps (Whole pa), within_low, within-high, byte_of, there-in)
  value-byte small (Split p) e = grind (arith, wraps (Split p), split-digit base ram p 0 n i)

  store-digit : (v : ℕ) (place : Place) → verdict_of base (length ram) place n ≡ Ok tt
      → ((j : ℕ) → i < j → j < n → wrap (address_in place j) ≢ wrap (address_in place i))
      → byte_in base (store_ram base ram place n v) (wrap (address_in place i)) ≡ v / 256 ^ i % 256
  unfolding store_ram verdict_of
  store-digit v (Whole pa) e last =
      grind (arith, wraps (Whole pa), within_low, within-high, stored-length base ram n pa v, there-in, stored-byte base ram n pa v i)
  store-digit v (Split p) e last = grind (arith, wraps (Split p), mod-mod, all-inside base (length ram) p 0 n e i, split-byte base p v 0 n i ram)

-- WHAT AN ANSWER SAYS OF ITS PLACE

module _ (c : Core) (base : ℕ) (ram : List ℕ) (va n : ℕ) where
  abbrev placed_for : Kind → Placed
  placed_for kind = (located_now c (word_at base ram 8) va n kind).placed

  record Loaded (v : ℕ) : Type 0 where
    place : Place
    placed : placed_for Read ≡ Ok place
    inside : verdict_of base (length ram) place n ≡ Ok tt
    value : v ≡ value_at base ram place n

  loaded : (v : ℕ) → (read_of c base ram va n).answer ≡ Ok v → Loaded v
  unfolding read_of load_end load_of
  loaded v = grind arith

  record Done : Type 0 where
    place : Place
    placed : placed_for Write ≡ Ok place
    inside : verdict_of base (length ram) place n ≡ Ok tt

  done : (write_of c base ram va n).answer ≡ Ok tt → Done
  unfolding write_of store_end
  done = grind arith

pub load_byte : LoadsOwnBytes
load_byte c base ram va n v i ready small e h =
    let l = loaded c base ram va n v e in
    let w = lies-own c base ram va n Read ready i h l.place l.placed in (
      record { pa = w.pa; answer = w.answer; inside = rw w.there (in_window base ram n i ready.window h l.place l.inside) },
      ap (λ (x : ℕ). x / 256 ^ i % 256) l.value
          ∙ value-byte base ram n i ready.window h small l.place l.inside
          ∙ ap (byte_in base ram) (sym w.there),
    )

pub store_byte : StoresOwnBytes
unfolding ram_after_write store_ram_end
store_byte c base ram va n v i ready e h =
    let d = done c base ram va n e in
    let own : (j : ℕ) → j < n → Own c (word_at base ram 8) va Write j d.place
    = λ j k. lies-own c base ram va n Write ready j k d.place d.placed in
    let w = own i h in (
      record { pa = w.pa; answer = w.answer; inside = rw w.there (in_window base ram n i ready.window h d.place d.inside) },
      λ last. rw (d.placed, w.there) (store-digit base ram n i ready.window h v d.place d.inside
          (λ j a b q. last j (own j b).pa a b (own j b).answer ((own j b).there ∙ q ∙ sym w.there))),
    )

pub store-others : StoreLeavesOthers
store-others c base ram va n v k ready h none =
    write-leaves c base ram va n v k
    (λ place e i l q.
    let w = lies-own c base ram va n Write ready i l place e in
    let window : base + length ram ≤ 2 ^ 64 = ready.window in
    let fits : wrap (base + k) ≡ base + k = mod-eq_of_lt (omega arith) in
    none i w.pa l w.answer (w.there ∙ ap wrap (sym q) ∙ fits))

-- WITH STAGE 1 OFF an access of n bytes is one translation, of its first byte, and lies whole from there on, also past 2^44

module _ (c : Core) (memory : ℕ → Option ℕ) (va n pa : ℕ) (kind : Kind) where
  flat-placed : on_now c ≡ false → (translate_of c memory va kind).answer ≡ Ok pa → (located_now c memory va n kind).placed ≡ Ok (Whole pa)
  unfolding translate_of stepped_now located_now located_of after_access
  flat-placed off e = rw (off, e)

flat-verdict : (base len n pa : ℕ) → within base len n pa ≡ true → verdict_of base len (Whole pa) n ≡ Ok tt
unfolding verdict_of
flat-verdict base len n pa h = rw h

pub load-flat : LoadsFlatBytes
unfolding read_of load_end load_of
load-flat c base ram va n pa off room small e inside =
    let d = flat-verdict base (length ram) n pa inside in (
      value_at base ram (Whole pa) n,
      rw (flat-placed c (word_at base ram 8) va n pa Read off e, d),
      λ i h. value-byte base ram n i room h small (Whole pa) d ∙ ap (byte_in base ram) (wraps base ram n i room h (Whole pa) d),
    )

pub store-flat : StoresFlatBytes
unfolding write_of store_end ram_after_write store_ram_end
store-flat c base ram va n v pa off room e inside =
    let d = flat-verdict base (length ram) n pa inside in
    let at : (i : ℕ) → i < n → wrap (pa + i) ≡ pa + i = λ i h. wraps base ram n i room h (Whole pa) d in
    let place = flat-placed c (word_at base ram 8) va n pa Write off e in (
      rw (place, d),
      λ i h. rw (place) (ap (byte_in base (store_ram base ram (Whole pa) n v)) (sym (at i h))
          ∙ store-digit base ram n i room h v (Whole pa) d (λ j a b q. let x = at i h in let y = at j b in omega arith)),
    )
