-- Of an access over two pages the lowest failing byte decides.
use Rattle.std.proofs.Common.{◌≡◌, ℕ, ◌+◌, ◌^◌, ◌<◌, ◌≤◌, Bool, true, false, length, refl, arith}
use Rattle.std.proofs.Common.{lt-ltb, ◌%◌, List}
use Rattle.std.specs.Prelude.{nat_lt, Option, Some, None, Ok, Err, unwrap_or}
use Rattle.word.specs.Bits.{wrap}
use Rattle.word.specs.Ram.{within, word_at}
use Rattle.fault.specs.declared.Fault.{Fault}
use Rattle.tlb.specs.Answers.{Answer}
use Rattle.tlb.specs.declared.access.Kind.{Kind}
use Rattle.tlb.specs.declared.access.Kind.TheVariants.{Read, Write}
use Rattle.cpu.specs.Bytes.{Verdict, outside_at, in_page, byte_at, first_outside, first_part}
use Rattle.cpu.specs.Bytes.{verdict_of, value_at, load_of, external, data_abort}
use Rattle.cpu.specs.Bytes.{load_end, store_end, store_ram_end, Placed, placed_both}
use Rattle.cpu.specs.Crossing.{byte_fails, byte_lies, LowestFails, NoneFails, LoadFails, StoreFails, NoneAborts, AbortsAt, LastStays}
use Rattle.cpu.specs.Crossing.{HalfMovesNothing, OnePageStays, CrossingsStay, TheseChange, own_fails, own_lies}
use Rattle.cpu.specs.Crossing.{Crosses, LowestOwn, LoadDecided, StoreDecided, NoneDecides}
use Rattle.cpu.specs.declared.place.Pages.{Pages}
use Rattle.cpu.specs.declared.place.Place.TheVariants.{Split}
use Rattle.cpu.proofs.BytesLaws.{judged-at, judged-inside, first-out}
use Rattle.cpu.specs.Says.{verdict_in}
use Rattle.cpu.specs.Core.{after_access}
use Rattle.cpu.specs.Memory.{located_of, located_now, read_of, write_of}
use Rattle.cpu.specs.OwnAddress.{Ready}
use Rattle.cpu.specs.declared.Core.{Core}
use Rattle.cpu.proofs.OwnAddress.{first, second, own-page, offsets}

abbrev pages : ℕ → ℕ → ℕ → Pages
pages va pa pa2 = record { in_page = in_page va; pa = pa; pa2 = pa2 }

-- why the lowest failing byte fails: it lies outside RAM, or else its page's translation faults
data Decided (judged : Verdict) (placed : Placed) (lies : Option ℕ) (va i : ℕ) (f : Fault) : Type 0 where
  by-byte : (pa : ℕ) → judged ≡ Err (outside_at i pa) → lies ≡ Some pa → f ≡ external → Decided judged placed lies va i f
  by-page : (part : Option ℕ) → judged ≡ Ok tt → placed ≡ Err (record { addr = wrap (va + i); fault = f; first = part }) → lies ≡ None
      → Decided judged placed lies va i f

module _ (base : ℕ) (ram : List ℕ) (va n i : ℕ) (f : Fault) (wide : va < 2 ^ 64) (cross : in_page va < n) where
  abbrev Decides : Answer → Answer → Type 0
  Decides a b = Decided (verdict_in base ram va n (placed_both va a b)) (placed_both va a b) (byte_lies va a b i) va i f

  decided : (a b : Answer) → LowestFails base (length ram) va a b n i f → Decides a b
  unfolding verdict_of
  decided (Err g) b l = by-page None refl (grind (arith, l.before 0)) (grind (arith, l.before 0))
  decided (Ok pa) (Ok pa2) l =
      by-byte (byte_at (pages va pa pa2) i) (grind (arith, judged-at base (length ram) (pages va pa pa2) 0 n i)) (grind arith) (grind arith)
  decided (Ok pa) (Err g) l = half (nat_lt i (in_page va)) refl
    where
      half : (b : Bool) → nat_lt i (in_page va) ≡ b → Decides (Ok pa) (Err g)
      half true e = by-byte (wrap (pa + i)) (grind (arith, judged-at base (length ram) (pages va pa 0) 0 (in_page va) i)) (grind arith) (grind arith)
      half false e =
          let at : i ≡ in_page va = grind (arith, l.before (in_page va)) in
          by-page (Some pa) (grind (arith, judged-inside base (length ram) (pages va pa 0) 0 (in_page va))) (grind arith) (grind arith)

  load-by : (a b : Answer) (last abort : ℕ) → Decides a b
      → (load_end (placed_both va a b) last abort base ram va n).answer ≡ Err (data_abort (wrap (va + i)) false f)
  unfolding load_end load_of verdict_of
  load-by a b last abort d = grind arith

  store-by : (a b : Answer) (abort : ℕ) → Decides a b
      → (store_end (placed_both va a b) abort base ram va n).answer ≡ Err (data_abort (wrap (va + i)) true f)
  unfolding store_end verdict_of
  store-by a b abort d = grind arith

  aborts-by : (a b : Answer) (last abort : ℕ) → Decides a b
      → ((load_end (placed_both va a b) last abort base ram va n).abort_pa ≡ unwrap_or (byte_lies va a b i) abort)
      × ((store_end (placed_both va a b) abort base ram va n).abort_pa ≡ unwrap_or (byte_lies va a b i) abort)
  unfolding load_end load_of store_end verdict_of
  aborts-by a b last abort d = grind arith

-- THE RULE

pub load-fails : LoadFails
load-fails base ram va n a b last abort i f wide cross l = load-by base ram va n i f wide cross a b last abort (decided base ram va n i f wide cross a b l)

pub store-fails : StoreFails
store-fails base ram va n a b abort i f wide cross l = store-by base ram va n i f wide cross a b abort (decided base ram va n i f wide cross a b l)

pub aborts-at : AbortsAt
aborts-at base ram va n a b last abort i f wide cross l = aborts-by base ram va n i f wide cross a b last abort (decided base ram va n i f wide cross a b l)

pub none-aborts : NoneAborts
unfolding load_end load_of store_end verdict_of
none-aborts base ram va n (Err g) b last abort cross l = absurd (grind (arith, l 0))
none-aborts base ram va n (Ok pa) (Err g) last abort cross l = absurd (grind (arith, l (in_page va)))
none-aborts base ram va n (Ok pa) (Ok pa2) last abort cross l =
    let j : first_outside base (length ram) (pages va pa pa2) 0 n ≡ Ok tt = grind (arith, judged-inside base (length ram) (pages va pa pa2) 0 n) in
    rw j ((value_at base ram (Split (pages va pa pa2)) n, refl), refl, refl, refl)

pub last-stays : LastStays
unfolding load_end load_of
last-stays base ram va n h b last abort = grind arith

pub half-moves-nothing : HalfMovesNothing
unfolding store_ram_end
half-moves-nothing base ram va n v h f = grind arith

-- WHAT CHANGED

pub one-page-stays : OnePageStays
unfolding load_end store_end
one-page-stays base ram va n h last abort = grind arith

part-inside : (base len va pa : ℕ) → ((i : ℕ) → i < in_page va → within base len 1 (wrap (pa + i)) ≡ true) → first_part base len va (Some pa) ≡ Ok tt
part-inside base len va pa inside = grind (arith, judged-inside base len (pages va pa 0) 0 (in_page va), lt-ltb)

pub crossings-stay : CrossingsStay
unfolding load_end store_end
crossings-stay base ram va n a b last abort inside = grind (arith, part-inside)

pub these-change : TheseChange
unfolding load_end store_end
these-change base ram va n pa i f last abort x y wide h out = grind (arith, first-out base (length ram) (pages va pa 0) 0 (in_page va) i)

-- The lowest failing byte decides, by each byte's own address.
module _ (c : Core) (base : ℕ) (ram : List ℕ) (va n : ℕ) (kind : Kind) (ready : Ready c base ram va n kind) where
  abbrev a : Answer
  a = (first c base ram va n kind ready).answer

  abbrev b : Answer
  b = (second c base ram va n kind ready).answer

  each-byte : (i : ℕ) → i < 8 → (own_fails c base ram va kind i ≡ byte_fails base (length ram) va a b i) × (own_lies c base ram va kind i ≡ byte_lies va a b i)
  each-byte i h = grind (arith, own-page c base ram va n kind ready i, offsets c base ram va n kind ready)

  below-n : (i : ℕ) → i < n → own_fails c base ram va kind i ≡ byte_fails base (length ram) va a b i
  below-n i h = let few : n ≤ 8 = ready.bytes in (each-byte i (omega arith)).0

  lowest-fails : (i : ℕ) (f : Fault) → LowestOwn c base ram va kind n i f → LowestFails base (length ram) va a b n i f
  lowest-fails i f l =
      record {
        below = l.below;
        here = rw (← below-n i l.below) l.here;
        before = λ j h. let k : j < n = omega (arith, l.below) in rw (← below-n j k) (l.before j h);
      }

  none-fail : ((i : ℕ) → i < n → own_fails c base ram va kind i ≡ None) → NoneFails base (length ram) va a b n
  none-fail l i h = rw (← below-n i h) (l i h)

  -- it takes two pages, and both translations
  cross : Crosses c va n → in_page va < n
  cross x = let h : 4096 < va % 4096 + n = x.1 in omega arith

  placed-both : Crosses c va n → (located_now c (word_at base ram 8) va n kind).placed ≡ placed_both va a b
  unfolding located_now located_of
  placed-both x = grind arith

pub load-decided : LoadDecided
unfolding read_of after_access
load-decided c base ram va n i f ready x l =
    let few : n ≤ 8 = ready.bytes in
    let bound : i < n = l.below in
    let low = lowest-fails c base ram va n Read ready i f l in
    let two = cross c base ram va n Read ready x in
    rw (placed-both c base ram va n Read ready x, (each-byte c base ram va n Read ready i (omega arith)).1)
    (load-fails base ram va n _ _ _ _ i f ready.address two low, (aborts-at base ram va n _ _ c.last_pa c.abort_pa i f ready.address two low).0)

pub store-decided : StoreDecided
unfolding write_of after_access
store-decided c base ram va n i f ready x l =
    let few : n ≤ 8 = ready.bytes in
    let bound : i < n = l.below in
    let low = lowest-fails c base ram va n Write ready i f l in
    let two = cross c base ram va n Write ready x in
    rw (placed-both c base ram va n Write ready x, (each-byte c base ram va n Write ready i (omega arith)).1)
    (store-fails base ram va n _ _ _ i f ready.address two low, (aborts-at base ram va n _ _ c.last_pa c.abort_pa i f ready.address two low).1)

pub none-decides : NoneDecides
unfolding read_of write_of after_access
none-decides c base ram va n x = (
  λ ready l.
      rw (placed-both c base ram va n Read ready x)
      (none-aborts base ram va n _ _ c.last_pa c.abort_pa (cross c base ram va n Read ready x) (none-fail c base ram va n Read ready l)).0,
  λ ready l.
      rw (placed-both c base ram va n Write ready x)
      (none-aborts base ram va n _ _ c.last_pa c.abort_pa (cross c base ram va n Write ready x) (none-fail c base ram va n Write ready l)).1,
)
