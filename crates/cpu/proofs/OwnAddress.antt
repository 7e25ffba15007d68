-- Where each byte of an access lies, by its own address.
use Rattle.std.proofs.Common.{rules, subst, arith, eq-eqb, ne_eqb, length}
use Rattle.std.specs.Prelude.{◌≡◌, ℕ, ◌+◌, ◌/◌, ◌%◌, ◌<◌, ◌≤◌, false, List, ◌≢◌, nat_lt, Option, Ok, if◌then◌else◌, Err}
use Rattle.std.proofs.Math.Nat.{mod-mod}
use Rattle.word.specs.Bits.{wrap}
use Rattle.word.specs.Ram.{word_at}
use Rattle.sysreg.specs.Regs.{regime_of}
use Rattle.walk.specs.WalkBounds.{SoundWalked}
use Rattle.walk.proofs.WalkBounds.{walk_sound}
use Rattle.tlb.specs.Live.{WellFormed}
use Rattle.tlb.proofs.Translations.{translation-follows}
use Rattle.tlb.specs.Translate.{access_of}
use Rattle.tlb.specs.declared.{access.Kind.Kind, Tlb.Tlb}
use Rattle.tlb.specs.declared.access.Kind.TheVariants.{Read, Write}
use Rattle.cpu.specs.Core.{Stepped, after_access, bank_now}
use Rattle.cpu.specs.Bytes.{in_page, next_page, crosses, address_in, outside_at, verdict_of, load_of, insn_of, load_end}
use Rattle.cpu.specs.Bytes.{store_end, fetch_end}
use Rattle.cpu.proofs.BytesLaws.{lowest}
use Rattle.cpu.proofs.PageLaws.{answer_at, step-page, step-offset}
use Rattle.cpu.specs.Memory.{translate_in, located_of, stepped_now, located_now, translate_of, read_of, write_of, fetch_of}
use Rattle.cpu.specs.Asks.{on_now}
use Rattle.cpu.specs.declared.Core.{Core}
use Rattle.cpu.specs.declared.place.Place.{Place}
use Rattle.cpu.specs.declared.place.Place.TheVariants.{Whole, Split}
use Rattle.cpu.specs.OwnAddress.{Ready, byte_va, own_answer, LoadsLeaveOwnFirst, LoadLeavesFailing, StoreLeavesFailing, FetchLeavesFailing}
use Rattle.cpu.specs.PlaceRows.{LoadsRead, StoresWrite, FetchesReport, LoadAborts, StoreAborts, FetchAborts, LoadsKeepFirst, FaultsLeave, DoneLeaves}

-- WHERE EACH BYTE LIES

-- byte i's own translation, and that the access has the byte there; an address is 64 bits
pub record Own (c : Core) (memory : ℕ → Option ℕ) (va : ℕ) (kind : Kind) (i : ℕ) (place : Place) : Type 0 where
  pub pa : ℕ
  pub answer : own_answer c memory va kind i ≡ Ok pa
  pub there : wrap pa ≡ wrap (address_in place i)

module _ (c : Core) (base : ℕ) (ram : List ℕ) (va n : ℕ) (kind : Kind) (ready : Ready c base ram va n kind) where
  abbrev memory : ℕ → Option ℕ
  memory = word_at base ram 8

  abbrev step_in : ℕ → Tlb → Stepped
  step_in a t = translate_in (bank_now c) c.privilege memory a kind t

  abbrev pub first : Stepped
  first = step_in va c.tlb

  abbrev pub second : Stepped
  second = step_in (next_page va) first.tlb

  pub first-well : WellFormed first.tlb
  unfolding translate_in
  first-well =
      (translation-follows (access_of (bank_now c) c.privilege va kind memory) c.tlb ready.well
      (λ leaf e. (subst (SoundWalked _) e (walk_sound (bank_now c) (regime_of c.privilege.level) _ memory)).0.level-high) ready.level
      ).well

  pub own_first : (i : ℕ) → byte_va va i / 4096 ≡ va / 4096 → own_answer c memory va kind i ≡ (step_in (byte_va va i) c.tlb).answer
  unfolding translate_of stepped_now
  own_first i q = rw (eq-eqb _ _ q)

  pub own-next : (i : ℕ) → (byte_va va i / 4096 ≢ va / 4096) → own_answer c memory va kind i ≡ (step_in (byte_va va i) first.tlb).answer
  unfolding translate_of stepped_now after_access
  own-next i q = rw (ne_eqb _ _ q)

  -- an access of eight bytes takes two pages at most: byte i's own translation is its page's, with its own offset
  pub own-page : (i : ℕ) → i < 8
      → own_answer c memory va kind i ≡ (if nat_lt i (in_page va) then answer_at first.answer (byte_va va i) else answer_at second.answer (byte_va va i))
  own-page i h =
      grind (
        arith,
        own_first i,
        own-next i,
        step-page (bank_now c) c.privilege memory kind c.tlb ready.well va (byte_va va i),
        step-page (bank_now c) c.privilege memory kind first.tlb first-well (next_page va) (byte_va va i),
      )

  pub offsets : (pa : ℕ) → (first.answer ≡ Ok pa → pa % 4096 ≡ va % 4096) × (second.answer ≡ Ok pa → pa % 4096 ≡ 0)
  offsets pa =
      grind (
        arith,
        step-offset (bank_now c) c.privilege memory kind c.tlb ready.well va pa,
        step-offset (bank_now c) c.privilege memory kind first.tlb first-well (next_page va) pa,
      )

  -- with stage 1 off, past the end of its page
  own-flat : (i pa : ℕ) → first.answer ≡ Ok pa → on_now c ≡ false → in_page va ≤ i → i < n → own_answer c memory va kind i ≡ Ok (pa + i)
  unfolding translate_of stepped_now after_access
  own-flat i pa e o h k = grind (arith, own-next i, ready.flat o pa i e h k, ready.bytes)

  module _ (i : ℕ) (h : i < n) where
    whole-own : (pa : ℕ) → first.answer ≡ Ok pa → crosses (on_now c) va n ≡ false → Own c memory va kind i (Whole pa)
    whole-own pa e q = grind (arith, own-page i, offsets pa, own-flat i pa, ready.bytes)

    split-own : (pa pa2 : ℕ) → first.answer ≡ Ok pa → second.answer ≡ Ok pa2
        → Own c memory va kind i (Split (record { in_page = in_page va; pa = pa; pa2 = pa2 }))
    split-own pa pa2 e d = grind (arith, own-page i, offsets pa, offsets pa2, ready.bytes, mod-mod)

    -- each byte of an access that was placed lies where its own address's translation says
    pub lies-own : (place : Place) → (located_now c memory va n kind).placed ≡ Ok place → Own c memory va kind i place
    unfolding located_now located_of
    lies-own place = search (rules, whole-own, split-own)

-- What an abort says of the access, and which addresses the core keeps, of every place.

-- WHICH WAY

pub loads-read : LoadsRead
unfolding load_end load_of
loads-read h last abort base ram va n s e = grind arith

pub stores-write : StoresWrite
unfolding store_end
stores-write h abort base ram va n s e = grind arith

pub fetches-report : FetchesReport
unfolding fetch_end insn_of
fetches-report h abort base ram va x e = grind arith

-- EXTERNAL ABORTS

-- the lowest byte outside has its own address
pub own : (place : Place) (base len n i pa : ℕ) → verdict_of base len place n ≡ Err (outside_at i pa) → pa ≡ address_in place i
unfolding verdict_of
own (Split p) base len n i pa e = (lowest base len p 0 n i pa e).at
own (Whole q) base len n i pa e = grind arith

pub load-aborts : LoadAborts
unfolding load_end load_of
load-aborts place last abort base ram va n i pa s e = grind (arith, own)

pub store-aborts : StoreAborts
unfolding store_end
store-aborts place abort base ram va n i pa s e = grind (arith, own)

pub fetch-aborts : FetchAborts
unfolding fetch_end insn_of
fetch-aborts pa abort base ram va e = grind arith

-- WHAT IS KEPT

pub loads-keep-first : LoadsKeepFirst
unfolding load_end load_of
loads-keep-first q last abort base ram va n h = grind arith

pub faults-leave : FaultsLeave
unfolding load_end store_end fetch_end
faults-leave f g last abort base ram va n = grind arith

pub done-leaves : DoneLeaves
unfolding load_end load_of store_end
done-leaves place last abort base ram va n e = grind arith

-- The physical addresses that an access leaves, by the translations of its bytes' own addresses.
pub own-first : LoadsLeaveOwnFirst
unfolding read_of after_access located_now located_of translate_of stepped_now load_end load_of
own-first c base ram va n place e = grind arith

pub load-failing : LoadLeavesFailing
unfolding read_of after_access load_end load_of
load-failing c base ram va n place i q ready e v h = grind (arith, lies-own c base ram va n Read ready i h place e, own place base (length ram) n i q v)

pub store-failing : StoreLeavesFailing
unfolding write_of after_access store_end
store-failing c base ram va n place i q ready e v h = grind (arith, lies-own c base ram va n Write ready i h place e, own place base (length ram) n i q v)

pub fetch-failing : FetchLeavesFailing
unfolding fetch_of fetch_end insn_of after_access
fetch-failing c base ram va pa e h = grind arith
