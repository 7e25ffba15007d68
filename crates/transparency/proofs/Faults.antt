-- Each fault that a call replies is a row of docs/SCOPE.md's table, with the address translated, or for 0x10 that of a
-- byte of the access.
use Rattle.std.specs.Prelude.{if◌then◌else◌, ◌≡◌, Bool, true, false, ◌⊎◌, ℕ, zero, suc, ◌+◌, ◌%◌, ◌^◌, ◌≤◌, ◌<◌, length, Option, Some, None, Ok, Err}
use Rattle.std.proofs.Math.Path.{refl, ap, subst⁻¹}
use Rattle.std.proofs.Common.{sym, subst, ◌∙◌, inl, inr, arith, add-zero}
use mathlib.Core.List.{List, [], ◌∷◌, ◌++◌, append-nil, Memᴰ}
use Rattle.std.proofs.Math.Nat.{mod-mod}
use Rattle.word.specs.Bits.{align_down, wrap}
use Rattle.word.specs.Ram.{width_of, bytes_in, within}
use Rattle.word.specs.declared.ram.Width.{Width}
use Rattle.fault.specs.First.{first}
use Rattle.fault.specs.declared.Fault.{Fault}
use Rattle.tlb.specs.Live.{Each, done, more}
use Rattle.tlb.specs.Asks.{Ask, translates, fetches, address_of, Given, onward}
use Rattle.tlb.proofs.Asks.{onward-same}
use Rattle.tlb.specs.declared.{access.Kind.Kind, Tlb.Tlb}
use Rattle.tlb.specs.Answers.{Answer}
use Rattle.cpu.specs.Bytes.{Placed, Verdict, outside_at, in_page, next_page, crosses, byte_at, first_outside, first_part, verdict_of, got_by}
use Rattle.cpu.specs.Bytes.{value_at, load_of, insn_of, reached_by, failed_access, loaded_from, load_end, store_end_by, store_end, fetched_from}
use Rattle.cpu.specs.Bytes.{fetch_end}
use Rattle.cpu.specs.Bare.{Bare}
use Rattle.cpu.proofs.BytesLaws.{same-outside, same-fault}
use Rattle.cpu.specs.Asks.{asks_by, placed_from}
use Rattle.cpu.specs.declared.{place.Pages.Pages, place.Place.Place, place.FaultAt.FaultAt}
use Rattle.cpu.specs.declared.call.Call.{Call}
use Rattle.system.specs.declared.decode.SysOp.{SysOp}
use Rattle.system.specs.declared.decode.SysOp.TheVariants as Op
use Rattle.cpu.specs.Check.{translation, loading, storing, fetching, reaching}
use Rattle.cpu.specs.declared.call.Call.TheVariants.{Translate, DataPa, FetchPa, Load, Store, Fetch, System}
use Rattle.history.specs.World.{Plain, on_now}
use Rattle.history.specs.History.{steps, answer_of, tlb_ask, answers, tlb_asks}
use Rattle.history.specs.Invisible.{answers_run}
use Rattle.history.specs.Calls.{Lent, lent_of}
use Rattle.history.specs.Instance.{Ram, real}
use Rattle.history.specs.Judgement.{Row}
use Rattle.transparency.specs.Bare.{op_in, operand_in, Ruling, allowed, ruling_in, refusal_of, if_allowed}
use Rattle.transparency.specs.Events.{plain_in, idle, zero_steps, sys_steps, steps_in, events_in}
use Rattle.transparency.specs.Claim.{access_in, sized_in}
use Rattle.transparency.specs.Replies.{Outcome, outcome, load_says, store_says, load_by_size, store_by_size}
use Rattle.transparency.specs.Says.{zero_says, sys_says, call_says, says_in}
use Rattle.transparency.proofs.Answered.{next-aligned, start-aligned, store_given, one-given}
use Rattle.transparency.specs.Machine.{machine}
use Rattle.transparency.specs.Beside.{core_after, bare_after}
use Rattle.transparency.specs.Starts.{later_in}
use Rattle.transparency.specs.Faithful.{events_after, answers_after}
use Rattle.transparency.proofs.Faithful.{said}
use Rattle.transparency.proofs.Judged.{every-row}
use Rattle.transparency.specs.Faults.{RepliesFault, FaultFrom, translating, outside}
use Rattle.transparency.specs.Faults as Statement

-- REPLIES

-- THE BYTE that lies outside is one of the access's

first-outside : (base len : ℕ) (p : Pages) (i n j pa : ℕ) → first_outside base len p i n ≡ Err (outside_at j pa) → j < i + n
unfolding first_outside
first-outside base len p i zero j pa e = let z : ◌≡◌ {A = ℕ} 0 1 = cc in absurd (omega arith)
first-outside base len p i (suc n) j pa e = go (within base len 1 (byte_at p i)) e (λ f. first-outside base len p (i + 1) n j pa f)
  where
    go : (b : Bool) → ◌≡◌ {A = Verdict} (if b then first_outside base len p (i + 1) n else Err (outside_at i (byte_at p i))) (Err (outside_at j pa))
        → (first_outside base len p (i + 1) n ≡ Err (outside_at j pa) → j < i + 1 + n) → j < i + suc n
    go true f k = let h : j < i + 1 + n = k f in omega arith
    go false f k = let h : i ≡ j = (same-outside _ _ _ _ f).0 in omega arith

byte_low : (base len : ℕ) (place : Place) (n j pa : ℕ) → 0 < n → verdict_of base len place n ≡ Err (outside_at j pa) → j < n
unfolding verdict_of
byte_low base len place n j pa h1 h2 = grind (arith, first-outside)

-- AN ACCESS of n bytes: a fault is that of one of its translations, and a place begins where the first was allowed, as does the first page where the
-- second faults

pub record PlacedFrom (va n : ℕ) (gs : List Given) : Type 0 where
  pub faulting : (x : FaultAt) → placed_from va gs ≡ Err x → (g : Given) × Memᴰ g gs × (address_of g.ask ≡ x.addr) × (g.answer ≡ Err x.fault)
  pub behind : (x : FaultAt) (q : ℕ) → placed_from va gs ≡ Err x → x.first ≡ Some q
      → (g : Given) × Memᴰ g gs × (address_of g.ask ≡ va) × (pa : ℕ) × (g.answer ≡ Ok pa) × (in_page va < n)
  pub lying : (place : Place) → placed_from va gs ≡ Ok place
      → (g : Given) × Memᴰ g gs × (address_of g.ask ≡ va) × (pa : ℕ) × (g.answer ≡ Ok pa)

-- two translations, by their answers
module _ (va n : ℕ) (kind : Kind) where
  abbrev one : Answer → Given
  one x = record { ask = translates kind va; answer = x }

  abbrev two : Answer → Given
  two y = record { ask = translates kind (next_page va); answer = y }

  placed_one : (x : Answer) → PlacedFrom va n (one x ∷ [])
  placed_one (Ok pa) =
      record {
        faulting = λ x e. let z : ◌≡◌ {A = ℕ} 0 1 = cc in absurd (omega arith);
        behind = λ x q e k. let z : ◌≡◌ {A = ℕ} 0 1 = cc in absurd (omega arith);
        lying = λ place e. (one (Ok pa), Memᴰ.head refl, refl, pa, refl);
      }
  placed_one (Err f) =
      record {
        faulting = λ x e. (one (Err f), Memᴰ.head refl, ap (λ (y : FaultAt). y.addr) (same-fault _ x e), ap (λ (y : FaultAt). Err y.fault) (same-fault _ x e));
        behind = λ x q e k.
            let h : ◌≡◌ {A = Option ℕ} None (Some q) = ap (λ (y : FaultAt). y.first) (same-fault _ x e) ∙ k in
            let z : ◌≡◌ {A = ℕ} 0 1 = cc in
            absurd (omega arith);
        lying = λ place e. let z : ◌≡◌ {A = ℕ} 0 1 = cc in absurd (omega arith);
      }

  placed-two : in_page va < n → (pa : ℕ) (y : Answer) → PlacedFrom va n (one (Ok pa) ∷ two y ∷ [])
  placed-two close pa (Ok pb) =
      record {
        faulting = λ x e. let z : ◌≡◌ {A = ℕ} 0 1 = cc in absurd (omega arith);
        behind = λ x q e k. let z : ◌≡◌ {A = ℕ} 0 1 = cc in absurd (omega arith);
        lying = λ place e. (one (Ok pa), Memᴰ.head refl, refl, pa, refl);
      }
  placed-two close pa (Err f) =
      record {
        faulting = λ x e. (
          two (Err f),
          Memᴰ.tail (Memᴰ.head refl),
          ap (λ (y : FaultAt). y.addr) (same-fault _ x e),
          ap (λ (y : FaultAt). Err y.fault) (same-fault _ x e),
        );
        behind = λ x q e k. (one (Ok pa), Memᴰ.head refl, refl, pa, refl, close);
        lying = λ place e. let z : ◌≡◌ {A = ℕ} 0 1 = cc in absurd (omega arith);
      }

  pub answers-placed : (c : Bool) → (c ≡ true → in_page va < n) → (q : Plain real) (m : Ram) (t : Tlb)
      → PlacedFrom va n (answers real q m (asks_by c va kind) t)
  answers-placed false close q m t = grind (arith, onward-same, placed_one)
  answers-placed true close q m t =
      go (answer_of real q m (translates kind va) t)
      (answer_of real q m (translates kind (next_page va)) (tlb_ask real q m (translates kind va) t))
    where
      go : (x y : Answer) → PlacedFrom va n (one x ∷ onward {A = List Given} x (two y ∷ onward {A = List Given} y [] []) [])
      go (Ok pa) y = subst (λ (l : List Given). PlacedFrom va n (one (Ok pa) ∷ two y ∷ l)) (sym (onward-same y [])) (placed-two (close refl) pa y)
      go (Err f) y = placed_one (Err f)

-- WHAT AN ACCESS REPLIES

some_bytes : (w : Width) → (0 < bytes_in w) × (bytes_in w ≤ 8)
some_bytes w = grind arith

module _ (m : Ram) (va n : ℕ) (some : 0 < n) (few : n ≤ 8) (gs : List Given) (from : PlacedFrom va n gs) (addr : ℕ) (fault : Fault) where
  -- a byte outside
  out : (place : Place) (j pa : ℕ) → placed_from va gs ≡ Ok place → verdict_of m.base (length m.bytes) place n ≡ Err (outside_at j pa)
      → wrap (va + j) ≡ addr → first 0x10 ≡ fault → FaultFrom gs addr fault
  out place j pa e v a f =
      let (g, mem, q, pb, r) = from.lying place e in
      let low : j < n = byte_low m.base (length m.bytes) place n j pa some v in
      outside g mem pb r j (omega arith) (ap wrap (sym a) ∙ mod-mod (va + j) (2 ^ 64) ∙ ap (λ (x : ℕ). wrap (x + j)) (sym q)) (sym f)

  -- a byte of the first page outside, where the second faults
  out_part : (x : FaultAt) (j pa : ℕ) → placed_from va gs ≡ Err x → first_part m.base (length m.bytes) va x.first ≡ Err (outside_at j pa)
      → wrap (va + j) ≡ addr → first 0x10 ≡ fault → FaultFrom gs addr fault
  out_part x j pa e v a f = go x.first refl v
    where
      go : (p : Option ℕ) → x.first ≡ p → first_part m.base (length m.bytes) va p ≡ Err (outside_at j pa) → FaultFrom gs addr fault
      go None k v = let z : ◌≡◌ {A = ℕ} 0 1 = cc in absurd (omega arith)
      go (Some q) k v =
          let (g, mem, r, pb, s, close) = from.behind x q e k in
          let low : j < 0 + in_page va = first-outside m.base (length m.bytes) _ 0 (in_page va) j pa v in
          outside g mem pb s j (omega arith) (ap wrap (sym a) ∙ mod-mod (va + j) (2 ^ 64) ∙ ap (λ (y : ℕ). wrap (y + j)) (sym r)) (sym f)

  load_from : RepliesFault (load_says m va n gs).reply addr fault → FaultFrom gs addr fault
  unfolding load_end load_of
  load_from = go (placed_from va gs) refl
    where
      go : (q : Placed) → placed_from va gs ≡ q → RepliesFault (loading (load_end q 0 0 m.base m.bytes va n).answer) addr fault → FaultFrom gs addr fault
      go (Err failed) e w = by-part (first_part m.base (length m.bytes) va failed.first) refl w
        where
          by-part : (d : Verdict) → first_part m.base (length m.bytes) va failed.first ≡ d
              → RepliesFault (loading (Err (failed_access d failed va false))) addr fault → FaultFrom gs addr fault
          by-part (Ok _) d x =
              let (g, mem, p, r) = from.faulting failed e in
              translating g mem (p ∙ x.0) (r ∙ ap Err x.1)
          by-part (Err o) d x = out_part failed o.index o.pa e d x.0 x.1
      go (Ok place) e w = by-verdict (verdict_of m.base (length m.bytes) place n) refl w
        where
          by-verdict : (v : Verdict) → verdict_of m.base (length m.bytes) place n ≡ v
              → RepliesFault (loading (loaded_from place (got_by v (value_at m.base m.bytes place n)) 0 va).answer) addr fault → FaultFrom gs addr fault
          by-verdict (Ok _) d x = absurd x
          by-verdict (Err o) d x = out place o.index o.pa e d x.0 x.1

  store-from : (v : ℕ) → RepliesFault (store_says m va n v gs).reply addr fault → FaultFrom gs addr fault
  unfolding store_end
  store-from v = go (placed_from va gs) refl
    where
      go : (q : Placed) → placed_from va gs ≡ q → RepliesFault (storing (store_end q 0 m.base m.bytes va n).answer) addr fault → FaultFrom gs addr fault
      go (Err failed) e w = by-part (first_part m.base (length m.bytes) va failed.first) refl w
        where
          by-part : (d : Verdict) → first_part m.base (length m.bytes) va failed.first ≡ d
              → RepliesFault (storing (Err (failed_access d failed va true))) addr fault → FaultFrom gs addr fault
          by-part (Ok _) d x =
              let (g, mem, p, r) = from.faulting failed e in
              translating g mem (p ∙ x.0) (r ∙ ap Err x.1)
          by-part (Err o) d x = out_part failed o.index o.pa e d x.0 x.1
      go (Ok place) e w = by-verdict (verdict_of m.base (length m.bytes) place n) refl w
        where
          by-verdict : (d : Verdict) → verdict_of m.base (length m.bytes) place n ≡ d
              → RepliesFault (storing (store_end_by d 0 va).answer) addr fault → FaultFrom gs addr fault
          by-verdict (Ok _) d x = absurd x
          by-verdict (Err o) d x = out place o.index o.pa e d x.0 x.1

-- A ZEROING

from-later : (g : Given) (gs : List Given) (addr : ℕ) (fault : Fault) → FaultFrom gs addr fault → FaultFrom (g ∷ gs) addr fault
from-later g gs addr fault (translating h mem p r) = translating h (Memᴰ.tail mem) p r
from-later g gs addr fault (outside h mem pa r i low p f) = outside h (Memᴰ.tail mem) pa r i low p f

placed-nil : (va n : ℕ) (gs : List Given) → PlacedFrom va n gs → PlacedFrom va n (gs ++ [])
placed-nil va n gs s = subst (PlacedFrom va n) (sym (append-nil gs)) s

near : (on : Bool) (va n : ℕ) → crosses on va n ≡ true → in_page va < n
near on va n h1 = grind arith

zero-from : (b : Bare) (m : Ram) (ms : List Ram) (va : ℕ) (t : Tlb) (addr : ℕ) (fault : Fault) → va % 8 ≡ 0
    → RepliesFault (zero_says m ms va (answers_run real (plain_in b) (zero_steps b m ms va) t)).reply addr fault
    → FaultFrom (answers_run real (plain_in b) (zero_steps b m ms va) t) addr fault
zero-from b m [] va t addr fault al w =
    store-from m va 8 (omega arith) (omega arith) _
    (placed-nil va 8 _ (answers-placed va 8 Kind.Write (crosses (on_now real (plain_in b)) va 8) (near _ va 8) (plain_in b) m t))
    addr fault 0 w
zero-from b m (n ∷ ms) va t addr fault al w =
    subst (λ (l : List Given). FaultFrom (l ++ rest) addr fault) (sym (one-given b t m va al))
    (from-later (store_given b t m va) rest addr fault
    (zero-from b n ms (wrap (va + 8)) (tlb_asks real (plain_in b) m (access_in b va 8 Kind.Write) t) addr fault (next-aligned va al)
    (subst (λ (l : List Given). RepliesFault (zero_says m (n ∷ ms) va (l ++ rest)).reply addr fault) (one-given b t m va al) w)))
  where
    rest : List Given
    rest = answers_run real (plain_in b) (zero_steps b n ms (wrap (va + 8))) (tlb_asks real (plain_in b) m (access_in b va 8 Kind.Write) t)

-- EVERY CALL

abbrev ran_given : Bare → Ram → List Ram → Call → Tlb → List Given
ran_given b m ms x t = answers_run real (plain_in b) (steps_in b m ms x) t

load-sized-from : (s : Option Width) (b : Bare) (m : Ram) (va : ℕ) (t : Tlb) (addr : ℕ) (fault : Fault)
    → RepliesFault (load_by_size s m va (answers real (plain_in b) m (sized_in b va s Kind.Read) t ++ [])).reply addr fault
    → FaultFrom (answers real (plain_in b) m (sized_in b va s Kind.Read) t ++ []) addr fault
load-sized-from None b m va t addr fault w = absurd w
load-sized-from (Some w) b m va t addr fault x =
    load_from m va (bytes_in w) (some_bytes w).0 (some_bytes w).1 _
    (placed-nil va (bytes_in w) _
    (answers-placed va (bytes_in w) Kind.Read (crosses (on_now real (plain_in b)) va (bytes_in w)) (near _ va (bytes_in w)) (plain_in b) m t)) addr fault x

store-sized-from : (s : Option Width) (b : Bare) (m : Ram) (va v : ℕ) (t : Tlb) (addr : ℕ) (fault : Fault)
    → RepliesFault (store_by_size s m va v (answers real (plain_in b) m (sized_in b va s Kind.Write) t ++ [])).reply addr fault
    → FaultFrom (answers real (plain_in b) m (sized_in b va s Kind.Write) t ++ []) addr fault
store-sized-from None b m va v t addr fault w = absurd w
store-sized-from (Some w) b m va v t addr fault x =
    store-from m va (bytes_in w) (some_bytes w).0 (some_bytes w).1 _
    (placed-nil va (bytes_in w) _
    (answers-placed va (bytes_in w) Kind.Write (crosses (on_now real (plain_in b)) va (bytes_in w)) (near _ va (bytes_in w)) (plain_in b) m t)) addr fault v x

module _ (b : Bare) (m : Ram) (t : Tlb) (addr : ℕ) (fault : Fault) where
  translate-from : (a : Ask) (x : Answer) → RepliesFault (translation (address_of a) x) addr fault → (l : List Given)
      → FaultFrom (record { ask = a; answer = x } ∷ l) addr fault
  translate-from a (Ok pa) w l = absurd w
  translate-from a (Err f) w l = translating _ (Memᴰ.head refl) w.0 (ap Err w.1)

  reach-from : (x : Answer) → RepliesFault (reaching (reached_by x)) addr fault → ⊥
  reach-from x h1 = grind arith

  fetch-from : (va : ℕ) (x : Answer) → RepliesFault (fetching (fetch_end x 0 m.base m.bytes va).answer) addr fault → (l : List Given)
      → FaultFrom (record { ask = fetches va; answer = x } ∷ l) addr fault
  unfolding fetch_end
  fetch-from va (Err f) w l = translating _ (Memᴰ.head refl) w.0 (ap Err w.1)
  fetch-from va (Ok pa) w l = go (insn_of m.base m.bytes pa) w
    where
      go : (i : Option ℕ) → RepliesFault (fetching (fetched_from pa i 0 va).answer) addr fault
          → FaultFrom (record { ask = fetches va; answer = Ok pa } ∷ l) addr fault
      go (Some v) y = absurd y
      go None y =
          outside _ (Memᴰ.head refl) pa refl 0 (omega arith) (ap wrap (sym y.0) ∙ ap wrap (sym (add-zero va))) (sym y.1)

  call_from : (ms : List Ram) (x : Call) → RepliesFault (call_says b m ms x (ran_given b m ms x t)).reply addr fault → FaultFrom (ran_given b m ms x t) addr fault
  call_from ms (Translate kind va) w = translate-from (translates kind va) (answer_of real (plain_in b) m (translates kind va) t) w _
  call_from ms (DataPa va) w = absurd (reach-from (answer_of real (plain_in b) m (translates Kind.Read va) t) w)
  call_from ms (FetchPa va) w = absurd (reach-from (answer_of real (plain_in b) m (fetches va) t) w)
  call_from ms (Load va size) w = load-sized-from (width_of size) b m va t addr fault w
  call_from ms (Store va size value) w = store-sized-from (width_of size) b m va value t addr fault w
  call_from ms (Fetch va) w = fetch-from va (answer_of real (plain_in b) m (fetches va) t) w _
  call_from ms (System e) w = go (op_in b e) w
    where
      go : (o : SysOp) → RepliesFault (sys_says o m ms (operand_in b e) (answers_run real (plain_in b) (sys_steps o b m ms e) t)).reply addr fault
          → FaultFrom (answers_run real (plain_in b) (sys_steps o b m ms e) t) addr fault
      go Op.Zva y = zero-from b m ms (align_down (operand_in b e) 6) t addr fault (start-aligned (operand_in b e)) y
      go _ y = absurd y
  call_from ms _ w = absurd w

  said-from : (ms : List Ram) (x : Call) → RepliesFault (says_in b m ms x (answers_run real (plain_in b) (events_in b m ms x) t)).reply addr fault
      → FaultFrom (answers_run real (plain_in b) (events_in b m ms x) t) addr fault
  said-from ms x = go (ruling_in b m x)
    where
      go : (v : Ruling) → RepliesFault
          (if_allowed v (call_says b m ms x (answers_run real (plain_in b) (if_allowed v (steps_in b m ms x) (steps m idle ∷ [])) t))
          (outcome (refusal_of v) m.bytes)).reply addr fault
          → FaultFrom (answers_run real (plain_in b) (if_allowed v (steps_in b m ms x) (steps m idle ∷ [])) t) addr fault
      go allowed w = call_from ms x w
      go _ w = absurd w

-- OF EVERY CORE THAT CALLS REACH

each_at : {A : Type 0} {P : A → Type 0} {a : A} {l : List A} → Each P l → Memᴰ a l → P a
each_at done m = elim m [ ]
each_at {P = P} (more p ps) (Memᴰ.head e) = subst⁻¹ P e p
each_at (more p ps) (Memᴰ.tail m) = each_at ps m

-- Whatever the call and RAM: where a call after the list replies a fault, its status is a row of the table, a
-- translation's or 0x10, and it comes from the answers to the call's translations, with the address translated or, for
-- 0x10, that of a byte of the access.
pub every-replied-fault : Statement.every_replied_fault
every-replied-fault list seen m x addr fault w = (row from, from)
  where
    made : List (Lent real machine)
    made = lent_of real machine list

    from : FaultFrom (answers_after made m x) addr fault
    from =
        said-from (bare_after made) m (core_after made).tlb addr fault (later_in (core_after made) m x) x
        (subst (λ (o : Outcome). RepliesFault o.reply addr fault) (said made m x) w)

    row : FaultFrom (answers_after made m x) addr fault → Row fault.fsc ⊎ (fault.fsc ≡ 0x10)
    row (translating g mem p r) = inl (each_at (every-row list seen (events_after made m x)) mem fault r)
    row (outside g mem pa r i low p f) = inr (ap (λ (x : Fault). x.fsc) f)
