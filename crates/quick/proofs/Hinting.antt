-- A hint that is asked by one condition, on plain values.
use Rattle.std.proofs.Common.{rules, refl, sym, ap, ◌∙◌, arith, subst, shr-shr}
use Rattle.std.proofs.lemmas.Nat.{xor_shr, le_or_l, le_or_r, or_lt}
use Rattle.std.specs.Prelude.{if◌then◌else◌, ◌≡◌, ◌+◌, ◌-◌, ◌*◌, ◌/◌, ◌%◌, ◌^◌, ◌<◌, ◌≤◌, ◌&&◌, ◌||◌, eqb, leb, nat_lt, is_some, is_none, not, Bool, true, false, ℕ, bit_or, bit_xor}
use Rattle.std.specs.Prelude.{List, length, Option, Some, None, Result, Ok, Err, slice_index_or}
use Rattle.std.specs.Bool.{then_some}
use mir.Val.{bool_byte}
use Rattle.tlb.specs.Tlb.{place_of, data_slot, on_page, no_hint}
use Rattle.tlb.specs.declared.access.Kind.TheVariants.{Read}
use Rattle.tlb.specs.declared.{Inval.Inval, access.Kind.Kind, access.NoSuchKind.NoSuchKind, hint.Hint.Hint}
use Rattle.cpu.specs.declared.Core.{Core}
use Rattle.tlb.specs.Translate.{hint_in, no_work}
use Rattle.word.specs.Ram.{word_at}
use Rattle.cpu.specs.declared.call.Call.TheVariants.{DataPa}
use Rattle.cpu.specs.Memory.{translate_of}
use Rattle.cpu.specs.Step.{step_of}
use Rattle.call_words.specs.Ops.{kind_of, translate_call}
use Rattle.cpu.specs.Work.{translate_work, step_work}
use Rattle.cpu.specs.declared.call.Reply.{Reply}
use Rattle.call_words.specs.Replies.{code_by, value_by, reads_by}
use Rattle.call_words.specs.declared.reply.Report.{Report}
use Rattle.quick.specs.Says.{Says, Tells, unread, asked_reply, asked_run, ram_checked, plain, served, served_among}
use Rattle.quick.proofs.ByHint.{hint-moves, asked-told}
use Rattle.quick.proofs.Checks.{ram-told, clear, translate-told, data-told}

pub low : (va : ℕ) → data_slot va Read < 256
unfolding place_of
low va = omega arith

module _ (c : Core) (va base len s : ℕ) (es : s ≡ data_slot va Read) where
  abbrev hint : ℕ → Hint
  hint i = slice_index_or c.tlb.hints i no_hint

  abbrev found : ℕ → Hint
  found kind = hint (s + kind / 2 % 2 * 256)

  abbrev asker : ℕ
  asker = c.privilege.level + bool_byte c.privilege.unprivileged * 256

  abbrev fits : Bool
  fits = leb base (2 ^ 64 - 1 - len)

  abbrev at : Bool → ℕ → ℕ → Option ℕ
  at known i page = then_some (known && (eqb (hint i).key (page + asker) && (leb asker 3 && fits))) (on_page (hint i).pa va)

  abbrev shown : ℕ → Option ℕ
  shown kind = at (eqb kind 1 || eqb kind 2) (s + kind / 2 % 2 * 256) (va - va % 4096)

  abbrev meant : ℕ → Option ℕ
  meant kind = served c base len va (kind_of kind)

  abbrev agree : ℕ → Type 0
  agree kind = shown kind ≡ meant kind

  reads : (kind : ℕ) (is1 : Bool) → eqb kind 1 ≡ is1 → agree kind
  reads kind is1 h1 = search rules

  abbrev by : ℕ → Hint → ℕ → Option ℕ
  by kind h pa = then_some ((eqb kind 1 || eqb kind 2) && (eqb h.key (va - va % 4096 + asker) && (leb asker 3 && fits))) pa

  pub serves : (kind : ℕ) (h : Hint) (pa : ℕ) → h ≡ found kind → pa ≡ on_page h.pa va → by kind h pa ≡ served c base len va (kind_of kind)
  serves kind h pa eh ep = ap (by kind h) ep ∙ ap (λ (x : Hint). by kind x (on_page x.pa va)) eh ∙ reads kind (eqb kind 1) refl

-- THE SAME OF A CORE AMONG FOUR
-- the place, cut once
pub place-is : (va k : ℕ) → k < 2 → (bit_xor (bit_xor va (va / 2 ^ 5)) (va / 2 ^ 10) % 2 ^ 20 + k * 2 ^ 20) / 2 ^ 12 ≡ data_slot va Read + k * 256
unfolding place_of
place-is va k h =
    let folded = bit_xor (bit_xor va (va / 2 ^ 5)) (va / 2 ^ 10) in
    let page = va / 2 ^ 12 in
    let e : folded / 2 ^ 12 ≡ bit_xor (bit_xor page (page / 2 ^ 5)) (page / 2 ^ 10) =
    rw (xor_shr (bit_xor va (va / 2 ^ 5)) (va / 2 ^ 10) 12, xor_shr va (va / 2 ^ 5) 12, shr-shr va 5 12, shr-shr va 10 12, shr-shr va 12 5, shr-shr va 12 10) refl in
    omega (arith, ap (λ (x : ℕ). x % 256) e)

-- the level and the number are known at once
both-low : (a n : ℕ) → leb (bit_or a n) 3 ≡ (leb a 3 && nat_lt n 4)
both-low a n = grind (arith, le_or_l a n, le_or_r a n, or_lt 2 a n)

-- whether there is none, told by whether there is one
pub none-is : (x : Option Inval) (q : Bool) → is_some x ≡ not q → q ≡ is_none x
none-is x q h = grind arith

module _ (c : Core) (n va base len : ℕ) where
  abbrev known_by : Bool → Bool → Hint → ℕ → ℕ → Option ℕ
  known_by quiet low h kind pa =
      then_some (quiet && ((eqb kind 1 || eqb kind 2)
      && (eqb h.key (va - va % 4096 + (c.privilege.level + bool_byte c.privilege.unprivileged * 256)) && (low && leb base (2 ^ 64 - 1 - len))))) pa

  among : (quiet one three : Bool) (h : Hint) (kind pa : ℕ)
      → known_by quiet (three && one) h kind pa ≡ (if one && quiet then known_by true three h kind pa else None)
  among true true three h kind pa = grind arith
  among true false three h kind pa = grind arith
  among false true three h kind pa = refl
  among false false three h kind pa = refl

  pub serves-among : (s kind : ℕ) (h : Hint) (pa : ℕ) (quiet : Bool) → s ≡ data_slot va Read + kind / 2 % 2 * 256 → quiet ≡ is_none c.tlb.broadcast
      → h ≡ slice_index_or c.tlb.hints s no_hint → pa ≡ on_page h.pa va
      → known_by quiet (leb (bit_or (c.privilege.level + bool_byte c.privilege.unprivileged * 256) n) 3) h kind pa
      ≡ served_among c n base len va (kind_of kind)
  serves-among s kind h pa quiet es eq eh ep =
      ap (λ (q : Bool). known_by q (leb (bit_or (c.privilege.level + bool_byte c.privilege.unprivileged * 256) n) 3) h kind pa) eq
      ∙ ap (λ (low : Bool). known_by (is_none c.tlb.broadcast) low h kind pa) (both-low (c.privilege.level + bool_byte c.privilege.unprivileged * 256) n)
      ∙ among (is_none c.tlb.broadcast) (nat_lt n 4) (leb (c.privilege.level + bool_byte c.privilege.unprivileged * 256) 3) h kind pa
      ∙ ap (λ (x : Option ℕ). if nat_lt n 4 && is_none c.tlb.broadcast then x else None)
      (serves c va base len (data_slot va Read) refl kind h pa (eh ∙ ap (λ (i : ℕ). slice_index_or c.tlb.hints i no_hint) es) ep)

-- THE FETCH HINT
-- WHAT WAS NOT SERVED
-- WHAT WAS SERVED
abbrev is_at : Option ℕ → Type 0
is_at (Some n) = Unit {0}
is_at None = ⊥

pub plainly : (c : Core) (base len : ℕ) (x : Option ℕ) (pa : ℕ) → (if plain c base len then x else None) ≡ Some pa
    → (c.privilege.level < 4) × (base ≤ 2 ^ 64 - 1 - len) × (x ≡ Some pa)
plainly c base len x pa e = grind arith

module _ (c : Core) (base : ℕ) (ram : List ℕ) (va : ℕ) (long : length ram < 2 ^ 64) where
  abbrev memory : ℕ → Option ℕ
  memory = word_at base ram 8

  abbrev report : Reply → Report → Report
  report r old = record { value = value_by r old.value; reads = reads_by r 0 old.reads }

  told : (k : Kind) (pa : ℕ) → served c base (length ram) va (Ok k) ≡ Some pa → (b : Bool) (old : Report)
      → Tells (ram_checked c base ram (asked_run b va (translate_of c memory va k))) (translate_work c memory va k no_work) old
      (code_by (asked_reply b va (Ok pa))) (report (asked_reply b va (Ok pa)) old) c
  told k pa e b old =
      let s = plainly c base (length ram) (hint_in c.privilege va k c.tlb) pa e in
      ram-told c base ram _ _ (clear c base ram s.0 long s.1) _ _ _ _
      (asked-told c memory va k c (Ok pa) no_work b (hint-moves c memory va k pa no_work s.2 refl) old _
      (report (asked_reply b va (Ok pa)) old) (refl, refl, refl))

  pub data-served : (pa : ℕ) → served c base (length ram) va (Ok Read) ≡ Some pa → (old : Report)
      → Tells (step_of c base ram (DataPa va)) (step_work c base ram (DataPa va) no_work) old 0 (unread pa) c
  data-served pa e old = data-told c base ram va old 0 (unread pa) c (told Read pa e false old)

  pub kind-served : (r : Result Kind NoSuchKind) (pa : ℕ) → served c base (length ram) va r ≡ Some pa → (old : Report)
      → Says (translate_call r va) c base ram old 0 (unread pa) c
  unfolding translate_call
  kind-served (Ok k) pa e old = translate-told c base ram va old 0 (unread pa) c k (told k pa e true old)
  kind-served (Err x) pa e old = absurd (subst is_at (sym e) tt)
