-- DC ZVA by a hint: where the hint of the line's page serves, its stores are one, and read no descriptor.
use Rattle.std.specs.Prelude.{◌≡◌, Bool, true, false, zero, suc, ◌+◌, ◌*◌, ◌/◌, ◌%◌, ◌^◌, ◌<◌, ◌≤◌, ◌==◌, List, ℕ, length, Some, bit_or}
use Rattle.std.proofs.Common.{refl, sym, ap, ◌∙◌, arith, le-leb}
use Rattle.std.proofs.lemmas.Nat.{or_mod, or_block}
use Rattle.std.specs.Int.Bits.{or_zero_l, or_zero_r}
use Rattle.word.specs.Ram.{within, word_at, stored}
use Rattle.tlb.specs.Access.{may_hint}
use Rattle.tlb.specs.Tlb.{hint_at, on_page, data_slot, hint_key, hint_found}
use Rattle.tlb.specs.Translate.{hint_in, no_work}
use Rattle.tlb.specs.declared.access.Kind.TheVariants.{Write}
use Rattle.cpu.specs.declared.Core.{Core}
use Rattle.cpu.proofs.ZeroLaws.{zero-steady, write-steady, one-ram, store_va, store-va}
use Rattle.cpu.proofs.BytesLaws.{stored-length}
use Rattle.cpu.specs.Memory.{write_of, ram_after_write}
use Rattle.cpu.specs.Core.{Answered}
use Rattle.cpu.specs.System.{done_with, on_stored}
use Rattle.cpu.specs.Work.{write_work, zero_work}
use Rattle.word.specs.Bits.{wrap}
use Rattle.word.proofs.RamLaws.{within_low, within-high}
use Rattle.quick.specs.Says.{Cleared}
use Rattle.quick.proofs.ByHint.{address, chosen, hint-serves, hint-moves}
use Rattle.quick.proofs.Works.{one-reads}
use Rattle.tlb.specs.Answers.{Answer}

-- a frame whose address of a line's first byte is a line's: it adds up with each byte of it
or-line : (p v i : ℕ) → v % 64 ≡ 0 → bit_or p v % 64 ≡ 0 → i < 64 → bit_or p (v + i) ≡ bit_or p v + i
or-line p v i low flat small =
    let bare : p % 64 ≡ 0 = sym (or_zero_r (p % 64)) ∙ ap (bit_or (p % 64)) (sym low) ∙ sym (or_mod p v 6) ∙ flat in
    let frame : p / 64 * 64 + 0 ≡ p = omega arith in
    let byte : v / 64 * 64 + i ≡ v + i = omega arith in
    let first : v / 64 * 64 + 0 ≡ v = omega arith in
    let one : bit_or p (v + i) ≡ bit_or (p / 64) (v / 64) * 64 + i
    = (λ k. bit_or (sym frame k) (sym byte k)) ∙ or_block 6 (p / 64) (v / 64) 0 i (omega arith) small
    ∙ ap (λ (x : ℕ). bit_or (p / 64) (v / 64) * 64 + x) (or_zero_l i) in
    let none : bit_or p v ≡ bit_or (p / 64) (v / 64) * 64 + 0
    = (λ k. bit_or (sym frame k) (sym first k)) ∙ or_block 6 (p / 64) (v / 64) 0 0 (omega arith) (omega arith)
    ∙ ap (λ (x : ℕ). bit_or (p / 64) (v / 64) * 64 + x) (or_zero_l 0) in
    omega (arith, one, none)

-- n stores of eight zero bytes in RAM, each by its hint
module _ (base : ℕ) (c : Core) where
  abbrev Hinted : ℕ → ℕ → ℕ → Type 0
  Hinted n va pa = (j : ℕ) → j < n → hint_in c.privilege (store_va va j) Write c.tlb ≡ Some (pa + 8 * j)

  reads-none : (n : ℕ) (ram : List ℕ) (va pa : ℕ) → ((j : ℕ) → j < n → store_va va j % 8 ≡ 0) → base ≤ pa → pa + 8 * n ≤ base + length ram → Hinted n va pa
      → no_work ≡ zero_work n c base ram va no_work
  unfolding zero_work
  reads-none zero ram va pa even low high h = refl
  reads-none (suc n) ram va pa even low high h =
      let p : pa + 8 * 0 ≡ pa = omega arith in
      let here : hint_in c.privilege va Write c.tlb ≡ Some pa = h 0 (omega arith) ∙ ap Some p in
      let t = hint-serves c (word_at base ram 8) va Write pa here in
      let e : va % 8 ≡ 0 = even 0 (omega arith) in
      let inside : within base (length ram) 8 pa ≡ true = rw (le-leb base pa low, le-leb (pa + 8) (base + length ram) (omega arith)) refl in
      let w : write_of c base ram va 8 ≡ done_with c = write-steady c base ram va pa e t inside in
      let r : ram_after_write c base ram va 8 0 ≡ stored base ram 8 pa 0 = one-ram c base ram va e pa (ap (λ (x : Answered Answer). x.answer) t) in
      let k : no_work ≡ write_work c base ram va 8 no_work = one-reads c (word_at base ram 8) va 8 Write (omega arith) no_work (hint-moves c (word_at base ram 8) va Write pa no_work here refl).read in
      let l = stored-length base ram 8 pa 0 in
      let ih = reads-none n (stored base ram 8 pa 0) (wrap (va + 8)) (pa + 8) (λ j i. even (suc j) (omega arith)) (omega arith) (omega arith)
      (λ j i. let q : pa + 8 * suc j ≡ pa + 8 + 8 * j = omega arith in h (suc j) (omega arith) ∙ ap Some q) in
      ih ∙ sym (λ i. on_stored (w i).answer (zero_work n (w i).core base (r i) (wrap (va + 8)) (sym k i)) (sym k i))

module _ (c : Core) (va pa : ℕ) (line : va % 64 ≡ 0) (found : hint_in c.privilege va Write c.tlb ≡ Some pa) (flat : pa % 64 ≡ 0) where
  -- each store of the line by the same hint
  found_at : (j : ℕ) → j < 8 → hint_in c.privilege (va + 8 * j) Write c.tlb ≡ Some (pa + 8 * j)
  found_at j h =
      let page : (va + 8 * j) / 4096 ≡ va / 4096 = omega arith in
      let low : (va + 8 * j) % 4096 ≡ va % 4096 + 8 * j = omega arith in
      let may : (may_hint c.privilege Write ≡ true) × (hint_found (hint_at c.tlb (data_slot va Write)) c.privilege.level va ≡ Some pa)
      = chosen (may_hint c.privilege Write) (hint_found (hint_at c.tlb (data_slot va Write)) c.privilege.level va) pa found in
      let key : (((hint_at c.tlb (data_slot va Write)).key == hint_key va c.privilege.level) ≡ true) × (Some (on_page (hint_at c.tlb (data_slot va Write)).pa va) ≡ Some pa)
      = chosen ((hint_at c.tlb (data_slot va Write)).key == hint_key va c.privilege.level) (Some (on_page (hint_at c.tlb (data_slot va Write)).pa va)) pa may.1 in
      let sum : on_page (hint_at c.tlb (data_slot va Write)).pa va ≡ pa = ap address key.1 in
      let each = or-line (hint_at c.tlb (data_slot va Write)).pa (va % 4096) (8 * j) (omega arith) (ap (λ (x : ℕ). x % 64) sum ∙ flat) (omega arith) in
      rw (page, may.0, key.0, low) (ap Some (each ∙ ap (λ (x : ℕ). x + 8 * j) sum))

  pub cleared : (base : ℕ) (ram : List ℕ) → va + 64 ≤ 2 ^ 64 → (f : Bool) (ys : List ℕ) → f ≡ within base (length ram) 64 pa → ys ≡ stored base ram 64 pa 0
      → Cleared c base ram va f ys
  unfolding stored
  cleared base ram room true ys ef ey =
      let z = zero-steady base c 8 ram va pa (omega arith) (omega arith) (sym ef) (λ memory j h. hint-serves c memory (va + 8 * j) Write (pa + 8 * j) (found_at j h)) in
      let low = within_low base (length ram) 64 pa (sym ef) in
      let high = within-high base (length ram) 64 pa (sym ef) in
      let at : (j : ℕ) → j < 8 → store_va va j ≡ va + 8 * j = λ j h. store-va j va (omega arith) in
      let none = reads-none base c 8 ram va pa (λ j h. ap (λ (x : ℕ). x % 8) (at j h) ∙ omega arith) low high
      (λ j h. ap (λ (x : ℕ). hint_in c.privilege x Write c.tlb) (at j h) ∙ found_at j h) in
      (z.0, none, ey ∙ sym z.1)
  cleared base ram room false ys ef ey = ey ∙ rw (← ef) refl
