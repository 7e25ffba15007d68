-- Split accesses whose two parts lie in RAM, on plain values, for `search`.
use Rattle.std.proofs.Common.{rules, ◌≡◌, ℕ, zero, suc, ◌+◌, ◌-◌, ◌*◌, ◌/◌, ◌^◌, ◌<◌, ◌≤◌, Bool, true, false, ◌&&◌, ltb, List, length, sym, refl, ap}
use Rattle.std.proofs.Common.{◌∙◌, mod-eq_of_lt, suc-add, pow-suc, zero-add, arith, take-append-drop, pow-add, shr-shr, ltb-false, ltb-true, le-ltb}
use Rattle.std.proofs.Common.{lt-ltb, le-leb}
use Rattle.std.specs.Prelude.{Some, Ok}
use Rattle.word.specs.Ram.{within, written, stored, bytes_of}
use Rattle.word.proofs.RamLaws.{digit-next, written_next}
use Rattle.cpu.specs.Bytes.{byte_at, first_outside, verdict_of, Lie, split_stored, load_of, store_ram}
use Rattle.cpu.proofs.BytesLaws.{stored-length, fits-base, fits-end, split-value}
use Rattle.quick.specs.AtOnce.{both_inside, both_at, both_stored, pair_at}
use Rattle.cpu.specs.declared.place.Pages.{Pages}
use Rattle.cpu.specs.declared.place.Place.TheVariants.{Split}

value-is : (a b : ℕ) → Some a ≡ Some b → a ≡ b
value-is a b e = cc

and_both : (a b : Bool) → a && b ≡ true → (a ≡ true) × (b ≡ true)
and_both a b h1 = grind arith

-- the glance says that every byte lies in RAM
module _ (base len : ℕ) (p : Pages) (n : ℕ) where
  abbrev parts : Bool
  parts = within base len p.in_page p.pa && within base len (n - p.in_page) p.pa2

  record Fit : Type 0 where
    low : base ≤ 2 ^ 64 - 1 - len
    some : p.in_page ≤ n
    few : n ≤ 8
    both : parts ≡ true

  unfold-both : both_inside base len p n ≡ true → Fit
  unfolding both_inside
  unfold-both = grind arith

  pub both-lie : len < 2 ^ 64 → both_inside base len p n ≡ true → Lie base len p n
  both-lie h t = search (rules, unfold-both, and_both, ltb, ltb-true, ltb-false)

-- THE TWO PARTS OF A STORE

-- a store of no bytes
stored-none : (base : ℕ) (ram : List ℕ) (pa v : ℕ) → stored base ram 0 pa v ≡ ram
unfolding stored bytes_of
stored-none base ram pa v = grind (arith, take-append-drop)

-- of bytes that lie in RAM
inside : (base : ℕ) (xs : List ℕ) (m q w : ℕ) → base ≤ q → q + m ≤ base + length xs → stored base xs m q w ≡ written xs (q - base) m w
unfolding stored
inside base xs m q w h k = rw (le-leb _ _ h, le-leb _ _ k)

-- of one byte more: the lowest, and then the others
stored_next : (base : ℕ) (ram : List ℕ) (n pa v : ℕ) → true ≡ within base (length ram) (suc n) pa
    → stored base ram (suc n) pa v ≡ stored base (stored base ram 1 pa v) n (pa + 1) (v / 256)
stored_next base ram n pa v e = grind (arith, length, fits-end, inside, stored-length, written_next)

-- bytes that follow one another in RAM are one part
row-stored : (base : ℕ) (p : Pages) (v i n q : ℕ) (ram : List ℕ) → ((j : ℕ) → j < n → byte_at p (i + j) ≡ q + j)
    → true ≡ within base (length ram) n q → split_stored base p v i n ram ≡ stored base ram n q v
unfolding split_stored
row-stored base p v i zero q ram row e = sym (stored-none base ram q v)
row-stored base p v i (suc n) q ram row e =
    let b : base ≤ q = fits-base base (length ram) (suc n) q true refl e in
    let t : q - base + suc n ≤ length ram = fits-end base (length ram) (suc n) q true refl e in
    let zi : i + 0 ≡ i = omega arith in
    let zq : q + 0 ≡ q = omega arith in
    let here : byte_at p i ≡ q = rw (zi, zq) at (row 0 (omega arith)) in
    let long : length (stored base ram 1 q v) ≡ length ram = stored-length base ram 1 q v in
    rw here
    (row-stored base p (v / 256) (i + 1) n (q + 1) (stored base ram 1 q v)
    (λ j h. let a : i + suc j ≡ i + 1 + j = omega arith in let c : q + suc j ≡ q + 1 + j = omega arith in rw (a, c) at (row (suc j) (omega arith)))
    (sym (rw (le-leb base (q + 1) (omega arith), le-leb (q + 1 + n) (base + length (stored base ram 1 q v)) (omega arith))))
    ∙ sym (stored_next base ram n q v e))

-- m bytes, and then n more
split-join : (base : ℕ) (p : Pages) (v i m n : ℕ) (ram : List ℕ)
    → split_stored base p v i (m + n) ram ≡ split_stored base p (v / 256 ^ m) (i + m) n (split_stored base p v i m ram)
unfolding split_stored
split-join base p v i zero n ram = grind (arith)
split-join base p v i (suc m) n ram =
    let z : i + suc m ≡ i + 1 + m = omega arith in
    rw (suc-add m n, z, digit-next v m) (split-join base p (v / 256) (i + 1) m n (stored base ram 1 (byte_at p i) v))

-- two shifts by half of its bits take off k bytes
double-shift : (k : ℕ) → 2 ^ (k * 4 + k * 4) ≡ 256 ^ k
double-shift zero = refl
double-shift (suc k) =
    let e : suc k * 4 + suc k * 4 ≡ k * 4 + k * 4 + 8 = omega arith in
    rw (e, pow-add 2 (k * 4 + k * 4) 8, double-shift k, pow-suc 256 k)

pub shifted : (v k : ℕ) → v / 2 ^ (k * 4) / 2 ^ (k * 4) ≡ v / 256 ^ k
shifted v k = shr-shr v (k * 4) (k * 4) ∙ ap (λ (m : ℕ). v / m) (double-shift k)

module _ (base : ℕ) (ram : List ℕ) (p : Pages) (n v : ℕ) (h : length ram < 2 ^ 64) (t : both_inside base (length ram) p n ≡ true) where
  abbrev first_part : List ℕ
  first_part = stored base ram p.in_page p.pa v

  abbrev rest_of : ℕ
  rest_of = v / 256 ^ p.in_page

  pub parts-stored : stored base first_part (n - p.in_page) p.pa2 rest_of ≡ split_stored base p v 0 n ram
  parts-stored =
      let f = unfold-both base (length ram) p n t in
      let w : (within base (length ram) p.in_page p.pa ≡ true) × (within base (length ram) (n - p.in_page) p.pa2 ≡ true)
      = and_both _ _ f.both in
      let low : base ≤ 2 ^ 64 - 1 - length ram = f.low in
      let some : p.in_page ≤ n = f.some in
      let long : length first_part ≡ length ram = stored-length base ram p.in_page p.pa v in
      let sum : p.in_page + (n - p.in_page) ≡ n = omega arith in
      let b1 = fits-base base (length ram) p.in_page p.pa true refl (sym w.0) in
      let e1 = fits-end base (length ram) p.in_page p.pa true refl (sym w.0) in
      let b2 = fits-base base (length ram) (n - p.in_page) p.pa2 true refl (sym w.1) in
      let e2 = fits-end base (length ram) (n - p.in_page) p.pa2 true refl (sym w.1) in
      let one : split_stored base p v 0 p.in_page ram ≡ first_part
      = row-stored base p v 0 p.in_page p.pa ram (λ j k. here j k (omega arith)) (sym w.0) in
      let two : split_stored base p rest_of p.in_page (n - p.in_page) first_part ≡ stored base first_part (n - p.in_page) p.pa2 rest_of
      = row-stored base p rest_of p.in_page (n - p.in_page) p.pa2 first_part (λ j k. there j (omega arith))
      (sym (ap (λ (m : ℕ). within base m (n - p.in_page) p.pa2) long ∙ w.1)) in
      sym two
      ∙ ap (split_stored base p rest_of p.in_page (n - p.in_page)) (sym one)
      ∙ ap (λ (m : ℕ). split_stored base p rest_of m (n - p.in_page) (split_stored base p v 0 p.in_page ram)) (sym (zero-add p.in_page))
      ∙ sym (split-join base p v 0 p.in_page (n - p.in_page) ram)
      ∙ ap (λ (m : ℕ). split_stored base p v 0 m ram) sum
    where
      here : (j : ℕ) → j < p.in_page → p.pa + j < 2 ^ 64 → byte_at p (0 + j) ≡ p.pa + j
      here j k s = rw (zero-add j, lt-ltb _ _ k) (mod-eq_of_lt s)

      there : (j : ℕ) → p.pa2 + j < 2 ^ 64 → byte_at p (p.in_page + j) ≡ p.pa2 + j
      there j s =
          let q : p.in_page + j - p.in_page ≡ j = omega arith in
          rw (le-ltb (p.in_page + j) p.in_page (omega arith), q) (mod-eq_of_lt s)

-- a load and a store by one test
module _ (base : ℕ) (ram : List ℕ) (p : Pages) (n : ℕ) (f : Bool) (ef : f ≡ both_inside base (length ram) p n) where
  pub lies : length ram < 2 ^ 64 → f ≡ true → Lie base (length ram) p n
  lies h t = both-lie base (length ram) p n h (sym ef ∙ t)

  pub few : f ≡ true → n ≤ 8
  few t = (unfold-both base (length ram) p n (sym ef ∙ t)).few

  pub made : f ≡ true → true ≡ both_inside base (length ram) p n
  made t = sym t ∙ ef

  pub unmade : f ≡ false → false ≡ both_inside base (length ram) p n
  unmade t = sym t ∙ ef

  pub both-wrote : length ram < 2 ^ 64 → (xs ys : List ℕ) (v : ℕ) → f ≡ true → xs ≡ stored base ram p.in_page p.pa v
      → ys ≡ stored base xs (n - p.in_page) p.pa2 (v / 2 ^ (p.in_page * 4) / 2 ^ (p.in_page * 4)) → ys ≡ both_stored base ram p n v
  unfolding both_stored
  both-wrote h xs ys v t ex ey = grind (arith, shifted, parts-stored)

  pub part-shift : f ≡ true → p.in_page * 4 < 64
  unfolding both_inside
  part-shift t = grind arith

  pub some : f ≡ true → p.in_page ≤ n
  some t = (unfold-both base (length ram) p n (sym ef ∙ t)).some

  pub both-unwritten : (v : ℕ) → f ≡ false → ram ≡ both_stored base ram p n v
  unfolding both_stored
  both-unwritten v t = rw (← ef, t)

-- two bytes, one in each page
module _ (base : ℕ) (ram : List ℕ) (pa pa2 : ℕ) (f : Bool) (ef : f ≡ both_inside base (length ram) (pair_at pa pa2) 2) where
  pub pair-wrote : length ram < 2 ^ 64 → (xs ys : List ℕ) (v : ℕ) → f ≡ true → xs ≡ stored base ram 1 pa v → ys ≡ stored base xs 1 pa2 (v / 256)
      → ys ≡ both_stored base ram (pair_at pa pa2) 2 v
  pair-wrote h xs ys v t ex ey = grind (arith, both-wrote)

-- and what it says is what the bytes say
lie-inside : (base len : ℕ) (p : Pages) (n : ℕ) → Lie base len p n → (m i : ℕ) → i + m ≤ n → first_outside base len p i m ≡ Ok tt
unfolding first_outside
lie-inside base len p n l zero i h = refl
lie-inside base len p n l (suc m) i h = rw (l.each i (omega arith)) (lie-inside base len p n l m (i + 1) (omega arith))

module _ (base : ℕ) (ram : List ℕ) (p : Pages) (n : ℕ) (h : length ram < 2 ^ 64) where
  all-inside : both_inside base (length ram) p n ≡ true → first_outside base (length ram) p 0 n ≡ Ok tt
  all-inside t = lie-inside base (length ram) p n (both-lie base (length ram) p n h t) n 0 (omega arith)

  pub both-loads : (v : ℕ) → both_at base ram p n ≡ Some v → load_of base ram (Split p) n ≡ Ok v
  unfolding both_at
  both-loads v = grind (arith, length, split-value, all-inside, value-is)

  pub both-judged : both_inside base (length ram) p n ≡ true → verdict_of base (length ram) (Split p) n ≡ Ok tt
  unfolding verdict_of
  both-judged t = all-inside t

  pub both-stores : (v : ℕ) → both_inside base (length ram) p n ≡ true → store_ram base ram (Split p) n v ≡ both_stored base ram p n v
  unfolding store_ram verdict_of both_stored
  both-stores v t = rw (all-inside t, t)
