-- Sums over rows: of the first and of the others, and where an operation is counted.
use Rattle.std.specs.Prelude.{if◌then◌else◌, ◌≡◌, refl, true, false, ℕ, ◌+◌, ◌%◌, ◌^◌, ◌<◌, ◌==◌, ◌∷◌, [], ◌++◌, Bool, List, length, take, drop, Option, Some, None, slice_set, slice_index_or, sum_by, option_map}
use Rattle.std.specs.List.{position}
use Rattle.std.proofs.Common.{arith, ap, sym, ◌∙◌}
use Rattle.std.proofs.lemmas.List.Sums.{sum_by-take-drop, sum_by-set, sum_by_push}
use Rattle.std.proofs.lemmas.List.Quantifiers.{position-Some}
use Rattle.reads_report.specs.Rows.{same, begun, more, noted, noted_at}
use Rattle.reads_report.specs.Counting.{Counts}
use Rattle.reads_report.specs.Named.{system_page, in_its_regime}
use Rattle.cpu.specs.Core.{reg_of}
use Rattle.system.specs.declared.decode.SysOp.{SysOp}
use Rattle.reads_report.specs.declared.rows.{Page.Page, Row.Row}
use Rattle.reads_report.proofs.Same.{is_page}

-- the first rows and the others are all
pub first_and_others : (f : Row → ℕ) (rows : List Row) (n : ℕ)
    → (sum_by f (take n rows) % 2 ^ 64 + sum_by f (drop n rows) % 2 ^ 64) % 2 ^ 64 ≡ sum_by f rows % 2 ^ 64
first_and_others f rows n = omega (arith, sum_by-take-drop f rows n)

-- a row that is changed changes the sum by as much
set-row : (f : Row → ℕ) (rows : List Row) (place d : ℕ) (y x : Row) → place < length rows → f y % 2 ^ 64 ≡ (f (slice_index_or rows place x) + d) % 2 ^ 64
    → sum_by f (slice_set rows place y) % 2 ^ 64 ≡ (sum_by f rows % 2 ^ 64 + d) % 2 ^ 64
set-row f rows place d y x h e = omega (arith, sum_by-set f rows place y x h, e)

-- so does a row that comes after the others
push-row : (f : Row → ℕ) (rows : List Row) (d : ℕ) (y : Row) → f y % 2 ^ 64 ≡ d % 2 ^ 64
    → sum_by f (rows ++ y ∷ []) % 2 ^ 64 ≡ (sum_by f rows % 2 ^ 64 + d) % 2 ^ 64
push-row f rows d y e = omega (arith, sum_by_push f rows y, e)

-- An operation at a page adds to a sum what it adds to any row of the page.
adds : (f : Row → ℕ) (p : Page) (n d : ℕ) (rows : List Row)
    → ((r : Row) → same p r.page ≡ true → f (more n r) % 2 ^ 64 ≡ (f r + d) % 2 ^ 64)
    → f (more n (begun p)) % 2 ^ 64 ≡ d % 2 ^ 64
    → sum_by f (noted p n rows) % 2 ^ 64 ≡ (sum_by f rows % 2 ^ 64 + d) % 2 ^ 64
adds f p n d rows h b = go (position (λ (r : Row). same p r.page) rows) refl
  where
    go : (o : Option ℕ) → position (λ (r : Row). same p r.page) rows ≡ o
        → sum_by f (noted_at o p n rows) % 2 ^ 64 ≡ (sum_by f rows % 2 ^ 64 + d) % 2 ^ 64
    go (Some place) e =
        let at = position-Some (λ (r : Row). same p r.page) rows place (begun p) e in
        set-row f rows place d (more n (slice_index_or rows place (begun p))) (begun p) at.0 (h (slice_index_or rows place (begun p)) at.1)
    go None e = push-row f rows d (more n (begun p)) b

-- WHERE IT IS COUNTED

gained : (b : Bool) (x n : ℕ) → (if b then (x + n) % 2 ^ 64 else 0) % 2 ^ 64 ≡ ((if b then x else 0) + (if b then n else 0)) % 2 ^ 64
gained true x n = omega arith
gained false x n = refl

-- over the rows whose pages pass a test
adds_where : (t : Page → Bool) (p : Page) (n : ℕ) (rows : List Row)
    → sum_by (λ (r : Row). if t r.page then r.descriptors else 0) (noted p n rows) % 2 ^ 64
    ≡ (sum_by (λ (r : Row). if t r.page then r.descriptors else 0) rows % 2 ^ 64 + (if t p then n else 0)) % 2 ^ 64
adds_where t p n rows =
    adds (λ (r : Row). if t r.page then r.descriptors else 0) p n (if t p then n else 0) rows
    (λ r h. gained (t r.page) r.descriptors n ∙ ap (λ (x : Page). ((if t r.page then r.descriptors else 0) + (if t x then n else 0)) % 2 ^ 64) (sym (is_page p r.page h)))
    (gained (t p) 0 n ∙ begins (t p))
  where
    begins : (b : Bool) → ((if b then 0 else 0) + (if b then n else 0)) % 2 ^ 64 ≡ (if b then n else 0) % 2 ^ 64
    begins true = omega arith
    begins false = refl

pub counts : (p : Page) (n : ℕ) (rows : List Row) → Counts p n rows
counts p n rows = record {
  once = adds (λ (r : Row). r.operations) p n 1 rows (λ r h. omega arith) (omega arith);
  descriptors = adds (λ (r : Row). r.descriptors) p n n rows (λ r h. omega arith) (omega arith);
  page = λ q. adds_where (λ x. same x q) p n rows;
  level = λ l. adds_where (λ x. x.level == l) p n rows;
}

pub at_regime : in_its_regime
at_regime c e form o = ap (λ (x : SysOp). option_map (λ (p : Page). p.regime) (system_page c x (reg_of c e.rt))) o
