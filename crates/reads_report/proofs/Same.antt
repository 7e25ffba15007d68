-- What the rows of pages rest on: pages that are the same are equal, and where the row of a page stands.
use Rattle.std.specs.Prelude.{if◌then◌else◌, ◌≡◌, refl, true, ℕ, zero, suc, ◌+◌, ◌==◌, ◌&&◌, ◌∷◌, [], ◌++◌, Bool, not, cond, List, length, map}
use Rattle.std.specs.Prelude.{nat_lt, Option, Some, None, is_some, slice_set, slice_index_or}
use Rattle.std.specs.List.{list_any, position, position_or_len}
use Rattle.std.proofs.Common.{ap, sym, ◌∙◌}
use Rattle.std.proofs.lemmas.Bool.{eqb-true, eq-eqb, and_from}
use Rattle.word.proofs.RamLaws.{both}
use Rattle.sysreg.specs.Regs.{index_of}
use Rattle.sysreg.specs.declared.regs.Regime.{Regime}
use Rattle.sysreg.specs.declared.regs.Regime.TheVariants.{El1, El2, El3}
use Rattle.reads_report.specs.Rows.{same}
use Rattle.reads_report.specs.declared.rows.{Page.Page, Row.Row}

-- what is one page is equal
is-regime : (r s : Regime) → (index_of r == index_of s) ≡ true → r ≡ s
is-regime El1 El1 h = refl
is-regime El2 El2 h = refl
is-regime El3 El3 h = refl
is-regime El1 El2 h = cc
is-regime El1 El3 h = cc
is-regime El2 El1 h = cc
is-regime El2 El3 h = cc
is-regime El3 El1 h = cc
is-regime El3 El2 h = cc

pub is_page : (a p : Page) → same a p ≡ true → a ≡ p
is_page a p h =
    let x = both (a.level == p.level) (index_of a.regime == index_of p.regime && a.number == p.number) h in
    let y = both (index_of a.regime == index_of p.regime) (a.number == p.number) x.1 in
    λ i. record {
      level = eqb-true a.level p.level x.0 i;
      regime = is-regime a.regime p.regime y.0 i;
      number = eqb-true a.number p.number y.1 i;
    }

-- a page is one page with itself
pub page_itself : (p : Page) → same p p ≡ true
page_itself p =
    and_from (p.level == p.level) (index_of p.regime == index_of p.regime && p.number == p.number) (eq-eqb p.level p.level refl)
    (and_from (index_of p.regime == index_of p.regime) (p.number == p.number) (eq-eqb (index_of p.regime) (index_of p.regime) refl)
    (eq-eqb p.number p.number refl))

-- PLACES

place-map : (t : Page → Bool) (rows : List Row) → position_or_len t (map (λ (r : Row). r.page) rows) ≡ position_or_len (λ (r : Row). t r.page) rows
place-map t [] = refl
place-map t (r ∷ rows) = ap (λ (n : ℕ). cond (not (t r.page)) (1 + n) 0) (place-map t rows)

length-pages : (rows : List Row) → length (map (λ (r : Row). r.page) rows) ≡ length rows
length-pages [] = refl
length-pages (r ∷ rows) = ap (λ (n : ℕ). suc n) (length-pages rows)

-- the row of a page stands where the page does
pub position-pages : (t : Page → Bool) (rows : List Row) → position t (map (λ (r : Row). r.page) rows) ≡ position (λ (r : Row). t r.page) rows
position-pages t rows =
    λ i. cond (nat_lt (place-map t rows i) (length-pages rows i)) (Some (place-map t rows i)) None

-- a row that is changed keeps its page
pub pages-set : (rows : List Row) (place : ℕ) (y x : Row) → y.page ≡ (slice_index_or rows place x).page
    → map (λ (r : Row). r.page) (slice_set rows place y) ≡ map (λ (r : Row). r.page) rows
pages-set [] place y x h = refl
pages-set (r ∷ rows) zero y x h = ap (λ (p : Page). p ∷ map (λ (r : Row). r.page) rows) h
pages-set (r ∷ rows) (suc n) y x h = ap (λ (l : List Page). r.page ∷ l) (pages-set rows n y x h)

pages-push : (rows : List Row) (y : Row) → map (λ (r : Row). r.page) (rows ++ y ∷ []) ≡ map (λ (r : Row). r.page) rows ++ y.page ∷ []
pages-push [] y = refl
pages-push (r ∷ rows) y = ap (λ (l : List Page). r.page ∷ l) (pages-push rows y)

-- a page that was not found goes last, as its row does
pub pages-pushed : (keys : List Page) (rows : List Row) (y : Row) (found : Option ℕ) → keys ≡ map (λ (r : Row). r.page) rows
    → found ≡ None → is_some found ≡ list_any (same y.page) keys
    → (if list_any (same y.page) keys then keys else keys ++ y.page ∷ []) ≡ map (λ (r : Row). r.page) (rows ++ y ∷ [])
pages-pushed keys rows y found e none f =
    ap (λ (b : Bool). if b then keys else keys ++ y.page ∷ []) (sym f ∙ ap (λ (o : Option ℕ). is_some o) none)
    ∙ ap (λ (l : List Page). l ++ y.page ∷ []) e ∙ sym (pages-push rows y)
