-- The counters of each level over a history: they move by the translations made, one after another.
use Rattle.std.specs.Prelude.{if◌then◌else◌, ◌≡◌, Bool, ◌&&◌, List, [], ◌∷◌, ◌++◌, ℕ, ◌+◌, ◌%◌, ◌^◌, ◌≤◌, ◌<◌, ◌==◌, Ok, Err}
use Rattle.std.proofs.Math.Path.{refl}
use Rattle.std.proofs.Common.{◌∙◌, arith}
use Rattle.tlb.specs.Asks.{Ask, onward}
use Rattle.tlb.specs.Live.{Each, done, more}
use Rattle.tlb.proofs.Cells.{each-imp}
use Rattle.tlb.specs.Model.{Counters, Model, invalidate, retag, broadcast}
use Rattle.tlb.specs.Runs.{How, how_counted, sums}
use Rattle.tlb.proofs.Translations.{translate-counts, fetch-counts, counted-others}
use Rattle.tlb.specs.declared.Inval.{Inval}
use Rattle.tlb.specs.Answers.{Answer}
use Rattle.history.specs.World.{World, Plain}
use Rattle.history.specs.History.{Event, steps, receives, after}
use Rattle.history.proofs.Lists.{event-low}
use Rattle.history.specs.ModelRun.{model_ask, model_asks, model_flushed, model_retagged, model_event, model_run}
use Rattle.history.specs.Tallies.{Made, by_line, by_walk, how_many, at, rust_after, made_in, made_run}

-- THE COUNTERS AFTER TRANSLATIONS, one after another

abbrev counted_all : List Made → Counters → Counters
counted_all [] k = k
counted_all (x ∷ xs) k = counted_all xs (how_counted x.how x.level k)

counted-append : (xs ys : List Made) (k : Counters) → counted_all (xs ++ ys) k ≡ counted_all ys (counted_all xs k)
counted-append [] ys k = refl
counted-append (x ∷ xs) ys k = counted-append xs ys (how_counted x.how x.level k)

-- hits and walks by level, of two counters, alike
record Alike (k n : Counters) : Type 0 where
  hits : k.hits ≡ n.hits
  walks : k.walks ≡ n.walks

same_alike : {k : Counters} → Alike k k
same_alike = record { hits = refl; walks = refl }

then-alike : {k n o : Counters} → Alike k n → Alike n o → Alike k o
then-alike a b = record { hits = a.hits ∙ b.hits; walks = a.walks ∙ b.walks }

counted-alike : {k n : Counters} (how : How) (level : ℕ) → Alike k n → Alike (how_counted how level k) (how_counted how level n)
counted-alike {k} {n} how level h1 = grind arith

all_alike : {k n : Counters} (xs : List Made) → Alike k n → Alike (counted_all xs k) (counted_all xs n)
all_alike [] a = a
all_alike {k = k} {n = n} (x ∷ xs) a =
    all_alike {k = how_counted x.how x.level k} {n = how_counted x.how x.level n} xs (counted-alike x.how x.level a)

module _ (w : World) where
  asks-counts : (c : Plain w) (m : w.Ram) (l : List Ask) (u : Model) → (model_asks w c m l u).counts ≡ counted_all (made_in w c m l u) u.counts
  asks-counts c m [] u = refl
  asks-counts c m (a ∷ l) u =
      grind (arith, (asks-counts c m l (model_ask w c m a u).after), translate-counts, fetch-counts)

  -- what a step does besides leaves hits and walks
  inval-alike : (v : Inval) (u : Model) → Alike (invalidate v u).counts u.counts
  unfolding invalidate
  inval-alike v u = grind arith

  run-alike : (past : List (Event w)) (c : Plain w) (u : Model) → Alike (model_run w c past u).counts (counted_all (made_run w c past u) u.counts)
  unfolding broadcast model_retagged model_flushed invalidate retag
  run-alike [] c u = same_alike
  run-alike (steps m s ∷ xs) c u =
      grind (arith, (run-alike xs (after w s.effect c) (model_event w (steps m s) c u)), same_alike, then-alike, asks-counts, all_alike, counted-append, inval-alike, u.counts)
  run-alike (receives v ∷ xs) c u =
      then-alike (run-alike xs c (invalidate v u)) (all_alike (made_run w c xs (invalidate v u)) (inval-alike v u))

-- AS NUMBERS

abbrev Moves : ℕ → ℕ → Bool → Type 0
Moves n before b = (n ≡ (before + (if b then 1 else 0)) % 2 ^ 64) × (n < 2 ^ 64)

one_hit : (how : How) (level : ℕ) (k : Counters) (l : ℕ) → k.hits l < 2 ^ 64
    → Moves ((how_counted how level k).hits l) (k.hits l) (l == level && by_line how)
one_hit how level k l h1 = grind arith

one-walk : (how : How) (level : ℕ) (k : Counters) (l : ℕ) → k.walks l < 2 ^ 64
    → Moves ((how_counted how level k).walks l) (k.walks l) (l == level && by_walk how)
one-walk how level k l h1 = grind arith

joined : (n before b rest : ℕ) → n ≡ (before + b) % 2 ^ 64 → (n + rest) % 2 ^ 64 ≡ (before + (b + rest)) % 2 ^ 64
joined n before b rest e = omega arith

all-hits : (xs : List Made) (k : Counters) (l : ℕ) → k.hits l < 2 ^ 64
    → (counted_all xs k).hits l ≡ (k.hits l + how_many (at l by_line) xs) % 2 ^ 64
all-hits [] k l h = omega arith
all-hits (x ∷ xs) k l h =
    let one = one_hit x.how x.level k l h in
    all-hits xs (how_counted x.how x.level k) l one.1 ∙ joined _ (k.hits l) _ (how_many (at l by_line) xs) one.0

all-walks : (xs : List Made) (k : Counters) (l : ℕ) → k.walks l < 2 ^ 64
    → (counted_all xs k).walks l ≡ (k.walks l + how_many (at l by_walk) xs) % 2 ^ 64
all-walks [] k l h = omega arith
all-walks (x ∷ xs) k l h =
    let one = one-walk x.how x.level k l h in
    all-walks xs (how_counted x.how x.level k) l one.1 ∙ joined _ (k.walks l) _ (how_many (at l by_walk) xs) one.0

-- AS THE RUST'S TWO COUNTERS

abbrev Low : Made → Type 0
Low x = x.level ≤ 3

all-sums : (xs : List Made) (k : Counters) → Each Low xs → sums (counted_all xs k) ≡ rust_after xs (sums k)
all-sums [] k done = refl
all-sums (x ∷ xs) k (more low rest) = grind (arith, (all-sums xs (how_counted x.how x.level k) rest))

alike-sums : {k n : Counters} → Alike k n → sums k ≡ sums n
alike-sums a = grind arith

pub each_append : {P : Made → Type 0} {xs ys : List Made} → Each P xs → Each P ys → Each P (xs ++ ys)
each_append done q = q
each_append (more p ps) q = more p (each_append ps q)

module _ (w : World) where
  -- of a step all are made at the level of its start
  pub made-level : (c : Plain w) (m : w.Ram) (l : List Ask) (u : Model) → Each (λ x. x.level ≡ c.privilege.level) (made_in w c m l u)
  made-level c m [] u = done
  made-level c m (a ∷ l) u = more refl (go (model_ask w c m a u).answer (made-level c m l (model_ask w c m a u).after))
    where
      go : (x : Answer) → Each (λ (y : Made). y.level ≡ c.privilege.level) (made_in w c m l (model_ask w c m a u).after)
          → Each (λ (y : Made). y.level ≡ c.privilege.level) (onward x (made_in w c m l (model_ask w c m a u).after) [])
      go (Ok pa) rest = rest
      go (Err f) rest = done

  run-low-made : (past : List (Event w)) (c : Plain w) (u : Model) → c.privilege.level ≤ 3 → Each Low (made_run w c past u)
  run-low-made [] c u low = done
  run-low-made (steps m s ∷ xs) c u low =
      each_append (each-imp (λ x e. rw e low) (made-level c m s.asks u))
      (run-low-made xs (after w s.effect c) (model_event w (steps m s) c u) (event-low w (steps m s) c low))
  run-low-made (receives v ∷ xs) c u low = run-low-made xs c (model_event w (receives v) c u) low

  -- THE THEOREMS, for every history

  module _ (past : List (Event w)) (c : Plain w) (u : Model) where
    -- the counters of a level move by the translations made at it that a line answered, that were walked
    pub run-hits : (l : ℕ) → u.counts.hits l < 2 ^ 64
        → (model_run w c past u).counts.hits l ≡ (u.counts.hits l + how_many (at l by_line) (made_run w c past u)) % 2 ^ 64
    run-hits l h = (λ i. (run-alike w past c u).hits i l) ∙ all-hits (made_run w c past u) u.counts l h

    pub run-walks : (l : ℕ) → u.counts.walks l < 2 ^ 64
        → (model_run w c past u).counts.walks l ≡ (u.counts.walks l + how_many (at l by_walk) (made_run w c past u)) % 2 ^ 64
    run-walks l h = (λ i. (run-alike w past c u).walks i l) ∙ all-walks (made_run w c past u) u.counts l h

    -- the sums of the four levels move as the Rust's two counters
    pub run-sums : c.privilege.level ≤ 3 → sums (model_run w c past u).counts ≡ rust_after (made_run w c past u) (sums u.counts)
    run-sums low = alike-sums (run-alike w past c u) ∙ all-sums (made_run w c past u) u.counts (run-low-made past c u low)

    -- a level at which none was made stays
    pub run-other : (l : ℕ) → Each (λ x. l ≡ x.level → ⊥) (made_run w c past u)
        → ((model_run w c past u).counts.hits l ≡ u.counts.hits l) × ((model_run w c past u).counts.walks l ≡ u.counts.walks l)
    run-other l none =
        let all = all_others (made_run w c past u) u.counts none in
        ((λ i. (run-alike w past c u).hits i l) ∙ all.0, (λ i. (run-alike w past c u).walks i l) ∙ all.1)
      where
        all_others : (xs : List Made) (k : Counters) → Each (λ (x : Made). l ≡ x.level → ⊥) xs
            → ((counted_all xs k).hits l ≡ k.hits l) × ((counted_all xs k).walks l ≡ k.walks l)
        all_others [] k done = (refl, refl)
        all_others (x ∷ xs) k (more ne rest) =
            let first = counted-others x.how x.level k l ne in
            let asked = all_others xs (how_counted x.how x.level k) rest in
            (asked.0 ∙ first.0, asked.1 ∙ first.1)
