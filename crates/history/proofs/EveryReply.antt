-- Every reply of a call, and of a list of calls, proved from a bridge.
use Rattle.std.proofs.Common.{arith, append-nil, append_assoc}
use Rattle.std.specs.Prelude.{◌≡◌, refl, List, [], ◌∷◌, ◌++◌, ◌≤◌}
use Rattle.tlb.specs.Tlb.{fresh}
use Rattle.history.specs.World.{World, Laws}
use Rattle.history.specs.Invisible.{Tidy}
use Rattle.history.proofs.Corollaries.{rest-invisible}
use Rattle.history.specs.Calls.{Machine, Fed, run, lent_of, bare_run, events_fed, events_run, ShownIn, Shown, plain_of, Bridge, Replies, RepliesByAnswers, SameReplies}
use Rattle.history.specs.Calls.{replies, bare_replies, InvisibleCalls}
use Rattle.history.proofs.EveryCall.{run-bare, run-plain, fresh-run}

module _ (w : World) (M : Machine w) where
  -- one call more
  pub run-one : (c : M.Core) (l : List (Fed w M)) (x : Fed w M)
      → run w M c (lent_of w M (l ++ x ∷ [])) ≡ M.step (run w M c (lent_of w M l)) x.lent.ram x.lent.call
  run-one c [] x = refl
  run-one c (y ∷ l) x = run-one (M.step c y.lent.ram y.lent.call) l x

  pub bare-one : (b : M.Bare) (l : List (Fed w M)) (x : Fed w M)
      → bare_run w M b (lent_of w M (l ++ x ∷ [])) ≡ M.bare_step (bare_run w M b (lent_of w M l)) x.lent.ram x.lent.call
  bare-one b [] x = refl
  bare-one b (y ∷ l) x = bare-one (M.bare_step b y.lent.ram y.lent.call) l x

  pub events-one : (b : M.Bare) (l : List (Fed w M)) (x : Fed w M)
      → events_run w M b (l ++ x ∷ []) ≡ events_run w M b l ++ events_fed w M (bare_run w M b (lent_of w M l)) x
  events-one b [] x = append-nil _
  events-one b (y ∷ l) x = grind (arith, (events-one (M.bare_step b y.lent.ram y.lent.call) l x), append_assoc)

  pub shown-one : (c : M.Core) (l : List (Fed w M)) (x : Fed w M) → Shown w M c l → ShownIn w M (run w M c (lent_of w M l)) x
      → Shown w M c (l ++ x ∷ [])
  shown-one c [] x s sx = (sx, tt)
  shown-one c (y ∷ l) x s sx = (s.0, shown-one (M.step c y.lent.ram y.lent.call) l x s.1 sx)

module _ (w : World) (M : Machine w) (B : Bridge w M) (laws : Laws w) (c₀ : M.Core) (new : M.tlb c₀ ≡ fresh)
    (zero-asid : w.asid (plain_of w M c₀).regs ≡ 0) (low : (plain_of w M c₀).privilege.level ≤ 3) where
  pub same-replies : (A : Replies w M) → RepliesByAnswers w M A → SameReplies w M A c₀
  same-replies A same list s x sx tidy = grind (arith, run-bare, fresh-run, run-plain, rest-invisible)

  -- the calls of `todo` after those of `made`
  rest-replies : (A : Replies w M) → RepliesByAnswers w M A → (made todo : List (Fed w M)) → Shown w M c₀ made → Shown w M (run w M c₀ (lent_of w M made)) todo
      → Tidy w (plain_of w M c₀) (events_run w M (M.bare c₀) made) (events_run w M (bare_run w M (M.bare c₀) (lent_of w M made)) todo)
      → replies w M A (run w M c₀ (lent_of w M made)) (lent_of w M todo)
      ≡ bare_replies w M A (bare_run w M (M.bare c₀) (lent_of w M made)) (lent_of w M todo)
  rest-replies A same made [] s st tidy = refl
  rest-replies A same made (x ∷ todo) s st tidy =
      grind (arith, (rest-replies A same (made ++ x ∷ []) todo (shown-one w M c₀ made x s st.0)), same-replies, append_assoc, run-one, bare-one, events-one)

  pub invisible-calls : (A : Replies w M) → RepliesByAnswers w M A → InvisibleCalls w M A c₀
  invisible-calls A same list s tidy = rest-replies A same [] list tt s tidy
