-- What a translation in a traced model answers, and that it leaves the model traced.
use Rattle.std.proofs.Common.{rules, sym, ap, subst, ◌∙◌}
use Rattle.std.proofs.Math.Path.{◌≡◌, refl}
use Rattle.std.specs.Prelude.{if◌then◌else◌, Bool, ◌&&◌, List, ◌∷◌, ◌⊎◌, ℕ, ◌+◌, ◌*◌, ◌/◌, ◌%◌, ◌<◌, ◌==◌, Ok, Err}
use Rattle.std.proofs.Math.Bool.{true, false}
use Rattle.std.proofs.Math.Logic.{inl, inr}
use native.Mathlib.Omega.{arith}
use borrow.Author.Tests.{eqb-true, lt-ltb, le-ltb}
use Rattle.word.proofs.RamLaws.{both}
use Rattle.fault.specs.First.{first}
use Rattle.walk.specs.declared.{level.Leaf.Leaf}
use Rattle.sysreg.specs.declared.regs.Regime.{Regime}
use Rattle.tlb.specs.Access.{flat_answer}
use Rattle.tlb.specs.Answers.{Outcome, Answer}
use Rattle.tlb.specs.Model.{Slot, empty, holds, Line, Known, Model, one_hit, one_walk, same_regime, folded, hint_place, Access, as_user, need}
use Rattle.tlb.specs.Model.{reach_of, reaches, serving, line_for, address_in, judge as judgeLine, line_of_leaf, walked, looked, unhinted, known_of}
use Rattle.tlb.specs.Model.{noting, noted, knowing, tried, keep_hint, keep_fetch, hinted, hintable, translate, fetch}
use Rattle.tlb.specs.declared.access.Kind.{Kind}
use Rattle.tlb.specs.declared.access.Kind.TheVariants.{Fetch}
use Rattle.tlb.specs.Translate.{leaf_answer}
use Rattle.history.specs.World.{World, Laws, LeavesEqual, page_walk, Plain, regime_now, on_now, untag_now, page_now, need_now, uncached, access_of}
use Rattle.tlb.proofs.Translations.{flat-is}
use Rattle.history.proofs.Traced.{Moment, at, Seen, Today, LineFrom, LineOk, allows, HintFrom, flat, kept, HintOk, kind_at, Traced, traced-counting}
use Rattle.history.proofs.Traced.{traced-keep, traced-hint, traced-fetch-hint}
use Rattle.walk.specs.Answers.{Walked}

same-regime : (r s : Regime) → same_regime r s ≡ true → r ≡ s
same-regime r s h1 = grind arith

-- without the mark, or for a fetch, the mark does not count
abbrev Unmarked : Bool → Kind → Type 0
Unmarked mark k = (k ≡ Fetch) ⊎ (mark ≡ false)

unmarked : (r : Regime) (el : ℕ) (mark : Bool) (k : Kind) → Unmarked mark k → as_user r el mark k ≡ as_user r el false k
unmarked r el mark k h1 = grind arith

hint-unmarked : (k : Kind) (mark : Bool) → hintable k mark ≡ true → mark ≡ false
hint-unmarked k mark h1 = grind arith

place-low : (p : ℕ) → folded p < 256
unfolding folded
place-low p = omega arith

module _ (w : World) where
  -- a hint's place says its kind
  kind-at : (k : Kind) (mark : Bool) (va : ℕ) → hintable k mark ≡ true → kind_at w (hint_place k va) ≡ k
  kind-at k mark va h1 = grind (arith, lt-ltb, place-low, le-ltb)

  -- each walk of the page that no invalidation since covers, global or under today's ASID, equals its walk now
  abbrev pub Agreed : List (Moment w) → w.Regs → w.Ram → Regime → ℕ → Type 0
  Agreed h R m r p =
      (ℓ : Leaf) (a : ℕ) → Seen w h r p ℓ a → Today w R ℓ a
      → (ℓ' : Leaf) × (page_walk w R m r p ≡ Ok ℓ') × LeavesEqual ℓ ℓ'

  module _ (laws : Laws w) (h : List (Moment w)) (c : Plain w) (m : w.Ram) (k : Kind) (va : ℕ) where
    -- where an answer came from
    pub data Answered (x : Answer) : Type 0 where
      itself : on_now w c ≡ false → x ≡ flat_answer (untag_now w c va) → Answered x
      by : (ℓ : Leaf) (a : ℕ) → on_now w c ≡ true → Seen w h (regime_now w c) (page_now w c va) ℓ a → Today w c.regs ℓ a
          → x ≡ leaf_answer ℓ (need_now w c k) va → Answered x
      failed : (code : ℕ) → on_now w c ≡ true → w.walk c.regs m (regime_now w c) (untag_now w c va) ≡ Err code → x ≡ Err (first code)
          → Answered x

    pub answered-right : {x : Answer} → Agreed h c.regs m (regime_now w c) (page_now w c va) → Answered x → x ≡ uncached w c m k va
    answered-right {x} h1 h2 = grind arith

    -- the pages of an address and of its page's first address are untagged to one page
    untag-first : untag_now w c va / 4096 ≡ w.untag c.regs (regime_now w c) (va / 4096 * 4096) / 4096
    untag-first = laws.untag-page c.regs (regime_now w c) va (va / 4096 * 4096) (omega arith)

    same-need : Unmarked c.privilege.unprivileged k → need_now w c k ≡ need k (as_user (regime_now w c) c.privilege.level false k)
    same-need u = ap (need k) (unmarked (regime_now w c) c.privilege.level c.privilege.unprivileged k u)

    answered-hint : (pa : ℕ) → Unmarked c.privilege.unprivileged k → Answered (Ok pa)
        → HintFrom w h c.regs k (va / 4096) c.privilege.level (pa / 4096)
    answered-hint pa u (itself o e) = grind (arith)
    answered-hint pa u (by ℓ a o seen d e) = go (allows w ℓ (need_now w c k)) refl e
      where
        go : (b : Bool) → allows w ℓ (need_now w c k) ≡ b → Ok pa ≡ (if b then Ok (ℓ.oa / 4096 * 4096 + va % 4096) else Err (first (12 + ℓ.level)))
            → HintFrom w h c.regs k (va / 4096) c.privilege.level (pa / 4096)
        go true al q =
            let n : pa ≡ ℓ.oa / 4096 * 4096 + va % 4096 = cc in
            kept ℓ a o (subst (λ (p : ℕ). Seen w h (regime_now w c) p ℓ a) untag-first seen) d
            (ap (allows w ℓ) (sym (same-need u)) ∙ al) (omega arith)
        go false al q = let z : ◌≡◌ {A = ℕ} 0 1 = cc in absurd (omega arith)
    answered-hint pa u (failed code o f e) = let z : ◌≡◌ {A = ℕ} 0 1 = cc in absurd (omega arith)

    hint-answered : (q : ℕ) → Unmarked c.privilege.unprivileged k → HintFrom w h c.regs k (va / 4096) c.privilege.level q → Answered (address_in q va)
    hint-answered q u (flat o e) = grind (arith)
    hint-answered q u (kept ℓ a o seen d al e) =
        by ℓ a o (subst (λ (p : ℕ). Seen w h (regime_now w c) p ℓ a) (sym untag-first) seen) d
        (rw (same-need u, al) (ap (λ (n : ℕ). Ok (n * 4096 + va % 4096)) e))

    -- an answer that came so, and a model that is traced
    pub record Done (o : Outcome Model) : Type 0 where
      pub traced : Traced w h c.regs o.after
      pub answered : Answered o.answer

    line-judged : (l : Line) (o : LineFrom w h l) → judgeLine l (access_of w c m k va) ≡ leaf_answer o.leaf (need_now w c k) va
    unfolding judgeLine
    line-judged l o = rw (o.frame, o.perms, o.level)

  -- a step has begun on the registers and RAM of now
  module _ (laws : Laws w) (past : List (Moment w)) (c : Plain w) (m : w.Ram) (k : Kind) (va : ℕ) where
    abbrev h : List (Moment w)
    h = at c.regs m ∷ past

    abbrev Fine : Outcome Model → Type 0
    Fine o = Done laws h c m k va o

    abbrev a : Access
    a = access_of w c m k va

    -- the tests of a line and of a hint
    abbrev of_page : Line → Bool
    of_page l = l.page == page_now w c va

    abbrev of_regime : Line → Bool
    of_regime l = same_regime l.regime (regime_now w c)

    abbrev hits : Known → Bool
    hits n = n.page == va / 4096 && n.level == c.privilege.level

    module _ (t : Model) (s : Traced w h c.regs t) where
      walk-done : on_now w c ≡ true → (x : Walked) → w.walk c.regs m (regime_now w c) (untag_now w c va) ≡ x → Fine (walked x a t)
      unfolding walked
      walk-done o (Err code) e = record { traced = traced-counting w (one_walk c.privilege.level) s; answered = failed code o e refl }
      walk-done o (Ok leaf) e = record { traced = traced-keep w line kept-walk (traced-counting w (one_walk c.privilege.level) s); answered = answer }
        where
          line : Line
          line = line_of_leaf leaf a t.asid

          own : (ℓ' : Leaf) × (page_walk w c.regs m (regime_now w c) (page_now w c va) ≡ Ok ℓ') × LeavesEqual leaf ℓ' × (leaf.global ≡ ℓ'.global)
          own = laws.walk-page c.regs m (regime_now w c) (untag_now w c va) (page_now w c va * 4096) (omega arith) leaf e

          seen : Seen w h (regime_now w c) (page_now w c va) own.0 t.asid
          seen = inl (record { is-on = o; leaf = own.1; under = s.asid-is })

          kept-walk : LineFrom w h line
          kept-walk =
              record {
                leaf = own.0;
                under = t.asid;
                seen = seen;
                frame = own.2.pages;
                perms = own.2.perms;
                level = own.2.levels;
                reach = ap (λ (g : Bool). reach_of g t.asid) own.3;
              }

          answer : Answered laws h c m k va (judgeLine line a)
          answer = by own.0 t.asid o seen (inr s.asid-is) (line-judged laws h c m k va line kept-walk)

      -- a line that serves keeps a walk that was seen, global or under today's ASID
      line-done : on_now w c ≡ true → (l : Line) → LineFrom w h l → of_page l ≡ true → of_regime l ≡ true → reaches l.reach t.asid ≡ true
          → Fine (looked (holds l) a t)
      unfolding looked
      line-done o l b p r q =
          record {
            traced = traced-counting w (one_hit c.privilege.level) s;
            answered =
                by b.leaf b.under o (rw (same-regime l.regime (regime_now w c) r, eqb-true l.page (page_now w c va) p) at b.seen)
                (today b.leaf.global refl (rw b.reach at q)) (line-judged laws h c m k va l b);
          }
        where
          today : (g : Bool) → b.leaf.global ≡ g → reaches (reach_of b.leaf.global b.under) t.asid ≡ true → Today w c.regs b.leaf b.under
          today true e x = inl e
          today false e x = inr (eqb-true _ _ (rw e at x) ∙ s.asid-is)

      look-done : on_now w c ≡ true → (x : Slot Line) → LineOk w h x → Fine (looked (serving t.asid (regime_now w c) (page_now w c va) x) a t)
      unfolding looked
      look-done h1 x h2 = search (rules, walk-done, line-done)

      pub unhinted-done : Fine (unhinted (on_now w c) a t)
      unfolding unhinted line_for
      unhinted-done = go (on_now w c) refl
        where
          go : (b : Bool) → on_now w c ≡ b → Fine (unhinted b a t)
          go false o = record { traced = s; answered = itself o (sym (flat-is (untag_now w c va))) }
          go true o = look-done o (t.lines (page_now w c va % 1024)) (s.lines_ok (page_now w c va % 1024))

      -- a data translation that came out sets a hint that holds
      hint-done : hintable k c.privilege.unprivileged ≡ true → (o : Outcome Model) → Fine o → Fine (noted (keep_hint (hint_place k va)) a o)
      unfolding noted
      hint-done b o d = record { traced = go o.answer refl; answered = d.answered }
        where
          go : (x : Answer) → o.answer ≡ x → Traced w h c.regs (noting (keep_hint (hint_place k va)) x a o.after)
          go (Err f) e = d.traced
          go (Ok pa) e =
              traced-hint w (hint_place k va) (known_of a pa)
              (rw (kind-at k c.privilege.unprivileged va b)
              (answered-hint laws h c m k va pa (inr (hint-unmarked k c.privilege.unprivileged b)) (rw e at d.answered)))
              d.traced

      -- a hint answers what it says
      hit-done : Unmarked c.privilege.unprivileged k → (n : Known) → HintFrom w h c.regs k n.page n.level n.frame
          → hits n ≡ true → Answered laws h c m k va (address_in n.frame va)
      hit-done u n o e =
          let p : n.page ≡ va / 4096 = eqb-true _ _ (both (n.page == va / 4096) _ e).0 in
          let l : n.level ≡ c.privilege.level = eqb-true _ _ (both (n.page == va / 4096) _ e).1 in
          hint-answered laws h c m k va n.frame u (rw (p, l) at o)

      tried-done : hintable k c.privilege.unprivileged ≡ true → (x : Slot Known) → HintOk w h c.regs k x
          → Fine (tried (knowing (va / 4096) c.privilege.level x) (keep_hint (hint_place k va)) a t)
      unfolding tried
      tried-done b empty ok = hint-done b _ unhinted-done
      tried-done b (holds n) ok = go (hits n) refl
        where
          go : (d : Bool) → hits n ≡ d → Fine (tried (if d then holds n.frame else empty) (keep_hint (hint_place k va)) a t)
          go true e = record { traced = s; answered = hit-done (inr (hint-unmarked k c.privilege.unprivileged b)) n ok e }
          go false e = hint-done b _ unhinted-done

      pub translate-done : Fine (translate a t)
      unfolding translate hinted
      translate-done = go (hintable k c.privilege.unprivileged) refl
        where
          go : (b : Bool) → hintable k c.privilege.unprivileged ≡ b → Fine (hinted b a t)
          go false b = unhinted-done
          go true b =
              tried-done b (t.hints (hint_place k va))
              (rw (kind-at k c.privilege.unprivileged va b) at (s.hints-ok (hint_place k va)))

      fetch-tried : k ≡ Fetch → (x : Slot Known) → HintOk w h c.regs k x → Fine (tried (knowing (va / 4096) c.privilege.level x) keep_fetch a t)
      unfolding tried noted
      fetch-tried f x ok = go x ok
        where
          d : Fine (unhinted (on_now w c) a t)
          d = unhinted-done

          put : (y : Answer) → (unhinted (on_now w c) a t).answer ≡ y → Traced w h c.regs (noting keep_fetch y a (unhinted (on_now w c) a t).after)
          put (Err f) e = d.traced
          put (Ok pa) e =
              traced-fetch-hint w (known_of a pa) (rw f at (answered-hint laws h c m k va pa (inl f) (rw e at d.answered))) d.traced

          miss : Fine (noted keep_fetch a (unhinted (on_now w c) a t))
          miss = record { traced = put _ refl; answered = d.answered }

          go : (y : Slot Known) → HintOk w h c.regs k y → Fine (tried (knowing (va / 4096) c.privilege.level y) keep_fetch a t)
          go empty o = miss
          go (holds n) o = hit (hits n) refl
            where
              hit : (b : Bool) → hits n ≡ b → Fine (tried (if b then holds n.frame else empty) keep_fetch a t)
              hit true e = record { traced = s; answered = hit-done (inl f) n o e }
              hit false e = miss

      pub fetch-done : k ≡ Fetch → Fine (fetch a t)
      unfolding fetch
      fetch-done f = grind (arith, fetch-tried)
