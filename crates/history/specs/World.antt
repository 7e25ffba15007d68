-- What the theory of histories takes from registers and walk, and the terms of docs/SCOPE.md on it: equal walks, covering, the
-- core without a cache. `span_bits`, `as_user` and `need` are the plain model's: tlb/specs/Model.antt; `walk_answer` is the judged fresh answer's:
-- tlb/specs/Translate.antt.
use Rattle.std.specs.Prelude.{if◌then◌else◌, ◌≡◌, Bool, true, not, ◌&&◌, ℕ, ◌*◌, ◌/◌, ◌%◌, ◌^◌, ◌≤◌, ◌==◌, Ok}
use Rattle.sysreg.specs.Regs.{regime_of}
use Rattle.walk.specs.declared.{level.Leaf.Leaf}
use Rattle.sysreg.specs.declared.regs.Regime.{Regime}
use Rattle.tlb.specs.Access.{flat_answer}
use Rattle.tlb.specs.Translate.{walk_answer}
use Rattle.tlb.specs.Model.{Access, as_user, need, span_bits}
use Rattle.tlb.specs.declared.{access.Kind.Kind, access.Privilege.Privilege, Inval.Inval}
use Rattle.tlb.specs.Answers.{Answer}
use Rattle.tlb.specs.declared.Inval.TheVariants.{All, Page, Asid}
use Rattle.walk.specs.Answers.{Walked}

-- The registers that translation reads, RAM, and what they say:
--   on          stage 1 is on in the regime
--   untag       the address without its tag
--   walk        the walk of an untagged address
--   reads       how many descriptors that walk fetches: no answer depends on it, and no law speaks of it
--   asid        the ASID in force
--   same-shape  `shaping` is the same: a register write that changes it flushes
pub record World : Type 1 where
  pub Regs : Type 0
  pub Ram : Type 0
  pub on : Regs → Regime → Bool
  pub untag : Regs → Regime → ℕ → ℕ
  pub walk : Regs → Ram → Regime → ℕ → Walked
  pub reads : Regs → Ram → Regime → ℕ → ℕ
  pub asid : Regs → ℕ
  pub same-shape : Regs → Regs → Bool

-- EQUAL WALKS

-- Two walks are equal where both end in a leaf with the same physical page, permission byte and level.
pub record LeavesEqual (ℓ ℓ' : Leaf) : Type 0 where
  pub pages : ℓ.oa / 4096 ≡ ℓ'.oa / 4096
  pub perms : ℓ.perms ≡ ℓ'.perms
  pub levels : ℓ.level ≡ ℓ'.level

-- COVERING

-- The invalidation covers the leaf ℓ of the page p, walked with the ASID a in force. An All or flush covers every walk; a Page one whose page agrees
-- in the low 44 bits above the lowest 18, 9 or 0 for level 1, 2, 3; an Asid one that is not global, by the ASID in force at that walk. The premise's
-- own reading, on purpose: what the plain model drops of its lines is said in tlb/specs/Model.antt, what the cache drops in
-- tlb/specs/Tlb.antt, and `same-cover` (proofs/Traced.antt) and tlb/proofs/Refines.antt show that they agree.
unfoldable pub covers : Inval → ℕ → Leaf → ℕ → Bool
covers All p ℓ a = true
covers (Page n) p ℓ a = p % 2 ^ 44 / 2 ^ span_bits ℓ.level == n % 2 ^ 44 / 2 ^ span_bits ℓ.level
covers (Asid b) p ℓ a = not ℓ.global && a == b

-- CORE WITHOUT A CACHE

module _ (w : World) where
  -- A page is an untagged page of one regime; its walk is that of its first address.
  abbrev pub page_walk : w.Regs → w.Ram → Regime → ℕ → Walked
  page_walk R m r p = w.walk R m r (p * 4096)

  -- What a translation reads besides RAM and the cache: the registers, the level and the mark.
  pub record Plain : Type 0 where
    pub regs : w.Regs
    pub privilege : Privilege

  abbrev pub regime_now : Plain → Regime
  regime_now c = regime_of c.privilege.level

  abbrev pub on_now : Plain → Bool
  on_now c = w.on c.regs (regime_now c)

  abbrev pub untag_now : Plain → ℕ → ℕ
  untag_now c va = w.untag c.regs (regime_now c) va

  abbrev pub page_now : Plain → ℕ → ℕ
  page_now c va = untag_now c va / 4096

  -- the permission bit that the access needs
  abbrev pub need_now : Plain → Kind → ℕ
  need_now c k = need k (as_user (regime_now c) c.privilege.level c.privilege.unprivileged k)

  -- Its answer to a translation that isn't refused: it untags the address; with stage 1 off that is the answer, or an
  -- address size fault of level 0 from 2^44 on. Else it walks, by the walk's definition, on its own registers and the
  -- step's RAM. A fault is its status and the address translated, va.
  abbrev pub uncached : Plain → w.Ram → Kind → ℕ → Answer
  uncached c m k va =
      if on_now c then walk_answer (w.walk c.regs m (regime_now c) (untag_now c va)) (need_now c k) va else flat_answer (untag_now c va)

  -- the access of the same translation through a cache
  abbrev pub access_of : Plain → w.Ram → Kind → ℕ → Access
  access_of c m k va =
      record {
        privilege = c.privilege;
        kind = k;
        va = va;
        on = on_now c;
        regime = regime_now c;
        untagged = untag_now c va;
        walk = w.walk c.regs m (regime_now c) (untag_now c va);
        reads = w.reads c.regs m (regime_now c) (untag_now c va);
      }

-- LAWS

-- All that the theory needs of registers and walk.
pub record Laws (w : World) : Type 0 where
  -- `same-shape` sees each bit that `on` and `untag` read
  pub shape_on : (R S : w.Regs) → w.same-shape R S ≡ true → (r : Regime) → w.on R r ≡ w.on S r
  pub shape-untag : (R S : w.Regs) → w.same-shape R S ≡ true → (r : Regime) (va : ℕ) → w.untag R r va ≡ w.untag S r va
  -- addresses of one page are untagged to addresses of one page
  pub untag-page : (R : w.Regs) (r : Regime) (va vb : ℕ) → va / 4096 ≡ vb / 4096 → w.untag R r va / 4096 ≡ w.untag R r vb / 4096
  -- and keep their offset in it
  pub untag-offset : (R : w.Regs) (r : Regime) (va : ℕ) → w.untag R r va % 4096 ≡ va % 4096
  -- a leaf is of level 3 at most
  pub leaf-level : (R : w.Regs) (m : w.Ram) (r : Regime) (va : ℕ) (ℓ : Leaf) → w.walk R m r va ≡ Ok ℓ → ℓ.level ≤ 3
  -- addresses of one page have equal walks
  pub walk-page : (R : w.Regs) (m : w.Ram) (r : Regime) (va vb : ℕ) → va / 4096 ≡ vb / 4096 → (ℓ : Leaf) → w.walk R m r va ≡ Ok ℓ →
      (ℓ' : Leaf) × (w.walk R m r vb ≡ Ok ℓ') × LeavesEqual ℓ ℓ' × (ℓ.global ≡ ℓ'.global)
