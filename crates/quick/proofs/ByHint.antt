-- A translation that its hint serves, or that no hint serves, and what it reads, on plain values.
use Rattle.std.proofs.Common.{arith, refl, sym, ap, ◌∙◌, subst}
use Rattle.std.specs.Prelude.{if◌then◌else◌, ◌≡◌, Bool, true, ℕ, Option, Some, None, Ok}
use Rattle.tlb.specs.Answers.{Answer}
use Rattle.tlb.specs.Translate.{hint_in, no_work}
use Rattle.tlb.specs.declared.{access.Kind.Kind}
use Rattle.cpu.specs.Core.{after_access}
use Rattle.cpu.specs.Memory.{HandedNow, NeedsWalkNow, stepped_now, translate_of, past_hint_of, translate_in, past_hint_step}
use Rattle.cpu.specs.declared.Core.{Core}
use Rattle.cpu.specs.declared.call.Reply.{Reply}
use Rattle.cpu.specs.Work.{past_hint_work, translate_work}
use Rattle.tlb.specs.declared.work.Work.{Work}
use Rattle.call_words.specs.Replies.{code_by, value_by, reads_by}
use Rattle.call_words.specs.declared.reply.Report.{Report}
use Rattle.cpu.specs.Step.{Stepped}
use Rattle.quick.specs.Says.{Tells, asked_reply, asked_run}

abbrev pub address : Option ℕ → ℕ
address (Some n) = n
address None = 0

-- a test that chose a place
pub chosen : (b : Bool) (x : Option ℕ) (pa : ℕ) → (if b then x else None) ≡ Some pa → (b ≡ true) × (x ≡ Some pa)
chosen b x pa h1 = grind arith

-- A TRANSLATION, the core d that it leaves, its answer, and what it read

module _ (c : Core) (memory : ℕ → Option ℕ) (va : ℕ) (kind : Kind) (d : Core) (a : Answer) (k : Work) where
  pub record Moved : Type 0 where
    pub moved : record { core = d; answer = a } ≡ translate_of c memory va kind
    pub read : k ≡ translate_work c memory va kind no_work

  -- one that no hint serves
  pub record Past : Type 0 where
    pub moved : record { core = d; answer = a } ≡ past_hint_of c memory va kind
    pub read : k ≡ past_hint_work c memory va kind no_work

  -- at hand
  pub by-hand : HandedNow c memory va kind (Some a) d → k ≡ no_work → Past
  unfolding past_hint_work
  by-hand h e = record { moved = h.0; read = e ∙ rw h.1 refl }

  -- by a walk
  pub by-walk : (w : Work) → w ≡ no_work → (NeedsWalkNow c memory va kind → record { core = d; answer = a } ≡ past_hint_of c memory va kind)
      → (NeedsWalkNow c memory va kind → k ≡ past_hint_work c memory va kind w) → NeedsWalkNow c memory va kind → Past
  by-walk w e f r needs = record { moved = f needs; read = r needs ∙ ap (past_hint_work c memory va kind) e }

  -- a hint that does not serve
  unhinted : hint_in c.privilege va kind c.tlb ≡ None → Past → Moved
  unfolding translate_of stepped_now translate_in past_hint_of past_hint_step translate_work past_hint_work
  unhinted h p = record { moved = p.moved ∙ rw h refl; read = p.read ∙ rw h refl }

module _ (c : Core) (memory : ℕ → Option ℕ) (va : ℕ) (kind : Kind) where
  pub hint-serves : (pa : ℕ) → hint_in c.privilege va kind c.tlb ≡ Some pa → translate_of c memory va kind ≡ record { core = c; answer = Ok pa }
  unfolding translate_of stepped_now translate_in after_access
  hint-serves pa h = rw h refl

  hint-reads : (pa : ℕ) → hint_in c.privilege va kind c.tlb ≡ Some pa → translate_work c memory va kind no_work ≡ no_work
  unfolding translate_work
  hint-reads pa h = rw h refl

  pub hint-moves : (pa : ℕ) (k : Work) → hint_in c.privilege va kind c.tlb ≡ Some pa → k ≡ no_work → Moved c memory va kind c (Ok pa) k
  hint-moves pa k h e = record { moved = sym (hint-serves pa h); read = e ∙ sym (hint-reads pa h) }

-- by the kind that an instance reads
module _ (c : Core) (memory : ℕ → Option ℕ) (va : ℕ) (read kind : Kind) (is : read ≡ kind) where
  pub needs-as : NeedsWalkNow c memory va kind → NeedsWalkNow c memory va read
  needs-as n = subst (λ (k : Kind). NeedsWalkNow c memory va k) (sym is) n

  pub unhinted-as : (d : Core) (a : Answer) (k : Work) → hint_in c.privilege va kind c.tlb ≡ None → Past c memory va read d a k → Moved c memory va kind d a k
  unhinted-as d a k h p = unhinted c memory va kind d a k h (subst (λ (q : Kind). Past c memory va q d a k) is p)

-- A STEP by its reply and by what it read
pub tells : (s : Stepped) (w : Work) (d : Core) (r : Reply) (k : Work) (n : ℕ) (old new : Report) → record { core = d; reply = r } ≡ s → k ≡ w → n ≡ code_by r
    → new.value ≡ value_by r old.value → new.reads ≡ reads_by r k.reads old.reads → Tells s w old n new d
tells s w d r k n old new e ew en ev er = grind arith

-- the step and what it read by equations
pub as-told : {s t : Stepped} {k w : Work} {old new : Report} {n : ℕ} {d : Core} → s ≡ t → k ≡ w → Tells s k old n new d → Tells t w old n new d
as-told {s} {t} {k} {w} {old} {new} {n} {d} es ew told = grind arith

-- a translation by its reply
pub asked-told : (c : Core) (memory : ℕ → Option ℕ) (va : ℕ) (kind : Kind) (d : Core) (a : Answer) (k : Work) (b : Bool) → Moved c memory va kind d a k
    → (old : Report) (n : ℕ) (new : Report)
    → (n ≡ code_by (asked_reply b va a)) × (new.value ≡ value_by (asked_reply b va a) old.value) × (new.reads ≡ reads_by (asked_reply b va a) k.reads old.reads)
    → Tells (asked_run b va (translate_of c memory va kind)) (translate_work c memory va kind no_work) old n new d
asked-told c memory va kind d a k b m old n new told = grind arith
