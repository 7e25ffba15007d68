-- What a register write and a setting leave, whatever RAM stands there.
use Rattle.std.specs.Prelude.{◌≡◌, ◌<◌, ◌≤◌, ◌==◌, ◌∷◌, [], nat_lt, not, false, List, ℕ, Err, Option, Some, None}
use Rattle.std.proofs.Common.{refl, sym, ap, ◌∙◌, arith, le-ltb, lt-ltb, subst}
use Rattle.sysreg.specs.Write.{WriteAnswer}
use Rattle.sysreg.specs.Encoding.{register_at}
use Rattle.sysreg.specs.declared.regs.Register.{Register as Kept}
use Rattle.sysreg.proofs.WriteLaws.{write-nothing}
use Rattle.sysreg.specs.declared.write.WriteError.TheVariants.{NoRegister}
use Rattle.cpu.specs.Core.{set_reg, Answered}
use Rattle.exception.specs.declared.kind.Exception.{Exception}
use Rattle.cpu.specs.declared.Core.{Core}
use Rattle.cpu.specs.System.{after_register_write, set_level, set_mark, abort_of}
use Rattle.cpu.specs.Check.{missed_of, first_of, kept, number_of, registering}
use Rattle.cpu.specs.declared.check.Check.{Check}
use Rattle.cpu.specs.declared.call.Call.{Call}
use Rattle.cpu.specs.declared.call.Call.TheVariants.{Register, Level, General, Abort}
use Rattle.cpu.specs.declared.call.Reply.{Reply}
use Rattle.cpu.specs.declared.call.Reply.TheVariants.{Refused, Done}
use Rattle.cpu.specs.Step.{step_of, run_of, after_write}
use Rattle.cpu.specs.Work.{run_work, step_work}
use Rattle.tlb.specs.Translate.{no_work}
use Rattle.call_words.specs.Replies.{code_by, value_by, reads_by}
use Rattle.call_words.specs.Ops.{mark_call}
use Rattle.call_words.specs.declared.op.DecodedCall.{DecodedCall}
use Rattle.call_words.specs.declared.op.DecodedCall.TheVariants.{Known}
use Rattle.quick.specs.Says.{Says, Sets, unread}
use Rattle.quick.proofs.ByHint.{tells}
use Rattle.quick.proofs.Checks.{passed, refuses}

set-tells : (c : Core) (base : ℕ) (ram : List ℕ) (x : Call) (d : Core) (r : Reply) (n v : ℕ) → run_work c base ram x no_work ≡ no_work
    → record { core = d; reply = r } ≡ step_of c base ram x → n ≡ code_by r → v ≡ value_by r v → 0 ≡ reads_by r 0 0 → Says (Known x) c base ram (unread v) n (unread v) d
unfolding step_work
set-tells c base ram x d r n v none e en ev er = grind arith

-- REGISTERS

-- the core by an equation
pub becomes : (call : DecodedCall) (c : Core) (n : ℕ) (d e : Core) → d ≡ e → Sets call c n e → Sets call c n d
becomes call c n d e q s = subst (λ (x : Core). Sets call c n x) (sym q) s

-- of the key k that a word names
module _ (c : Core) (k key v : ℕ) (ek : k ≡ key) where
  abbrev missed : ℕ
  missed = first_of ((nat_lt 3 c.privilege.level, 1) ∷ (not (kept k), 6) ∷ [])

  no-value : (a : WriteAnswer) (v : ℕ) → v ≡ value_by (registering a) v
  no-value a v = grind arith

  no-reads : (a : WriteAnswer) → 0 ≡ reads_by (registering a) 0 0
  no-reads a = grind arith

  named : (n : ℕ) (d : Core) → Sets (Known (Register k v)) c n d → Sets (Known (Register key v)) c n d
  named n d s = subst (λ (x : ℕ). Sets (Known (Register x v)) c n d) ek s

  register-set : (d : Core) (a : WriteAnswer) (n : ℕ) → 0 ≡ missed → record { core = d; answer = a } ≡ after_register_write c k v → n ≡ code_by (registering a)
      → Sets (Known (Register key v)) c n d
  unfolding run_of run_work missed_of
  register-set d a n e ew en =
      named n d (record {
        on = λ base ram w.
            set-tells c base ram (Register k v) d (registering a) n w refl (ap after_write ew ∙ passed c base ram (Register k v) e) en (no-value a w) (no-reads a);
      })

  register-refused : (x : Check) (n : ℕ) → number_of x ≡ missed → n ≡ number_of x → Sets (Known (Register key v)) c n c
  unfolding missed_of step_work
  register-refused x n e en = grind (arith, tells, refuses)

  pub register-high : 3 < c.privilege.level → Sets (Known (Register key v)) c 1 c
  register-high h = register-refused Check.Level 1 (rw (lt-ltb 3 c.privilege.level h) refl) refl

  -- a write of a key that names no register says so, and changes nothing
  nothing : register_at k ≡ None → after_register_write c k v ≡ record { core = c; answer = Err NoRegister }
  unfolding after_register_write
  nothing e = rw (write-nothing c.control c.sys c.privilege.level k v e) refl

  pub register-written : (d : Core) (a : WriteAnswer) (n : ℕ) → c.privilege.level < 4 → record { core = d; answer = a } ≡ after_register_write c k v
      → n ≡ code_by (registering a) → Sets (Known (Register key v)) c n d
  register-written d a n h ew en = go (register_at k) refl
    where
      low : nat_lt 3 c.privilege.level ≡ false
      low = le-ltb 3 c.privilege.level (omega arith)

      go : (f : Option Kept) → register_at k ≡ f → Sets (Known (Register key v)) c n d
      go (Some r) e = register-set d a n (rw (low, e) refl) ew en
      go None e =
          let p : ◌≡◌ {A = Answered WriteAnswer} (record { core = d; answer = a }) (record { core = c; answer = Err NoRegister }) = ew ∙ nothing e in
          let m : n ≡ 6 = en ∙ ap (λ (x : Answered WriteAnswer). code_by (registering x.answer)) p in
          becomes _ c n d c (ap (λ (x : Answered WriteAnswer). x.core) p) (register-refused Check.Key n (rw (low, e) refl) m)

-- SETTINGS

module _ (c : Core) where
  module _ (l : ℕ) where
    pub level-set : c.privilege.level < 4 → l < 4 → Sets (Known (Level l)) c 0 (set_level c l)
    unfolding step_of run_of run_work missed_of step_work
    level-set h k = grind arith

    pub level-high : 3 < c.privilege.level → Sets (Known (Level l)) c 1 c
    unfolding step_of run_of run_work missed_of
    level-high h = record { on = λ base ram w. set-tells c base ram (Level l) c (Refused 1) 1 w refl (rw (lt-ltb 3 c.privilege.level h) refl) refl refl refl }

    pub level-over : 3 < l → Sets (Known (Level l)) c 1 c
    unfolding step_of run_of run_work missed_of
    level-over h = grind arith

  pub mark-set : (n : ℕ) → n ≤ 1 → c.privilege.level < 4 → Sets (mark_call n) c 0 (set_mark c (n == 1))
  unfolding step_of run_of run_work missed_of step_work
  mark-set n h1 h2 = grind arith

  pub mark-high : (n : ℕ) → n ≤ 1 → 3 < c.privilege.level → Sets (mark_call n) c 1 c
  unfolding step_of run_of run_work missed_of
  mark-high n h1 h2 = grind arith

  module _ (n v : ℕ) where
    pub general-set : c.privilege.level < 4 → n < 32 → Sets (Known (General n v)) c 0 (set_reg c n v)
    unfolding step_of run_of run_work missed_of step_work
    general-set h k = grind arith

    -- register 31 takes nothing
    unset : n ≡ 31 → c ≡ set_reg c n v
    unfolding set_reg
    unset e = rw e refl

    pub general-none : c.privilege.level < 4 → n ≡ 31 → Sets (Known (General n v)) c 0 c
    general-none h e = becomes _ c 0 c (set_reg c n v) (unset e) (general-set h (omega (arith, e)))

    pub general-high : 3 < c.privilege.level → Sets (Known (General n v)) c 1 c
    unfolding step_of run_of run_work missed_of
    general-high h = record { on = λ base ram w. set-tells c base ram (General n v) c (Refused 1) 1 w refl (rw (lt-ltb 3 c.privilege.level h) refl) refl refl refl }

    pub general-over : c.privilege.level < 4 → 31 < n → Sets (Known (General n v)) c 5 c
    unfolding step_of run_of run_work missed_of
    general-over h k = grind arith

  module _ (e : Exception) where
    pub abort-set : c.privilege.level < 4 → Sets (Known (Abort e)) c 0 (abort_of c e)
    unfolding step_of run_of run_work missed_of
    abort-set h = record { on = λ base ram w. set-tells c base ram (Abort e) (abort_of c e) Done 0 w refl (rw (le-ltb 3 c.privilege.level (omega arith)) refl) refl refl refl }

    pub abort-high : 3 < c.privilege.level → Sets (Known (Abort e)) c 1 c
    unfolding step_of run_of run_work missed_of
    abort-high h = record { on = λ base ram w. set-tells c base ram (Abort e) c (Refused 1) 1 w refl (rw (lt-ltb 3 c.privilege.level h) refl) refl refl refl }
