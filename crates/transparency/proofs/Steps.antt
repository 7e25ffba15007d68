-- The steps of a list: none of them zeroes, and they leave the core as the list's calls do.
use Rattle.std.specs.Prelude.{◌≡◌, refl, List, [], ◌∷◌, ◌++◌, ℕ, zero, suc, ◌+◌, Some, None, Ok, Err}
use Rattle.std.proofs.Common.{sym, ap, ap₂, subst, ◌∙◌, arith}
use Rattle.word.specs.Bits.{align_down, wrap}
use Rattle.system.specs.declared.decode.SysOp.{SysOp}
use Rattle.system.specs.declared.decode.SysOp.TheVariants as Op
use Rattle.cpu.specs.Bare.{Bare, bare_of}
use Rattle.cpu.specs.Core.{fresh_core, reg_of}
use Rattle.cpu.specs.Memory.{write_of, ram_after_write}
use Rattle.cpu.specs.Says as Operations
use Rattle.cpu.proofs.OpLaws as Proved
use Rattle.cpu.specs.declared.Core.{Core}
use Rattle.cpu.specs.Bytes.{StoreAnswer}
use Rattle.cpu.specs.Check.{missed_of, storing}
use Rattle.cpu.specs.declared.{call.Call.Call}
use Rattle.system.specs.declared.decode.Encoding.{Encoding}
use Rattle.cpu.specs.declared.call.Call.TheVariants.{Store, System}
use Rattle.cpu.specs.declared.call.Reply.TheVariants.{Done, Refused}
use Rattle.cpu.specs.System.{zero_of, zero_ram, on_stored, sys_of, sys_by, sys_ram, sys_ram_by}
use Rattle.cpu.specs.Step.{Stepped, after_store, ends, refused_or, run_of, step_of, ram_of, ram_after}
use Rattle.history.specs.Instance.{Ram, window_of}
use Rattle.transparency.specs.Bare.{number, by_sys, missed_in, operand_in, bare_step}
use Rattle.transparency.specs.Steps.{Step, core_run, bare_run, on_done, stores, zeroing, zeroed, parts_by, steps_run}
use Rattle.transparency.specs.Claim.{steps_are_calls}
use Rattle.transparency.specs.Replies.{Outcome, outcome, outcome_of, outcome_run, parts_follow, parts_end}
use Rattle.transparency.proofs.Bridge.{bridge, stored-bare}

-- NO STEP ZEROES

abbrev pub Apart : Bare → List Step → Type 0
Apart b [] = Unit {0}
Apart b (s ∷ l) = (zeroed b s.ram s.call ≡ None) × Apart (bare_step b s.ram s.call) l

pub apart-append : (b : Bare) (l k : List Step) → Apart b l → Apart (bare_run b l) k → Apart b (l ++ k)
apart-append b [] k a h = h
apart-append b (s ∷ l) k a h = (a.0, apart-append (bare_step b s.ram s.call) l k a.1 h)

pub apart-left : (b : Bare) (l k : List Step) → Apart b (l ++ k) → Apart b l
apart-left b [] k a = tt
apart-left b (s ∷ l) k a = (a.0, apart-left (bare_step b s.ram s.call) l k a.1)

pub apart-right : (b : Bare) (l k : List Step) → Apart b (l ++ k) → Apart (bare_run b l) k
apart-right b [] k a = a
apart-right b (s ∷ l) k a = apart-right (bare_step b s.ram s.call) l k a.1

parts-apart : (c : Core) (s : Step) → Apart (bare_of c) (parts_by (zeroed (bare_of c) s.ram s.call) c s)
parts-apart c s = grind arith

-- THEY ARE THE CALLS

pub core-append : (c : Core) (l k : List Step) → core_run c (l ++ k) ≡ core_run (core_run c l) k
core-append c [] k = refl
core-append c (s ∷ l) k = core-append (step_of c s.ram.base s.ram.bytes s.call).core l k

pub both-run : (c : Core) (l : List Step) → bare_of (core_run c l) ≡ bare_run (bare_of c) l
both-run c [] = refl
both-run c (s ∷ l) = grind (arith, (both-run (step_of c s.ram.base s.ram.bytes s.call).core l), bridge.bare-is)

-- a store of eight zero bytes that misses no check
module _ (c : Core) (m : Ram) (va : ℕ) (passed : missed_in (bare_of c) m (Store va 8 0) ≡ 0) where
  store-steps : step_of c m.base m.bytes (Store va 8 0) ≡ after_store (write_of c m.base m.bytes va 8)
  unfolding step_of run_of
  store-steps = rw passed refl

  store-leaves : ram_after c m.base m.bytes (Store va 8 0) ≡ ram_after_write c m.base m.bytes va 8 0
  unfolding ram_after ram_of
  store-leaves = rw passed refl

  -- the next one misses none either
  next-passed : (next : ℕ) → missed_in (bare_of (write_of c m.base m.bytes va 8).core) (window_of m.base (ram_after_write c m.base m.bytes va 8 0)) (Store next 8 0) ≡ 0
  unfolding missed_of
  next-passed next = rw (stored-bare c m va, Proved.ram-length c m.base m.bytes (Operations.store va 8 0)) passed

stores-are : (n : ℕ) (c : Core) (m : Ram) (va : ℕ) → missed_in (bare_of c) m (Store va 8 0) ≡ 0
    → core_run c (stores n c m va) ≡ (zero_of n c m.base m.bytes va).core
unfolding zero_of
stores-are zero c m va passed = refl
stores-are (suc n) c m va passed =
    ap₂ after (store-steps c m va passed) (store-leaves c m va passed)
    ∙ go (write_of c m.base m.bytes va 8).answer (stores-are n d left (wrap (va + 8)) (next-passed c m va passed (wrap (va + 8))))
  where
    -- after the first store, by its outcome and the bytes that it leaves
    after : Stepped → List ℕ → Core
    after made bytes = core_run made.core (on_done made.reply (stores n made.core (window_of m.base bytes) (wrap (va + 8))) [])

    d : Core
    d = (write_of c m.base m.bytes va 8).core

    left : Ram
    left = window_of m.base (ram_after_write c m.base m.bytes va 8 0)

    go : (a : StoreAnswer)
        → core_run d (stores n d left (wrap (va + 8))) ≡ (zero_of n d m.base left.bytes (wrap (va + 8))).core
        → core_run d (on_done (storing a) (stores n d left (wrap (va + 8))) [])
        ≡ (on_stored a (zero_of n d m.base left.bytes (wrap (va + 8))) (write_of c m.base m.bytes va 8)).core
    go (Ok x) rest = rest
    go (Err s) rest = refl

-- a system operation that misses no check passes those of a store
store-passed : (b : Bare) (m : Ram) (e : Encoding) (va : ℕ) → missed_in b m (System e) ≡ 0 → missed_in b m (Store va 8 0) ≡ 0
unfolding missed_of
store-passed b m e va p = grind arith

zva-is : (c : Core) (m : Ram) (e : Encoding) (n : ℕ) (o : SysOp) (va : ℕ) → missed_in (bare_of c) m (System e) ≡ n
    → zeroing (refused_or n number (by_sys o)) o (operand_in (bare_of c) e) ≡ Some va
    → core_run c (stores 8 c m va)
    ≡ (refused_or n (λ k. ends c (Refused k))
    (after_store (sys_by o c m.base m.bytes e.op1 e.crm e.op2 (operand_in (bare_of c) e)))).core
zva-is c m e zero Op.Zva va p z =
    let q : align_down (operand_in (bare_of c) e) 6 ≡ va = cc in
    stores-are 8 c m va (store-passed (bare_of c) m e va p) ∙ rw (sym q) refl
zva-is c m e zero _ va p z = absurd (let y : ◌≡◌ {A = ℕ} 0 1 = cc in omega arith)
zva-is c m e (suc n) o va p z = absurd (let y : ◌≡◌ {A = ℕ} 0 1 = cc in omega arith)

zeroed-core : (c : Core) (m : Ram) (x : Call) (va : ℕ) → zeroed (bare_of c) m x ≡ Some va → core_run c (stores 8 c m va) ≡ (step_of c m.base m.bytes x).core
unfolding step_of run_of sys_of reg_of
zeroed-core c m x va h1 = grind (arith, zva-is)

parts-core : (c : Core) (s : Step) → core_run c (parts_by (zeroed (bare_of c) s.ram s.call) c s) ≡ (step_of c s.ram.base s.ram.bytes s.call).core
parts-core c s = grind (arith, zeroed-core)

pub steps-core : (c : Core) (l : List Step) → core_run c (steps_run c l) ≡ core_run c l
steps-core c [] = refl
steps-core c (s ∷ l) =
    core-append c (parts_by (zeroed (bare_of c) s.ram s.call) c s) _
    ∙ ap (λ (d : Core). core_run d (steps_run (step_of c s.ram.base s.ram.bytes s.call).core l)) (parts-core c s)
    ∙ steps-core (step_of c s.ram.base s.ram.bytes s.call).core l

pub steps-apart : (c : Core) (l : List Step) → Apart (bare_of c) (steps_run c l)
steps-apart c [] = tt
steps-apart c (s ∷ l) =
    apart-append (bare_of c) (parts_by (zeroed (bare_of c) s.ram s.call) c s) _ (parts-apart c s)
    (subst (λ (b : Bare). Apart b (steps_run (step_of c s.ram.base s.ram.bytes s.call).core l))
    (ap bare_of (sym (parts-core c s)) ∙ both-run c (parts_by (zeroed (bare_of c) s.ram s.call) c s))
    (steps-apart (step_of c s.ram.base s.ram.bytes s.call).core l))

pub steps-are-calls : steps_are_calls
steps-are-calls list = steps-core fresh_core list

-- EACH BEGINS ON THE RAM THAT THE ONE BEFORE LEFT

pub parts-follow : parts_follow
parts-follow c s = grind arith

-- THE LAST REPLIES, AND LEAVES RAM, AS THE CALL

stores-end : (n : ℕ) (c : Core) (m : Ram) (va : ℕ) → missed_in (bare_of c) m (Store va 8 0) ≡ 0
    → outcome_run c (outcome Done m.bytes) (stores n c m va)
    ≡ outcome (storing (zero_of n c m.base m.bytes va).answer) (zero_ram n c m.base m.bytes va)
unfolding zero_of zero_ram
stores-end zero c m va passed = refl
stores-end (suc n) c m va passed =
    ap₂ after (store-steps c m va passed) (store-leaves c m va passed)
    ∙ go (write_of c m.base m.bytes va 8).answer refl (stores-end n d left (wrap (va + 8)) (next-passed c m va passed (wrap (va + 8))))
  where
    -- after the first store, by its outcome and the bytes that it leaves
    after : Stepped → List ℕ → Outcome
    after made bytes =
        outcome_run made.core (outcome made.reply bytes)
        (on_done made.reply (stores n made.core (window_of m.base bytes) (wrap (va + 8))) [])

    d : Core
    d = (write_of c m.base m.bytes va 8).core

    left : Ram
    left = window_of m.base (ram_after_write c m.base m.bytes va 8 0)

    go : (a : StoreAnswer) → (write_of c m.base m.bytes va 8).answer ≡ a
        → outcome_run d (outcome Done left.bytes) (stores n d left (wrap (va + 8)))
        ≡ outcome (storing (zero_of n d m.base left.bytes (wrap (va + 8))).answer) (zero_ram n d m.base left.bytes (wrap (va + 8)))
        → outcome_run d (outcome (storing a) left.bytes) (on_done (storing a) (stores n d left (wrap (va + 8))) [])
        ≡ outcome (storing (on_stored a (zero_of n d m.base left.bytes (wrap (va + 8))) (write_of c m.base m.bytes va 8)).answer)
        (on_stored a (zero_ram n d m.base left.bytes (wrap (va + 8))) left.bytes)
    go (Ok x) e rest = rest
    go (Err s) e rest = ap (λ (a : StoreAnswer). outcome (storing a) left.bytes) (sym e)

zva-ends : (c : Core) (m : Ram) (e : Encoding) (n : ℕ) (o : SysOp) (va : ℕ) → missed_in (bare_of c) m (System e) ≡ n
    → zeroing (refused_or n number (by_sys o)) o (operand_in (bare_of c) e) ≡ Some va
    → outcome_run c (outcome Done m.bytes) (stores 8 c m va)
    ≡ outcome
    (refused_or n (λ k. ends c (Refused k))
    (after_store (sys_by o c m.base m.bytes e.op1 e.crm e.op2 (operand_in (bare_of c) e)))).reply
    (refused_or n (λ k. m.bytes) (sys_ram_by o c m.base m.bytes (operand_in (bare_of c) e)))
zva-ends c m e zero Op.Zva va p z =
    let q : align_down (operand_in (bare_of c) e) 6 ≡ va = cc in
    stores-end 8 c m va (store-passed (bare_of c) m e va p) ∙ rw (sym q) refl
zva-ends c m e zero _ va p z = absurd (let y : ◌≡◌ {A = ℕ} 0 1 = cc in omega arith)
zva-ends c m e (suc n) o va p z = absurd (let y : ◌≡◌ {A = ℕ} 0 1 = cc in omega arith)

zeroed-end : (c : Core) (m : Ram) (x : Call) (va : ℕ) → zeroed (bare_of c) m x ≡ Some va
    → outcome_run c (outcome Done m.bytes) (stores 8 c m va) ≡ outcome_of c m x
unfolding step_of run_of sys_of reg_of ram_after ram_of sys_ram
zeroed-end c m x va h1 = grind (arith, zva-ends)

pub parts-end : parts_end
parts-end c s = grind (arith, zeroed-end)
