-- What the contracts of `audit` rest on: a leaf is judged as the core without a cache judges it, and what a call drops is
-- read off its encoding or its registers.
use Rattle.std.specs.Prelude.{if◌then◌else◌, ◌≡◌, refl, true, false, List, [], ◌∷◌, ℕ, ◌*◌, ◌/◌, ◌+◌, ◌%◌, ◌==◌, ◌≤◌, Some, Ok, Err, Bool, length}
use Rattle.std.specs.Prelude.{count_by}
use Rattle.std.proofs.Common.{◌∙◌, ap, sym, arith}
use Rattle.fault.specs.First.{first}
use Rattle.walk.specs.Regime.{bank_of, stage1_on, untagged}
use Rattle.sysreg.specs.Regs.{regime_of}
use Rattle.walk.specs.Walk.{walk_of}
use Rattle.walk.specs.Answers.{Walked}
use Rattle.word.specs.Ram.{word_at}
use Rattle.walk.specs.declared.{level.Leaf.Leaf}
use Rattle.sysreg.specs.declared.regs.Regime.{Regime}
use Rattle.walk.proofs.WalkBounds.{leaf-bounds}
use Rattle.tlb.specs.Access.{judged, user_of, flat_answer}
use Rattle.tlb.proofs.Cells.{judged-is}
use Rattle.tlb.specs.Tlb.{entry_for}
use Rattle.tlb.specs.Model.{Access, as_user, need, judge}
use Rattle.tlb.specs.declared.{access.Kind.Kind, access.Privilege.Privilege, Inval.Inval}
use Rattle.system.specs.Tlbi.{tlbi_of}
use Rattle.system.specs.declared.decode.Encoding.{Encoding}
use Rattle.system.specs.declared.decode.SysOp.TheVariants as Op
use Rattle.cpu.specs.Bare.{Bare, bare_of}
use Rattle.cpu.specs.Core.{bank_now}
use Rattle.cpu.specs.declared.Core.{Core}
use Rattle.cpu.specs.declared.call.Call.TheVariants.{System, Register}
use Rattle.history.specs.Window.{Ram, memory_of, window_of}
use Rattle.transparency.specs.Bare.{missed_in, op_in, operand_in, written_in, ruling_in, by_write, if_allowed}
use Rattle.transparency.specs.Claim.{answer_by, untagged_in, uncached, drops_of, answers_of}
use Rattle.transparency.specs.Steps.{Step}
use Rattle.tlb.specs.Answers.{Answer}
use Rattle.tlb.specs.Asks.{Given}
use Rattle.tlb.specs.Live.{Each, done, more}
use Rattle.walk_report.specs.Told.{told_by_walk, told_of, walk_told}
use Rattle.audit.specs.Answers.{fresh_answer, given_in, listed}
use Rattle.cluster.specs.Shared.{shared_in}
use Rattle.audit.specs.Counting.{differ, is_stale, stale_in}
use Rattle.audit.specs.declared.answers.{Ask.Ask, Answered.Answered, Answers.Answers}

-- an entry made of a leaf is judged as the leaf is
judged-leaf : (r : Regime) (p : Privilege) (k : Kind) (va : ℕ) (leaf : Leaf) → leaf.level ≤ 3
    → judged (entry_for leaf 0 0) (user_of r p k) k va ≡ answer_by (Ok leaf) (need k (as_user r p.level p.unprivileged k)) va
unfolding judge
judged-leaf r p k va leaf h =
    let a : Access = record { privilege = p; kind = k; va = va; on = true; regime = r; untagged = 0; walk = Ok leaf; reads = 0 } in
    let framed : leaf.oa / 4096 * 4096 / 4096 ≡ leaf.oa / 4096 = omega arith in
    let bit = need k (as_user r p.level p.unprivileged k) in
    judged-is 0 r (entry_for leaf 0 0) a (record { early = omega arith; aligned = omega arith; level = h })
    ∙ ap (λ (n : ℕ). if leaf.perms / bit % 2 == 1 then Ok (n * 4096 + va % 4096) else Err (first (12 + leaf.level))) framed

-- so the core without a cache answers by it
pub fresh-leaf : (b : Bare) (m : Ram) (k : Kind) (va : ℕ) (leaf : Leaf)
    → stage1_on (bank_of b.control (regime_of b.privilege.level)) (regime_of b.privilege.level) ≡ true
    → walk_of (bank_of b.control (regime_of b.privilege.level)) (regime_of b.privilege.level) (untagged_in b va) (memory_of m) ≡ Ok leaf
    → judged (entry_for leaf 0 0) (user_of (regime_of b.privilege.level) b.privilege k) k va ≡ uncached b m k va
fresh-leaf b m k va leaf on w =
    rw (on, w)
    (judged-leaf (regime_of b.privilege.level) b.privilege k va leaf
    (leaf-bounds (bank_of b.control (regime_of b.privilege.level)) (regime_of b.privilege.level) (untagged_in b va) (memory_of m) leaf w).level-high)

-- A WALK THAT IS SHOWN

-- whatever the ASID, which a judgement does not read
any-asid : (leaf : Leaf) (asid : ℕ) (user : Bool) (k : Kind) (va : ℕ) → judged (entry_for leaf asid 0) user k va ≡ judged (entry_for leaf 0 0) user k va
unfolding judged
any-asid leaf asid user k va = refl

told-leaf : (c : Core) (k : Kind) (va : ℕ) (w : Walked) → ((leaf : Leaf) → w ≡ Ok leaf → leaf.level ≤ 3)
    → told_by_walk c k va w ≡ told_of (answer_by w (need k (as_user (regime_of c.privilege.level) c.privilege.level c.privilege.unprivileged k)) va)
told-leaf c k va (Ok leaf) h =
    let r = regime_of c.privilege.level in
    ap (λ (x : Answer). told_of x)
    (any-asid leaf c.tlb.asid (user_of r c.privilege k) k va ∙ judged-leaf r c.privilege k va leaf (h leaf refl))
told-leaf c k va (Err status) h = refl

-- or with stage 1 off
told-either : (on : Bool) (c : Core) (k : Kind) (va u : ℕ) (w : Walked) → ((leaf : Leaf) → w ≡ Ok leaf → leaf.level ≤ 3)
    → (if on then told_by_walk c k va w else told_of (flat_answer u))
    ≡ told_of (if on then answer_by w (need k (as_user (regime_of c.privilege.level) c.privilege.level c.privilege.unprivileged k)) va else flat_answer u)
told-either true c k va u w h = told-leaf c k va w h
told-either false c k va u w h = refl

-- what is told of a walk made now is what the core without a cache answers
pub walk_as_claimed : (c : Core) (base : ℕ) (ram : List ℕ) (k : Kind) (va : ℕ)
    → walk_told c (word_at base ram 8) k va ≡ told_of (uncached (bare_of c) (window_of base ram) k va)
walk_as_claimed c base ram k va =
    let r = regime_of c.privilege.level in
    let u = untagged (bank_now c).tcr r va in
    let m = word_at base ram 8 in
    told-either (stage1_on (bank_now c) r) c k va u (walk_of (bank_now c) r u m)
    (λ leaf e. (leaf-bounds (bank_now c) r u m leaf e).level-high)

-- LISTS OF ANSWERS

pub fresh-at : (c : Core) (m : Ram) (a : Answered) (x : Ask) → a.ask ≡ x → a.fresh ≡ fresh_answer c m x → a.fresh ≡ fresh_answer c m a.ask
fresh-at c m a x e f = f ∙ ap (λ (y : Ask). fresh_answer c m y) (sym e)

-- INVALIDATIONS

pub tlbi-drops : (b : Bare) (m : Ram) (e : Encoding) → missed_in b m (System e) ≡ 0 → op_in b e ≡ Op.Tlbi
    → if_allowed (ruling_in b m (System e)) (drops_of b (System e)) [] ≡ tlbi_of b.control e.op1 e.crm e.op2 (operand_in b e) ∷ []
tlbi-drops b m e h o = rw (h, o) refl

-- and the Inner Shareable forms are shared
pub tlbi-shares : (b : Bare) (m : Ram) (e : Encoding) → missed_in b m (System e) ≡ 0 → op_in b e ≡ Op.Tlbi → (e.crm == 3) ≡ true
    → Some (tlbi_of b.control e.op1 e.crm e.op2 (operand_in b e)) ≡ shared_in b m (System e)
tlbi-shares b m e h o r = rw (h, o, r) refl

pub write-drops : (b : Bare) (m : Ram) (key value : ℕ) (l : List Inval) → missed_in b m (Register key value) ≡ 0
    → if_allowed (ruling_in b m (Register key value)) l [] ≡ if_allowed (by_write (written_in b key value).answer) l []
write-drops b m key value l h = rw h refl

-- COUNTS

counted : (c : Core) (m : Ram) (r : Answers) → Each (λ (a : Answered). a.fresh ≡ fresh_answer c m a.ask) (listed r)
    → count_by (is_stale c m) (given_in r) ≡ count_by (λ (a : Answered). differ a.core a.fresh) (listed r)
counted c m Answers.Nothing h = refl
counted c m (Answers.One a) (more h done) = ap (λ (x : Answer). count_by (λ (b : Bool). b) (differ a.core x ∷ [])) (sym h)
counted c m (Answers.Two a b) (more h (more k done)) = λ i. count_by (λ (t : Bool). t) (differ a.core (sym h i) ∷ differ b.core (sym k i) ∷ [])

-- what is counted by the answers beside the core's is what the claim's definition counts
pub stale_counted : (c : Core) (s : Step) (r : Answers) → given_in r ≡ answers_of c s → Each (λ (a : Answered). a.fresh ≡ fresh_answer c s.ram a.ask) (listed r)
    → stale_in c s ≡ count_by (λ (a : Answered). differ a.core a.fresh) (listed r)
stale_counted c s r e h = ap (λ (l : List Given). count_by (is_stale c s.ram) l) (sym e) ∙ counted c s.ram r h

listed-length : (r : Answers) → length (listed r) ≡ length (given_in r)
listed-length Answers.Nothing = refl
listed-length (Answers.One a) = refl
listed-length (Answers.Two a b) = refl

pub accesses_counted : (c : Core) (s : Step) (r : Answers) → given_in r ≡ answers_of c s → length (answers_of c s) ≡ length (listed r)
accesses_counted c s r e = ap (λ (l : List Given). length l) (sym e) ∙ sym (listed-length r)
