use Rattle.std.proofs.Common.{◌≡◌, ◌<◌, ◌^◌, ℕ, Bool, length, true, Some, sym, ap, ◌∙◌, arith}
use Rattle.word.specs.Ram.{word_at, bytes_in}
use Rattle.walk.specs.Regime.{stage1_on}
use Rattle.sysreg.specs.Regs.{regime_of}
use Rattle.tlb.specs.Translate.{hint_in}
use Rattle.tlb.specs.declared.access.Kind.TheVariants.{Read}
use Rattle.cpu.specs.Core.{bank_now}
use Rattle.cpu.specs.Bytes.{in_page, next_page, crosses}
use Rattle.quick.specs.AtOnce.{both_at}
use Rattle.quick.proofs.Both.{both-loads}
use Rattle.quick.proofs.Hinting.{plainly}
use Rattle.quick.proofs.OnePage.{two-read}
use Rattle.quick.proofs.Works.{two-read-none}
use Rattle.quick.proofs.split.load.Goals as goal

pub returns-in-Some-read_both : goal.returns-in-Some-read_both
returns-in-Some-read_both c =
    let long : length c.args.ram.now < 2 ^ 64 = omega arith in
    let on : c.stage1_on-on.result ≡ stage1_on (bank_now c.args.core.now) (regime_of c.args.core.now.privilege.level)
    = c.stage1_on-on.ensures ∙ (λ i. stage1_on (c.bank.ensures i) (c.regime.ensures i)) in
    let k : crosses (stage1_on (bank_now c.args.core.now) (regime_of c.args.core.now.privilege.level)) c.args.va (bytes_in c.args.width) ≡ true =
    sym (ap (λ (x : Bool). crosses x c.args.va (bytes_in c.args.width)) on)
    ∙ sym (ap (λ (n : ℕ). crosses c.stage1_on-on.result c.args.va n) c.bytes.ensures.value) ∙ sym c.crosses.ensures ∙ c.if-crosses.true in
    let s = plainly c.args.core.now c.args.base (length c.args.ram.now) _ c.in-Some.pa (sym c.served.ensures ∙ c.in-Some.is) in
    let s2 = plainly c.args.core.now c.args.base (length c.args.ram.now) _ c.in-Some-served.pa2 (sym c.served-in-Some.ensures ∙ c.in-Some-served.is) in
    let h : hint_in c.args.core.now.privilege c.args.va Read c.args.core.now.tlb ≡ Some c.in-Some.pa = s.2 in
    let h2 : hint_in c.args.core.now.privilege (next_page c.args.va) Read c.args.core.now.tlb ≡ Some c.in-Some-served.pa2 =
    sym (ap (λ (x : ℕ). hint_in c.args.core.now.privilege x Read c.args.core.now.tlb) c.next_page-next.ensures) ∙ s2.2 in
    let b : both_at c.args.base c.args.ram.now (record { in_page = in_page c.args.va; pa = c.in-Some.pa; pa2 = c.in-Some-served.pa2 })
    (bytes_in c.args.width) ≡ Some c.in-Some-read_both.v =
    sym (ap (λ (m : ℕ). both_at c.args.base c.args.ram.now (record { in_page = m; pa = c.in-Some.pa; pa2 = c.in-Some-served.pa2 }) (bytes_in c.args.width))
    c.in_page-in_page.ensures.value)
    ∙ sym (ap (λ (n : ℕ). both_at c.args.base c.args.ram.now (record { in_page = c.in_page-in_page.result; pa = c.in-Some.pa; pa2 = c.in-Some-served.pa2 }) n)
    c.bytes-in-Some-served.ensures.value)
    ∙ sym c.read_both.ensures ∙ c.in-Some-read_both.is in
    (s.0, s.1, two-read _ _ _ _ _ _ _ _ k h h2 (both-loads _ _ _ _ long _ b), two-read-none c.args.core.now (word_at c.args.base c.args.ram.now 8) _ _ Read _ _ k h h2)
