-- The address of a page of a window that does not pass 2^64.
use Rattle.std.proofs.Common.{◌≡◌, ap, ℕ, ◌+◌, ◌*◌, ◌<◌, ◌≤◌, ◌^◌, arith, false}
use Rattle.word.specs.Bits.{wrap}
use Rattle.sysreg.specs.Regs.{regime_of}
use Rattle.tlb.specs.Translate.{fresh_answer}
use Rattle.tlb.specs.declared.access.Kind.TheVariants.{Write}
use Rattle.cpu.specs.Core.{bank_now}
use Rattle.windows.specs.declared.list.Window.{Window}
use Rattle.windows_report.specs.Pages.{address_of, as_translated}

address : (w : Window) (j : ℕ) → w.start + 4096 * w.pages ≤ 2 ^ 64 → j < w.pages → address_of w j ≡ w.start + 4096 * j
address w j h k = omega arith

pub translated : as_translated
translated c memory w j h k =
    ap (λ va. fresh_answer (bank_now c) (regime_of c.privilege.level) false Write va memory) (address w j h k)
