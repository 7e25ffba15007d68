-- RAM as it stands when each step of a call begins, as the run on the core shows it: the one place where the premise
-- meets the core. A call's first step begins on the RAM that the list gives; a zeroing's further stores begin on what
-- its earlier stores have left, and there are as many as the core began (a store that was not begun would have the same
-- registers and RAM as the last one, and so the same walk). `Shown` of history's Calls is the hypothesis that the list
-- is fed so.
use Rattle.std.specs.Prelude.{List, [], ◌∷◌, ℕ, zero, suc, ◌+◌}
use Rattle.word.specs.Bits.{align_down, wrap}
use Rattle.system.specs.declared.decode.SysOp.{SysOp}
use Rattle.system.specs.declared.decode.SysOp.TheVariants as Op
use Rattle.cpu.specs.Bare.{bare_of}
use Rattle.cpu.specs.Memory.{write_of, ram_after_write}
use Rattle.cpu.specs.declared.Core.{Core}
use Rattle.cpu.specs.System.{on_stored}
use Rattle.cpu.specs.declared.call.Call.{Call}
use Rattle.cpu.specs.declared.call.Call.TheVariants.{System}
use Rattle.history.specs.Instance.{Ram, window_of}
use Rattle.transparency.specs.Bare.{op_in, operand_in, ruling_in, if_allowed}

-- RAM after a store of eight zero bytes
abbrev pub ram_zeroed : Core → Ram → ℕ → Ram
ram_zeroed c m va = window_of m.base (ram_after_write c m.base m.bytes va 8 0)

-- of n further stores of eight zero bytes after the one at va, those begun
abbrev pub zero_later : ℕ → Core → Ram → ℕ → List Ram
zero_later zero c m va = []
zero_later (suc n) c m va =
    on_stored (write_of c m.base m.bytes va 8).answer
    (ram_zeroed c m va ∷ zero_later n (write_of c m.base m.bytes va 8).core (ram_zeroed c m va) (wrap (va + 8)))
    []

abbrev pub sys_later : SysOp → Core → Ram → ℕ → List Ram
sys_later Op.Zva c m va = zero_later 7 c m (align_down va 6)
sys_later _ c m va = []

abbrev pub later_of : Core → Ram → Call → List Ram
later_of c m (System e) = sys_later (op_in (bare_of c) e) c m (operand_in (bare_of c) e)
later_of c m _ = []

-- a refused call has one step
abbrev pub later_in : Core → Ram → Call → List Ram
later_in c m x = if_allowed (ruling_in (bare_of c) m x) (later_of c m x) []
