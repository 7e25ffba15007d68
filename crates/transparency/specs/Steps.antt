-- The steps of a list of calls. A step is a call, with RAM (window and bytes) as it stands when the step begins; a DC ZVA
-- is eight steps, one for each of its stores.
use Rattle.std.specs.Prelude.{List, [], ◌∷◌, ◌++◌, ℕ, zero, suc, ◌+◌, Option, Some, None}
use Rattle.word.specs.Bits.{align_down, wrap}
use Rattle.system.specs.declared.decode.SysOp.{SysOp}
use Rattle.system.specs.declared.decode.SysOp.TheVariants as Op
use Rattle.cpu.specs.Bare.{Bare, bare_of}
use Rattle.cpu.specs.declared.Core.{Core}
use Rattle.cpu.specs.declared.{call.Call.Call, call.Reply.Reply}
use Rattle.cpu.specs.declared.call.Call.TheVariants.{Store, System}
use Rattle.cpu.specs.declared.call.Reply.TheVariants.{Done}
use Rattle.cpu.specs.Step.{step_of, ram_after}
use Rattle.history.specs.Window.{Ram, window_of}
use Rattle.transparency.specs.Bare.{Ruling, allowed, op_in, operand_in, ruling_in, bare_step}

pub record Step : Type 0 where
  pub ram : Ram
  pub call : Call

-- steps on the core, by the definitions that the contract of the code's `step` cites; on the core without a cache
abbrev pub core_run : Core → List Step → Core
core_run c [] = c
core_run c (s ∷ l) = core_run (step_of c s.ram.base s.ram.bytes s.call).core l

abbrev pub bare_run : Bare → List Step → Bare
bare_run b [] = b
bare_run b (s ∷ l) = bare_run (bare_step b s.ram s.call) l

-- a DC ZVA that is not refused: the address of its first store
abbrev pub zeroing : Ruling → SysOp → ℕ → Option ℕ
zeroing allowed Op.Zva x = Some (align_down x 6)
zeroing _ _ x = None

abbrev pub zeroed : Bare → Ram → Call → Option ℕ
zeroed b m (System e) = zeroing (ruling_in b m (System e)) (op_in b e) (operand_in b e)
zeroed b m _ = None

-- those of n stores of eight zero bytes that it begins, each on the RAM that the last one left
abbrev pub on_done {ℓ} : {A : Type ℓ} → Reply → A → A → A
on_done Done more end = more
on_done _ more end = end

abbrev pub stores : ℕ → Core → Ram → ℕ → List Step
stores zero c m va = []
stores (suc n) c m va =
    let made = step_of c m.base m.bytes (Store va 8 0) in
    let left = window_of m.base (ram_after c m.base m.bytes (Store va 8 0)) in
    record { ram = m; call = Store va 8 0 } ∷ on_done made.reply (stores n made.core left (wrap (va + 8))) []

-- the steps of a call; of a list of calls
abbrev pub parts_by : Option ℕ → Core → Step → List Step
parts_by (Some va) c s = stores 8 c s.ram va
parts_by None c s = s ∷ []

abbrev pub steps_run : Core → List Step → List Step
steps_run c [] = []
steps_run c (s ∷ l) =
    parts_by (zeroed (bare_of c) s.ram s.call) c s ++ steps_run (step_of c s.ram.base s.ram.bytes s.call).core l
