-- The page that a call is counted at: that of its first address, in its own regime or the one that AT names.
use Rattle.std.specs.Prelude.{◌≡◌, ℕ, ◌/◌, ◌^◌, Option, Some, None, option_map}
use Rattle.sysreg.specs.Regs.{regime_of}
use Rattle.sysreg.specs.declared.regs.Regime.{Regime}
use Rattle.walk.specs.Regime.{bank_of, untagged}
use Rattle.system.specs.Decode.{decode_of}
use Rattle.system.specs.declared.{decode.SysOp.SysOp, decode.AtForm.AtForm, decode.Encoding.Encoding}
use Rattle.system.specs.declared.decode.SysOp.TheVariants.{At, Zva}
use Rattle.cpu.specs.Core.{reg_of}
use Rattle.cpu.specs.declared.{Core.Core, call.Call.Call}
use Rattle.cpu.specs.declared.call.Call.TheVariants.{Translate, DataPa, FetchPa, Load, Store, Fetch, System}
use Rattle.reads_report.specs.declared.rows.Page.{Page}

abbrev pub page_of : Core → Regime → ℕ → Page
page_of c regime va = record { level = c.privilege.level; regime = regime; number = untagged (bank_of c.control regime).tcr regime va / 2 ^ 12 }

abbrev pub own_page : Core → ℕ → Page
own_page c va = page_of c (regime_of c.privilege.level) va

-- by what a system operation is, and the register that it names
abbrev pub system_page : Core → SysOp → ℕ → Option Page
system_page c (At form) va = Some (page_of c form.regime va)
system_page c Zva va = Some (own_page c va)
system_page c _ va = None

abbrev pub named : Core → Call → Option Page
named c (Translate kind va) = Some (own_page c va)
named c (DataPa va) = Some (own_page c va)
named c (FetchPa va) = Some (own_page c va)
named c (Load va size) = Some (own_page c va)
named c (Store va size value) = Some (own_page c va)
named c (Fetch va) = Some (own_page c va)
named c (System e) = system_page c (decode_of c.privilege.level e.op1 e.crn e.crm e.op2) (reg_of c e.rt)
named c _ = None

-- an AT is counted in the regime that it names, whatever the level's own
abbrev pub in_its_regime : Type 0
in_its_regime =
    (c : Core) (e : Encoding) (form : AtForm) → decode_of c.privilege.level e.op1 e.crn e.crm e.op2 ≡ At form
    → option_map (λ (p : Page). p.regime) (named c (System e)) ≡ Some form.regime
