-- Every translation, by walk, entry or hint, is judged by the manual's permission check on the attributes that a walk
-- of its page found; and the statuses that there are. No premise: this holds after every history.
use Rattle.std.specs.Prelude.{if◌then◌else◌, ◌≡◌, Bool, true, false, not, List, ◌⊎◌, ℕ, ◌+◌, ◌*◌, ◌/◌, ◌%◌, ◌≤◌, Ok, Err}
use Rattle.fault.specs.First.{first}
use Rattle.walk.specs.Regime.{wxn_of, bank_of}
use Rattle.sysreg.specs.Regs.{single_priv}
use Rattle.walk.specs.Table.{Fault as WalkFault, status_of, Translation, mapped, faults, table_walk}
use Rattle.walk.specs.Permission.{Access, reading, writing, fetching, allowed}
use Rattle.walk.specs.Walk.{leaf_of}
use Rattle.walk.specs.declared.{regime.Bank.Bank}
use Rattle.sysreg.specs.declared.regs.Regime.{Regime}
use Rattle.sysreg.specs.declared.regs.Control.{Control}
use Rattle.tlb.specs.Access.{flat_answer}
use Rattle.tlb.specs.Live.{Each}
use Rattle.tlb.specs.Model.{as_user}
use Rattle.tlb.specs.Asks.{Ask, kind_of, address_of}
use Rattle.tlb.specs.declared.{access.Kind.Kind, Inval.Inval}
use Rattle.tlb.specs.Answers.{Answer}
use Rattle.tlb.specs.declared.access.Kind.TheVariants.{Read, Write, Fetch}
use Rattle.history.specs.World.{covers, Plain, regime_now, on_now, untag_now, page_now}
use Rattle.history.specs.History.{Event, plain_run}
use Rattle.history.specs.Instance.{Ram, memory_of, real, fresh_plain}
use Rattle.history.specs.Origin.{StateIn}

-- THE PERMISSION CHECK

abbrev pub access_for : Kind → Access
access_for Read = reading
access_for Write = writing
access_for Fetch = fetching

-- an access at the level and under the mark is one of EL0's
abbrev pub user_now : Plain real → Kind → Bool
user_now c k = as_user (regime_now real c) c.privilege.level c.privilege.unprivileged k

-- AArch64.CheckPermission on what a walk in the bank's registers found: the physical page with the address's low twelve
-- bits, or 0x0C plus the level
abbrev pub checked : Bank → Regime → Bool → Kind → Translation → ℕ → Answer
checked s r user k t va =
    if allowed (single_priv r) (not user) (wxn_of s) t.perms (access_for k) then Ok (t.address / 4096 * 4096 + va % 4096)
    else Err (first (12 + t.level))

module _ (past : List (Event real)) (m : Ram) where
  -- registers, level and mark after the history
  abbrev pub now : Plain real
  now = plain_run real fresh_plain past

  abbrev pub regime : Regime
  regime = regime_now real now

  -- The answer x to a translation a, made after the history on the RAM m. Either stage 1 is off, and it is the untagged
  -- address, or too large; or the walk of now faults, and it is that fault; or the page had the walk t at the registers R and the RAM
  -- m', of now or of a step of the history, global or under today's ASID, which no invalidation since covers, and the
  -- access of now is checked on what t found.
  pub data Judged (a : Ask) (x : Answer) : Type 0 where
    itself : on_now real now ≡ false → x ≡ flat_answer (untag_now real now (address_of a)) → Judged a x
    faulted : (f : WalkFault) → on_now real now ≡ true
        → table_walk (bank_of now.regs regime) regime (untag_now real now (address_of a)) (memory_of m) ≡ faults f
        → x ≡ Err (first (status_of f)) → Judged a x
    allowing : (R : Control) (m' : Ram) (vs : List Inval) → StateIn real fresh_plain past m R m' vs → (t : Translation)
        → real.on R regime ≡ true
        → table_walk (bank_of R regime) regime (page_now real now (address_of a) * 4096) (memory_of m') ≡ mapped t
        → (t.not_global ≡ false) ⊎ (real.asid R ≡ real.asid now.regs)
        → Each
        (λ v. covers v (page_now real now (address_of a)) (leaf_of (single_priv regime) (wxn_of (bank_of R regime)) t) (real.asid R) ≡ false)
        vs
        → x ≡ checked (bank_of R regime) regime (user_now now (kind_of a)) (kind_of a) t (address_of a) → Judged a x

-- STATUSES

-- the statuses of a translation (docs/SCOPE.md): 0x00 to 0x07, 0x09 to 0x0B, 0x0D to 0x0F, 0x14 to 0x17
pub data Row (code : ℕ) : Type 0 where
  size-or-translation : code ≤ 7 → Row code
  access-flag : 9 ≤ code → code ≤ 11 → Row code
  permission : 13 ≤ code → code ≤ 15 → Row code
  descriptor-read : 20 ≤ code → code ≤ 23 → Row code
