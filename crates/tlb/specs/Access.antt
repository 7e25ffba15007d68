-- An access: what it wants, who makes it, what it needs, and its answer.
use Rattle.std.specs.Prelude.{if◌then◌else◌, ℕ, ◌+◌, ◌*◌, ◌/◌, ◌%◌, ◌^◌, Bool, true, false, not, ◌&&◌, ◌||◌, ◌==◌, bit_or, Option, Some, None, Result}
use Rattle.std.specs.Prelude.{Ok, Err, eqb}
use Rattle.fault.specs.First.{first}
use Rattle.walk.specs.Walk.{flat_by}
use Rattle.sysreg.specs.Regs.{index_of}
use Rattle.sysreg.specs.declared.regs.Regime.{Regime}
use Rattle.sysreg.specs.declared.regs.Regime.TheVariants.{El1}
use Rattle.tlb.specs.Tlb.{on_page}
use Rattle.tlb.specs.declared.{entry.Entry.Entry, access.Kind.Kind, access.NoSuchKind.NoSuchKind, access.Privilege.Privilege}
use Rattle.tlb.specs.Answers.{Answer}
use Rattle.tlb.specs.declared.access.Kind.TheVariants.{Read, Write, Fetch}

-- the number of a kind, and the kind of a number
abbrev pub kind_number : Kind → ℕ
kind_number Read = 1
kind_number Write = 2
kind_number Fetch = 4

abbrev pub kind_at : ℕ → Result Kind NoSuchKind
kind_at n = if eqb n 1 then Ok Read else if eqb n 2 then Ok Write else if eqb n 4 then Ok Fetch else Err (record { 0 = n })

abbrev pub is_fetch : Kind → Bool
is_fetch Fetch = true
is_fetch kind = false

-- hints serve reads and writes, and not while the mark holds
abbrev pub may_hint : Privilege → Kind → Bool
may_hint privilege kind = not (is_fetch kind) && not privilege.unprivileged

-- in regime 1 alone: at EL0, or under the mark unless it is a fetch
abbrev pub user_of : Regime → Privilege → Kind → Bool
user_of El1 privilege kind = privilege.level == 0 || (privilege.unprivileged && not (is_fetch kind))
user_of r privilege kind = false

-- the untagged page times 4 plus the regime
abbrev pub tag_of : Regime → ℕ → ℕ
tag_of r va = va / 4096 * 4 + index_of r

-- the bit that the access needs: read 0, write 1, fetch 2; the privileged rights stand three higher
abbrev pub right_place : Kind → ℕ
right_place Read = 0
right_place Write = 1
right_place Fetch = 2

abbrev pub right_of : Kind → Bool → ℕ
right_of kind user = (if user then 0 else 3) + right_place kind

abbrev pub has_right : ℕ → ℕ → Bool
has_right perms right = perms / 2 ^ right % 2 == 1

-- the entry's page with the low bits of the address, or a permission fault of its level
unfoldable pub judged : Entry → Bool → Kind → ℕ → Answer
judged e user kind va = if has_right e.perms (right_of kind user) then Ok (on_page e.pa va) else Err (first (bit_or 12 e.level))

-- with stage 1 off: the untagged address, or an address size fault of level 0
abbrev pub flat_end : Option ℕ → Answer
flat_end (Some pa) = Ok pa
flat_end None = Err (first 0)

abbrev pub flat_answer : ℕ → Answer
flat_answer u = flat_end (flat_by u)
