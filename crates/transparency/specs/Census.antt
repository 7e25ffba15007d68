-- The page census after every list of calls: it counts what the core without a cache would, page by page.
use Rattle.std.specs.Prelude.{◌≡◌, Bool, true, false, List, ◌⊎◌, ℕ, ◌/◌, ◌%◌, ◌<◌, eqb, get_or, Ok, Err}
use Rattle.walk.specs.declared.fresh.Fresh.TheVariants.{Flat}
use Rattle.census.specs.Count.{how_many, page_at, census_at, has_rights}
use Rattle.tlb.specs.declared.access.Kind.{Kind}
use Rattle.tlb.specs.Answers.{Answer}
use Rattle.cpu.specs.Bare.{Bare}
use Rattle.cpu.specs.declared.call.Call.TheVariants.{Census}
use Rattle.cpu.specs.Step.{counts_after}
use Rattle.history.specs.World.{need_now, uncached}
use Rattle.history.specs.Fresh.{fresh_now}
use Rattle.history.specs.Calls.{Lent}
use Rattle.history.specs.Instance.{Ram, memory_of, real}
use Rattle.transparency.specs.Bare.{allowed, ruling_in, if_allowed}
use Rattle.transparency.specs.Events.{plain_in}
use Rattle.transparency.specs.Machine.{machine}
use Rattle.transparency.specs.Beside.{core_after, bare_after}

-- what the core without a cache would count, on its own registers and level and the step's RAM; a refused census leaves
-- the counts as they were
abbrev pub bare_counts : Bare → Ram → ℕ → ℕ → List ℕ → List ℕ
bare_counts b m first pages old =
    if_allowed (ruling_in b m (Census first pages)) (census_at b.control b.privilege.level (memory_of m) first pages) old

-- after every list, refused or not
abbrev pub census_after : Type 0
census_after =
    (list : List (Lent real machine)) (m : Ram) (first pages : ℕ) (old : List ℕ)
    → counts_after (core_after list) m.base m.bytes first pages old ≡ bare_counts (bare_after list) m first pages old

-- WHAT A COUNT MEANS

-- a fault of this status
abbrev pub answers_fault : ℕ → Answer → Bool
answers_fault status (Ok pa) = false
answers_fault status (Err f) = eqb f.fsc status

-- a permission fault, which depends on the access, is 0x0D to 0x0F
abbrev pub NoPermission : ℕ → Type 0
NoPermission status = (status < 13) ⊎ (15 < status)

-- Under a status stand the pages of which the core without a cache answers an access of any kind with that fault.
abbrev pub census_faults : Type 0
census_faults =
    (b : Bare) (m : Ram) (first pages status : ℕ) (k : Kind) (old : List ℕ) → status < 64 → NoPermission status
    → ruling_in b m (Census first pages) ≡ allowed
    → get_or (bare_counts b m first pages old) status 0
    ≡ how_many (λ i. answers_fault status (uncached real (plain_in b) m k (page_at first i))) pages

abbrev pub answers_address : Answer → Bool
answers_address (Ok pa) = true
answers_address (Err f) = false

-- Of a page that is counted under a permission byte the core without a cache answers an access with an address exactly
-- where the byte has the bit that the access needs; of a flat one, with its flat address.
abbrev pub rights_allow : Type 0
rights_allow =
    (b : Bare) (m : Ram) (k : Kind) (va perms : ℕ) → has_rights perms (fresh_now (plain_in b) m va) ≡ true
    → answers_address (uncached real (plain_in b) m k va) ≡ eqb (perms / need_now real (plain_in b) k % 2) 1

abbrev pub flat_allows : Type 0
flat_allows =
    (b : Bare) (m : Ram) (k : Kind) (va pa : ℕ) → fresh_now (plain_in b) m va ≡ Flat pa
    → uncached real (plain_in b) m k va ≡ Ok pa
