-- The page census after every list of calls: it counts what the core without a cache would, page by page.
use Rattle.std.proofs.Common.{rules, ap, ◌∙◌, arith}
use Rattle.std.specs.Prelude.{◌≡◌, true, List, ℕ, ◌/◌, ◌%◌, ◌<◌, eqb, get_or}
use Rattle.walk.specs.WalkBounds.{SoundFresh}
use Rattle.walk.specs.declared.{fresh.Fresh.Fresh}
use Rattle.census.specs.Count.{how_many, page_at, census_at, faults_with, has_rights}
use Rattle.census.proofs.Laws.{sound-at, status-count}
use Rattle.tlb.specs.declared.access.Kind.{Kind}
use Rattle.cpu.specs.Bare.{Bare, bare_of}
use Rattle.cpu.specs.declared.Core.{Core}
use Rattle.cpu.specs.Step.{counts_after}
use Rattle.tlb.specs.Translate.{end_answer}
use Rattle.history.specs.World.{need_now, uncached}
use Rattle.history.proofs.Fresh.{uncached-end}
use Rattle.history.specs.Instance.{Ram, memory_of, real}
use Rattle.transparency.specs.Events.{plain_in}
use Rattle.transparency.proofs.Beside.{two-cores}
use Rattle.transparency.specs.Census.{bare_counts, answers_fault, NoPermission, answers_address}
use Rattle.transparency.specs.Census as Statement

pub counts-bare : (c : Core) (m : Ram) (first pages : ℕ) (old : List ℕ)
    → counts_after c m.base m.bytes first pages old ≡ bare_counts (bare_of c) m first pages old
unfolding counts_after
counts-bare c m first pages old = grind arith

-- after every list, refused or not
pub census-after : Statement.census_after
census-after list m first pages old = grind (arith, counts-bare, two-cores)

-- WHAT A COUNT MEANS

fresh-answers : (status bit va : ℕ) → NoPermission status → (x : Fresh) → SoundFresh x → answers_fault status (end_answer x bit va) ≡ faults_with status x
fresh-answers status bit va h1 x h2 = grind arith

status-faults : (b : Bare) (m : Ram) (first pages status : ℕ) (k : Kind) → status < 64 → NoPermission status
    → get_or (census_at b.control b.privilege.level (memory_of m) first pages) status 0
    ≡ how_many (λ i. answers_fault status (uncached real (plain_in b) m k (page_at first i))) pages
status-faults b m first pages status k small h = search (rules, status-count, fresh-answers, sound-at, uncached-end)

-- Under a status stand the pages of which the core without a cache answers an access of any kind with that fault.
pub census-faults : Statement.census_faults
census-faults b m first pages status k old small h passed = rw passed (status-faults b m first pages status k small h)

rights-fresh : (perms bit va : ℕ) (x : Fresh) → has_rights perms x ≡ true → answers_address (end_answer x bit va) ≡ eqb (perms / bit % 2) 1
rights-fresh perms bit va x h1 = grind arith

-- Of a page that is counted under a permission byte, and of a flat one.
pub rights-allow : Statement.rights_allow
rights-allow b m k va perms h = search (rules, uncached-end, rights-fresh)

pub flat-allows : Statement.flat_allows
flat-allows b m k va pa e =
    uncached-end (plain_in b) m k va ∙ ap (λ (x : Fresh). end_answer x (need_now real (plain_in b) k) va) e
