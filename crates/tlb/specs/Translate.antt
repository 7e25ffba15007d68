-- One translation as a step of the cache: by its hint, by the entry of its page, by a walk; and what it leaves.
use Rattle.std.specs.Prelude.{if◌then◌else◌, ℕ, length, Option, Some, None, slice_set, Ok, Err, ◌+◌, Bool, true, false, ◌&&◌, ◌≡◌, ◌*◌, ◌/◌, ◌%◌}
use Rattle.std.specs.Prelude.{is_none, ◌==◌}
use Rattle.fault.specs.First.{first}
use Rattle.walk.specs.Answers.{Walked}
use Rattle.walk.specs.Regime.{stage1_on, untagged}
use Rattle.sysreg.specs.Regs.{regime_of}
use Rattle.walk.specs.Walk.{walk_of, fetches_of, fresh_of}
use Rattle.word.specs.Bits.{wrap}
use Rattle.sysreg.specs.declared.regs.Regime.{Regime}
use Rattle.walk.specs.declared.{level.Leaf.Leaf, regime.Bank.Bank, fresh.Fresh.Fresh}
use Rattle.walk.specs.declared.fresh.Fresh.TheVariants.{Flat, Ended}
use Rattle.tlb.specs.Access.{tag_of, may_hint, user_of, judged, flat_answer}
use Rattle.tlb.specs.Answers.{Answer, Outcome}
use Rattle.tlb.specs.Tlb.{hit_counted, walk_counted, entry_for, data_slot, hint_for, hint_found, fetch_for, fetch_found, hint_at, get_of, put_of}
use Rattle.tlb.specs.Model.{Access, as_fetch, need}
use Rattle.tlb.specs.declared.{access.Kind.Kind, access.Privilege.Privilege, access.Request.Request, entry.Entry.Entry, Tlb.Tlb, work.Work.Work}

-- the access that registers and tables make of an address
abbrev pub access_of : Bank → Privilege → ℕ → Kind → (ℕ → Option ℕ) → Access
access_of s privilege va kind memory =
    record {
      privilege = privilege;
      kind = kind;
      va = va;
      on = stage1_on s (regime_of privilege.level);
      regime = regime_of privilege.level;
      untagged = untagged s.tcr (regime_of privilege.level) va;
      walk = walk_of s (regime_of privilege.level) (untagged s.tcr (regime_of privilege.level) va) memory;
      reads = length (fetches_of s (regime_of privilege.level) (untagged s.tcr (regime_of privilege.level) va) memory);
    }

abbrev pub asked : Request → (ℕ → Option ℕ) → Access
asked a memory = access_of a.bank a.privilege a.va a.kind memory

abbrev pub tag_in : Access → ℕ
tag_in a = tag_of a.regime a.untagged

abbrev pub judged_in : Access → Entry → Answer
judged_in a e = judged e (user_of a.regime a.privilege a.kind) a.kind a.va

-- WITHOUT A HINT

-- by a walk: a leaf becomes an entry and is judged; a fault makes none
unfoldable pub walked_in : Walked → Access → Tlb → Outcome Tlb
walked_in (Ok leaf) a t =
    record {
      answer = judged_in a (entry_for leaf t.asid (tag_in a));
      after = put_of (walk_counted a.privilege.level t) (entry_for leaf t.asid (tag_in a));
    }
walked_in (Err code) a t = record { answer = Err (first code); after = walk_counted a.privilege.level t }

-- by the entry that serves; else by a walk
abbrev pub looked_in : Option Entry → Access → Tlb → Outcome Tlb
looked_in (Some e) a t = record { answer = judged_in a e; after = hit_counted a.privilege.level t }
looked_in None a t = walked_in a.walk a t

-- with stage 1 off by the untagged address alone
unfoldable pub miss_in : Access → Tlb → Outcome Tlb
miss_in a t = if a.on then looked_in (get_of t (tag_in a)) a t else record { answer = flat_answer a.untagged; after = t }

-- BY A HINT

-- where the hint of an access sends it, if it may serve
abbrev pub hint_in : Privilege → ℕ → Kind → Tlb → Option ℕ
hint_in privilege va kind t = if may_hint privilege kind then hint_found (hint_at t (data_slot va kind)) privilege.level va else None

-- an address that was allowed becomes a hint, where one may serve
abbrev pub hint_left : Privilege → ℕ → Kind → Answer → Tlb → Tlb
hint_left privilege va kind (Ok pa) t =
    if may_hint privilege kind then record t { hints = slice_set t.hints (data_slot va kind) (hint_for va privilege.level pa) } else t
hint_left privilege va kind (Err f) t = t

-- an outcome with the hint that it leaves
abbrev pub noted_in : (Answer → Tlb → Tlb) → Outcome Tlb → Outcome Tlb
noted_in leave o = record { answer = o.answer; after = leave o.answer o.after }

-- a translation that no hint serves
abbrev pub past_hint_in : Access → Tlb → Outcome Tlb
past_hint_in a t = noted_in (hint_left a.privilege a.va a.kind) (miss_in a t)

-- the hint first
abbrev pub tried_in : Option ℕ → Access → Tlb → Outcome Tlb
tried_in (Some pa) a t = record { answer = Ok pa; after = t }
tried_in None a t = past_hint_in a t

abbrev pub translation_in : Access → Tlb → Outcome Tlb
translation_in a t = tried_in (hint_in a.privilege a.va a.kind t) a t

abbrev pub tlb_after : Access → Tlb → Tlb
tlb_after a t = (translation_in a t).after

-- BY THE FETCH HINT, whatever the mark

-- an address that a fetch was allowed becomes the fetch hint
abbrev pub fetch_left : ℕ → ℕ → Answer → Tlb → Tlb
fetch_left level va (Ok pa) t = record t { fetch = Some (fetch_for va level pa) }
fetch_left level va (Err f) t = t

abbrev pub fetch_tried : Option ℕ → Access → Tlb → Outcome Tlb
fetch_tried (Some pa) a t = record { answer = Ok pa; after = t }
fetch_tried None a t = noted_in (fetch_left a.privilege.level a.va) (miss_in a t)

-- whatever the kind of the access, it is a fetch's
abbrev pub fetch_in : Access → Tlb → Outcome Tlb
fetch_in a t = fetch_tried (fetch_found t.fetch a.privilege.level a.va) (as_fetch a) t

abbrev pub fetched_in : Access → Tlb → Tlb
fetched_in a t = (fetch_in a t).after

-- What a translation does beside its answer: the descriptors that it reads.
abbrev pub no_work : Work
no_work = record { reads = 0 }

-- n descriptors more
abbrev pub read_more : ℕ → Work → Work
read_more n w = record w { reads = wrap (w.reads + n) }

-- WITHOUT A HINT a walk is made where stage 1 is on and no entry serves, and reads its descriptors; nothing else reads

unfoldable pub needs_walk : Access → Tlb → Bool
needs_walk a t = a.on && is_none (get_of t (tag_in a))

abbrev pub work_missed : Access → Tlb → Work → Work
work_missed a t w = if needs_walk a t then read_more a.reads w else w

-- THE HINT FIRST: where one serves nothing is read

abbrev pub work_tried : Option ℕ → Access → Tlb → Work → Work
work_tried (Some pa) a t w = w
work_tried None a t w = work_missed a t w

-- of a translation
abbrev pub work_in : Access → Tlb → Work → Work
work_in a t w = work_tried (hint_in a.privilege a.va a.kind t) a t w

-- of the one that a fetch begins with
abbrev pub fetch_work_in : Access → Tlb → Work → Work
fetch_work_in a t w = work_tried (fetch_found t.fetch a.privilege.level a.va) a t w

-- A translation that no hint serves, in two parts: what is at hand, and what needs a walk.

-- neither stage 1 off nor an entry answers
abbrev pub NeedsWalk : Access → Tlb → Type 0
NeedsWalk a t = (miss_in a t ≡ walked_in a.walk a t) × (needs_walk a t ≡ true)

-- an answer at hand, and the cache that it leaves; without one a walk is needed, and the cache stays
abbrev pub Handed : Access → Tlb → Option Answer → Type 0
Handed a t (Some x) = (x ≡ (past_hint_in a t).answer) × (needs_walk a t ≡ false)
Handed a t None = NeedsWalk a t

abbrev pub AfterHanded : Access → Tlb → Option Answer → Tlb → Type 0
AfterHanded a t (Some x) u = u ≡ (past_hint_in a t).after
AfterHanded a t None u = u ≡ t

-- The judged fresh answer: how an access ends with nothing cached, in the terms of the plain model. The core without a cache answers by it.

-- 0x0C plus the leaf's level where the leaf lacks the bit that the access needs; else its physical page with the low twelve bits of the address
abbrev pub leaf_answer : Leaf → ℕ → ℕ → Answer
leaf_answer ℓ bit va =
    if ℓ.perms / bit % 2 == 1 then Ok (ℓ.oa / 4096 * 4096 + va % 4096) else Err (first (12 + ℓ.level))

-- a fault of the walk is the answer
abbrev pub walk_answer : Walked → ℕ → ℕ → Answer
walk_answer (Err code) bit va = Err (first code)
walk_answer (Ok ℓ) bit va = leaf_answer ℓ bit va

-- how an address ends, judged for an access that needs a permission bit
abbrev pub end_answer : Fresh → ℕ → ℕ → Answer
end_answer (Flat pa) bit va = Ok pa
end_answer (Ended w) bit va = walk_answer w bit va

-- by EL0's rights or by the regime's own
unfoldable pub fresh_answer : Bank → Regime → Bool → Kind → ℕ → (ℕ → Option ℕ) → Answer
fresh_answer s r user k va memory = end_answer (fresh_of s r va memory) (need k user) va
