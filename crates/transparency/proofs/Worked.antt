-- A worked list of calls, by computation on the core itself: the premise of faithfulness holds where the cache answers, and
-- fails where a table was changed without a TLBI.
use Rattle.std.specs.Prelude.{◌≡◌, refl, true, false, List, [], ◌∷◌, ℕ, Ok, Err}
use Rattle.std.proofs.Common.{sym, ap, subst, ◌∙◌, true≢false, arith}
use Rattle.std.proofs.lemmas.Bool.{false≢true}
use Rattle.word.specs.Ram.{word_at, little_endian, bytes_of, stored}
use Rattle.sysreg.specs.Regs.{fresh_control, fresh_sys}
use Rattle.sysreg.specs.Encoding.{banked_at, register_at}
use Rattle.sysreg.specs.Write.{control_with, sys_with, write_reg}
use Rattle.sysreg.specs.Shape.{same_shape, asid_base, asid_of}
use Rattle.sysreg.specs.declared.regs.Control.{Control}
use Rattle.sysreg.specs.declared.regs.Register.TheVariants.{Sctlr, Tcr, Ttbr0}
use Rattle.sysreg.specs.declared.regs.Regime.TheVariants.{El1}
use Rattle.walk.specs.Answers.{Walked}
use Rattle.walk.specs.Regime.{untagged, pa_size}
use Rattle.walk.specs.Table.{range_of, params_of, table_next, leaf_permissions, leaf_translation, leaf_result, level_next, descaddr, lookup_next}
use Rattle.walk.specs.Table.{walk_from, walk_range, table_walk}
use Rattle.walk.specs.Walk.{walk_of, fetches_from, fetches_range, fetches_of, fresh_reads}
use Rattle.walk.specs.declared.level.Leaf.{Leaf}
use Rattle.tlb.specs.Tlb.{invalidated_of, reshaped_of, retagged_of, page_dropped, place_of, blanks, no_hints, get_of, put_of, flush_of, drop_page_of}
use Rattle.tlb.specs.Tlb.{invalidate_of, no_tallies}
use Rattle.tlb.specs.Live.{Each}
use Rattle.tlb.specs.Access.{judged}
use Rattle.tlb.specs.Translate.{walked_in, miss_in, needs_walk}
use Rattle.tlb.specs.Asks.{translates}
use Rattle.tlb.specs.declared.access.Kind.TheVariants.{Read}
use Rattle.tlb.specs.declared.Inval.TheVariants.{Page}
use Rattle.cpu.specs.Bare.{fresh_bare}
use Rattle.cpu.specs.Core.{zeros, fresh_core, reg_of, set_reg, after_access}
use Rattle.cpu.specs.Memory.{translate_in, translate_fetch_in, located_of, stepped_now, translate_of, fetch_stepped_now, fetch_pa_of, located_now}
use Rattle.cpu.specs.Memory.{read_of, write_of, ram_after_write}
use Rattle.system.specs.Decode.{named, decode_of}
use Rattle.system.specs.Tlbi.{scope_of, what_of, tlbi_of}
use Rattle.cpu.specs.System.{refit_of, with_regs, applied_of, after_register_write, set_level, set_mark, tlbi_core, sys_of, with_par, at_of, zero_of}
use Rattle.cpu.specs.Check.{missed_of, translation}
use Rattle.cpu.specs.Step.{run_of, step_of}
use Rattle.cpu.specs.declared.call.Reply.TheVariants.{Value}
use Rattle.history.specs.World.{LeavesEqual, covers, page_walk}
use Rattle.history.proofs.Lists.{each-head}
use Rattle.history.specs.History.{carries, writes, Event, steps}
use Rattle.history.specs.StepByStep.{HoldsFrom}
use Rattle.history.proofs.StepByStep.{steps-settled}
use Rattle.history.proofs.EveryCall.{shown-shown}
use Rattle.history.specs.Instance.{Ram, real}
use Rattle.transparency.specs.Events.{plain_in, does, asking, idle, setting}
use Rattle.transparency.specs.Machine.{machine}
use Rattle.transparency.specs.Faithful.{fed_by}
use Rattle.transparency.specs.Claim.{SettledFor}
use Rattle.transparency.proofs.Direct.{translate-after}
use Rattle.transparency.proofs.Claim.{settled-in-theory, settled-in-claim}
use Rattle.transparency.proofs.Steps.{Apart}
use Rattle.transparency.specs.Worked.{none, old, new, start, tidied, steps_of}
use Rattle.transparency.specs.Worked as Statement
use Rattle.cpu.specs.Bytes.{store_end, store_ram_end, verdict_of, store_ram}
use Rattle.cpu.specs.Work.{translate_work, access_work, zero_work, at_work, sys_work, run_work, step_work}

abbrev block : ℕ → ℕ → Leaf
block oa desc = record { oa = oa; desc = desc; perms = 0x3C; level = 1; global = true }

-- THE PREMISE, on the list's steps

-- the registers after each write
abbrev pub first : Control
first = control_with fresh_control (Tcr El1) 0x80000019

abbrev pub second : Control
second = control_with first (Ttbr0 El1) 0x1000

abbrev pub registers : Control
registers = control_with second (Sctlr El1) 1

abbrev pub reads : Ram → Event real
reads m = steps m (asking (translates Read 0x40001234 ∷ []))

abbrev events : List (Event real)
events =
    steps none (does (writes first))
    ∷ steps none (does (writes second))
    ∷ steps none (does (writes registers))
    ∷ steps none (setting (record { level = 1; unprivileged = false }))
    ∷ reads old
    ∷ steps new idle
    ∷ steps new (does (carries (Page 0x7FFFF) false))
    ∷ reads new
    ∷ []

-- the page's walks
pub walks :
    (page_walk real registers none El1 0x40001 ≡ Err 5)
    × (page_walk real registers old El1 0x40001 ≡ Ok (block 0x80001000 0x80000401))
    × (page_walk real registers new El1 0x40001 ≡ Ok (block 0xC0001000 0xC0000401))
unfolding fresh_control control_with walk_of table_walk walk_range walk_from lookup_next level_next leaf_result leaf_translation leaf_permissions table_next descaddr
    range_of params_of pa_size word_at little_endian bytes_of
walks = (refl, refl, refl)

mapped-inj : {x y : Leaf} → ◌≡◌ {A = Walked} (Ok x) (Ok y) → x ≡ y
mapped-inj e = cc

pub unmapped : {code : ℕ} {ℓ : Leaf} → Err code ≡ Ok ℓ → ⊥
unmapped e = let z : ◌≡◌ {A = ℕ} 0 1 = cc in omega arith

-- the old walk is covered, though the Page is of another 4 KiB page
pub covered : (ℓ : Leaf) (a : ℕ) → page_walk real registers old El1 0x40001 ≡ Ok ℓ → Each (λ v. covers v 0x40001 ℓ a ≡ false) (Page 0x7FFFF ∷ []) → ⊥
unfolding covers
covered ℓ a e us =
    true≢false (each-head (subst (λ (x : Leaf). Each (λ v. covers v 0x40001 x a ≡ false) (Page 0x7FFFF ∷ [])) (sym (mapped-inj (sym walks.1 ∙ e))) us))

-- the new one equals the walk now
pub unchanged : (ℓ : Leaf) → page_walk real registers new El1 0x40001 ≡ Ok ℓ
    → (ℓ' : Leaf) × (page_walk real registers new El1 0x40001 ≡ Ok ℓ') × LeavesEqual ℓ ℓ'
unchanged ℓ e = (ℓ, e, record { pages = refl; perms = refl; levels = refl })

step-by-step : HoldsFrom real registers new El1 0x40001 (plain_in fresh_bare) events
unfolding fresh_control control_with
step-by-step = (
  λ ℓ on e d us. absurd (false≢true on),
  (
    λ ℓ on e d us. absurd (false≢true on),
    (
      λ ℓ on e d us. absurd (false≢true on),
      (
        λ ℓ on e d us. absurd (unmapped (sym walks.0 ∙ e)),
        (
          λ ℓ on e d us. absurd (covered ℓ _ e us),
          (
            λ ℓ on e d us. unchanged ℓ e,
            (
              λ ℓ on e d us. unchanged ℓ e,
              (λ ℓ on e d us. unchanged ℓ e, tt),
            ),
          ),
        ),
      ),
    ),
  ),
)

-- WITH THE TLBI the page is settled, and the cache answers from a hint, as the core without a cache does.

pub tidied-settled : Statement.tidied_settled
unfolding bytes_of set_reg fresh_core zeros fresh_control fresh_sys banked_at register_at control_with sys_with write_reg missed_of named decode_of scope_of what_of tlbi_of
    untagged
tidied-settled = steps-settled real (plain_in fresh_bare) events new El1 0x40001 step-by-step

pub by-cache : Statement.by_cache
unfolding step_of run_of translate_of stepped_now translate_in after_access reg_of set_reg after_register_write applied_of with_regs refit_of retagged_of reshaped_of set_level
    sys_of tlbi_core invalidated_of same_shape asid_of asid_base fresh_core zeros fresh_control fresh_sys banked_at register_at
    control_with sys_with write_reg missed_of named decode_of scope_of what_of tlbi_of flush_of invalidate_of drop_page_of page_dropped get_of put_of
    miss_in walked_in judged walk_of table_walk walk_range walk_from lookup_next level_next leaf_result leaf_translation leaf_permissions table_next
    descaddr range_of params_of pa_size untagged word_at little_endian bytes_of place_of blanks no_hints
by-cache = (refl, refl, refl)

-- WITHOUT IT the cache answers by the old table, so the page is not settled.

pub start-stale : Statement.start_stale
unfolding step_of run_of translate_of stepped_now translate_in after_access reg_of set_reg after_register_write applied_of with_regs refit_of retagged_of reshaped_of set_level
    same_shape asid_of asid_base fresh_core zeros fresh_control fresh_sys banked_at register_at control_with sys_with write_reg missed_of
    flush_of get_of put_of miss_in walked_in judged walk_of table_walk walk_range walk_from lookup_next level_next leaf_result
    leaf_translation leaf_permissions table_next descaddr range_of params_of pa_size untagged word_at little_endian bytes_of place_of blanks no_hints
start-stale = (refl, refl, refl)

pub start-unsettled : Statement.start_unsettled
start-unsettled st =
    let e : Value 0x80001234 ≡ Value 0xC0001234 =
    sym start-stale.0
    ∙ translate-after (fed_by start) (shown-shown real machine fresh_core start) new Read 0x40001234 start-stale.2 st
    ∙ ap (translation 0x40001234) start-stale.1 in
    let z : ◌≡◌ {A = ℕ} 0x80001234 0xC0001234 = same e in
    omega arith
  where
    same : {x y : ℕ} → Value x ≡ Value y → x ≡ y
    same e = cc

-- IN THE CLAIM'S OWN WORDS

start-apart : Apart fresh_bare (steps_of start)
unfolding zeros fresh_control fresh_sys banked_at register_at control_with sys_with write_reg missed_of
start-apart = (refl, (refl, (refl, (refl, (refl, tt)))))

tidied-apart : Apart fresh_bare (steps_of tidied)
unfolding zeros fresh_control fresh_sys banked_at register_at control_with sys_with write_reg missed_of named decode_of bytes_of
tidied-apart = (refl, (refl, (refl, (refl, (refl, (refl, (refl, (refl, tt))))))))

claim-settled : SettledFor (steps_of tidied) new 0x40001234
unfolding bytes_of set_reg fresh_core zeros fresh_control fresh_sys banked_at register_at control_with sys_with write_reg missed_of named decode_of scope_of what_of tlbi_of
    untagged
claim-settled =
    settled-in-claim (steps_of tidied) tidied-apart new El1 0x40001 (steps-settled real (plain_in fresh_bare) events new El1 0x40001 step-by-step)

pub claim-met : Statement.claim_met
unfolding step_of run_of translate_of stepped_now translate_in after_access reg_of set_reg after_register_write applied_of with_regs refit_of retagged_of reshaped_of set_level
    sys_of tlbi_core invalidated_of same_shape asid_of asid_base fresh_core zeros fresh_control fresh_sys banked_at register_at
    control_with sys_with write_reg missed_of named decode_of scope_of what_of tlbi_of flush_of invalidate_of drop_page_of page_dropped get_of put_of
    miss_in walked_in judged walk_of table_walk walk_range walk_from lookup_next level_next leaf_result leaf_translation leaf_permissions table_next
    descaddr range_of params_of pa_size untagged word_at little_endian bytes_of place_of blanks no_hints
claim-met = (claim-settled, refl, refl)

pub claim-unmet : Statement.claim_unmet
unfolding bytes_of set_reg fresh_core zeros fresh_control fresh_sys banked_at register_at control_with sys_with write_reg missed_of untagged
claim-unmet h = start-unsettled (settled-in-theory (steps_of start) start-apart new El1 0x40001 h)

pub counted-by-level : Statement.counted_by_level
unfolding step_of run_of translate_of stepped_now fetch_pa_of fetch_stepped_now translate_fetch_in translate_in after_access
    after_register_write applied_of with_regs refit_of retagged_of reshaped_of set_level set_mark
    same_shape asid_of asid_base fresh_core fresh_control fresh_sys banked_at register_at control_with sys_with write_reg missed_of
    flush_of get_of put_of miss_in walked_in judged walk_of table_walk walk_range walk_from lookup_next level_next leaf_result
    leaf_translation leaf_permissions table_next descaddr range_of params_of pa_size untagged word_at little_endian bytes_of place_of blanks no_hints no_tallies
counted-by-level = refl

pub worked-reads : Statement.worked_reads
unfolding step_of run_of step_work run_work translate_of translate_work stepped_now translate_in access_work located_now located_of read_of after_access at_of
    at_work with_par sys_of sys_work zero_of zero_work write_of ram_after_write store_end store_ram_end verdict_of store_ram stored tlbi_core
    invalidated_of after_register_write applied_of with_regs refit_of retagged_of reshaped_of set_level set_mark same_shape asid_of asid_base
    fresh_core zeros reg_of fresh_control fresh_sys banked_at register_at control_with sys_with write_reg missed_of named decode_of scope_of what_of
    tlbi_of flush_of invalidate_of get_of put_of miss_in needs_walk walked_in judged walk_of table_walk walk_range walk_from fresh_reads fetches_of
    fetches_range fetches_from lookup_next level_next leaf_result leaf_translation leaf_permissions table_next descaddr range_of params_of pa_size
    untagged word_at little_endian bytes_of place_of blanks no_hints no_tallies
worked-reads = refl
