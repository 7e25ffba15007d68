-- A worked list on two cores.
use Rattle.std.specs.Prelude.{◌≡◌, refl, false, List, [], ◌∷◌, ℕ, Ok}
use Rattle.std.proofs.Common.{sym, ◌∙◌, arith}
use Rattle.std.proofs.lemmas.Bool.{false≢true}
use Rattle.word.specs.Ram.{word_at, little_endian, bytes_of, stored}
use Rattle.sysreg.specs.Regs.{fresh_control, fresh_sys}
use Rattle.sysreg.specs.Encoding.{banked_at, register_at}
use Rattle.sysreg.specs.Write.{control_with, sys_with, write_reg}
use Rattle.sysreg.specs.Shape.{same_shape, asid_base, asid_of}
use Rattle.sysreg.specs.declared.regs.Regime.TheVariants.{El1}
use Rattle.walk.specs.Regime.{untagged, pa_size}
use Rattle.walk.specs.Table.{range_of, params_of, table_next, leaf_permissions, leaf_translation, leaf_result, level_next, descaddr, lookup_next}
use Rattle.walk.specs.Table.{walk_from, walk_range, table_walk}
use Rattle.walk.specs.Walk.{walk_of}
use Rattle.tlb.specs.Tlb.{invalidated_of, reshaped_of, retagged_of, page_dropped, place_of, blanks, no_hints, get_of, put_of, flush_of, drop_page_of}
use Rattle.tlb.specs.Tlb.{invalidate_of, broadcast_of}
use Rattle.tlb.specs.Access.{judged}
use Rattle.tlb.specs.Answers.{Answer}
use Rattle.tlb.specs.Asks.{translates}
use Rattle.tlb.specs.Translate.{walked_in, miss_in}
use Rattle.tlb.specs.declared.access.Kind.TheVariants.{Read}
use Rattle.tlb.specs.declared.Inval.TheVariants.{Page}
use Rattle.system.specs.Decode.{named, decode_of}
use Rattle.system.specs.Tlbi.{scope_of, what_of, tlbi_of}
use Rattle.cpu.specs.Bare.{fresh_bare}
use Rattle.cpu.specs.Core.{zeros, fresh_core, reg_of, set_reg, after_access}
use Rattle.cpu.specs.Check.{missed_of}
use Rattle.cpu.specs.System.{refit_of, with_regs, applied_of, after_register_write, set_level, tlbi_core, sys_of, sys_ram}
use Rattle.cpu.specs.Bytes.{store_ram, store_end, store_ram_end, verdict_of}
use Rattle.cpu.specs.Memory.{stepped_now, translate_of, located_now, write_of, ram_after_write, translate_in, located_of}
use Rattle.cpu.specs.Step.{run_of, ram_of, step_of, ram_after}
use Rattle.history.specs.History.{writes, Event, steps, receives, Settled}
use Rattle.history.specs.Instance.{real}
use Rattle.history.specs.StepByStep.{HoldsFrom}
use Rattle.history.proofs.Instance.{real-laws, fresh-asid}
use Rattle.history.proofs.Lists.{each-head}
use Rattle.history.proofs.StepByStep.{steps-settled}
use Rattle.history.proofs.Theorem.{every_history_faithful}
use Rattle.transparency.specs.Events.{plain_in, does, asking, setting}
use Rattle.transparency.specs.Worked.{none, old, new}
use Rattle.transparency.proofs.Worked.{first, second, registers, reads, walks, unmapped, covered, unchanged}
use Rattle.cluster.specs.Worked as Statement

-- core 1's history as core 0 begins
abbrev begun : List (Event real) → List (Event real)
begun l =
    steps none (does (writes first))
    ∷ steps none (does (writes second))
    ∷ steps none (does (writes registers))
    ∷ steps none (setting (record { level = 1; unprivileged = false }))
    ∷ reads old
    ∷ l

-- the old walk is covered by what core 0 shares, and the new one equals the walk now
told-holds : HoldsFrom real registers new El1 0x40001 (plain_in fresh_bare) (begun (receives (Page 0x7FFFF) ∷ []))
unfolding fresh_control control_with
told-holds = (
  λ ℓ on e d us. absurd (false≢true on),
  (
    λ ℓ on e d us. absurd (false≢true on),
    (
      λ ℓ on e d us. absurd (false≢true on),
      (λ ℓ on e d us. absurd (unmapped (sym walks.0 ∙ e)), (λ ℓ on e d us. absurd (covered ℓ _ e us), tt)),
    ),
  ),
)

again-holds : HoldsFrom real registers new El1 0x40001 (plain_in fresh_bare) (begun (receives (Page 0x7FFFF) ∷ reads new ∷ []))
unfolding fresh_control control_with
again-holds = (
  λ ℓ on e d us. absurd (false≢true on),
  (
    λ ℓ on e d us. absurd (false≢true on),
    (
      λ ℓ on e d us. absurd (false≢true on),
      (
        λ ℓ on e d us. absurd (unmapped (sym walks.0 ∙ e)),
        (λ ℓ on e d us. absurd (covered ℓ _ e us), (λ ℓ on e d us. unchanged ℓ e, tt)),
      ),
    ),
  ),
)

pub told-settled : Statement.told_settled
unfolding bytes_of set_reg fresh_core zeros fresh_control fresh_sys banked_at register_at control_with sys_with write_reg missed_of named decode_of scope_of what_of tlbi_of
    untagged
told-settled = steps-settled real (plain_in fresh_bare) (begun (receives (Page 0x7FFFF) ∷ [])) new El1 0x40001 told-holds

pub again-settled : Statement.again_settled
unfolding bytes_of set_reg fresh_core zeros fresh_control fresh_sys banked_at register_at control_with sys_with write_reg missed_of named decode_of scope_of what_of tlbi_of
    untagged
again-settled = steps-settled real (plain_in fresh_bare) (begun (receives (Page 0x7FFFF) ∷ reads new ∷ [])) new El1 0x40001 again-holds

pub told-right : Statement.told_right
unfolding step_of run_of translate_of stepped_now translate_in after_access reg_of set_reg after_register_write applied_of with_regs refit_of retagged_of reshaped_of set_level
    sys_of tlbi_core invalidated_of same_shape asid_of asid_base fresh_core zeros fresh_control fresh_sys banked_at register_at
    control_with sys_with write_reg missed_of named decode_of scope_of what_of tlbi_of flush_of invalidate_of broadcast_of drop_page_of page_dropped get_of put_of
    miss_in walked_in judged walk_of table_walk walk_range walk_from lookup_next level_next leaf_result leaf_translation leaf_permissions table_next
    descaddr range_of params_of pa_size untagged word_at little_endian bytes_of place_of blanks no_hints
told-right = (refl, refl)

pub again-by-cache : Statement.again_by_cache
unfolding step_of run_of translate_of stepped_now translate_in after_access reg_of set_reg after_register_write applied_of with_regs refit_of retagged_of reshaped_of set_level
    sys_of tlbi_core invalidated_of same_shape asid_of asid_base fresh_core zeros fresh_control fresh_sys banked_at register_at
    control_with sys_with write_reg missed_of named decode_of scope_of what_of tlbi_of flush_of invalidate_of broadcast_of drop_page_of page_dropped get_of put_of
    miss_in walked_in judged walk_of table_walk walk_range walk_from lookup_next level_next leaf_result leaf_translation leaf_permissions table_next
    descaddr range_of params_of pa_size untagged word_at little_endian bytes_of place_of blanks no_hints
again-by-cache = (refl, refl)

pub untold-stale : Statement.untold_stale
unfolding step_of run_of translate_of stepped_now translate_in after_access reg_of set_reg after_register_write applied_of with_regs refit_of retagged_of reshaped_of set_level
    sys_of tlbi_core invalidated_of same_shape asid_of asid_base fresh_core zeros fresh_control fresh_sys banked_at register_at
    control_with sys_with write_reg missed_of named decode_of scope_of what_of tlbi_of flush_of invalidate_of broadcast_of drop_page_of page_dropped get_of put_of
    miss_in walked_in judged walk_of table_walk walk_range walk_from lookup_next level_next leaf_result leaf_translation leaf_permissions table_next
    descaddr range_of params_of pa_size untagged word_at little_endian bytes_of place_of blanks no_hints
untold-stale = (refl, refl)

-- core 1's history then: a page that it settled would be answered by the new table
settled-right : Settled real (plain_in fresh_bare) (begun []) new El1 0x40001 → ⊥
unfolding step_of run_of translate_of stepped_now translate_in after_access reg_of set_reg after_register_write applied_of with_regs refit_of retagged_of reshaped_of set_level
    same_shape asid_of asid_base fresh_core zeros fresh_control fresh_sys banked_at register_at control_with sys_with write_reg missed_of
    flush_of get_of put_of miss_in walked_in judged walk_of table_walk walk_range walk_from lookup_next level_next leaf_result
    leaf_translation leaf_permissions table_next descaddr range_of params_of pa_size untagged word_at little_endian bytes_of place_of blanks no_hints
settled-right st =
    let e : ◌≡◌ {A = Answer} (Ok 0x80001234) (Ok 0xC0001234) =
    each-head
    (every_history_faithful real real-laws (plain_in fresh_bare) fresh-asid (omega arith) (begun []) new (asking (translates Read 0x40001234 ∷ [])))
    st in
    let z : ◌≡◌ {A = ℕ} 0x80001234 0xC0001234 = same e in
    omega arith
  where
    same : {x y : ℕ} → ◌≡◌ {A = Answer} (Ok x) (Ok y) → x ≡ y
    same e = cc

pub untold-unsettled : Statement.untold_unsettled
unfolding bytes_of set_reg fresh_core zeros fresh_control fresh_sys banked_at register_at control_with sys_with write_reg missed_of named decode_of scope_of what_of tlbi_of
    untagged
untold-unsettled st = settled-right st

pub stored-told : Statement.stored_told
unfolding step_of run_of ram_after ram_of translate_of stepped_now translate_in after_access reg_of set_reg after_register_write applied_of with_regs refit_of retagged_of
    reshaped_of set_level located_now located_of write_of ram_after_write store_end store_ram_end verdict_of store_ram stored
    sys_of sys_ram tlbi_core invalidated_of same_shape asid_of asid_base fresh_core zeros fresh_control fresh_sys banked_at register_at
    control_with sys_with write_reg missed_of named decode_of scope_of what_of tlbi_of flush_of invalidate_of broadcast_of drop_page_of page_dropped get_of put_of
    miss_in walked_in judged walk_of table_walk walk_range walk_from lookup_next level_next leaf_result leaf_translation leaf_permissions table_next
    descaddr range_of params_of pa_size untagged word_at little_endian bytes_of place_of blanks no_hints
stored-told = (refl, refl, refl, refl)
