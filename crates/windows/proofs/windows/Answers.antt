use Rattle.std.proofs.Common.{◌∙◌, arith}
use Rattle.std.proofs.lemmas.Result.{err_from_is_err_and}
use Rattle.windows.proofs.Whole.{check-missed, check-passed, list-wrong, page-faults, pages-clear}
use Rattle.windows.proofs.windows.Goals as goal

pub returns-in_err-with_ram : goal.returns-in_err-with_ram
returns-in_err-with_ram c =
    let p = err_from_is_err_and c.from_residual.result c.from_residual.ensures.1 in
    rw (p.1, p.2)
    (check-missed c.args.core.now.control c.args.core.now.privilege.level c.args.base c.args.ram.now c.args.list.now c.with_ram.result
    c.in_err-with_ram.field-0.0 c.with_ram.ensures c.in_err-with_ram.was)

pub returns-in_err-list : goal.returns-in_err-list
returns-in_err-list c =
    let p = err_from_is_err_and c.from_residual-in_err-list.result c.from_residual-in_err-list.ensures.1 in
    rw (p.1, p.2)
    (list-wrong c.args.core.now.control c.args.core.now.privilege.level c.args.base c.args.ram.now c.args.list.now c.in_err-list.field-0.0
    c.in_err-list.ensures.wrong
    ∙ check-passed c.args.core.now.control c.args.core.now.privilege.level c.args.base c.args.ram.now c.args.list.now c.with_ram.result
    c.in_ok-with_ram.field-0 c.with_ram.ensures c.in_ok-with_ram.was)

pub returns-in_err-pages : goal.returns-in_err-pages
returns-in_err-pages c =
    let p = err_from_is_err_and c.from_residual-in_err-pages.result c.from_residual-in_err-pages.ensures.1 in
    rw (p.1, p.2)
    (page-faults c.args.core.now.control c.args.core.now.privilege.level c.args.base c.args.ram.now c.args.list.now c.in_ok-list.list
    c.in_ok-list.ensures.right c.in_err-pages.field-0.0 c.in_err-pages.ensures.fault
    ∙ check-passed c.args.core.now.control c.args.core.now.privilege.level c.args.base c.args.ram.now c.args.list.now c.with_ram.result
    c.in_ok-with_ram.field-0 c.with_ram.ensures c.in_ok-with_ram.was)

pub returns : goal.returns
returns c =
    pages-clear c.args.core.now.control c.args.core.now.privilege.level c.args.base c.args.ram.now c.args.list.now c.in_ok-list.list
    c.in_ok-list.ensures.right c.in_ok-pages.pages c.first_pair.result (omega arith) c.in_ok-pages.ensures.none c.in_ok-pages.ensures.pages
    c.first_pair.ensures
    ∙ check-passed c.args.core.now.control c.args.core.now.privilege.level c.args.base c.args.ram.now c.args.list.now c.with_ram.result
    c.in_ok-with_ram.field-0 c.with_ram.ensures c.in_ok-with_ram.was
