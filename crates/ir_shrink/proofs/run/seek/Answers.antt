use Rattle.std.proofs.Common.{sym, ◌∙◌, subst}
use Rattle.std.specs.String.{string_bytes}
use Rattle.std.proofs.lemmas.Result.{err_from_is_err_and}
use Rattle.ir_files.proofs.CallerLemmas.{if_err_handed_on}
use Rattle.ir_record_command.specs.declared.record_fault.RecordFault.TheVariants.{NoMem}
use Rattle.ir_shrink.specs.Stopping.{RefusesShrink}
use Rattle.ir_shrink.specs.declared.refusal.Refusal.TheVariants.{Fault}
use Rattle.ir_order.specs.Spelling.{IsListOf}
use Rattle.ir_record.specs.Recording.{turns_of_items}
use Rattle.ir_shrink.proofs.Ends.{found_is_shrunk, guest_refuses_shrink, memory_refuses_shrink, run_refuses_shrink}
use Rattle.ir_shrink.proofs.run.seek.Goals as goal

pub returns-clause-found : goal.returns-clause-found
returns-clause-found g c =
    let given = c.in_ok-given.given in
    let shrunken = c.in_ok-shrunken.shrunken in
    found_is_shrunk c.args.image.now c.in_ok-guest.guest.now c.args.plan.now c.args.trace.now given.items.items shrunken.kept.items.items given.switches
    shrunken.kept.switches (string_bytes c.in_ok-list.list) shrunken.is_minimal c.in_ok-guest.ensures.exact c.in_ok-given.ensures.order
    c.in_ok-shrunken.ensures.kept c.in_ok-shrunken.ensures.fewer c.in_ok-shrunken.ensures.minimal
    (λ e. let o = c.in_ok-shrunken.ensures.over e in (o.0, sym c.new-pace.ensures ∙ o.1))
    (subst (λ xs. IsListOf (string_bytes c.in_ok-list.list) (turns_of_items xs)) c.as_slice.ensures.value c.in_ok-list.ensures)

pub returns-in_err-guest-clause-refused : goal.returns-in_err-guest-clause-refused
returns-in_err-guest-clause-refused g c =
    let p = err_from_is_err_and c.from_residual.result c.from_residual.ensures.1 in
    if_err_handed_on (λ e. RefusesShrink e c.args.image.now c.args.plan.now c.args.trace.now) c.from_residual.result (Fault c.in_err-guest.field-0.0) p.0 p.1 p.2
    (guest_refuses_shrink c.in_err-guest.field-0.0 c.args.image.now c.args.plan.now c.args.trace.now c.in_err-guest.ensures.refused c.in_err-guest.ensures.only)

pub returns-in_err-given-clause-refused : goal.returns-in_err-given-clause-refused
returns-in_err-given-clause-refused g c =
    let p = err_from_is_err_and c.from_residual-in_err-given.result c.from_residual-in_err-given.ensures.1 in
    if_err_handed_on (λ e. RefusesShrink e c.args.image.now c.args.plan.now c.args.trace.now) c.from_residual-in_err-given.result c.in_err-given.field-0.0 p.0 p.1 p.2
    (run_refuses_shrink c.in_err-given.field-0.0 c.args.image.now c.in_ok-guest.guest.now c.args.plan.now c.args.trace.now c.in_ok-guest.ensures.exact
    c.in_err-given.ensures.refused c.in_err-given.ensures.memory)

pub returns-in_err-shrunken-clause-refused : goal.returns-in_err-shrunken-clause-refused
returns-in_err-shrunken-clause-refused g c =
    let p = err_from_is_err_and c.from_residual-in_err-shrunken.result c.from_residual-in_err-shrunken.ensures.1 in
    if_err_handed_on (λ e. RefusesShrink e c.args.image.now c.args.plan.now c.args.trace.now) c.from_residual-in_err-shrunken.result (Fault NoMem) p.0 p.1 p.2
    (memory_refuses_shrink c.args.image.now c.args.plan.now c.args.trace.now)

pub returns-in_err-list-clause-refused : goal.returns-in_err-list-clause-refused
returns-in_err-list-clause-refused g c =
    let p = err_from_is_err_and c.from_residual-in_err-list.result c.from_residual-in_err-list.ensures.1 in
    if_err_handed_on (λ e. RefusesShrink e c.args.image.now c.args.plan.now c.args.trace.now) c.from_residual-in_err-list.result (Fault NoMem) p.0 p.1 p.2
    (memory_refuses_shrink c.args.image.now c.args.plan.now c.args.trace.now)

pub returns-in_err-lines-clause-refused : goal.returns-in_err-lines-clause-refused
returns-in_err-lines-clause-refused g c =
    let p = err_from_is_err_and c.from_residual-in_err-lines.result c.from_residual-in_err-lines.ensures.1 in
    if_err_handed_on (λ e. RefusesShrink e c.args.image.now c.args.plan.now c.args.trace.now) c.from_residual-in_err-lines.result (Fault NoMem) p.0 p.1 p.2
    (memory_refuses_shrink c.args.image.now c.args.plan.now c.args.trace.now)
