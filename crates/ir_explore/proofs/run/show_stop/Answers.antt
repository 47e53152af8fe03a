use Rattle.std.proofs.Common.{List, ℕ, refl, subst, inr}
use Rattle.std.proofs.lemmas.Result.{err_from_is_err_and}
use Rattle.ir_files.proofs.CallerLemmas.{if_err_handed_on}
use Rattle.ir_files.specs.Writers.{writer_of}
use Rattle.ir_image.specs.Guest.{Guest}
use Rattle.ir_stream.specs.Answers.{AppendsPrefix}
use Rattle.ir_explore.specs.Faults.{StopsPrinting}
use Rattle.ir_explore.specs.Texts.{IsStopReason}
use Rattle.ir_explore.specs.declared.fault.ExploreFault.TheVariants.{NoMem, Write}
use Rattle.ir_explore.specs.Plan.{ExplorePlan}
use Rattle.ir_explore.proofs.Printed.{no_memory_stops_first, failed_writer_stops}
use Rattle.ir_explore.proofs.run.show_stop.Goals as goal

pub returns-in_err-text-clause-fails : goal.returns-in_err-text-clause-fails
returns-in_err-text-clause-fails g c =
    let p = err_from_is_err_and c.from_residual.result c.from_residual.ensures.1 in
    let out = g.O.Sink.written c.args.out.now in
    let w = writer_of out out (g.O.Sink.broken c.args.out.now) in
    if_err_handed_on (λ e. (guest : Guest) (plan : ExplorePlan) → IsStopReason guest plan c.args.why → StopsPrinting e guest plan w)
    c.from_residual.result NoMem p.0 p.1 p.2 (λ guest plan reason. no_memory_stops_first guest plan w refl)

pub returns-in_err-write_all-clause-fails : goal.returns-in_err-write_all-clause-fails
returns-in_err-write_all-clause-fails g c =
    let p = err_from_is_err_and c.from_residual-in_err-write_all.result c.from_residual-in_err-write_all.ensures.1 in
    let old = g.O.Sink.written c.args.out.now in
    let new = g.O.Sink.written c.write_all.new.writer in
    let w = writer_of old new (g.O.Sink.broken c.write_all.new.writer) in
    if_err_handed_on (λ e. (guest : Guest) (plan : ExplorePlan) → IsStopReason guest plan c.args.why → StopsPrinting e guest plan w)
    c.from_residual-in_err-write_all.result Write p.0 p.1 p.2
    (λ guest plan reason. failed_writer_stops guest plan c.in_ok-text.answered c.in_ok-text.text.items w (inr (c.in_ok-text.ensures guest plan reason))
    (subst (λ (z : List ℕ). AppendsPrefix old new z) c.as_slice.ensures.value c.in_err-write_all.ensures.prefix, c.in_err-write_all.ensures.err))
