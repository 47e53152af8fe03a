use Rattle.std.proofs.Common.{option_map, subst}
use Rattle.std.proofs.lemmas.Result.{err_from_is_err_and}
use Rattle.std.specs.String.{string_bytes}
use Rattle.ir_explore.specs.declared.fault.ExploreFault.TheVariants.{Write}
use Rattle.ir_files.proofs.CallerLemmas.{if_err_handed_on}
use Rattle.ir_stream.specs.Answers.{AppendsPrefix}
use Rattle.ir_within.specs.Plans.{comparison_of}
use Rattle.ir_within.specs.declared.fault.WithinFault.TheVariants.{Unwritten}
use Rattle.ir_within.proofs.First.{answer_for_listed}
use Rattle.ir_within.proofs.run.tell_within.Goals as goal

pub returns-in_err-write_all-clause-none : goal.returns-in_err-write_all-clause-none
returns-in_err-write_all-clause-none g c =
    let p = err_from_is_err_and c.from_residual.result c.from_residual.ensures.1 in
    let told = c.in-Ok.told in
    if_err_handed_on _ c.from_residual.result (Unwritten Write) p.0 p.1 p.2 (
      told.verdict,
      told.text.items,
      answer_for_listed (comparison_of c.args.plan.now) (option_map string_bytes told.list) told.verdict told.text.items c.in-Ok.ensures.told,
      (
        subst (AppendsPrefix (g.O.Sink.written c.args.out.now) (g.O.Sink.written c.write_all.new.writer)) c.as_slice.ensures.value c.in_err-write_all.ensures.prefix,
        c.in_err-write_all.ensures.err,
      ),
    )
