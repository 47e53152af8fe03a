use Rattle.std.proofs.Common.{◌∙◌, ap, refl}
use Rattle.std.proofs.lemmas.Result.{IfErr-weaker, IfOk-weaker}
use Rattle.ir_files.specs.Writers.{writer_of}
use Rattle.ir_record_command.specs.Stopping.{devices, lines_between, telling, tellings}
use Rattle.ir_commands.proofs.CallerLemmas.{quiet_goes_on}
use Rattle.ir_commands.proofs.Searched.{hang_is_found, hang_tells_none, outcome_is_found, search_tells_none, until_missed}
use Rattle.ir_commands.proofs.until.UntilRunSought.recorded.Goals as goal

pub returns-then-self-clause-found : goal.returns-then-self-clause-found
returns-then-self-clause-found g c =
    let plan = c.args.self.now.plan.now in
    let same = c.within.ensures ∙ ap (λ n. record plan.explore { switches = n }) c.most.ensures in
    IfOk-weaker c.explore_hang.result _ _ (λ recorded done. record {
      printed = done.2;
      text = done.1;
      found = hang_is_found plan.conditions.now done.0 done.1 done.2 c.if-self.true same done.3;
      kept = (done.4, done.5);
      lines = done.6;
    }) c.explore_hang.ensures.found

pub returns-then-self-clause-none : goal.returns-then-self-clause-none
returns-then-self-clause-none g c =
    let plan = c.args.self.now.plan.now in
    let same = c.within.ensures ∙ ap (λ n. record plan.explore { switches = n }) c.most.ensures in
    let old = devices c.args.files.now.trace c.args.files.now.outputs c.args.out.now in
    let new = devices c.explore_hang.new.files.trace c.explore_hang.new.files.outputs c.explore_hang.new.out in
    let reports = writer_of (g.E.Sink.written c.args.faults.now) (g.E.Sink.written c.explore_hang.new.faults) (g.E.Sink.broken c.explore_hang.new.faults) in
    let devices = tellings (telling g.W.Sink.written g.W.Sink.broken g.W.WholeSink.called g.W.WholeSink.cause)
    (telling g.P.OutputSink.taken g.P.OutputSink.broken g.P.OutputSink.called g.P.OutputSink.cause) g.O.Sink.written g.O.Sink.broken in
    IfErr-weaker c.explore_hang.result _ _ (λ answered h. until_missed plan.conditions.now answered (lines_between devices old new) reports c.if-self.true same
    (hang_tells_none devices answered plan.image.now c.within.result plan.conditions.now old new reports h)) c.explore_hang.ensures.stopped

pub returns-else-self-clause-found : goal.returns-else-self-clause-found
returns-else-self-clause-found g c = IfOk-weaker c.explore_until.result _ _ (λ recorded done. record {
  printed = done.2;
  text = done.0;
  found = outcome_is_found c.args.self.now.plan.now.conditions.now done.1 done.0 done.2 c.if-self.false done.3;
  kept = (done.4, done.5);
  lines = done.6;
}) c.explore_until.ensures.found

pub returns-else-self-clause-none : goal.returns-else-self-clause-none
returns-else-self-clause-none g c =
    let plan = c.args.self.now.plan.now in
    let old = devices c.args.files.now.trace c.args.files.now.outputs c.args.out.now in
    let new = devices c.explore_until.new.files.trace c.explore_until.new.files.outputs c.explore_until.new.out in
    let reports = writer_of (g.E.Sink.written c.args.faults.now) (g.E.Sink.written c.explore_until.new.faults) (g.E.Sink.broken c.explore_until.new.faults) in
    let devices = tellings (telling g.W.Sink.written g.W.Sink.broken g.W.WholeSink.called g.W.WholeSink.cause)
    (telling g.P.OutputSink.taken g.P.OutputSink.broken g.P.OutputSink.called g.P.OutputSink.cause) g.O.Sink.written g.O.Sink.broken in
    IfErr-weaker c.explore_until.result _ _ (λ answered h. until_missed plan.conditions.now answered (lines_between devices old new) reports c.if-self.false refl
    (search_tells_none devices answered plan.image.now plan.explore plan.conditions.now old new reports h)) c.explore_until.ensures.stopped

pub returns-then-self-clause-grows : goal.returns-then-self-clause-grows
returns-then-self-clause-grows g c =
    quiet_goes_on g.E.Sink.written c.explore_hang.result c.args.faults.now c.explore_hang.new.faults c.explore_hang.ensures.quiet

pub returns-else-self-clause-grows : goal.returns-else-self-clause-grows
returns-else-self-clause-grows g c =
    quiet_goes_on g.E.Sink.written c.explore_until.result c.args.faults.now c.explore_until.new.faults c.explore_until.ensures.quiet
