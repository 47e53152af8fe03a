use Rattle.std.proofs.Common.{None}
use Rattle.ir_runs.specs.declared.env_kind.EnvKind.TheVariants.{Clock}
use Rattle.ir_log.specs.declared.event.Event.TheVariants.{Answer}
use Rattle.ir_why.specs.FitLines.{fit_need_line}
use Rattle.ir_why.specs.declared.need.Need.{Need}
use Rattle.ir_why.proofs.Within.{text_and_flat_map_step}
use Rattle.ir_why.proofs.fit_lines.push_needs.Goals as goal

pub loop-need-preserved : goal.loop-need-preserved
loop-need-preserved c =
    let none : Need = record { place = record { thread = 0; event = 0 }; event = Answer Clock 0; left = None } in
    text_and_flat_map_step (fit_need_line c.args.at.now) c.args.needs.now c.loop-need.need-index none c.loop-need.text.items c.push_need.new.text.items _
    c.loop-need-test.true c.in_ok-push_need.ensures c.loop-need.invariant
