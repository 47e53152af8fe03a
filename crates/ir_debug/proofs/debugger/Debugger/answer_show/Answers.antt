use Rattle.std.proofs.Common.{ap, ◌∙◌}
use Rattle.ir_command.specs.declared.command.Command.TheVariants as command
use Rattle.ir_debug.specs.Machine.{Desk}
use Rattle.ir_debug.proofs.CarriedOut.{permitted_thread_exists, show_is_at_hand, show_answers_command, refusal_after_spoken}
use Rattle.ir_debug.proofs.debugger.Debugger.answer_show.Goals as goal

pub show_next-requires-after_bounds : goal.show_next-requires-after_bounds
show_next-requires-after_bounds g c κs within =
    permitted_thread_exists c.args.self.now.desk c.args.show c.in-Next.thread c.in-Next.is c.requires

pub returns-in-Ok-bring_here : goal.returns-in-Ok-bring_here
returns-in-Ok-bring_here g c =
    let same = c.in-Ok-bring_here.ensures.desk in record {
      fitted = ap (λ (d : Desk). d.fitted) same;
      answers = show_answers_command c.args.self.now.desk c.bring_here.new.self.desk c.args.show same;
      last = (
        refusal_after_spoken c.args.self.now.desk c.bring_here.new.self.desk (command.Show c.args.show) same ∙ c.requires,
        show_is_at_hand c.args.show c.in_default.not-Next,
        c.in-Ok-bring_here.ensures.there,
      );
    }
