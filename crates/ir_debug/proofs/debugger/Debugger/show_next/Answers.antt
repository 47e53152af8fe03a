use Rattle.std.proofs.Common.{◌≡◌, ap, ◌∙◌}
use Rattle.std.proofs.lemmas.Result.{IfOk-weaker}
use Rattle.ir_cut.specs.Positions.{EachRun}
use Rattle.ir_command.specs.declared.command.Show.TheVariants.{Next}
use Rattle.ir_debug.specs.Machine.{show_text}
use Rattle.ir_text.specs.Texts.{next_text}
use Rattle.ir_debug.specs.Debugging.{Debugging}
use Rattle.ir_debug.proofs.CarriedOut.{debugger_next_line_shown}
use Rattle.ir_debug.proofs.debugger.Debugger.show_next.Goals as goal

pub returns-clause-line : goal.returns-clause-line
returns-clause-line g c =
    IfOk-weaker c.next_line.result (λ line. line.items ≡ next_text c.code-code.result.now c.index-threads-thread.result)
    (λ line. EachRun c.args.self.now.desk.fitted (λ run. line.items ≡ show_text run c.args.self.now.desk (Next c.args.thread)))
    (λ line text. debugger_next_line_shown c.args.self.now.desk c.bring_here.new.self c.threads-threads.result.now c.code-code.result.now c.args.thread
    c.index-threads-thread.result line.items c.in_ok-bring_here.ensures.desk c.in_ok-bring_here.ensures.there
    (c.threads-threads.ensures ∙ ap (λ (z : Debugging). z.state.threads) c.self.view_is)
    (c.code-code.ensures.value ∙ ap (λ g. g.code) c.image.ensures.value ∙ ap (λ f. f.guest.code) c.fitted.ensures.value
    ∙ ap (λ (z : Debugging). z.desk.fitted.guest.code) c.self.view_is)
    c.requires c.index-threads-thread.is text) c.next_line.ensures
