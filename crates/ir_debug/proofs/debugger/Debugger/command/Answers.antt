use Rattle.std.proofs.Common.{sym, ap, ◌∙◌}
use Rattle.ir_debug.specs.declared.answer.Answer.TheVariants as answer
use Rattle.ir_debug.specs.Machine.{spoken}
use Rattle.ir_debug.specs.Debugging.{Debugging}
use Rattle.ir_debug.proofs.CarriedOut.{refused_answers_refusal, permitted_is_answered, position_answers, quit_answers_command, set_answers_command, clear_answers_command}
use Rattle.ir_debug.proofs.debugger.Debugger.command.Goals as goal

pub returns-in-Some-clause-answers : goal.returns-in-Some-clause-answers
returns-in-Some-clause-answers g c =
    refused_answers_refusal _ _ _ _ _ (sym c.refusal_of.ensures ∙ c.in-Some.is) c.refuse.ensures.desk c.refuse.ensures.answer

pub returns-in-Move-clause-answers : goal.returns-in-Move-clause-answers
returns-in-Move-clause-answers g c =
    permitted_is_answered c.args.self.now.desk _ _ _ c.answer_move.result c.in-Move.is (sym c.refusal_of.ensures ∙ c.in_default.is) c.answer_move.ensures.answers

pub returns-in-Continue-clause-answers : goal.returns-in-Continue-clause-answers
returns-in-Continue-clause-answers g c =
    permitted_is_answered c.args.self.now.desk _ _ _ c.answer_continue.result c.in-Continue.is (sym c.refusal_of.ensures ∙ c.in_default.is) c.answer_continue.ensures.answers

pub returns-in-Show-clause-answers : goal.returns-in-Show-clause-answers
returns-in-Show-clause-answers g c =
    permitted_is_answered c.args.self.now.desk _ _ _ c.answer_show.result c.in-Show.is (sym c.refusal_of.ensures ∙ c.in_default.is) c.answer_show.ensures.answers

pub returns-in-Set-clause-answers : goal.returns-in-Set-clause-answers
returns-in-Set-clause-answers g c =
    permitted_is_answered c.args.self.now.desk _ _ _ (answer.Set c.set.result) c.in-Set.is (sym c.refusal_of.ensures ∙ c.in_default.is)
    (set_answers_command c.args.self.now.desk _ _ _ c.set.ensures.number c.set.ensures.desk)

pub returns-in-Clear-clause-answers : goal.returns-in-Clear-clause-answers
returns-in-Clear-clause-answers g c =
    permitted_is_answered c.args.self.now.desk _ _ _ (answer.Cleared c.in-Clear.number) c.in-Clear.is (sym c.refusal_of.ensures ∙ c.in_default.is)
    (clear_answers_command c.args.self.now.desk _ _ c.clear.ensures)

pub returns-in-Keeping-clause-answers : goal.returns-in-Keeping-clause-answers
returns-in-Keeping-clause-answers g c =
    permitted_is_answered c.args.self.now.desk _ _ _ c.answer_keeping.result c.in-Keeping.is (sym c.refusal_of.ensures ∙ c.in_default.is) c.answer_keeping.ensures.answers

pub returns-in-Position-clause-answers : goal.returns-in-Position-clause-answers
returns-in-Position-clause-answers g c =
    permitted_is_answered c.args.self.now.desk _ _ _ answer.Position c.in-Position.is (sym c.refusal_of.ensures ∙ c.in_default.is)
    (position_answers c.args.self.now.desk _ (ap (λ (d : Debugging). spoken d.desk) c.self.view_is))

pub returns-in-Quit-clause-answers : goal.returns-in-Quit-clause-answers
returns-in-Quit-clause-answers g c =
    permitted_is_answered c.args.self.now.desk _ _ _ answer.Bye c.in-Quit.is (sym c.refusal_of.ensures ∙ c.in_default.is)
    (quit_answers_command c.args.self.now.desk _ (ap (λ (d : Debugging). spoken d.desk) c.self.view_is))
