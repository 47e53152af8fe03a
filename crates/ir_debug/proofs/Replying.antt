-- From an answer to the small machine's reply to a line.
use Rattle.std.proofs.Common.{◌≡◌, ℕ, List, [], Option, None, Result, Ok, refl, sym, subst}
use Rattle.std.specs.Io.KnownBytes.{Appends}
use Rattle.std.proofs.KnownBytes.{Appends-nil}
use Rattle.ir_fit.specs.Fit.{FittedTrace, IsRunOf}
use Rattle.ir_command.specs.Commands.{command_of}
use Rattle.ir_command.specs.declared.command.Command.{Command}
use Rattle.ir_command.specs.declared.refusal.Refusal.{Refusal}
use Rattle.ir_stream.specs.Answers.{RepliedPrefix, AppendsPrefix}
use Rattle.ir_stream.specs.Written.{Replied}
use Rattle.ir_debug.specs.declared.answer.Answer.{Answer}
use Rattle.ir_debug.specs.Machine.{RepliesBy, Replies}
use Rattle.ir_debug.specs.Debugging.{Debugging, IsAnswer, IsText}

-- the answer's text is one that the small machine may reply with
answer_text_is_reply : (asked : Result (Option Command) Refusal) (line : List ℕ) (old new : Debugging) (answer : Answer) (P : List ℕ → Type 0)
    → asked ≡ command_of line → IsAnswer asked old new answer → (t : IsText new answer P) → Replies old.desk line t.0 new.desk
unfolding Replies
answer_text_is_reply asked line old new answer P is a t = λ run of.
    let at : IsRunOf new.desk.fitted.guest new.desk.fitted.recorded run =
    subst (λ (f : FittedTrace). IsRunOf f.guest f.recorded run) (sym a.fitted) of in
    subst (λ (x : Result (Option Command) Refusal). RepliesBy x run old.desk t.0 new.desk) is
    (subst (λ (text : List ℕ). RepliesBy asked run old.desk text new.desk) (sym (t.1 run at)) (a.answers run of))

pub appended_is_replied : (asked : Result (Option Command) Refusal) (line : List ℕ) (old new : Debugging) (answer : Answer) (w w' : Option (List ℕ))
    → asked ≡ command_of line → IsAnswer asked old new answer → IsText new answer (Appends w w')
    → Replied Replies old.desk line new.desk w w'
appended_is_replied asked line old new answer w w' is a t = record {
  text = t.0;
  is = answer_text_is_reply asked line old new answer (Appends w w') is a t;
  grown = t.2;
}

pub appended_prefix_replied : (asked : Result (Option Command) Refusal) (line : List ℕ) (old new : Debugging) (answer : Answer)
    (w w' : Option (List ℕ)) → asked ≡ command_of line → IsAnswer asked old new answer → IsText new answer (AppendsPrefix w w')
    → RepliedPrefix Replies old.desk line w w'
appended_prefix_replied asked line old new answer w w' is a t = record {
  text = t.0;
  next = new.desk;
  is = answer_text_is_reply asked line old new answer (AppendsPrefix w w') is a t;
  grown = t.2;
}

-- a line without words has no answer
pub no_command_no_reply : (asked : Result (Option Command) Refusal) (line : List ℕ) (old new : Debugging) (w : Option (List ℕ))
    → asked ≡ command_of line → asked ≡ Ok None → new ≡ old → Replied Replies old.desk line new.desk w w
unfolding Replies
no_command_no_reply asked line old new w is none same = record {
  text = [];
  is = λ run of. subst (λ (x : Result (Option Command) Refusal). RepliesBy x run old.desk [] new.desk) is
      (subst (λ (x : Result (Option Command) Refusal). RepliesBy x run old.desk [] new.desk) (sym none)
      (subst (λ (x : Debugging). RepliesBy (Ok None) run old.desk [] x.desk) (sym same) (refl, refl)));
  grown = Appends-nil w;
}
