-- From an answer of the session's debugger to the reply to a line.
use Rattle.std.specs.Prelude.{⊤}
use Rattle.std.proofs.Common.{◌≡◌, ◌∙◌, ◌⊎◌, ◌++◌, ℕ, Bool, true, false, List, [], Option, None, Some, Result, Ok, Err, refl, sym, ap, subst, inl, inr}
use Rattle.std.specs.Io.KnownBytes.{Appends}
use Rattle.ir_fit.specs.Fit.{FittedTrace, IsRunOf}
use Rattle.ir_command.specs.Commands.{command_of}
use Rattle.ir_command.specs.declared.command.Command.{Command}
use Rattle.ir_command.specs.declared.refusal.Refusal.{Refusal}
use Rattle.ir_debug.specs.declared.answer.Answer.{Answer}
use Rattle.ir_debug.specs.Machine.{RepliesBy, Replies, quits, Desk}
use Rattle.ir_debug.specs.Debugging.{Debugging, IsAnswer, IsText}
use Rattle.ir_files.specs.Writers.{writer_of}
use Rattle.ir_monitor.specs.Answers.{IsAnswerTo}
use Rattle.ir_monitor.specs.Asking.{asked_of}
use Rattle.ir_monitor.specs.Telling.{HasSaid}
use Rattle.ir_monitor.specs.declared.asked.Asked.{Asked}
use Rattle.ir_gdb.specs.Questions.{here_of}
use Rattle.ir_gdb.specs.Stub.{Stub}
use Rattle.ir_gdb.specs.declared.console.Answered.{Answered}
use Rattle.ir_gdb.specs.Connection.{Link, with_desk, RespondsInSession, RespondsTo, Responds, Consults}

-- the answer's text is one that the small machine may reply with
pub responds_by_answer : (asked : Result (Option Command) Refusal) (line : List ℕ) (s next : Stub) (old new : Debugging) (answer : Answer) (P : List ℕ → Type 0)
    → asked ≡ command_of line → s.desk ≡ old.desk → next ≡ with_desk s new.desk → IsAnswer asked old new answer → IsText new answer P
    → RespondsInSession s line next P
unfolding Replies
responds_by_answer asked line s next old new answer P is same after a t = (t.0, new.desk, replies, after, t.2)
  where
    replies : Replies s.desk line t.0 new.desk
    replies = subst (λ (d : Desk). Replies d line t.0 new.desk) (sym same) (λ run of.
        let at : IsRunOf new.desk.fitted.guest new.desk.fitted.recorded run =
        subst (λ (f : FittedTrace). IsRunOf f.guest f.recorded run) (sym a.fitted) of in
        subst (λ (x : Result (Option Command) Refusal). RepliesBy x run old.desk t.0 new.desk) is
        (subst (λ (text : List ℕ). RepliesBy asked run old.desk text new.desk) (sym (t.1 run at)) (a.answers run of)))

-- a line without words has no answer
pub no_command_no_response : (asked : Result (Option Command) Refusal) (line : List ℕ) (s : Stub) (P : List ℕ → Type 0) → asked ≡ command_of line
    → asked ≡ Ok None → P [] → RespondsInSession s line s P
unfolding Replies
no_command_no_response asked line s P is none p = ([], s.desk, replies, refl, p)
  where
    replies : Replies s.desk line [] s.desk
    replies = λ run of. subst (λ (x : Result (Option Command) Refusal). RepliesBy x run s.desk [] s.desk) (sym none ∙ is) (refl, refl)

-- ---- a line that is read

pub line_quits_by_text : (line text : List ℕ) (b : Bool) → b ≡ quits text → text ≡ line → b ≡ true → quits line ≡ true
line_quits_by_text line text b is same q = sym (ap quits same) ∙ sym is ∙ q

pub line_does_not_quit : (line text : List ℕ) (b : Bool) → b ≡ quits text → text ≡ line → b ≡ false → quits line ≡ false
line_does_not_quit line text b is same q = sym (ap quits same) ∙ sym is ∙ q

-- what holds of an answer as well
pub responds_to_implied : (asked : Option Asked) (s : Stub) (line : List ℕ) (next : Stub) (P Q : List ℕ → Type 0) → ((answer : List ℕ) → P answer → Q answer)
    → RespondsTo asked s line next P → RespondsTo asked s line next Q
responds_to_implied None s line next P Q go r = (r.0, r.1, r.2, r.3, go r.0 r.4)
responds_to_implied (Some asked) s line next P Q go r = (r.0, r.1, go r.0 r.2)

-- what is answered, kept from nothing on
pub responds_kept_text : (s s0 : Stub) (text line : List ℕ) (next : Stub) (old new : List ℕ) → s ≡ s0 → text ≡ line → old ≡ []
    → Responds s text next (λ answer. new ≡ old ++ answer) → Responds s0 line next (λ answer. new ≡ answer)
responds_kept_text s s0 text line next old new same is none r =
    responds_to_implied (asked_of line) s0 line next (λ answer. new ≡ old ++ answer) (λ answer. new ≡ answer)
    (λ answer kept. kept ∙ ap (λ (x : List ℕ). x ++ answer) none)
    (subst (λ (x : Stub). Responds x line next (λ answer. new ≡ old ++ answer)) same
    (subst (λ (x : List ℕ). Responds s x next (λ answer. new ≡ old ++ answer)) is r))

-- a question is answered, and the stub stays
pub question_responds : (asked : Asked) (found : Option Asked) (s : Stub) (line : List ℕ) (a b : Option (List ℕ)) (failed : Bool) → found ≡ asked_of line
    → found ≡ Some asked → HasSaid (IsAnswerTo s.desk.fitted (here_of s) asked) (writer_of a b failed) → Responds s line s (Appends a b)
question_responds asked found s line a b failed is some gave =
    subst (λ (x : Option Asked). RespondsTo x s line s (Appends a b)) (sym some ∙ is) (gave.text, (gave.is, refl), gave.took)

-- a line that asks no question is answered as a session answers it
pub line_responds_in_session : (found : Option Asked) (s : Stub) (line : List ℕ) (next : Stub) (P : List ℕ → Type 0) → found ≡ asked_of line → found ≡ None
    → RespondsInSession s line next P → Responds s line next P
line_responds_in_session found s line next P is none r = subst (λ (x : Option Asked). RespondsTo x s line next P) (sym none ∙ is) r

-- whatever is answered, where there is no memory for it
pub responds_without_memory : (l mid : Link) (s next : Stub) (text line : List ℕ) → s ≡ l.stub → text ≡ line → mid ≡ record l { stub = next }
    → ((next ≡ s) ⊎ Responds s text next (λ answer. ⊤)) → ((mid ≡ l) ⊎ ((x : Stub) × Responds l.stub line x (λ answer. ⊤) × (mid ≡ record l { stub = x })))
responds_without_memory l mid s next text line same of after (inl stays) = inl (after ∙ ap (λ (x : Stub). record l { stub = x }) (stays ∙ same))
responds_without_memory l mid s next text line same of after (inr r) = inr (
  next,
  subst (λ (x : Stub). Responds x line next (λ answer. ⊤)) same (subst (λ (x : List ℕ). Responds s x next (λ answer. ⊤)) of r),
  after,
)

module _ {E : Type 0} (l next : Link) (line : List ℕ) (r : Result (Option Answered) E) (is : Consults l line r next) where
  pub some_consulted : (a : Answered) → r ≡ Ok (Some a) → (quits line ≡ false)
      × ((s : Stub) × Responds l.stub line s (λ text. a.bytes.items ≡ text) × (next ≡ record l { stub = s }))
  some_consulted a ok = subst (λ (x : Result (Option Answered) E). Consults l line x next) ok is

  pub none_consulted : r ≡ Ok None → (quits line ≡ true) × (next ≡ l)
  none_consulted ok = subst (λ (x : Result (Option Answered) E). Consults l line x next) ok is

  pub err_consulted : (e : E) → r ≡ Err e → (quits line ≡ false)
      × ((next ≡ l) ⊎ ((s : Stub) × Responds l.stub line s (λ text. ⊤) × (next ≡ record l { stub = s })))
  err_consulted e failed = subst (λ (x : Result (Option Answered) E). Consults l line x next) failed is
