-- What is said, as the answer to what is asked.
use Rattle.std.proofs.Common.{◌≡◌, inl, inr, ℕ, List, Result, Ok, Err, OnOk, IfErr, sym, subst}
use Rattle.ir_fit.specs.Fit.{FittedTrace}
use Rattle.ir_files.specs.Writers.{Writer}
use Rattle.ir_past.specs.Replies.{IsDoneWith}
use Rattle.ir_past.specs.declared.past_err.PastErr.{PastErr}
use Rattle.ir_why.specs.FitAnswers.{IsFitReason, LacksFitAsked}
use Rattle.ir_why.specs.declared.fit_question.FitQuestion.{FitQuestion}
use Rattle.ir_monitor.specs.Answers.{IsAnswerTo, IsWhySaid, event_question}
use Rattle.ir_monitor.specs.Telling.{said_line, IsSaidOf, HasSaid, HasNotSaid}
use Rattle.ir_monitor.specs.declared.asked.Asked.{Asked}
use Rattle.ir_monitor.specs.declared.here.Here.{Here}

-- what is said as such a text is said as another that it is as well
pub said_as_implied : {X : Type 0} (P Q : List ℕ → Type 0) (r : Result X PastErr) (w : Writer) → ((text : List ℕ) → P text → Q text)
    → OnOk r (HasSaid P w) → IfErr r (λ e. HasNotSaid P e w) → OnOk r (HasSaid Q w) × IfErr r (λ e. HasNotSaid Q e w)
said_as_implied P Q (Ok x) w go ok fails = (record { text = ok.text; is = go ok.text ok.is; took = ok.took; works = ok.works }, tt)
said_as_implied P Q (Err e) w go ok (inl none) = (tt, inl none)
said_as_implied P Q (Err e) w go ok (inr h) = (tt, inr record { answered = h.answered; text = h.text; is = go h.text h.is; stops = h.stops })

-- the answer to what is found to be asked
pub said_in_answer : {X : Type 0} (f : FittedTrace) (here : Here) (asked found : Asked) (r : Result X PastErr) (w : Writer) → asked ≡ found
    → OnOk r (HasSaid (IsAnswerTo f here found) w) → IfErr r (λ e. HasNotSaid (IsAnswerTo f here found) e w)
    → OnOk r (HasSaid (IsAnswerTo f here asked) w) × IfErr r (λ e. HasNotSaid (IsAnswerTo f here asked) e w)
said_in_answer f here asked found r w is ok fails = said_as_implied (IsAnswerTo f here found) (IsAnswerTo f here asked) r w
    (λ text said. subst (λ (x : Asked). IsAnswerTo f here x text) (sym is) said) ok fails

-- the answer about the event of a question
pub why_said_of_event : (f : FittedTrace) (t e : ℕ) (q : FitQuestion) (text : List ℕ) → q ≡ event_question t e
    → IsSaidOf (IsDoneWith (IsFitReason q f)) (LacksFitAsked q f) text → IsWhySaid f t e text
why_said_of_event f t e q text same said =
    subst (λ (x : FitQuestion). IsSaidOf (IsDoneWith (IsFitReason x f)) (LacksFitAsked x f) text) same said

pub line_said_by_words : (words others text : List ℕ) → words ≡ others → text ≡ said_line words → text ≡ said_line others
line_said_by_words words others text same is = subst (λ (x : List ℕ). text ≡ said_line x) same is
