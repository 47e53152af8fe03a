-- What is answered about a coherent trace.
use Rattle.std.proofs.Common.{◌≡◌, ℕ, inl, inr, true, List, ap}
use Rattle.ir_trace.specs.Recorded.{Recorded}
use Rattle.ir_files.specs.declared.exit_status.ExitStatus.{ExitStatus}
use Rattle.ir_past.specs.Replies.{is_of_answer}
use Rattle.ir_past.specs.declared.place.Place.{Place}
use Rattle.ir_why.specs.Answers.{IsEventAnswer}

-- the answer about an event has the status of an answer
pub event_status_is_answer : (r : Recorded) (p : Place) (most : ℕ) (s : ExitStatus) (text : List ℕ) → IsEventAnswer r p most s text → is_of_answer s ≡ true
event_status_is_answer r p most s text (inl (t, e, circle, same, is)) = ap is_of_answer same
event_status_is_answer r p most s text (inr (none, same, is)) = ap is_of_answer same
