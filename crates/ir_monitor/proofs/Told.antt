-- What a question of a run is answered, as what is told.
use Rattle.std.proofs.Common.{◌≡◌, inl, inr, ℕ, Bool, List, [], Option, Result, Ok, Err, OnOk, IfErr, ap, ◌∙◌}
use Rattle.std.specs.Io.KnownBytes.{Appends}
use Rattle.std.proofs.KnownBytes.{Appends-trans}
use Rattle.ir_files.specs.Writers.{Writer, writer_of}
use Rattle.ir_files.specs.declared.exit_status.ExitStatus.{ExitStatus}
use Rattle.ir_files.specs.declared.exit_status.ExitStatus.TheVariants.{Done}
use Rattle.ir_past.specs.Answers.{Stops}
use Rattle.ir_past.specs.Replies.{IsUntouched, absent_words}
use Rattle.ir_past.specs.declared.absent.Absent.{Absent}
use Rattle.ir_past.specs.declared.past_err.PastErr.{PastErr}
use Rattle.ir_past.proofs.CallerLemmas.{stops_after_first_part}
use Rattle.ir_monitor.specs.Telling.{said_line, IsSaidOf, HasSaid, HasNotSaid}

-- a line that was stopped
pub stopped_line_is_not_said : {X : Type 0} (r : Result X PastErr) (line text : List ℕ) (w : Writer) → text ≡ line → IfErr r (λ e. Stops e w text)
    → IfErr r (λ e. HasNotSaid (λ said. said ≡ line) e w)
stopped_line_is_not_said (Ok x) line text w same stops = tt
stopped_line_is_not_said (Err e) line text w same stops = inr record { answered = Done; text = text; is = same; stops = stops }

module _ (A : ExitStatus → List ℕ → Type 0) (B : Absent → Type 0) where
  absent_line_not_told : (what : Absent) (words : List ℕ) (e : PastErr) (a b c : Option (List ℕ)) (f g : Bool) → words ≡ absent_words what → B what
      → IsUntouched (writer_of a b f) → HasNotSaid (λ text. text ≡ said_line words) e (writer_of b c g) → HasNotSaid (IsSaidOf A B) e (writer_of a c g)
  absent_line_not_told what words e a b c f g same lacks first (inl none) =
      inl record { memory = none.memory; none = Appends-trans a b c [] [] first.none none.none; works = none.works }
  absent_line_not_told what words e a b c f g same lacks first (inr h) = inr record {
    answered = Done;
    text = h.text;
    is = inr (what, lacks, h.is ∙ ap said_line same);
    stops = stops_after_first_part e a b c g [] h.text first.none h.stops;
  }

  -- where nothing was written, the line of what isn't there is told
  pub absent_line_is_told : {X : Type 0} (what : Absent) (words : List ℕ) (r : Result X PastErr) (a b c : Option (List ℕ)) (f g : Bool) → words ≡ absent_words what
      → B what → IsUntouched (writer_of a b f) → OnOk r (HasSaid (λ text. text ≡ said_line words) (writer_of b c g))
      → IfErr r (λ e. HasNotSaid (λ text. text ≡ said_line words) e (writer_of b c g))
      → OnOk r (HasSaid (IsSaidOf A B) (writer_of a c g)) × IfErr r (λ e. HasNotSaid (IsSaidOf A B) e (writer_of a c g))
  absent_line_is_told what words (Ok x) a b c f g same lacks first ok fails = (
    record {
      text = ok.text;
      is = inr (what, lacks, ok.is ∙ ap said_line same);
      took = Appends-trans a b c [] ok.text first.none ok.took;
      works = ok.works;
    },
    tt,
  )
  absent_line_is_told what words (Err e) a b c f g same lacks first ok fails = (tt, absent_line_not_told what words e a b c f g same lacks first fails)
