-- From the answers to lines to the bytes of a session.
use Rattle.std.proofs.Common.{◌≡◌, ℕ, List, [], ◌∷◌, ◌++◌, Option, Some, None, Result, Ok, Err, refl, sym, ap, subst, arith, inl, inr, append-nil}
use Rattle.std.specs.Prelude.{IfSome}
use Rattle.std.specs.Io.KnownBytes.{Appends, Consumes}
use Rattle.std.proofs.KnownBytes.{Appends-trans}
use Rattle.ir_stream.specs.Answers.{split_lines, lines_of, heard, LinesAnswered, through, AppendsPrefix, ReadsUpTo}
use Rattle.ir_stream.specs.Written.{Wrote, WroteInPart}
use Rattle.ir_stream.specs.Endings.{IfEnded, LeadsTo}
use Rattle.ir_stream.specs.declared.serving.Served.{Served}
use Rattle.ir_stream.specs.declared.serving.Served.TheVariants as served
use Rattle.ir_stream.specs.declared.serving.Fault.{Fault}
use Rattle.ir_stream.specs.declared.serving.Fault.TheVariants as fault
use Rattle.ir_debug.specs.Machine.{Desk, Replies, quits, Opening, ImageRefused, TraceRefused, Unfit, Ready, Opens, opening_text}
use Rattle.ir_debug.specs.Debugging.{Debugging}
use Rattle.ir_debug.specs.Openings.{opening_of}
use Rattle.ir_debug.specs.declared.opening.Opened.{Opened}
use Rattle.ir_debug.specs.declared.opening.Opened.TheVariants as opened
use Rattle.ir_debug.specs.Session.{Session, AnsweredInPart, SessionText, Transcript, WritesInPart, IfServed, ended_by, ending_of}
use Rattle.ir_debug.specs.declared.ended.Ended.{Ended}
use Rattle.ir_debug.specs.declared.ended.SessionErr.{SessionErr}
use Rattle.ir_debug.specs.declared.ended.SessionErr.TheVariants as err

-- ---- before a line is read

unchanged_consumes_none : (a : Option (List ℕ)) → Consumes a a []
unchanged_consumes_none None = tt
unchanged_consumes_none (Some xs) = refl

lines_of_empty_input : lines_of [] ≡ []
unfolding split_lines
lines_of_empty_input = refl

rest_of_empty_input : (split_lines []).rest ≡ []
unfolding split_lines
rest_of_empty_input = refl

through_no_lines : (lines : List (List ℕ)) → lines ≡ [] → through quits lines ≡ lines
unfolding through
through_no_lines [] e = refl
through_no_lines (l ∷ ls) e = absurd cc

session_text_no_lines : (o : Opening) → SessionText o [] (opening_text o) o
unfolding LinesAnswered
session_text_no_lines (ImageRefused e) = (refl, refl)
session_text_no_lines (TraceRefused e) = (refl, refl)
session_text_no_lines (Unfit v) = (refl, refl)
session_text_no_lines (Ready d) = ([], d, (refl, refl), sym (append-nil (opening_text (Ready d))), refl)

-- the writer failed in the opening lines
pub opening_answered_part : (image trace : List ℕ) (o : Opening) (limit : ℕ) (a w0 w1 : Option (List ℕ)) → Opens image trace o
    → AppendsPrefix w0 w1 (opening_text o) → ReadsUpTo limit a a (AnsweredInPart image trace a w0 w1)
opening_answered_part image trace o limit a w0 w1 opens prefix = record {
  consumed = [];
  taken = unchanged_consumes_none a;
  within = omega arith;
  holds = record {
    goes = through_no_lines (lines_of []) lines_of_empty_input;
    ended = λ some. absurd (some rest_of_empty_input);
    wrote = inl (
      lines_of_empty_input,
      record { opening = o; opens = opens; text = opening_text o; last = o; says = session_text_no_lines o; took = prefix },
    );
  };
}

-- ---- where no machine is ready

pub reads_up_to_unchanged : (limit : ℕ) (a : Option (List ℕ)) (P : List ℕ → Type 0) → P [] → ReadsUpTo limit a a P
reads_up_to_unchanged limit a P p = record { consumed = []; taken = unchanged_consumes_none a; within = omega arith; holds = p }

pub if_some_if_each_holds : (a : Option (List ℕ)) (P : List ℕ → Type 0) → ((input : List ℕ) → P input) → IfSome a P
if_some_if_each_holds None P p = tt
if_some_if_each_holds (Some xs) P p = p xs

-- the opening lines are the text, whatever the lines
pub refused_session : (image trace : List ℕ) (o p : Opening) (limit : ℕ) (result : Result Ended SessionErr) (w0 w1 : Option (List ℕ)) → o ≡ p
    → ((lines : List (List ℕ)) → SessionText p lines (opening_text p) p) → ((input : List ℕ) → result ≡ ending_of p limit input)
    → Opens image trace o → Appends w0 w1 (opening_text o) → (input : List ℕ) → Session image trace limit result w0 w1 input
refused_session image trace o p limit result w0 w1 is says ending opens grown input = record {
  transcript = record {
    opening = p;
    opens = subst (Opens image trace) is opens;
    text = opening_text p;
    last = p;
    says = says (through quits (heard limit input));
    took = subst (λ (x : Opening). Appends w0 w1 (opening_text x)) is grown;
  };
  ending = ending input;
}

-- ---- after the opening lines

pub reads_up_to_of_implied : (limit : ℕ) (a b : Option (List ℕ)) (P Q : List ℕ → Type 0) → ((consumed : List ℕ) → P consumed → Q consumed)
    → ReadsUpTo limit a b P → ReadsUpTo limit a b Q
reads_up_to_of_implied limit a b P Q go reads = record {
  consumed = reads.consumed;
  taken = reads.taken;
  within = reads.within;
  holds = go reads.consumed reads.holds;
}

pub if_some_of_implied : (a : Option (List ℕ)) (P Q : List ℕ → Type 0) → ((input : List ℕ) → P input → Q input) → IfSome a P → IfSome a Q
if_some_of_implied None P Q go p = tt
if_some_of_implied (Some xs) P Q go p = go xs p

pub if_served_implied_end : (r : Result Served Fault) (P Q : Type 0) → (P → Q) → IfEnded r P → IfServed (ended_by r) Q
if_served_implied_end (Ok served.Quit) P Q go p = go p
if_served_implied_end (Ok served.InputEnd) P Q go p = go p
if_served_implied_end (Err fault.Read) P Q go p = tt
if_served_implied_end (Err fault.Write) P Q go p = tt
if_served_implied_end (Err fault.TooLong) P Q go p = go p

-- what was opened, and its opening lines, where a debugger is ready
pub opens_ready_desk : (image trace : List ℕ) (o : Opened) (d : Debugging) → o ≡ opened.Ready d → Opens image trace (opening_of o)
    → Opens image trace (Ready d.desk)
opens_ready_desk image trace o d is = subst (λ (x : Opened). Opens image trace (opening_of x)) is

pub appends_ready_opening : (o : Opened) (d : Debugging) (w0 w1 : Option (List ℕ)) → o ≡ opened.Ready d
    → Appends w0 w1 (opening_text (opening_of o)) → Appends w0 w1 (opening_text (Ready d.desk))
appends_ready_opening o d w0 w1 is = subst (λ (x : Opened). Appends w0 w1 (opening_text (opening_of x))) is

-- all answers after the opening lines
abbrev pub transcript_if_lines_answered : (image trace : List ℕ) (d : Desk) (lines : List (List ℕ)) (w0 w1 w2 : Option (List ℕ)) → Opens image trace (Ready d)
    → Appends w0 w1 (opening_text (Ready d)) → Wrote Replies d lines w1 w2
    → Transcript image trace lines (λ text last. Appends w0 w2 text)
transcript_if_lines_answered image trace d lines w0 w1 w2 opens begun wrote = record {
  opening = Ready d;
  opens = opens;
  text = opening_text (Ready d) ++ wrote.text;
  last = Ready wrote.last;
  says = (wrote.text, wrote.last, wrote.answered, refl, refl);
  took = Appends-trans w0 w1 w2 (opening_text (Ready d)) wrote.text begun wrote.grown;
}

-- the same, and the machine that has answered them is ready
pub ready_transcript : (image trace : List ℕ) (d : Desk) (lines : List (List ℕ)) (w0 w1 w2 : Option (List ℕ)) → Opens image trace (Ready d)
    → Appends w0 w1 (opening_text (Ready d)) → Wrote Replies d lines w1 w2
    → Transcript image trace lines (λ text last. Appends w0 w2 text × ((desk : Desk) × (last ≡ Ready desk)))
ready_transcript image trace d lines w0 w1 w2 opens begun wrote =
    let all = transcript_if_lines_answered image trace d lines w0 w1 w2 opens begun wrote in
    record { opening = all.opening; opens = all.opens; text = all.text; last = all.last; says = all.says; took = (all.took, (wrote.last, refl)) }

-- a part of them
pub part_answered_is_written : (image trace : List ℕ) (d : Desk) (lines : List (List ℕ)) (w0 w1 w2 : Option (List ℕ)) → Opens image trace (Ready d)
    → Appends w0 w1 (opening_text (Ready d)) → WroteInPart Replies d lines w1 w2 → WritesInPart image trace lines w0 w2
part_answered_is_written image trace d lines w0 w1 w2 opens begun wrote =
    let all = transcript_if_lines_answered image trace d wrote.before w0 w1 wrote.between opens begun wrote.all in
    inr (
      wrote.before,
      wrote.line,
      wrote.are,
      record {
        opening = all.opening;
        opens = all.opens;
        text = all.text;
        last = all.last;
        says = all.says;
        took = record { desk = wrote.all.last; ready = refl; between = wrote.between; all = all.took; part = wrote.part };
      },
    )

session_of_served_lines : (image trace : List ℕ) (d : Desk) (limit : ℕ) (r : Result Served Fault) (w0 w1 w2 : Option (List ℕ)) (input : List ℕ)
    → Opens image trace (Ready d) → Appends w0 w1 (opening_text (Ready d)) → LeadsTo Replies quits d limit r w1 w2 input
    → Session image trace limit (ended_by r) w0 w2 input
session_of_served_lines image trace d limit r w0 w1 w2 input opens begun leads = record {
  transcript = transcript_if_lines_answered image trace d (through quits (heard limit input)) w0 w1 w2 opens begun leads.wrote;
  ending = ap ended_by leads.ending;
}

pub read_end_is_read_fault : (r : Result Served Fault) → ended_by r ≡ Err err.Read → r ≡ Err fault.Read
read_end_is_read_fault (Ok served.Quit) e = absurd cc
read_end_is_read_fault (Ok served.InputEnd) e = absurd cc
read_end_is_read_fault (Err fault.Read) e = refl
read_end_is_read_fault (Err fault.Write) e = absurd cc
read_end_is_read_fault (Err fault.TooLong) e = absurd cc

pub write_end_is_fault : (r : Result Served Fault) → ended_by r ≡ Err err.Write → r ≡ Err fault.Write
write_end_is_fault (Ok served.Quit) e = absurd cc
write_end_is_fault (Ok served.InputEnd) e = absurd cc
write_end_is_fault (Err fault.Read) e = absurd cc
write_end_is_fault (Err fault.Write) e = refl
write_end_is_fault (Err fault.TooLong) e = absurd cc

-- what a session says of its input, from what was said of the lines, for F that says it of the bytes that were read or of all
pub lines_lead_to_session : (F : (List ℕ → Type 0) → Type 0) → ((P Q : List ℕ → Type 0) → ((input : List ℕ) → P input → Q input) → F P → F Q)
    → (image trace : List ℕ) (d : Desk) (limit : ℕ) (result : Result Ended SessionErr) (r : Result Served Fault) (w0 w1 w2 : Option (List ℕ))
    → result ≡ ended_by r → Opens image trace (Ready d) → Appends w0 w1 (opening_text (Ready d))
    → IfEnded r (F (LeadsTo Replies quits d limit r w1 w2)) → IfServed result (F (Session image trace limit result w0 w2))
lines_lead_to_session F more image trace d limit result r w0 w1 w2 ended opens begun leads =
    subst (λ (x : Result Ended SessionErr). IfServed x (F (Session image trace limit x w0 w2))) (sym ended)
    (if_served_implied_end r _ _ (more _ _ (λ input leads. session_of_served_lines image trace d limit r w0 w1 w2 input opens begun leads)) leads)
