-- What `ir diff` writes.
use Rattle.std.specs.Prelude.{◌≡◌, ◌≢◌, ◌⊎◌, ℕ, ◌==◌, Bool, true, false, if◌then◌else◌, List, [], ◌∷◌, ◌++◌, codes, decimal, length, flat_map, Option, Some, None, Result, Ok}
use Rattle.std.specs.List.{slice_get, slice_index_or}
use Rattle.ir_thread.specs.State.{end_number, end_code}
use Rattle.ir_log.specs.Logging.{label_of}
use Rattle.ir_log.specs.declared.event.Event.{Event}
use Rattle.ir_log.specs.declared.event.Event.TheVariants.{Answer, Read, Write, Try}
use Rattle.ir_trace.specs.Recorded.{Recorded, RecordedThread, recorded_thread}
use Rattle.ir_trace.specs.declared.trace_err.TraceErr.{TraceErr}
use Rattle.ir_text.specs.Texts.{event_text}
use Rattle.ir_files.specs.declared.exit_status.ExitStatus.{ExitStatus}
use Rattle.ir_files.specs.declared.exit_status.ExitStatus.TheVariants as status
use Rattle.ir_past.specs.Past.{event_at, IsMadeBy}
use Rattle.ir_past.specs.Naming.{maker_text}
use Rattle.ir_past.specs.Answers.{AreCoherent, IsRefusal}
use Rattle.ir_past.specs.Replies.{IsTraceReply}
use Rattle.ir_past.specs.declared.place.Place.{Place}
use Rattle.ir_diff.specs.Common.{Tells, AreCommon, IsThreadReady}

-- the line of the common part: how many events of each thread are in it
abbrev pub common_line : List ℕ → List ℕ
common_line c = codes "common" ++ (flat_map (λ n. codes " " ++ decimal n) c ++ 10 ∷ [])

-- a line where the budgets differ
abbrev pub budget_line : ℕ → ℕ → List ℕ
budget_line one two = if one == two then [] else codes "budget " ++ (decimal one ++ (codes " and " ++ (decimal two ++ 10 ∷ [])))

-- the line where the headers differ: 1 in the threads, 2 in the objects
abbrev pub differing_header_line : ℕ → List ℕ
differing_header_line cause = codes "header differs " ++ (decimal cause ++ 10 ∷ [])

-- the line of a thread that is the same
abbrev pub same_line : ℕ → List ℕ
same_line t = codes "thread " ++ (decimal t ++ codes " same\n")

-- in which of the two traces a thread is ready
abbrev pub ready_text : Bool → Bool → List ℕ
ready_text true true = codes " ready in 1 and 2"
ready_text true false = codes " ready in 1"
ready_text false true = codes " ready in 2"
ready_text false false = []

-- the line of a thread that differs from its event n on
abbrev pub differs_line : ℕ → ℕ → List ℕ → List ℕ
differs_line t n ready = codes "thread " ++ (decimal t ++ (codes " differs event " ++ (decimal n ++ (ready ++ 10 ∷ []))))

-- what made the version that an event enters, if it is an entry
abbrev pub NamesMaker : Recorded → Event → List ℕ → Type 0
NamesMaker r (Answer kind value) text = text ≡ []
NamesMaker r (Read object version) text = (made : Option Place) × IsMadeBy r object version made × (text ≡ codes " by " ++ maker_text made)
NamesMaker r (Write object version readers) text = (made : Option Place) × IsMadeBy r object version made × (text ≡ codes " by " ++ maker_text made)
NamesMaker r (Try object) text = text ≡ []

-- the end of a thread
abbrev pub end_text : RecordedThread → List ℕ
end_text t = codes "end " ++ (decimal (end_number t.end) ++ (codes " code " ++ (decimal (end_code t.end) ++ (codes " steps " ++ decimal t.steps))))

-- what trace r has of thread t from event n on: that event, or the thread's end
abbrev pub IsNextLine : Recorded → ℕ → Option Event → List ℕ → Type 0
IsNextLine r t (Some e) text = (by : List ℕ) × NamesMaker r e by × (text ≡ event_text (label_of e) ++ by)
IsNextLine r t None text = text ≡ end_text (recorded_thread r t)

-- the line of what a trace has there, by the number of the trace
abbrev pub next_line : ℕ → List ℕ → List ℕ
next_line number text = decimal number ++ (codes " " ++ (text ++ 10 ∷ []))

-- all events of a thread are in the common part, of which it has c, and its ends are the same
pub record IsSame (one two : RecordedThread) (c : ℕ) : Type 0 where
  pub first : length one.events ≡ c
  pub second : length two.events ≡ c
  pub ends : one.end ≡ two.end
  pub steps : one.steps ≡ two.steps

-- the lines of a thread that differs after its first c events
pub record IsParting (a b : Recorded) (part : ℕ → ℕ) (t : ℕ) (text : List ℕ) : Type 0 where
  pub ready_first : Bool
  pub ready_second : Bool
  pub tells_first : Tells ready_first (IsThreadReady a part t)
  pub tells_second : Tells ready_second (IsThreadReady b part t)
  pub first : List ℕ
  pub second : List ℕ
  pub next_first : IsNextLine a t (event_at a t (part t)) first
  pub next_second : IsNextLine b t (event_at b t (part t)) second
  pub lines : text ≡ differs_line t (part t) (ready_text ready_first ready_second) ++ (next_line 1 first ++ next_line 2 second)

-- the lines of thread t
abbrev pub IsThreadText : Recorded → Recorded → (ℕ → ℕ) → ℕ → List ℕ → Type 0
IsThreadText a b part t text =
    (IsSame (recorded_thread a t) (recorded_thread b t) (part t) × (text ≡ same_line t))
    ⊎ ((IsSame (recorded_thread a t) (recorded_thread b t) (part t) → ⊥) × IsParting a b part t text)

-- the lines of two traces of as many threads and objects
pub record IsDiff (a b : Recorded) (text : List ℕ) : Type 0 where
  pub common : List ℕ
  pub are : AreCommon a b common
  pub texts : List (List ℕ)
  pub each : length texts ≡ length a.threads
  pub threads : (t : ℕ) (own : List ℕ) → slice_get texts t ≡ Some own → IsThreadText a b (λ u. slice_index_or common u 0) t own
  pub lines : text ≡ common_line common ++ (budget_line a.budget b.budget ++ flat_map (λ own. own) texts)

-- the answer about two coherent traces: their headers differ, or what they have in common
abbrev pub IsPairAnswer : Recorded → Recorded → ExitStatus → List ℕ → Type 0
IsPairAnswer a b answered text =
    ((length a.threads ≢ length b.threads) × (answered ≡ status.NotFit) × (text ≡ differing_header_line 1))
    ⊎ ((length a.threads ≡ length b.threads) × (a.objects ≢ b.objects) × (answered ≡ status.NotFit) × (text ≡ differing_header_line 2))
    ⊎ ((length a.threads ≡ length b.threads) × (a.objects ≡ b.objects) × (answered ≡ status.Done) × IsDiff a b text)

-- the same of the first of two traces, and of bytes
abbrev pub IsSecondAnswer : Recorded → Result Recorded TraceErr → ExitStatus → List ℕ → Type 0
IsSecondAnswer a read answered text =
    ((b : Recorded) × (read ≡ Ok b) × AreCoherent b × IsPairAnswer a b answered text) ⊎ IsRefusal read answered text

-- the answer about two texts of bytes: if one is no coherent trace, it is refused, the first one first
abbrev pub IsDiffAnswer : Result Recorded TraceErr → Result Recorded TraceErr → ExitStatus → List ℕ → Type 0
IsDiffAnswer one two = IsTraceReply (λ a. IsSecondAnswer a two) one
