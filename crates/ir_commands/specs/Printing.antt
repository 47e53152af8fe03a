-- What the commands print that are asked about files, by the bytes that a folder says are at the paths of their arguments.
use Rattle.std.specs.Prelude.{◌≡◌, ◌≢◌, ◌⊎◌, ℕ, Bool, List, Option, option_map, MatchOption, String, true, false}
use Rattle.std.specs.String.{string_bytes}
use Rattle.ir_fit.specs.Fit.{FittedTrace}
use Rattle.ir_trace.specs.Recorded.{Recorded, recorded_at}
use Rattle.ir_files.specs.Writers.{Writer, Reports, Took, fault_text}
use Rattle.ir_files.specs.declared.exit_status.ExitStatus.{ExitStatus}
use Rattle.ir_files.specs.declared.exit_status.ExitStatus.TheVariants as status
use Rattle.ir_symbols.specs.Symbols.{Symbol}
use Rattle.ir_past.specs.Answers.{Answered, NotAnswered, Stops, fault_words}
use Rattle.ir_past.specs.Replies.{IsAnswerOf, IsTraceReply, IsTraceReplyless, ask_status, ask_words}
use Rattle.ir_past.specs.declared.absent.Absent.{Absent}
use Rattle.ir_past.specs.declared.ask_err.AskErr.{AskErr}
use Rattle.ir_past.specs.Lines.{IsStaleAnswer}
use Rattle.ir_past.specs.declared.past_err.PastErr.{PastErr}
use Rattle.ir_opened.specs.Answers.{IsFitAnswerOf, IsRunReply, IsRunReplyless}
use Rattle.ir_stale_run.specs.Lines.{IsRestsAnswer}
use Rattle.ir_who.specs.Lines.{IsWhoAnswer, IsWhoUnanswered}
use Rattle.ir_who.specs.FitLines.{IsFitWhoAnswer, IsFitUnanswered}
use Rattle.ir_who.specs.declared.question.Question as who
use Rattle.ir_who_word.specs.Lines.{IsWordAnswer, IsWordUnanswered}
use Rattle.ir_who_word.specs.declared.question.Question as word
use Rattle.ir_why.specs.Answers.{IsWhyAnswer, IsWhyUnanswered}
use Rattle.ir_why.specs.FitAnswers.{IsFitReason, IsWhyFitUnanswered}
use Rattle.ir_why.specs.declared.question.Question as why
use Rattle.ir_why.specs.declared.fit_question.FitQuestion.{FitQuestion}
use Rattle.ir_diff.specs.Lines.{IsDiffAnswer}
use Rattle.ir_picture.specs.Answers.{IsViewAnswer, IsViewUnanswered}
use Rattle.ir_picture.specs.declared.asked.Asked.{Asked}
use Rattle.ir_picture.specs.declared.asked.Around.{Around}
use Rattle.ir_picture.specs.declared.asked.Form.{Form}
use Rattle.ir_picture.specs.declared.asked.Form.TheVariants as form
use Rattle.ir_run_picture.specs.Answers.{IsRunViewAnswer, IsRunViewUnanswered}
use Rattle.ir_arguments.specs.declared.stale.StaleArguments.{StaleArguments}
use Rattle.ir_arguments.specs.declared.who.WhoArguments.{WhoArguments}
use Rattle.ir_arguments.specs.declared.why.WhyArguments.{WhyArguments}
use Rattle.ir_arguments.specs.declared.diff.DiffArguments.{DiffArguments}
use Rattle.ir_arguments.specs.declared.view.ViewArguments.{ViewArguments}
use Rattle.ir_arguments.specs.declared.view.Part.{Part}
use Rattle.ir_arguments.specs.declared.trace.TraceArguments.{TraceArguments}
use Rattle.ir_arguments.specs.declared.list.ListArguments.{ListArguments}
use Rattle.ir_arguments.specs.declared.events.EventsArguments.{EventsArguments}
use Rattle.ir_listing.specs.Code.{IsCodeListing, RefusesImage}
use Rattle.ir_listing.specs.Events.{AreEventLines}
use Rattle.ir_commands.specs.Files.{IsStatusOfNone, IsStatusOfNoNames, IsUnread, OfNamedImage, OfTrace, OfTraces, OfImageAndTrace, TellsFault}
use Rattle.ir_commands.specs.Listing.{shown_trace, listing_status}

-- what the folder says is at a path
abbrev pub Paths : Type 0
Paths = List ℕ → Option (List ℕ)

-- an answer was printed whole; or a fault stopped it, which is reported
abbrev pub IsPrinted : (ExitStatus → List ℕ → Type 0) → ExitStatus → Writer → Writer → Type 0
IsPrinted IsAnswer answered out faults =
    (answered ≢ status.Failed → Answered IsAnswer answered out)
    × (answered ≡ status.Failed → (e : PastErr) × NotAnswered IsAnswer e out × Reports faults (fault_text (fault_words e)))

-- the same where what is asked about may not be there
abbrev pub PrintedIfThere : (ExitStatus → List ℕ → Type 0) → (AskErr → Writer → Type 0) → ExitStatus → Writer → Writer → Type 0
PrintedIfThere IsAnswer IsUnanswered answered out faults =
    (answered ≢ status.Failed → answered ≢ status.BadArguments → Answered IsAnswer answered out)
    × ((answered ≡ status.Failed) ⊎ (answered ≡ status.BadArguments)
    → (e : AskErr) × (answered ≡ ask_status e) × IsUnanswered e out × Reports faults (fault_text (ask_words e)))

-- the answer to a question about a trace, or about a run of an image, was printed so
abbrev pub AnswersTrace : (Recorded → ExitStatus → List ℕ → Type 0) → (Recorded → Absent → Type 0) → List ℕ → ExitStatus → Writer → Writer → Type 0
AnswersTrace IsAnswer IsAbsent trace = PrintedIfThere (IsTraceReply IsAnswer (recorded_at trace)) (IsTraceReplyless IsAnswer IsAbsent (recorded_at trace))

abbrev pub AnswersRun : (FittedTrace → ExitStatus → List ℕ → Type 0) → (FittedTrace → Absent → Type 0) → List ℕ → List ℕ → ExitStatus → Writer → Writer → Type 0
AnswersRun IsAnswer IsAbsent image trace = PrintedIfThere (IsRunReply IsAnswer image trace) (IsRunReplyless IsAnswer IsAbsent image trace)

-- this was printed of the trace in a file, or, if an image is named, this of its run
abbrev pub PrintsOfFiles : {Y Z : Type 0} → Paths → String Y → Option (String Z) → (List ℕ → ExitStatus → Writer → Writer → Type 0)
    → (List ℕ → List ℕ → ExitStatus → Writer → Writer → Type 0) → ExitStatus → Writer → Writer → Type 0
PrintsOfFiles at trace image OfItsTrace OfItsRun answered out faults = MatchOption image
    (OfTrace (at (string_bytes trace)) (λ bytes. OfItsTrace bytes answered out faults))
    (λ path. OfImageAndTrace (at (string_bytes path)) (at (string_bytes trace)) (λ bytes others. OfItsRun bytes others answered out faults))

-- `ir trace`: the lines of the trace, or why it is none; or a fault stopped them
pub record PrintsTrace (at : Paths) (arguments : TraceArguments) (answered : ExitStatus) (out faults : Writer) : Type 0 where
  pub of : OfTrace (at (string_bytes arguments.trace)) (λ trace. (answered ≢ status.Failed → (answered ≡ listing_status (recorded_at trace))
      × Took out (shown_trace (recorded_at trace)) × (out.failed ≡ false))
      × (answered ≡ status.Failed → (e : PastErr) × Stops e out (shown_trace (recorded_at trace)) × Reports faults (fault_text (fault_words e))))

-- the code of an image with these names; or why its bytes are no image; or a fault stopped it
pub record Lists (image : List ℕ) (names : List Symbol) (answered : ExitStatus) (out faults : Writer) : Type 0 where
  pub one : (answered ≡ status.Done) ⊎ (answered ≡ status.Refused) ⊎ (answered ≡ status.Failed)
  pub done : answered ≡ status.Done → Answered (IsCodeListing image names) answered out
  pub refused : answered ≡ status.Refused → RefusesImage image out faults
  pub stopped : answered ≡ status.Failed → (e : PastErr) × NotAnswered (IsCodeListing image names) e out × Reports faults (fault_text (fault_words e))

-- `ir list`
abbrev pub PrintsCode : Paths → ListArguments → ExitStatus → Writer → Writer → Type 0
PrintsCode at arguments answered out faults = OfNamedImage at arguments.image arguments.map (λ image names. Lists image names answered out faults)

-- `ir events`
abbrev pub PrintsEvents : Paths → EventsArguments → ExitStatus → Writer → Writer → Type 0
PrintsEvents at arguments answered out faults = OfTrace (at (string_bytes arguments.trace)) (λ trace.
    OfNamedImage at arguments.image arguments.map (λ image names. IsPrinted (IsFitAnswerOf (AreEventLines names) image trace) answered out faults))

-- the exit status where an image or names for it aren't read
abbrev pub IsStatusOfNoImage : {Z : Type 0} → Paths → String Z → Option (String Z) → ExitStatus → Type 0
IsStatusOfNoImage at path map answered = IsStatusOfNone (at (string_bytes path)) answered ⊎ IsStatusOfNoNames at map answered

-- `ir stale`: the stale writes, of an image those that rest on what was read
abbrev pub PrintsStale : Paths → StaleArguments → ExitStatus → Writer → Writer → Type 0
PrintsStale at arguments = PrintsOfFiles at arguments.trace arguments.image (λ trace. IsPrinted (IsAnswerOf IsStaleAnswer (recorded_at trace)))
    (λ image trace. IsPrinted (IsFitAnswerOf IsRestsAnswer image trace))

-- what `ir who` asks
abbrev pub who_asked : WhoArguments → who.Question
who_asked arguments = record { object = arguments.object; version = arguments.version }

abbrev pub word_asked : WhoArguments → ℕ → word.Question
word_asked arguments number = record { object = arguments.object; word = number }

-- the versions of an object of a run, or those in which a word changed
abbrev pub PrintsVersions : List ℕ → List ℕ → WhoArguments → ExitStatus → Writer → Writer → Type 0
PrintsVersions image trace arguments answered out faults = MatchOption arguments.word
    (PrintedIfThere (IsFitAnswerOf (IsFitWhoAnswer (who_asked arguments)) image trace)
    (IsFitUnanswered (who_asked arguments) image trace) answered out faults)
    (λ number. PrintedIfThere (IsFitAnswerOf (IsWordAnswer (word_asked arguments number)) image trace)
    (IsWordUnanswered (word_asked arguments number) image trace) answered out faults)

-- `ir who`
abbrev pub PrintsWho : Paths → WhoArguments → ExitStatus → Writer → Writer → Type 0
PrintsWho at arguments = PrintsOfFiles at arguments.trace arguments.image
    (λ trace. PrintedIfThere (IsAnswerOf (IsWhoAnswer (who_asked arguments)) (recorded_at trace)) (IsWhoUnanswered (who_asked arguments) (recorded_at trace)))
    (λ image trace. PrintsVersions image trace arguments)

-- what `ir why` asks
abbrev pub why_asked : WhyArguments → why.Question
why_asked arguments = record { thread = arguments.thread; event = arguments.event; most = arguments.lines }

abbrev pub why_asked_at : WhyArguments → FitQuestion
why_asked_at arguments = record { what = why_asked arguments; at = arguments.at }

-- `ir why`
abbrev pub PrintsWhy : Paths → WhyArguments → ExitStatus → Writer → Writer → Type 0
PrintsWhy at arguments = PrintsOfFiles at arguments.trace arguments.image
    (λ trace. PrintedIfThere (IsWhyAnswer (why_asked arguments) (recorded_at trace)) (IsWhyUnanswered (why_asked arguments) (recorded_at trace)))
    (λ image trace. PrintedIfThere (IsFitAnswerOf (IsFitReason (why_asked_at arguments)) image trace) (IsWhyFitUnanswered (why_asked_at arguments) image trace))

-- `ir diff`
abbrev pub PrintsDiff : Paths → DiffArguments → ExitStatus → Writer → Writer → Type 0
PrintsDiff at arguments answered out faults = OfTraces (at (string_bytes arguments.first)) (at (string_bytes arguments.second)) (λ first second.
    IsPrinted (IsDiffAnswer (recorded_at first) (recorded_at second)) answered out faults)

-- what `ir view` asks: the data alone, events for other viewers, or else the page
abbrev pub form_asked : Bool → Bool → Form
form_asked true chrome = form.Data
form_asked false true = form.Chrome
form_asked false false = form.Page

abbrev pub around_of : Part → Around
around_of part = record { thread = part.thread; event = part.event; span = part.span }

abbrev pub view_asked : ViewArguments → Asked
view_asked arguments = record { form = form_asked arguments.json arguments.chrome; around = option_map around_of arguments.part }

-- `ir view`
abbrev pub PrintsView : Paths → ViewArguments → ExitStatus → Writer → Writer → Type 0
PrintsView at arguments = PrintsOfFiles at arguments.trace arguments.image
    (λ trace. PrintedIfThere (IsViewAnswer (view_asked arguments) (recorded_at trace)) (IsViewUnanswered (view_asked arguments) (recorded_at trace)))
    (λ image trace. PrintedIfThere (IsRunViewAnswer (view_asked arguments) image trace) (IsRunViewUnanswered (view_asked arguments) image trace))

-- no answer is printed where a file isn't read, and a line tells why
pub record LeavesUnread (is_status is_kept : Type 0) (faults : Writer) : Type 0 where
  pub status : is_status
  pub kept : is_kept
  pub told : TellsFault faults

-- questions about the trace in a file, and about its run if an image is named, were answered so; or a file isn't read
abbrev pub AnswersFiles : {Y Z : Type 0} → Paths → String Y → Option (String Z) → (List ℕ → ExitStatus → Writer → Writer → Type 0)
    → (List ℕ → List ℕ → ExitStatus → Writer → Writer → Type 0) → ExitStatus → Writer → Writer → Type 0 → Type 0
AnswersFiles at trace image OfItsTrace OfItsRun answered out faults unprinted =
    PrintsOfFiles at trace image OfItsTrace OfItsRun answered out faults ⊎ LeavesUnread (IsUnread at image answered) unprinted faults
