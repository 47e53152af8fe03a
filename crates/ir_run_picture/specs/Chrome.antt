-- A picture of a run as events for other viewers: that of a trace, with steps and with how stale writes rest on their reads.
use Rattle.std.specs.Prelude.{ℕ, nat_lt, if◌then◌else◌, List, [], ◌++◌, codes, decimal, length, flat_map, Option, Some, None}
use Rattle.ir_log.specs.declared.event.Event.{Event}
use Rattle.ir_fit.specs.Fit.{FittedTrace}
use Rattle.ir_events.specs.Events.{event_entry}
use Rattle.ir_stale_run.specs.declared.reason.Reason.{Reason}
use Rattle.ir_stale_run.specs.declared.reason.Reason.TheVariants.{Value, Way}
use Rattle.ir_stale_run.specs.declared.rest.Rest.{Rest}
use Rattle.ir_picture.specs.Numbers.{events_in}
use Rattle.ir_picture.specs.Chrome.{slice_start, fold_arguments, stale_argument, stale_at}
use Rattle.ir_run_picture.specs.declared.drawn.Drawn.{Drawn}
use Rattle.ir_run_picture.specs.declared.resting.Resting.{Resting}

-- how many steps a thread took before the last step of an event, if it has one
abbrev pub last_argument : Option ℕ → List ℕ
last_argument None = []
last_argument (Some k) = codes ",\"last_step\":" ++ decimal k

-- the steps of a box of one of these events; a box of several has none
abbrev pub step_arguments : FittedTrace → List Event → Drawn → List ℕ
step_arguments f es d =
    if nat_lt 1 (length es) then [] else codes ",\"step\":" ++ (decimal (event_entry f d.own.events.thread d.own.events.event) ++ last_argument d.last)

-- how a thread would have differed
abbrev pub would_words : Reason → List ℕ
would_words Value = codes "put another value"
would_words Way = codes "go another way"

-- how a stale write rests on its read: the word that is another, what it was and is, and how the thread would have differed
abbrev pub rest_arguments : Rest → List ℕ
rest_arguments x =
    codes ",\"word\":" ++ (decimal x.word ++ (codes ",\"was\":" ++ (decimal x.was ++ (codes ",\"is\":" ++ (decimal x.is
    ++ (codes ",\"would\":\"" ++ (would_words x.reason ++ codes "\"")))))))

-- what is said of a stale write that rests on its read
abbrev pub resting_arguments : Option Resting → List ℕ
resting_arguments None = []
resting_arguments (Some x) = stale_argument (Some x.write) ++ rest_arguments x.rest

-- the line of a box with these events, of which the first is this stale write, if it is one
abbrev pub drawn_slice : FittedTrace → List Event → Option Resting → Drawn → List ℕ
drawn_slice f es resting d =
    slice_start es d.own ++ (fold_arguments f.recorded.objects es ++ (step_arguments f es d ++ (resting_arguments resting ++ codes "}}")))

-- the line of a box of a run with these stale writes
abbrev pub drawn_line : FittedTrace → List Resting → Drawn → List ℕ
drawn_line f kept d =
    drawn_slice f (events_in f.recorded d.own.events) (stale_at (λ (x : Resting). x.write) kept d.own.events.thread d.own.events.event) d

-- the lines of these boxes
abbrev pub drawn_slices : FittedTrace → List Resting → List Drawn → List ℕ
drawn_slices f kept drawn = flat_map (drawn_line f kept) drawn
