-- A picture as events for other viewers: a slice for each box, an instant for an answer of the environment and for the end of a thread, an arrow for
-- each version seen.
use Rattle.std.specs.Prelude.{◌≡◌, ◌≢◌, ℕ, zero, suc, ◌+◌, ◌*◌, ◌-◌, ◌<◌, ◌==◌, ◌&&◌, nat_lt, if◌then◌else◌, List, [], ◌∷◌, ◌++◌, codes, decimal, length, flat_map, Option, Some, None}
use Rattle.std.specs.List.{slice_get}
use Rattle.ir_log.specs.Logging.{label_of}
use Rattle.ir_log.specs.declared.event.Event.{Event}
use Rattle.ir_log.specs.declared.event.Event.TheVariants.{Answer, Read, Write, Try}
use Rattle.ir_text.specs.Texts.{event_text}
use Rattle.ir_thread.specs.declared.end.End.{End}
use Rattle.ir_thread.specs.declared.end.End.TheVariants as end
use Rattle.ir_trace.specs.Recorded.{Recorded, RecordedThread}
use Rattle.ir_files.specs.declared.exit_status.ExitStatus.{ExitStatus}
use Rattle.ir_files.specs.declared.exit_status.ExitStatus.TheVariants.{Done}
use Rattle.ir_past.specs.Past.{event_at, entered}
use Rattle.ir_past.specs.declared.stale_write.StaleWrite.{StaleWrite}
use Rattle.ir_picture.specs.Needs.{IsEntryOf, IsMakerOf}
use Rattle.ir_coherence.specs.Before.{IsBefore}
use Rattle.ir_picture.specs.Numbers.{events_in, read_pairs, with_commas, thread_row}
use Rattle.ir_picture.specs.declared.asked.Around.{Around}
use Rattle.ir_picture.specs.declared.placed_box.Point.{Point}
use Rattle.ir_picture.specs.declared.placed_box.PlacedBox.{PlacedBox}
use Rattle.ir_picture.specs.declared.picture.Picture.{Picture}
use Rattle.ir_picture.specs.declared.sights.Sight.{Sight}

-- the number of a thread's first row: 64 for each thread, since other viewers want the slices of a row to nest
abbrev pub row_number : ℕ → ℕ
row_number t = t * 64

-- the number of the row of a box
abbrev pub row_number_of : PlacedBox → ℕ
row_number_of b = row_number b.events.thread + b.row

-- the process, in which all threads are
abbrev pub process_line : List ℕ
process_line = codes "{\"name\":\"process_name\",\"ph\":\"M\",\"pid\":1,\"tid\":0,\"args\":{\"name\":\"guest\"}}"

-- what names a thread's row, and what sets its place
abbrev pub thread_lines : ℕ → List ℕ
thread_lines t =
    codes ",\n{\"name\":\"thread_name\",\"ph\":\"M\",\"pid\":1,\"tid\":" ++ (decimal (row_number t) ++ (codes ",\"args\":{\"name\":\"thread " ++ (decimal t
    ++ (codes "\"}},\n{\"name\":\"thread_sort_index\",\"ph\":\"M\",\"pid\":1,\"tid\":" ++ (decimal (row_number t) ++ (codes ",\"args\":{\"sort_index\":"
    ++ (decimal (row_number t) ++ codes "}}")))))))

-- the category of an event
abbrev pub category : Event → List ℕ
category (Answer kind value) = codes "call"
category (Read object version) = codes "read"
category (Write object version readers) = codes "write"
category (Try object) = codes "try"

-- the name of a box with these events
abbrev pub box_name : List Event → List ℕ
box_name [] = []
box_name (e ∷ []) = event_text (label_of e)
box_name (e ∷ f ∷ es) = codes "again x" ++ decimal (length (e ∷ f ∷ es))

-- what an event is drawn as: an answer as an instant, all else as a slice of this length
abbrev pub phase : Event → ℕ → List ℕ
phase (Answer kind value) long = codes "\"i\",\"s\":\"t\""
phase (Read object version) long = codes "\"X\",\"dur\":" ++ decimal long
phase (Write object version readers) long = codes "\"X\",\"dur\":" ++ decimal long
phase (Try object) long = codes "\"X\",\"dur\":" ++ decimal long

-- what is known of an event: its object or value, the version that it finds, of a write the version that it makes and the readers that left before it
abbrev pub event_arguments : Event → List ℕ
event_arguments (Answer kind value) = codes ",\"value\":" ++ decimal value
event_arguments (Read object version) = codes ",\"object\":" ++ (decimal object ++ (codes ",\"version\":" ++ decimal version))
event_arguments (Write object version readers) =
    codes ",\"object\":" ++ (decimal object ++ (codes ",\"version\":" ++ (decimal version ++ (codes ",\"new_version\":" ++ (decimal (version + 1)
    ++ (codes ",\"readers\":" ++ decimal readers))))))
event_arguments (Try object) = codes ",\"object\":" ++ decimal object

-- the same of the first of these events
abbrev pub first_arguments : List Event → List ℕ
first_arguments [] = []
first_arguments (e ∷ es) = event_arguments e

-- what a box of more than one event reads of this many objects, each with its version
abbrev pub fold_arguments : ℕ → List Event → List ℕ
fold_arguments objects es =
    if nat_lt 1 (length es) then codes ",\"reads\":[" ++ (with_commas (read_pairs objects es) ++ codes "]") else []

-- the first of these, with each of which a stale write goes, whose stale write is event i of thread t
unfoldable pub stale_at : {A : Type 0} → (A → StaleWrite) → List A → ℕ → ℕ → Option A
stale_at write [] t i = None
stale_at write (x ∷ xs) t i = if ((write x).thread == t) && ((write x).event == i) then Some x else stale_at write xs t i

-- what is said of a stale write: that it is one, and the event that it read
abbrev pub stale_argument : Option StaleWrite → List ℕ
stale_argument None = []
stale_argument (Some x) = codes ",\"stale\":true,\"read_at_event\":" ++ decimal x.read

-- the time at a place: other viewers get ten of theirs for each
abbrev pub time_of : ℕ → ℕ
time_of x = x * 10

-- the first of these events, in what it is and what it is drawn as
abbrev pub drawn_as : List Event → ℕ → List ℕ
drawn_as [] long = []
drawn_as (e ∷ es) long = codes "\"cat\":\"" ++ (category e ++ (codes "\",\"ph\":" ++ phase e long))

-- the line of a box with these events up to where it is: its name, and what it is drawn as
abbrev pub slice_head : List Event → PlacedBox → List ℕ
slice_head es b = codes ",\n{\"name\":\"" ++ (box_name es ++ (codes "\"," ++ drawn_as es (time_of (b.end.x - b.start.x))))

-- where it is, and its events
abbrev pub slice_place : PlacedBox → List ℕ
slice_place b =
    codes ",\"ts\":" ++ (decimal (time_of b.start.x) ++ (codes ",\"pid\":1,\"tid\":" ++ (decimal (row_number_of b)
    ++ (codes ",\"args\":{\"event\":" ++ (decimal b.events.event ++ (codes ",\"events\":" ++ decimal b.events.count))))))

-- the line up to what is known of the first event
abbrev pub slice_start : List Event → PlacedBox → List ℕ
slice_start es b = slice_head es b ++ (slice_place b ++ first_arguments es)

-- the line of a box with these events, of which the first is this stale write, if it is one, where there are this many objects
abbrev pub slice_line : ℕ → List Event → Option StaleWrite → PlacedBox → List ℕ
slice_line objects es stale b = slice_start es b ++ (fold_arguments objects es ++ (stale_argument stale ++ codes "}}"))

-- the line of a box of a trace with these stale writes
abbrev pub box_line : Recorded → List StaleWrite → PlacedBox → List ℕ
box_line r stale b = slice_line r.objects (events_in r b.events) (stale_at (λ (x : StaleWrite). x) stale b.events.thread b.events.event) b

-- the lines of the boxes of a picture of a trace
abbrev pub picture_slices : Recorded → Picture → List ℕ
picture_slices r p = flat_map (box_line r p.stale.items) p.boxes.items

-- event i of thread t sees version v of object o that the thread's entry of o before didn't find
pub record SeesNew (r : Recorded) (t i o v : ℕ) : Type 0 where
  pub entry : IsEntryOf r t i o v
  pub new : (h : ℕ) → h < i → IsEntryOf r t h o v → (k : ℕ) × (e : Event) × (h < k) × (k < i) × (event_at r t k ≡ Some e) × (entered e ≡ Some o)

-- a box sees what the write entry of another thread's box made, and both are among these
pub record IsChromeSight (r : Recorded) (boxes : List PlacedBox) (s : Sight) : Type 0 where
  pub version : ℕ
  pub sees : SeesNew r s.seer.events.thread s.seer.events.event s.object version
  pub made : IsMakerOf r s.seer.events.thread s.seer.events.event s.maker.events.thread s.maker.events.event
  pub others : s.maker.events.thread ≢ s.seer.events.thread
  pub from : ℕ
  pub to : ℕ
  pub maker : slice_get boxes from ≡ Some s.maker
  pub seer : slice_get boxes to ≡ Some s.seer

-- all that boxes see, in the order of those that see it
pub record AreSights (r : Recorded) (boxes : List PlacedBox) (sights : List Sight) : Type 0 where
  pub each : (k : ℕ) (s : Sight) → slice_get sights k ≡ Some s → IsChromeSight r boxes s
  pub all : (s : Sight) → IsChromeSight r boxes s → (k : ℕ) × (slice_get sights k ≡ Some s)
  pub rising : (k m : ℕ) (s z : Sight) → k < m → slice_get sights k ≡ Some s → slice_get sights m ≡ Some z
      → IsBefore s.seer.events.thread s.seer.events.event z.seer.events.thread z.seer.events.event

-- one end of the arrow of a number, at a time in the row of this number
abbrev pub arrow_end : ℕ → List ℕ → ℕ → ℕ → ℕ → List ℕ
arrow_end object phase number time row =
    codes ",\n{\"name\":\"object " ++ (decimal object ++ (codes "\",\"cat\":\"sees\",\"ph\":" ++ (phase ++ (codes ",\"id\":" ++ (decimal number
    ++ (codes ",\"ts\":" ++ (decimal time ++ (codes ",\"pid\":1,\"tid\":" ++ (decimal row ++ codes "}")))))))))

-- the lines of an arrow: it leaves at the last time in the maker's slice
abbrev pub arrow_lines : ℕ → Sight → List ℕ
arrow_lines k s =
    arrow_end s.object (codes "\"s\"") k (time_of s.maker.end.x - 1) (row_number_of s.maker)
    ++ arrow_end s.object (codes "\"f\",\"bp\":\"e\"") k (time_of s.seer.start.x) (row_number_of s.seer)

-- the lines of arrows, of which the first has number k
unfoldable pub all_arrows : ℕ → List Sight → List ℕ
all_arrows k [] = []
all_arrows k (s ∷ ss) = arrow_lines k s ++ all_arrows (suc k) ss

-- the lines of the threads before thread n
unfoldable pub all_threads : ℕ → List ℕ
all_threads zero = []
all_threads (suc t) = all_threads t ++ thread_lines t

-- how a thread ended, in words
abbrev pub end_name : End → List ℕ
end_name (end.Exit code) = codes "end, code " ++ decimal code
end_name end.Breakpoint = codes "breakpoint"
end_name end.IllegalWord = codes "no instruction"
end_name end.TargetMisaligned = codes "misaligned jump"
end_name end.OutsideCode = codes "outside the code"
end_name end.BadLoad = codes "bad load"
end_name end.BadStore = codes "bad store"
end_name end.UnknownCall = codes "unknown call"
end_name end.NoSuchObject = codes "no such object or word"
end_name end.EntryOutOfOrder = codes "entry out of order"
end_name end.NotHeld = codes "not held"
end_name end.OutputFull = codes "too much output"
end_name end.BudgetSpent = codes "budget spent"
end_name end.LogFull = codes "too many events"

-- the line of the end of thread t at a point up to what is known of it
abbrev pub end_start : ℕ → End → Point → List ℕ
end_start t ended p =
    codes ",\n{\"name\":\"" ++ (end_name ended ++ (codes "\",\"cat\":\"end\",\"ph\":\"i\",\"s\":\"t\",\"ts\":" ++ (decimal (time_of p.x)
    ++ (codes ",\"pid\":1,\"tid\":" ++ decimal (row_number t)))))

-- the line of the end of thread t, which is this one, at a point
abbrev pub thread_end_line : ℕ → RecordedThread → Point → List ℕ
thread_end_line t thread p = end_start t thread.end p ++ (codes ",\"args\":" ++ (thread_row thread p ++ codes "}"))

-- the lines of the ends of these threads, of which the first is thread k
unfoldable pub end_lines : ℕ → List RecordedThread → List Point → List ℕ
end_lines k (t ∷ ts) (p ∷ ps) = thread_end_line k t p ++ end_lines (suc k) ts ps
end_lines k [] ps = []
end_lines k (t ∷ ts) [] = []

-- of all of a trace the ends of its threads, of a part none
abbrev pub ends_part : Recorded → Option Around → List Point → List ℕ
ends_part r None ends = end_lines 0 r.threads ends
ends_part r (Some near) ends = []

-- what comes before the lines of boxes
abbrev pub chrome_head : Recorded → Option Around → List Point → List ℕ
chrome_head r near ends = codes "{\"traceEvents\":[\n" ++ (process_line ++ (all_threads (length r.threads) ++ ends_part r near ends))

-- what comes after the lines of arrows
abbrev pub chrome_end : List ℕ
chrome_end = codes "\n],\"displayTimeUnit\":\"ns\",\"otherData\":{\"source\":\"ir view\"}}\n"

-- the rows, the ends, the lines of boxes, and the arrows of what is seen
abbrev pub chrome_text : Recorded → Option Around → List Point → List ℕ → List Sight → List ℕ
chrome_text r near ends slices sights = chrome_head r near ends ++ (slices ++ (all_arrows 0 sights ++ chrome_end))

-- the events for other viewers of a picture whose boxes have these lines
pub record IsChrome (r : Recorded) (near : Option Around) (p : Picture) (slices text : List ℕ) : Type 0 where
  pub sights : List Sight
  pub all : AreSights r p.boxes.items sights
  pub lines : text ≡ chrome_text r near p.ends.items slices sights

-- the answer that is the events for other viewers
abbrev pub IsChromeAnswer : Recorded → Option Around → Picture → List ℕ → ExitStatus → List ℕ → Type 0
IsChromeAnswer r near p slices answered text = (answered ≡ Done) × IsChrome r near p slices text
