-- The data of a picture of a run: that of a picture, with steps and with how stale writes rest on their reads.
use Rattle.std.specs.Prelude.{ℕ, true, nat_lt, if◌then◌else◌, List, ◌++◌, codes, decimal, length, Option, Some, None}
use Rattle.ir_log.specs.declared.event.Event.{Event}
use Rattle.ir_fit.specs.Fit.{FittedTrace}
use Rattle.ir_events.specs.Events.{event_entry}
use Rattle.ir_stale_run.specs.declared.reason.Reason.{Reason}
use Rattle.ir_stale_run.specs.declared.reason.Reason.TheVariants.{Value, Way}
use Rattle.ir_stale_run.specs.declared.rest.Rest.{Rest}
use Rattle.ir_picture.specs.Numbers.{comma, events_in, fold_numbers, row_with, rows_from, named_list, data_start, thread_list}
use Rattle.ir_picture.specs.Progress.{data_head, stale_head}
use Rattle.ir_picture.specs.declared.asked.Around.{Around}
use Rattle.ir_picture.specs.declared.picture.Picture.{Picture}
use Rattle.ir_run_picture.specs.declared.drawn.Drawn.{Drawn}
use Rattle.ir_run_picture.specs.declared.resting.Resting.{Resting}

-- the last step of a box; -1, if it has none
abbrev pub last_number : Option ℕ → List ℕ
last_number None = codes ",-1"
last_number (Some k) = comma k

-- the steps of a box that begins with event i of thread t
abbrev pub step_numbers : FittedTrace → ℕ → ℕ → Option ℕ → List ℕ
step_numbers f t i last = comma (event_entry f t i) ++ last_number last

-- what a row ends with: the steps of a box of one event; of a fold that it has none, and what it reads
abbrev pub row_end : FittedTrace → List Event → Drawn → List ℕ
row_end f es d =
    if nat_lt 1 (length es) then fold_numbers f.recorded.objects es else step_numbers f d.own.events.thread d.own.events.event d.last

-- the row of a box of a run
abbrev pub drawn_row : FittedTrace → Drawn → List ℕ
drawn_row f d = row_with (events_in f.recorded d.own.events) d.own (row_end f (events_in f.recorded d.own.events) d)

-- 1 where the thread would have gone another way, 0 where it would have put another value
abbrev pub way_number : Reason → List ℕ
way_number Value = codes "0"
way_number Way = codes "1"

-- how a stale write rests on its read: the word that is another, what it was and is, and how the thread would have differed
abbrev pub rest_part : Rest → List ℕ
rest_part x = comma x.word ++ (comma x.was ++ (comma x.is ++ (codes "," ++ (way_number x.reason ++ codes "]"))))

-- the row of a stale write: its thread, the read, the write, and how it rests
abbrev pub resting_row : Resting → List ℕ
resting_row x = codes "[" ++ (decimal x.write.thread ++ (comma x.write.read ++ (comma x.write.event ++ rest_part x.rest)))

-- the data of a picture of a run
abbrev pub run_data_text : FittedTrace → Option Around → Picture → List Drawn → List Resting → List ℕ
run_data_text f near p drawn kept =
    data_start true f.recorded near ++ (thread_list f.recorded p.ends.items ++ (named_list (codes ",\"boxes\":[") (drawn_row f) drawn
    ++ (named_list (codes ",\"stale\":[") resting_row kept ++ codes "}")))

-- the data up to its end, after the rows of the stale writes
abbrev pub run_data_rows : FittedTrace → Option Around → Picture → List Drawn → List Resting → List ℕ
run_data_rows f near p drawn kept =
    data_head true f.recorded near p.ends.items ++ (rows_from (drawn_row f) 0 drawn ++ (stale_head ++ rows_from resting_row 0 kept))
