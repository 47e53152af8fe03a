-- What the texts of a picture need, and their parts.
use Rattle.std.specs.Prelude.{◌≡◌, ℕ, ◌==◌, ◌&&◌, ◌||◌, nat_lt, Bool, List, ◌++◌, codes, decimal, length, Option, Some, false}
use Rattle.std.specs.List.{slice_get}
use Rattle.ir_trace.specs.Recorded.{Recorded}
use Rattle.ir_past.specs.Past.{IsRising}
use Rattle.ir_past.specs.declared.stale_write.StaleWrite.{StaleWrite}
use Rattle.ir_picture.specs.Boxes.{IsBox}
use Rattle.ir_picture.specs.Boxing.{AreSomeBoxes}
use Rattle.ir_picture.specs.Placing.{events_of_all}
use Rattle.ir_log.specs.declared.event.Event.{Event}
use Rattle.ir_picture.specs.Numbers.{comma, rows_from, first_numbers, place_numbers, box_row, stale_row, data_start, thread_list}
use Rattle.ir_picture.specs.declared.asked.Around.{Around}
use Rattle.ir_picture.specs.declared.placed_box.Point.{Point}
use Rattle.ir_picture.specs.declared.placed_box.PlacedBox.{PlacedBox}
use Rattle.ir_picture.specs.declared.picture.Picture.{Picture}

-- all of these are boxes of a trace
abbrev pub AreBoxesOf : Recorded → List PlacedBox → Type 0
AreBoxesOf r boxes = (k : ℕ) (b : PlacedBox) → slice_get boxes k ≡ Some b → IsBox r b.events

-- a picture is one of a trace: its boxes are boxes of it in their order, each thread has an end, and the stale writes come by rising thread and
-- event
pub record IsOfPicture (r : Recorded) (p : Picture) : Type 0 where
  pub boxes : AreBoxesOf r p.boxes.items
  pub some : AreSomeBoxes r (events_of_all p.boxes.items)
  pub ends : length p.ends.items ≡ length r.threads
  pub stale : IsRising p.stale.items

-- whether a stale write comes before event i of thread t
abbrev pub comes_before : ℕ → ℕ → StaleWrite → Bool
comes_before t i x = nat_lt x.thread t || ((x.thread == t) && nat_lt x.event i)

-- how a thread ended, and how many steps it took
abbrev pub end_part : ℕ → ℕ → ℕ → List ℕ
end_part end code steps =
    codes "{\"end\":" ++ (decimal end ++ (codes ",\"code\":" ++ (decimal code ++ (codes ",\"steps\":" ++ decimal steps))))

-- how many events it has, and where it ends
abbrev pub point_part : ℕ → Point → List ℕ
point_part events p =
    codes ",\"events\":" ++ (decimal events ++ (codes ",\"x\":" ++ (decimal p.x ++ (codes ",\"u\":" ++ (decimal p.u ++ codes "}")))))

-- the places of a box behind the first, and its row
abbrev pub end_numbers : PlacedBox → List ℕ
end_numbers b = comma b.end.x ++ (comma b.start.u ++ (comma b.end.u ++ (comma b.came ++ comma b.row)))

-- the row of a box with these events up to its last numbers
abbrev pub box_start : List Event → PlacedBox → List ℕ
box_start es b =
    codes "[" ++ (decimal b.events.thread ++ (comma b.events.event ++ (comma b.events.count ++ (first_numbers es ++ place_numbers b))))

-- the data of a picture up to the rows of its boxes
abbrev pub data_head : Bool → Recorded → Option Around → List Point → List ℕ
data_head steps r near ends = data_start steps r near ++ (thread_list r ends ++ codes ",\"boxes\":[")

-- the end of the boxes, and the name of the stale writes
abbrev pub stale_head : List ℕ
stale_head = codes "\n],\"stale\":["

-- the data of a picture up to its end, after the rows of the stale writes
abbrev pub data_rows : Recorded → Option Around → Picture → List ℕ
data_rows r near p =
    data_head false r near p.ends.items ++ (rows_from (box_row r) 0 p.boxes.items ++ (stale_head ++ rows_from stale_row 0 p.stale.items))

-- one end of the arrow of a number, at a time in the row of this number, with these words before the arrow's
abbrev pub arrow_with : ℕ → List ℕ → ℕ → ℕ → ℕ → List ℕ
arrow_with object words number time row =
    codes ",\n{\"name\":\"object " ++ (decimal object ++ (words ++ (decimal number ++ (codes ",\"ts\":" ++ (decimal time
    ++ (codes ",\"pid\":1,\"tid\":" ++ (decimal row ++ codes "}")))))))
