-- The data of a picture: numbers in brackets.
use Rattle.std.specs.Prelude.{ℕ, zero, suc, ◌==◌, nat_lt, if◌then◌else◌, Bool, true, false, List, [], ◌∷◌, ◌++◌, codes, decimal, length, take, drop, Option, Some, None}
use Rattle.ir_thread.specs.State.{end_number, end_code}
use Rattle.ir_thread.specs.declared.profile.Profile.{Profile}
use Rattle.ir_thread.specs.declared.profile.Profile.TheVariants.{One, Two}
use Rattle.ir_log.specs.declared.event.Event.{Event}
use Rattle.ir_log.specs.declared.event.Event.TheVariants.{Answer, Read, Write, Try}
use Rattle.ir_trace.specs.Recorded.{Recorded, RecordedThread, recorded_thread}
use Rattle.ir_trace.specs.Encoding.{kind_tag}
use Rattle.ir_past.specs.declared.stale_write.StaleWrite.{StaleWrite}
use Rattle.ir_picture.specs.declared.asked.Around.{Around}
use Rattle.ir_picture.specs.declared.event_box.EventBox.{EventBox}
use Rattle.ir_picture.specs.declared.placed_box.Point.{Point}
use Rattle.ir_picture.specs.declared.placed_box.PlacedBox.{PlacedBox}
use Rattle.ir_picture.specs.declared.picture.Picture.{Picture}

-- a number after a comma
abbrev pub comma : ℕ → List ℕ
comma n = codes "," ++ decimal n

-- what comes before row k of a list: each row begins a line
abbrev pub row_start : ℕ → List ℕ
row_start k = if k == 0 then codes "\n" else codes ",\n"

-- rows of a list, of which the first is row k
unfoldable pub rows_from : {A : Type 0} → (A → List ℕ) → ℕ → List A → List ℕ
rows_from row k [] = []
rows_from row k (x ∷ xs) = row_start k ++ (row x ++ rows_from row (suc k) xs)

-- a list: its name, and its rows in brackets
abbrev pub named_list : {A : Type 0} → List ℕ → (A → List ℕ) → List A → List ℕ
named_list name row xs = name ++ (rows_from row 0 xs ++ codes "\n]")

-- the number of a profile
abbrev pub picture_profile_number : Profile → ℕ
picture_profile_number One = 1
picture_profile_number Two = 2

-- an event: its tag in a trace, its object or value, its version, its readers
abbrev pub event_numbers : Event → List ℕ
event_numbers (Answer kind value) = comma (kind_tag kind) ++ (comma value ++ codes ",0,0")
event_numbers (Read object version) = codes ",4" ++ (comma object ++ (comma version ++ codes ",0"))
event_numbers (Write object version readers) = codes ",5" ++ (comma object ++ (comma version ++ comma readers))
event_numbers (Try object) = codes ",6" ++ (comma object ++ codes ",0,0")

-- the events of a box
abbrev pub events_in : Recorded → EventBox → List Event
events_in r b = take b.count (drop b.event (recorded_thread r b.thread).events)

-- the numbers of the first of these events
abbrev pub first_numbers : List Event → List ℕ
first_numbers [] = []
first_numbers (e ∷ es) = event_numbers e

-- the places of a box, and its row
abbrev pub place_numbers : PlacedBox → List ℕ
place_numbers b = comma b.start.x ++ (comma b.end.x ++ (comma b.start.u ++ (comma b.end.u ++ (comma b.came ++ comma b.row))))

-- the version at which these events read object o, by the first that does
unfoldable pub version_read : ℕ → List Event → Option ℕ
version_read o [] = None
version_read o (Answer kind value ∷ es) = version_read o es
version_read o (Read object version ∷ es) = if object == o then Some version else version_read o es
version_read o (Write object version readers ∷ es) = version_read o es
version_read o (Try object ∷ es) = version_read o es

-- an object, and the version at which it was read
abbrev pub read_pair : ℕ → ℕ → List ℕ
read_pair o v = codes "[" ++ (decimal o ++ (comma v ++ codes "]"))

-- the same in a list, if the object was read
abbrev pub read_entry_number : ℕ → Option ℕ → List (List ℕ)
read_entry_number o None = []
read_entry_number o (Some v) = read_pair o v ∷ []

-- of the first n objects those that these events read
unfoldable pub read_pairs : ℕ → List Event → List (List ℕ)
read_pairs zero es = []
read_pairs (suc o) es = read_pairs o es ++ read_entry_number o (version_read o es)

-- texts with a comma between
unfoldable pub with_commas : List (List ℕ) → List ℕ
with_commas [] = []
with_commas (x ∷ []) = x
with_commas (x ∷ y ∷ ys) = x ++ (codes "," ++ with_commas (y ∷ ys))

-- what is said of a box of more than one event: that it has no steps, and what it reads of this many objects
abbrev pub fold_numbers : ℕ → List Event → List ℕ
fold_numbers objects es =
    if nat_lt 1 (length es) then codes ",-1,-1,[" ++ (with_commas (read_pairs objects es) ++ codes "]") else []

-- the row of a box with these events, which ends so
abbrev pub row_with : List Event → PlacedBox → List ℕ → List ℕ
row_with es b last =
    codes "[" ++ (decimal b.events.thread ++ (comma b.events.event ++ (comma b.events.count ++ (first_numbers es ++ (place_numbers b
    ++ (last ++ codes "]"))))))

-- the row of a box with these events
abbrev pub row_of : ℕ → List Event → PlacedBox → List ℕ
row_of objects es b = row_with es b (fold_numbers objects es)

-- the row of a box of a trace
abbrev pub box_row : Recorded → PlacedBox → List ℕ
box_row r b = row_of r.objects (events_in r b.events) b

-- the row of a thread that ends at a point
abbrev pub thread_row : RecordedThread → Point → List ℕ
thread_row t p =
    codes "{\"end\":" ++ (decimal (end_number t.end) ++ (codes ",\"code\":" ++ (decimal (end_code t.end) ++ (codes ",\"steps\":" ++ (decimal t.steps
    ++ (codes ",\"events\":" ++ (decimal (length t.events) ++ (codes ",\"x\":" ++ (decimal p.x ++ (codes ",\"u\":" ++ (decimal p.u ++ codes "}")))))))))))

-- the rows of these threads, of which the first is row k
unfoldable pub thread_rows : ℕ → List RecordedThread → List Point → List ℕ
thread_rows k (t ∷ ts) (p ∷ ps) = row_start k ++ (thread_row t p ++ thread_rows (suc k) ts ps)
thread_rows k [] ps = []
thread_rows k (t ∷ ts) [] = []

-- the row of a stale write: its thread, the read, the write
abbrev pub stale_row : StaleWrite → List ℕ
stale_row x = codes "[" ++ (decimal x.thread ++ (comma x.read ++ (comma x.event ++ codes "]")))

-- the event that a part of a picture is around, and how far it goes
abbrev pub around_part : Option Around → List ℕ
around_part None = []
around_part (Some near) = codes ",\"around\":[" ++ (decimal near.thread ++ (comma near.event ++ (comma near.span ++ codes "]")))

-- whether the boxes have steps, in a word
abbrev pub steps_word : Bool → List ℕ
steps_word true = codes "true"
steps_word false = codes "false"

-- what comes before the lists
abbrev pub data_start : Bool → Recorded → Option Around → List ℕ
data_start steps r near =
    codes "{\"ir_view\":1,\"steps\":" ++ (steps_word steps ++ (codes ",\"objects\":" ++ (decimal r.objects ++ (codes ",\"profile\":"
    ++ (decimal (picture_profile_number r.profile) ++ around_part near)))))

-- the threads
abbrev pub thread_list : Recorded → List Point → List ℕ
thread_list r ends = codes ",\"threads\":[" ++ (thread_rows 0 r.threads ends ++ codes "\n]")

-- the data of a picture
abbrev pub data_text : Recorded → Option Around → Picture → List ℕ
data_text r near p =
    data_start false r near ++ (thread_list r p.ends.items ++ (named_list (codes ",\"boxes\":[") (box_row r) p.boxes.items
    ++ (named_list (codes ",\"stale\":[") stale_row p.stale.items ++ codes "}")))
