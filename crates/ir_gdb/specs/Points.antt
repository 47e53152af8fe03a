-- Points of gdb and of a session as the points of one search: the number says which it is.
use Rattle.std.specs.Prelude.{Bool, true, false, ℕ, zero, suc, ◌+◌, ◌-◌, ◌*◌, ◌/◌, List, [], ◌∷◌, ◌++◌, length}
use Rattle.ir_command.specs.declared.command.Point.TheVariants.{Break, Watch}
use Rattle.ir_hits.specs.Hits.{Numbered}
use Rattle.ir_gdb.specs.declared.point.Watched.{Watched}
use Rattle.ir_gdb.specs.Guards.{Guarded, break_number}
use Rattle.ir_gdb.specs.Stub.{Stub, shared_breaks}

-- n words from an address on, of the private memory of thread t or of the objects, under one number
unfoldable pub word_points : ℕ → ℕ → ℕ → ℕ → List Numbered
word_points t number zero address = []
word_points t number (suc n) address = record { number = number; point = Watch t address } ∷ word_points t number n (address + 4)

-- how many words the bytes of a watch lie in
abbrev pub watched_words : Watched → ℕ
watched_words w = (w.address + w.size + 3) / 4 - w.address / 4

-- the watched words of thread t, the first watch by this number, the others by the next
unfoldable pub watch_points : ℕ → ℕ → List Watched → List Numbered
watch_points t number [] = []
watch_points t number (w ∷ ws) = word_points t number (watched_words w) (w.address / 4 * 4) ++ watch_points t (number + 1) ws

-- the breakpoints of thread t, the first at this place among the points, the others at the next
unfoldable pub break_points : ℕ → ℕ → List Guarded → List Numbered
break_points t place [] = []
break_points t place (b ∷ bs) = record { number = break_number b place; point = Break t b.point.address } ∷ break_points t (place + 1) bs

-- points of a session, under one number
unfoldable pub own_points : ℕ → List Numbered → List Numbered
own_points number [] = []
own_points number (p ∷ ps) = record { number = number; point = p.point } ∷ own_points number ps

-- upwards watches have lower numbers than breakpoints, and so are told first; breakpoints with conditions are told last
abbrev pub points_upwards : ℕ → List Watched → List Guarded → List Numbered → List Numbered
points_upwards t watches breaks own = watch_points t 0 watches ++ break_points t (length watches) breaks ++ own_points
    (length watches + length breaks) own

-- downwards breakpoints have
abbrev pub points_downwards : ℕ → List Watched → List Guarded → List Numbered → List Numbered
points_downwards t watches breaks own = break_points t 0 breaks ++ watch_points t (length breaks) watches ++ own_points
    (length breaks + length watches) own

-- with one more breakpoint of thread t
abbrev pub with_stub_point : List Numbered → ℕ → ℕ → List Numbered
with_stub_point points t address = points ++ record { number = 0; point = Break t address } ∷ []

-- the watches that count for a thread: all for the one that moves, and those of the objects for another
abbrev pub watches_if : Stub → Bool → List Watched
watches_if s true = s.watches
watches_if s false = shared_breaks s.watches

-- the points of a thread upwards and downwards
abbrev pub upwards_of : Stub → ℕ → Bool → List Numbered
upwards_of s t watched = points_upwards t (watches_if s watched) s.breaks s.desk.points

abbrev pub downwards_of : Stub → ℕ → Bool → List Numbered
downwards_of s t watched = points_downwards t (watches_if s watched) s.breaks s.desk.points
