-- A choice by priorities that fall at places which are drawn, and where a thread polls.
use Rattle.std.specs.Prelude.{ℕ, Bool, if◌then◌else◌, zero, suc, ◌+◌, ◌-◌, ◌^◌, ◌==◌, ◌&&◌, List, [], ◌∷◌, length, replicate, slice_set, nat_lt, max, min}
use Rattle.std.specs.List.{slice_index_or}
use Rattle.rand_pcg.specs.Lcg.{Lcg}
use Rattle.rand_pcg.specs.Pcg.{pcg32}
use Rattle.ir_schedule.specs.Draws.{drawn}
use Rattle.ir_schedule.specs.declared.place.Place.{Place}

-- the priorities of a guest's threads, which fall
pub record Ranking : Type 0 where
  -- of each thread
  pub priorities : List ℕ
  -- where threads fall
  pub places : List Place
  -- how often each thread was chosen
  pub taken : List ℕ
  -- the thread that went last
  pub last : ℕ
  -- how many times in a row it may still go before it falls as soon as another could go
  pub patience : ℕ
  -- how many times a thread may
  pub limit : ℕ
  -- what the next thread that polls falls to
  pub lowest : ℕ

-- the priority of a thread: the highest of those that have a step goes
abbrev pub priority : List ℕ → ℕ → ℕ
priority priorities t = slice_index_or priorities t 0

-- of t and these threads the first that no other exceeds
abbrev pub highest_rank : List ℕ → List ℕ → ℕ → ℕ
highest_rank priorities [] t = t
highest_rank priorities (u ∷ us) t = highest_rank priorities us (if nat_lt (priority priorities t) (priority priorities u) then u else t)

-- who goes of those that have a step
abbrev pub leader : List ℕ → List ℕ → ℕ
leader priorities ready = highest_rank priorities ready (slice_index_or ready 0 0)

-- the priorities of threads before any falls are above all that have fallen
abbrev pub first_priority : ℕ
first_priority = 2 ^ 34

-- what a thread falls to at the first place; at each further place it is one more
abbrev pub fallen_priority : ℕ
fallen_priority = 2 ^ 33

-- what the first thread that polls falls to is below these; each further one falls lower
abbrev pub polling_priority : ℕ
polling_priority = 2 ^ 33 - 1

-- the fewest steps in a row after which a thread polls
abbrev pub fewest_in_a_row : ℕ
fewest_in_a_row = 16

-- how often thread t was chosen
abbrev pub taken_by_rank : List ℕ → ℕ → ℕ
taken_by_rank taken t = slice_index_or taken t 0

-- whether thread t, which was chosen so often, would go at the place: it is a place of t, whose next choice is the one there
abbrev pub is_reached : Place → ℕ → ℕ → Bool
is_reached place t count = (place.thread == t) && (place.choice == count)

-- thread t falls at the place of number i, if its priority isn't lower already
abbrev pub lowered_rank : List ℕ → ℕ → ℕ → List ℕ
lowered_rank priorities t i = slice_set priorities t (min (priority priorities t) (fallen_priority + i))

-- the priorities after the place of number i: whoever would go falls if it has reached it
abbrev pub fallen_at : List ℕ → List ℕ → ℕ → Place → List ℕ → List ℕ
fallen_at ready taken i place priorities = if is_reached place (leader priorities ready) (taken_by_rank taken (leader priorities ready))
    then lowered_rank priorities (leader priorities ready) i else priorities

-- the priorities after the places from number i on
abbrev pub fallen : List ℕ → List ℕ → ℕ → List Place → List ℕ → List ℕ
fallen ready taken i [] priorities = priorities
fallen ready taken i (place ∷ places) priorities = fallen ready taken (suc i) places (fallen_at ready taken i place priorities)

-- how many steps in a row the thread that goes may still take
abbrev pub patience_of : Ranking → ℕ → ℕ
patience_of p t = (if t == p.last then p.patience else p.limit) - 1

-- whether the thread that goes polls: it has gone as often in a row as it may, and another could go
abbrev pub is_polling : Ranking → List ℕ → ℕ → Bool
is_polling p ready t = (patience_of p t == 0) && nat_lt 1 (length ready)

-- how often each thread was chosen, after a choice of thread t
abbrev pub counted : List ℕ → ℕ → List ℕ
counted taken t = slice_set taken t (min (taken_by_rank taken t + 1) (2 ^ 64 - 1))

-- the ranking after a choice; who polls falls below all others
abbrev pub settled : Ranking → List ℕ → List ℕ → ℕ → Ranking
settled p ready priorities t = if is_polling p ready t
    then record p { priorities = slice_set priorities t p.lowest; taken = counted p.taken t; last = t; patience = p.limit; lowest = p.lowest - 1 }
    else record p { priorities = priorities; taken = counted p.taken t; last = t; patience = patience_of p t }

-- who goes, by the priorities after those falls
abbrev pub chosen_by : Ranking → List ℕ → List ℕ → ℕ × Ranking
chosen_by p ready priorities = (leader priorities ready, settled p ready priorities (leader priorities ready))

-- who goes of these threads, and the ranking after it
abbrev pub chosen_highest : Ranking → List ℕ → ℕ × Ranking
chosen_highest p ready = chosen_by p ready (fallen ready p.taken 0 p.places p.priorities)

-- ---- before the first choice

-- the priorities of n threads: a word each
abbrev pub first_priorities : ℕ → Lcg → List ℕ
first_priorities zero g = []
first_priorities (suc n) g = (first_priority + (pcg32 g).0) ∷ first_priorities n (pcg32 g).1

-- the generator after n words
abbrev pub after_words : ℕ → Lcg → Lcg
after_words zero g = g
after_words (suc n) g = after_words n (pcg32 g).1

-- the place at the choice of this number, of those that threads t, t + 1 and so on have: first all of t, then all of t + 1
abbrev pub place_from : ℕ → List ℕ → ℕ → Place
place_from t [] number = record { thread = t; choice = number }
place_from t (count ∷ counts) number = if nat_lt number count then record { thread = t; choice = number } else place_from (suc t) counts (number - count)

-- how many choices these are with `total` more, at most 2^32 - 1
abbrev pub choices_from : ℕ → List ℕ → ℕ
choices_from total [] = total
choices_from total (count ∷ counts) = choices_from (min (total + count) (2 ^ 32 - 1)) counts

-- how many choices a run has in which each thread has as many, at least 1
abbrev pub choices_in : List ℕ → ℕ
choices_in counts = max (choices_from 0 counts) 1

-- n places, each at one of the choices of that run
abbrev pub first_places : List ℕ → ℕ → Lcg → List Place
first_places counts zero g = []
first_places counts (suc n) g = place_from 0 counts (drawn (choices_in counts) g).0 ∷ first_places counts n (drawn (choices_in counts) g).1

-- the ranking of `threads` threads of a guest, in one of whose runs each has as many choices, with `places` places
abbrev pub first_ranking : ℕ → List ℕ → ℕ → Lcg → Ranking
first_ranking threads counts places g = record {
  priorities = first_priorities threads g;
  places = first_places counts places (after_words threads g);
  taken = replicate threads 0;
  last = 0;
  patience = max (choices_in counts) fewest_in_a_row;
  limit = max (choices_in counts) fewest_in_a_row;
  lowest = polling_priority;
}
