-- The lines of `ir why` where it is asked with an image.
use Rattle.std.specs.Prelude.{ℕ, nat_lt, List, [], ◌∷◌, ◌++◌, if◌then◌else◌, codes, decimal, flat_map, Option, Some, None}
use Rattle.ir_log.specs.Logging.{label_of}
use Rattle.ir_log.specs.declared.event.Event.{Event}
use Rattle.ir_text.specs.Texts.{event_text}
use Rattle.ir_cut.specs.Positions.{cut_of}
use Rattle.ir_past.specs.Naming.{place_text}
use Rattle.ir_past.specs.declared.place.Place.{Place}
use Rattle.ir_opened.specs.Positions.{step_part}
use Rattle.ir_why.specs.Lines.{past_line}
use Rattle.ir_why.specs.declared.need.Need.{Need}
use Rattle.ir_why.specs.declared.wait.Wait.{Wait}

-- whether a cut has step k of thread t, if there is a cut
abbrev pub met_part : Option (List ℕ) → ℕ → ℕ → List ℕ
met_part None t k = []
met_part (Some at) t k = if nat_lt k (cut_of at t) then codes " met" else codes " open"

-- the step by which thread t leaves what it entered, if it does, and whether a cut has it
abbrev pub left_part : Option (List ℕ) → ℕ → Option ℕ → List ℕ
left_part at t None = []
left_part at t (Some k) = codes " left at step " ++ (decimal k ++ met_part at t k)

-- the line of the event, which is logged after k steps of its thread
abbrev pub here_line : Place → Event → ℕ → List ℕ
here_line p e k = place_text p ++ (step_part k ++ (codes " " ++ (event_text (label_of e) ++ 10 ∷ [])))

-- the line of an event that is needed
abbrev pub fit_need_line : Option (List ℕ) → Need → List ℕ
fit_need_line at x = codes "needs " ++ (place_text x.place ++ (codes " " ++ (event_text (label_of x.event)
    ++ (left_part at x.place.thread x.left ++ 10 ∷ []))))

-- the line of the least cut
abbrev pub least_line : List ℕ → List ℕ
least_line cut = codes "least" ++ (flat_map (λ n. codes " " ++ decimal n) cut ++ 10 ∷ [])

-- the line of a wait
abbrev pub wait_line : Wait → List ℕ
wait_line w = codes "since " ++ (place_text w.waiting ++ (step_part w.step ++ (codes " waited for " ++ (place_text w.needed
    ++ (step_part w.left ++ 10 ∷ [])))))

-- all lines: the event, what it needs, how much is before it, the least cut, and the waits
abbrev pub fit_text : Option (List ℕ) → List ℕ → List Need → List ℕ → List ℕ → List Wait → List ℕ
fit_text at here needs counts least waits =
    here ++ (flat_map (fit_need_line at) needs ++ (past_line counts ++ (least_line least ++ flat_map wait_line waits)))
