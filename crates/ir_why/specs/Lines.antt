-- The lines of `ir why`.
use Rattle.std.specs.Prelude.{ℕ, List, [], ◌∷◌, ◌++◌, codes, decimal, flat_map, Option, Some, None}
use Rattle.ir_log.specs.Logging.{label_of}
use Rattle.ir_log.specs.declared.event.Event.{Event}
use Rattle.ir_text.specs.Texts.{event_text}
use Rattle.ir_trace.specs.Recorded.{Recorded}
use Rattle.ir_past.specs.Past.{event_at}
use Rattle.ir_past.specs.Naming.{place_text}
use Rattle.ir_past.specs.declared.place.Place.{Place}
use Rattle.ir_why.specs.declared.link.Link.{Link}

-- what an event logged, if there is one
abbrev pub logged_text : Option Event → List ℕ
logged_text None = []
logged_text (Some e) = event_text (label_of e)

-- an event: its thread, its place there, and what it logged
abbrev pub event_words : Recorded → Place → List ℕ
event_words r p = place_text p ++ (codes " " ++ (logged_text (event_at r p.thread p.event) ++ 10 ∷ []))

-- the line of an event that is needed
abbrev pub need_line : Recorded → Place → List ℕ
need_line r p = codes "needs " ++ event_words r p

-- the line of a past
abbrev pub past_line : List ℕ → List ℕ
past_line counts = codes "past" ++ (flat_map (λ n. codes " " ++ decimal n) counts ++ 10 ∷ [])

-- the line of a link
abbrev pub link_line : Link → List ℕ
link_line l = codes "since " ++ (place_text l.waiting ++ (codes " waited for " ++ (place_text l.needed ++ 10 ∷ [])))

-- all lines about an event
abbrev pub why_text : Recorded → Place → List Place → List ℕ → List Link → List ℕ
why_text r p needs counts links =
    event_words r p ++ (flat_map (need_line r) needs ++ (past_line counts ++ flat_map link_line links))
