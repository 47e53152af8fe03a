-- Lines that are put one after the other.
use Rattle.std.proofs.Common.{◌≡◌, ◌+◌, ◌<◌, ℕ, suc, List, [], ◌++◌, length, get_or, refl, sym, ap, ◌∙◌, subst, append_assoc, arith}
use Rattle.std.specs.Prelude.{slice_get, slice_index, Some}
use Rattle.std.specs.List.{slice_index_or}
use Rattle.std.proofs.lemmas.Option.{slice_get_read}
use Rattle.ir_log.specs.declared.event.Event.{Event}
use Rattle.ir_trace.specs.Recorded.{recorded_thread}
use Rattle.ir_fit.specs.Fit.{FittedTrace}
use Rattle.ir_symbols.specs.Symbols.{Symbol}
use Rattle.ir_events.specs.declared.logged.Logged.{Logged}
use Rattle.ir_events.specs.Texts.{named_line, logged_at, event_line_if, first_event_lines, thread_text, first_threads}

-- one line more
pub first_lines_step : (f : FittedTrace) (lists : List (List ℕ)) (symbols : List Symbol) (t n : ℕ) (l : Logged) (before so_far after : List ℕ)
    → slice_get (recorded_thread f.recorded t).events n ≡ Some l.event → l ≡ logged_at f lists t n l.event
    → so_far ≡ before ++ first_event_lines f lists symbols t n → after ≡ so_far ++ named_line symbols l
    → after ≡ before ++ first_event_lines f lists symbols t (n + 1)
unfolding first_event_lines
first_lines_step f lists symbols t n l before so_far after there is e h =
    let line : event_line_if f lists symbols t n (slice_get (recorded_thread f.recorded t).events n) ≡ named_line symbols l =
    ap (event_line_if f lists symbols t n) there ∙ ap (named_line symbols) (sym is) in
    h ∙ ap (λ z. z ++ named_line symbols l) e ∙ append_assoc before (first_event_lines f lists symbols t n) (named_line symbols l)
    ∙ ap (λ z. before ++ (first_event_lines f lists symbols t n ++ z)) (sym line)
    ∙ (let on : n + 1 ≡ suc n = omega arith in ap (λ k. before ++ first_event_lines f lists symbols t k) (sym on))

-- one thread more
pub first_threads_step : (f : FittedTrace) (lists : List (List ℕ)) (symbols : List Symbol) (n : ℕ) (so_far after : List ℕ)
    → so_far ≡ first_threads f lists symbols n → after ≡ so_far ++ thread_text f lists symbols n
    → after ≡ first_threads f lists symbols (n + 1)
unfolding first_threads
first_threads_step f lists symbols n so_far after e h = h ∙ ap (λ z. z ++ thread_text f lists symbols n) e
    ∙ (let on : n + 1 ≡ suc n = omega arith in ap (first_threads f lists symbols) (sym on))
