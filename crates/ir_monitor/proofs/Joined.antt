-- Lines of events that are put one after the other, where no address has a name.
use Rattle.std.proofs.Common.{◌≡◌, ◌+◌, ℕ, suc, List, [], ◌++◌, Some, sym, ap, ◌∙◌, append_assoc, arith}
use Rattle.std.specs.Prelude.{slice_get}
use Rattle.ir_trace.specs.Recorded.{recorded_thread}
use Rattle.ir_fit.specs.Fit.{FittedTrace}
use Rattle.ir_events.specs.declared.logged.Logged.{Logged}
use Rattle.ir_events.specs.Texts.{named_line, logged_at, event_line_if, first_event_lines, thread_text, first_threads}

-- one line more
pub next_nameless_line : (f : FittedTrace) (lists : List (List ℕ)) (t n : ℕ) (l : Logged) (before so_far after : List ℕ)
    → slice_get (recorded_thread f.recorded t).events n ≡ Some l.event → l ≡ logged_at f lists t n l.event
    → so_far ≡ before ++ first_event_lines f lists [] t n → after ≡ so_far ++ named_line [] l
    → after ≡ before ++ first_event_lines f lists [] t (n + 1)
unfolding first_event_lines
next_nameless_line f lists t n l before so_far after there is e h =
    let line : event_line_if f lists [] t n (slice_get (recorded_thread f.recorded t).events n) ≡ named_line [] l =
    ap (event_line_if f lists [] t n) there ∙ ap (named_line []) (sym is) in
    h ∙ ap (λ z. z ++ named_line [] l) e ∙ append_assoc before (first_event_lines f lists [] t n) (named_line [] l)
    ∙ ap (λ z. before ++ (first_event_lines f lists [] t n ++ z)) (sym line)
    ∙ (let on : n + 1 ≡ suc n = omega arith in ap (λ k. before ++ first_event_lines f lists [] t k) (sym on))

-- one thread more
pub next_nameless_thread : (f : FittedTrace) (lists : List (List ℕ)) (n : ℕ) (before so_far after : List ℕ)
    → so_far ≡ before ++ first_threads f lists [] n → after ≡ so_far ++ thread_text f lists [] n
    → after ≡ before ++ first_threads f lists [] (n + 1)
unfolding first_threads
next_nameless_thread f lists n before so_far after e h = h ∙ ap (λ z. z ++ thread_text f lists [] n) e
    ∙ append_assoc before (first_threads f lists [] n) (thread_text f lists [] n)
    ∙ (let on : n + 1 ≡ suc n = omega arith in ap (λ k. before ++ first_threads f lists [] k) (sym on))
