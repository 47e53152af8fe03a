-- Where moves lead, and where a thread stops at points that are set.
use Rattle.std.proofs.Common.{◌≡◌, ℕ, ◌+◌, ◌-◌, ◌^◌, ◌<◌, ◌≤◌, min, arith, List, sym, ap, subst, ◌∙◌, Option, Some, None, inl, inr}
use Rattle.std.specs.Prelude.{if◌then◌else◌}
use Rattle.std.proofs.lemmas.Bool.{le-leb, lt-leb, cases_lt}
use Rattle.ir_runs.specs.Run.{IsLeast, IsGreatest, Step, trail}
use Rattle.ir_fit.specs.Fit.{FittedTrace, HasRun, IsRunOf}
use Rattle.ir_cut.specs.Positions.{machine_of, start_of, cut_of, EachRun, last_of, threads_of}
use Rattle.ir_cut.specs.Searching.{IsLeastCut, IsGreatestCut}
use Rattle.ir_command.specs.declared.command.Direction.{Direction}
use Rattle.ir_command.specs.declared.command.Direction.TheVariants.{Forwards, Backwards}
use Rattle.ir_command.specs.declared.command.Move.{Move}
use Rattle.ir_command.specs.declared.command.Move.TheVariants as move
use Rattle.ir_hits.specs.Hits.{Finds, Numbered, HitBy}
use Rattle.ir_debug.specs.Machine.{Leads, StopsAt, Desk, stop_of}
use Rattle.ir_debug.specs.Debugging.{ToPosition, ToLeast, ToGreatest}
use Rattle.ir_mach.specs.Execution.{memory_word}
use Rattle.ir_thread.specs.State as thread
use Rattle.ir_runs.specs.declared.access.Access.TheVariants.{Writing}
use Rattle.ir_runs.specs.Machine.{LeftAt}
use Rattle.ir_fit.proofs.CallerLemmas.{at_is_get_or}
use Rattle.ir_command.specs.declared.command.Point.{Point}
use Rattle.ir_command.specs.declared.command.Point.TheVariants.{Break, Watch, WatchObject}
use Rattle.ir_hits.specs.Seeing.{steps_of}
use Rattle.ir_command.specs.declared.hit.Hit.{Hit}
use Rattle.ir_hits.proofs.CallerLemmas.{last_step_same_thread}

leads_to_least : (f : FittedTrace) (at to : List ℕ) (t k j : ℕ) → IsLeastCut f at t k to → k ≡ j
    → EachRun f (λ run. ToLeast run f at t j to)
leads_to_least f at to t k j least same run whole = (
  least.0,
  subst (λ n. IsLeast (machine_of f) (start_of f) run (cut_of at) t n (cut_of to)) same (least.1 run whole),
)

leads_to_greatest : (f : FittedTrace) (at to : List ℕ) (t k j : ℕ) → IsGreatestCut f at t k to → k ≡ j
    → EachRun f (λ run. ToGreatest run f at t j to)
leads_to_greatest f at to t k j greatest same run whole = (
  greatest.0,
  subst (λ n. IsGreatest (machine_of f) (start_of f) run (cut_of at) t n (cut_of to)) same (greatest.1 run whole),
)

-- what the cut of a move is for each run
abbrev pub LeadsInEachRun : FittedTrace → List ℕ → Move → List ℕ → Type 0
LeadsInEachRun f at m to = EachRun f (λ run. Leads run f at m to)

abbrev pub ToPositionInEachRun : FittedTrace → List ℕ → ℕ → ℕ → List ℕ → Type 0
ToPositionInEachRun f at t k to = EachRun f (λ run. ToPosition run f at t k to)

-- to a position that isn't below the thread's
pub least_leads_onward : (f : FittedTrace) (at to : List ℕ) (t k position last here : ℕ) → k ≡ min position last → last ≡ last_of f t
    → here ≡ cut_of at t → here ≤ k → IsLeastCut f at t k to → ToPositionInEachRun f at t (min position (last_of f t)) to
least_leads_onward f at to t k position last here most is stands up least run whole =
    let wanted : k ≡ min position (last_of f t) = most ∙ ap (min position) is in
    subst (λ b. StopsAt run f at t (if b then Forwards else Backwards) (min position (last_of f t)) to)
    (sym (le-leb (cut_of at t) (min position (last_of f t)) (omega (arith, wanted, stands, up))))
    (leads_to_least f at to t k (min position (last_of f t)) least wanted run whole)

-- to one that is
pub greatest_leads_back : (f : FittedTrace) (at to : List ℕ) (t k position last here : ℕ) → k ≡ min position last → last ≡ last_of f t
    → here ≡ cut_of at t → k < here → IsGreatestCut f at t k to → ToPositionInEachRun f at t (min position (last_of f t)) to
greatest_leads_back f at to t k position last here most is stands down greatest run whole =
    let wanted : k ≡ min position (last_of f t) = most ∙ ap (min position) is in
    subst (λ b. StopsAt run f at t (if b then Forwards else Backwards) (min position (last_of f t)) to)
    (sym (lt-leb (cut_of at t) (min position (last_of f t)) (omega (arith, wanted, stands, down))))
    (leads_to_greatest f at to t k (min position (last_of f t)) greatest wanted run whole)

-- steps on, counted no further than a position can be
pub step_leads_to_least_cut : (f : FittedTrace) (at to : List ℕ) (m : Move) (t n k sum last here : ℕ) → m ≡ move.Step t n → here ≡ cut_of at t
    → sum ≡ min (here + n) (2 ^ 64 - 1) → last < 2 ^ 64 → last ≡ last_of f t → k ≡ min sum last → IsLeastCut f at t k to → LeadsInEachRun f at m to
step_leads_to_least_cut f at to m t n k sum last here asked stands added fits is most least =
    let short : k ≡ min (here + n) last = omega (arith, added, fits, most) in
    subst (λ z. LeadsInEachRun f at z to) (sym asked) (leads_to_least f at to t k (min (cut_of at t + n) (last_of f t)) least
    (short ∙ ap (λ z. min (z + n) last) stands ∙ ap (min (cut_of at t + n)) is))

-- steps back
pub back_leads_greatest : (f : FittedTrace) (at to : List ℕ) (m : Move) (t n k here : ℕ) → m ≡ move.Back t n → here ≡ cut_of at t → k ≡ here - n
    → IsGreatestCut f at t k to → LeadsInEachRun f at m to
back_leads_greatest f at to m t n k here asked stands less greatest =
    subst (λ z. LeadsInEachRun f at z to) (sym asked)
    (leads_to_greatest f at to t k (cut_of at t - n) greatest (less ∙ ap (λ z. z - n) stands))

-- ---- to a hit

-- the thread comes so to a position, whichever run it is
abbrev pub StopsInEachRun : FittedTrace → List ℕ → ℕ → Direction → ℕ → List ℕ → Type 0
StopsInEachRun f at t direction k to = EachRun f (λ run. StopsAt run f at t direction k to)

pub forward_stop_at_least : (f : FittedTrace) (at to : List ℕ) (t k : ℕ) (direction : Direction) → direction ≡ Forwards
    → IsLeastCut f at t k to → StopsInEachRun f at t direction k to
forward_stop_at_least f at to t k direction is least run whole = subst (λ z. StopsAt run f at t z k to) (sym is) (least.0, least.1 run whole)

pub backward_stop_greatest : (f : FittedTrace) (at to : List ℕ) (t k : ℕ) (direction : Direction) → direction ≡ Backwards
    → IsGreatestCut f at t k to → StopsInEachRun f at t direction k to
backward_stop_greatest f at to t k direction is greatest run whole = subst (λ z. StopsAt run f at t z k to) (sym is) (greatest.0, greatest.1 run whole)

-- which is that of a hit
pub stop_at_equal_position : (f : FittedTrace) (at to : List ℕ) (t k j : ℕ) (direction : Direction) → k ≡ j → StopsInEachRun f at t direction k to
    → StopsInEachRun f at t direction j to
stop_at_equal_position f at to t k j direction same so = subst (λ n. StopsInEachRun f at t direction n to) same so

-- a point hits where the thread comes
pub hit_position_le_steps : (f : FittedTrace) (run : List Step) (t k : ℕ) (p : Point) → HitBy f run t k p → k ≤ steps_of f run t
hit_position_le_steps f run t k (Break u address) hit = let l = hit.2 in omega (arith, l)
hit_position_le_steps f run t k (Watch u address) (same, (j, is, inl changes)) = elim (cases_lt j (steps_of f run t)) [
  | inl l ↦ omega (arith, is, l)
  | inr past ↦ absurd (changes.1 (ap (λ (x : thread.ThreadState). memory_word x.core.memory address) (last_step_same_thread f run t j past)))
]
hit_position_le_steps f run t k (Watch u address) (same, (j, is, inr puts)) = let l = puts.0 in omega (arith, is, l)
hit_position_le_steps f run t k (WatchObject object) (j, is, (version, emitted)) =
    let within = (at_is_get_or (trail (machine_of f) (start_of f) run t) j (emitted.0, LeftAt object Writing version) emitted.1).0 in
    omega (arith, is, within)

run_stop_le_last : (f : FittedTrace) (run : List Step) (d : Desk) (t : ℕ) (direction : Direction) (hit : Option Hit) → d.fitted ≡ f
    → steps_of f run t ≡ last_of f t → Finds run d.fitted d.points t (cut_of d.at t) direction hit → stop_of f t direction hit ≤ last_of f t
run_stop_le_last f run d t Forwards (Some h) same all finds =
    let (i, p, at, number, hits) = finds.2.hits in
    let le = hit_position_le_steps d.fitted run t h.position p.point hits in
    let count = ap (λ (g : FittedTrace). steps_of g run t) same in
    omega (arith, le, count, all)
run_stop_le_last f run d t Backwards (Some h) same all finds =
    let (i, p, at, number, hits) = finds.2.hits in
    let le = hit_position_le_steps d.fitted run t h.position p.point hits in
    let count = ap (λ (g : FittedTrace). steps_of g run t) same in
    omega (arith, le, count, all)
run_stop_le_last f run d t Forwards None same all finds = omega arith
run_stop_le_last f run d t Backwards None same all finds = omega arith

-- it stops at one of its positions
pub stop_le_last : (f : FittedTrace) (d : Desk) (t : ℕ) (direction : Direction) (hit : Option Hit) → d.fitted ≡ f → HasRun f
    → t < threads_of f → EachRun d.fitted (λ run. Finds run d.fitted d.points t (cut_of d.at t) direction hit) → stop_of f t direction hit ≤ last_of f t
stop_le_last f d t direction hit same has l finds =
    run_stop_le_last f has.run d t direction hit same (has.whole.1.steps t l)
    (finds has.run (subst (λ (g : FittedTrace). IsRunOf g.guest g.recorded has.run) (sym same) has.whole))

-- a hit that a thread finds is at one of its positions, whichever points it is searched by
pub found_hit_le_last : (f : FittedTrace) (points : List Numbered) (t p : ℕ) (direction : Direction) (h : Hit) → HasRun f → t < threads_of f
    → EachRun f (λ run. Finds run f points t p direction (Some h)) → h.position ≤ last_of f t
found_hit_le_last f points t p Forwards h has l finds =
    let (i, q, at, number, hits) = (finds has.run has.whole).2.hits in
    let le = hit_position_le_steps f has.run t h.position q.point hits in
    omega (arith, le, has.whole.1.steps t l)
found_hit_le_last f points t p Backwards h has l finds =
    let (i, q, at, number, hits) = (finds has.run has.whole).2.hits in
    let le = hit_position_le_steps f has.run t h.position q.point hits in
    omega (arith, le, has.whole.1.steps t l)
