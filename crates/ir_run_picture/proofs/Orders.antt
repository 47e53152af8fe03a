-- Left to right is the order of a run with the trace: a run passes the cuts between what is left of each x and the rest.
use Rattle.std.proofs.Common.{◌≡◌, ℕ, zero, suc, max, ◌<◌, ◌≤◌, inl, inr, List, [], ◌∷◌, ◌++◌, Some, length, sym, ap, ◌∙◌, subst, arith}
use Rattle.std.specs.List.{slice_get}
use Rattle.std.proofs.Math.Seq.{take-length}
use Rattle.std.proofs.lemmas.Bool.{cases_lt}
use Rattle.std.proofs.lemmas.Option.{same_Some, none-some}
use Rattle.ir_runs.specs.Run.{Step, trail, count, events, IsDone, Cut, Consistent}
use Rattle.ir_runs.specs.Verdicts.{sum_below}
use Rattle.ir_runs.proofs.CallerLemmas.{max_is_consistent, same_logs_same_trails}
use Rattle.ir_thread.proofs.CallerLemmas.{thread_machine_lawful}
use Rattle.ir_fit.specs.Fit.{FittedTrace, HasRun, IsRunOf}
use Rattle.ir_fit.proofs.CallerLemmas.{at_is_get_or}
use Rattle.ir_cut.specs.Positions.{last_of, threads_of, machine_of, start_of}
use Rattle.ir_cut.proofs.CallerLemmas.{missing_has_no_trail}
use Rattle.ir_picture.specs.declared.placed_box.Point.{Point}
use Rattle.ir_picture.specs.declared.placed_box.PlacedBox.{PlacedBox}
use Rattle.ir_holds.specs.declared.span.Span.{Span}
use Rattle.ir_run_picture.specs.Held.{AreHeld}
use Rattle.ir_run_picture.specs.Laws.{IsMoment, GoesRight, RightIsAnOrder}
use Rattle.ir_run_picture.proofs.FirstRight.{left_cut_exists}
use Rattle.ir_run_picture.proofs.LeftCut.{IsLeftCut, left_cut_is_consistent, within_last_is_cut, missing_has_last_zero}
use Rattle.ir_run_picture.proofs.Walk.{Passes, step_in_cut_is_before, outside_cut_is_behind, longer_run_passes, ComesTo, comes_to_first_cut, run_passes_own_cut, IsTarget, run_comes_to_target}
use Rattle.ir_weave.proofs.CallerLemmas.{guest_start_invariant}

-- ---- how far right the boxes go

-- no box starts or ends right of this
abbrev IsFarRight : List PlacedBox → ℕ → Type 0
IsFarRight boxes far = (n : ℕ) (b : PlacedBox) → slice_get boxes n ≡ Some b → (b.start.x ≤ far) × (b.end.x ≤ far)

far_right_cons : (b : PlacedBox) (boxes : List PlacedBox) (far : ℕ) → IsFarRight boxes far → IsFarRight (b ∷ boxes) (max far (max b.start.x b.end.x))
far_right_cons b boxes far h zero c at =
    let same : b ≡ c = same_Some b c at in
    let start = ap (λ (z : PlacedBox). z.start.x) same in
    let last = ap (λ (z : PlacedBox). z.end.x) same in (omega (arith, start), omega (arith, last))
far_right_cons b boxes far h (suc n) c at = let low = h n c at in (omega (arith, low.0), omega (arith, low.1))

far_right_exists : (boxes : List PlacedBox) → (far : ℕ) × IsFarRight boxes far
far_right_exists [] = (0, λ n b at. absurd (none-some b at))
far_right_exists (b ∷ boxes) = let rest = far_right_exists boxes in (max rest.0 (max b.start.x b.end.x), far_right_cons b boxes rest.0 rest.1)

moment_is_no_further : (boxes : List PlacedBox) (spans : List Span) (far : ℕ) → IsFarRight boxes far → (t k x : ℕ) → IsMoment boxes spans t k x → x ≤ far
moment_is_no_further boxes spans far h t k x m = elim m.is [
  | inl start ↦ (let low = (h m.number m.box m.there).0 in let place = start.1 in omega (arith, low, place))
  | inr last ↦ (let low = (h m.number m.box m.there).1 in let place = last.2 in omega (arith, low, place))
]

-- ---- the run

-- these steps pass a cut between what is left of x and the rest
pub record PassesLeftOf (f : FittedTrace) (boxes : List PlacedBox) (spans : List Span) (steps : List Step) (x : ℕ) : Type 0 where
  pub cut : Cut
  pub left : IsLeftCut f boxes spans x cut
  pub passes : Passes steps cut

-- steps of a run that come to a cut, and pass the cuts of each x below n
record ComesRight (f : FittedTrace) (run : List Step) (boxes : List PlacedBox) (spans : List Span) (n : ℕ) (steps : List Step) (p : Cut) : Type 0 where
  comes : ComesTo (machine_of f) (start_of f) run steps p
  consistent : Consistent (machine_of f) (start_of f) run p
  within : (t : ℕ) → p t ≤ last_of f t
  rest : (t k z : ℕ) → IsMoment boxes spans t k z → n ≤ suc z → p t ≤ k
  passed : (x : ℕ) → x < n → PassesLeftOf f boxes spans steps x

-- how far steps come
abbrev ComesSo : FittedTrace → List Step → List PlacedBox → List Span → ℕ → Type 0
ComesSo f run boxes spans n = (steps : List Step) × (p : Cut) × ComesRight f run boxes spans n steps p

-- a run comes from a cut to a later cut
later_cut_is_reached : (f : FittedTrace) (h : HasRun f) (steps : List Step) (p q : Cut) → ComesTo (machine_of f) (start_of f) h.run steps p
    → Consistent (machine_of f) (start_of f) h.run p → ((t : ℕ) → p t ≤ last_of f t) → Consistent (machine_of f) (start_of f) h.run q
    → ((t : ℕ) → q t ≤ last_of f t) → ((t : ℕ) → p t ≤ q t)
    → (more : List Step) × ComesTo (machine_of f) (start_of f) h.run (steps ++ more) q
later_cut_is_reached f h steps p q x at_p within_p at_q within_q above =
    let n = threads_of f in
    let target : IsTarget (machine_of f) (start_of f) h.run n p q = record {
      cut = within_last_is_cut f q within_q h.run h.whole;
      consistent = at_q;
      above = above;
      others = λ t past. let none = missing_has_last_zero f h t past in let low = within_p t in let high = within_q t in omega (arith, none, low, high);
    } in
    run_comes_to_target (machine_of f) (thread_machine_lawful f.guest.code) (start_of f) (guest_start_invariant f) h.run h.whole.1.runs n (sum_below n q) steps p q
    (within_last_is_cut f p within_p h.run h.whole) at_p target x (omega arith)

-- the greater positions of a cut that was reached and of a cut at n are a cut at n
later_cut_is_left_cut : (f : FittedTrace) (run : List Step) (boxes : List PlacedBox) (spans : List Span) (n : ℕ) (steps : List Step) (p c : Cut)
    → ComesRight f run boxes spans n steps p → IsLeftCut f boxes spans n c → IsLeftCut f boxes spans n (λ t. max (p t) (c t))
later_cut_is_left_cut f run boxes spans n steps p c h left = record {
  within = λ t. let low = h.within t in let other = left.within t in omega (arith, low, other);
  left = λ t k z m less. let inside = left.left t k z m less in omega (arith, inside);
  rest = λ t k z m far. let low = h.rest t k z m (omega (arith, far)) in let other = left.rest t k z m far in omega (arith, low, other);
}

first_cut_is_reached : (f : FittedTrace) (run : List Step) (boxes : List PlacedBox) (spans : List Span) → ComesSo f run boxes spans 0
first_cut_is_reached f run boxes spans = (
  [],
  λ t. 0,
  record {
    comes = comes_to_first_cut (machine_of f) (start_of f) run;
    consistent = λ t k u j a b at_a at_b needs less. absurd (omega (arith, less));
    within = λ t. omega arith;
    rest = λ t k z m far. omega arith;
    passed = λ x less. absurd (omega (arith, less));
  },
)

next_cut_is_reached : (f : FittedTrace) (h : HasRun f) (boxes : List PlacedBox) (spans : List Span) (ends : List Point) → AreHeld f boxes spans ends → (n : ℕ)
    → ComesSo f h.run boxes spans n → ComesSo f h.run boxes spans (suc n)
next_cut_is_reached f h boxes spans ends held n (steps, p, before) =
    let found = left_cut_exists f h boxes spans ends held n in
    let q : Cut = λ t. max (p t) (found.0 t) in
    let left = later_cut_is_left_cut f h.run boxes spans n steps p found.0 before found.1 in
    let at_q = max_is_consistent (machine_of f) (start_of f) h.run p found.0 before.consistent
    (left_cut_is_consistent f h boxes spans ends held n found.0 found.1 h.run h.whole).1 in
    let more = later_cut_is_reached f h steps p q before.comes before.consistent before.within at_q left.within (λ t. omega arith) in (
      steps ++ more.0,
      q,
      record {
        comes = more.1;
        consistent = at_q;
        within = left.within;
        rest = λ t k z m far. left.rest t k z m (omega (arith, far));
        passed = passed steps p before more.0 q left more.1;
      },
    )
  where
    passed : (steps : List Step) (p : Cut) → ComesRight f h.run boxes spans n steps p → (more : List Step) (q : Cut) → IsLeftCut f boxes spans n q
        → ComesTo (machine_of f) (start_of f) h.run (steps ++ more) q → (x : ℕ) → x < suc n → PassesLeftOf f boxes spans (steps ++ more) x
    passed steps p before more q left comes x less = elim (cases_lt x n) [
      | inl early ↦ (let old = before.passed x early in record { cut = old.cut; left = old.left; passes = longer_run_passes steps more old.cut old.passes })
      | inr not ↦
          let same : n ≡ x = omega (arith, less, not) in
          record {
            cut = q;
            left = subst (λ z. IsLeftCut f boxes spans z q) same left;
            passes = run_passes_own_cut (machine_of f) (start_of f) h.run (steps ++ more) q (within_last_is_cut f q left.within h.run h.whole) comes;
          }
    ]

each_cut_is_reached : (f : FittedTrace) (h : HasRun f) (boxes : List PlacedBox) (spans : List Span) (ends : List Point) → AreHeld f boxes spans ends → (n : ℕ)
    → ComesSo f h.run boxes spans n
each_cut_is_reached f h boxes spans ends held zero = first_cut_is_reached f h.run boxes spans
each_cut_is_reached f h boxes spans ends held (suc n) = next_cut_is_reached f h boxes spans ends held n (each_cut_is_reached f h boxes spans ends held n)

-- ---- to the end

-- the last positions are a consistent cut
last_cut_consistent : (f : FittedTrace) (h : HasRun f) → Consistent (machine_of f) (start_of f) h.run (count (machine_of f) (start_of f) h.run)
last_cut_consistent f h t k u j a b at_a at_b needs less = (at_is_get_or (trail (machine_of f) (start_of f) h.run u) j (at_b.0, b) at_b.1).0

counts_are_within_last : (f : FittedTrace) (h : HasRun f) (t : ℕ) → count (machine_of f) (start_of f) h.run t ≤ last_of f t
counts_are_within_last f h t = elim (cases_lt t (threads_of f)) [
  | inl there ↦ (let same = h.whole.1.steps t there in omega (arith, same))
  | inr past ↦ (let none = ap length (missing_has_no_trail f h.run h.whole t past) in omega (arith, none))
]

-- a run with all steps of the threads has the trace
run_to_end_has_trace : (f : FittedTrace) (h : HasRun f) (steps : List Step)
    → ComesTo (machine_of f) (start_of f) h.run steps (count (machine_of f) (start_of f) h.run) → IsRunOf f.guest f.recorded steps
run_to_end_has_trace f h steps x =
    let m = machine_of f in
    let s = start_of f in
    let trails : (t : ℕ) → trail m s steps t ≡ trail m s h.run t = λ t. x.trails t ∙ take-length (trail m s h.run t) in
    let same = (same_logs_same_trails m (thread_machine_lawful f.guest.code) s (guest_start_invariant f) steps h.run x.runs h.whole.1.runs
    (λ t. ap events (trails t)) (λ t. ap length (trails t))).same_end in (
      h.whole.0,
      record {
        runs = x.runs;
        done = subst (IsDone m) (sym same) h.whole.1.done;
        steps = λ t there. ap length (trails t) ∙ h.whole.1.steps t there;
        logs = λ t there. ap events (trails t) ∙ h.whole.1.logs t there;
        ends = λ t there. ap (λ z. m.ended (z.now t)) same ∙ h.whole.1.ends t there;
      },
    )

-- ---- the law

-- a run that passes the cuts takes the moments from left to right
moments_go_right : (f : FittedTrace) (boxes : List PlacedBox) (spans : List Span) (steps : List Step)
    → ((t k x : ℕ) → IsMoment boxes spans t k x → PassesLeftOf f boxes spans steps x) → GoesRight boxes spans steps
moments_go_right f boxes spans steps passed t k x u j y m n first second less at_m at_n =
    let by = passed u j y second in
    let before = step_in_cut_is_before steps by.cut by.passes m t k at_m (by.left.left t k x first less) in
    let behind = outside_cut_is_behind steps by.cut by.passes n u j at_n (by.left.rest u j y second (omega arith)) in
    omega (arith, before, behind)

pub left_to_right_is_order : RightIsAnOrder
left_to_right_is_order f h boxes spans ends held =
    let far = far_right_exists boxes in
    let come = each_cut_is_reached f h boxes spans ends held (suc far.0) in
    let steps = come.0 in
    let last : Cut = count (machine_of f) (start_of f) h.run in
    let more = later_cut_is_reached f h steps come.1 last come.2.comes come.2.consistent come.2.within (last_cut_consistent f h) (counts_are_within_last f h)
    (within_last_is_cut f come.1 come.2.within h.run h.whole) in (
      steps ++ more.0,
      run_to_end_has_trace f h (steps ++ more.0) more.1,
      moments_go_right f boxes spans (steps ++ more.0) (λ t k x m.
          let low = moment_is_no_further boxes spans far.0 far.1 t k x m in
          let old = come.2.passed x (omega (arith, low)) in
          record { cut = old.cut; left = old.left; passes = longer_run_passes steps more.0 old.cut old.passes }),
    )
