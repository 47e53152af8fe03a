-- Where a thread stops that steps in a range of addresses.
use Rattle.std.proofs.Common.{◌≡◌, ◌<◌, ◌≤◌, ◌+◌, ◌∙◌, ◌⊎◌, ℕ, suc, Bool, true, List, Option, Some, None, inl, inr, refl, sym, ap, subst, arith}
use Rattle.std.specs.Prelude.{MatchOption}
use Rattle.ir_fit.specs.Fit.{HasRun}
use Rattle.ir_cut.specs.Positions.{EachRun, cut_of, last_of, thread_at}
use Rattle.ir_command.specs.declared.hit.Hit.{Hit}
use Rattle.ir_gdb.specs.declared.stopped.Stopped.{Stopped}
use Rattle.ir_gdb.specs.Stub.{Stub, stub_spoken}
use Rattle.ir_gdb.specs.declared.point.Watched.{Watched}
use Rattle.ir_gdb.specs.Guards.{Guarded}
use Rattle.ir_gdb.specs.Points.{watches_if}
use Rattle.ir_gdb.specs.Conditions.{StopsUpwards, IsNextStop}
use Rattle.ir_gdb.specs.Stops.{Leaves, RangesTo, StaysWithin, is_in_range, position_of, after_range, end_of_range, ranged, stop_above}
use Rattle.ir_gdb.proofs.Bounds.{stop_above_within_last}
use Rattle.ir_gdb.proofs.Stopping.{watches_if_ignores_spoken}
use Rattle.ir_gdb.proofs.Together.{below_next_cases}

after_range_position : (last : ℕ) (left : Option ℕ) → (after_range last left).position ≡ end_of_range last left
after_range_position last None = refl
after_range_position last (Some k) = refl

end_of_range_between : (s : Stub) (t low high : ℕ) (left : Option ℕ) → HasRun s.desk.fitted → position_of s t ≤ last_of s.desk.fitted t
    → EachRun s.desk.fitted (λ run. Leaves run s t low high left)
    → (position_of s t ≤ end_of_range (last_of s.desk.fitted t) left) × (end_of_range (last_of s.desk.fitted t) left ≤ last_of s.desk.fitted t)
end_of_range_between s t low high None has le leaves = (le, omega arith)
end_of_range_between s t low high (Some k) has le leaves = let all = leaves has.run has.whole in (omega (arith, all.0), all.1)

pub after_range_ignores_spoken : (s u : Stub) (t last : ℕ) (left : Option ℕ) (e : Stopped) → u ≡ stub_spoken s → last ≡ last_of u.desk.fitted t → e ≡ after_range last left
    → e ≡ after_range (last_of s.desk.fitted t) left
after_range_ignores_spoken s u t last left e same at is =
    is ∙ ap (λ (n : ℕ). after_range n left) (at ∙ ap (λ (x : Stub). last_of x.desk.fitted t) same)

pub after_range_between : (s u : Stub) (t low high : ℕ) (left : Option ℕ) (here : List ℕ) (e : Stopped) → u ≡ stub_spoken s → HasRun u.desk.fitted
    → position_of u t ≤ last_of u.desk.fitted t → EachRun s.desk.fitted (λ run. Leaves run s t low high left) → here ≡ u.desk.at
    → e ≡ after_range (last_of s.desk.fitted t) left → (cut_of here t ≤ e.position) × (e.position ≤ last_of u.desk.fitted t)
after_range_between s u t low high left here e same has le leaves at is =
    let has_run = subst (λ (x : Stub). HasRun x.desk.fitted) same has in
    let low_end = subst (λ (x : Stub). position_of x t ≤ last_of x.desk.fitted t) same le in
    let both = end_of_range_between s t low high left has_run low_end leaves in
    let ends = ap (λ (x : Stopped). x.position) is ∙ after_range_position (last_of s.desk.fitted t) left in
    let first = ap (λ (x : List ℕ). cut_of x t) at ∙ ap (λ (x : Stub). position_of x t) same in
    let last = ap (λ (x : Stub). last_of x.desk.fitted t) same in
    let up : cut_of here t ≤ e.position = omega (arith, first, ends, both.0) in
    let down : e.position ≤ last_of u.desk.fitted t = omega (arith, ends, last, both.1) in
    (up, down)

ranged_if_found : (s : Stub) (t : ℕ) (w : Bool) (left : Option ℕ) (e to : Stopped) (hit : Option Hit) (ws : List Watched) (bs : List Guarded)
    → e ≡ after_range (last_of s.desk.fitted t) left → ws ≡ watches_if s w → bs ≡ s.breaks → MatchOption hit (to ≡ e) (λ h. to ≡ stop_above ws bs h)
    → to ≡ ranged s t w left hit
ranged_if_found s t w left e to None ws bs ends watches breaks is = is ∙ ends
ranged_if_found s t w left e to (Some h) ws bs ends watches breaks is =
    is ∙ ap (λ (x : List Watched). stop_above x bs h) watches ∙ ap (λ (x : List Guarded). stop_above (watches_if s w) x h) breaks

pub ranges_to_next_stop : (s u : Stub) (t low high : ℕ) (w : Bool) (left : Option ℕ) (e to : Stopped) (hit : Option Hit) (ws : List Watched) (bs : List Guarded)
    → u ≡ stub_spoken s → EachRun s.desk.fitted (λ run. Leaves run s t low high left) → e ≡ after_range (last_of s.desk.fitted t) left
    → EachRun s.desk.fitted (λ run. IsNextStop (StopsUpwards run s t w) (position_of s t) e.position hit) → ws ≡ watches_if u w → bs ≡ u.breaks
    → MatchOption hit (to ≡ e) (λ h. to ≡ stop_above ws bs h) → EachRun s.desk.fitted (λ run. RangesTo run s t low high w to)
ranges_to_next_stop s u t low high w left e to hit ws bs same leaves ends finds watches breaks is run whole =
    let last = ap (λ (x : Stopped). x.position) ends ∙ after_range_position (last_of s.desk.fitted t) left in
    let found = subst (λ (n : ℕ). IsNextStop (StopsUpwards run s t w) (position_of s t) n hit) last (finds run whole) in (
      left,
      leaves run whole,
      (
        hit,
        found,
        ranged_if_found s t w left e to hit ws bs ends (watches ∙ watches_if_ignores_spoken s u w same)
            (breaks ∙ ap (λ (x : Stub). x.breaks) same) is,
      ),
    )

-- it stops at one of its positions
pub ranged_stop_within_last : (s : Stub) (t : ℕ) (w : Bool) (e to : Stopped) (hit : Option Hit) (ws : List Watched) (bs : List Guarded) → HasRun s.desk.fitted
    → e.position ≤ last_of s.desk.fitted t → EachRun s.desk.fitted (λ run. IsNextStop (StopsUpwards run s t w) (position_of s t) e.position hit)
    → MatchOption hit (to ≡ e) (λ h. to ≡ stop_above ws bs h) → to.position ≤ last_of s.desk.fitted t
ranged_stop_within_last s t w e to None ws bs has le finds is = subst (λ (x : Stopped). x.position ≤ last_of s.desk.fitted t) (sym is) le
ranged_stop_within_last s t w e to (Some h) ws bs has le finds is =
    let up = (finds has.run has.whole).1 in
    subst (λ (x : Stopped). x.position ≤ last_of s.desk.fitted t) (sym is) (stop_above_within_last ws bs h (last_of s.desk.fitted t) (omega (arith, up, le)))

-- pc of a thread at a cut is its pc at its position there
pub pc_in_cut_is_run_pc : (s v : Stub) (t k pc : ℕ) (cut : List ℕ) → v ≡ stub_spoken s → cut_of cut t ≡ k
    → EachRun v.desk.fitted (λ run. pc ≡ (thread_at v.desk.fitted run t (cut_of cut t)).core.pc) → EachRun s.desk.fitted (λ run. pc ≡ (thread_at s.desk.fitted run t k).core.pc)
pc_in_cut_is_run_pc s v t k pc cut same there is =
    subst (λ (x : Stub). EachRun x.desk.fitted (λ run. pc ≡ (thread_at x.desk.fitted run t k).core.pc)) same
    (subst (λ (n : ℕ). EachRun v.desk.fitted (λ run. pc ≡ (thread_at v.desk.fitted run t n).core.pc)) there is)

-- a thread that stays within a range up to a position stays so up to the next, if its pc there is in the range
pub stays_within_suc : (s : Stub) (t low high n pc : ℕ)
    → EachRun s.desk.fitted (λ run. StaysWithin run s t low high (position_of s t) (suc n))
    → EachRun s.desk.fitted (λ run. pc ≡ (thread_at s.desk.fitted run t (n + 1)).core.pc) → is_in_range low high pc ≡ true
    → EachRun s.desk.fitted (λ run. StaysWithin run s t low high (position_of s t) (suc (n + 1)))
stays_within_suc s t low high n pc before is inside run whole j above below = by (below_next_cases j (n + 1) (omega (arith, below))) where
  by : (j < n + 1) ⊎ (j ≡ n + 1) → is_in_range low high (thread_at s.desk.fitted run t j).core.pc ≡ true
  by (inl less) = before run whole j above (omega (arith, less))
  by (inr same) =
      subst (λ (k : ℕ). is_in_range low high (thread_at s.desk.fitted run t k).core.pc ≡ true) (sym same)
      (subst (λ (a : ℕ). is_in_range low high a ≡ true) (is run whole) inside)
