-- Threads and objects in hand at a cut.
use Rattle.std.proofs.Common.{◌≡◌, ◌≤◌, ◌<◌, ℕ, List, length, sym, subst, slice_index_or}
use Rattle.std.specs.Prelude.{Result, Ok, Err, IfOk}
use Rattle.ir_flat.specs.Flat.{idle}
use Rattle.ir_fit.specs.Fit.{FittedTrace, HasRun}
use Rattle.ir_cut.specs.Laws.{GreatestExact}
use Rattle.ir_cut.specs.Positions.{EachRun, IsConsistentCut, cut_of, threads_of, thread_at}
use Rattle.ir_weave.specs.Standing.{StandsAtCut}
use Rattle.ir_debug.specs.Debugging.{ToGreatest}
use Rattle.ir_gdb.specs.Serving.{Serving}

pub guest_thread_is_in_hand : (s : Serving) (cut : List ℕ) (t : ℕ) → StandsAtCut s.stub.desk.fitted (cut_of cut) s.state → t < threads_of s.stub.desk.fitted
    → t < length s.state.threads
guest_thread_is_in_hand s cut t there below = subst (λ (n : ℕ). t < n) (sym there.at.threads) below

pub hand_thread_at_cut : (s : Serving) (cut : List ℕ) (t : ℕ) → StandsAtCut s.stub.desk.fitted (cut_of cut) s.state
    → EachRun s.stub.desk.fitted (λ run. slice_index_or s.state.threads t idle ≡ thread_at s.stub.desk.fitted run t (cut_of cut t))
hand_thread_at_cut s cut t there run is = (there.at.each run is).threads t

-- the greatest cut with thread t at a position that isn't above its own has it there
pub greatest_behind_exact : GreatestExact → (f : FittedTrace) (at cut : List ℕ) (t k : ℕ) → HasRun f → IsConsistentCut f at → k ≤ cut_of at t
    → EachRun f (λ run. ToGreatest run f at t k cut) → cut_of cut t ≡ k
greatest_behind_exact law f at cut t k has held low greatest =
    law f.guest f.recorded.budget f.recorded.profile has.run has.whole.1.runs (cut_of at) (cut_of cut) t k (held has.run has.whole).0
    (held has.run has.whole).1 low (greatest has.run has.whole).1

-- both facts of a result
pub if_ok_of_both_facts : {T E : Type 0} (r : Result T E) (P Q : T → Type 0) → IfOk r P → IfOk r Q → IfOk r (λ x. P x × Q x)
if_ok_of_both_facts (Ok x) P Q p q = (p, q)
if_ok_of_both_facts (Err e) P Q p q = tt
