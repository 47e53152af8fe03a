-- States that are kept in which a thread is below a position.
use Rattle.std.proofs.Common.{◌≡◌, ◌<◌, ◌≤◌, ℕ, List, length, Option, Some, None, option_map, sym, ap, ◌∙◌, subst, inr, arith}
use Rattle.std.proofs.lemmas.List.{length-map}
use Rattle.std.proofs.lemmas.Option.{same_Some}
use Rattle.ir_thread.specs.State as thread
use Rattle.ir_fit.specs.Fit.{FittedTrace}
use Rattle.ir_cut.specs.Positions.{cut_of}
use Rattle.ir_weave.specs.Standing.{Standing, flat_in, positions}
use Rattle.ir_checkpoint.specs.Keeping.{KeptState, kept_as, cut_in}
use Rattle.ir_moves.specs.Checkpoints.{StandsAtState, AllStandAtStates}
use Rattle.ir_moves.specs.Below.{IsStateBelow, IsBelowState}
use Rattle.ir_moves.specs.declared.below.Found.{Found}
use Rattle.ir_moves.proofs.Keepers.{kept_of_number_stands, kept_state_of_option}
use Rattle.ir_moves.proofs.Ways.{cut_of-map_steps}

-- a cut that is kept is one state's
record IsKeptCutOf (kept : List KeptState) (n : ℕ) (cut : List ℕ) : Type 0 where
  pub one : KeptState
  pub is : kept_as n kept ≡ Some one
  pub same : cut ≡ cut_in one

kept_cut_of_number : (kept : List KeptState) (n : ℕ) (cut : List ℕ) (o : Option KeptState) → kept_as n kept ≡ o → Some cut ≡ option_map cut_in o
    → IsKeptCutOf kept n cut
kept_cut_of_number kept n cut None is found = absurd (cc found)
kept_cut_of_number kept n cut (Some one) is found = record { one = one; is = is; same = same_Some cut (cut_in one) found }

-- each has a position of each thread
pub length-kept_cut : (f : FittedTrace) (kept : List KeptState) (n : ℕ) (cut : List ℕ) → AllStandAtStates f kept
    → Some cut ≡ option_map cut_in (kept_as n kept) → length cut ≡ length f.guest.entries
length-kept_cut f kept n cut all found =
    let k = kept_cut_of_number kept n cut (kept_as n kept) (λ i. kept_as n kept) found in
    ap length k.same ∙ length-map k.one.state.threads (λ (x : thread.ThreadState). x.steps) ∙ (kept_of_number_stands f kept n k.one all k.is).at.threads

-- where thread t is in it
pub kept_cut_below : (kept : List KeptState) (n t p position : ℕ) (cut : List ℕ) → Some cut ≡ option_map cut_in (kept_as n kept) → p ≡ cut_of cut t
    → p < position → IsStateBelow kept t position (record { number = n; position = p })
kept_cut_below kept n t p position cut found at less =
    let k = kept_cut_of_number kept n cut (kept_as n kept) (λ i. kept_as n kept) found in
    record { one = k.one; is = k.is; there = sym (at ∙ ap (λ (c : List ℕ). cut_of c t) k.same); below = less }

-- what is restored
pub found_kept_state_stands : (f : FittedTrace) (kept : List KeptState) (t position : ℕ) (found : Found) (s : Standing) → AllStandAtStates f kept
    → IsStateBelow kept t position found → option_map (λ (k : KeptState). k.state) (kept_as found.number kept) ≡ Some s → StandsAtState f s
found_kept_state_stands f kept t position found s all below is =
    subst (StandsAtState f) (kept_state_of_option (kept_as found.number kept) below.one s below.is is)
    (kept_of_number_stands f kept found.number below.one all below.is)

pub found_kept_below : (f : FittedTrace) (kept : List KeptState) (t position : ℕ) (found : Found) (s : Standing)
    → IsStateBelow kept t position found → option_map (λ (k : KeptState). k.state) (kept_as found.number kept) ≡ Some s
    → positions (flat_in f s) t < position
found_kept_below f kept t position found s below is =
    let one : Standing = below.one.state in
    let at : positions (flat_in f one) t ≡ found.position = sym (cut_of-map_steps one.threads t) ∙ below.there in
    let less : positions (flat_in f one) t < position = omega (arith, at, below.below) in
    subst (λ (x : Standing). positions (flat_in f x) t < position) (kept_state_of_option (kept_as found.number kept) below.one s below.is is) less

-- the start
pub start_is_before_any : (f : FittedTrace) (t position : ℕ) (s : Standing) → positions (flat_in f s) t ≤ 0 → IsBelowState f t position s
start_is_before_any f t position s le = inr (omega (arith, le))
