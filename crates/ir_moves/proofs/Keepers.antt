-- What two keepers keep, where each state is the guest at some consistent cut.
use Rattle.std.proofs.Common.{◌≡◌, ◌≤◌, ◌==◌, ◌&&◌, ℕ, zero, suc, Bool, true, false, nat_le, if◌then◌else◌, List, [], ◌∷◌, length, map, Option, Some, option_map, refl, sym, ap, ◌∙◌, subst, arith}
use Rattle.std.proofs.lemmas.Bool.{leb-true}
use Rattle.std.proofs.lemmas.List.Elements.{All-nil, All-cons}
use Rattle.std.specs.List.{All, slice_index_or}
use Rattle.ir_lemmas.proofs.CallerLemmas.{left_of_true_and, right_of_true_and}
use Rattle.ir_thread.specs.State as thread
use Rattle.ir_flat.specs.Flat.{idle}
use Rattle.ir_fit.specs.Fit.{FittedTrace}
use Rattle.ir_cut.specs.Positions.{cut_of}
use Rattle.ir_runs.specs.Run.{Cut}
use Rattle.ir_weave.specs.Standing.{Standing, StandsAtCut, flat_in, positions}
use Rattle.ir_checkpoint.specs.Keeping.{KeptState, Keeping, IsNearest, IsNew, without, kept_as, is_below}
use Rattle.ir_moves.specs.Checkpoints.{StandsAtState, AllStandAtStates}

-- the start alone is the guest at its own positions
pub new_keeping_stands : (f : FittedTrace) (k : Keeping) → IsNew f k → AllStandAtStates f k.kept
new_keeping_stands f k new =
    let at : StandsAtCut f (λ t. 0) new.0 = new.1 in
    let own : StandsAtState f new.0 = subst (λ (p : Cut). StandsAtCut f p new.0) (λ i t. sym (at.at.steps t) i) at in
    subst (λ (z : Keeping). AllStandAtStates f z.kept) (sym new.2) (own, tt)

-- each has as many threads as the guest
pub kept_guest_thread_count : (f : FittedTrace) (kept : List KeptState) (n : ℕ) → AllStandAtStates f kept → n ≡ length f.guest.entries
    → All (λ (k : KeptState). length k.state.threads ≡ n) kept
kept_guest_thread_count f [] n all same = All-nil (λ (k : KeptState). length k.state.threads ≡ n)
kept_guest_thread_count f (k ∷ kept) n all same =
    All-cons (λ (x : KeptState). length x.state.threads ≡ n) k kept (all.0.at.threads ∙ sym same) (kept_guest_thread_count f kept n all.1 same)

all_stand_maybe_cons : (f : FittedTrace) (k : KeptState) (rest : List KeptState) (b : Bool) → StandsAtState f k.state → AllStandAtStates f rest
    → AllStandAtStates f (if b then rest else k ∷ rest)
all_stand_maybe_cons f k rest true one others = others
all_stand_maybe_cons f k rest false one others = (one, others)

-- without one
pub all_stand_without : (f : FittedTrace) (kept : List KeptState) (n : ℕ) → AllStandAtStates f kept → AllStandAtStates f (without n kept)
all_stand_without f [] n all = tt
all_stand_without f (k ∷ kept) n all = all_stand_maybe_cons f k (without n kept) (k.number == n) all.0 (all_stand_without f kept n all.1)

conditional_kept_stands : (f : FittedTrace) (k one : KeptState) (rest : Option KeptState) (b : Bool) → StandsAtState f k.state → (rest ≡ Some one → StandsAtState f one.state)
    → (if b then Some k else rest) ≡ Some one → StandsAtState f one.state
conditional_kept_stands f k one rest true first others is = let same : k ≡ one = cc is in subst (λ (x : KeptState). StandsAtState f x.state) same first
conditional_kept_stands f k one rest false first others is = others is

-- the one of a number
pub kept_of_number_stands : (f : FittedTrace) (kept : List KeptState) (n : ℕ) (one : KeptState) → AllStandAtStates f kept → kept_as n kept ≡ Some one
    → StandsAtState f one.state
kept_of_number_stands f [] n one all is = absurd cc
kept_of_number_stands f (k ∷ kept) n one all is =
    conditional_kept_stands f k one (kept_as n kept) (k.number == n) all.0 (kept_of_number_stands f kept n one all.1) is

steps_within_cut : (threads : List thread.ThreadState) (cut : List ℕ) → is_below (map (λ t. t.steps) threads) cut ≡ true → (t : ℕ)
    → (slice_index_or threads t idle).steps ≤ cut_of cut t
steps_within_cut [] cut below zero = omega arith
steps_within_cut [] cut below (suc t) = omega arith
steps_within_cut (x ∷ threads) [] below t = absurd cc
steps_within_cut (x ∷ threads) (k ∷ cut) below zero =
    leb-true x.steps k (left_of_true_and (nat_le x.steps k) (is_below (map (λ t. t.steps) threads) cut) below)
steps_within_cut (x ∷ threads) (k ∷ cut) below (suc t) =
    steps_within_cut threads cut (right_of_true_and (nat_le x.steps k) (is_below (map (λ t. t.steps) threads) cut) below) t

-- what was restored is what was found
pub kept_state_of_option : (o : Option KeptState) (one : KeptState) (s : Standing) → o ≡ Some one → (option_map (λ k. k.state) o ≡ Some s) → one.state ≡ s
kept_state_of_option o one s is found = let e : Some one.state ≡ Some s = sym (ap (option_map (λ (k : KeptState). k.state)) is) ∙ found in cc

pub nearest_kept_stands : (f : FittedTrace) (keeping : Keeping) (target : List ℕ) (n : ℕ) (s : Standing) → AllStandAtStates f keeping.kept
    → IsNearest target keeping n → option_map (λ k. k.state) (kept_as n keeping.kept) ≡ Some s → StandsAtState f s
nearest_kept_stands f keeping target n s all nearest found =
    subst (StandsAtState f) (kept_state_of_option (kept_as n keeping.kept) nearest.one s nearest.kept found)
    (kept_of_number_stands f keeping.kept n nearest.one all nearest.kept)

pub nearest_kept_below : (f : FittedTrace) (keeping : Keeping) (target : List ℕ) (n : ℕ) (s : Standing)
    → IsNearest target keeping n → option_map (λ k. k.state) (kept_as n keeping.kept) ≡ Some s
    → (t : ℕ) → positions (flat_in f s) t ≤ cut_of target t
nearest_kept_below f keeping target n s nearest found =
    subst (λ (x : Standing). (t : ℕ) → positions (flat_in f x) t ≤ cut_of target t)
    (kept_state_of_option (kept_as n keeping.kept) nearest.one s nearest.kept found)
    (steps_within_cut nearest.one.state.threads target nearest.below)
