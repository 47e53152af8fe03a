-- States that a run along a trace passes.
use Rattle.std.proofs.Common.{◌≡◌, Bool, true, false, List, [], ◌∷◌, ◌++◌, sym, ap, ◌∙◌, subst}
use Rattle.std.specs.Prelude.{if◌then◌else◌}
use Rattle.std.proofs.lemmas.List.Elements.{All-push}
use Rattle.ir_image.specs.Guest.{Guest}
use Rattle.ir_flat.specs.Flat.{Flat, IsFlat}
use Rattle.ir_trace.specs.Recorded.{Recorded}
use Rattle.ir_fit.specs.Follower.{IsFollower}
use Rattle.ir_fit.specs.Growing.{Growing}
use Rattle.ir_fit.specs.Passed.{IsAlong, IsPassed, ArePassed, flat_at}
use Rattle.ir_fit.specs.declared.passed_state.PassedState.{PassedState}

-- what follows the trace is along it
pub follower_is_along_trace : (guest : Guest) (r : Recorded) (f : Flat) (ps : List Growing) → IsFollower guest r f ps → IsAlong guest r f
follower_is_along_trace guest r f ps k = record {
  run = k.run;
  follows = k.follows;
  ends = k.ends;
  code = k.code;
  threads = k.threads;
  objects = k.objects;
}

-- a copy of the threads and objects
pub copied_state_is_passed : (guest : Guest) (r : Recorded) (f g : Flat) (s : PassedState) → g ≡ f → s.threads.items ≡ g.threads
    → s.objects.items ≡ g.objects → IsFlat g → IsAlong guest r f → IsPassed guest r s
copied_state_is_passed guest r f g s same threads objects flat along =
    let is : g ≡ flat_at guest s = λ i. record { code = (ap (λ z. z.code) same ∙ along.code) i; threads = sym threads i; objects = sym objects i } in
    record {
      flat = subst IsFlat is flat;
      along = subst (IsAlong guest r) (sym same ∙ is) along;
    }

-- one more state, if there is memory for it
pub passed_states_push : (guest : Guest) (r : Recorded) (ss new : List PassedState) (s : PassedState) (b : Bool) → ArePassed guest r ss
    → IsPassed guest r s → new ≡ (if b then ss ++ s ∷ [] else ss) → ArePassed guest r new
passed_states_push guest r ss new s true all one is = subst (ArePassed guest r) (sym is) (All-push (IsPassed guest r) ss s all one)
passed_states_push guest r ss new s false all one is = subst (ArePassed guest r) (sym is) all

-- what holds where the run is, for the same trace, threads and objects
pub passed_states_equal : (guest : Guest) (r q : Recorded) (f g : Flat) (ss new : List PassedState) → q ≡ r → g ≡ f
    → (IsAlong guest q g → ArePassed guest q ss → ArePassed guest q new) → IsAlong guest r f → ArePassed guest r ss → ArePassed guest r new
passed_states_equal guest r q f g ss new same is passes = subst (λ (z : Recorded × Flat). IsAlong guest z.0 z.1 → ArePassed guest z.0 ss → ArePassed guest z.0 new)
    (λ i. (same i, is i)) passes
