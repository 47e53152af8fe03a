-- Which states have all threads done.
use Rattle.std.proofs.Common.{◌≡◌, ℕ, ◌+◌, ◌<◌, Bool, true, false, Some, List, [], ◌∷◌, ◌++◌, inl, inr, length, length-append, refl, sym, ◌∙◌, subst, arith}
use Rattle.std.specs.Prelude.{slice_get}
use Rattle.std.proofs.lemmas.Bool.{cases_lt}
use Rattle.std.proofs.lemmas.Option.{same_Some}
use Rattle.ir_search.specs.Following.{IsNodeOpen}
use Rattle.ir_search.proofs.CallerLemmas.{slice_get-push_cases, slice_get_append_kept}
use Rattle.ir_runs.specs.Run.{IsDone}
use Rattle.ir_flat.specs.Flat.{machine, tables}
use Rattle.ir_state_store.specs.Nodes.{SourcedFlat}

slice_get_of_pushed : (xs : List Bool) (x : Bool) → slice_get (xs ++ x ∷ []) (length xs) ≡ Some x
slice_get_of_pushed [] x = refl
slice_get_of_pushed (y ∷ xs) x = slice_get_of_pushed xs x

-- of the states below `until` it is known
pub record AreEnded (flats : List SourcedFlat) (until : ℕ) (done : List Bool) : Type 0 where
  pub nodes : length done ≡ until
  pub ended : (v : ℕ) (f : SourcedFlat) → slice_get flats v ≡ Some f → IsNodeOpen done v → IsDone (machine f.flat) (tables f.flat)
  pub marked : (v : ℕ) (f : SourcedFlat) → v < until → slice_get flats v ≡ Some f → IsDone (machine f.flat) (tables f.flat) → IsNodeOpen done v

pub are_ended_below_zero : (flats : List SourcedFlat) → AreEnded flats 0 []
are_ended_below_zero flats = record {
  nodes = refl;
  ended = λ v f at is. absurd (cc is);
  marked = λ v f less. absurd (omega (arith, less));
}

pub are_ended_step : (flats : List SourcedFlat) (until : ℕ) (done : List Bool) (f : SourcedFlat) (is : Bool) → AreEnded flats until done
    → slice_get flats until ≡ Some f → (is ≡ true → IsDone (machine f.flat) (tables f.flat)) → (is ≡ false → IsDone (machine f.flat) (tables f.flat) → ⊥)
    → AreEnded flats (until + 1) (done ++ is ∷ [])
are_ended_step flats until done f is a at when never = record {
  nodes = let l = length-append done (is ∷ []) in let n = a.nodes in omega (arith, l, n);
  ended = λ v g here open_at. elim (slice_get-push_cases done is v true open_at) [
    | inl old ↦ a.ended v g here old
    | inr p ↦ subst (λ (z : SourcedFlat). IsDone (machine z.flat) (tables z.flat))
        (same_Some f g (sym (subst (λ z. slice_get flats z ≡ Some f) (sym (p.0 ∙ a.nodes)) at) ∙ here)) (when p.1)
  ];
  marked = λ v g less here ends. elim (cases_lt v until) [
    | inl old ↦ slice_get_append_kept done (is ∷ []) v true (a.marked v g old here ends)
    | inr most ↦
        let same : v ≡ until = omega (arith, less, most) in
        let one : f ≡ g = same_Some f g (sym at ∙ subst (λ z. slice_get flats z ≡ Some g) same here) in
        subst (IsNodeOpen (done ++ is ∷ [])) (a.nodes ∙ sym same)
        (last is when never (subst (λ (z : SourcedFlat). IsDone (machine z.flat) (tables z.flat)) (sym one) ends))
  ];
}
  where
    last : (b : Bool) → (b ≡ true → IsDone (machine f.flat) (tables f.flat)) → (b ≡ false → IsDone (machine f.flat) (tables f.flat) → ⊥)
        → IsDone (machine f.flat) (tables f.flat) → IsNodeOpen (done ++ b ∷ []) (length done)
    last true when never ends = slice_get_of_pushed done true
    last false when never ends = absurd (never refl ends)
