-- The list of different outcomes, node by node.
use Rattle.std.proofs.Common.{◌≡◌, ℕ, suc, ◌<◌, List, [], ◌∷◌, ◌++◌, ◌⊎◌, inl, inr, Some, length, refl, sym, ap, ◌∙◌, subst, arith}
use Rattle.std.specs.Prelude.{slice_get}
use Rattle.std.proofs.lemmas.Bool.{cases_lt}
use Rattle.std.proofs.lemmas.Option.{same_Some}
use Rattle.ir_search.proofs.CallerLemmas.{slice_get-push_cases, slice_get_append_kept, slice_get_some_below}
use Rattle.ir_runs.specs.Run.{IsDone}
use Rattle.ir_flat.specs.Flat.{machine, tables}
use Rattle.ir_state_store.specs.Nodes.{SourcedFlat}
use Rattle.ir_graph.specs.Listing.{HasOutcome, AreOutcomes}
use Rattle.ir_graph.specs.Nodes.{AreNodes}
use Rattle.ir_graph.specs.Outcomes.{run_outcome}
use Rattle.ir_graph.proofs.OneOutcome.{one_outcome_looks_alike}

pub are_outcomes_below_zero : (flats : List SourcedFlat) → AreOutcomes flats 0 []
are_outcomes_below_zero flats = record {
  done = λ i v is. absurd (cc is);
  all = λ v f less at done. absurd (omega (arith, less));
  different = λ i j v w f g is. absurd (cc is);
  rising = λ i j v w is. absurd (cc is);
}

below_suc_cases : (v until : ℕ) → v < suc until → (v < until) ⊎ (until ≡ v)
below_suc_cases v until l = elim (cases_lt v until) [ inl less ↦ inl less | inr most ↦ inr (omega (arith, l, most)) ]

module _ (flats : List SourcedFlat) (until : ℕ) (listed : List ℕ) (f : SourcedFlat) (o : AreOutcomes flats until listed)
    (at : slice_get flats until ≡ Some f) where
  -- a node where some thread goes on
  pub going_skipped : (IsDone (machine f.flat) (tables f.flat) → ⊥) → AreOutcomes flats (suc until) listed
  going_skipped never = record {
    done = λ i v is. let d = o.done i v is in (let a = d.0 in omega (arith, a), d.1);
    all = λ v g less here done. elim (below_suc_cases v until less) [
      | inl old ↦ o.all v g old here done
      | inr same ↦
          let one : f ≡ g = same_Some f g (sym at ∙ subst (λ z. slice_get flats z ≡ Some g) (sym same) here) in
          absurd (never (subst (λ (z : SourcedFlat). IsDone (machine z.flat) (tables z.flat)) (sym one) done))
    ];
    different = o.different;
    rising = o.rising;
  }

  -- a node has no outcome of one before it, which would look the same
  pub no_node_before_has_outcome : AreNodes flats → IsDone (machine f.flat) (tables f.flat) → HasOutcome flats listed f.flat → ⊥
  no_node_before_has_outcome nodes done h =
      let before = o.done h.place h.node h.stands in
      let low = before.0 in
      let same = nodes.apart h.node until h.state f h.at at
      (one_outcome_looks_alike h.state f (nodes.like h.node until h.state f h.at at) (before.1 h.state h.at) done h.same) in
      omega (arith, low, same)

  -- a node with an outcome that isn't listed yet
  pub new_listed : IsDone (machine f.flat) (tables f.flat) → (HasOutcome flats listed f.flat → ⊥) → AreOutcomes flats (suc until) (listed ++ until ∷ [])
  new_listed done fresh = record {
    done = λ i v is. elim (slice_get-push_cases listed until i v is) [
      | inl old ↦ let d = o.done i v old in (let a = d.0 in omega (arith, a), d.1)
      | inr p ↦ (
        let e = p.1 in omega (arith, e),
        λ g here.
            subst (λ (z : SourcedFlat). IsDone (machine z.flat) (tables z.flat)) (same_Some f g (sym at ∙ subst (λ z. slice_get flats z ≡ Some g) (sym p.1) here)) done,
      )
    ];
    all = λ v g less here ends. elim (below_suc_cases v until less) [
      | inl old ↦ let h = o.all v g old here ends in (longer g h.0, h.1)
      | inr same ↦
          let one : f ≡ g = same_Some f g (sym at ∙ subst (λ z. slice_get flats z ≡ Some g) (sym same) here) in (
            itself g one,
            omega (arith, same),
          )
    ];
    different = λ i j v w g h is too here there same. elim (slice_get-push_cases listed until i v is) [
      | inl old ↦ elim (slice_get-push_cases listed until j w too) [
        | inl old_too ↦ o.different i j v w g h old old_too here there same
        | inr q ↦ absurd (fresh (meets i v g h old here (new_at w h q.1 there) same))
      ]
      | inr p ↦ elim (slice_get-push_cases listed until j w too) [
        | inl old_too ↦ absurd (fresh (meets j w h g old_too there (new_at v g p.1 here) (sym same)))
        | inr q ↦ p.0 ∙ sym q.0
      ]
    ];
    rising = λ i j v w is too before. elim (slice_get-push_cases listed until j w too) [
      | inl old_too ↦ elim (slice_get-push_cases listed until i v is) [
        | inl old ↦ o.rising i j v w old old_too before
        | inr p ↦ absurd (let a = slice_get_some_below listed j w old_too in let b = p.0 in omega (arith, a, b, before))
      ]
      | inr q ↦ elim (slice_get-push_cases listed until i v is) [
        | inl old ↦ let a = (o.done i v old).0 in let b = q.1 in omega (arith, a, b)
        | inr p ↦ absurd (let a = p.0 in let b = q.0 in omega (arith, a, b, before))
      ]
    ];
  }
    where
      new_at : (v : ℕ) (g : SourcedFlat) → until ≡ v → slice_get flats v ≡ Some g → f ≡ g
      new_at v g same here = same_Some f g (sym at ∙ subst (λ z. slice_get flats z ≡ Some g) (sym same) here)

      meets : (i v : ℕ) (g h : SourcedFlat) → slice_get listed i ≡ Some v → slice_get flats v ≡ Some g → f ≡ h
          → run_outcome (tables g.flat) ≡ run_outcome (tables h.flat) → HasOutcome flats listed f.flat
      meets i v g h is here one same = record {
        place = i;
        node = v;
        state = g;
        stands = is;
        at = here;
        same = same ∙ sym (ap (λ (z : SourcedFlat). run_outcome (tables z.flat)) one);
      }

      longer : (g : SourcedFlat) → HasOutcome flats listed g.flat → HasOutcome flats (listed ++ until ∷ []) g.flat
      longer g h = record {
        place = h.place;
        node = h.node;
        state = h.state;
        stands = slice_get_append_kept listed (until ∷ []) h.place h.node h.stands;
        at = h.at;
        same = h.same;
      }

      last : (xs : List ℕ) (x : ℕ) → slice_get (xs ++ x ∷ []) (length xs) ≡ Some x
      last [] x = refl
      last (y ∷ xs) x = last xs x

      itself : (g : SourcedFlat) → f ≡ g → HasOutcome flats (listed ++ until ∷ []) g.flat
      itself g one = record {
        place = length listed;
        node = until;
        state = f;
        stands = last listed until;
        at = at;
        same = ap (λ (z : SourcedFlat). run_outcome (tables z.flat)) one;
      }
