-- Outcomes that are compared one by one.
use Rattle.std.proofs.Common.{◌≡◌, ℕ, not, ◌<◌, Bool, true, false, List, [], ◌∷◌, ◌++◌, Some, length, length-append, refl, sym, ap, ◌∙◌, subst, arith, inl, inr}
use Rattle.std.specs.Prelude.{slice_get, Result, Ok, Err, IfOk}
use Rattle.std.proofs.lemmas.Option.{same_Some, slice_get_within}
use Rattle.ir_lemmas.proofs.CallerLemmas.{added_element_is_last, element_below_length, slice_get-push_cases, slice_get_append_kept}
use Rattle.ir_explore.proofs.CallerLemmas.{end_state_is_seen}
use Rattle.ir_explore.specs.Plan.{ExplorePlan, setup_of}
use Rattle.ir_explore.specs.Texts.{Known, AreKnown}
use Rattle.ir_flat.specs.Flat.{IsFlat, tables}
use Rattle.ir_graph.specs.Outcomes.{run_outcome}
use Rattle.ir_image.specs.Guest.{Guest}
use Rattle.ir_outcomes.specs.Explored.{ShowsState}
use Rattle.ir_outcomes.specs.declared.shown.Shown.{Shown}
use Rattle.ir_schedule.specs.Conditions.{EndState, end_state}
use Rattle.ir_state_store.specs.Nodes.{SourcedFlat}
use Rattle.ir_within.specs.Aspects.{Aspects, what_counts, seen}
use Rattle.ir_within.specs.Judging.{AreSeen, HasSame, HoldsSame, AreCompared}
use Rattle.ir_within.specs.Within.{AreJudged}

-- ---- lists that grow at the end

pushed_at_end : {A : Type 0} (xs : List A) (x : A) (n : ℕ) → n ≡ length xs → slice_get (xs ++ x ∷ []) n ≡ Some x
pushed_at_end xs x n e = ap (slice_get (xs ++ x ∷ [])) e ∙ added_element_is_last xs x

pub on_ok_of_both : {A E : Type 0} (P Q R : A → Type 0) (r : Result A E) → ((x : A) → P x → Q x → R x) → IfOk r P → IfOk r Q → IfOk r R
on_ok_of_both P Q R (Ok x) f p q = f x p q
on_ok_of_both P Q R (Err e) f p q = tt

-- the same state at the same place
shown_once : (flats : List SourcedFlat) (x y : Shown) (s u : SourcedFlat) → x ≡ y → slice_get flats x.node ≡ Some s → slice_get flats y.node ≡ Some u → s ≡ u
shown_once flats x y s u e one other = same_Some s u (sym one ∙ ap (λ (z : Shown). slice_get flats z.node) e ∙ other)

-- ---- truth

pub true_if_not_false : (b : Bool) → not b ≡ false → b ≡ true
true_if_not_false true e = refl
true_if_not_false false e = absurd (cc e)

-- ---- what counts of each

pub none_seen : (a : Aspects) (flats : List SourcedFlat) → AreSeen a flats [] []
none_seen a flats = record { count = refl; each = λ i x s at. absurd (cc at.0); flat = λ i x s at. absurd (cc at.0) }

-- one outcome more
pub one_more_seen : (a : Aspects) (flats : List SourcedFlat) (xs : List Shown) (all : List EndState) (x : Shown) (s : SourcedFlat) (c : EndState)
    → AreSeen a flats xs all → slice_get flats x.node ≡ Some s → IsFlat s.flat → c ≡ what_counts a (end_state s.flat)
    → AreSeen a flats (xs ++ x ∷ []) (all ++ c ∷ [])
one_more_seen a flats xs all x s c seen at is_flat is = record {
  count = let p = length-append xs (x ∷ []) in let q = length-append all (c ∷ []) in let n = seen.count in omega (arith, p, q, n);
  each = λ i y u there. elim (slice_get-push_cases xs x i y there.0) [
    | inl old ↦ slice_get_append_kept all (c ∷ []) i (what_counts a (end_state u.flat)) (seen.each i y u (old, there.1))
    | inr p ↦
        let state : s ≡ u = shown_once flats x y s u p.1 at there.1 in
        pushed_at_end all c i (p.0 ∙ sym seen.count) ∙ ap Some (is ∙ ap (λ (z : SourcedFlat). what_counts a (end_state z.flat)) state)
  ];
  flat = λ i y u there. elim (slice_get-push_cases xs x i y there.0) [
    | inl old ↦ seen.flat i y u (old, there.1)
    | inr p ↦ subst (λ (z : SourcedFlat). IsFlat z.flat) (shown_once flats x y s u p.1 at there.1) is_flat
  ];
}

-- ---- marks

pub none_compared : (a : Aspects) (flats : List SourcedFlat) (others : List EndState) → AreCompared a flats [] others []
none_compared a flats others = record {
  count = refl;
  among = λ i x s at. absurd (cc at.0);
  none = λ i x s at. absurd (cc at.0);
  flat = λ i x s at. absurd (cc at.0);
}

-- one outcome more, by whether one of the others is the same
pub one_more_compared : (a : Aspects) (flats : List SourcedFlat) (xs : List Shown) (others : List EndState) (marks : List Bool) (x : Shown) (s : SourcedFlat)
    (c : EndState) (mark : Bool) → AreCompared a flats xs others marks → slice_get flats x.node ≡ Some s → IsFlat s.flat
    → c ≡ what_counts a (end_state s.flat) → (mark ≡ false → HasSame others c) → (mark ≡ true → HasSame others c → ⊥)
    → AreCompared a flats (xs ++ x ∷ []) others (marks ++ mark ∷ [])
one_more_compared a flats xs others marks x s c mark done at is_flat is some none = record {
  count = let p = length-append xs (x ∷ []) in let q = length-append marks (mark ∷ []) in let n = done.count in omega (arith, p, q, n);
  among = λ i y u there marked. elim (slice_get-push_cases xs x i y there.0) [
    | inl old ↦ done.among i y u (old, there.1) (before i y false old marked)
    | inr p ↦ subst (HasSame others) (counts y u p.1 there.1) (some (last i false p.0 marked))
  ];
  none = λ i y u there marked same. elim (slice_get-push_cases xs x i y there.0) [
    | inl old ↦ done.none i y u (old, there.1) (before i y true old marked) same
    | inr p ↦ none (last i true p.0 marked) (subst (HasSame others) (sym (counts y u p.1 there.1)) same)
  ];
  flat = λ i y u there. elim (slice_get-push_cases xs x i y there.0) [
    | inl old ↦ done.flat i y u (old, there.1)
    | inr p ↦ subst (λ (z : SourcedFlat). IsFlat z.flat) (shown_once flats x y s u p.1 at there.1) is_flat
  ];
}
  where
    counts : (y : Shown) (u : SourcedFlat) → x ≡ y → slice_get flats y.node ≡ Some u → c ≡ what_counts a (end_state u.flat)
    counts y u e there = is ∙ ap (λ (z : SourcedFlat). what_counts a (end_state z.flat)) (shown_once flats x y s u e at there)

    before : (i : ℕ) (y : Shown) (b : Bool) → slice_get xs i ≡ Some y → slice_get (marks ++ mark ∷ []) i ≡ Some b → slice_get marks i ≡ Some b
    before i y b old marked = elim (slice_get-push_cases marks mark i b marked) [
      | inl kept ↦ kept
      | inr q ↦ absurd (let less = slice_get_within xs i y old in let n = done.count in let e = q.0 in omega (arith, less, n, e))
    ]

    last : (i : ℕ) (b : Bool) → i ≡ length xs → slice_get (marks ++ mark ∷ []) i ≡ Some b → mark ≡ b
    last i b end marked = elim (slice_get-push_cases marks mark i b marked) [
      | inl kept ↦ absurd (let less = slice_get_within marks i b kept in let n = done.count in omega (arith, less, n, end))
      | inr q ↦ q.1
    ]

-- among all that are the same as those
pub compared_with_kept : (a : Aspects) (flats : List SourcedFlat) (xs : List Shown) (kept all : List EndState) (marks : List Bool) → HoldsSame kept all
    → AreCompared a flats xs kept marks → AreCompared a flats xs all marks
compared_with_kept a flats xs kept all marks same done = record {
  count = done.count;
  among = λ i x s at marked. (same (what_counts a (end_state s.flat))).0 (done.among i x s at marked);
  none = λ i x s at marked has. done.none i x s at marked ((same (what_counts a (end_state s.flat))).1 has);
  flat = done.flat;
}

-- ---- both guests

-- what counts of a listed outcome is what counts of its state
pub seen_by_state : (a : Aspects) (guest : Guest) (plan : ExplorePlan) (k : Known) → AreKnown guest plan k → (i : ℕ) (x : Shown) (s : SourcedFlat)
    → ShowsState k.flats k.outcomes i x s → IsFlat s.flat → what_counts a (end_state s.flat) ≡ seen a guest (run_outcome (tables s.flat))
seen_by_state a guest plan k are i x s at is_flat =
    ap (what_counts a) (end_state_is_seen (setup_of guest plan) s (are.reached x.node s at.1) is_flat)

pub judged_if_compared : (a : Aspects) (guest other : Guest) (plan : ExplorePlan) (k m : Known) (all : List EndState) (outside : List Bool)
    → AreKnown guest plan k → AreKnown other plan m → AreSeen a m.flats m.outcomes all → AreCompared a k.flats k.outcomes all outside
    → AreJudged a guest other k m outside
judged_if_compared a guest other plan k m all outside are others_are others compared = record {
  count = compared.count;
  among = λ i x s at marked.
      let found = compared.among i x s at marked in
      let less : found.0 < length m.outcomes =
      (let b = slice_get_within all found.0 (what_counts a (end_state s.flat)) found.1 in let n = others.count in omega (arith, b, n)) in
      let shown = element_below_length m.outcomes found.0 less in
      let state = element_below_length m.flats shown.0.node (others_are.explored.nodes found.0 shown.0 shown.1) in
      let there : ShowsState m.flats m.outcomes found.0 shown.0 state.0 = (shown.1, state.1) in
      let same : what_counts a (end_state s.flat) ≡ what_counts a (end_state state.0.flat) =
      same_Some (what_counts a (end_state s.flat)) (what_counts a (end_state state.0.flat)) (sym found.1 ∙ others.each found.0 shown.0 state.0 there) in (
        found.0,
        shown.0,
        state.0,
        there,
        sym (seen_by_state a guest plan k are i x s at (compared.flat i x s at)) ∙ same
            ∙ seen_by_state a other plan m others_are found.0 shown.0 state.0 there (others.flat found.0 shown.0 state.0 there),
      );
  none = λ i x s at marked among.
      compared.none i x s at marked (
        among.0,
        others.each among.0 among.1 among.2 among.3 ∙ ap Some (sym (
            seen_by_state a guest plan k are i x s at (compared.flat i x s at) ∙ among.4
            ∙ sym (seen_by_state a other plan m others_are among.0 among.1 among.2 among.3 (others.flat among.0 among.1 among.2 among.3))
            )),
      );
}
