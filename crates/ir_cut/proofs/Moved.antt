-- Positions that are moved for one place after another.
use Rattle.std.proofs.Common.{◌≡◌, ◌≢◌, ℕ, ◌+◌, ◌<◌, ◌≤◌, ◌^◌, min, max, List, length, set, Some, refl, sym, ap, ◌∙◌, subst, arith, inl, inr, get_or-set_same, get_or-set_other, length-set, le_refl}
use Rattle.std.specs.Prelude.{slice_get}
use Rattle.std.specs.List.{slice_index_or}
use Rattle.std.proofs.lemmas.Bool.{cases_eq, cases_lt}
use Rattle.std.proofs.lemmas.Grind.{get_or_default_zero}
use Rattle.std.proofs.lemmas.Option.{slice_get-get_or, get_or_from_slice_get}
use Rattle.ir_cut.specs.Positions.{cut_of}
use Rattle.ir_cut.specs.Moving.{ArePlacedBetween, EachPlace, IsRaised, IsLowered}
use Rattle.ir_fit.specs.declared.place.Place.{Place}

-- ---- which places come first

pub each_of_no_places : (ps : List Place) (P : Place → Type 0) → EachPlace ps 0 P
each_of_no_places ps P i p l e = absurd (omega (arith, l))

pub each_place_of_prefix : (ps : List Place) (n : ℕ) (P : Place → Type 0) → EachPlace ps (n + 1) P → EachPlace ps n P
each_place_of_prefix ps n P h i p l e = h i p (omega (arith, l)) e

pub each_place_step : (ps : List Place) (n : ℕ) (p : Place) (P : Place → Type 0) → slice_get ps n ≡ Some p → P p → EachPlace ps n P
    → EachPlace ps (n + 1) P
each_place_step ps n p P is here h i q l e = elim (cases_lt i n) [
  | inl less ↦ h i q less e
  | inr past ↦ subst P (sym (get_or_from_slice_get ps n p p is)
      ∙ ap (λ k. slice_index_or ps k p) (let s : n ≡ i = omega (arith, l, past) in s) ∙ get_or_from_slice_get ps i q p e) here
]

-- ---- raised

pub raised_for_no_places : (xs : List ℕ) (ps : List Place) → IsRaised xs xs ps 0
raised_for_no_places xs ps = record {
  size = refl;
  above = λ u. le_refl (cut_of xs u);
  inside = each_of_no_places ps (λ p. p.position < cut_of xs p.thread);
  least = λ c h g u. h u;
}

pub raised_max_step : (old cur new : List ℕ) (ps : List Place) (n : ℕ) (p : Place) → IsRaised old cur ps n → slice_get ps n ≡ Some p
    → p.thread < length cur
    → new ≡ set cur p.thread (max (cut_of cur p.thread) (p.position + 1)) → IsRaised old new ps (n + 1)
raised_max_step old cur new ps n p r is l e =
    let own : cut_of new p.thread ≡ max (cut_of cur p.thread) (p.position + 1) = ap (λ z. cut_of z p.thread) e
    ∙ get_or-set_same cur p.thread (max (cut_of cur p.thread) (p.position + 1)) 0 l in
    let rest : (u : ℕ) → u ≢ p.thread → cut_of new u ≡ cut_of cur u = λ u ne. ap (λ z. cut_of z u) e
    ∙ get_or-set_other cur p.thread u (max (cut_of cur p.thread) (p.position + 1)) 0 ne in
    let up : (u : ℕ) → cut_of cur u ≤ cut_of new u = λ u. elim (cases_eq u p.thread) [
      | inl same ↦ subst (λ z. cut_of cur z ≤ cut_of new z) (sym same) (omega (arith, own))
      | inr ne ↦ omega (arith, rest u ne)
    ] in
    record {
      size = ap length e ∙ length-set cur p.thread (max (cut_of cur p.thread) (p.position + 1)) ∙ r.size;
      above = λ u. let a = r.above u in let b = up u in omega (arith, a, b);
      inside = each_place_step ps n p (λ q. q.position < cut_of new q.thread) is (omega (arith, own))
          (λ i q less at. let a = r.inside i q less at in let b = up q.thread in omega (arith, a, b));
      least = λ c h g u. elim (cases_eq u p.thread) [
        | inl same ↦ subst (λ z. cut_of new z ≤ c z) (sym same)
            (let a = r.least c h (each_place_of_prefix ps n (λ q. q.position < c q.thread) g) p.thread in let b : p.position < c p.thread =
            g n p (omega arith) is in omega (arith, own, a, b))
        | inr ne ↦ let a = r.least c h (each_place_of_prefix ps n (λ q. q.position < c q.thread) g) u in omega (arith, a, rest u ne)
      ];
    }

-- ---- lowered

pub lowered_for_no_places : (xs : List ℕ) (ps : List Place) → IsLowered xs xs ps 0
lowered_for_no_places xs ps = record {
  size = refl;
  below = λ u. le_refl (cut_of xs u);
  outside = each_of_no_places ps (λ p. cut_of xs p.thread ≤ p.position);
  greatest = λ c h g u. h u;
}

pub lowered_min_step : (old cur new : List ℕ) (ps : List Place) (n : ℕ) (p : Place) → IsLowered old cur ps n → slice_get ps n ≡ Some p
    → p.thread < length cur
    → new ≡ set cur p.thread (min (cut_of cur p.thread) p.position) → IsLowered old new ps (n + 1)
lowered_min_step old cur new ps n p r is l e =
    let own : cut_of new p.thread ≡ min (cut_of cur p.thread) p.position = ap (λ z. cut_of z p.thread) e
    ∙ get_or-set_same cur p.thread (min (cut_of cur p.thread) p.position) 0 l in
    let rest : (u : ℕ) → u ≢ p.thread → cut_of new u ≡ cut_of cur u = λ u ne. ap (λ z. cut_of z u) e
    ∙ get_or-set_other cur p.thread u (min (cut_of cur p.thread) p.position) 0 ne in
    let down : (u : ℕ) → cut_of new u ≤ cut_of cur u = λ u. elim (cases_eq u p.thread) [
      | inl same ↦ subst (λ z. cut_of new z ≤ cut_of cur z) (sym same) (omega (arith, own))
      | inr ne ↦ omega (arith, rest u ne)
    ] in
    record {
      size = ap length e ∙ length-set cur p.thread (min (cut_of cur p.thread) p.position) ∙ r.size;
      below = λ u. let a = r.below u in let b = down u in omega (arith, a, b);
      outside = each_place_step ps n p (λ q. cut_of new q.thread ≤ q.position) is (omega (arith, own))
          (λ i q less at. let a = r.outside i q less at in let b = down q.thread in omega (arith, a, b));
      greatest = λ c h g u. elim (cases_eq u p.thread) [
        | inl same ↦ subst (λ z. c z ≤ cut_of new z) (sym same)
            (let a = r.greatest c h (each_place_of_prefix ps n (λ q. c q.thread ≤ q.position) g) p.thread in let b : c p.thread ≤ p.position =
            g n p (omega arith) is in omega (arith, own, a, b))
        | inr ne ↦ let a = r.greatest c h (each_place_of_prefix ps n (λ q. c q.thread ≤ q.position) g) u in omega (arith, a, rest u ne)
      ];
    }

-- ---- what the code reads

-- a position that was read
pub indexed_is_cut_position : (xs : List ℕ) (t v : ℕ) → t < length xs → v ≡ slice_index_or xs t v → v ≡ cut_of xs t
indexed_is_cut_position xs t v l e = e ∙ get_or_default_zero xs t v l

-- the place that comes next
abbrev pub place_at : List Place → ℕ → Place
place_at ps n = slice_index_or ps n (record { position = 0; version = 0; thread = 0 })

pub placed_thread_in_range : (k : ℕ) (ps : List Place) (n : ℕ) → ArePlacedBetween k ps → n < length ps → ((place_at ps n).thread < k)
    × ((place_at ps n).position + 1 < 2 ^ 64)
placed_thread_in_range k ps n h l = h n (place_at ps n) l (slice_get-get_or ps n _ l)

pub raised_next_place : (old cur : List ℕ) (ps : List Place) (n v top : ℕ) → ArePlacedBetween (length old) ps → IsRaised old cur ps n → n < length ps
    → v ≡ slice_index_or cur (place_at ps n).thread v
    → top ≡ max v ((place_at ps n).position + 1) → IsRaised old (set cur (place_at ps n).thread top) ps (n + 1)
raised_next_place old cur ps n v top h r l e is =
    let there : (place_at ps n).thread < length cur = (let a = (placed_thread_in_range (length old) ps n h l).0 in omega (arith, a, r.size)) in
    raised_max_step old cur (set cur (place_at ps n).thread top) ps n (place_at ps n) r (slice_get-get_or ps n _ l) there
    (ap (set cur (place_at ps n).thread) (is ∙ ap (λ z. max z ((place_at ps n).position + 1))
    (indexed_is_cut_position cur (place_at ps n).thread v there e)))

pub lowered_next_place : (old cur : List ℕ) (ps : List Place) (n v low : ℕ) → ArePlacedBetween (length old) ps → IsLowered old cur ps n → n < length ps
    → v ≡ slice_index_or cur (place_at ps n).thread v
    → low ≡ min v (place_at ps n).position → IsLowered old (set cur (place_at ps n).thread low) ps (n + 1)
lowered_next_place old cur ps n v low h r l e is =
    let there : (place_at ps n).thread < length cur = (let a = (placed_thread_in_range (length old) ps n h l).0 in omega (arith, a, r.size)) in
    lowered_min_step old cur (set cur (place_at ps n).thread low) ps n (place_at ps n) r (slice_get-get_or ps n _ l) there
    (ap (set cur (place_at ps n).thread) (is ∙ ap (λ z. min z (place_at ps n).position)
    (indexed_is_cut_position cur (place_at ps n).thread v there e)))

-- whether the next place is inside, and all that were before it
pub places_inside_step : (xs : List ℕ) (ps : List Place) (n v : ℕ) → ArePlacedBetween (length xs) ps → n < length ps
    → v ≡ slice_index_or xs (place_at ps n).thread v → (place_at ps n).position < v
    → EachPlace ps n (λ p. p.position < cut_of xs p.thread) → EachPlace ps (n + 1) (λ p. p.position < cut_of xs p.thread)
places_inside_step xs ps n v h l e less each =
    let there = (placed_thread_in_range (length xs) ps n h l).0 in
    each_place_step ps n (place_at ps n) (λ p. p.position < cut_of xs p.thread) (slice_get-get_or ps n _ l)
    (let same = indexed_is_cut_position xs (place_at ps n).thread v there e in omega (arith, less, same)) each

pub outside_place_excludes : (xs : List ℕ) (ps : List Place) (n v : ℕ) → ArePlacedBetween (length xs) ps → n < length ps
    → v ≡ slice_index_or xs (place_at ps n).thread v → v ≤ (place_at ps n).position
    → EachPlace ps (length ps) (λ p. p.position < cut_of xs p.thread) → ⊥
outside_place_excludes xs ps n v h l e less each =
    let there = (placed_thread_in_range (length xs) ps n h l).0 in
    let a : (place_at ps n).position < cut_of xs (place_at ps n).thread = each n (place_at ps n) l (slice_get-get_or ps n _ l) in
    let same = indexed_is_cut_position xs (place_at ps n).thread v there e in
    omega (arith, a, less, same)
