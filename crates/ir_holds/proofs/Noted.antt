-- Starts and ends of boxes, and what is noted of them.
use Rattle.std.proofs.Common.{◌≡◌, ℕ, ◌+◌, ◌-◌, ◌*◌, ◌^◌, ◌<◌, ◌≤◌, ◌⊎◌, inl, inr, max, Some, List, [], ◌∷◌, ◌++◌, length, map, option_map, refl, sym, ap, ◌∙◌, subst, arith}
use Rattle.std.specs.List.{slice_get, Contains}
use Rattle.std.specs.List.Sorted.{IsPermutation}
use Rattle.std.proofs.lemmas.Bool.{cases_lt}
use Rattle.std.proofs.lemmas.Option.{same_Some, slice_get_within, slice_get-get_or, slice_get-map, get_or_from_slice_get}
use Rattle.std.proofs.lemmas.List.Elements.{Contains-push, Contains-push_cases, Contains-append_left}
use Rattle.std.proofs.lemmas.List.Sorted.{Contains-permutation, IsPermutation-sym}
use Rattle.ir_lemmas.proofs.CallerLemmas.{element_below_length, length_of_map}
use Rattle.ir_picture.specs.Places.{IsLeastAbove}
use Rattle.ir_picture.specs.declared.placed_box.Point.{Point}
use Rattle.ir_picture.specs.declared.placed_box.PlacedBox.{PlacedBox}
use Rattle.ir_holds.specs.Held.{IsLeastFrom, IsMark, MarkedBefore, ComesFrom}
use Rattle.ir_holds.specs.Heights.{IsLower}
use Rattle.ir_holds.specs.Schedules.{AreNear}
use Rattle.ir_holds.specs.Stops.{AreStopPlaces, IsStopNear, stop_number, right_height, late_height, AreNoted, HoldsMarks, HasMarks}
use Rattle.ir_holds.specs.declared.span.Span.{Span}
use Rattle.ir_holds.specs.declared.heights.Height.{Height}
use Rattle.ir_holds.specs.declared.stops.Stop.{Stop}
use Rattle.ir_holds.specs.declared.marks.Marks.{Marks}

-- ---- the starts and ends of the first boxes

-- all at which one of the first n boxes starts or ends
pub record AreStopsTo (boxes : List PlacedBox) (spans : List Span) (n : ℕ) (stops : List Stop) : Type 0 where
  pub each : (s : Stop) → Contains stops s → IsMark boxes spans s.thread s.step s.place
  pub all : (t k : ℕ) (p : Point) (m : IsMark boxes spans t k p) → m.number < n → Contains stops (record { thread = t; step = k; place = p })

pub stops_of_no_boxes : (boxes : List PlacedBox) (spans : List Span) → AreStopsTo boxes spans 0 []
stops_of_no_boxes boxes spans = record {
  each = λ s has. let less = has.1 in absurd (omega (arith, less));
  all = λ t k p m less. absurd (omega (arith, less));
}

abbrev pub start_of : Span → PlacedBox → Stop
start_of s b = record { thread = s.thread; step = s.first; place = b.start }

abbrev pub end_of : Span → PlacedBox → Stop
end_of s b = record { thread = s.thread; step = s.last; place = b.end }

pub stops_to_next_box : (boxes : List PlacedBox) (spans : List Span) (n : ℕ) (stops more most : List Stop) (b : PlacedBox) (s : Span) → AreStopsTo boxes spans n stops
    → slice_get boxes n ≡ Some b → slice_get spans n ≡ Some s → more ≡ stops ++ (record { thread = s.thread; step = s.first; place = b.start }) ∷ []
    → most ≡ more ++ (record { thread = s.thread; step = s.last; place = b.end }) ∷ [] → AreStopsTo boxes spans (n + 1) most
stops_to_next_box boxes spans n stops more most b s h there goes one two = record {
  each = λ x has. elim (Contains-push_cases more (end_of s b) x (subst (λ (xs : List Stop). Contains xs x) two has)) [
    | inl old ↦ elim (Contains-push_cases stops (start_of s b) x (subst (λ (xs : List Stop). Contains xs x) one old)) [
      | inl older ↦ h.each x older
      | inr start ↦ subst (λ (y : Stop). IsMark boxes spans y.thread y.step y.place) start
          (record { number = n; box = b; own = s; there = there; goes = goes; thread = refl; is = inl (refl, refl) })
    ]
    | inr end ↦ subst (λ (y : Stop). IsMark boxes spans y.thread y.step y.place) end
        (record { number = n; box = b; own = s; there = there; goes = goes; thread = refl; is = inr (refl, refl) })
  ];
  all = λ t k p m less. elim (cases_lt m.number n) [
    | inl before ↦ subst (λ (xs : List Stop). Contains xs (record { thread = t; step = k; place = p })) (sym two) (Contains-append_left more (end_of s b ∷ []) _
        (subst (λ (xs : List Stop). Contains xs (record { thread = t; step = k; place = p })) (sym one) (Contains-append_left stops (start_of s b ∷ []) _ (h.all t k p m before))))
    | inr past ↦
        let here : m.number ≡ n = omega (arith, less, past) in
        let box : m.box ≡ b = same_Some m.box b (sym m.there ∙ ap (slice_get boxes) here ∙ there) in
        let own : m.own ≡ s = same_Some m.own s (sym m.goes ∙ ap (slice_get spans) here ∙ goes) in
        elim m.is [
          | inl start ↦
              let same : start_of s b ≡ record { thread = t; step = k; place = p } = λ i. record {
                thread = (ap (λ (x : Span). x.thread) (sym own) ∙ m.thread) i;
                step = (ap (λ (x : Span). x.first) (sym own) ∙ sym start.0) i;
                place = (ap (λ (x : PlacedBox). x.start) (sym box) ∙ sym start.1) i;
              } in
              subst (λ (xs : List Stop). Contains xs (record { thread = t; step = k; place = p })) (sym two) (Contains-append_left more (end_of s b ∷ []) _
              (subst (λ (xs : List Stop). Contains xs (record { thread = t; step = k; place = p })) (sym one)
              (subst (Contains (stops ++ start_of s b ∷ [])) same (Contains-push stops (start_of s b)))))
          | inr end ↦
              let same : end_of s b ≡ record { thread = t; step = k; place = p } = λ i. record {
                thread = (ap (λ (x : Span). x.thread) (sym own) ∙ m.thread) i;
                step = (ap (λ (x : Span). x.last) (sym own) ∙ sym end.0) i;
                place = (ap (λ (x : PlacedBox). x.end) (sym box) ∙ sym end.1) i;
              } in
              subst (λ (xs : List Stop). Contains xs (record { thread = t; step = k; place = p })) (sym two)
              (subst (Contains (more ++ end_of s b ∷ [])) same (Contains-push more (end_of s b)))
        ]
  ];
}

pub stops_of_all_boxes : (boxes : List PlacedBox) (spans : List Span) (n : ℕ) (stops : List Stop) → AreStopsTo boxes spans n stops → length boxes ≤ n
    → AreStopPlaces boxes spans stops
stops_of_all_boxes boxes spans n stops h all = record {
  each = h.each;
  all = λ t k p m. h.all t k p m (let within = slice_get_within boxes m.number m.box m.there in omega (arith, within, all));
}

-- ---- what is noted of them

abbrev pub EachIsNear : List Stop → Type 0
EachIsNear stops = (k : ℕ) (s : Stop) → slice_get stops k ≡ Some s → IsStopNear s

pub contained_stop_is_near : (stops : List Stop) → EachIsNear stops → (s : Stop) → Contains stops s → IsStopNear s
contained_stop_is_near stops h s has = h has.0 s (slice_get-get_or stops has.0 s has.1 ∙ ap Some has.2)

contains_map : {X Y : Type 0} (f : X → Y) (xs : List X) (x : X) → Contains xs x → Contains (map f xs) (f x)
contains_map f xs x has =
    let at : slice_get (map f xs) has.0 ≡ Some (f x) =
    slice_get-map f xs has.0 ∙ ap (option_map f) (slice_get-get_or xs has.0 x has.1 ∙ ap Some has.2) in
    (has.0, slice_get_within (map f xs) has.0 (f x) at, get_or_from_slice_get (map f xs) has.0 (f x) (f x) at)

map_contains_inverse : {X Y : Type 0} (f : X → Y) (xs : List X) (y : Y) → Contains (map f xs) y → (x : X) × Contains xs x × (f x ≡ y)
map_contains_inverse f xs y has =
    let there = element_below_length xs has.0 (subst (λ n. has.0 < n) (length_of_map f xs) has.1) in
    let at : slice_get (map f xs) has.0 ≡ Some (f there.0) = slice_get-map f xs has.0 ∙ ap (option_map f) there.1 in
    let same : Some (f there.0) ≡ Some y = sym at ∙ slice_get-get_or (map f xs) has.0 y has.1 ∙ ap Some has.2 in (
      there.0,
      (has.0, slice_get_within xs has.0 there.0 there.1, get_or_from_slice_get xs has.0 there.0 there.0 there.1),
      same_Some (f there.0) y same,
    )

noted_contains_stop : (f : Stop → Height) (stops : List Stop) (each : List Height) → IsPermutation (map f stops) each → (s : Stop) → Contains stops s → Contains each (f s)
noted_contains_stop f stops each same s has = Contains-permutation (map f stops) each (f s) same (contains_map f stops s has)

noted_is_of_stop : (f : Stop → Height) (stops : List Stop) (each : List Height) → IsPermutation (map f stops) each → (h : Height) → Contains each h
    → (s : Stop) × Contains stops s × (f s ≡ h)
noted_is_of_stop f stops each same h has = map_contains_inverse f stops h (Contains-permutation each (map f stops) h (IsPermutation-sym (map f stops) each same) has)

-- a number of a thread that is not too far is below the numbers of the next thread
number_order_by_thread : (t u n k : ℕ) → n < 2 ^ 54 → k < 2 ^ 54 → stop_number u n < stop_number t k → ((u ≡ t) × (n < k)) ⊎ (u < t)
number_order_by_thread t u n k small short less = elim (cases_lt u t) [
  | inl before ↦ inr before
  | inr past ↦ elim (cases_lt t u) [
    | inl after ↦ absurd (omega (arith, small, short, less, after))
    | inr not ↦ let same : u ≡ t = omega (arith, past, not) in inl (same, (let e = ap (λ z. z * 2 ^ 54) same in omega (arith, e, less)))
  ]
]

pub least_past_all_marks : (boxes : List PlacedBox) (spans : List Span) (m : Marks) (t k from top y : ℕ) → HoldsMarks boxes spans m → k < 2 ^ 54
    → IsLeastFrom 0 (IsLower m.right.each.items (stop_number t k)) top → y ≡ max (top - stop_number t 0) from → IsLeastAbove from (MarkedBefore boxes spans t k) y
least_past_all_marks boxes spans m t k from top y holds short h is = record {
  start = omega (arith, is);
  above = λ z marked.
      let s : Stop = record { thread = t; step = marked.step; place = marked.place } in
      let has = holds.are.all t marked.step marked.place marked.mark in
      let less = marked.before in
      let up = h.above (right_height s).top (record {
        height = right_height s;
        there = noted_contains_stop right_height holds.stops m.right.each.items holds.noted.rights s has;
        before = omega (arith, less);
        top = refl;
      }) in
      let same = marked.x in
      omega (arith, is, up, same);
  least = λ w low all.
      let most = h.least (stop_number t w) (omega arith) (λ z before.
      let from = noted_is_of_stop right_height holds.stops m.right.each.items holds.noted.rights before.height before.there in
      let near = holds.noted.near from.0 from.1 in
      let x = near.x in
      let at = ap (λ (q : Height). q.at) from.2 in
      let up = ap (λ (q : Height). q.top) from.2 ∙ before.top in
      let less : stop_number from.0.thread from.0.step < stop_number t k = subst (λ z. z < stop_number t k) (sym at) before.before in
      elim (number_order_by_thread t from.0.thread from.0.step k near.step short less) [
        | inl here ↦
            let mark = holds.are.each from.0 from.1 in
            let right = all from.0.place.x (record {
              step = from.0.step;
              place = from.0.place;
              mark = subst (λ u. IsMark boxes spans u from.0.step from.0.place) here.0 mark;
              before = here.1;
              x = refl;
            }) in
            let same = ap (λ q. q * 2 ^ 54) here.0 in
            omega (arith, same, up, right)
        | inr early ↦ omega (arith, early, up, x)
      ]) in
      omega (arith, is, low, most);
}

pub least_from_all_marks : (boxes : List PlacedBox) (spans : List Span) (m : Marks) (t k from top y : ℕ) → HoldsMarks boxes spans m → k < 2 ^ 54
    → IsLeastFrom 0 (IsLower m.late.each.items (stop_number t k)) top
    → ((top - stop_number t 0 ≡ 0) × (y ≡ from)) ⊎ ((0 < top - stop_number t 0) × (y ≡ max (k + ((top - stop_number t 0) - 1)) from))
    → IsLeastFrom from (ComesFrom boxes spans t k) y
least_from_all_marks boxes spans m t k from top y holds short h cases = record {
  start = elim cases [
    | inl none ↦ let is = none.1 in omega (arith, is)
    | inr some ↦ let is = some.1 in omega (arith, is)
  ];
  above = λ z comes.
      let s : Stop = record { thread = t; step = comes.step; place = comes.place } in
      let has = holds.are.all t comes.step comes.place comes.mark in
      let near = (holds.noted.near s has).late in
      let less = comes.before in
      let up = h.above (late_height s).top (record {
        height = late_height s;
        there = noted_contains_stop late_height holds.stops m.late.each.items holds.noted.lates s has;
        before = omega (arith, less);
        top = refl;
      }) in
      let same = comes.u in
      elim cases [
        | inl none ↦ let no = none.0 in absurd (omega (arith, up, no))
        | inr some ↦ let is = some.1 in omega (arith, is, up, same, near, less)
      ];
  least = λ w low all.
      let most = h.least (stop_number t ((w + 1) - k)) (omega arith) (λ z before.
      let from = noted_is_of_stop late_height holds.stops m.late.each.items holds.noted.lates before.height before.there in
      let near = holds.noted.near from.0 from.1 in
      let u = near.u in
      let on = near.late in
      let at = ap (λ (q : Height). q.at) from.2 in
      let up = ap (λ (q : Height). q.top) from.2 ∙ before.top in
      let less : stop_number from.0.thread from.0.step < stop_number t k = subst (λ z. z < stop_number t k) (sym at) before.before in
      elim (number_order_by_thread t from.0.thread from.0.step k near.step short less) [
        | inl here ↦
            let mark = holds.are.each from.0 from.1 in
            let by = all (from.0.place.u + (k - from.0.step)) (record {
              step = from.0.step;
              place = from.0.place;
              mark = subst (λ v. IsMark boxes spans v from.0.step from.0.place) here.0 mark;
              before = here.1;
              u = refl;
            }) in
            let short = here.1 in
            let same = ap (λ q. q * 2 ^ 54) here.0 in
            omega (arith, same, up, by, on, short)
        | inr early ↦ omega (arith, early, up, u)
      ]) in
      elim cases [
        | inl none ↦ let is = none.1 in omega (arith, is, low)
        | inr some ↦ let is = some.1 in let more = some.0 in omega (arith, is, low, most, more)
      ];
}

-- and so is the greatest late height
pub top_late_bound : (stops : List Stop) (m : Marks) (t k top : ℕ) → AreNoted stops m → k < 2 ^ 54 → IsLeastFrom 0 (IsLower m.late.each.items (stop_number t k)) top
    → top - stop_number t 0 ≤ 2 ^ 54
top_late_bound stops m t k top noted short h =
    let most = h.least (stop_number t (2 ^ 54)) (omega arith) (λ z before.
    let from = noted_is_of_stop late_height stops m.late.each.items noted.lates before.height before.there in
    let near = noted.near from.0 from.1 in
    let u = near.u in
    let at = ap (λ (q : Height). q.at) from.2 in
    let up = ap (λ (q : Height). q.top) from.2 ∙ before.top in
    let less : stop_number from.0.thread from.0.step < stop_number t k = subst (λ z. z < stop_number t k) (sym at) before.before in
    elim (number_order_by_thread t from.0.thread from.0.step k near.step short less) [
      | inl here ↦ let same = ap (λ q. q * 2 ^ 54) here.0 in omega (arith, same, up, u)
      | inr early ↦ omega (arith, early, up, u)
    ]) in
    omega (arith, most)

-- and the greatest right height
pub top_right_bound : (stops : List Stop) (m : Marks) (t k top : ℕ) → AreNoted stops m → k < 2 ^ 54 → IsLeastFrom 0 (IsLower m.right.each.items (stop_number t k)) top
    → top - stop_number t 0 ≤ 2 ^ 54
top_right_bound stops m t k top noted short h =
    let most = h.least (stop_number t (2 ^ 54)) (omega arith) (λ z before.
    let from = noted_is_of_stop right_height stops m.right.each.items noted.rights before.height before.there in
    let near = noted.near from.0 from.1 in
    let x = near.x in
    let at = ap (λ (q : Height). q.at) from.2 in
    let up = ap (λ (q : Height). q.top) from.2 ∙ before.top in
    let less : stop_number from.0.thread from.0.step < stop_number t k = subst (λ z. z < stop_number t k) (sym at) before.before in
    elim (number_order_by_thread t from.0.thread from.0.step k near.step short less) [
      | inl here ↦ let same = ap (λ q. q * 2 ^ 54) here.0 in omega (arith, same, up, x)
      | inr early ↦ omega (arith, early, up, x)
    ]) in
    omega (arith, most)

-- the starts and ends of near boxes are
pub near_boxes_near_stops : (boxes : List PlacedBox) (spans : List Span) (stops : List Stop) → AreStopPlaces boxes spans stops → AreNear boxes spans → EachIsNear stops
near_boxes_near_stops boxes spans stops are near k s at =
    let has : Contains stops s = (k, slice_get_within stops k s at, get_or_from_slice_get stops k s s at) in
    let mark = are.each s has in
    elim mark.is [
      | inl start ↦
          let h = near.start mark.number mark.box mark.own mark.there mark.goes in
          let first = near.first mark.number mark.own mark.goes in
          let place = start.1 in
          let px = ap (λ (p : Point). p.x) place in
          let pu = ap (λ (p : Point). p.u) place in
          let is = start.0 in
          let x = h.x in
          let u = h.u in
          let late = h.late in
          record { x = omega (arith, px, x); u = omega (arith, pu, u); step = omega (arith, is, first); late = omega (arith, is, pu, late) }
      | inr end ↦
          let h = near.end mark.number mark.box mark.own mark.there mark.goes in
          let last = near.last mark.number mark.own mark.goes in
          let place = end.1 in
          let px = ap (λ (p : Point). p.x) place in
          let pu = ap (λ (p : Point). p.u) place in
          let is = end.0 in
          let x = h.x in
          let u = h.u in
          let late = h.late in
          record { x = omega (arith, px, x); u = omega (arith, pu, u); step = omega (arith, is, last); late = omega (arith, is, pu, late) }
    ]

-- the boxes whose starts and ends are noted are not too far, and neither are their steps
pub noted_boxes_are_near : (boxes : List PlacedBox) (spans : List Span) (m : Marks) (n : ℕ) (b : PlacedBox) (s : Span) → HoldsMarks boxes spans m
    → slice_get boxes n ≡ Some b → slice_get spans n ≡ Some s → IsStopNear (start_of s b) × IsStopNear (end_of s b)
noted_boxes_are_near boxes spans m n b s holds there goes = (
  holds.noted.near (start_of s b) (holds.are.all s.thread s.first b.start
      (record { number = n; box = b; own = s; there = there; goes = goes; thread = refl; is = inl (refl, refl) })),
  holds.noted.near (end_of s b) (holds.are.all s.thread s.last b.end
      (record { number = n; box = b; own = s; there = there; goes = goes; thread = refl; is = inr (refl, refl) })),
)

pub held_marks_are_some : (boxes : List PlacedBox) (spans : List Span) (m : Marks) → HoldsMarks boxes spans m → HasMarks m
held_marks_are_some boxes spans m holds = (holds.stops, holds.noted)
