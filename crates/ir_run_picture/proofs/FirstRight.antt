-- For each x there is a cut between what is left of it and the rest.
use Rattle.std.proofs.Common.{◌≡◌, ℕ, zero, suc, ◌<◌, ◌≤◌, ◌⊎◌, inl, inr, Some, List, length, map, get_or, refl, sym, ap, ◌∙◌, subst, arith}
use Rattle.std.specs.List.{slice_get, range_with_len}
use Rattle.std.proofs.lemmas.Bool.{cases_eq, cases_lt}
use Rattle.std.proofs.lemmas.List.{get_or_past}
use Rattle.std.proofs.lemmas.List.FromFn.{get_or-map-range_with_len, length-map-range_with_len}
use Rattle.std.proofs.lemmas.Option.{same_Some, slice_get-get_or, slice_get_within}
use Rattle.ir_runs.specs.Run.{Cut}
use Rattle.ir_fit.specs.Fit.{FittedTrace, HasRun}
use Rattle.ir_cut.specs.Positions.{cut_of, last_of, threads_of}
use Rattle.ir_picture.specs.declared.event_box.EventBox.{EventBox}
use Rattle.ir_picture.specs.declared.placed_box.Point.{Point}
use Rattle.ir_picture.specs.declared.placed_box.PlacedBox.{PlacedBox}
use Rattle.ir_holds.specs.declared.span.Span.{Span}
use Rattle.ir_run_picture.specs.Held.{AreHeld}
use Rattle.ir_run_picture.specs.Laws.{IsMoment, LeftIsCut}
use Rattle.ir_run_picture.proofs.Behind.{box_has_span_of_run}
use Rattle.ir_run_picture.proofs.LeftCut.{IsLeftCut}
use Rattle.ir_run_picture.proofs.Moments.{later_moment_is_right, moments_of_step_same, moment_is_within_thread}

-- ---- the first of some steps that isn't left of x

-- the first of these steps whose number isn't below x, or the last position
record IsFirst (These : ℕ → ℕ → Type 0) (x last at : ℕ) : Type 0 where
  within : at ≤ last
  rest : (k z : ℕ) → These k z → x ≤ z → at ≤ k
  is : (at ≡ last) ⊎ ((k : ℕ) × (z : ℕ) × These k z × (x ≤ z) × (at ≡ k))

last_if_none_at_step : (These : ℕ → ℕ → Type 0) (x last : ℕ) → ((k z : ℕ) → These k z → ⊥) → IsFirst These x last last
last_if_none_at_step These x last none = record { within = omega arith; rest = λ k z has far. absurd (none k z has); is = inl refl }

first_of_equal_sets : (These Those : ℕ → ℕ → Type 0) (x last at : ℕ) → ((k z : ℕ) → Those k z → These k z) → ((k z : ℕ) → These k z → Those k z)
    → IsFirst These x last at → IsFirst Those x last at
first_of_equal_sets These Those x last at from to h = record {
  within = h.within;
  rest = λ k z has far. h.rest k z (from k z has) far;
  is = elim h.is [
    | inl e ↦ inl e
    | inr q ↦ inr (q.0, q.1, to q.0 q.1 q.2, q.3, q.4)
  ];
}

-- these steps and another
abbrev OrStep : (ℕ → ℕ → Type 0) → ℕ → ℕ → ℕ → ℕ → Type 0
OrStep These step number k z = These k z ⊎ ((k ≡ step) × (z ≡ number))

first_with_one_more_step : (These : ℕ → ℕ → Type 0) (x last at step number : ℕ) → step ≤ last → IsFirst These x last at
    → (n : ℕ) × IsFirst (OrStep These step number) x last n
first_with_one_more_step These x last at step number within h = elim (cases_lt number x) [
  | inl left ↦ (at, kept (λ far. absurd (omega (arith, left, far))))
  | inr right ↦ elim (cases_lt step at) [
    | inl low ↦ (
      step,
      record {
        within = within;
        rest = λ k z has far. elim has [
          | inl q ↦ (let y = h.rest k z q far in omega (arith, y, low))
          | inr q ↦ (let y = q.0 in omega (arith, y))
        ];
        is = inr (step, number, inr (refl, refl), right, refl);
      },
    )
    | inr high ↦ (at, kept (λ far. high))
  ]
]
  where
    kept : (x ≤ number → at ≤ step) → IsFirst (OrStep These step number) x last at
    kept low = record {
      within = h.within;
      rest = λ k z has far. elim has [
        | inl q ↦ h.rest k z q far
        | inr q ↦ (let same = q.0 in let place = q.1 in let y = low (omega (arith, place, far)) in omega (arith, same, y))
      ];
      is = elim h.is [
        | inl e ↦ inl e
        | inr q ↦ inr (q.0, q.1, inl q.2, q.3, q.4)
      ];
    }

-- ---- the moments of a thread

-- of the first n boxes
abbrev MomentTo : List PlacedBox → List Span → ℕ → ℕ → ℕ → ℕ → Type 0
MomentTo boxes spans t n k z = (m : IsMoment boxes spans t k z) × (m.number < n)

-- box n with its steps, if there is one
abbrev HasNumber : List PlacedBox → List Span → ℕ → Type 0
HasNumber boxes spans n = (b : PlacedBox) × (s : Span) × (slice_get boxes n ≡ Some b) × (slice_get spans n ≡ Some s)

box_of_number_or_none : (f : FittedTrace) (boxes : List PlacedBox) (spans : List Span) (ends : List Point) → AreHeld f boxes spans ends → (n : ℕ)
    → HasNumber boxes spans n ⊎ (length boxes ≤ n)
box_of_number_or_none f boxes spans ends h n = elim (cases_lt n (length boxes)) [
  | inl less ↦
      let nowhere : Point = record { x = 0; u = 0 } in
      let events : EventBox = record { thread = 0; event = 0; count = 0 } in
      let none : PlacedBox = record { events = events; start = nowhere; end = nowhere; came = 0; row = 0 } in
      let there : slice_get boxes n ≡ Some (get_or boxes n none) = slice_get-get_or boxes n none less in
      let go = box_has_span_of_run f boxes spans ends h n (get_or boxes n none) there in
      inl (get_or boxes n none, go.0, there, go.1)
  | inr past ↦ inr past
]

-- a moment of the first n + 1 boxes is of the first n, or of box n
moment_first_or_next : (boxes : List PlacedBox) (spans : List Span) (t n k z : ℕ) (b : PlacedBox) (s : Span) → slice_get boxes n ≡ Some b
    → slice_get spans n ≡ Some s → MomentTo boxes spans t (suc n) k z
    → MomentTo boxes spans t n k z ⊎ ((s.thread ≡ t)
    × (((k ≡ s.first) × (z ≡ b.start.x)) ⊎ ((s.first < s.last) × (k ≡ s.last) × (z ≡ b.end.x))))
moment_first_or_next boxes spans t n k z b s there goes m = elim (cases_lt m.0.number n) [
  | inl less ↦ inl (m.0, less)
  | inr not ↦
      let less = m.1 in
      let number : m.0.number ≡ n = omega (arith, less, not) in
      let box : m.0.box ≡ b = same_Some m.0.box b (sym m.0.there ∙ ap (slice_get boxes) number ∙ there) in
      let own : m.0.own ≡ s = same_Some m.0.own s (sym m.0.goes ∙ ap (slice_get spans) number ∙ goes) in
      inr (
        ap (λ (y : Span). y.thread) (sym own) ∙ m.0.thread,
        elim m.0.is [
          | inl start ↦ inl (start.0 ∙ ap (λ (y : Span). y.first) own, start.1 ∙ ap (λ (y : PlacedBox). y.start.x) box)
          | inr end ↦ inr (
            subst (λ (y : Span). y.first < y.last) own end.0,
            end.1 ∙ ap (λ (y : Span). y.last) own,
            end.2 ∙ ap (λ (y : PlacedBox). y.end.x) box,
          )
        ],
      )
]

-- the moments of a box
box_start_is_moment : (boxes : List PlacedBox) (spans : List Span) (t n k z : ℕ) (b : PlacedBox) (s : Span) → slice_get boxes n ≡ Some b
    → slice_get spans n ≡ Some s → s.thread ≡ t → (k ≡ s.first) × (z ≡ b.start.x) → MomentTo boxes spans t (suc n) k z
box_start_is_moment boxes spans t n k z b s there goes thread is =
    (record { number = n; box = b; own = s; there = there; goes = goes; thread = thread; is = inl (is.0, is.1) }, omega arith)

box_end_is_moment : (boxes : List PlacedBox) (spans : List Span) (t n k z : ℕ) (b : PlacedBox) (s : Span) → slice_get boxes n ≡ Some b
    → slice_get spans n ≡ Some s → s.thread ≡ t → s.first < s.last → (k ≡ s.last) × (z ≡ b.end.x) → MomentTo boxes spans t (suc n) k z
box_end_is_moment boxes spans t n k z b s there goes thread long is =
    (record { number = n; box = b; own = s; there = there; goes = goes; thread = thread; is = inr (long, is.0, is.1) }, omega arith)

moment_with_one_more_box : (boxes : List PlacedBox) (spans : List Span) (t n k z : ℕ) → MomentTo boxes spans t n k z → MomentTo boxes spans t (suc n) k z
moment_with_one_more_box boxes spans t n k z m = (m.0, (let less = m.1 in omega (arith, less)))

-- among the moments of the first n boxes the first of thread t that isn't left of x
abbrev FirstTo : FittedTrace → List PlacedBox → List Span → ℕ → ℕ → ℕ → Type 0
FirstTo f boxes spans t x n = (at : ℕ) × IsFirst (MomentTo boxes spans t n) x (last_of f t) at

first_after_own_box : (f : FittedTrace) → HasRun f → (boxes : List PlacedBox) (spans : List Span) (ends : List Point) → AreHeld f boxes spans ends
    → (t x n at : ℕ) (b : PlacedBox) (s : Span) → slice_get boxes n ≡ Some b → slice_get spans n ≡ Some s → s.thread ≡ t
    → IsFirst (MomentTo boxes spans t n) x (last_of f t) at → FirstTo f boxes spans t x (suc n)
first_after_own_box f run boxes spans ends h t x n at b s there goes thread before =
    let start = box_start_is_moment boxes spans t n s.first b.start.x b s there goes thread (refl, refl) in
    let low = (moment_is_within_thread f run boxes spans ends h t s.first b.start.x start.0).1 in
    let one = first_with_one_more_step (MomentTo boxes spans t n) x (last_of f t) at s.first b.start.x (omega (arith, low)) before in
    elim (cases_lt s.first s.last) [
      | inl long ↦
          let end = box_end_is_moment boxes spans t n s.last b.end.x b s there goes thread long (refl, refl) in
          let high = (moment_is_within_thread f run boxes spans ends h t s.last b.end.x end.0).1 in
          let two = first_with_one_more_step (OrStep (MomentTo boxes spans t n) s.first b.start.x) x (last_of f t) one.0 s.last b.end.x (omega (arith, high)) one.1 in (
            two.0,
            first_of_equal_sets (OrStep (OrStep (MomentTo boxes spans t n) s.first b.start.x) s.last b.end.x) (MomentTo boxes spans t (suc n)) x (last_of f t) two.0
                (λ k z m. elim (moment_first_or_next boxes spans t n k z b s there goes m) [
                  | inl early ↦ inl (inl early)
                  | inr own ↦ elim own.1 [
                    | inl first ↦ inl (inr first)
                    | inr last ↦ inr (last.1, last.2)
                  ]
                ])
                (λ k z has. elim has [
                  | inl early ↦ elim early [
                    | inl m ↦ moment_with_one_more_box boxes spans t n k z m
                    | inr first ↦ box_start_is_moment boxes spans t n k z b s there goes thread first
                  ]
                  | inr last ↦ box_end_is_moment boxes spans t n k z b s there goes thread long last
                ])
                two.1,
          )
      | inr brief ↦ (
        one.0,
        first_of_equal_sets (OrStep (MomentTo boxes spans t n) s.first b.start.x) (MomentTo boxes spans t (suc n)) x (last_of f t) one.0
            (λ k z m. elim (moment_first_or_next boxes spans t n k z b s there goes m) [
              | inl early ↦ inl early
              | inr own ↦ elim own.1 [
                | inl first ↦ inr first
                | inr last ↦ absurd (let long = last.0 in omega (arith, long, brief))
              ]
            ])
            (λ k z has. elim has [
              | inl m ↦ moment_with_one_more_box boxes spans t n k z m
              | inr first ↦ box_start_is_moment boxes spans t n k z b s there goes thread first
            ])
            one.1,
      )
    ]

first_after_other_box : (f : FittedTrace) (boxes : List PlacedBox) (spans : List Span) (t x n at : ℕ)
    → ((k z : ℕ) → MomentTo boxes spans t (suc n) k z → MomentTo boxes spans t n k z) → IsFirst (MomentTo boxes spans t n) x (last_of f t) at
    → FirstTo f boxes spans t x (suc n)
first_after_other_box f boxes spans t x n at none before =
    (at, first_of_equal_sets (MomentTo boxes spans t n) (MomentTo boxes spans t (suc n)) x (last_of f t) at none (moment_with_one_more_box boxes spans t n) before)

first_to_exists : (f : FittedTrace) → HasRun f → (boxes : List PlacedBox) (spans : List Span) (ends : List Point) → AreHeld f boxes spans ends
    → (t x n : ℕ) → FirstTo f boxes spans t x n
first_to_exists f run boxes spans ends h t x zero =
    (last_of f t, last_if_none_at_step (MomentTo boxes spans t 0) x (last_of f t) (λ k z m. let less = m.1 in omega (arith, less)))
first_to_exists f run boxes spans ends h t x (suc n) =
    let before = first_to_exists f run boxes spans ends h t x n in
    elim (box_of_number_or_none f boxes spans ends h n) [
      | inl has ↦ elim (cases_eq has.1.thread t) [
        | inl own ↦ first_after_own_box f run boxes spans ends h t x n before.0 has.0 has.1 has.2 has.3 own before.1
        | inr other ↦ first_after_other_box f boxes spans t x n before.0
            (λ k z m. elim (moment_first_or_next boxes spans t n k z has.0 has.1 has.2 has.3 m) [
              | inl early ↦ early
              | inr own ↦ absurd (other own.0)
            ])
            before.1
      ]
      | inr past ↦ first_after_other_box f boxes spans t x n before.0
          (λ k z m. (m.0, (let within = slice_get_within boxes m.0.number m.0.box m.0.there in omega (arith, within, past)))) before.1
    ]

-- ---- the cut

-- the position of thread t: the first of its moments that isn't left of x, or its last position
first_right : (f : FittedTrace) → HasRun f → (boxes : List PlacedBox) (spans : List Span) (ends : List Point) → AreHeld f boxes spans ends → ℕ → Cut
first_right f run boxes spans ends h x t = (first_to_exists f run boxes spans ends h t x (length boxes)).0

first_right_cut_is_first : (f : FittedTrace) (run : HasRun f) (boxes : List PlacedBox) (spans : List Span) (ends : List Point) (h : AreHeld f boxes spans ends)
    → (x t : ℕ) → IsFirst (MomentTo boxes spans t (length boxes)) x (last_of f t) (first_right f run boxes spans ends h x t)
unfolding first_right
first_right_cut_is_first f run boxes spans ends h x t = (first_to_exists f run boxes spans ends h t x (length boxes)).1

moment_is_to_all : (boxes : List PlacedBox) (spans : List Span) (t k z : ℕ) → IsMoment boxes spans t k z → MomentTo boxes spans t (length boxes) k z
moment_is_to_all boxes spans t k z m = (m, slice_get_within boxes m.number m.box m.there)

moment_left_is_before : (f : FittedTrace) → HasRun f → (boxes : List PlacedBox) (spans : List Span) (ends : List Point) → AreHeld f boxes spans ends
    → (x t at k z : ℕ) → IsFirst (MomentTo boxes spans t (length boxes)) x (last_of f t) at → IsMoment boxes spans t k z → z < x → k < at
moment_left_is_before f run boxes spans ends h x t at k z first m left = elim first.is [
  | inl last ↦ (let within = (moment_is_within_thread f run boxes spans ends h t k z m).1 in omega (arith, last, within))
  | inr found ↦
      let far = found.3 in
      let same = found.4 in
      elim (cases_lt k found.0) [
        | inl less ↦ omega (arith, less, same)
        | inr not ↦ elim (cases_lt found.0 k) [
          | inl before ↦ absurd (let right = later_moment_is_right f boxes spans ends h t found.0 found.1 k z found.2.0 m before in omega (arith, right, far, left))
          | inr equal ↦
              let one : k ≡ found.0 = omega (arith, not, equal) in
              let place = moments_of_step_same f run boxes spans ends h t found.0 z found.1 (subst (λ y. IsMoment boxes spans t y z) one m) found.2.0 in
              absurd (omega (arith, place, far, left))
        ]
      ]
]

pub left_cut_exists : (f : FittedTrace) → HasRun f → (boxes : List PlacedBox) (spans : List Span) (ends : List Point) → AreHeld f boxes spans ends
    → (x : ℕ) → (c : Cut) × IsLeftCut f boxes spans x c
left_cut_exists f run boxes spans ends h x = (
  first_right f run boxes spans ends h x,
  record {
    within = λ t. (first_right_cut_is_first f run boxes spans ends h x t).within;
    left = λ t k z m left. moment_left_is_before f run boxes spans ends h x t (first_right f run boxes spans ends h x t) k z
        (first_right_cut_is_first f run boxes spans ends h x t) m left;
    rest = λ t k z m far. (first_right_cut_is_first f run boxes spans ends h x t).rest k z (moment_is_to_all boxes spans t k z m) far;
  },
)

-- the same as a list
listed_cut_is_cut : (c : Cut) (n t : ℕ) → t < n → cut_of (map c (range_with_len 0 n)) t ≡ c t
listed_cut_is_cut c n t less = get_or-map-range_with_len c 0 n t t 0 less (omega arith)

listed_cut_past_end : (c : Cut) (n t : ℕ) → n ≤ t → cut_of (map c (range_with_len 0 n)) t ≡ 0
listed_cut_past_end c n t past =
    get_or_past (map c (range_with_len 0 n)) t 0 (let size = length-map-range_with_len c 0 n in omega (arith, size, past))

pub left_of_x_is_cut : LeftIsCut
left_of_x_is_cut f run boxes spans ends h x =
    let n = threads_of f in
    let found = left_cut_exists f run boxes spans ends h x in
    let c = found.0 in (
      map c (range_with_len 0 n),
      record {
        size = length-map-range_with_len c 0 n;
        within = λ t. elim (cases_lt t n) [
          | inl there ↦ (let same = listed_cut_is_cut c n t there in let within = found.1.within t in omega (arith, same, within))
          | inr past ↦ (let none = listed_cut_past_end c n t past in omega (arith, none))
        ];
        left = λ t k z m left.
            let there = (moment_is_within_thread f run boxes spans ends h t k z m).0 in
            let same = listed_cut_is_cut c n t there in
            let before = found.1.left t k z m left in omega (arith, same, before);
        rest = λ t k z m far.
            let there = (moment_is_within_thread f run boxes spans ends h t k z m).0 in
            let same = listed_cut_is_cut c n t there in
            let behind = found.1.rest t k z m far in omega (arith, same, behind);
      },
    )
