-- The need that is placed latest, and a chain link by link.
use Rattle.std.proofs.Common.{◌≡◌, ℕ, suc, ◌+◌, ◌-◌, ◌<◌, ◌≤◌, ◌⊎◌, inl, inr, Option, Some, None, List, [], ◌∷◌, ◌++◌, length, append_assoc, append-nil, refl, sym, ap, ◌∙◌, subst, arith}
use Rattle.std.specs.Prelude.{slice_get}
use Rattle.std.proofs.lemmas.Bool.{cases_eq, cases_lt}
use Rattle.std.specs.Option.{option_map}
use Rattle.std.proofs.lemmas.Option.{same_Some, none-some, slice_get_within, slice_get-map}
use Rattle.ir_trace.specs.Recorded.{Recorded, recorded_thread}
use Rattle.ir_coherence.specs.Before.{IsBefore}
use Rattle.ir_past.specs.declared.place.Place.{Place}
use Rattle.ir_picture.specs.Boxes.{AreBoxes, HasBox, IsInBox}
use Rattle.ir_picture.specs.Placing.{events_of_all}
use Rattle.ir_picture.specs.declared.event_box.EventBox.{EventBox}
use Rattle.ir_picture.specs.Shown.{StartsAt}
use Rattle.ir_picture.specs.declared.placed_box.PlacedBox.{PlacedBox}
use Rattle.ir_why.specs.Needed.{NeedsOther, AreNeeds}
use Rattle.ir_why.specs.Chain.{IsPlacedBefore, IsLatestNeed, IsWaiting, WaitsForNone, IsLink, AreLinks}
use Rattle.ir_why.specs.Tables.{HaveBoxes, IsLatestIn}
use Rattle.ir_why.specs.declared.link.Link.{Link}
use Rattle.ir_why.proofs.Gathered.{needed_event_exists}
use Rattle.ir_picture.proofs.CallerLemmas.{before_transitive}

-- ---- places

pub places_equal_by_fields : (p q : Place) → p.thread ≡ q.thread → p.event ≡ q.event → p ≡ q
places_equal_by_fields p q t e = λ i. record { thread = t i; event = e i }

-- one comes before the other, or they are the same
places_equal_or_ordered : (p q : Place) → (p ≡ q) ⊎ IsBefore p.thread p.event q.thread q.event ⊎ IsBefore q.thread q.event p.thread p.event
places_equal_or_ordered p q = elim (cases_eq p.thread q.thread) [
  | inl t ↦ elim (cases_eq p.event q.event) [
    | inl e ↦ inl (places_equal_by_fields p q t e)
    | inr ne ↦ elim (cases_lt p.event q.event) [
      | inl less ↦ inr (inl (inr (t, less)))
      | inr not ↦ inr (inr (inr (sym t, omega (arith, ne, not))))
    ]
  ]
  | inr ne ↦ elim (cases_lt p.thread q.thread) [
    | inl less ↦ inr (inl (inl less))
    | inr not ↦ inr (inr (inl (omega (arith, ne, not))))
  ]
]

-- ---- the need that is placed latest

-- an event that starts at x is less far than one that starts at `most`, or as far and after it by thread and event
abbrev pub StartsLessFar : ℕ → ℕ → Place → Place → Type 0
StartsLessFar x most q best = (x < most) ⊎ ((x ≡ most) × IsBefore best.thread best.event q.thread q.event)

-- of the first n of these events, this one starts furthest
pub record StartsFurthest (boxes : List PlacedBox) (places : List Place) (n : ℕ) (best : Place) (most : ℕ) : Type 0 where
  pub number : ℕ
  pub there : slice_get places number ≡ Some best
  pub start : StartsAt boxes best.thread best.event most
  pub others : (k : ℕ) (q : Place) → k < n → slice_get places k ≡ Some q
      → (q ≡ best) ⊎ ((x : ℕ) × StartsAt boxes q.thread q.event x × StartsLessFar x most q best)

pub first_starts_furthest : (boxes : List PlacedBox) (places : List Place) (p : Place) (x : ℕ) → slice_get places 0 ≡ Some p → StartsAt boxes p.thread p.event x
    → StartsFurthest boxes places 0 p x
first_starts_furthest boxes places p x at start = record { number = 0; there = at; start = start; others = λ k q less is. absurd (omega (arith, less)) }

-- the next event starts further, or as far and is before it
pub next_starts_furthest : (boxes : List PlacedBox) (places : List Place) (n : ℕ) (best p : Place) (most x : ℕ) → StartsFurthest boxes places n best most
    → slice_get places n ≡ Some p → StartsAt boxes p.thread p.event x
    → (most < x) ⊎ ((x ≡ most) × IsBefore p.thread p.event best.thread best.event) → StartsFurthest boxes places (n + 1) p x
next_starts_furthest boxes places n best p most x h at start further = record {
  number = n;
  there = at;
  start = start;
  others = λ k q less is. elim (cases_eq k n) [
    | inl here ↦ inl (sym (same_Some p q (sym at ∙ subst (λ z. slice_get places z ≡ Some q) here is)))
    | inr ne ↦ inr (elim (h.others k q (omega (arith, less, ne)) is) [
      | inl same ↦ (
        most,
        subst (λ (z : Place). StartsAt boxes z.thread z.event most) (sym same) h.start,
        subst (λ (z : Place). StartsLessFar most x z p) (sym same) (by_best further),
      )
      | inr own ↦ (own.0, own.1, by_other own.0 q own.2 further)
    ])
  ];
}
  where
    by_best : (most < x) ⊎ ((x ≡ most) × IsBefore p.thread p.event best.thread best.event) → StartsLessFar most x best p
    by_best (inl less) = inl less
    by_best (inr same) = inr (sym same.0, same.1)

    by_other : (y : ℕ) (q : Place) → StartsLessFar y most q best → (most < x) ⊎ ((x ≡ most) × IsBefore p.thread p.event best.thread best.event) → StartsLessFar y x q p
    by_other y q (inl less) (inl more) = inl (omega (arith, less, more))
    by_other y q (inl less) (inr same) = inl (omega (arith, less, same.0))
    by_other y q (inr is) (inl more) = inl (omega (arith, is.0, more))
    by_other y q (inr is) (inr same) =
        inr (is.0 ∙ sym same.0, before_transitive p.thread p.event best.thread best.event q.thread q.event same.1 is.1)

-- it doesn't
pub furthest_stays_next : (boxes : List PlacedBox) (places : List Place) (n : ℕ) (best p : Place) (most x : ℕ) → StartsFurthest boxes places n best most
    → slice_get places n ≡ Some p → StartsAt boxes p.thread p.event x → x ≤ most
    → (x ≡ most → IsBefore p.thread p.event best.thread best.event → ⊥) → StartsFurthest boxes places (n + 1) best most
furthest_stays_next boxes places n best p most x h at start no_more not_before = record {
  number = h.number;
  there = h.there;
  start = h.start;
  others = λ k q less is. elim (cases_eq k n) [
    | inl here ↦ subst (λ (z : Place). (z ≡ best) ⊎ ((y : ℕ) × StartsAt boxes z.thread z.event y × StartsLessFar y most z best))
        (same_Some p q (sym at ∙ subst (λ z. slice_get places z ≡ Some q) here is)) own
    | inr ne ↦ h.others k q (omega (arith, less, ne)) is
  ];
}
  where
    own : (p ≡ best) ⊎ ((y : ℕ) × StartsAt boxes p.thread p.event y × StartsLessFar y most p best)
    own = elim (cases_eq x most) [
      | inl same ↦ elim (places_equal_or_ordered p best) [
        | inl is ↦ inl is
        | inr (inl before) ↦ absurd (not_before same before)
        | inr (inr after) ↦ inr (x, start, inr (same, after))
      ]
      | inr ne ↦ inr (x, start, inl (omega (arith, ne, no_more)))
    ]

pub furthest_is_latest : (boxes : List PlacedBox) (places : List Place) (n : ℕ) (best : Place) (most : ℕ) → StartsFurthest boxes places n best most → length places ≤ n
    → IsLatestIn boxes places best
furthest_is_latest boxes places n best most h all = record {
  number = h.number;
  there = h.there;
  latest = λ k q is. elim (h.others k q (let within = slice_get_within places k q is in omega (arith, within, all)) is) [
    | inl same ↦ inl same
    | inr own ↦ inr (own.0, most, own.1, h.start, own.2)
  ];
}

-- ---- boxes

-- the placed box that has an event
pub event_has_placed_box : (boxes : List PlacedBox) (t i : ℕ) → HasBox (events_of_all boxes) t i
    → (k : ℕ) × (b : PlacedBox) × (slice_get boxes k ≡ Some b) × IsInBox b.events t i
event_has_placed_box boxes t i h = by (slice_get boxes h.number) refl
  where
    mapped : (x : Option PlacedBox) → slice_get boxes h.number ≡ x → option_map (λ (b : PlacedBox). b.events) x ≡ Some h.box
    mapped x is = ap (option_map (λ (b : PlacedBox). b.events)) (sym is) ∙ sym (slice_get-map (λ (b : PlacedBox). b.events) boxes h.number) ∙ h.there

    by : (x : Option PlacedBox) → slice_get boxes h.number ≡ x
        → (k : ℕ) × (b : PlacedBox) × (slice_get boxes k ≡ Some b) × IsInBox b.events t i
    by None is = absurd (none-some h.box (mapped None is))
    by (Some b) is = (
      h.number,
      b,
      is,
      subst (λ (e : EventBox). IsInBox e t i) (sym (same_Some b.events h.box (mapped (Some b) is))) h.has,
    )

-- ---- links

-- each event that is needed is in a box
pub needed_have_boxes : (r : Recorded) (boxes : List PlacedBox) (t i : ℕ) (needs : List Place) → AreBoxes r (events_of_all boxes)
    → AreNeeds r t i needs → HaveBoxes boxes needs
needed_have_boxes r boxes t i needs are need = λ k p is.
    are.all p.thread p.event (needed_event_exists r t i p.thread p.event (need.sound k p is)).1

-- of what an event needs, the latest
pub latest_in_needs : (r : Recorded) (boxes : List PlacedBox) (t i : ℕ) (needs : List Place) (p : Place) → AreNeeds r t i needs → IsLatestIn boxes needs p
    → IsLatestNeed r boxes t i p
latest_in_needs r boxes t i needs p need h = record {
  needed = need.sound h.number p h.there;
  latest = λ q other. let own = need.complete q.thread q.event other in
      let same : own.place ≡ q = places_equal_by_fields own.place q own.thread own.event in
      subst (λ (z : Place). (z ≡ p) ⊎ IsPlacedBefore boxes z p) same (h.latest own.number own.place own.there);
}

-- event k waits, and none after it up to event i
pub no_other_needs_is_link : (r : Recorded) (boxes : List PlacedBox) (t i k : ℕ) (needs : List Place) (l : Link) → AreNeeds r t k needs
    → IsLatestIn boxes needs l.needed → l.waiting.thread ≡ t → l.waiting.event ≡ k → k ≤ i
    → ((m u j : ℕ) → k < m → m ≤ i → NeedsOther r t m u j → ⊥) → IsLink r boxes t i l
no_other_needs_is_link r boxes t i k needs l need latest thread event by last = record {
  thread = thread;
  waiting = subst (IsWaiting r t i) (sym event) (record {
    by = by;
    need = (l.needed.thread, l.needed.event, need.sound latest.number l.needed latest.there);
    last = last;
  });
  needed = subst (λ z. IsLatestNeed r boxes t z l.needed) (sym event) (latest_in_needs r boxes t k needs l.needed need latest);
}

-- event k waits for none, as none after it
pub empty_needs_no_other : (r : Recorded) (t i k : ℕ) (needs : List Place) → AreNeeds r t k needs → needs ≡ []
    → ((m u j : ℕ) → k < m → m ≤ i → NeedsOther r t m u j → ⊥) → (m u j : ℕ) → k ≤ m → m ≤ i → NeedsOther r t m u j → ⊥
empty_needs_no_other r t i k needs need none last m u j from to other = elim (cases_eq m k) [
  | inl here ↦ let own = need.complete u j (subst (λ z. NeedsOther r t z u j) here other) in
      none-some own.place (sym (ap (λ (z : List Place). slice_get z own.number) none) ∙ own.there)
  | inr ne ↦ last m u j (omega (arith, from, ne)) to other
]

-- what is linked so far, with links from its last event on, is a chain
abbrev pub ChainGoesOn : Recorded → List PlacedBox → ℕ → Place → List Link → ℕ → Place → Type 0
ChainGoesOn r boxes n here links m last = (ls : List Link) → AreLinks r boxes m last.thread last.event ls
    → AreLinks r boxes n here.thread here.event (links ++ ls)

pub no_link_chain_goes_on : (r : Recorded) (boxes : List PlacedBox) (n : ℕ) (here : Place) → ChainGoesOn r boxes n here [] n here
no_link_chain_goes_on r boxes n here = λ ls h. h

pub chain_goes_on_by_link : (r : Recorded) (boxes : List PlacedBox) (n : ℕ) (here : Place) (links : List Link) (m k : ℕ) (last : Place) (l : Link)
    → ChainGoesOn r boxes n here links m last → m ≡ suc k → IsLink r boxes last.thread last.event l
    → ChainGoesOn r boxes n here (links ++ l ∷ []) k l.needed
chain_goes_on_by_link r boxes n here links m k last l h is link = λ ls rest.
    subst (λ (xs : List Link). AreLinks r boxes n here.thread here.event xs) (sym (append_assoc links (l ∷ []) ls))
    (h (l ∷ ls) (
      omega (arith, is),
      link,
      subst (λ z. AreLinks r boxes z l.needed.thread l.needed.event ls) (let same : k ≡ m - 1 = omega (arith, is) in same) rest,
    ))

pub are_links_if_chain_ends : (r : Recorded) (boxes : List PlacedBox) (n : ℕ) (here : Place) (links : List Link) (m : ℕ) (last : Place)
    → ChainGoesOn r boxes n here links m last → (m ≡ 0) ⊎ WaitsForNone r last.thread last.event → AreLinks r boxes n here.thread here.event links
are_links_if_chain_ends r boxes n here links m last h done =
    subst (λ (xs : List Link). AreLinks r boxes n here.thread here.event xs) (append-nil links) (h [] done)

-- where a link leads to is an event that there is
pub linked_event_exists : (r : Recorded) (boxes : List PlacedBox) (t i : ℕ) (l : Link) → IsLink r boxes t i l
    → (l.needed.thread < length r.threads) × (l.needed.event < length (recorded_thread r l.needed.thread).events)
linked_event_exists r boxes t i l h = needed_event_exists r t l.waiting.event l.needed.thread l.needed.event h.needed.needed
