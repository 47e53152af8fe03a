-- What boxes see of other threads, event by event.
use Rattle.std.proofs.Common.{◌≡◌, ℕ, suc, zero, ◌+◌, ◌-◌, ◌<◌, ◌≤◌, ◌⊎◌, inl, inr, Option, Some, None, List, [], ◌∷◌, ◌++◌, length, replicate, slice_set, refl, sym, ap, ◌∙◌, subst, arith}
use Rattle.std.specs.Prelude.{slice_get, IfSome, IfNone}
use Rattle.std.proofs.lemmas.Bool.{cases_eq, cases_lt}
use Rattle.std.proofs.lemmas.Option.{same_Some, none-some, slice_get_within}
use Rattle.ir_lemmas.proofs.CallerLemmas.{added_element_is_last, get_or_after_set, get_or_set_elsewhere, slice_get-push_cases, slice_get_push_earlier}
use Rattle.ir_log.specs.declared.event.Event.{Event}
use Rattle.ir_log.specs.declared.event.Event.TheVariants.{Answer, Read, Write, Try}
use Rattle.ir_trace.specs.Recorded.{Recorded, recorded_thread}
use Rattle.ir_coherence.specs.Before.{IsBefore}
use Rattle.ir_past.specs.Past.{event_at, entered, IsWriteAt}
use Rattle.ir_past.specs.Progress.{Makes, FitsSoFar}
use Rattle.ir_past.specs.Tables.{maker_in}
use Rattle.ir_past.specs.Answers.{AreCoherent}
use Rattle.ir_past.specs.declared.makers.Makers.{Makers}
use Rattle.ir_past.specs.declared.place.Place.{Place}
use Rattle.ir_past.proofs.CallerLemmas.{event_thread_exists, nothing_before_first, before_next_event, version_writer_unique, before_next_event_cases}
use Rattle.ir_picture.specs.Needs.{IsEntryOf, IsMakerOf}
use Rattle.ir_picture.specs.Boxes.{IsInBox, IsBox, ReadsAgain, TriesAgain}
use Rattle.ir_picture.specs.Boxing.{AreSomeBoxes}
use Rattle.ir_picture.specs.Placing.{events_of_all}
use Rattle.ir_picture.specs.Chrome.{SeesNew, IsChromeSight, AreSights}
use Rattle.ir_picture.specs.Seeing.{Enters, IsLastEntry, entry_noted, HoldsEntries, SeesAt, SightsBefore}
use Rattle.ir_picture.specs.declared.event_box.EventBox.{EventBox}
use Rattle.ir_picture.specs.declared.placed_box.PlacedBox.{PlacedBox}
use Rattle.ir_picture.specs.declared.sights.Sight.{Sight}
use Rattle.ir_picture.proofs.Lists.{slice_get_of_map}
use Rattle.ir_picture.proofs.Follows.{event_at_is_unique}

-- ---- entries

entered_if_enters : (e : Event) (o v : ℕ) → Enters e o v → entered e ≡ Some o
entered_if_enters e o v (inl read) = ap entered read
entered_if_enters e o v (inr write) = ap entered write.1

enters_is_unique : (e : Event) (o v p w : ℕ) → Enters e o v → Enters e p w → (o ≡ p) × (v ≡ w)
enters_is_unique e o v p w (inl a) (inl b) = let same : ◌≡◌ {A = Event} (Read o v) (Read p w) = sym a ∙ b in (cc, cc)
enters_is_unique e o v p w (inl a) (inr b) = absurd (let bad : ◌≡◌ {A = Event} (Read o v) (Write p w b.0) = sym a ∙ b.1 in cc)
enters_is_unique e o v p w (inr a) (inl b) = absurd (let bad : ◌≡◌ {A = Event} (Write o v a.0) (Read p w) = sym a.1 ∙ b in cc)
enters_is_unique e o v p w (inr a) (inr b) = let same : ◌≡◌ {A = Event} (Write o v a.0) (Write p w b.0) = sym a.1 ∙ b.1 in (cc, cc)

entry_at_if_enters : (r : Recorded) (t i o v : ℕ) (e : Event) → event_at r t i ≡ Some e → Enters e o v → IsEntryOf r t i o v
entry_at_if_enters r t i o v e at (inl read) = inl (at ∙ ap Some read)
entry_at_if_enters r t i o v e at (inr write) = inr (write.0, at ∙ ap Some write.1)

enters_if_entry_at : (r : Recorded) (t i o v : ℕ) (e : Event) → event_at r t i ≡ Some e → IsEntryOf r t i o v → Enters e o v
enters_if_entry_at r t i o v e at (inl read) = inl (event_at_is_unique r t i e (Read o v) at read)
enters_if_entry_at r t i o v e at (inr write) = inr (write.0, event_at_is_unique r t i e (Write o v write.0) at write.1)

event_of_entry_enters : (r : Recorded) (t i o v : ℕ) → IsEntryOf r t i o v → (e : Event) × (event_at r t i ≡ Some e) × Enters e o v
event_of_entry_enters r t i o v (inl read) = (Read o v, read, inl refl)
event_of_entry_enters r t i o v (inr write) = (Write o v write.0, write.1, inr (write.0, refl))

pub entry_at_is_unique : (r : Recorded) (t i o v p w : ℕ) → IsEntryOf r t i o v → IsEntryOf r t i p w → (o ≡ p) × (v ≡ w)
entry_at_is_unique r t i o v p w a b =
    let x = event_of_entry_enters r t i o v a in
    enters_is_unique x.0 o v p w x.2 (enters_if_entry_at r t i p w x.0 x.1 b)

-- ---- the last entries of a thread

entry_noted_empty : (n o : ℕ) → entry_noted (replicate n None) o ≡ None
entry_noted_empty zero o = refl
entry_noted_empty (suc n) zero = refl
entry_noted_empty (suc n) (suc o) = entry_noted_empty n o

pub holds_entries_at_start : (r : Recorded) (t n : ℕ) → HoldsEntries r t 0 (replicate n None)
holds_entries_at_start r t n = record {
  found = λ o v is. absurd (none-some v (sym (entry_noted_empty n o) ∙ is));
  all = λ o i v p. absurd (omega (arith, p.before));
}

last_entry_stays_last : (r : Recorded) (t n o i v : ℕ) (e : Event) → event_at r t n ≡ Some e → (entered e ≡ Some o → ⊥) → IsLastEntry r t n o i v
    → IsLastEntry r t (n + 1) o i v
last_entry_stays_last r t n o i v e at ne p = record {
  before = omega (arith, p.before);
  entry = p.entry;
  alone = λ k f after below is enters. elim (cases_lt k n) [
    | inl less ↦ p.alone k f after less is enters
    | inr not ↦
        let here : k ≡ n = omega (arith, below, not) in
        let same : f ≡ e = event_at_is_unique r t n f e (subst (λ z. event_at r t z ≡ Some f) here is) at in
        ne (ap entered (sym same) ∙ enters)
  ];
}

last_entry_was_last : (r : Recorded) (t n o i v : ℕ) (e : Event) → event_at r t n ≡ Some e → (entered e ≡ Some o → ⊥) → IsLastEntry r t (n + 1) o i v
    → IsLastEntry r t n o i v
last_entry_was_last r t n o i v e at ne p = elim (cases_lt i n) [
  | inl less ↦ record { before = less; entry = p.entry; alone = λ k f after below is enters. p.alone k f after (omega (arith, below)) is enters }
  | inr not ↦
      let here : i ≡ n = omega (arith, p.before, not) in
      let enters = enters_if_entry_at r t n o v e at (subst (λ z. IsEntryOf r t z o v) here p.entry) in
      absurd (ne (entered_if_enters e o v enters))
]

last_entry_is_entering : (r : Recorded) (t n o i v : ℕ) (e : Event) → event_at r t n ≡ Some e → entered e ≡ Some o → IsLastEntry r t (n + 1) o i v → Enters e o v
last_entry_is_entering r t n o i v e at enters p = elim (cases_lt i n) [
  | inl less ↦ absurd (p.alone n e less (omega arith) at enters)
  | inr not ↦
      let here : i ≡ n = omega (arith, p.before, not) in
      enters_if_entry_at r t n o v e at (subst (λ z. IsEntryOf r t z o v) here p.entry)
]

-- an event that is no entry
pub holds_entries_other : (r : Recorded) (t n : ℕ) (table : List (Option ℕ)) (e : Event) → event_at r t n ≡ Some e → entered e ≡ None
    → HoldsEntries r t n table → HoldsEntries r t (n + 1) table
holds_entries_other r t n table e at none h = record {
  found = λ o v is. let p = h.found o v is in (p.0, last_entry_stays_last r t n o p.0 v e at (λ some. none-some o (sym none ∙ some)) p.1);
  all = λ o i v p. h.all o i v (last_entry_was_last r t n o i v e at (λ some. none-some o (sym none ∙ some)) p);
}

-- an entry
pub holds_entries_entry : (r : Recorded) (t n p v : ℕ) (table : List (Option ℕ)) (e : Event) → event_at r t n ≡ Some e → Enters e p v → p < length table
    → HoldsEntries r t n table → HoldsEntries r t (n + 1) (slice_set table p (Some v))
holds_entries_entry r t n p v table e at enters within h = record {
  found = λ o w is. elim (cases_eq p o) [
    | inl here ↦ (
      n,
      subst (λ z. IsLastEntry r t (n + 1) z n w) here (subst (λ z. IsLastEntry r t (n + 1) p n z)
          (same_Some v w (sym (get_or_after_set table p (Some v) None within) ∙ subst (λ z. entry_noted (slice_set table p (Some v)) z ≡ Some w) (sym here) is)) now_last),
    )
    | inr ne ↦
        let q = h.found o w (sym (get_or_set_elsewhere table p o (Some v) None ne) ∙ is) in
        (q.0, last_entry_stays_last r t n o q.0 w e at (other o ne) q.1)
  ];
  all = λ o i w q. elim (cases_eq p o) [
    | inl here ↦
        let same = enters_is_unique e p v o w enters (last_entry_is_entering r t n o i w e at (entered_if_enters e p v enters ∙ ap Some here) q) in
        subst (λ z. entry_noted (slice_set table p (Some v)) z ≡ Some w) here (get_or_after_set table p (Some v) None within ∙ ap Some same.1)
    | inr ne ↦ get_or_set_elsewhere table p o (Some v) None ne ∙ h.all o i w (last_entry_was_last r t n o i w e at (other o ne) q)
  ];
}
  where
    now_last : IsLastEntry r t (n + 1) p n v
    now_last = record { before = omega arith; entry = entry_at_if_enters r t n p v e at enters; alone = λ k f after below is some. omega (arith, after, below) }

    other : (o : ℕ) → (p ≡ o → ⊥) → entered e ≡ Some o → ⊥
    other o ne some = ne (same_Some p o (sym (entered_if_enters e p v enters) ∙ some))

-- ---- what is new

enters_object_or_not : (e : Event) (o : ℕ) → (entered e ≡ Some o) ⊎ (entered e ≡ Some o → ⊥)
enters_object_or_not (Answer kind value) o = inr (λ e. none-some o e)
enters_object_or_not (Read p v) o = elim (cases_eq p o) [
  | inl same ↦ inl (ap Some same)
  | inr ne ↦ inr (λ e. ne (same_Some p o e))
]
enters_object_or_not (Write p v l) o = elim (cases_eq p o) [
  | inl same ↦ inl (ap Some same)
  | inr ne ↦ inr (λ e. ne (same_Some p o e))
]
enters_object_or_not (Try p) o = inr (λ e. none-some o e)

-- an entry of an object between two events, or none
entry_between_or_none : (r : Recorded) (t h n o : ℕ) → n ≤ length (recorded_thread r t).events
    → ((k : ℕ) × (e : Event) × (h < k) × (k < n) × (event_at r t k ≡ Some e) × (entered e ≡ Some o))
    ⊎ ((k : ℕ) (e : Event) → h < k → k < n → event_at r t k ≡ Some e → entered e ≡ Some o → ⊥)
entry_between_or_none r t h zero o within = inr (λ k e after below is enters. omega (arith, below))
entry_between_or_none r t h (suc n) o within = elim (entry_between_or_none r t h n o (omega (arith, within))) [
  | inl found ↦ inl (found.0, found.1, found.2, omega (arith, found.3), found.4, found.5)
  | inr none ↦ at_last none (event_there n (omega (arith, within)))
]
  where
    event_in : (es : List Event) (i : ℕ) → i < length es → (e : Event) × (slice_get es i ≡ Some e)
    event_in [] i less = absurd (omega (arith, less))
    event_in (x ∷ xs) zero less = (x, refl)
    event_in (x ∷ xs) (suc i) less = event_in xs i (omega (arith, less))

    event_there : (i : ℕ) → i < length (recorded_thread r t).events → (e : Event) × (event_at r t i ≡ Some e)
    event_there i less = event_in (recorded_thread r t).events i less

    at_last : ((k : ℕ) (e : Event) → h < k → k < n → event_at r t k ≡ Some e → entered e ≡ Some o → ⊥)
        → (e : Event) × (event_at r t n ≡ Some e)
        → ((k : ℕ) × (e : Event) × (h < k) × (k < suc n) × (event_at r t k ≡ Some e) × (entered e ≡ Some o))
        ⊎ ((k : ℕ) (e : Event) → h < k → k < suc n → event_at r t k ≡ Some e → entered e ≡ Some o → ⊥)
    at_last none last = elim (cases_lt h n) [
      | inl less ↦ elim (enters_object_or_not last.0 o) [
        | inl enters ↦ inl (n, last.0, less, omega arith, last.1, enters)
        | inr not ↦ inr (λ k e after below is enters. elim (cases_lt k n) [
          | inl old ↦ none k e after old is enters
          | inr past ↦
              let here : k ≡ n = omega (arith, below, past) in
              not (ap entered (event_at_is_unique r t n last.0 e last.1 (subst (λ z. event_at r t z ≡ Some e) here is)) ∙ enters)
        ])
      ]
      | inr past ↦ inr (λ k e after below is enters. omega (arith, after, below, past))
    ]

pub sees_new_unless_noted : (r : Recorded) (t n o v : ℕ) (table : List (Option ℕ)) (e : Event) → event_at r t n ≡ Some e → Enters e o v → HoldsEntries r t n table
    → (entry_noted table o ≡ Some v → ⊥) → SeesNew r t n o v
sees_new_unless_noted r t n o v table e at enters h not = record {
  entry = entry_at_if_enters r t n o v e at enters;
  new = λ i less entry. elim (entry_between_or_none r t i n o (omega (arith, slice_get_within (recorded_thread r t).events n e at))) [
    | inl found ↦ found
    | inr none ↦ absurd (not (h.all o i v (record { before = less; entry = entry; alone = none })))
  ];
}

pub noted_sees_nothing_new : (r : Recorded) (t n o v : ℕ) (table : List (Option ℕ)) (e : Event) → event_at r t n ≡ Some e → Enters e o v → HoldsEntries r t n table
    → entry_noted table o ≡ Some v → (p w : ℕ) → SeesNew r t n p w → ⊥
noted_sees_nothing_new r t n o v table e at enters h noted p w sees =
    let same = entry_at_is_unique r t n p w o v sees.entry (entry_at_if_enters r t n o v e at enters) in
    let last = h.found o v noted in
    let k = sees.new last.0 last.1.before (subst (λ z. IsEntryOf r t last.0 z w) (sym same.0)
    (subst (λ z. IsEntryOf r t last.0 o z) (sym same.1) last.1.entry)) in
    last.1.alone k.0 k.1 k.2 k.3 k.4 (k.5 ∙ ap Some same.0)

pub no_entry_sees_nothing : (r : Recorded) (t n : ℕ) (e : Event) → event_at r t n ≡ Some e → entered e ≡ None → (o v : ℕ) → SeesNew r t n o v → ⊥
no_entry_sees_nothing r t n e at none o v sees = none-some o (sym none ∙ entered_if_enters e o v (enters_if_entry_at r t n o v e at sees.entry))

-- ---- makers

pub maker_in_table_is_maker : (r : Recorded) (t i o w u j : ℕ) (m : Makers) (p : Place) → Makes r (length r.threads) 0 m → SeesNew r t i o (suc w)
    → maker_in m o w ≡ Some p → IsMakerOf r t i p.thread p.event
maker_in_table_is_maker r t i o w u j m p makes sees is =
    let made = makes.sound o w p is in
    record { object = o; version = w; readers = made.0; entry = sees.entry; made = made.1 }

pub maker_is_in_table : (r : Recorded) (t i o w : ℕ) (m : Makers) → Makes r (length r.threads) 0 m → SeesNew r t i o (suc w) → maker_in m o w ≡ None
    → (u j : ℕ) → IsMakerOf r t i u j → ⊥
maker_is_in_table r t i o w m makes sees none u j made =
    let same = entry_at_is_unique r t i made.object (suc made.version) o (suc w) made.entry sees.entry in
    let version : made.version ≡ w = omega (arith, same.1) in
    let write : IsWriteAt r u j o w made.readers = subst (λ z. IsWriteAt r u j z w made.readers) same.0
    (subst (λ z. IsWriteAt r u j made.object z made.readers) version made.made) in
    makes.noted u j o w made.readers write (inl (event_thread_exists r u j (Write o w made.readers) write)) none

pub first_version_no_maker : (r : Recorded) (t i o : ℕ) → SeesNew r t i o 0 → (u j : ℕ) → IsMakerOf r t i u j → ⊥
first_version_no_maker r t i o sees u j made =
    let same = entry_at_is_unique r t i made.object (suc made.version) o 0 made.entry sees.entry in
    omega (arith, same.1)

pub maker_is_unique : (r : Recorded) → AreCoherent r → (t i u j x y : ℕ) → IsMakerOf r t i u j → IsMakerOf r t i x y → (u ≡ x) × (j ≡ y)
maker_is_unique r coherent t i u j x y a b =
    let same = entry_at_is_unique r t i a.object (suc a.version) b.object (suc b.version) a.entry b.entry in
    let version : a.version ≡ b.version = omega (arith, same.1) in
    version_writer_unique r coherent u j x y b.object b.version a.readers b.readers
    (subst (λ z. IsWriteAt r u j z b.version a.readers) same.0 (subst (λ z. IsWriteAt r u j a.object z a.readers) version a.made)) b.made

-- ---- boxes

-- an event of a box that isn't its first repeats something
later_box_event_repeats : (r : Recorded) (b : EventBox) (i : ℕ) → IsBox r b → IsInBox b b.thread i → (b.event ≡ i → ⊥)
    → ReadsAgain (recorded_thread r b.thread).events i ⊎ TriesAgain (recorded_thread r b.thread).events i
later_box_event_repeats r b zero is has ne = absurd (ne (omega (arith, has.from)))
later_box_event_repeats r b (suc i) is has ne = elim (is.folds i (omega (arith, has.from, ne)) has.below).repeats [
  | inl reads ↦ inl reads.1
  | inr tries ↦ inr tries.1
]

-- a write entry is the first event of its box
pub write_is_first_of_box : (r : Recorded) (b : EventBox) (t i o v l : ℕ) → IsBox r b → IsInBox b t i → IsWriteAt r t i o v l → b.event ≡ i
write_is_first_of_box r b t i o v l is has write = elim (cases_eq b.event i) [
  | inl same ↦ same
  | inr ne ↦ absurd (elim (later_box_event_repeats r b i is (record { thread = refl; from = has.from; below = has.below }) ne) [
    | inl again ↦
        let bad : ◌≡◌ {A = Event} (Read again.object again.version) (Write o v l) =
        event_at_is_unique r b.thread i (Read again.object again.version) (Write o v l) again.read
        (subst (λ z. IsWriteAt r z i o v l) (sym has.thread) write) in
        cc
    | inr again ↦
        let bad : ◌≡◌ {A = Event} (Try again.object) (Write o v l) = event_at_is_unique r b.thread i (Try again.object) (Write o v l) again.«try»
        (subst (λ z. IsWriteAt r z i o v l) (sym has.thread) write) in
        cc
  ])
]

-- and so is an event that sees something new
pub seeing_event_is_first : (r : Recorded) (b : EventBox) (t i o v : ℕ) → IsBox r b → IsInBox b t i → SeesNew r t i o v → b.event ≡ i
seeing_event_is_first r b t i o v is has sees = elim (cases_eq b.event i) [
  | inl same ↦ same
  | inr ne ↦ absurd (elim (later_box_event_repeats r b i is (record { thread = refl; from = has.from; below = has.below }) ne) [
    | inl again ↦
        let here : SeesNew r b.thread i o v = subst (λ z. SeesNew r z i o v) (sym has.thread) sees in
        let same = entry_at_is_unique r b.thread i again.object again.version o v (inl again.read) here.entry in
        let k = here.new again.before again.earlier (subst (λ z. IsEntryOf r b.thread again.before z v) same.0
        (subst (λ z. IsEntryOf r b.thread again.before again.object z) same.1 (inl again.same))) in
        again.alone k.0 k.1 k.2 k.3 k.4 (k.5 ∙ ap Some (sym same.0))
    | inr again ↦
        let here : SeesNew r b.thread i o v = subst (λ z. SeesNew r z i o v) (sym has.thread) sees in
        no_entry_sees_nothing r b.thread i (Try again.object) again.«try» refl o v here
  ])
]

-- one box has an event
pub box_of_event_is_unique : (r : Recorded) (boxes : List PlacedBox) (k m t i : ℕ) (a b : PlacedBox) → AreSomeBoxes r (events_of_all boxes) → slice_get boxes k ≡ Some a
    → slice_get boxes m ≡ Some b → IsInBox a.events t i → IsInBox b.events t i → a ≡ b
box_of_event_is_unique r boxes k m t i a b some at_k at_m in_a in_b = elim (cases_lt k m) [
  | inl less ↦ absurd (apart_two k m a b less at_k at_m in_a in_b)
  | inr not ↦ elim (cases_lt m k) [
    | inl more ↦ absurd (apart_two m k b a more at_m at_k in_b in_a)
    | inr same ↦
        let here : k ≡ m = omega (arith, not, same) in
        same_Some a b (sym at_k ∙ subst (λ z. slice_get boxes z ≡ Some b) (sym here) at_m)
  ]
]
  where
    apart_two : (x y : ℕ) (c d : PlacedBox) → x < y → slice_get boxes x ≡ Some c → slice_get boxes y ≡ Some d → IsInBox c.events t i
        → IsInBox d.events t i → ⊥
    apart_two x y c d less at_x at_y in_c in_d = elim (some.apart x y c.events d.events less (slice_get_of_map (λ (z : PlacedBox). z.events) boxes x c at_x)
        (slice_get_of_map (λ (z : PlacedBox). z.events) boxes y d at_y)) [
          | inl lower ↦ omega (arith, lower, in_c.thread, in_d.thread)
          | inr by ↦ omega (arith, by.1, in_c.below, in_d.from)
        ]

pub listed_box_is_box : (r : Recorded) (boxes : List PlacedBox) (k : ℕ) (b : PlacedBox) → AreSomeBoxes r (events_of_all boxes) → slice_get boxes k ≡ Some b
    → IsBox r b.events
listed_box_is_box r boxes k b some at = some.each k b.events (slice_get_of_map (λ (z : PlacedBox). z.events) boxes k b at)

-- a box has its first event
pub box_has_its_first_event : (r : Recorded) (boxes : List PlacedBox) (k t i : ℕ) (b : PlacedBox) → AreSomeBoxes r (events_of_all boxes) → slice_get boxes k ≡ Some b
    → b.events.thread ≡ t → b.events.event ≡ i → IsInBox b.events t i
box_has_its_first_event r boxes k t i b some at thread event = record {
  thread = thread;
  from = omega (arith, event);
  below = omega (arith, event, (listed_box_is_box r boxes k b some at).some);
}

-- ---- sights

-- one sight is of a box
pub sight_unique : (r : Recorded) (boxes : List PlacedBox) (t i : ℕ) (s z : Sight) → AreCoherent r → AreSomeBoxes r (events_of_all boxes)
    → SeesAt r boxes t i s → SeesAt r boxes t i z → s ≡ z
sight_unique r boxes t i s z coherent some a b =
    let seer : s.seer ≡ z.seer = box_of_event_is_unique r boxes a.sight.to b.sight.to t i s.seer z.seer some a.sight.seer b.sight.seer
    (box_has_its_first_event r boxes a.sight.to t i s.seer some a.sight.seer a.thread a.event)
    (box_has_its_first_event r boxes b.sight.to t i z.seer some b.sight.seer b.thread b.event) in
    let same = maker_is_unique r coherent t i s.maker.events.thread s.maker.events.event z.maker.events.thread z.maker.events.event (made s a) (made z b) in
    let maker : s.maker ≡ z.maker = box_of_event_is_unique r boxes a.sight.from b.sight.from z.maker.events.thread z.maker.events.event s.maker z.maker some a.sight.maker
    b.sight.maker (box_has_its_first_event r boxes a.sight.from z.maker.events.thread z.maker.events.event s.maker some a.sight.maker same.0 same.1)
    (box_has_its_first_event r boxes b.sight.from z.maker.events.thread z.maker.events.event z.maker some b.sight.maker refl refl) in
    let object : s.object ≡ z.object = (entry_at_is_unique r t i s.object a.sight.version z.object b.sight.version (entry s a) (entry z b)).0 in
    λ k. record { object = object k; maker = maker k; seer = seer k }
  where
    made : (x : Sight) → SeesAt r boxes t i x → IsMakerOf r t i x.maker.events.thread x.maker.events.event
    made x h = subst (λ n. IsMakerOf r n i x.maker.events.thread x.maker.events.event) h.thread
        (subst (λ n. IsMakerOf r x.seer.events.thread n x.maker.events.thread x.maker.events.event) h.event h.sight.made)

    entry : (x : Sight) (h : SeesAt r boxes t i x) → IsEntryOf r t i x.object h.sight.version
    entry x h = subst (λ n. IsEntryOf r n i x.object h.sight.version) h.thread
        (subst (λ n. IsEntryOf r x.seer.events.thread n x.object h.sight.version) h.event h.sight.sees.entry)

-- a sight by its parts
pub sight_from_parts : (r : Recorded) (boxes : List PlacedBox) (t i o v k m : ℕ) (p : Place) (maker seer : PlacedBox) → AreSomeBoxes r (events_of_all boxes)
    → SeesNew r t i o v → IsMakerOf r t i p.thread p.event → (p.thread ≡ t → ⊥) → slice_get boxes k ≡ Some maker
    → IsInBox maker.events p.thread p.event → slice_get boxes m ≡ Some seer → IsInBox seer.events t i
    → SeesAt r boxes t i (record { object = o; maker = maker; seer = seer })
sight_from_parts r boxes t i o v k m p maker seer some sees made ne at_k in_k at_m in_m = record {
  sight = record {
    version = v;
    sees = subst (λ n. SeesNew r n seer.events.event o v) (sym in_m.thread) (subst (λ n. SeesNew r t n o v) (sym first_seer) sees);
    made = subst (λ n. IsMakerOf r n seer.events.event maker.events.thread maker.events.event) (sym in_m.thread)
        (subst (λ n. IsMakerOf r t n maker.events.thread maker.events.event) (sym first_seer)
        (subst (λ n. IsMakerOf r t i n maker.events.event) (sym in_k.thread) (subst (λ n. IsMakerOf r t i p.thread n) (sym first_maker) made)));
    others = λ same. ne (sym in_k.thread ∙ (same ∙ in_m.thread));
    from = k;
    to = m;
    maker = at_k;
    seer = at_m;
  };
  thread = in_m.thread;
  event = first_seer;
}
  where
    first_seer : seer.events.event ≡ i
    first_seer = seeing_event_is_first r seer.events t i o v (listed_box_is_box r boxes m seer some at_m) in_m sees

    first_maker : maker.events.event ≡ p.event
    first_maker = write_is_first_of_box r maker.events p.thread p.event made.object made.version made.readers (listed_box_is_box r boxes k maker some at_k) in_k made.made

-- what a sight at an event says of its maker
pub sight_maker_is_maker : (r : Recorded) (boxes : List PlacedBox) (t i : ℕ) (s : Sight) → SeesAt r boxes t i s
    → IsMakerOf r t i s.maker.events.thread s.maker.events.event
sight_maker_is_maker r boxes t i s h = subst (λ n. IsMakerOf r n i s.maker.events.thread s.maker.events.event) h.thread
    (subst (λ n. IsMakerOf r s.seer.events.thread n s.maker.events.thread s.maker.events.event) h.event h.sight.made)

-- none where the maker is of the same thread, or has no box, or the event has none
pub no_sight_of_own_maker : (r : Recorded) (boxes : List PlacedBox) (t i : ℕ) (p : Place) (s : Sight) → AreCoherent r → IsMakerOf r t i p.thread p.event → p.thread ≡ t
    → SeesAt r boxes t i s → ⊥
no_sight_of_own_maker r boxes t i p s coherent made own h =
    let same = maker_is_unique r coherent t i s.maker.events.thread s.maker.events.event p.thread p.event (sight_maker_is_maker r boxes t i s h) made in
    h.sight.others (same.0 ∙ (own ∙ sym h.thread))

pub no_maker_box_no_sight : (r : Recorded) (boxes : List PlacedBox) (t i : ℕ) (p : Place) (s : Sight) → AreCoherent r → AreSomeBoxes r (events_of_all boxes)
    → IsMakerOf r t i p.thread p.event → ((k : ℕ) (b : PlacedBox) → slice_get boxes k ≡ Some b → IsInBox b.events p.thread p.event → ⊥)
    → SeesAt r boxes t i s → ⊥
no_maker_box_no_sight r boxes t i p s coherent some made none h =
    let same = maker_is_unique r coherent t i s.maker.events.thread s.maker.events.event p.thread p.event (sight_maker_is_maker r boxes t i s h) made in
    none h.sight.from s.maker h.sight.maker (box_has_its_first_event r boxes h.sight.from p.thread p.event s.maker some h.sight.maker same.0 same.1)

pub no_seer_box_no_sight : (r : Recorded) (boxes : List PlacedBox) (t i : ℕ) (s : Sight) → AreSomeBoxes r (events_of_all boxes)
    → ((k : ℕ) (b : PlacedBox) → slice_get boxes k ≡ Some b → IsInBox b.events t i → ⊥) → SeesAt r boxes t i s → ⊥
no_seer_box_no_sight r boxes t i s some none h =
    none h.sight.to s.seer h.sight.seer (box_has_its_first_event r boxes h.sight.to t i s.seer some h.sight.seer h.thread h.event)

-- none where nothing is new
pub no_sight_if_nothing_new : (r : Recorded) (boxes : List PlacedBox) (t i : ℕ) (s : Sight) → ((o v : ℕ) → SeesNew r t i o v → ⊥) → SeesAt r boxes t i s → ⊥
no_sight_if_nothing_new r boxes t i s none h = none s.object h.sight.version (subst (λ n. SeesNew r n i s.object h.sight.version) h.thread
    (subst (λ n. SeesNew r s.seer.events.thread n s.object h.sight.version) h.event h.sight.sees))

-- ---- all sights

pub no_sights_before_first : (r : Recorded) (boxes : List PlacedBox) → SightsBefore r boxes 0 0 []
no_sights_before_first r boxes = record {
  each = λ k s is. absurd (none-some s is);
  before = λ k s is. absurd (none-some s is);
  all = λ s is b. absurd (nothing_before_first s.seer.events.thread s.seer.events.event b);
  rising = λ k m s z less is other. absurd (none-some s is);
}

pub sights_before_no_sight : (r : Recorded) (boxes : List PlacedBox) (t n : ℕ) (sights : List Sight) → ((s : Sight) → SeesAt r boxes t n s → ⊥)
    → SightsBefore r boxes t n sights → SightsBefore r boxes t (n + 1) sights
sights_before_no_sight r boxes t n sights none h = record {
  each = h.each;
  before = λ k s is. before_next_event s.seer.events.thread s.seer.events.event t n (h.before k s is);
  all = λ s is b. elim (before_next_event_cases s.seer.events.thread s.seer.events.event t n b) [
    | inl less ↦ h.all s is less
    | inr here ↦ absurd (none s (record { sight = is; thread = here.0; event = here.1 }))
  ];
  rising = h.rising;
}

pub sights_before_sight : (r : Recorded) (boxes : List PlacedBox) (t n : ℕ) (sights : List Sight) (new : Sight) → AreCoherent r
    → AreSomeBoxes r (events_of_all boxes) → SeesAt r boxes t n new → SightsBefore r boxes t n sights
    → SightsBefore r boxes t (n + 1) (sights ++ new ∷ [])
sights_before_sight r boxes t n sights new coherent some sees h = record {
  each = λ k s is. elim (slice_get-push_cases sights new k s is) [
    | inl old ↦ h.each k s old
    | inr now ↦ subst (IsChromeSight r boxes) now.1 sees.sight
  ];
  before = λ k s is. elim (slice_get-push_cases sights new k s is) [
    | inl old ↦ before_next_event s.seer.events.thread s.seer.events.event t n (h.before k s old)
    | inr now ↦ subst (λ (x : Sight). IsBefore x.seer.events.thread x.seer.events.event t (n + 1)) now.1 (inr (sees.thread, omega (arith, sees.event)))
  ];
  all = λ s is b. elim (before_next_event_cases s.seer.events.thread s.seer.events.event t n b) [
    | inl less ↦ let old = h.all s is less in (old.0, slice_get_push_earlier sights new s old.0 old.1)
    | inr here ↦ (
      length sights,
      added_element_is_last sights new
          ∙ ap Some (sight_unique r boxes t n new s coherent some sees (record { sight = is; thread = here.0; event = here.1 })),
    )
  ];
  rising = λ k m s z less first second. elim (slice_get-push_cases sights new m z second) [
    | inl old ↦ elim (slice_get-push_cases sights new k s first) [
      | inl both ↦ h.rising k m s z less both old
      | inr now ↦ absurd (omega (arith, less, now.0, slice_get_within sights m z old))
    ]
    | inr now ↦ elim (slice_get-push_cases sights new k s first) [
      | inl old ↦ subst (λ (x : Sight). IsBefore s.seer.events.thread s.seer.events.event x.seer.events.thread x.seer.events.event) now.1
          (subst (λ u. IsBefore s.seer.events.thread s.seer.events.event u new.seer.events.event) (sym sees.thread)
          (subst (IsBefore s.seer.events.thread s.seer.events.event t) (sym sees.event) (h.before k s old)))
      | inr same ↦ absurd (omega (arith, less, same.0, now.0))
    ]
  ];
}

pub sights_before_thread : (r : Recorded) (boxes : List PlacedBox) (t n : ℕ) (sights : List Sight) → length (recorded_thread r t).events ≤ n
    → SightsBefore r boxes t n sights → SightsBefore r boxes (t + 1) 0 sights
sights_before_thread r boxes t n sights all h = record {
  each = h.each;
  before = λ k s is. elim (h.before k s is) [
    | inl less ↦ inl (omega (arith, less))
    | inr here ↦ inl (omega (arith, here.0))
  ];
  all = λ s is b. elim (cases_eq s.seer.events.thread t) [
    | inl here ↦ h.all s is (inr (here, omega (arith, all, entry_within s is, ap (λ z. length (recorded_thread r z).events) here)))
    | inr ne ↦ h.all s is (inl (below s.seer.events.thread s.seer.events.event ne b))
  ];
  rising = h.rising;
}
  where
    entry_within : (s : Sight) → IsChromeSight r boxes s → s.seer.events.event < length (recorded_thread r s.seer.events.thread).events
    entry_within s is =
        let e = event_of_entry_enters r s.seer.events.thread s.seer.events.event s.object is.version is.sees.entry in
        slice_get_within (recorded_thread r s.seer.events.thread).events s.seer.events.event e.0 e.1

    below : (u j : ℕ) → (u ≡ t → ⊥) → IsBefore u j (t + 1) 0 → u < t
    below u j ne (inl less) = omega (arith, less, ne)
    below u j ne (inr here) = absurd (omega (arith, here.1))

pub sights_to_end_are_all : (r : Recorded) (boxes : List PlacedBox) (n : ℕ) (sights : List Sight) → length r.threads ≤ n → SightsBefore r boxes n 0 sights
    → AreSights r boxes sights
sights_to_end_are_all r boxes n sights all h = record {
  each = h.each;
  all = λ s is. h.all s is (inl (thread_there s is));
  rising = h.rising;
}
  where
    thread_there : (s : Sight) → IsChromeSight r boxes s → s.seer.events.thread < n
    thread_there s is =
        let e = event_of_entry_enters r s.seer.events.thread s.seer.events.event s.object is.version is.sees.entry in
        omega (arith, all, event_thread_exists r s.seer.events.thread s.seer.events.event e.0 e.1)

-- ---- limits

pub entry_object_below : (r : Recorded) (t n o v : ℕ) (e : Event) (objects : ℕ) → event_at r t n ≡ Some e → Enters e o v
    → FitsSoFar (recorded_thread r t).events objects → o < objects
entry_object_below r t n o v e objects at enters fits = fits n o e at (entered_if_enters e o v enters)

-- what is not the first version
pub sees_new_version : (r : Recorded) (t i o v : ℕ) → (v ≡ 0 → ⊥) → SeesNew r t i o v → SeesNew r t i o (suc (v - 1))
sees_new_version r t i o v ne sees =
    let same : v ≡ suc (v - 1) = omega (arith, ne) in
    subst (SeesNew r t i o) same sees

pub if_none_from_fact : {A : Type 0} (o : Option A) (P : Type 0) → P → IfNone o P
if_none_from_fact None P p = p
if_none_from_fact (Some x) P p = tt

-- what was found of a version that isn't the first
pub found_maker_is_maker : (r : Recorded) (t i o v : ℕ) (m : Makers) (result : Option Place) → Makes r (length r.threads) 0 m → SeesNew r t i o v → (v ≡ 0 → ⊥)
    → result ≡ maker_in m o (v - 1) → IfSome result (λ p. IsMakerOf r t i p.thread p.event)
found_maker_is_maker r t i o v m None makes sees ne is = tt
found_maker_is_maker r t i o v m (Some p) makes sees ne is = maker_in_table_is_maker r t i o (v - 1) p.thread p.event m p makes (sees_new_version r t i o v ne sees) (sym is)

pub no_maker_if_none_found : (r : Recorded) (t i o v : ℕ) (m : Makers) (result : Option Place) → Makes r (length r.threads) 0 m → SeesNew r t i o v → (v ≡ 0 → ⊥)
    → result ≡ maker_in m o (v - 1) → IfNone result ((u j : ℕ) → IsMakerOf r t i u j → ⊥)
no_maker_if_none_found r t i o v m (Some p) makes sees ne is = tt
no_maker_if_none_found r t i o v m None makes sees ne is = maker_is_in_table r t i o (v - 1) m makes (sees_new_version r t i o v ne sees) (sym is)
