-- What is noted of the versions, event by event.
use Rattle.std.proofs.Common.{◌≡◌, ℕ, suc, ◌+◌, ◌<◌, ◌≤◌, ◌⊎◌, inl, inr, Bool, ◌==◌, ◌&&◌, if◌then◌else◌, Some, List, drop, length, get_or, slice_set, refl, sym, ap, ◌∙◌, subst, arith, eq-eqb, ne_eqb}
use Rattle.std.specs.Prelude.{slice_get}
use Rattle.std.proofs.lemmas.Bool.{cases_eq, cases_lt}
use Rattle.std.proofs.lemmas.List.{drop_more}
use Rattle.std.proofs.lemmas.Option.{same_Some, none-some}
use Rattle.ir_runs.specs.Verdicts.{reads_one}
use Rattle.ir_log.specs.Logging.{label_of}
use Rattle.ir_log.specs.declared.event.Event.{Event}
use Rattle.ir_log.specs.declared.event.Event.TheVariants.{Answer, Read, Write, Try}
use Rattle.ir_trace.specs.Recorded.{Recorded}
use Rattle.ir_past.specs.Past.{event_at}
use Rattle.ir_past.specs.Answers.{AreCoherent}
use Rattle.ir_picture.specs.Boxes.{IsInBox, AreBoxes}
use Rattle.ir_picture.specs.Placing.{Knows, IsAfterBox, ReadsPlaced, WritesPlaced, noted, noted_all, with_reader, with_maker, right_of, later_of, unknown_version, events_of_all}
use Rattle.ir_picture.specs.declared.placed_box.Point.{Point}
use Rattle.ir_picture.specs.declared.placed_box.PlacedBox.{PlacedBox}
use Rattle.ir_picture.specs.declared.table.Version.{Version}
use Rattle.ir_picture.proofs.Lists.{slice_get_of_map}
use Rattle.ir_picture.proofs.Least.{after_equal_events, after_no_events, after_union_is_later, after_single_is_its_end, after_other_box_set}
use Rattle.ir_picture.proofs.Counts.{reads_one_of_read, reads_one_of_other, reads_one_at_most_one, placed_reads_step, placed_reads_at_start}
use Rattle.ir_picture.proofs.Follows.{event_at_is_unique}
use Rattle.ir_past.proofs.CallerLemmas.{version_writer_unique}

-- ---- what noting an event changes

-- two numbers are these, or they aren't
pair_equal_or_not : (o q v w : ℕ) → ((o ≡ q) × (v ≡ w)) ⊎ (o ≡ q → v ≡ w → ⊥)
pair_equal_or_not o q v w = elim (cases_eq o q) [
  | inl object ↦ elim (cases_eq v w) [
    | inl version ↦ inl (object, version)
    | inr ne ↦ inr (λ a b. ne b)
  ]
  | inr ne ↦ inr (λ a b. ne a)
]

choice_if_pair_equal : {A : Type 0} (o q v w : ℕ) (x y : A) → o ≡ q → v ≡ w → (if (o == q) && (v == w) then x else y) ≡ x
choice_if_pair_equal {A} o q v w x y a b =
    ap {B = A} (λ (c : Bool). if c && (v == w) then x else y) (eq-eqb o q a) ∙ ap {B = A} (λ (c : Bool). if c then x else y) (eq-eqb v w b)

unequal_pair_choice : {A : Type 0} (o q v w : ℕ) (x y : A) → (o ≡ q → v ≡ w → ⊥) → (if (o == q) && (v == w) then x else y) ≡ y
unequal_pair_choice {A} o q v w x y ne = elim (cases_eq o q) [
  | inl a ↦ ap {B = A} (λ (c : Bool). if c && (v == w) then x else y) (eq-eqb o q a)
      ∙ ap {B = A} (λ (c : Bool). if c then x else y) (ne_eqb v w (ne a))
  | inr n ↦ ap {B = A} (λ (c : Bool). if c && (v == w) then x else y) (ne_eqb o q n)
]

-- what is noted of one version, where an event is noted
pub record VersionChange (e : Event) (p : Point) (o v : ℕ) (old new : Version) : Type 0 where
  pub readers : new.readers ≡ reads_one o v (label_of e) + old.readers
  pub read : e ≡ Read o v → new.left ≡ later_of old.left p
  pub unread : (e ≡ Read o v → ⊥) → new.left ≡ old.left
  pub write : (w l : ℕ) → v ≡ suc w → e ≡ Write o w l → new.made ≡ Some p
  pub unwritten : ((w l : ℕ) → v ≡ suc w → e ≡ Write o w l → ⊥) → new.made ≡ old.made

other_event_same_version : (e : Event) (p : Point) (o v : ℕ) (old new : Version) → new ≡ old → (e ≡ Read o v → ⊥)
    → ((w l : ℕ) → v ≡ suc w → e ≡ Write o w l → ⊥) → VersionChange e p o v old new
other_event_same_version e p o v old new same no_reads no_writes = record {
  readers = omega (arith, ap (λ (x : Version). x.readers) same, reads_one_of_other e o v no_reads);
  read = λ is. absurd (no_reads is);
  unread = λ not. ap (λ (x : Version). x.left) same;
  write = λ w l next is. absurd (no_writes w l next is);
  unwritten = λ not. ap (λ (x : Version). x.made) same;
}

pub noted_is_version_change : (e : Event) (p : Point) (f : ℕ → ℕ → Version) (o v : ℕ) → VersionChange e p o v (f o v) (noted e p f o v)
noted_is_version_change (Answer kind value) p f o v = other_event_same_version (Answer kind value) p o v (f o v) (f o v) refl (λ e. cc) (λ w l next e. cc)
noted_is_version_change (Try q) p f o v = other_event_same_version (Try q) p o v (f o v) (f o v) refl (λ e. cc) (λ w l next e. cc)
noted_is_version_change (Read q w) p f o v = elim (pair_equal_or_not o q v w) [
  | inl here ↦
      let is : noted (Read q w) p f o v ≡ with_reader (f q w) p = choice_if_pair_equal o q v w (with_reader (f q w) p) (f o v) here.0 here.1 in
      let old : f q w ≡ f o v = λ i. f (sym here.0 i) (sym here.1 i) in
      let event : ◌≡◌ {A = Event} (Read q w) (Read o v) = λ i. Read (sym here.0 i) (sym here.1 i) in
      record {
        readers = omega (
          arith,
          ap (λ (x : Version). x.readers) is,
          ap (λ (x : Version). x.readers) old,
          reads_one_of_read o v,
          ap (λ (x : Event). reads_one o v (label_of x)) event,
        );
        read = λ e. ap (λ (x : Version). x.left) is ∙ ap (λ (x : Version). later_of x.left p) old;
        unread = λ not. absurd (not event);
        write = λ u l next e. absurd (let bad : ◌≡◌ {A = Event} (Read q w) (Write o u l) = e in cc);
        unwritten = λ not. ap (λ (x : Version). x.made) is ∙ ap (λ (x : Version). x.made) old;
      }
  | inr ne ↦ other_event_same_version (Read q w) p o v (f o v) (noted (Read q w) p f o v) (unequal_pair_choice o q v w (with_reader (f q w) p) (f o v) ne)
      (λ e. ne (let bad : ◌≡◌ {A = Event} (Read q w) (Read o v) = e in cc) (let bad : ◌≡◌ {A = Event} (Read q w) (Read o v) = e in cc))
      (λ u l next e. let bad : ◌≡◌ {A = Event} (Read q w) (Write o u l) = e in cc)
]
noted_is_version_change (Write q w k) p f o v = elim (pair_equal_or_not o q v (w + 1)) [
  | inl here ↦
      let is : noted (Write q w k) p f o v ≡ with_maker (f q (w + 1)) p = choice_if_pair_equal o q v (w + 1) (with_maker (f q (w + 1)) p) (f o v) here.0 here.1 in
      let old : f q (w + 1) ≡ f o v = λ i. f (sym here.0 i) (sym here.1 i) in
      record {
        readers = omega (
          arith,
          ap (λ (x : Version). x.readers) is,
          ap (λ (x : Version). x.readers) old,
          reads_one_of_other (Write q w k) o v (λ e. let bad : ◌≡◌ {A = Event} (Write q w k) (Read o v) = e in cc),
        );
        read = λ e. absurd (let bad : ◌≡◌ {A = Event} (Write q w k) (Read o v) = e in cc);
        unread = λ not. ap (λ (x : Version). x.left) is ∙ ap (λ (x : Version). x.left) old;
        write = λ u l next e. ap (λ (x : Version). x.made) is;
        unwritten = λ not. absurd (not w k (omega (arith, here.1)) (λ i. Write (sym here.0 i) w k));
      }
  | inr ne ↦ other_event_same_version (Write q w k) p o v (f o v) (noted (Write q w k) p f o v) (unequal_pair_choice o q v (w + 1) (with_maker (f q (w + 1)) p) (f o v) ne)
      (λ e. let bad : ◌≡◌ {A = Event} (Write q w k) (Read o v) = e in cc)
      (λ u l next e.
      let event : ◌≡◌ {A = Event} (Write q w k) (Write o u l) = e in
      let object : o ≡ q = cc in
      let version : u ≡ w = cc in
      ne object (omega (arith, next, version)))
]

-- ---- what is known at the start, and where a box is changed

pub knows_at_start : (r : Recorded) (boxes : List PlacedBox) (f : ℕ → ℕ → Version) → ((o v : ℕ) → f o v ≡ unknown_version) → Knows r boxes (λ u. 0) f
knows_at_start r boxes f none = record {
  readers = λ o v. ap (λ (x : Version). x.readers) (none o v) ∙ sym (placed_reads_at_start r o v);
  left = λ o v. subst (IsAfterBox boxes (ReadsPlaced r (λ u. 0) o v)) (ap (λ (x : Version). x.left) (sym (none o v)))
      (after_no_events boxes (ReadsPlaced r (λ u. 0) o v) (λ u i is. omega (arith, is.0)));
  made = λ o v p is. absurd (none-some p (sym (ap (λ (x : Version). x.made) (none o (suc v))) ∙ is));
  none = λ o v is u i these. omega (arith, these.0);
}

pub knows_after_unplaced : (r : Recorded) (boxes : List PlacedBox) (c : ℕ → ℕ) (f : ℕ → ℕ → Version) (k : ℕ) (b new : PlacedBox) → slice_get boxes k ≡ Some b
    → new.events ≡ b.events → c b.events.thread ≤ b.events.event → Knows r boxes c f → Knows r (slice_set boxes k new) c f
knows_after_unplaced r boxes c f k b new at same late h = record {
  readers = h.readers;
  left = λ o v. after_other_box_set boxes k b new (ReadsPlaced r c o v) (f o v).left at same (λ i has these. omega (arith, these.0, has.from, late)) (h.left o v);
  made = λ o v p is. (
    (h.made o v p is).0,
    after_other_box_set boxes k b new (WritesPlaced r c o v) p at same (λ i has these. omega (arith, these.0, has.from, late)) (h.made o v p is).1,
  );
  none = h.none;
}

-- ---- one more event

suc_is_injective : (w v : ℕ) → suc v ≡ suc w → w ≡ v
suc_is_injective w v same = omega (arith, same)

event_is_read_or_not : (a : Event) (o v : ℕ) → (a ≡ Read o v) ⊎ (a ≡ Read o v → ⊥)
event_is_read_or_not (Answer kind value) o v = inr (λ e. cc)
event_is_read_or_not (Read q w) o v = elim (pair_equal_or_not q o w v) [
  | inl same ↦ inl (λ i. Read (same.0 i) (same.1 i))
  | inr ne ↦ inr (λ e. ne (let bad : ◌≡◌ {A = Event} (Read q w) (Read o v) = e in cc) (let bad : ◌≡◌ {A = Event} (Read q w) (Read o v) = e in cc))
]
event_is_read_or_not (Write q w l) o v = inr (λ e. cc)
event_is_read_or_not (Try q) o v = inr (λ e. cc)

event_is_write_or_not : (a : Event) (o v : ℕ) → ((l : ℕ) × (a ≡ Write o v l)) ⊎ ((l : ℕ) → a ≡ Write o v l → ⊥)
event_is_write_or_not (Answer kind value) o v = inr (λ l e. cc)
event_is_write_or_not (Read q w) o v = inr (λ l e. cc)
event_is_write_or_not (Write q w k) o v = elim (pair_equal_or_not q o w v) [
  | inl same ↦ inl (k, λ i. Write (same.0 i) (same.1 i) k)
  | inr ne ↦ inr (λ l e. ne (let bad : ◌≡◌ {A = Event} (Write q w k) (Write o v l) = e in cc) (let bad : ◌≡◌ {A = Event} (Write q w k) (Write o v l) = e in cc))
]
event_is_write_or_not (Try q) o v = inr (λ l e. cc)

-- an event is event n of thread t
abbrev IsThatEvent : ℕ → ℕ → ℕ → ℕ → Type 0
IsThatEvent t n u i = (u ≡ t) × (i ≡ n)

pub knows_after_noted_event : (r : Recorded) (boxes : List PlacedBox) (c d : ℕ → ℕ) (f : ℕ → ℕ → Version) (t k : ℕ) (b : PlacedBox) (e : Event) → AreCoherent r
    → AreBoxes r (events_of_all boxes) → event_at r t (c t) ≡ Some e → d t ≡ suc (c t) → ((u : ℕ) → (u ≡ t → ⊥) → d u ≡ c u)
    → slice_get boxes k ≡ Some b → IsInBox b.events t (c t) → Knows r boxes c f → Knows r boxes d (noted e (right_of b.end) f)
knows_after_noted_event r boxes c d f t k b e coherent are event here other at has h = record {
  readers = λ o v. (noted_is_version_change e (right_of b.end) f o v).readers ∙ (ap (λ n. reads_one o v (label_of e) + n) (h.readers o v)
      ∙ sym (placed_reads_step r c d t o v e event here other));
  left = λ o v. left o v;
  made = λ o v p is. made o v p is;
  none = λ o v is u i these. elim (was u i these.0) [
    | inl old ↦ h.none o v (sym ((noted_is_version_change e (right_of b.end) f o (suc v)).unwritten (λ w l next same.
        none-some (right_of b.end) (sym is ∙ (noted_is_version_change e (right_of b.end) f o (suc v)).write w l next same))) ∙ is) u i (old, these.1)
    | inr that ↦ none-some (right_of b.end) (sym is ∙ (noted_is_version_change e (right_of b.end) f o (suc v)).write v these.1.0 refl (is_that u i (Write o v these.1.0) that these.1.1))
  ];
}
  where
    p : Point
    p = right_of b.end

    was : (u i : ℕ) → i < d u → (i < c u) ⊎ IsThatEvent t (c t) u i
    was u i less = elim (cases_eq u t) [
      | inl same ↦ elim (cases_lt i (c u)) [
        | inl old ↦ inl old
        | inr not ↦ inr (same, omega (arith, not, less, here, ap d same, ap c same))
      ]
      | inr ne ↦ inl (omega (arith, less, other u ne))
    ]

    grows : (u i : ℕ) → i < c u → i < d u
    grows u i less = elim (cases_eq u t) [
      | inl same ↦ omega (arith, less, here, ap d same, ap c same)
      | inr ne ↦ omega (arith, less, other u ne)
    ]

    is_that : (u i : ℕ) (a : Event) → IsThatEvent t (c t) u i → event_at r u i ≡ Some a → e ≡ a
    is_that u i a that is = event_at_is_unique r t (c t) e a event
        (subst (λ z. event_at r z (c t) ≡ Some a) that.0 (subst (λ z. event_at r u z ≡ Some a) that.1 is))

    now_is : (u i : ℕ) → IsThatEvent t (c t) u i → i < d u
    now_is u i that = omega (arith, that.1, here, ap d that.0)

    event_is : (u i : ℕ) → IsThatEvent t (c t) u i → event_at r u i ≡ Some e
    event_is u i that = subst (λ z. event_at r z i ≡ Some e) (sym that.0) (subst (λ z. event_at r t z ≡ Some e) (sym that.1) event)

    after_that : IsAfterBox boxes (IsThatEvent t (c t)) p
    after_that = after_single_is_its_end boxes k (c t) b (IsThatEvent t (c t)) at (record { thread = refl; from = has.from; below = has.below }) (has.thread, refl)
        (λ m j a at_m in_m that. are.one k m t (c t) b.events a.events (slice_get_of_map (λ (x : PlacedBox). x.events) boxes k b at)
        (slice_get_of_map (λ (x : PlacedBox). x.events) boxes m a at_m) has
        (record { thread = that.0; from = omega (arith, in_m.from, that.1); below = omega (arith, in_m.below, that.1) }))

    left : (o v : ℕ) → IsAfterBox boxes (ReadsPlaced r d o v) (noted e p f o v).left
    left o v = elim (event_is_read_or_not e o v) [
      | inl read ↦ subst (IsAfterBox boxes (ReadsPlaced r d o v)) (sym ((noted_is_version_change e p f o v).read read))
          (after_union_is_later boxes (ReadsPlaced r c o v) (IsThatEvent t (c t)) (ReadsPlaced r d o v) (f o v).left p
          (λ u i old. (grows u i old.0, old.1)) (λ u i that. (now_is u i that, event_is u i that ∙ ap Some read))
          (λ u i new. elim (was u i new.0) [
            | inl old ↦ inl (old, new.1)
            | inr that ↦ inr that
          ]) (h.left o v) after_that)
      | inr not ↦ subst (IsAfterBox boxes (ReadsPlaced r d o v)) (sym ((noted_is_version_change e p f o v).unread not))
          (after_equal_events boxes (ReadsPlaced r c o v) (ReadsPlaced r d o v) (f o v).left (λ u i old. (grows u i old.0, old.1))
          (λ u i new. elim (was u i new.0) [
            | inl old ↦ (old, new.1)
            | inr that ↦ absurd (not (is_that u i (Read o v) that new.1))
          ]) (h.left o v))
    ]

    made : (o v : ℕ) (q : Point) → (noted e p f o (suc v)).made ≡ Some q
        → ((u i : ℕ) × WritesPlaced r d o v u i) × IsAfterBox boxes (WritesPlaced r d o v) q
    made o v q is = elim (event_is_write_or_not e o v) [
      | inl write ↦
          let same : p ≡ q = same_Some p q (sym ((noted_is_version_change e p f o (suc v)).write v write.0 refl write.1) ∙ is) in (
            (t, c t, (omega (arith, here), (write.0, event ∙ ap Some write.1))),
            subst (IsAfterBox boxes (WritesPlaced r d o v)) same
                (after_equal_events boxes (IsThatEvent t (c t)) (WritesPlaced r d o v) p
                (λ u i that. (now_is u i that, (write.0, event_is u i that ∙ ap Some write.1)))
                (λ u i new.
                let one = version_writer_unique r coherent u i t (c t) o v new.1.0 write.0 new.1.1 (event ∙ ap Some write.1) in
                (one.0, one.1)) after_that),
          )
      | inr not ↦
          let old = h.made o v q (sym ((noted_is_version_change e p f o (suc v)).unwritten (λ w l next same.
          not l (same ∙ (λ j. Write o (suc_is_injective w v next j) l)))) ∙ is) in (
            (old.0.0, old.0.1, (grows old.0.0 old.0.1 old.0.2.0, old.0.2.1)),
            after_equal_events boxes (WritesPlaced r c o v) (WritesPlaced r d o v) q (λ u i these. (grows u i these.0, these.1))
                (λ u i new. elim (was u i new.0) [
                  | inl less ↦ (less, new.1)
                  | inr that ↦ absurd (not new.1.0 (is_that u i (Write o v new.1.0) that new.1.1))
                ]) old.1,
          )
    ]

-- ---- events that are noted one after the other

-- one more event is noted
pub noted_all_next : (es : List Event) (k : ℕ) (d : Event) (p : Point) (f g : ℕ → ℕ → Version) (all : ℕ → ℕ → Version) → k < length es
    → ((o v : ℕ) → g o v ≡ noted (get_or es k d) p f o v) → noted_all (drop k es) p f ≡ all → noted_all (drop (k + 1) es) p g ≡ all
noted_all_next es k d p f g all within is rest =
    let same : g ≡ noted (get_or es k d) p f = λ i o v. is o v i in
    ap (λ (h : ℕ → ℕ → Version). noted_all (drop (k + 1) es) p h) same
    ∙ (ap (λ (xs : List Event). noted_all xs p f) (sym (drop_more es k d within)) ∙ rest)

-- and fewer are left, so that the counts stay small
pub readers_below_limit : (es : List Event) (k m : ℕ) (d : Event) (p : Point) (f g : ℕ → ℕ → Version) → k < length es
    → ((o v : ℕ) → g o v ≡ noted (get_or es k d) p f o v) → ((o v : ℕ) → (f o v).readers + length (drop k es) < m) → (o v : ℕ)
    → (g o v).readers + length (drop (k + 1) es) < m
readers_below_limit es k m d p f g within is room o v = omega (
  arith,
  room o v,
  ap (λ (x : Version). x.readers) (is o v),
  (noted_is_version_change (get_or es k d) p f o v).readers,
  reads_one_at_most_one o v (get_or es k d),
  ap (λ (xs : List Event). length xs) (drop_more es k d within),
)
