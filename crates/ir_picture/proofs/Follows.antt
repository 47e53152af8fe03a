-- Whether the next event of a thread can be placed.
use Rattle.std.proofs.Common.{◌≡◌, ℕ, suc, zero, ◌<◌, ◌⊎◌, inl, inr, Bool, true, false, ◌==◌, if◌then◌else◌, Option, Some, None, List, refl, sym, ap, ◌∙◌, subst, arith, eq-eqb, ne_eqb}
use Rattle.std.specs.Option.{option_map}
use Rattle.std.proofs.lemmas.Bool.{eqb-true}
use Rattle.std.proofs.lemmas.Option.{same_Some, none-some, slice_get_within}
use Rattle.ir_runs.specs.declared.access.Access.TheVariants.{Reading, Writing}
use Rattle.ir_log.specs.declared.event.Event.{Event}
use Rattle.ir_log.specs.declared.event.Event.TheVariants.{Answer, Read, Write, Try}
use Rattle.ir_trace.specs.Recorded.{Recorded, recorded_thread}
use Rattle.ir_past.specs.Past.{event_at, IsReadAt, IsWriteAt}
use Rattle.ir_past.specs.Answers.{AreCoherent}
use Rattle.ir_past.proofs.CallerLemmas.{entered_was_made, version_writer_unique}
use Rattle.ir_picture.specs.Needs.{Needs, IsEntryOf, CanFollowBox}
use Rattle.ir_picture.specs.Placing.{Knows, placed_reads, made_by_box, after_needs, first_point, later_of}
use Rattle.ir_picture.specs.declared.placed_box.Point.{Point}
use Rattle.ir_picture.specs.declared.placed_box.PlacedBox.{PlacedBox}
use Rattle.ir_picture.specs.declared.table.Version.{Version}
use Rattle.ir_picture.proofs.Counts.{all_reads, all_placed_reads_equal, equal_reads_are_placed}
use Rattle.ir_coherence.proofs.CallerLemmas.{at_of_mapped_label}

-- one event is at a place
pub event_at_is_unique : (r : Recorded) (t i : ℕ) (a b : Event) → event_at r t i ≡ Some a → event_at r t i ≡ Some b → a ≡ b
event_at_is_unique r t i a b x y = same_Some a b (sym x ∙ y)

-- a write entry tells how many read entries of its version there are
pub write_has_reader_count : (r : Recorded) → AreCoherent r → (t i o v l : ℕ) → IsWriteAt r t i o v l → l ≡ all_reads r o v
write_has_reader_count r coherent t i o v l is = coherent.readers t i o v l (at_of_mapped_label (recorded_thread r t).events i (Write o v l) is)

pub read_event_is_injective : (o v p w : ℕ) → ◌≡◌ {A = Event} (Read o v) (Read p w) → (o ≡ p) × (v ≡ w)
read_event_is_injective o v p w e = (cc, cc)

pub write_event_injective : (o v l p w k : ℕ) → ◌≡◌ {A = Event} (Write o v l) (Write p w k) → (o ≡ p) × ((v ≡ w) × (l ≡ k))
write_event_injective o v l p w k e = (cc, (cc, cc))

-- what an event needs, by what it is
pub read_needs_its_maker : (r : Recorded) (t i o v u j : ℕ) → IsReadAt r t i o v → Needs r t i u j → (w k : ℕ) × (v ≡ suc w) × IsWriteAt r u j o w k
read_needs_its_maker r t i o v u j is (inl m) = elim m.entry [
  | inl read ↦
      let same = read_event_is_injective m.object (suc m.version) o v (event_at_is_unique r t i (Read m.object (suc m.version)) (Read o v) read is) in
      (m.version, m.readers, sym same.1, subst (λ z. IsWriteAt r u j z m.version m.readers) same.0 m.made)
  | inr write ↦ absurd (let bad : Write m.object (suc m.version) write.0 ≡ Read o v = event_at_is_unique r t i (Write m.object (suc m.version) write.0) (Read o v) write.1 is in cc)
]
read_needs_its_maker r t i o v u j is (inr d) =
    absurd (let bad : Write d.object d.version d.readers ≡ Read o v = event_at_is_unique r t i (Write d.object d.version d.readers) (Read o v) d.write is in cc)

pub write_needs_cases : (r : Recorded) (t i o v l u j : ℕ) → IsWriteAt r t i o v l → Needs r t i u j
    → ((w k : ℕ) × (v ≡ suc w) × IsWriteAt r u j o w k) ⊎ IsReadAt r u j o v
write_needs_cases r t i o v l u j is (inl m) = elim m.entry [
  | inl read ↦ absurd (let bad : Read m.object (suc m.version) ≡ Write o v l = event_at_is_unique r t i (Read m.object (suc m.version)) (Write o v l) read is in cc)
  | inr write ↦
      let same = write_event_injective m.object (suc m.version) write.0 o v l (event_at_is_unique r t i (Write m.object (suc m.version) write.0) (Write o v l) write.1 is) in
      inl (m.version, m.readers, sym same.1.0, subst (λ z. IsWriteAt r u j z m.version m.readers) same.0 m.made)
]
write_needs_cases r t i o v l u j is (inr d) =
    let same = write_event_injective d.object d.version d.readers o v l (event_at_is_unique r t i (Write d.object d.version d.readers) (Write o v l) d.write is) in
    inr (subst (λ z. IsReadAt r u j o z) same.1.0 (subst (λ z. IsReadAt r u j z d.version) same.0 d.read))

pub no_entry_no_needs : (r : Recorded) (t i u j : ℕ) (e : Event) → event_at r t i ≡ Some e → ((o v : ℕ) → e ≡ Read o v → ⊥) → ((o v l : ℕ) → e ≡ Write o v l → ⊥)
    → Needs r t i u j → ⊥
no_entry_no_needs r t i u j e is no_read no_write (inl m) = elim m.entry [
  | inl read ↦ no_read m.object (suc m.version) (event_at_is_unique r t i e (Read m.object (suc m.version)) is read)
  | inr write ↦ no_write m.object (suc m.version) write.0 (event_at_is_unique r t i e (Write m.object (suc m.version) write.0) is write.1)
]
no_entry_no_needs r t i u j e is no_read no_write (inr d) =
    no_write d.object d.version d.readers (event_at_is_unique r t i e (Write d.object d.version d.readers) is d.write)

-- ---- tests

pub some_choice_parts : {A : Type 0} (b : Bool) (x : Option A) (p : A) → (if b then x else None) ≡ Some p → (b ≡ true) × (x ≡ Some p)
some_choice_parts true x p e = (refl, e)
some_choice_parts false x p e = absurd (none-some p e)

pub none_choice_parts : {A : Type 0} (b : Bool) (x : Option A) → (if b then x else None) ≡ None → (b ≡ false) ⊎ (x ≡ None)
none_choice_parts true x e = inr e
none_choice_parts false x e = inl refl

pub mapped_some_is_some : {A B : Type 0} (f : A → B) (x : Option A) (p : B) → option_map f x ≡ Some p → (q : A) × (x ≡ Some q) × (f q ≡ p)
mapped_some_is_some f None p e = absurd (none-some p e)
mapped_some_is_some f (Some q) p e = (q, refl, same_Some (f q) p e)

pub mapped_none_is_none : {A B : Type 0} (f : A → B) (x : Option A) → option_map f x ≡ None → x ≡ None
mapped_none_is_none f None e = refl
mapped_none_is_none f (Some q) e = absurd (none-some (f q) (sym e))

-- a version that isn't the first is made by its maker
pub made_by_suc_is_made : (k : Version) (v : ℕ) → made_by_box k (suc v) ≡ k.made
made_by_suc_is_made k v = ap {B = Option Point} (λ (c : Bool). if c then Some first_point else k.made) (ne_eqb (suc v) 0 (λ e. omega (arith, e)))

-- the maker of a version is placed where a place after it is known
known_maker_is_placed : (r : Recorded) (boxes : List PlacedBox) (c : ℕ → ℕ) (f : ℕ → ℕ → Version) → AreCoherent r → Knows r boxes c f → (o v w k u j : ℕ) (p : Point)
    → made_by_box (f o v) v ≡ Some p → v ≡ suc w → IsWriteAt r u j o w k → j < c u
known_maker_is_placed r boxes c f coherent knows o v w k u j p made next write =
    let at : (f o (suc w)).made ≡ Some p = sym (made_by_suc_is_made (f o (suc w)) w) ∙ subst (λ z. made_by_box (f o z) z ≡ Some p) next made in
    let known = (knows.made o w p at).0 in
    let same = version_writer_unique r coherent known.0 known.1 u j o w known.2.1.0 k known.2.1.1 write in
    subst (λ z. j < c z) same.0 (subst (λ z. z < c known.0) same.1 known.2.0)

-- the next event of a thread can be placed where a place after all it needs is known
pub known_place_can_follow : (r : Recorded) (boxes : List PlacedBox) (c : ℕ → ℕ) (f : ℕ → ℕ → Version) → AreCoherent r → Knows r boxes c f → (t : ℕ) (e : Event)
    (p : Point) → event_at r t (c t) ≡ Some e → after_needs f e ≡ Some p → CanFollowBox r c t
known_place_can_follow r boxes c f coherent knows t (Answer kind value) p is after = record {
  there = slice_get_within (recorded_thread r t).events (c t) (Answer kind value) is;
  needs = λ u j needs. absurd (no_entry_no_needs r t (c t) u j (Answer kind value) is (λ o v e. cc) (λ o v l e. cc) needs);
}
known_place_can_follow r boxes c f coherent knows t (Try o) p is after = record {
  there = slice_get_within (recorded_thread r t).events (c t) (Try o) is;
  needs = λ u j needs. absurd (no_entry_no_needs r t (c t) u j (Try o) is (λ q v e. cc) (λ q v l e. cc) needs);
}
known_place_can_follow r boxes c f coherent knows t (Read o v) p is after = record {
  there = slice_get_within (recorded_thread r t).events (c t) (Read o v) is;
  needs = λ u j needs.
      let m = read_needs_its_maker r t (c t) o v u j is needs in
      known_maker_is_placed r boxes c f coherent knows o v m.0 m.1 u j p after m.2 m.3;
}
known_place_can_follow r boxes c f coherent knows t (Write o v l) p is after =
    let test = some_choice_parts ((f o v).readers == l) (option_map (λ (q : Point). later_of q (f o v).left) (made_by_box (f o v) v)) p after in
    let made = mapped_some_is_some (λ (q : Point). later_of q (f o v).left) (made_by_box (f o v) v) p test.1 in
    let count : placed_reads r c o v ≡ all_reads r o v = sym (knows.readers o v) ∙ (eqb-true (f o v).readers l test.0 ∙ write_has_reader_count r coherent t (c t) o v l is) in
    record {
      there = slice_get_within (recorded_thread r t).events (c t) (Write o v l) is;
      needs = λ u j needs. elim (write_needs_cases r t (c t) o v l u j is needs) [
        | inl m ↦ known_maker_is_placed r boxes c f coherent knows o v m.0 m.1 u j made.0 made.1 m.2 m.3
        | inr read ↦ equal_reads_are_placed r c o v u j count read
      ];
    }

-- a version that is entered has a place after its maker, if that is placed
follower_knows_maker : (r : Recorded) (boxes : List PlacedBox) (c : ℕ → ℕ) (f : ℕ → ℕ → Version) → AreCoherent r → Knows r boxes c f → (t o v : ℕ)
    → IsEntryOf r t (c t) o v → CanFollowBox r c t → made_by_box (f o v) v ≡ None → ⊥
follower_knows_maker r boxes c f coherent knows t o zero entry follow none = none-some first_point (sym none)
follower_knows_maker r boxes c f coherent knows t o (suc v) entry follow none =
    knows.none o v (sym (made_by_suc_is_made (f o (suc v)) v) ∙ none) made.0 made.1 (
      follow.needs made.0 made.1 (inl record {
        object = o;
        version = v;
        readers = made.2;
        entry = entry;
        made = made.3;
      }),
      (made.2, made.3),
    )
  where
    made_of : IsEntryOf r t (c t) o (suc v) → (u j k : ℕ) × IsWriteAt r u j o v k
    made_of (inl read) = entered_was_made r coherent t (c t) o v Reading 0 (at_of_mapped_label (recorded_thread r t).events (c t) (Read o (suc v)) read)
    made_of (inr write) = entered_was_made r coherent t (c t) o v Writing write.0
        (at_of_mapped_label (recorded_thread r t).events (c t) (Write o (suc v) write.0) write.1)

    made : (u j k : ℕ) × IsWriteAt r u j o v k
    made = made_of entry

-- it can't be placed where no such place is known
pub no_place_no_follow : (r : Recorded) (boxes : List PlacedBox) (c : ℕ → ℕ) (f : ℕ → ℕ → Version) → AreCoherent r → Knows r boxes c f → (t : ℕ) (e : Event)
    → event_at r t (c t) ≡ Some e → after_needs f e ≡ None → CanFollowBox r c t → ⊥
no_place_no_follow r boxes c f coherent knows t (Answer kind value) is none follow = none-some first_point (sym none)
no_place_no_follow r boxes c f coherent knows t (Try o) is none follow = none-some first_point (sym none)
no_place_no_follow r boxes c f coherent knows t (Read o v) is none follow = follower_knows_maker r boxes c f coherent knows t o v (inl is) follow none
no_place_no_follow r boxes c f coherent knows t (Write o v l) is none follow =
    elim (none_choice_parts ((f o v).readers == l) (option_map (λ (q : Point). later_of q (f o v).left) (made_by_box (f o v) v)) none) [
      | inl other ↦
          let count : placed_reads r c o v ≡ all_reads r o v = all_placed_reads_equal r c o v (λ u j read. follow.needs u j (inr record {
            object = o;
            version = v;
            readers = l;
            write = is;
            read = read;
          })) in
          let same : (f o v).readers ≡ l = knows.readers o v ∙ (count ∙ sym (write_has_reader_count r coherent t (c t) o v l is)) in
          let bad : true ≡ false = sym (eq-eqb (f o v).readers l same) ∙ other in
          cc
      | inr unmade ↦ follower_knows_maker r boxes c f coherent knows t o v (inr (l, is)) follow
          (mapped_none_is_none (λ (q : Point). later_of q (f o v).left) (made_by_box (f o v) v) unmade)
    ]
