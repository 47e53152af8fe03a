-- What the tables say of an event's needs is what it needs.
use Rattle.std.proofs.Common.{◌≡◌, ◌≢◌, ℕ, suc, zero, ◌+◌, ◌<◌, inl, inr, Bool, true, false, not, if◌then◌else◌, Option, Some, None, List}
use Rattle.std.proofs.Common.{[], ◌∷◌, ◌++◌, length, refl, sym, ap, ◌∙◌, subst, arith, eq-eqb, ne_eqb}
use Rattle.std.specs.Prelude.{slice_get}
use Rattle.std.proofs.lemmas.Bool.{true≢false}
use Rattle.std.proofs.lemmas.Option.{same_Some, none-some}
use Rattle.ir_lemmas.proofs.CallerLemmas.{slice_get_append_kept, slice_get_append_cases}
use Rattle.ir_log.specs.declared.event.Event.{Event}
use Rattle.ir_log.specs.declared.event.Event.TheVariants as variant
use Rattle.ir_trace.specs.Recorded.{Recorded}
use Rattle.ir_coherence.specs.Before.{IsBefore}
use Rattle.ir_past.specs.Past.{event_at, IsReadAt, IsWriteAt, HasPlace}
use Rattle.ir_past.specs.Answers.{AreCoherent}
use Rattle.ir_past.specs.Tables.{maker_in, read_in}
use Rattle.ir_past.specs.declared.place.Place.{Place}
use Rattle.ir_past.proofs.CallerLemmas.{event_thread_exists, noted_writer_is_unique}
use Rattle.ir_picture.specs.Needs.{IsEntryOf, IsMakerOf, IsReaderFor}
use Rattle.ir_why.specs.Needed.{NeedsOther, AreNeeds}
use Rattle.ir_why.specs.declared.tables.Tables.{Tables}
use Rattle.ir_why.specs.Tables.{HasTables, is_other, others, listed, maker_at, needs_in}
use Rattle.ir_why.proofs.Filtered.{slice_get_append_right, filter_sound, filter_complete, filter_keeps_order}
use Rattle.ir_picture.proofs.CallerLemmas.{entry_at_is_unique}

-- ---- events of other threads

is_other_sound : (t : ℕ) (p : Place) → is_other t p ≡ true → p.thread ≢ t
is_other_sound t p e same = true≢false (sym e ∙ ap not (eq-eqb p.thread t same))

is_other_complete : (t : ℕ) (p : Place) → p.thread ≢ t → is_other t p ≡ true
is_other_complete t p ne = ap not (ne_eqb p.thread t ne)

-- ---- what made a version

listed_only_at_zero : (x : Option Place) (k : ℕ) (p : Place) → slice_get (listed x) k ≡ Some p → (k ≡ 0) × (x ≡ Some p)
listed_only_at_zero None k p e = absurd (none-some p e)
listed_only_at_zero (Some q) zero p e = (refl, e)
listed_only_at_zero (Some q) (suc k) p e = absurd (none-some p e)

listed_place_at_zero : (x : Option Place) (p : Place) → x ≡ Some p → slice_get (listed x) 0 ≡ Some p
listed_place_at_zero None p e = absurd (none-some p e)
listed_place_at_zero (Some q) p e = e

-- what a filtered list of at most one has, it has first
filtered_only_at_zero : (t : ℕ) (x : Option Place) (k : ℕ) (p : Place) → slice_get (others t (listed x)) k ≡ Some p → k ≡ 0
filtered_only_at_zero t None k p e = absurd (none-some p e)
filtered_only_at_zero t (Some q) k p e = by (is_other t q) refl k e
  where
    by : (c : Bool) → is_other t q ≡ c → (m : ℕ) → slice_get (others t (listed (Some q))) m ≡ Some p → m ≡ 0
    by c is zero at = refl
    by true is (suc m) at =
        absurd (none-some p (sym (ap (λ (b : Bool). slice_get (if b then q ∷ [] else []) (suc m)) is) ∙ at))
    by false is (suc m) at =
        absurd (none-some p (sym (ap (λ (b : Bool). slice_get (if b then q ∷ [] else []) (suc m)) is) ∙ at))

noted_maker_is_write : (r : Recorded) (tables : Tables) (o w : ℕ) (p : Place) → HasTables r tables → maker_at tables o w ≡ Some p
    → (v l : ℕ) × (w ≡ suc v) × IsWriteAt r p.thread p.event o v l
noted_maker_is_write r tables o zero p has e = absurd (none-some p e)
noted_maker_is_write r tables o (suc v) p has e = let made = has.makers.sound o v p e in (v, made.0, refl, made.1)

write_is_noted_maker : (r : Recorded) (tables : Tables) (o v u j l : ℕ) → AreCoherent r → HasTables r tables → IsWriteAt r u j o v l
    → (p : Place) × (maker_at tables o (suc v) ≡ Some p) × (p.thread ≡ u) × (p.event ≡ j)
write_is_noted_maker r tables o v u j l coherent has write = by (maker_in tables.makers o v) refl
  where
    by : (x : Option Place) → maker_in tables.makers o v ≡ x → (p : Place) × (maker_at tables o (suc v) ≡ Some p) × (p.thread ≡ u) × (p.event ≡ j)
    by None e = absurd (has.makers.noted u j o v l write (inl (event_thread_exists r u j _ write)) e)
    by (Some p) e =
        let one = noted_writer_is_unique r tables.makers (length r.threads) o v u j l p coherent has.makers e write in
        (p, e, sym one.0, sym one.1)

-- ---- an entry

-- a read entry is no write entry
read_is_no_write : (r : Recorded) (t i o v p w l : ℕ) → IsReadAt r t i o v → IsWriteAt r t i p w l → ⊥
read_is_no_write r t i o v p w l a b =
    let same : variant.Read o v ≡ variant.Write p w l = same_Some (variant.Read o v) (variant.Write p w l) (sym a ∙ b) in cc

-- the first part is what made the version, if it is of another thread
other_noted_is_maker : (r : Recorded) (tables : Tables) (t i o w k : ℕ) (p : Place) → HasTables r tables → IsEntryOf r t i o w
    → slice_get (others t (listed (maker_at tables o w))) k ≡ Some p → IsMakerOf r t i p.thread p.event × (p.thread ≢ t)
other_noted_is_maker r tables t i o w k p has entry e =
    let own = filter_sound (is_other t) (listed (maker_at tables o w)) k p e in
    let noted = listed_only_at_zero (maker_at tables o w) own.1.0 p own.1.1 in
    let made = noted_maker_is_write r tables o w p has noted.1 in (
      record {
        object = o;
        version = made.0;
        readers = made.1;
        entry = subst (IsEntryOf r t i o) made.2 entry;
        made = made.3;
      },
      is_other_sound t p own.0,
    )

other_maker_is_noted : (r : Recorded) (tables : Tables) (t i o w u j : ℕ) → AreCoherent r → HasTables r tables → IsEntryOf r t i o w
    → IsMakerOf r t i u j → u ≢ t → HasPlace (others t (listed (maker_at tables o w))) u j
other_maker_is_noted r tables t i o w u j coherent has entry maker other =
    let same = entry_at_is_unique r t i o w maker.object (suc maker.version) entry maker.entry in
    let noted = write_is_noted_maker r tables maker.object maker.version u j maker.readers coherent has maker.made in
    let p = noted.0 in
    let at : maker_at tables o w ≡ Some p =
    subst (λ z. maker_at tables z w ≡ Some p) (sym same.0) (subst (λ z. maker_at tables maker.object z ≡ Some p) (sym same.1) noted.1) in
    let there = filter_complete (is_other t) (listed (maker_at tables o w)) 0 p (listed_place_at_zero (maker_at tables o w) p at)
    (is_other_complete t p (λ x. other (sym noted.2 ∙ x))) in
    record { number = there.0; place = p; there = there.1; thread = noted.2; event = noted.3 }

-- ---- all that an event needs

-- an event that is no entry needs none
pub no_entry_needs_are_nil : (r : Recorded) (t i : ℕ) (e : Event) → event_at r t i ≡ Some e → ((o v : ℕ) → e ≢ variant.Read o v)
    → ((o v l : ℕ) → e ≢ variant.Write o v l) → AreNeeds r t i []
no_entry_needs_are_nil r t i e at read write = record {
  sound = λ k p is. absurd (none-some p is);
  complete = λ u j needs. absurd (never u j needs);
  first = λ k p is. absurd (none-some p is);
  rising = λ a b p q less is. absurd (none-some p is);
}
  where
    no_entry : (o v : ℕ) → IsEntryOf r t i o v → ⊥
    no_entry o v (inl is) = read o v (same_Some e (variant.Read o v) (sym at ∙ is))
    no_entry o v (inr (l, is)) = write o v l (same_Some e (variant.Write o v l) (sym at ∙ is))

    never : (u j : ℕ) → NeedsOther r t i u j → ⊥
    never u j (inl maker, other) = no_entry maker.object (suc maker.version) maker.entry
    never u j (inr reader, other) = no_entry reader.object reader.version (inr (reader.readers, reader.write))

-- a read entry needs what made its version
pub read_needs_are_maker : (r : Recorded) (tables : Tables) (t i o w : ℕ) → AreCoherent r → HasTables r tables → IsReadAt r t i o w
    → AreNeeds r t i (others t (listed (maker_at tables o w)))
read_needs_are_maker r tables t i o w coherent has read = record {
  sound = λ k p is. let own = other_noted_is_maker r tables t i o w k p has (inl read) is in (inl own.0, own.1);
  complete = all;
  first = λ k p is maker. filtered_only_at_zero t (maker_at tables o w) k p is;
  rising = λ a b p q less first second reader. absurd (omega (arith, less, filtered_only_at_zero t (maker_at tables o w) b q second));
}
  where
    all : (u j : ℕ) → NeedsOther r t i u j → HasPlace (others t (listed (maker_at tables o w))) u j
    all u j (inl maker, other) = other_maker_is_noted r tables t i o w u j coherent has (inl read) maker other
    all u j (inr reader, other) = absurd (read_is_no_write r t i o w reader.object reader.version reader.readers read reader.write)

-- a write entry needs the read entries of its version too
pub write_needs_are_both : (r : Recorded) (tables : Tables) (t i o w l : ℕ) → AreCoherent r → HasTables r tables → IsWriteAt r t i o w l
    → AreNeeds r t i (others t (listed (maker_at tables o w)) ++ others t (read_in tables.reads o w))
write_needs_are_both r tables t i o w l coherent has write = record { sound = sound; complete = all; first = first; rising = rising }
  where
    made : List Place
    made = others t (listed (maker_at tables o w))

    readers : List Place
    readers = others t (read_in tables.reads o w)

    reader_at : (k : ℕ) (p : Place) → slice_get readers k ≡ Some p → IsReadAt r p.thread p.event o w × (p.thread ≢ t)
    reader_at k p is =
        let own = filter_sound (is_other t) (read_in tables.reads o w) k p is in
        ((has.reads o w).sound own.1.0 p own.1.1, is_other_sound t p own.0)

    sound : (k : ℕ) (p : Place) → slice_get (made ++ readers) k ≡ Some p → NeedsOther r t i p.thread p.event
    sound k p is = elim (slice_get_append_cases made readers k p is) [
      | inl h ↦ let own = other_noted_is_maker r tables t i o w k p has (inr (l, write)) h in (inl own.0, own.1)
      | inr h ↦ let own = reader_at h.0 p h.2 in
          (inr (record { object = o; version = w; readers = l; write = write; read = own.0 }), own.1)
    ]

    same_write : (p v k : ℕ) → IsWriteAt r t i p v k → (o ≡ p) × (w ≡ v)
    same_write p v k is = entry_at_is_unique r t i o w p v (inr (l, write)) (inr (k, is))

    all : (u j : ℕ) → NeedsOther r t i u j → HasPlace (made ++ readers) u j
    all u j (inl maker, other) =
        let own = other_maker_is_noted r tables t i o w u j coherent has (inr (l, write)) maker other in
        record {
          number = own.number;
          place = own.place;
          there = slice_get_append_kept made readers own.number own.place own.there;
          thread = own.thread;
          event = own.event;
        }
    all u j (inr reader, other) =
        let same = same_write reader.object reader.version reader.readers reader.write in
        let read : IsReadAt r u j o w = subst (λ z. IsReadAt r u j z w) (sym same.0)
        (subst (λ z. IsReadAt r u j reader.object z) (sym same.1) reader.read) in
        let own = (has.reads o w).complete u j read in
        let kept = filter_complete (is_other t) (read_in tables.reads o w) own.number own.place own.there
        (is_other_complete t own.place (λ x. other (sym own.thread ∙ x))) in
        record {
          number = length made + kept.0;
          place = own.place;
          there = slice_get_append_right made readers kept.0 own.place kept.1;
          thread = own.thread;
          event = own.event;
        }

    first : (k : ℕ) (p : Place) → slice_get (made ++ readers) k ≡ Some p → IsMakerOf r t i p.thread p.event → k ≡ 0
    first k p is maker = elim (slice_get_append_cases made readers k p is) [
      | inl h ↦ filtered_only_at_zero t (maker_at tables o w) k p h
      | inr h ↦ absurd (read_is_no_write r p.thread p.event o w maker.object maker.version maker.readers (reader_at h.0 p h.2).0 maker.made)
    ]

    rising : (a b : ℕ) (p q : Place) → a < b → slice_get (made ++ readers) a ≡ Some p → slice_get (made ++ readers) b ≡ Some q
        → IsReaderFor r t i p.thread p.event → IsBefore p.thread p.event q.thread q.event
    rising a b p q less one two reader = elim (slice_get_append_cases made readers a p one) [
      | inl h ↦ let own = (other_noted_is_maker r tables t i o w a p has (inr (l, write)) h).0 in
          absurd (read_is_no_write r p.thread p.event reader.object reader.version own.object own.version own.readers reader.read own.made)
      | inr h ↦ elim (slice_get_append_cases made readers b q two) [
        | inl k ↦ absurd (omega (arith, less, filtered_only_at_zero t (maker_at tables o w) b q k))
        | inr k ↦ let kept = filter_keeps_order (is_other t) (read_in tables.reads o w) h.0 k.0 p q (omega (arith, less, h.1, k.1)) h.2 k.2 in
            (has.reads o w).rising kept.0 kept.1 p q kept.2 kept.3 kept.4
      ]
    ]

pub needs_in_are_needs : (r : Recorded) (tables : Tables) (t i : ℕ) (e : Event) → AreCoherent r → HasTables r tables → event_at r t i ≡ Some e
    → AreNeeds r t i (needs_in tables t e)
needs_in_are_needs r tables t i (variant.Answer k x) coherent has at = no_entry_needs_are_nil r t i (variant.Answer k x) at (λ o v e. cc) (λ o v l e. cc)
needs_in_are_needs r tables t i (variant.Read o v) coherent has at = read_needs_are_maker r tables t i o v coherent has at
needs_in_are_needs r tables t i (variant.Write o v l) coherent has at = write_needs_are_both r tables t i o v l coherent has at
needs_in_are_needs r tables t i (variant.Try o) coherent has at = no_entry_needs_are_nil r t i (variant.Try o) at (λ p v e. cc) (λ p v l e. cc)
