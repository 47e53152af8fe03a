-- The read entries that are noted, event by event.
use Rattle.std.proofs.Common.{◌≡◌, ℕ, ◌+◌, ◌≤◌, Bool, true, false, Some, Result, Ok, Err, OnOk, [], ◌∷◌, ◌++◌, length, vec_len, if◌then◌else◌, ◌==◌, ◌&&◌, refl, sym, ap, ◌∙◌, subst, eq-eqb}
use Rattle.std.proofs.lemmas.Bool.{eqb-true, and_parts}
use Rattle.ir_log.specs.declared.event.Event.{Event}
use Rattle.ir_log.specs.declared.event.Event.TheVariants as variant
use Rattle.ir_trace.specs.Recorded.{Recorded, recorded_thread}
use Rattle.ir_past.specs.Past.{event_at, IsReadAt, AreReaders}
use Rattle.ir_past.specs.Tables.{read_in}
use Rattle.ir_past.specs.Progress.{ReadBefore, HasReads}
use Rattle.ir_past.specs.declared.place.Place.{Place}
use Rattle.ir_past.specs.declared.reads.Reads.{Reads}
use Rattle.ir_past.proofs.Reading.{none_read_before_first, read_before_no_read, read_before_with_read, read_before_next_thread, read_to_end_readers}

-- ---- what is noted

pub has_reads_at_start : (r : Recorded) (m : Reads) → vec_len m.objects ≡ r.objects → ((o v : ℕ) → read_in m o v ≡ []) → HasReads r 0 0 m
has_reads_at_start r m objects none = record {
  objects = objects;
  each = λ o v. subst (ReadBefore r o v 0 0) (sym (none o v)) (none_read_before_first r o v);
}

-- an event that is no read entry
pub has_reads_other_event : (r : Recorded) (t n : ℕ) (m : Reads) (e : Event) → event_at r t n ≡ Some e → ((o v : ℕ) → e ≡ variant.Read o v → ⊥)
    → HasReads r t n m → HasReads r t (n + 1) m
has_reads_other_event r t n m e at ne h = record {
  objects = h.objects;
  each = λ o v. read_before_no_read r o v t n (read_in m o v) e at (ne o v) (h.each o v);
}

-- a read entry
has_reads_after_read : (r : Recorded) (t n o v : ℕ) (a b : Reads) (p : Place) → IsReadAt r t n o v → p.thread ≡ t → p.event ≡ n
    → vec_len b.objects ≡ vec_len a.objects
    → ((q w : ℕ) → read_in b q w ≡ (if (q == o) && (w == v) then read_in a o v ++ p ∷ [] else read_in a q w)) → HasReads r t n a
    → HasReads r t (n + 1) b
has_reads_after_read r t n o v a b p at thread event objects noted h = record {
  objects = objects ∙ h.objects;
  each = λ q w. by q w ((q == o) && (w == v)) refl;
}
  where
    here : ReadBefore r o v t (n + 1) (read_in a o v ++ p ∷ [])
    here = subst (λ z. ReadBefore r o v z (n + 1) (read_in a o v ++ p ∷ [])) thread
        (subst (λ z. ReadBefore r o v p.thread (z + 1) (read_in a o v ++ p ∷ [])) event
        (read_before_with_read r o v p (read_in a o v)
        (subst (λ z. IsReadAt r p.thread z o v) (sym event) (subst (λ z. IsReadAt r z n o v) (sym thread) at))
        (subst (λ z. ReadBefore r o v p.thread z (read_in a o v)) (sym event) (subst (λ z. ReadBefore r o v z n (read_in a o v)) (sym thread) (h.each o v)))))

    both : (q w : ℕ) → q ≡ o → w ≡ v → ((q == o) && (w == v)) ≡ true
    both q w object version = ap (λ (c : Bool). c && (w == v)) (eq-eqb q o object) ∙ eq-eqb w v version

    other : (q w : ℕ) → ((q == o) && (w == v)) ≡ false → variant.Read o v ≡ variant.Read q w → ⊥
    other q w e same =
        let object : o ≡ q = cc in
        let version : v ≡ w = cc in
        let bad : true ≡ false = sym (both q w (sym object) (sym version)) ∙ e in
        cc

    by : (q w : ℕ) (c : Bool) → ((q == o) && (w == v)) ≡ c → ReadBefore r q w t (n + 1) (read_in b q w)
    by q w true e =
        let parts = and_parts (q == o) (w == v) e in
        subst (ReadBefore r q w t (n + 1))
        (sym (noted q w ∙ ap (λ (c : Bool). if c then read_in a o v ++ p ∷ [] else read_in a q w) e))
        (subst (λ z. ReadBefore r z w t (n + 1) (read_in a o v ++ p ∷ [])) (sym (eqb-true q o parts.0))
        (subst (λ z. ReadBefore r o z t (n + 1) (read_in a o v ++ p ∷ [])) (sym (eqb-true w v parts.1)) here))
    by q w false e = subst (ReadBefore r q w t (n + 1))
        (sym (noted q w ∙ ap (λ (c : Bool). if c then read_in a o v ++ p ∷ [] else read_in a q w) e))
        (read_before_no_read r q w t n (read_in a q w) (variant.Read o v) at (other q w e) (h.each q w))

-- a read entry was noted, unless memory ran out
pub ok_read_has_reads : {A E : Type 0} (result : Result A E) (r : Recorded) (t n o v : ℕ) (a b : Reads) (p : Place) → IsReadAt r t n o v
    → p.thread ≡ t → p.event ≡ n → HasReads r t n a → OnOk result (vec_len b.objects ≡ vec_len a.objects)
    → OnOk result ((q w : ℕ) → read_in b q w ≡ (if (q == o) && (w == v) then read_in a o v ++ p ∷ [] else read_in a q w))
    → OnOk result (HasReads r t (n + 1) b)
ok_read_has_reads (Ok x) r t n o v a b p at thread event h objects noted = has_reads_after_read r t n o v a b p at thread event objects noted h
ok_read_has_reads (Err e) r t n o v a b p at thread event h objects noted = tt

-- all events of a thread
pub has_reads_next_thread : (r : Recorded) (t n : ℕ) (m : Reads) → length (recorded_thread r t).events ≤ n → HasReads r t n m → HasReads r (t + 1) 0 m
has_reads_next_thread r t n m all h = record {
  objects = h.objects;
  each = λ o v. read_before_next_thread r o v t n (read_in m o v) all (h.each o v);
}

-- all threads
pub reads_to_end_readers : (r : Recorded) (n : ℕ) (m : Reads) → length r.threads ≤ n → HasReads r n 0 m → (o v : ℕ) → AreReaders r o v (read_in m o v)
reads_to_end_readers r n m all h = λ o v. read_to_end_readers r o v n (read_in m o v) all (h.each o v)
