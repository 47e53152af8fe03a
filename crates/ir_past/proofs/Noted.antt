-- The write entries that are noted, event by event.
use Rattle.std.proofs.Common.{◌≡◌, ℕ, suc, zero, ◌+◌, ◌<◌, ◌≤◌, inl, inr, Bool, true, false, Some, None, Result, Ok, Err, OnOk, length}
use Rattle.std.proofs.Common.{vec_len, if◌then◌else◌, ◌==◌, ◌&&◌, refl, sym, ap, ◌∙◌, subst, arith, eq-eqb}
use Rattle.std.proofs.lemmas.Bool.{cases_eq, eqb-true, and_parts}
use Rattle.std.proofs.lemmas.Option.{same_Some, none-some, slice_get_within}
use Rattle.ir_runs.specs.Machine.{Answer, EnteredAt, FailedTry}
use Rattle.ir_runs.specs.declared.access.Access.{Access}
use Rattle.ir_runs.specs.declared.access.Access.TheVariants.{Reading, Writing}
use Rattle.ir_runs.specs.Coherent.{IsCoherent}
use Rattle.ir_runs.specs.Run.{At}
use Rattle.ir_log.specs.Logging.{label_of}
use Rattle.ir_log.specs.declared.event.Event.{Event}
use Rattle.ir_log.specs.declared.event.Event.TheVariants as variant
use Rattle.ir_trace.specs.Recorded.{Recorded, recorded_thread, trace_of}
use Rattle.ir_coherence.specs.Before.{IsBefore}
use Rattle.ir_past.specs.Past.{event_at, IsWriteAt, IsStale}
use Rattle.ir_past.specs.Tables.{maker_in}
use Rattle.ir_past.specs.Answers.{AreCoherent}
use Rattle.ir_past.specs.Progress.{Makes}
use Rattle.ir_past.specs.declared.place.Place.{Place}
use Rattle.ir_past.specs.declared.makers.Makers.{Makers}
use Rattle.ir_past.proofs.Rows.{before_next_event_cases, event_thread_exists}
use Rattle.ir_coherence.proofs.CallerLemmas.{at_of_mapped_label, event_of_label_at}

-- ---- logs of events and of labels

pub write_label_write_event : (e : Event) (o v l : ℕ) → label_of e ≡ EnteredAt o Writing v l → e ≡ variant.Write o v l
write_label_write_event (variant.Answer k x) o v l is = absurd (let bad : Answer k x ≡ EnteredAt o Writing v l = is in cc)
write_label_write_event (variant.Read p w) o v l is = absurd (let bad : EnteredAt p Reading w 0 ≡ EnteredAt o Writing v l = is in let same : Reading ≡ Writing = cc in cc)
write_label_write_event (variant.Write p w k) o v l is =
    let same : EnteredAt p Writing w k ≡ EnteredAt o Writing v l = is in
    let object : p ≡ o = cc in
    let version : w ≡ v = cc in
    let readers : k ≡ l = cc in
    λ i. variant.Write (object i) (version i) (readers i)
write_label_write_event (variant.Try p) o v l is = absurd (let bad : FailedTry p ≡ EnteredAt o Writing v l = is in cc)

write_label_is_write : (r : Recorded) (t i o v l : ℕ) → At ((trace_of r).logs t) i (EnteredAt o Writing v l) → IsWriteAt r t i o v l
write_label_is_write r t i o v l at =
    let e = event_of_label_at (recorded_thread r t).events i (EnteredAt o Writing v l) at in
    e.1 ∙ ap Some (write_label_write_event e.0 o v l e.2)

-- what made a version that is entered
pub entered_was_made : (r : Recorded) → IsCoherent (length r.threads) (trace_of r) → (t i o v : ℕ) (a : Access) (l : ℕ)
    → At ((trace_of r).logs t) i (EnteredAt o a (suc v) l) → (u j k : ℕ) × IsWriteAt r u j o v k
entered_was_made r coherent t i o v a l at =
    let made = coherent.made t i o v l a at in
    (made.0, made.1, made.2, write_label_is_write r made.0 made.1 o v made.2 made.3)

-- ---- the versions below a write entry's are made

pub below_write_was_made : (r : Recorded) → IsCoherent (length r.threads) (trace_of r) → (w v t j o l : ℕ) → v < w → IsWriteAt r t j o w l
    → (u k m : ℕ) × IsWriteAt r u k o v m
below_write_was_made r coherent zero v t j o l less is = absurd (omega (arith, less))
below_write_was_made r coherent (suc w) v t j o l less is =
    let made = entered_was_made r coherent t j o w Writing l (at_of_mapped_label (recorded_thread r t).events j (variant.Write o (suc w) l) is) in
    let here : IsWriteAt r made.0 made.1 o w made.2 = made.3 in
    elim (cases_eq v w) [
      | inl same ↦ (made.0, made.1, made.2, subst (λ z. IsWriteAt r made.0 made.1 o z made.2) (sym same) here)
      | inr ne ↦ below_write_was_made r coherent w v made.0 made.1 o made.2 (omega (arith, less, ne)) here
    ]

-- ---- what is noted

pub makes_at_start : (r : Recorded) (m : Makers) → vec_len m.objects ≡ r.objects → ((o v : ℕ) → maker_in m o v ≡ None) → Makes r 0 0 m
makes_at_start r m objects none = record {
  objects = objects;
  sound = λ o v p is. absurd (none-some p (sym (none o v) ∙ is));
  noted = λ u j o v l at b is. none_before u j b;
}
  where
    none_before : (u j : ℕ) → IsBefore u j 0 0 → ⊥
    none_before u j (inl less) = omega (arith, less)
    none_before u j (inr here) = omega (arith, here.1)

-- an event that is no write entry
pub makes_after_other_event : (r : Recorded) (t n : ℕ) (m : Makers) (e : Event) → event_at r t n ≡ Some e → ((o v l : ℕ) → e ≡ variant.Write o v l → ⊥)
    → Makes r t n m → Makes r t (n + 1) m
makes_after_other_event r t n m e at ne h = record {
  objects = h.objects;
  sound = h.sound;
  noted = λ u j o v l is b none. elim (before_next_event_cases u j t n b) [
    | inl less ↦ h.noted u j o v l is less none
    | inr here ↦ ne o v l (same_Some e (variant.Write o v l) (sym at
        ∙ subst (λ z. event_at r z n ≡ Some (variant.Write o v l)) here.0 (subst (λ z. event_at r u z ≡ Some (variant.Write o v l)) here.1 is)))
  ];
}

-- a write entry
pub makes_after_write : (r : Recorded) (t n o v l : ℕ) (a b : Makers) (p : Place) → IsWriteAt r t n o v l → p.thread ≡ t → p.event ≡ n
    → vec_len b.objects ≡ vec_len a.objects
    → ((q w : ℕ) → maker_in b q w ≡ (if (q == o) && (w == v) then Some p else maker_in a q w)) → Makes r t n a → Makes r t (n + 1) b
makes_after_write r t n o v l a b p at thread event objects noted h = record {
  objects = objects ∙ h.objects;
  sound = λ q w x is. sound_by q w x ((q == o) && (w == v)) refl is;
  noted = λ u j q w k is before none. elim (before_next_event_cases u j t n before) [
    | inl less ↦ old q w ((q == o) && (w == v)) refl none (h.noted u j q w k is less)
    | inr here ↦ new q w (here_object u j q w k is here.0 here.1) (here_version u j q w k is here.0 here.1) none
  ];
}
  where
    sound_by : (q w : ℕ) (x : Place) (c : Bool) → ((q == o) && (w == v)) ≡ c → maker_in b q w ≡ Some x
        → (k : ℕ) × IsWriteAt r x.thread x.event q w k
    sound_by q w x true e is =
        let parts = and_parts (q == o) (w == v) e in
        let object : q ≡ o = eqb-true q o parts.0 in
        let version : w ≡ v = eqb-true w v parts.1 in
        let same : p ≡ x = same_Some p x (sym (noted q w ∙ ap (λ (c : Bool). if c then Some p else maker_in a q w) e) ∙ is) in (
          l,
          subst (λ (y : Place). IsWriteAt r y.thread y.event q w l) same
              (subst (λ z. IsWriteAt r p.thread z q w l) (sym event) (subst (λ z. IsWriteAt r z n q w l) (sym thread)
              (subst (λ z. IsWriteAt r t n z w l) (sym object) (subst (λ z. IsWriteAt r t n o z l) (sym version) at)))),
        )
    sound_by q w x false e is = h.sound q w x (sym (noted q w ∙ ap (λ (c : Bool). if c then Some p else maker_in a q w) e) ∙ is)

    old : (q w : ℕ) (c : Bool) → ((q == o) && (w == v)) ≡ c → maker_in b q w ≡ None → (maker_in a q w ≡ None → ⊥) → ⊥
    old q w true e none was =
        none-some p (sym none ∙ (noted q w ∙ ap (λ (c : Bool). if c then Some p else maker_in a q w) e))
    old q w false e none was = was (sym (noted q w ∙ ap (λ (c : Bool). if c then Some p else maker_in a q w) e) ∙ none)

    same_write : (u j q w k : ℕ) → IsWriteAt r u j q w k → u ≡ t → j ≡ n → variant.Write q w k ≡ variant.Write o v l
    same_write u j q w k is x y = same_Some (variant.Write q w k) (variant.Write o v l)
        (sym (subst (λ z. event_at r z n ≡ Some (variant.Write q w k)) x (subst (λ z. event_at r u z ≡ Some (variant.Write q w k)) y is)) ∙ at)

    here_object : (u j q w k : ℕ) → IsWriteAt r u j q w k → u ≡ t → j ≡ n → q ≡ o
    here_object u j q w k is x y = let same : variant.Write q w k ≡ variant.Write o v l = same_write u j q w k is x y in cc

    here_version : (u j q w k : ℕ) → IsWriteAt r u j q w k → u ≡ t → j ≡ n → w ≡ v
    here_version u j q w k is x y = let same : variant.Write q w k ≡ variant.Write o v l = same_write u j q w k is x y in cc

    both : (q w : ℕ) → q ≡ o → w ≡ v → ((q == o) && (w == v)) ≡ true
    both q w object version = ap (λ (c : Bool). c && (w == v)) (eq-eqb q o object) ∙ eq-eqb w v version

    new : (q w : ℕ) → q ≡ o → w ≡ v → maker_in b q w ≡ None → ⊥
    new q w object version none = none-some p (sym none ∙ (noted q w ∙ ap (λ (c : Bool). if c then Some p else maker_in a q w) (both q w object version)))

-- all events of a thread
pub makes_next_thread : (r : Recorded) (t n : ℕ) (m : Makers) → length (recorded_thread r t).events ≤ n → Makes r t n m → Makes r (t + 1) 0 m
makes_next_thread r t n m all h = record {
  objects = h.objects;
  sound = h.sound;
  noted = λ u j o v l is b none. elim (cases_eq u t) [
    | inl here ↦ h.noted u j o v l is (inr (here, within u j o v l here is)) none
    | inr ne ↦ h.noted u j o v l is (inl (below u j ne b)) none
  ];
}
  where
    within : (u j o v l : ℕ) → u ≡ t → IsWriteAt r u j o v l → j < n
    within u j o v l here is =
        omega (arith, slice_get_within (recorded_thread r u).events j _ is, ap (λ z. length (recorded_thread r z).events) here, all)

    below : (u j : ℕ) → (u ≡ t → ⊥) → IsBefore u j (t + 1) 0 → u < t
    below u j ne (inl less) = omega (arith, less, ne)
    below u j ne (inr here) = absurd (omega (arith, here.1))

-- what a stale write's read was written over by is noted
pub stale_has_overwriter : (r : Recorded) (m : Makers) (n t i j o v w : ℕ) → IsCoherent (length r.threads) (trace_of r) → length r.threads ≤ n
    → Makes r n 0 m → IsStale r t i j o v w → maker_in m o v ≡ None → ⊥
stale_has_overwriter r m n t i j o v w coherent all h s none =
    let made = below_write_was_made r coherent w v t j o s.readers s.over s.write in
    h.noted made.0 made.1 o v made.2 made.3 (inl (omega (arith, event_thread_exists r made.0 made.1 _ made.3, all))) none

-- a write entry was noted, unless memory ran out
pub makes_on_ok_after_write : {A E : Type 0} (result : Result A E) (r : Recorded) (t n o v l : ℕ) (a b : Makers) (p : Place) → IsWriteAt r t n o v l
    → p.thread ≡ t → p.event ≡ n → Makes r t n a → OnOk result (vec_len b.objects ≡ vec_len a.objects)
    → OnOk result ((q w : ℕ) → maker_in b q w ≡ (if (q == o) && (w == v) then Some p else maker_in a q w))
    → OnOk result (Makes r t (n + 1) b)
makes_on_ok_after_write (Ok x) r t n o v l a b p at thread event h objects noted = makes_after_write r t n o v l a b p at thread event objects noted h
makes_on_ok_after_write (Err e) r t n o v l a b p at thread event h objects noted = tt

pub makes_of_equal_thread : (r : Recorded) (t n : ℕ) (m : Makers) → t ≡ n → Makes r t 0 m → Makes r n 0 m
makes_of_equal_thread r t n m same h = subst (λ z. Makes r z 0 m) same h

-- at most one write entry of an object is at a version
pub version_writer_unique : (r : Recorded) → AreCoherent r → (t i u j o v l k : ℕ) → IsWriteAt r t i o v l → IsWriteAt r u j o v k
    → (t ≡ u) × (i ≡ j)
version_writer_unique r coherent t i u j o v l k one two = coherent.writer t i u j o v l k
    (at_of_mapped_label (recorded_thread r t).events i (variant.Write o v l) one) (at_of_mapped_label (recorded_thread r u).events j (variant.Write o v k) two)

-- the write entry that is noted is the only one
pub noted_writer_is_unique : (r : Recorded) (m : Makers) (n o w u j l : ℕ) (p : Place) → AreCoherent r → Makes r n 0 m → maker_in m o w ≡ Some p
    → IsWriteAt r u j o w l → (u ≡ p.thread) × (j ≡ p.event)
noted_writer_is_unique r m n o w u j l p coherent makes noted write =
    let there = makes.sound o w p noted in
    version_writer_unique r coherent u j p.thread p.event o w l there.0 write there.1
