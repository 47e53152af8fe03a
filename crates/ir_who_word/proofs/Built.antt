-- The holds of each thread, before the first step.
use Rattle.std.proofs.Common.{◌≡◌, ◌+◌, ◌<◌, ◌≤◌, ℕ, List, [], ◌∷◌, ◌++◌, length, length-append, set, length-set, get_or-set_same, get_or-set_other, sym, ap, ◌∙◌, subst, arith, inl, inr}
use Rattle.std.specs.Prelude.{Some, None, slice_get}
use Rattle.std.specs.List.{slice_index_or}
use Rattle.std.specs.List.Sorted.{IsNonDecreasingBy}
use Rattle.std.proofs.lemmas.Bool.{cases_lt, cases_eq}
use Rattle.std.proofs.lemmas.Option.{slice_get_within}
use Rattle.std.proofs.Math.ListN.{get_or-append}
use Rattle.std.proofs.Math.Seq.{get_or-append_seam}
use Rattle.ir_fit.specs.Fit.{FittedTrace}
use Rattle.ir_past.specs.declared.place.Place.{Place}
use Rattle.ir_who.specs.declared.version.Version.{Version}
use Rattle.ir_event_walk.proofs.CallerLemmas.{each_element_after_push, permuted_all_satisfy, permuted_element_exists}
use Rattle.ir_who_word.specs.Words.{IsPutIn}
use Rattle.ir_who_word.specs.Track.{IsHold, IsHoldOf, IsWordTrack, IsTrackFound, IsAdded, IsBuiltTrack, AreTracksBuilt, IsTrackSorted, AreTracksSorted}
use Rattle.ir_who_word.specs.declared.hold.Hold.{Hold}
use Rattle.ir_who_word.specs.declared.object_word.ObjectWord.{ObjectWord}
use Rattle.ir_who_word.specs.declared.track.Track.{Track}
use Rattle.ir_who_word.specs.declared.worded.Worded.{Worded}

pub some_version_injective : (x y : Version) → Some x ≡ Some y → x ≡ y
some_version_injective x y e = cc e

-- no version of all
pub built_of_no_version : (f : FittedTrace) (rows : List Version) (w : ObjectWord) (t : ℕ) (track : Track) → track.next ≡ 0 → track.put ≡ None → track.holds.items ≡ []
    → IsBuiltTrack f rows w 0 t track
built_of_no_version f rows w t track next put holds = record {
  next = next;
  put = put;
  holds = λ i d l. absurd (let n = ap (λ (xs : List Hold). length xs) holds in omega (arith, l, n));
  from = λ i d l. absurd (let n = ap (λ (xs : List Hold). length xs) holds in omega (arith, l, n));
  covered = λ r x p l. absurd (omega (arith, l));
}

-- one version more, which thread t didn't make
pub version_of_other_built : (f : FittedTrace) (rows : List Version) (w : ObjectWord) (n t : ℕ) (track : Track) (x : Version) → IsBuiltTrack f rows w n t track
    → slice_get rows n ≡ Some x → ((p : Place) → x.made_by ≡ Some p → p.thread ≡ t → ⊥) → IsBuiltTrack f rows w (n + 1) t track
version_of_other_built f rows w n t track x is there none = record {
  next = is.next;
  put = is.put;
  holds = is.holds;
  from = is.from;
  covered = λ r y p l here made own. elim (cases_eq r n) [
    | inl same ↦
        let e : x ≡ y = some_version_injective x y (sym there ∙ ap (slice_get rows) (sym same) ∙ here) in
        absurd (none p (ap (λ (z : Version). z.made_by) e ∙ made) own)
    | inr ne ↦ is.covered r y p (omega (arith, l, ne)) here made own
  ];
}

-- or which it made by this hold
pub built_after_own_version : (f : FittedTrace) (rows : List Version) (w : ObjectWord) (n t : ℕ) (track new : Track) (x : Version) (p : Place) (h : Hold)
    → IsBuiltTrack f rows w n t track → slice_get rows n ≡ Some x → x.made_by ≡ Some p → p.thread ≡ t → h.row ≡ n → IsHold f w.object p h
    → IsAdded track h new → IsBuiltTrack f rows w (n + 1) t new
built_after_own_version f rows w n t track new x p h is there made own row hold added = record {
  next = added.next ∙ is.next;
  put = added.put ∙ is.put;
  holds = each_element_after_push (IsHoldOf f rows w t) track.holds.items new.holds.items h is.holds (record {
    row = x;
    there = ap (slice_get rows) row ∙ there;
    place = p;
    made = made;
    thread = own;
    hold = hold;
  }) added.holds;
  from = each_element_after_push (λ (z : Hold). new.from ≤ z.entry + 1) track.holds.items new.holds.items h
      (λ i d l. let a = is.from i d l in let b = added.from in omega (arith, a, b)) added.entry added.holds;
  covered = λ r y q l here by of. elim (cases_eq r n) [
    | inl same ↦ (
      length track.holds.items,
      (let a = is.next in let b = added.next in omega (arith, a, b)),
      (let a = ap (λ (xs : List Hold). length xs) added.holds in let b = length-append track.holds.items (h ∷ []) in omega (arith, a, b)),
      λ d. ap (λ (xs : List Hold). (slice_index_or xs (length track.holds.items) d).row) added.holds
          ∙ ap (λ (z : Hold). z.row) (get_or-append_seam track.holds.items h [] d) ∙ row ∙ sym same,
    )
    | inr ne ↦
        let o = is.covered r y q (omega (arith, l, ne)) here by of in (
          o.0,
          (let a = is.next in let b = added.next in omega (arith, a, b)),
          (let c = o.2 in let a = ap (λ (xs : List Hold). length xs) added.holds in let b = length-append track.holds.items (h ∷ []) in omega (arith, a, b, c)),
          λ d. ap (λ (xs : List Hold). (slice_index_or xs o.0 d).row) added.holds
              ∙ ap (λ (z : Hold). z.row) (get_or-append track.holds.items (h ∷ []) d o.0 o.2) ∙ o.3 d,
        )
  ];
}

-- each thread, where one of them is another
pub all_built_track_set : (f : FittedTrace) (rows : List Version) (w : ObjectWord) (n u : ℕ) (ts : List Track) (new : Track) (x : Version) (p : Place) → u < length ts
    → AreTracksBuilt f rows w n ts → slice_get rows n ≡ Some x → x.made_by ≡ Some p → p.thread ≡ u → IsBuiltTrack f rows w (n + 1) u new
    → AreTracksBuilt f rows w (n + 1) (set ts u new)
all_built_track_set f rows w n u ts new x p l are there made own is t d lt = elim (cases_eq t u) [
  | inl same ↦ subst (λ j. IsBuiltTrack f rows w (n + 1) j (slice_index_or (set ts u new) j d)) (sym same)
      (subst (IsBuiltTrack f rows w (n + 1) u) (sym (get_or-set_same ts u new d l)) is)
  | inr ne ↦ subst (IsBuiltTrack f rows w (n + 1) t) (sym (get_or-set_other ts u t new d ne))
      (version_of_other_built f rows w n t (slice_index_or ts t d) x (are t d (let m = length-set ts u new in omega (arith, lt, m))) there
      (λ q by e. ne (sym e ∙ ap (λ (z : Place). z.thread) (same_place q p (sym by ∙ made)) ∙ own)))
]
  where
    same_place : (a b : Place) → Some a ≡ Some b → a ≡ b
    same_place a b e = cc e

-- none of them made it
pub all_built_unmade : (f : FittedTrace) (rows : List Version) (w : ObjectWord) (n : ℕ) (ts : List Track) (x : Version) → AreTracksBuilt f rows w n ts
    → slice_get rows n ≡ Some x → ((p : Place) → x.made_by ≡ Some p → ⊥) → AreTracksBuilt f rows w (n + 1) ts
all_built_unmade f rows w n ts x are there none t d l =
    version_of_other_built f rows w n t (slice_index_or ts t d) x (are t d l) there (λ p made own. none p made)

-- ---- before the first step

-- the holds of a thread in another order
pub built_after_sorting : (f : FittedTrace) (rows : List Version) (w : ObjectWord) (n t : ℕ) (old new : Track) → IsBuiltTrack f rows w n t old → IsTrackSorted old new
    → IsBuiltTrack f rows w n t new
built_after_sorting f rows w n t old new is sorted = record {
  next = sorted.next ∙ is.next;
  put = sorted.put ∙ is.put;
  holds = permuted_all_satisfy (IsHoldOf f rows w t) old.holds.items new.holds.items sorted.same is.holds;
  from = permuted_all_satisfy (λ (z : Hold). new.from ≤ z.entry + 1) old.holds.items new.holds.items sorted.same
      (λ i d l. let a = is.from i d l in let b = sorted.from in omega (arith, a, b));
  covered = λ r x p l there made own.
      let o = is.covered r x p l there made own in
      let none : Hold = record { row = 0; entry = 0; leave = 0 } in
      let q = permuted_element_exists (λ (h : Hold). h.row) none old.holds.items new.holds.items sorted.same r o.0 o.2 o.3 in
      (q.0, (let a = sorted.next in let b = is.next in omega (arith, a, b)), q.1, q.2);
}

pub track_at_start_if_built : (f : FittedTrace) (rows : List Version) (w : ObjectWord) (t k : ℕ) (track : Track) → IsBuiltTrack f rows w (length rows) t track
    → IsNonDecreasingBy (λ (h : Hold). h.leave) track.holds.items → k ≤ 0 → IsWordTrack f rows w t k track
track_at_start_if_built f rows w t k track is sorted first = record {
  sorted = sorted;
  holds = is.holds;
  from = is.from;
  pending = λ i d past l. omega (arith, first);
  put = λ some. subst (IsPutIn f w t track.from k) (sym is.put) (λ j past before. absurd (omega (arith, before, first)));
}

pub built_versions_are_found : (f : FittedTrace) (rows : List Version) (w : ObjectWord) (words : List Worded) (t : ℕ) (track : Track)
    → IsBuiltTrack f rows w (length rows) t track → IsTrackFound f rows w words t track
built_versions_are_found f rows w words t track is r x p there made own = inl (is.covered r x p (slice_get_within rows r x there) there made own)

-- ---- each thread without holds

pub all_built_of_no_track : (f : FittedTrace) (rows : List Version) (w : ObjectWord) (ts : List Track) → ts ≡ [] → AreTracksBuilt f rows w 0 ts
all_built_of_no_track f rows w ts none t d l = absurd (let n = ap (λ (xs : List Track). length xs) none in omega (arith, l, n))

pub all_built_track_added : (f : FittedTrace) (rows : List Version) (w : ObjectWord) (ts new : List Track) (track : Track) → AreTracksBuilt f rows w 0 ts → new ≡ ts ++ track ∷ []
    → track.next ≡ 0 → track.put ≡ None → track.holds.items ≡ [] → AreTracksBuilt f rows w 0 new
all_built_track_added f rows w ts new track are e next put holds t d l = subst (λ (xs : List Track). IsBuiltTrack f rows w 0 t (slice_index_or xs t d)) (sym e) (elim (cases_lt t (length ts)) [
  | inl before ↦ subst (IsBuiltTrack f rows w 0 t) (sym (get_or-append ts (track ∷ []) d t before)) (are t d before)
  | inr past ↦
      let size : length new ≡ length ts + 1 = ap (λ (xs : List Track). length xs) e ∙ length-append ts (track ∷ []) in
      let at : t ≡ length ts = omega (arith, past, l, size) in
      subst (λ j. IsBuiltTrack f rows w 0 t (slice_index_or (ts ++ track ∷ []) j d)) (sym at)
      (subst (IsBuiltTrack f rows w 0 t) (sym (get_or-append_seam ts track [] d)) (built_of_no_version f rows w t track next put holds))
])

-- in order
pub all_built_after_sorting : (f : FittedTrace) (rows : List Version) (w : ObjectWord) (n : ℕ) (old new : List Track) → AreTracksBuilt f rows w n old → AreTracksSorted old new
    → length new ≡ length old → AreTracksBuilt f rows w n new
all_built_after_sorting f rows w n old new are sorted size t d l =
    let lt : t < length old = omega (arith, l, size) in
    built_after_sorting f rows w n t (slice_index_or old t d) (slice_index_or new t d) (are t d lt) (sorted t d lt)
