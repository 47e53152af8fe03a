-- The holds of the threads, and what is found of their versions, as they go on.
use Rattle.std.proofs.Common.{◌≡◌, ◌⊎◌, ◌+◌, ◌<◌, ◌≤◌, ℕ, Bool, true, false, List, [], ◌∷◌, length, set, length-set, get_or-set_same, get_or-set_other, refl, sym, ap, ◌∙◌, subst, arith, inl, inr}
use Rattle.std.specs.Prelude.{Option, Some, None, slice_get, option_to_list}
use Rattle.std.specs.List.{slice_index_or}
use Rattle.std.specs.List.Sorted.{IsNonDecreasingBy}
use Rattle.std.proofs.lemmas.Bool.{cases_eq, cases_lt}
use Rattle.std.proofs.lemmas.List.{get_or_default}
use Rattle.std.proofs.lemmas.Option.{slice_get_within, slice_get-get_or}
use Rattle.ir_trace.specs.Recorded.{recorded_thread}
use Rattle.ir_fit.specs.Fit.{FittedTrace, HasRun}
use Rattle.ir_weave.specs.Standing.{Standing, flat_in, positions}
use Rattle.ir_past.specs.declared.place.Place.{Place}
use Rattle.ir_events.specs.Walk.{IsFurther}
use Rattle.ir_opened.specs.Paired.{ArePaired}
use Rattle.ir_who.specs.declared.version.Version.{Version}
use Rattle.ir_event_walk.specs.Calls.{AreCalls}
use Rattle.ir_event_walk.specs.declared.exchange.Exchange.{Exchange}
use Rattle.ir_who_word.specs.Words.{puts_word, IsPutIn, IsWorded, unread}
use Rattle.ir_who_word.specs.Track.{IsHoldOf, IsWordTrack, IsTrackFound, IsTrackPending, IsLooked, IsBeforeStop, AddsWords, AreTracked}
use Rattle.ir_who_word.specs.declared.hold.Hold.{Hold}
use Rattle.ir_who_word.specs.declared.object_word.ObjectWord.{ObjectWord}
use Rattle.ir_who_word.specs.declared.track.Track.{Track}
use Rattle.ir_who_word.specs.declared.worded.Worded.{Worded}
use Rattle.ir_who_word.proofs.Puts.{put_in_empty_range, put_in_after_one_call}
use Rattle.ir_who_word.proofs.Noted.{worded_stays_worded, pending_or_worded_stays}

-- ---- how far it goes

before_next_hold_stop : (track : Track) (old k : ℕ) (h : Hold) → IsNonDecreasingBy (λ (z : Hold). z.leave) track.holds.items → track.next < length track.holds.items
    → h ≡ slice_index_or track.holds.items track.next h → k ≤ h.leave → (old < track.from → k ≤ track.from) → IsBeforeStop old k track
before_next_hold_stop track old k h sorted l here leave from = record {
  pending = λ i d past li.
      let up = sorted track.next i d past li in
      let same = ap (λ (z : Hold). z.leave) (here ∙ get_or_default track.holds.items track.next h d l) in
      omega (arith, up, same, leave);
  from = λ some. from;
}

-- the next stop, by the hold that is read out of a list of them
pub before_found_hold_stop : (track : Track) (hs : List Hold) (old k : ℕ) (h : Hold) → hs ≡ track.holds.items
    → IsNonDecreasingBy (λ (z : Hold). z.leave) track.holds.items → track.next < length hs → h ≡ slice_index_or hs track.next h → k ≤ h.leave
    → (old < track.from → k ≤ track.from) → IsBeforeStop old k track
before_found_hold_stop track hs old k h same sorted l here leave from =
    before_next_hold_stop track old k h sorted (subst (λ (xs : List Hold). track.next < length xs) same l)
    (here ∙ ap (λ (xs : List Hold). slice_index_or xs track.next h) same) leave from

-- ---- one thread goes on

-- the last step that put the word, after steps that are looked at or not
pub put_after_looked_at : (f : FittedTrace) (rows : List Version) (w : ObjectWord) (t k n stop : ℕ) (old new : Track) (keeps : Bool) (call : Option Exchange) → HasRun f
    → IsWordTrack f rows w t k old → IsBeforeStop k stop old → k + n ≤ stop → old.next < length old.holds.items
    → (keeps ≡ true → IsLooked k old) → (keeps ≡ false → IsLooked k old → ⊥) → (keeps ≡ true → AreCalls f t k n (option_to_list call))
    → (keeps ≡ false → call ≡ None) → ((c : Exchange) → call ≡ Some c → n ≡ 1)
    → ((c : Exchange) → call ≡ Some c → puts_word w c.asked ≡ true → new.put ≡ Some k)
    → (((c : Exchange) → call ≡ Some c → puts_word w c.asked ≡ false) → new.put ≡ old.put) → IsPutIn f w t old.from (k + n) new.put
put_after_looked_at f rows w t k n stop old new true call h is stops within some seen unseen calls kept one put none =
    put_in_after_one_call f w t old.from k n old.put new.put call h (calls refl) one put none (seen refl).1 (is.put some)
put_after_looked_at f rows w t k n stop old new false call h is stops within some seen unseen calls kept one put none =
    let early : k < old.from = elim (cases_lt k old.from) [
      | inl less ↦ less
      | inr past ↦ absurd (unseen refl (some, past))
    ] in
    subst (IsPutIn f w t old.from (k + n)) (sym (none (λ c e. absurd (none_some c (sym (kept refl) ∙ e)))))
    (put_in_empty_range f w t old.from k (k + n) old.put (omega (arith, early))
    (let a = stops.from some early in omega (arith, a, within)) (is.put some))
  where
    none_some : (c : Exchange) → None ≡ Some c → ⊥
    none_some c e = cc e

-- at most to the next stop
pub track_stays_to_next_stop : (f : FittedTrace) (rows : List Version) (w : ObjectWord) (t from k stop : ℕ) (old new : Track) → IsWordTrack f rows w t from old
    → IsBeforeStop from stop old → k ≤ stop → new.holds ≡ old.holds → new.next ≡ old.next → new.from ≡ old.from
    → (old.next < length old.holds.items → IsPutIn f w t old.from k new.put) → IsWordTrack f rows w t k new
track_stays_to_next_stop f rows w t from k stop old new is stops within holds next same put = record {
  sorted = subst (λ v. IsNonDecreasingBy (λ (h : Hold). h.leave) v.items) (sym holds) is.sorted;
  holds = subst (λ v. (i : ℕ) (d : Hold) → i < length v.items → IsHoldOf f rows w t (slice_index_or v.items i d)) (sym holds) is.holds;
  from = subst (λ v. (i : ℕ) (d : Hold) → i < length v.items → new.from ≤ (slice_index_or v.items i d).entry + 1) (sym holds)
      (λ i d l. let a = is.from i d l in omega (arith, a, same));
  pending = subst (λ v. (i : ℕ) (d : Hold) → new.next ≤ i → i < length v.items → k ≤ (slice_index_or v.items i d).leave) (sym holds)
      (λ i d past l. let a = stops.pending i d (omega (arith, past, next)) l in omega (arith, a, within));
  put = λ some. subst (λ j. IsPutIn f w t j k new.put) (sym same)
      (put (let n = ap (λ v. length v.items) holds in omega (arith, some, n, next)));
}

pub pending_if_holds_kept : (old new : Track) → new.holds ≡ old.holds → new.next ≡ old.next → (r : ℕ) → IsTrackPending old r → IsTrackPending new r
pending_if_holds_kept old new holds next r p = (
  p.0,
  (let a = p.1 in omega (arith, a, next)),
  (let a = p.2 in let m = ap (λ v. length v.items) holds in omega (arith, a, m)),
  λ d. ap (λ v. (slice_index_or v.items p.0 d).row) holds ∙ p.3 d,
)

-- ---- all threads, one of which has gone on

pub tracked_after_going_on : (f : FittedTrace) (rows : List Version) (w : ObjectWord) (t : ℕ) (old new : Standing) (ts : List Track) (track : Track) (a b : List Worded)
    → AreTracked f rows w old ts a → IsFurther f t old new → t < length ts → AddsWords f rows w a b
    → IsWordTrack f rows w t (positions (flat_in f new) t) track
    → ((d : Track) (r : ℕ) (x : Version) → slice_get rows r ≡ Some x → IsTrackPending (slice_index_or ts t d) r
    → IsTrackPending track r ⊎ IsWorded f w x (slice_index_or b r unread)) → AreTracked f rows w new (set ts t track) b
tracked_after_going_on f rows w t old new ts track a b are further l adds is more = record {
  each = λ u d lu. elim (cases_eq u t) [
    | inl same ↦ subst (λ j. IsWordTrack f rows w j (positions (flat_in f new) j) (slice_index_or (set ts t track) j d)
        × IsTrackFound f rows w b j (slice_index_or (set ts t track) j d)) (sym same)
        (subst (λ z. IsWordTrack f rows w t (positions (flat_in f new) t) z × IsTrackFound f rows w b t z) (sym (get_or-set_same ts t track d l)) (
          is,
          λ r x p there made own. pending_or_worded_stays f rows w (slice_index_or ts t d) track a b r x adds there (more d r x there)
              ((are.each t d l).1 r x p there made own),
        ))
    | inr ne ↦
        let before = are.each u d (let n = length-set ts t track in omega (arith, n, lu)) in
        subst (λ z. IsWordTrack f rows w u (positions (flat_in f new) u) z × IsTrackFound f rows w b u z) (sym (get_or-set_other ts t u track d ne)) (
          subst (λ k. IsWordTrack f rows w u k (slice_index_or ts u d)) (sym (further.others u ne)) before.0,
          λ r x p there made own. pending_or_worded_stays f rows w (slice_index_or ts u d) (slice_index_or ts u d) a b r x adds there (λ z. inl z)
              (before.1 r x p there made own),
        )
  ];
  first = λ r x there made. worded_stays_worded f rows w a b r x adds there (are.first r x there made);
}

-- ---- at the ends of the threads

-- no hold comes
pub no_hold_pending_at_end : (f : FittedTrace) (rows : List Version) (w : ObjectWord) (t k : ℕ) (track : Track) (r : ℕ) → IsWordTrack f rows w t k track
    → (recorded_thread f.recorded t).steps ≤ k → IsTrackPending track r → ⊥
no_hold_pending_at_end f rows w t k track r is all p =
    let any : Hold = record { row = 0; entry = 0; leave = 0 } in
    let o = is.holds p.0 any p.2 in
    let a = is.pending p.0 any p.1 p.2 in
    let b = o.hold.within in
    let c = ap (λ u. (recorded_thread f.recorded u).steps) o.thread in
    omega (arith, a, b, c, all)

place_is_none_or_some : (m : Option Place) → (m ≡ None) ⊎ ((p : Place) × (m ≡ Some p))
place_is_none_or_some None = inl refl
place_is_none_or_some (Some p) = inr (p, refl)

slice_index_or_is_found : (words : List Worded) (r : ℕ) (d : Worded) → slice_get words r ≡ Some d → slice_index_or words r unread ≡ d
slice_index_or_is_found words r d there = cc (sym (slice_get-get_or words r unread (slice_get_within words r d there)) ∙ there)

-- an element of a list that has some
track_at : (ts : List Track) (t : ℕ) → t < length ts → Track
track_at [] t l = absurd (omega (arith, l))
track_at (x ∷ ts) t l = x

-- so each version is found
pub all_versions_worded : (f : FittedTrace) (rows : List Version) (w : ObjectWord) (s : Standing) (ts : List Track) (words : List Worded) → AreTracked f rows w s ts words
    → length words ≡ length rows → ((r : ℕ) (x : Version) (p : Place) → slice_get rows r ≡ Some x → x.made_by ≡ Some p → p.thread < length ts)
    → ((t : ℕ) → t < length ts → (recorded_thread f.recorded t).steps ≤ positions (flat_in f s) t) → ArePaired (IsWorded f w) rows words
all_versions_worded f rows w s ts words are size within all = record {
  size = size;
  each = λ r x d there here. subst (IsWorded f w x) (slice_index_or_is_found words r d here) (elim (place_is_none_or_some x.made_by) [
    | inl first ↦ are.first r x there first
    | inr made ↦
        let t : ℕ = made.0.thread in
        let l = within r x made.0 there made.1 in
        let any : Track = track_at ts t l in
        let track : Track = slice_index_or ts t any in
        elim ((are.each t any l).1 r x made.0 there made.1 refl) [
          | inr found ↦ found
          | inl pending ↦ absurd (no_hold_pending_at_end f rows w t (positions (flat_in f s) t) track r (are.each t any l).0 (all t l) pending)
        ]
  ]);
}
