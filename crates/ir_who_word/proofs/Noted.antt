-- The word of a version that a thread is about to leave.
use Rattle.std.proofs.Common.{◌≡◌, ◌≢◌, ◌⊎◌, ◌+◌, ◌<◌, ℕ, List, length, set, length-set, get_or-set_same, get_or-set_other, refl, sym, ap, ◌∙◌, subst, arith, inl, inr}
use Rattle.std.specs.Prelude.{Option, Some, slice_get, slice_index}
use Rattle.std.specs.List.{slice_index_or}
use Rattle.std.proofs.lemmas.Bool.{cases_eq}
use Rattle.std.proofs.lemmas.Option.{slice_get_within}
use Rattle.ir_runs.specs.declared.access.Access.TheVariants.{Writing}
use Rattle.ir_object.specs.Empty.{empty}
use Rattle.ir_fit.specs.Fit.{FittedTrace}
use Rattle.ir_weave.specs.Standing.{Standing, StandsAtCut, flat_in, positions}
use Rattle.ir_past.specs.declared.place.Place.{Place}
use Rattle.ir_who.specs.declared.version.Version.{Version}
use Rattle.ir_event_walk.proofs.CallerLemmas.{object_held_before_leave, held_words_at_standing}
use Rattle.ir_who_word.specs.Words.{IsPutIn, IsWordOf, IsWordLeft, IsWorded, unread}
use Rattle.ir_who_word.specs.Track.{IsHoldOf, IsWordTrack, IsTrackPending, NoTrackDue, AddsWords}
use Rattle.ir_who_word.specs.declared.hold.Hold.{Hold}
use Rattle.ir_who_word.specs.declared.object_word.ObjectWord.{ObjectWord}
use Rattle.ir_who_word.specs.declared.track.Track.{Track}
use Rattle.ir_who_word.specs.declared.worded.Worded.{Worded}
use Rattle.ir_who_word.proofs.Built.{some_version_injective}

-- of the version that the hold makes
pub left_hold_is_worded : (f : FittedTrace) (rows : List Version) (w : ObjectWord) (s : Standing) (t : ℕ) (h : Hold) (d : Worded)
    → StandsAtCut f (positions (flat_in f s)) s → IsHoldOf f rows w t h → h.leave ≡ positions (flat_in f s) t
    → d.word ≡ slice_index (slice_index_or s.objects w.object empty).words w.index → IsPutIn f w t (h.entry + 1) h.leave d.step
    → (x : Version) → slice_get rows h.row ≡ Some x → d.made_by ≡ x.made_by → IsWorded f w x d
left_hold_is_worded f rows w s t h d stands of here word put x there made = record {
  made = made;
  word = subst (λ (m : Option Place). IsWordOf f w m d.word d.step) (sym by) left;
}
  where
    p : Place
    p = of.place

    by : x.made_by ≡ Some p
    by = ap (λ (z : Version). z.made_by) (some_version_injective x of.row (sym there ∙ of.there)) ∙ of.made

    left : IsWordLeft f w p d.word d.step
    left = record {
      last = h.leave;
      leave = of.hold.leave;
      words = (slice_index_or s.objects w.object empty).words;
      there = held_words_at_standing f s p.thread h.leave w.object (slice_index_or s.objects w.object empty).words stands
          (ap (positions (flat_in f s)) of.thread ∙ sym here)
          (λ run whole. object_held_before_leave f run whole p.thread h.leave w.object Writing of.hold.version (of.hold.emits run whole)) refl;
      word = word;
      step = subst (λ (z : ℕ × ℕ). IsPutIn f w z.0 (z.1 + 1) h.leave d.step) (λ i. (sym of.thread i, of.hold.entry i)) put;
    }

pub adds_words_reflexive : (f : FittedTrace) (rows : List Version) (w : ObjectWord) (words : List Worded) → AddsWords f rows w words words
adds_words_reflexive f rows w words = record { size = refl; each = λ r x there. inl refl }

pub adds_words_transitive : (f : FittedTrace) (rows : List Version) (w : ObjectWord) (a b c : List Worded) → AddsWords f rows w a b → AddsWords f rows w b c
    → AddsWords f rows w a c
adds_words_transitive f rows w a b c first more = record {
  size = more.size ∙ first.size;
  each = λ r x there. elim (more.each r x there) [
    | inr found ↦ inr found
    | inl same ↦ elim (first.each r x there) [
      | inl before ↦ inl (same ∙ before)
      | inr found ↦ inr (subst (IsWorded f w x) (sym same) found)
    ]
  ];
}

-- one version more is found
pub adds_words_after_found : (f : FittedTrace) (rows : List Version) (w : ObjectWord) (words new : List Worded) (row : ℕ) (d : Worded) → length words ≡ length rows
    → new ≡ set words row d → ((x : Version) → slice_get rows row ≡ Some x → IsWorded f w x d)
    → AddsWords f rows w words new × ((x : Version) → slice_get rows row ≡ Some x → IsWorded f w x (slice_index_or new row unread))
adds_words_after_found f rows w words new row d size is found = (
  record {
    size = ap (λ (xs : List Worded). length xs) is ∙ length-set words row d;
    each = λ r x there. elim (cases_eq r row) [
      | inl same ↦ inr (subst (λ j. IsWorded f w x (slice_index_or new j unread)) (sym same) (here x (ap (slice_get rows) (sym same) ∙ there)))
      | inr ne ↦ inl (ap (λ (xs : List Worded). slice_index_or xs r unread) is ∙ get_or-set_other words row r d unread ne)
    ];
  },
  here,
)
  where
    here : (x : Version) → slice_get rows row ≡ Some x → IsWorded f w x (slice_index_or new row unread)
    here x there =
        let l : row < length words = (let a = slice_get_within rows row x there in omega (arith, a, size)) in
        subst (IsWorded f w x) (sym (ap (λ (xs : List Worded). slice_index_or xs row unread) is ∙ get_or-set_same words row d unread l)) (found x there)

-- what was found is found
pub worded_stays_worded : (f : FittedTrace) (rows : List Version) (w : ObjectWord) (a b : List Worded) (r : ℕ) (x : Version) → AddsWords f rows w a b
    → slice_get rows r ≡ Some x → IsWorded f w x (slice_index_or a r unread) → IsWorded f w x (slice_index_or b r unread)
worded_stays_worded f rows w a b r x adds there found = elim (adds.each r x there) [
  | inl same ↦ subst (IsWorded f w x) (sym same) found
  | inr new ↦ new
]

-- a version that came or was found does or is
pub pending_or_worded_stays : (f : FittedTrace) (rows : List Version) (w : ObjectWord) (old new : Track) (a b : List Worded) (r : ℕ) (x : Version)
    → AddsWords f rows w a b → slice_get rows r ≡ Some x → (IsTrackPending old r → IsTrackPending new r ⊎ IsWorded f w x (slice_index_or b r unread))
    → IsTrackPending old r ⊎ IsWorded f w x (slice_index_or a r unread) → IsTrackPending new r ⊎ IsWorded f w x (slice_index_or b r unread)
pending_or_worded_stays f rows w old new a b r x adds there more (inl pending) = more pending
pending_or_worded_stays f rows w old new a b r x adds there more (inr found) = inr (worded_stays_worded f rows w a b r x adds there found)

-- ---- the next hold has been left

pub track_after_next_hold : (f : FittedTrace) (rows : List Version) (w : ObjectWord) (t k : ℕ) (old new : Track) → IsWordTrack f rows w t k old
    → old.next < length old.holds.items → new ≡ record old { next = old.next + 1 } → IsWordTrack f rows w t k new
track_after_next_hold f rows w t k old new is l e = subst (IsWordTrack f rows w t k) (sym e) (record {
  sorted = is.sorted;
  holds = is.holds;
  from = is.from;
  pending = λ i d past li. is.pending i d (omega (arith, past)) li;
  put = λ some. is.put l;
})

pub pending_or_hold_passed : (old new : Track) (h : Hold) → new ≡ record old { next = old.next + 1 }
    → ((d : Hold) → slice_index_or old.holds.items old.next d ≡ h) → (r : ℕ) → IsTrackPending old r → IsTrackPending new r ⊎ (h.row ≡ r)
pending_or_hold_passed old new h e here r is = elim (cases_eq is.0 old.next) [
  | inl at ↦ inr (ap (λ (z : Hold). z.row) (sym (here h)) ∙ ap (λ j. (slice_index_or old.holds.items j h).row) (sym at) ∙ is.3 h)
  | inr ne ↦ inl (subst (λ (z : Track). IsTrackPending z r) (sym e) (is.0, (let a = is.1 in omega (arith, a, ne)), is.2, is.3))
]

-- no other is left here
pub leaves_elsewhere_none_due : (f : FittedTrace) (rows : List Version) (w : ObjectWord) (t k : ℕ) (track : Track) → IsWordTrack f rows w t k track
    → (track.next < length track.holds.items → (d : Hold) → (slice_index_or track.holds.items track.next d).leave ≢ k) → NoTrackDue k track
leaves_elsewhere_none_due f rows w t k track is other i d past l =
    let first = is.pending track.next d (omega arith) (omega (arith, past, l)) in
    let ne = other (omega (arith, past, l)) d in
    let up = is.sorted track.next i d past l in
    omega (arith, first, ne, up)
