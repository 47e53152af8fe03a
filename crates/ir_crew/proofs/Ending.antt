-- How the table is laid out, dealt and ended.
use Rattle.std.proofs.Common.{◌≡◌, ◌≢◌, ℕ, zero, suc, ◌+◌, ◌*◌, ◌/◌, ◌%◌, ◌^◌, ◌<◌, ◌≤◌, List, [], ◌∷◌, ◌++◌, length, get_or, set, take}
use Rattle.std.proofs.Common.{drop, sym, ap, ◌∙◌, subst, arith, inl, inr, length-set, get_or-set_same, get_or-set_other, get_or-take}
use Rattle.std.proofs.Common.{get_or-drop}
use Rattle.std.proofs.lemmas.Bool.{cases_eq, cases_lt}
use Rattle.std.proofs.lemmas.List.{get_or_past, length-take}
use mathlib.Core.Option.{some, some-injective, some-ne-none}
use Rattle.ir_lemmas.proofs.CallerLemmas.{get_or_of_found_word}
use lib.ListN.{get_elem?}
use Rattle.atomic_table.specs.Seated.{TableId}
use Rattle.atomic_table.specs.Table.{Final, Seen}
use Rattle.atomic_table.specs.declared.shared.Seat.{Seat}
use Rattle.ir_image.specs.Guest.{limits_of, Guest, most_object_words, object_count, object_words}
use Rattle.ir_image.specs.Bounds.{IsGuest}
use Rattle.ir_image.specs.declared.form.ImageForm.{ImageForm}
use Rattle.ir_image.specs.declared.form.ImageForm.TheVariants.{Small, Large}
use Rattle.ir_image.proofs.CallerLemmas.{get_or_zero-padded}
use Rattle.ir_object.specs.Cell.{Cell}
use Rattle.ir_object.specs.Empty.{empty}
use Rattle.ir_object.specs.Standing.{StandsFor}
use Rattle.ir_runs.specs.Machine.{Object}
use Rattle.ir_object.specs.Layout.{word_place, content_place, table_length}
use Rattle.ir_object.specs.Order.{Shared, objects_after}
use Rattle.ir_object.specs.Word.{fields_of}
use Rattle.ir_crew.specs.Ends.{AreCrewSeats, AreCrewTracks, IsCrewEnd, IsCrewLaid, IsObjectOf}
use Rattle.ir_crew.specs.Plays.{M}
use Rattle.ir_crew.specs.Rule.{CrewView, start_objects, Represents, IsCrewTable, FitsTable, KeptByRule, crew_tracks_from}
use Rattle.ir_crew.proofs.Known.{zero_represents_fresh, small_words_by_legal}
use Rattle.ir_crew.proofs.Steps.{track}

-- ---- the words before the first step

pub laid_words_start_table : (g : Guest) (ws : List ℕ) → IsCrewLaid g ws → IsCrewTable (length g.entries) (object_count g) (start_objects g) ws
laid_words_start_table g ws laid = record {
  size = laid.size;
  words = λ o lt. subst (λ z. Represents (length g.entries) (fields_of z) (start_objects g o)) (sym (laid.free o lt))
      (zero_represents_fresh (length g.entries) (start_objects g o).words);
  contents = laid.contents;
}

-- the place of word `at` of the guest
abbrev pub guest_word_place : ImageForm → ℕ → ℕ
guest_word_place form at = content_place (at / (limits_of form).words) (at % (limits_of form).words)

content_place_of_guest : (form : ImageForm) (o i at : ℕ) → i < (limits_of form).words → (limits_of form).words * o + i ≡ at
    → content_place o i ≡ guest_word_place form at
content_place_of_guest Small o i at small e = omega (arith, small, e)
content_place_of_guest Large o i at small e = omega (arith, small, e)

content_place_of_other : (form : ImageForm) (o i at : ℕ) → i < (limits_of form).words → (limits_of form).words * o + i ≢ at
    → content_place o i ≢ guest_word_place form at
content_place_of_other Small o i at small ne e = ne (omega (arith, small, e))
content_place_of_other Large o i at small ne e = ne (omega (arith, small, e))

unused_is_no_guest_word : (form : ImageForm) (o i at : ℕ) → (limits_of form).words ≤ i → i < most_object_words → content_place o i ≢ guest_word_place form at
unused_is_no_guest_word Small o i at large small e = omega (arith, large, small, e)
unused_is_no_guest_word Large o i at large small e = omega (arith, large, small, e)

word_place_no_guest_word : (form : ImageForm) (o at : ℕ) → word_place o ≢ guest_word_place form at
word_place_no_guest_word Small o at e = omega (arith, e)
word_place_no_guest_word Large o at e = omega (arith, e)

pub guest_place_in_table : (form : ImageForm) (words at : ℕ) → words % (limits_of form).words ≡ 0 → at < words
    → guest_word_place form at < table_length (words / (limits_of form).words)
guest_place_in_table Small words at whole lt = omega (arith, whole, lt)
guest_place_in_table Large words at whole lt = omega (arith, whole, lt)

guest_word_below_count : (form : ImageForm) (words o i : ℕ) → words % (limits_of form).words ≡ 0 → o < words / (limits_of form).words
    → i < (limits_of form).words → (limits_of form).words * o + i < words
guest_word_below_count Small words o i whole lt small = omega (arith, whole, lt, small)
guest_word_below_count Large words o i whole lt small = omega (arith, whole, lt, small)

-- the guest's words below this one are laid, and nothing else
pub record IsLaying (g : Guest) (laid : List ℕ) (at : ℕ) : Type 0 where
  pub size : length laid ≡ table_length (object_count g)
  pub free : (o : ℕ) → get_or laid (word_place o) 0 ≡ 0
  pub contents : (o i : ℕ) → i < object_words g → object_words g * o + i < at
      → get_or laid (content_place o i) 0 ≡ get_or g.words (object_words g * o + i) 0
  pub others : (o i : ℕ) → object_words g ≤ i → i < most_object_words → get_or laid (content_place o i) 0 ≡ 0

pub laying_at_start : (g : Guest) (laid : List ℕ) (count : ℕ) → count ≡ object_count g → length laid ≡ table_length count
    → ((k : ℕ) → get_or laid k 0 ≡ 0) → IsLaying g laid 0
laying_at_start g laid count is size none = record {
  size = omega (arith, is, size);
  free = λ o. none (word_place o);
  contents = λ o i small l. absurd (omega (arith, l));
  others = λ o i large small. none (content_place o i);
}

pub laying_step : (g : Guest) (laid more : List ℕ) (at word : ℕ) → IsGuest g → at < length g.words → IsLaying g laid at
    → word ≡ get_or g.words at 0 → more ≡ set laid (guest_word_place g.form at) word → IsLaying g more (at + 1)
laying_step g laid more at word guest lt h is new = subst (λ z. IsLaying g z (at + 1)) (sym new) (record {
  size = length-set laid place word ∙ h.size;
  free = λ o. get_or-set_other laid place (word_place o) word 0 (word_place_no_guest_word g.form o at) ∙ h.free o;
  contents = λ o i small l. elim (cases_eq (object_words g * o + i) at) [
    | inl e ↦ ap (λ z. get_or (set laid place word) z 0) (content_place_of_guest g.form o i at small e)
        ∙ get_or-set_same laid place word 0 within ∙ is ∙ ap (λ z. get_or g.words z 0) (sym e)
    | inr ne ↦ get_or-set_other laid place (content_place o i) word 0 (content_place_of_other g.form o i at small ne)
        ∙ h.contents o i small (omega (arith, l, ne))
  ];
  others = λ o i large small. get_or-set_other laid place (content_place o i) word 0 (unused_is_no_guest_word g.form o i at large small)
      ∙ h.others o i large small;
})
  where
    place : ℕ
    place = guest_word_place g.form at

    within : place < length laid
    within = subst (λ z. place < z) (sym h.size) (guest_place_in_table g.form (length g.words) at guest.whole_objects lt)

-- an object's words at the start are the guest's, and 0 after them
pub full_laying_is_laid : (g : Guest) (laid : List ℕ) → IsGuest g → IsLaying g laid (length g.words) → IsCrewLaid g laid
full_laying_is_laid g laid guest h = record {
  size = h.size;
  free = λ o lt. h.free o;
  contents = λ o i lt small. elim (cases_lt i (object_words g)) [
    | inl l ↦ h.contents o i l (guest_word_below_count g.form (length g.words) o i guest.whole_objects lt l)
        ∙ sym (get_or_zero-padded (own o) i ∙ get_or-take (object_words g) (drop (object_words g * o) g.words) i 0 l
        ∙ get_or-drop (object_words g * o) g.words i 0)
    | inr large ↦ h.others o i large small ∙ sym (get_or_zero-padded (own o) i ∙ get_or_past (own o) i 0
        (let short = length-take (object_words g) (drop (object_words g * o) g.words) in omega (arith, short, large)))
  ];
}
  where
    own : ℕ → List ℕ
    own o = take (object_words g) (drop (object_words g * o) g.words)

-- ---- seats

pub seats_with_last_added : (id : TableId) (t u : ℕ) (xs : List (Seat (Unit {0}) CrewView)) (x : Seat (Unit {0}) CrewView) → AreCrewSeats id t xs
    → u ≡ t + length xs → x.table_id ≡ id → x.me ≡ (track u [] ∷ [], []) → AreCrewSeats id t (xs ++ x ∷ [])
seats_with_last_added id t u [] x h e i m = ((i, m ∙ (λ j. (track ((let q : u ≡ t = omega (arith, e) in q) j) [] ∷ [], []))), tt)
seats_with_last_added id t u (y ∷ ys) x h e i m = (h.0, seats_with_last_added id (suc t) u ys x h.1 (omega (arith, e)) i m)

pub first_dealt_later_left : (l m n : ℕ) (me w : M) → me ≡ (crew_tracks_from l (suc m), []) → w ≡ (drop 1 me.0, me.1) → n ≡ suc l
    → w ≡ (crew_tracks_from n m, [])
first_dealt_later_left l m n me w is emitted long = emitted ∙ (λ i. (drop 1 (is i).0, (is i).1)) ∙ (λ i. (crew_tracks_from (sym long i) m, []))

pub dealt_is_first_thread : (l m : ℕ) (me w : M) → me ≡ (crew_tracks_from l (suc m), []) → w ≡ (take 1 me.0, []) → w ≡ (track l [] ∷ [], [])
dealt_is_first_thread l m me w is emitted = emitted ∙ (λ i. (take 1 (is i).0, []))

pub tracks_from_equal_count : (l m k : ℕ) (me : M) → me ≡ (crew_tracks_from l m, []) → m ≡ suc k → me ≡ (crew_tracks_from l (suc k), [])
tracks_from_equal_count l m k me is e = is ∙ (λ i. (crew_tracks_from l (e i), []))

-- ---- the end

words_stand_for : (n count o : ℕ) (f : ℕ → Object) (ws : List ℕ) (c : Cell) → IsCrewTable n count f ws → o < count → IsObjectOf ws o c
    → StandsFor n c (f o)
words_stand_for n count o f ws c r lt is =
    let represents : Represents n c.fields (f o) = subst (λ z. Represents n z (f o))
    (ap fields_of (get_or_of_found_word ws (word_place o) is.word is.head) ∙ sym is.fields) (r.words o lt) in record {
      version = represents.version;
      left = represents.left;
      inside = represents.inside;
      words = λ i small. sym (get_or_of_found_word ws (content_place o i) (get_or c.words i 0) (is.contents i small)) ∙ r.contents o i lt small;
    }

fitting_view_has_tracks : (g : Guest) (seat : ℕ → ℕ) (es : List (ℕ × Shared)) (id : ℕ) (v : CrewView) → FitsTable (length g.entries) (start_objects g) es seat id v
    → AreCrewTracks g es v
fitting_view_has_tracks g seat es id [] f = tt
fitting_view_has_tracks g seat es id (k ∷ ks) f = (f.0.0, fitting_view_has_tracks g seat es id ks f.1)

pub final_table_is_end : (g : Guest) (id : ℕ) (v : CrewView) (ws : List ℕ) (xs : List (Unit {0})) (objects : List Cell) → Final (Seen (KeptByRule g) id v) ws xs
    → ((o : ℕ) → o < object_count g → IsObjectOf ws o (get_or objects o empty)) → IsCrewEnd g v objects
final_table_is_end g id v ws xs objects f are =
    let k = f.1.0 in
    let table : IsCrewTable (length g.entries) (object_count g) (objects_after (start_objects g) k.steps) ws =
    subst (IsCrewTable (length g.entries) (object_count g) (objects_after (start_objects g) k.steps)) f.2 k.table in record {
      steps = k.steps;
      legal = k.legal;
      few = k.few;
      tracks = fitting_view_has_tracks g k.seat k.steps id v (k.fits id v f.1.1);
      stand = λ o lt. words_stand_for (length g.entries) (object_count g) o (objects_after (start_objects g) k.steps) ws (get_or objects o empty)
          table lt (are o lt);
    }

pub final_content_32_bits : (g : Guest) (id : ℕ) (v : CrewView) (ws : List ℕ) (xs : List (Unit {0})) → Final (Seen (KeptByRule g) id v) ws xs → (o i word : ℕ)
    → o < object_count g → i < most_object_words → get_elem? ws (content_place o i) ≡ some word → word < 2 ^ 32
final_content_32_bits g id v ws xs f o i word lt small e =
    let k = f.1.0 in
    subst (λ z. z < 2 ^ 32) (sym (k.table.contents o i lt small) ∙ ap (λ z. get_or z (content_place o i) 0) f.2
    ∙ get_or_of_found_word ws (content_place o i) word e) (small_words_by_legal g k.steps k.guest k.legal o i)

-- one word of an object's contents more
pub copied_contents_step : (ws old : List ℕ) (o i word : ℕ)
    → ((k : ℕ) → k < i → get_elem? ws (content_place o k) ≡ some (get_or old k 0)) → i < length old
    → get_elem? ws (content_place o i) ≡ some word
    → (k : ℕ) → k < i + 1 → get_elem? ws (content_place o k) ≡ some (get_or (set old i word) k 0)
copied_contents_step ws old o i word h lt is k l = elim (cases_eq k i) [
  | inl e ↦ subst (λ z. get_elem? ws (content_place o z) ≡ some (get_or (set old i word) z 0)) (sym e)
      (is ∙ ap some (sym (get_or-set_same old i word 0 lt)))
  | inr ne ↦ h k (omega (arith, l, ne)) ∙ ap some (sym (get_or-set_other old i k word 0 ne))
]

-- one object more
pub copied_objects_step : (ws : List ℕ) (old more : List Cell) (o : ℕ) (c : Cell) → ((k : ℕ) → k < o → IsObjectOf ws k (get_or old k empty))
    → o < length old → IsObjectOf ws o c → more ≡ set old o c → (k : ℕ) → k < o + 1 → IsObjectOf ws k (get_or more k empty)
copied_objects_step ws old more o c h lt is new k l = subst (λ z. IsObjectOf ws k (get_or z k empty)) (sym new) (elim (cases_eq k o) [
  | inl e ↦ subst (λ z. IsObjectOf ws z (get_or (set old o c) z empty)) (sym e)
      (subst (IsObjectOf ws o) (sym (get_or-set_same old o c empty lt)) is)
  | inr ne ↦ subst (IsObjectOf ws k) (sym (get_or-set_other old o k c empty ne)) (h k (omega (arith, l, ne)))
])
