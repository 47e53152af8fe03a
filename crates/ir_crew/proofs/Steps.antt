-- Each step of the table keeps its rule.
use Rattle.std.proofs.Common.{◌≡◌, ◌≢◌, ℕ, ◌+◌, ◌*◌, ◌%◌, ◌^◌, ◌<◌, ◌≤◌, Bool, eqb, List, [], ◌∷◌, ◌++◌, map, length, get_or, set, Some}
use Rattle.std.proofs.Common.{None, refl, sym, ap, ◌∙◌, subst, arith, inl, inr, ⊎_elim, eq-eqb, ne_eqb, length-set, get_or-set_same}
use Rattle.std.proofs.Common.{get_or-set_other}
use Rattle.std.proofs.lemmas.Bool.{cases_eq}
use Rattle.std.proofs.lemmas.List.{set-get_or}
use mathlib.Core.Option.{none, some}
use Rattle.ir_lemmas.proofs.CallerLemmas.{map_of_append_item}
use lib.ListN.{get_elem?}
use prog.Atomic.{either}
use Rattle.atomic_table.specs.Table as table
use Rattle.atomic_table.specs.Table.{Step, step, stepped, keeps, Allows}
use Rattle.atomic_table.proofs.Lists.{at_set, set_again}
use Rattle.ir_image.specs.Guest.{Guest, most_threads, object_count, most_object_words}
use Rattle.ir_thread.specs.State.{most_events, thread_machine}
use Rattle.ir_runs.specs.Machine.{Entered, Left, Stored, upd, Object, target, Admits, acted, reply, emitted, Label}
use Rattle.ir_runs.specs.declared.access.Access.TheVariants.{Reading, Writing}
use Rattle.ir_object.specs.Standing.{Admitted}
use Rattle.ir_object.specs.Layout.{word_place, content_place}
use Rattle.ir_object.specs.Order.{Shared, of_thread, objects_after, order_labels, Uses}
use Rattle.ir_object.specs.Word.{version_unit, left_limit, reader_leaves, fields_of}
use Rattle.ir_object.proofs.CallerLemmas.{of_thread_own_step, of_thread_other_step, objects_after_step, order_labels_after_step}
use Rattle.ir_object.proofs.CallerLemmas.{legal_order_after_step, counts_after_entry, counts_after_leave, inside_thread_can_leave}
use Rattle.ir_object.proofs.CallerLemmas.{admitted_reader_no_writer, admitted_writer_is_alone, reader_entry_fields, writer_entry_fields}
use Rattle.ir_object.proofs.CallerLemmas.{reader_leave_fields, writer_leave_fields}
use Rattle.ir_runs.proofs.CallerLemmas.{upd_at_own_place, upd_at_other_place, upd_with_old_value}
use Rattle.ir_crew.specs.Plays.{IsAlone, history, did, inside_by, entered_at, M, object_of, index_of, IsSight, looked_in_play, tried}
use Rattle.ir_crew.specs.Plays.{read_entry, write_entry, try_entry, entered_read, entered_write, entered_by_try, left_reading, left_writing}
use Rattle.ir_crew.specs.Plays.{got, wrote}
use Rattle.ir_crew.specs.Rule.{CrewView, shared_by, label_by, shared_of, label_by_rule, one_if_entry, entries, start_objects, Represents, IsCrewTable, IsTrackOfRule, FitsTable, KeptByRule}
use Rattle.ir_crew.specs.declared.deed.Deed.{Deed}
use Rattle.ir_crew.specs.declared.deed.Deed.TheVariants.{Enter, Try, Leave, Get, Put}
use Rattle.ir_crew.specs.declared.deed.ObjectStep.{ObjectStep}
use Rattle.ir_crew.specs.declared.deed.Track.{Track}
use Rattle.ir_crew.proofs.Counting.{entries_with_step_added}
use Rattle.ir_crew.proofs.Known.{weight, IsKnownObject, seat_object_is_known, objects_by_steps}

abbrev pub track : ℕ → List ObjectStep → Track
track t es = record { thread = t; steps = es }

abbrev pub step_of_deed : ℕ → Deed → ObjectStep
step_of_deed o d = record { object = o; deed = d }

pub target_of_deed : (o : ℕ) (d : Deed) → target (shared_by o d).0 ≡ o
target_of_deed o (Enter a v l) = refl
target_of_deed o (Try v l) = refl
target_of_deed o (Leave a v) = refl
target_of_deed o (Get i w) = refl
target_of_deed o (Put i w) = refl

-- ---- the rule, with one step more

-- the deed may be done to the object by thread t
pub record MayDo (g : Guest) (t o : ℕ) (d : Deed) (b : Object) : Type 0 where
  pub uses : Uses (shared_by o d).0 (b.inside t)
  pub admits : Admits (thread_machine g.code) (shared_by o d).0 b
  pub answers : reply (shared_by o d).0 b ≡ (shared_by o d).1
  pub represents : emitted (shared_by o d).0 b ≡ label_by o d

-- the tracks of another seat stay as they are
other_seat_tracks_stay : (n t : ℕ) (f : ℕ → Object) (steps : List (ℕ × Shared)) (s : Shared) (seat : ℕ → ℕ) (id : ℕ) (v : CrewView) → seat t ≢ id
    → FitsTable n f steps seat id v → FitsTable n f (steps ++ (t, s) ∷ []) seat id v
other_seat_tracks_stay n t f steps s seat id [] ne h = tt
other_seat_tracks_stay n t f steps s seat id (k ∷ ks) ne h =
    let apart : k.thread ≢ t = λ e. ne (ap seat (sym e) ∙ h.0.1) in (
      (
        record {
          thread = h.0.0.thread;
          steps_are = of_thread_other_step t k.thread steps s apart ∙ h.0.0.steps_are;
          labels_are = ap (of_thread k.thread) (order_labels_after_step f steps (t, s))
              ∙ of_thread_other_step t k.thread (order_labels f steps) (emitted s.0 (objects_after f steps (target s.0))) apart ∙ h.0.0.labels_are;
        },
        h.0.1,
      ),
      other_seat_tracks_stay n t f steps s seat id ks ne h.1,
    )

pub kept_with_step_added : (g : Guest) (x : table.State (Unit {0}) CrewView) (k : KeptByRule g x) (id t o : ℕ) (h : List ObjectStep) (d : Deed)
    → get_elem? x.views id ≡ some (track t h ∷ []) → o < object_count g
    → MayDo g t o d (objects_by_steps g k.steps o) → entries (map shared_of h) + one_if_entry (shared_by o d).0 ≤ most_events
    → (ws : List ℕ) (hs : List _) → IsCrewTable (length g.entries) (object_count g)
    (upd (objects_by_steps g k.steps) o (acted (shared_by o d).0 t (objects_by_steps g k.steps o))) ws
    → KeptByRule g (record { words = ws; homes = hs; views = set x.views id (track t (h ++ step_of_deed o d ∷ []) ∷ []) })
kept_with_step_added g x k id t o h d at lt may room ws hs table =
    let own = (k.fits id (track t h ∷ []) at).0 in
    let s : Shared = shared_by o d in
    let f : ℕ → Object = start_objects g in
    let now : ℕ → Object = objects_by_steps g k.steps in
    let is : target s.0 ≡ o = target_of_deed o d in
    let steps : List (ℕ × Shared) = k.steps ++ (t, s) ∷ [] in
    let mine : of_thread t steps ≡ map shared_of (h ++ step_of_deed o d ∷ []) = of_thread_own_step t k.steps s ∙ ap (λ z. z ++ s ∷ []) own.0.steps_are
    ∙ sym (map_of_append_item shared_of h (step_of_deed o d)) in
    let new : IsTrackOfRule (length g.entries) f steps (track t (h ++ step_of_deed o d ∷ [])) = record {
      thread = own.0.thread;
      steps_are = mine;
      labels_are = ap (of_thread t) (order_labels_after_step f k.steps (t, s)) ∙ of_thread_own_step t (order_labels f k.steps) (emitted s.0 (now (target s.0)))
          ∙ (λ i. own.0.labels_are i ++ (ap (λ p. emitted s.0 (now p)) is ∙ may.represents) i ∷ []) ∙ sym (map_of_append_item label_by_rule h (step_of_deed o d));
    } in
    record {
      guest = k.guest;
      steps = steps;
      seat = k.seat;
      legal = legal_order_after_step (thread_machine g.code) (length g.entries) (object_count g) f k.steps (t, s) k.legal (record {
        thread = own.0.thread;
        object = subst (λ p. p < object_count g) (sym is) lt;
        uses = subst (λ p. Uses s.0 ((now p).inside t)) (sym is) may.uses;
        admits = subst (λ p. Admits (thread_machine g.code) s.0 (now p)) (sym is) may.admits;
        answers = ap (λ p. reply s.0 (now p)) is ∙ may.answers;
      });
      few = λ u. elim (cases_eq u t) [
        | inl e ↦ subst (λ z. entries (of_thread z steps) ≤ most_events) (sym e) (subst (λ z. entries z ≤ most_events) (sym mine)
            (subst (λ z. entries z ≤ most_events) (sym (map_of_append_item shared_of h (step_of_deed o d)))
            (let r = entries_with_step_added (map shared_of h) s in omega (arith, r, room))))
        | inr ne ↦ subst (λ z. entries z ≤ most_events) (sym (of_thread_other_step t u k.steps s ne)) (k.few u)
      ];
      fits = λ j v e. ⊎_elim
          (λ (q : (j ≡ id) × (track t (h ++ step_of_deed o d ∷ []) ∷ [] ≡ v)). subst (FitsTable (length g.entries) f steps k.seat j) q.1
          ((new, own.1 ∙ sym q.0), tt))
          (λ (q : (j ≢ id) × (get_elem? x.views j ≡ some v)). other_seat_tracks_stay (length g.entries) t f k.steps s k.seat j v
          (λ e. q.0 (sym e ∙ own.1)) (k.fits j v q.1))
          (at_set x.views id j (track t (h ++ step_of_deed o d ∷ []) ∷ []) v e);
      table = subst (λ z. IsCrewTable (length g.entries) (object_count g) z ws)
          (sym (objects_after_step f k.steps (t, s) ∙ ap (λ p. upd now p (acted s.0 t (now p))) is)) table;
    }

-- the word and the view are stored again
pub kept_by_same_store : (g : Guest) (x : table.State (Unit {0}) CrewView) (k : KeptByRule g x) (id i : ℕ) (v : CrewView) (hs : List _) → get_elem? x.views id ≡ some v
    → KeptByRule g (record { words = set x.words i (get_or x.words i 0); homes = hs; views = set x.views id v })
kept_by_same_store g x k id i v hs at = subst (λ (z : List ℕ × List CrewView). KeptByRule g (record { words = z.0; homes = hs; views = z.1 }))
    (λ j. (sym (set-get_or x.words i 0) j, sym (set_again x.views id v at) j))
    (record { guest = k.guest; steps = k.steps; seat = k.seat; legal = k.legal; few = k.few; fits = k.fits; table = k.table })

-- ---- the words, with one changed

-- an object's word and its state are changed together
table_after_object_word : (n count : ℕ) (f : ℕ → Object) (ws : List ℕ) (o w : ℕ) (y : Object) → IsCrewTable n count f ws → o < count
    → Represents n (fields_of w) y → y.words ≡ (f o).words → IsCrewTable n count (upd f o y) (set ws (word_place o) w)
table_after_object_word n count f ws o w y r lt represents same = record {
  size = length-set ws (word_place o) w ∙ r.size;
  words = λ p small. elim (cases_eq p o) [
    | inl e ↦ subst (λ z. Represents n (fields_of (get_or (set ws (word_place o) w) (word_place z) 0)) (upd f o y z)) (sym e)
        (subst (λ z. Represents n (fields_of z) (upd f o y o))
        (sym (get_or-set_same ws (word_place o) w 0 (let s = r.size in omega (arith, s, lt))))
        (subst (Represents n (fields_of w)) (sym (upd_at_own_place f o y)) represents))
    | inr ne ↦ subst (λ z. Represents n (fields_of z) (upd f o y p))
        (sym (get_or-set_other ws (word_place o) (word_place p) w 0 (λ e. ne (omega (arith, e)))))
        (subst (Represents n (fields_of (get_or ws (word_place p) 0))) (sym (upd_at_other_place f o p y ne)) (r.words p small))
  ];
  contents = λ p i small fits. get_or-set_other ws (word_place o) (content_place p i) w 0 (λ e. omega (arith, e, fits))
      ∙ r.contents p i small fits ∙ elim (cases_eq p o) [
        | inl e ↦ subst (λ z. (f z).words i ≡ (upd f o y z).words i) (sym e)
            (ap (λ z. z i) (sym same) ∙ sym (ap (λ z. z.words i) (upd_at_own_place f o y)))
        | inr ne ↦ sym (ap (λ z. z.words i) (upd_at_other_place f o p y ne))
      ];
}

-- a word of contents is written
table_after_content_word : (n count : ℕ) (f : ℕ → Object) (ws : List ℕ) (o i v : ℕ) (y : Object) → IsCrewTable n count f ws → o < count → i < most_object_words
    → Represents n (fields_of (get_or ws (word_place o) 0)) y → y.words ≡ upd (f o).words i v
    → IsCrewTable n count (upd f o y) (set ws (content_place o i) v)
table_after_content_word n count f ws o i v y r lt small represents is = record {
  size = length-set ws (content_place o i) v ∙ r.size;
  words = λ p fits. subst (λ z. Represents n (fields_of z) (upd f o y p))
      (sym (get_or-set_other ws (content_place o i) (word_place p) v 0 (λ e. omega (arith, e, small)))) (elim (cases_eq p o) [
        | inl e ↦ subst (λ z. Represents n (fields_of (get_or ws (word_place z) 0)) (upd f o y z)) (sym e)
            (subst (Represents n (fields_of (get_or ws (word_place o) 0))) (sym (upd_at_own_place f o y)) represents)
        | inr ne ↦ subst (Represents n (fields_of (get_or ws (word_place p) 0))) (sym (upd_at_other_place f o p y ne)) (r.words p fits)
      ]);
  contents = λ p j fits low. elim (cases_eq p o) [
    | inl e ↦ subst (λ z. get_or (set ws (content_place o i) v) (content_place z j) 0 ≡ (upd f o y z).words j) (sym e)
        (written_at j low ∙ sym (ap (λ z. z.words j) (upd_at_own_place f o y) ∙ ap (λ z. z j) is))
    | inr ne ↦ get_or-set_other ws (content_place o i) (content_place p j) v 0 (λ e. ne (omega (arith, e, small, low)))
        ∙ r.contents p j fits low ∙ sym (ap (λ z. z.words j) (upd_at_other_place f o p y ne))
  ];
}
  where
    written_at : (j : ℕ) → j < most_object_words → get_or (set ws (content_place o i) v) (content_place o j) 0 ≡ upd (f o).words i v j
    written_at j low = elim (cases_eq j i) [
      | inl e ↦ subst (λ z. get_or (set ws (content_place o i) v) (content_place o z) 0 ≡ upd (f o).words i v z) (sym e)
          (get_or-set_same ws (content_place o i) v 0 (let s = r.size in omega (arith, s, lt, small)) ∙ sym (upd_at_own_place (f o).words i v))
      | inr ne ↦ get_or-set_other ws (content_place o i) (content_place o j) v 0 (λ e. ne (omega (arith, e))) ∙ r.contents o j lt low
          ∙ sym (upd_at_other_place (f o).words i j v ne)
    ]

-- ---- looks

pub object_of_word_place : (o : ℕ) → object_of (word_place o) ≡ o
object_of_word_place o = omega arith

pub object_of_content_place : (o i : ℕ) → i < most_object_words → object_of (content_place o i) ≡ o
object_of_content_place o i lt = omega (arith, lt)

pub index_of_content_place : (o i : ℕ) → i < most_object_words → index_of (content_place o i) ≡ i
index_of_content_place o i lt = omega (arith, lt)

left_below_limit : (w : ℕ) → weight (fields_of w) ≤ most_threads * most_events → (fields_of w).left + 1 < left_limit
left_below_limit w l = let z : (fields_of w).left ≤ weight (fields_of w) = omega arith in omega (arith, z, l)

version_within_weight : (w : ℕ) → weight (fields_of w) ≤ most_threads * most_events → (fields_of w).version ≤ most_threads * most_events
version_within_weight w l = let v : (fields_of w).version ≤ weight (fields_of w) = omega arith in omega (arith, v, l)

known_object_is_sight : (n t o : ℕ) (h : List ObjectStep) (b : Object) (w : ℕ) → IsKnownObject n t o h b w → IsSight h o w
known_object_is_sight n t o h b w a = record {
  small = let l = version_within_weight w a.light in omega (arith, l);
  version = λ is. a.represents.version ∙ a.version (a.inside ∙ is);
}

pub look_is_allowed : (g : Guest) (slots id o : ℕ) (me : M) → IsAlone me.0 → o < object_count g
    → Allows (KeptByRule g) slots id me (word_place o) (λ n. n) (looked_in_play (step slots (word_place o) 0 0 none) me)
look_is_allowed g slots id o ([], c) alone lt x k homes at small = absurd alone
look_is_allowed g slots id o (k2 ∷ l ∷ ks, c) alone lt x k homes at small = absurd alone
look_is_allowed g slots id o (q ∷ [], c) alone lt x k homes at small = (
  q ∷ [],
  keeps,
  tt,
  kept_by_same_store g x k id (word_place o) (q ∷ []) x.homes at,
  (
    refl,
    subst (λ z. IsSight q.steps z (get_or x.words (word_place o) 0)) (sym (object_of_word_place o))
        (known_object_is_sight (length g.entries) q.thread o q.steps (objects_by_steps g k.steps o) (get_or x.words (word_place o) 0) (seat_object_is_known g x k id o q at lt)),
  ),
)

-- ---- entries

-- the step is the deed's, and the new word says the object after it
pub record DeedWithWord (g : Guest) (t o : ℕ) (d : Deed) (w : ℕ) (b : Object) : Type 0 where
  pub may : MayDo g t o d b
  pub represents : Represents (length g.entries) (fields_of w) (acted (shared_by o d).0 t b)
  pub words : (acted (shared_by o d).0 t b).words ≡ b.words

-- a compare-exchange: where the word is the one expected, the thread takes a step that the object admits, and the word is that of the
-- object then
pub compare_exchange_allowed : (g : Guest) (slots id o old new : ℕ) (d : ℕ → Deed) (me : M) → IsAlone me.0 → o < object_count g
    → entries (map shared_of (history me.0)) + one_if_entry (shared_by o (d old)).0 ≤ most_events
    → ((t : ℕ) (b : Object) → IsKnownObject (length g.entries) t o (history me.0) b old → DeedWithWord g t o (d old) new b)
    → Allows (KeptByRule g) slots id me (word_place o) (λ n. either (eqb n old) new n) (tried d (step slots (word_place o) old new none) me)
compare_exchange_allowed g slots id o old new d ([], c) alone lt room step_is x k homes at small = absurd alone
compare_exchange_allowed g slots id o old new d (k2 ∷ l ∷ ks, c) alone lt room step_is x k homes at small = absurd alone
compare_exchange_allowed g slots id o old new d (q ∷ [], c) alone lt room step_is x k homes at small =
    let w : ℕ = get_or x.words (word_place o) 0 in
    let b : Object = objects_by_steps g k.steps o in
    let a : IsKnownObject (length g.entries) q.thread o q.steps b w = seat_object_is_known g x k id o q at lt in
    let bound : w < 2 ^ 63 = (known_object_is_sight (length g.entries) q.thread o q.steps b w a).small in
    elim (cases_eq w old) [
      | inl hit ↦ let m = step_is q.thread b (subst (IsKnownObject (length g.entries) q.thread o q.steps b) hit a) in (
        did (q ∷ []) o (d old),
        keeps,
        tt,
        subst (λ (z : Bool). KeptByRule g (stepped x (word_place o) (either z new w) id c (did (q ∷ []) o (d old)) keeps))
            (sym (eq-eqb w old hit))
            (kept_with_step_added g x k id q.thread o q.steps (d old) at lt m.may room (set x.words (word_place o) new) x.homes
            (table_after_object_word (length g.entries) (object_count g) (objects_by_steps g k.steps) x.words o new (acted (shared_by o (d old)).0 q.thread b)
            k.table lt m.represents m.words)),
        ((λ _. λ i. (did (q ∷ []) (sym (object_of_word_place o) i) (d (sym hit i)), c)), (λ miss. absurd (miss hit)), bound),
      )
      | inr miss ↦ (
        q ∷ [],
        keeps,
        tt,
        subst (λ (z : Bool). KeptByRule g (stepped x (word_place o) (either z new w) id c (q ∷ []) keeps)) (sym (ne_eqb w old miss))
            (kept_by_same_store g x k id (word_place o) (q ∷ []) x.homes at),
        ((λ hit. absurd (miss hit)), (λ _. refl), bound),
      )
    ]

-- ---- an entry that the word admits

pub read_entry_is_allowed : (g : Guest) (slots id o old : ℕ) (me : M) → IsAlone me.0 → o < object_count g
    → entries (map shared_of (history me.0)) < most_events → inside_by o (history me.0) ≡ None → Admitted Reading (fields_of old)
    → Allows (KeptByRule g) slots id me (word_place o) (λ n. either (eqb n old) (old + 2) n)
    (entered_read (step slots (word_place o) old (old + 2) none) me)
read_entry_is_allowed g slots id o old me alone lt room outside free =
    compare_exchange_allowed g slots id o old (old + 2) read_entry me alone lt (omega (arith, room)) (λ t b a.
    let n : ℕ = length g.entries in
    let out : b.inside t ≡ None = a.inside ∙ outside in record {
      may = record {
        uses = out;
        admits = admitted_reader_no_writer n (fields_of old) b.inside a.represents.inside free;
        answers = refl;
        represents = λ i. Rattle.ir_runs.specs.Machine.EnteredAt o Reading (sym a.represents.version i) 0;
      };
      represents = subst (λ f. Represents n f (acted (Entered o Reading 0) t b))
          (sym (reader_entry_fields old free (let few = a.narrow in omega (arith, few))))
          (record {
            version = a.represents.version;
            left = a.represents.left;
            inside =
                counts_after_entry n (fields_of old) b.inside t Reading a.thread out a.represents.inside;
          });
      words = refl;
    })

pub write_entry_is_allowed : (g : Guest) (slots id o old : ℕ) (me : M) → IsAlone me.0 → o < object_count g
    → entries (map shared_of (history me.0)) < most_events → Admitted Writing (fields_of old)
    → Allows (KeptByRule g) slots id me (word_place o) (λ n. either (eqb n old) (old + 1) n)
    (entered_write (step slots (word_place o) old (old + 1) none) me)
write_entry_is_allowed g slots id o old me alone lt room free =
    compare_exchange_allowed g slots id o old (old + 1) write_entry me alone lt (omega (arith, room)) (λ t b a.
    let n : ℕ = length g.entries in
    let nobody : (u : ℕ) → b.inside u ≡ None = admitted_writer_is_alone n (fields_of old) b.inside a.represents.inside free in record {
      may = record {
        uses = nobody t;
        admits = nobody;
        answers = refl;
        represents = λ i. Rattle.ir_runs.specs.Machine.EnteredAt o Writing (sym a.represents.version i) (sym a.represents.left i);
      };
      represents = subst (λ f. Represents n f (acted (Entered o Writing 0) t b)) (sym (writer_entry_fields old free))
          (record {
            version = a.represents.version;
            left = a.represents.left;
            inside =
                counts_after_entry n (fields_of old) b.inside t Writing a.thread (nobody t) a.represents.inside;
          });
      words = refl;
    })

pub try_exchange_allowed : (g : Guest) (slots id o old : ℕ) (me : M) → IsAlone me.0 → o < object_count g
    → entries (map shared_of (history me.0)) < most_events → Admitted Writing (fields_of old)
    → Allows (KeptByRule g) slots id me (word_place o) (λ n. either (eqb n old) (old + 1) n)
    (entered_by_try (step slots (word_place o) old (old + 1) none) me)
try_exchange_allowed g slots id o old me alone lt room free =
    compare_exchange_allowed g slots id o old (old + 1) try_entry me alone lt (omega (arith, room)) (λ t b a.
    let n : ℕ = length g.entries in
    let nobody : (u : ℕ) → b.inside u ≡ None = admitted_writer_is_alone n (fields_of old) b.inside a.represents.inside free in record {
      may = record {
        uses = nobody t;
        admits = nobody;
        answers = refl;
        represents = λ i. Rattle.ir_runs.specs.Machine.EnteredAt o Writing (sym a.represents.version i) (sym a.represents.left i);
      };
      represents = subst (λ f. Represents n f (acted (Entered o Writing 1) t b)) (sym (writer_entry_fields old free))
          (record {
            version = a.represents.version;
            left = a.represents.left;
            inside =
                counts_after_entry n (fields_of old) b.inside t Writing a.thread (nobody t) a.represents.inside;
          });
      words = refl;
    })

-- ---- leaves

-- a step on an object's word that is taken whatever the word is
word_change_is_allowed : (g : Guest) (slots id o : ℕ) (f : ℕ → ℕ) (d : Object → Deed) (tell : ℕ → M → Type 0) (me : M) → IsAlone me.0 → o < object_count g
    → ((b : Object) → one_if_entry (shared_by o (d b)).0 ≡ 0)
    → ((t w : ℕ) (b : Object) → IsKnownObject (length g.entries) t o (history me.0) b w → DeedWithWord g t o (d b) (f w) b)
    → ((w : ℕ) (b : Object) → tell w (did me.0 o (d b), me.1)) → Allows (KeptByRule g) slots id me (word_place o) f tell
word_change_is_allowed g slots id o f d tell ([], c) alone lt no_entry step_is represents x k homes at small = absurd alone
word_change_is_allowed g slots id o f d tell (k2 ∷ l ∷ ks, c) alone lt no_entry step_is represents x k homes at small = absurd alone
word_change_is_allowed g slots id o f d tell (q ∷ [], c) alone lt no_entry step_is represents x k homes at small =
    let w : ℕ = get_or x.words (word_place o) 0 in
    let b : Object = objects_by_steps g k.steps o in
    let m = step_is q.thread w b (seat_object_is_known g x k id o q at lt) in
    let few : entries (map shared_of q.steps) ≤ most_events =
    subst (λ z. entries z ≤ most_events) (k.fits id (q ∷ []) at).0.0.steps_are (k.few q.thread) in
    let none_more = no_entry b in (
      did (q ∷ []) o (d b),
      keeps,
      tt,
      kept_with_step_added g x k id q.thread o q.steps (d b) at lt m.may (omega (arith, few, none_more)) (set x.words (word_place o) (f w)) x.homes
          (table_after_object_word (length g.entries) (object_count g) (objects_by_steps g k.steps) x.words o (f w) (acted (shared_by o (d b)).0 q.thread b)
          k.table lt m.represents m.words),
      represents w b,
    )

pub read_leave_is_allowed : (g : Guest) (slots id o : ℕ) (me : M) → IsAlone me.0 → o < object_count g → inside_by o (history me.0) ≡ Some Reading
    → Allows (KeptByRule g) slots id me (word_place o) (λ n. (n + reader_leaves) % 2 ^ 64)
    (left_reading (step slots (word_place o) reader_leaves 0 none) me)
read_leave_is_allowed g slots id o me alone lt inside = word_change_is_allowed g slots id o (λ n. (n + reader_leaves) % 2 ^ 64) (λ b. Leave Reading b.version)
    (left_reading (step slots (word_place o) reader_leaves 0 none) me) me alone lt (λ b. refl)
    (λ t w b a.
    let n : ℕ = length g.entries in
    let is : b.inside t ≡ Some Reading = a.inside ∙ inside in
    let some_in : 0 < (fields_of w).inside = inside_thread_can_leave n (fields_of w) b.inside t Reading a.thread is a.represents.inside in record {
      may = record { uses = is; admits = tt; answers = refl; represents = refl };
      represents = subst (λ f. Represents n f (acted (Left o Reading) t b))
          (sym (reader_leave_fields w some_in (left_below_limit w a.light) (let v = version_within_weight w a.light in omega (arith, v)))) (record {
            version = a.represents.version;
            left = let e = a.represents.left in omega (arith, e);
            inside = counts_after_leave n (fields_of w) b.inside t Reading a.thread is (λ e. absurd (cc e)) a.represents.inside;
          });
      words = refl;
    })
    (λ w b. (b.version, λ i. (did me.0 (sym (object_of_word_place o) i) (Leave Reading b.version), me.1)))

pub write_leave_is_allowed : (g : Guest) (slots id o v : ℕ) (me : M) → IsAlone me.0 → o < object_count g → inside_by o (history me.0) ≡ Some Writing
    → v ≡ entered_at o 0 (map label_by_rule (history me.0))
    → Allows (KeptByRule g) slots id me (word_place o) (λ _. (v + 1) * version_unit)
    (λ _. left_writing (step slots (word_place o) ((v + 1) * version_unit) 0 none) me ((v + 1) * version_unit))
write_leave_is_allowed g slots id o v me alone lt inside version =
    word_change_is_allowed g slots id o (λ _. (v + 1) * version_unit) (λ b. Leave Writing b.version)
    (λ _. left_writing (step slots (word_place o) ((v + 1) * version_unit) 0 none) me ((v + 1) * version_unit)) me alone lt (λ b. refl)
    (λ t w b a.
    let n : ℕ = length g.entries in
    let is : b.inside t ≡ Some Writing = a.inside ∙ inside in record {
      may = record { uses = is; admits = tt; answers = refl; represents = refl };
      represents = subst (λ f. Represents n f (acted (Left o Writing) t b))
          (sym (writer_leave_fields v (fields_of w) (a.represents.version ∙ a.version is ∙ sym version))) (record {
            version = let e = a.represents.version in omega (arith, e);
            left = refl;
            inside = counts_after_leave n (fields_of w) b.inside t Writing a.thread is (λ _ u ne. a.alone t u (λ e. ne (sym e)) is) a.represents.inside;
          });
      words = refl;
    })
    (λ w b. (b.version, λ i. (did me.0 (sym (object_of_word_place o) i) (Leave Writing b.version), me.1)))

-- the word that is stored, as the word of the next version
pub word_write_leave_allowed : (g : Guest) (slots id o v w : ℕ) (me : M) → IsAlone me.0 → o < object_count g
    → inside_by o (history me.0) ≡ Some Writing → v ≡ entered_at o 0 (map label_by_rule (history me.0)) → w ≡ (v + 1) * version_unit
    → Allows (KeptByRule g) slots id me (word_place o) (λ _. w) (λ _. left_writing (step slots (word_place o) w 0 none) me w)
word_write_leave_allowed g slots id o v w me alone lt inside version is =
    subst (λ z. Allows (KeptByRule g) slots id me (word_place o) (λ _. z) (λ _. left_writing (step slots (word_place o) z 0 none) me z)) (sym is)
    (write_leave_is_allowed g slots id o v me alone lt inside version)

-- ---- contents

pub get_is_allowed : (g : Guest) (slots id o i : ℕ) (me : M) → IsAlone me.0 → o < object_count g → i < most_object_words
    → inside_by o (history me.0) ≢ None
    → Allows (KeptByRule g) slots id me (content_place o i) (λ n. n) (got (step slots (content_place o i) 0 0 none) me)
get_is_allowed g slots id o i ([], c) alone lt small inside x k homes at fits = absurd alone
get_is_allowed g slots id o i (k2 ∷ l ∷ ks, c) alone lt small inside x k homes at fits = absurd alone
get_is_allowed g slots id o i (q ∷ [], c) alone lt small inside x k homes at fits =
    let w : ℕ = get_or x.words (content_place o i) 0 in
    let now : ℕ → Object = objects_by_steps g k.steps in
    let b : Object = now o in
    let a = seat_object_is_known g x k id o q at lt in
    let is : w ≡ b.words i = k.table.contents o i lt small in
    let few : entries (map shared_of q.steps) ≤ most_events =
    subst (λ z. entries z ≤ most_events) (k.fits id (q ∷ []) at).0.0.steps_are (k.few q.thread) in
    let same : IsCrewTable (length g.entries) (object_count g) (upd now o b) (set x.words (content_place o i) w) =
    subst (λ (z : (ℕ → Object) × List ℕ). IsCrewTable (length g.entries) (object_count g) z.0 z.1)
    (λ j. (sym (upd_with_old_value now o b refl) j, sym (set-get_or x.words (content_place o i) 0) j)) k.table in (
      did (q ∷ []) o (Get i w),
      keeps,
      tt,
      kept_with_step_added g x k id q.thread o q.steps (Get i w) at lt
          (record { uses = (small, λ e. inside (sym a.inside ∙ e)); admits = tt; answers = sym is; represents = refl }) (omega (arith, few))
          (set x.words (content_place o i) w) x.homes same,
      (
        (λ j. (did (q ∷ []) (sym (object_of_content_place o i small) j) (Get (sym (index_of_content_place o i small) j) w), c)),
        subst (λ z. z < 2 ^ 32)
            (sym is) (a.small i),
      ),
    )

pub put_is_allowed : (g : Guest) (slots id o i v : ℕ) (me : M) → IsAlone me.0 → o < object_count g → i < most_object_words → v < 2 ^ 32
    → inside_by o (history me.0) ≡ Some Writing
    → Allows (KeptByRule g) slots id me (content_place o i) (λ _. v) (λ _. wrote (step slots (content_place o i) v 0 none) me v)
put_is_allowed g slots id o i v ([], c) alone lt small fit inside x k homes at fits = absurd alone
put_is_allowed g slots id o i v (k2 ∷ l ∷ ks, c) alone lt small fit inside x k homes at fits = absurd alone
put_is_allowed g slots id o i v (q ∷ [], c) alone lt small fit inside x k homes at fits =
    let now : ℕ → Object = objects_by_steps g k.steps in
    let b : Object = now o in
    let a = seat_object_is_known g x k id o q at lt in
    let few : entries (map shared_of q.steps) ≤ most_events =
    subst (λ z. entries z ≤ most_events) (k.fits id (q ∷ []) at).0.0.steps_are (k.few q.thread) in (
      did (q ∷ []) o (Put i v),
      keeps,
      tt,
      kept_with_step_added g x k id q.thread o q.steps (Put i v) at lt
          (record { uses = (small, fit, a.inside ∙ inside); admits = tt; answers = refl; represents = refl }) (omega (arith, few))
          (set x.words (content_place o i) v) x.homes
          (table_after_content_word (length g.entries) (object_count g) now x.words o i v (acted (Stored o i v) q.thread b) k.table lt small
          (record { version = a.represents.version; left = a.represents.left; inside = a.represents.inside }) refl),
      (λ j. (did (q ∷ []) (sym (object_of_content_place o i small) j) (Put (sym (index_of_content_place o i small) j) v), c)),
    )

-- ---- what a call passes on of what its steps emitted

pub expected_deed_is_done : (d : ℕ → Deed) (slots o old new n : ℕ) (me first w : M) → tried d (step slots (word_place o) old new none) me n w → n ≡ old
    → me ≡ first → w ≡ (did first.0 o (d old), first.1)
expected_deed_is_done d slots o old new n me first w emitted hit is = emitted.0 hit ∙ (λ i. (did (is i).0 (object_of_word_place o i) (d (hit i)), (is i).1))

pub alone_if_same_seat : (me first : M) → me ≡ first → IsAlone first.0 → IsAlone me.0
alone_if_same_seat me first is a = subst (λ (m : M). IsAlone m.0) (sym is) a

pub looked_version_entered : (me w : M) (o n slots : ℕ) → looked_in_play (step slots (word_place o) 0 0 none) me n w
    → inside_by o (history me.0) ≡ Some Writing → (fields_of n).version ≡ entered_at o 0 (map label_by_rule (history w.0))
looked_version_entered me w o n slots emitted inside = let q = subst (λ z. IsSight (history me.0) z n) (object_of_word_place o) emitted.1 in
    q.version inside ∙ sym (ap (λ (m : M). entered_at o 0 (map label_by_rule (history m.0))) emitted.0)
