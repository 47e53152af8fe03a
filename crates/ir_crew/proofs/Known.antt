-- What is known of an object at a moment, from the object steps in their order.
use Rattle.std.proofs.Common.{◌≡◌, ◌≢◌, ℕ, zero, suc, ◌+◌, ◌*◌, ◌^◌, ◌<◌, ◌≤◌, Bool, true, false, List, [], ◌∷◌, map, length, get_or, take}
use Rattle.std.proofs.Common.{drop, Some, None, refl, sym, ap, ◌∙◌, subst, arith, inl, inr, eq-eqb, ne_eqb}
use Rattle.std.specs.List.{AllByRecursion}
use Rattle.std.proofs.lemmas.Bool.{cases_eq}
use mathlib.Core.Option.{some}
use lib.ListN.{get_elem?}
use Rattle.atomic_table.specs.Table as table
use Rattle.ir_image.specs.Guest.{Guest, most_threads, object_count, object_words}
use Rattle.ir_image.specs.Bounds.{IsWord, IsGuest}
use Rattle.ir_image.proofs.CallerLemmas.{guest_threads_within, get_or_zero-padded}
use Rattle.ir_thread.specs.State.{most_events, thread_machine}
use Rattle.ir_runs.specs.Machine.{Act, Silent, Replied, Entered, TryFailed, Left, Got, Stored, Never, Machine, Object, target, Admits, acted, emitted}
use Rattle.ir_runs.specs.Run.{join_if}
use Rattle.ir_runs.specs.declared.access.Access.TheVariants.{Reading, Writing}
use Rattle.ir_object.specs.Cell.{readers, has_writer}
use Rattle.ir_object.specs.Layout.{word_place}
use Rattle.ir_object.specs.Order.{Shared, of_thread, objects_then, objects_after, order_labels, Uses, IsObjectStep, IsLegal, inside_after}
use Rattle.ir_object.specs.Word.{fields_of, entered_word, left_by, bit_of}
use Rattle.ir_object.specs.declared.fields.Fields.{Fields}
use Rattle.ir_object.proofs.CallerLemmas.{objects_then_at_target, objects_then_other, writer_alone_after_act, WriterIsAlone}
use Rattle.ir_object.proofs.CallerLemmas.{inside_after_order, counts_after_entry, counts_after_leave, inside_thread_can_leave}
use Rattle.ir_object.proofs.CallerLemmas.{none_inside_admits_writer, readers_at_most_threads}
use Rattle.ir_runs.proofs.CallerLemmas.{upd_at_own_place, upd_at_other_place, upd_by_cases}
use Rattle.ir_crew.specs.Plays.{inside_by, version_if, version_then, entered_at}
use Rattle.ir_crew.specs.Rule.{CrewView, one_if_entry, entries, label_by_rule, start_objects, Represents, KeptByRule}
use Rattle.ir_crew.specs.declared.deed.ObjectStep.{ObjectStep}
use Rattle.ir_crew.specs.declared.deed.Track.{Track}
use Rattle.ir_crew.proofs.Counting.{all_entries, total_le_count_bound, total_of_thread_entries}

-- ---- how large the numbers get

abbrev pub weight : Fields → ℕ
weight f = f.version + f.left + f.inside + bit_of f.writer

pub record RepresentsWithin (n k : ℕ) (f : Fields) (b : Object) : Type 0 where
  pub represents : Represents n f b
  pub light : weight f ≤ k

bit_of_false : (b : Bool) → b ≡ false → bit_of b ≡ 0
bit_of_false b e = ap bit_of e

bit_of_true : (b : Bool) → b ≡ true → bit_of b ≡ 1
bit_of_true b e = ap bit_of e

-- a step makes it at most as much heavier as it is an entry
represents_after_act : {T : Type 0} (m : Machine T) (n k t : ℕ) (q : Act) (f : Fields) (b : Object) → t < n → Uses q (b.inside t) → Admits m q b
    → WriterIsAlone b.inside → RepresentsWithin n k f b → (g : Fields) × RepresentsWithin n (k + one_if_entry q) g (acted q t b)
represents_after_act m n k t Silent f b lt use_is can alone l = absurd use_is
represents_after_act m n k t (Replied i v) f b lt use_is can alone l = absurd use_is
represents_after_act m n k t (TryFailed o) f b lt use_is can alone l = absurd use_is
represents_after_act m n k t Never f b lt use_is can alone l = absurd use_is
represents_after_act m n k t (Got o i) f b lt use_is can alone l = (f, record { represents = l.represents; light = let w = l.light in omega (arith, w) })
represents_after_act m n k t (Stored o i w) f b lt use_is can alone l = (
  f,
  record {
    represents = record { version = l.represents.version; left = l.represents.left; inside = l.represents.inside };
    light = let z = l.light in
        omega (arith, z);
  },
)
represents_after_act m n k t (Entered o Reading v) f b lt use_is can alone l = (
  entered_word Reading f,
  record {
    represents = record {
      version = l.represents.version;
      left = l.represents.left;
      inside =
          counts_after_entry n f b.inside t Reading lt use_is l.represents.inside;
    };
    light = let w = l.light in omega (arith, w);
  },
)
represents_after_act m n k t (Entered o Writing v) f b lt use_is can alone l = (
  entered_word Writing f,
  record {
    represents = record {
      version = l.represents.version;
      left = l.represents.left;
      inside =
          counts_after_entry n f b.inside t Writing lt use_is l.represents.inside;
    };
    light = let w = l.light in let off = bit_of_false f.writer (none_inside_admits_writer n f b.inside l.represents.inside can).0 in omega (arith, w, off);
  },
)
represents_after_act m n k t (Left o Reading) f b lt use_is can alone l =
    let some_in : 0 < f.inside = inside_thread_can_leave n f b.inside t Reading lt use_is l.represents.inside in (
      left_by Reading f,
      record {
        represents = record {
          version = l.represents.version;
          left = let e = l.represents.left in omega (arith, e);
          inside =
              counts_after_leave n f b.inside t Reading lt use_is (λ e. absurd (cc e)) l.represents.inside;
        };
        light = let w = l.light in omega (arith, w, some_in);
      },
    )
represents_after_act m n k t (Left o Writing) f b lt use_is can alone l =
    let on = bit_of_true f.writer (inside_thread_can_leave n f b.inside t Writing lt use_is l.represents.inside) in (
      left_by Writing f,
      record {
        represents = record {
          version = let e = l.represents.version in omega (arith, e);
          left = refl;
          inside =
              counts_after_leave n f b.inside t Writing lt use_is (λ _ u ne. alone t u (λ e. ne (sym e)) use_is) l.represents.inside;
        };
        light = let w = l.light in omega (arith, w, on);
      },
    )

pub writer_alone_after_step : {T : Type 0} (m : Machine T) (n count : ℕ) (f : ℕ → Object) (x : ℕ × Shared) → IsObjectStep m n count f x
    → ((p : ℕ) → WriterIsAlone (f p).inside) → (p : ℕ) → WriterIsAlone (objects_then f x p).inside
writer_alone_after_step m n count f x s h p = elim (cases_eq p (target x.1.0)) [
  | inl e ↦ subst (λ z. WriterIsAlone (objects_then f x z).inside) (sym e)
      (subst (λ b. WriterIsAlone b.inside) (sym (objects_then_at_target f x)) (writer_alone_after_act m x.1.0 x.0 (f (target x.1.0)) s.admits (h (target x.1.0))))
  | inr ne ↦ subst (λ b. WriterIsAlone b.inside) (sym (objects_then_other f x p ne)) (h p)
]

pub writer_alone_after_steps : {T : Type 0} (m : Machine T) (n count : ℕ) (f : ℕ → Object) (xs : List (ℕ × Shared)) → IsLegal m n count f xs
    → ((p : ℕ) → WriterIsAlone (f p).inside) → (p : ℕ) → WriterIsAlone (objects_after f xs p).inside
writer_alone_after_steps m n count f [] l h = h
writer_alone_after_steps m n count f (x ∷ xs) l h = writer_alone_after_steps m n count (objects_then f x) xs l.1 (writer_alone_after_step m n count f x l.0 h)

represents_after_steps : {T : Type 0} (m : Machine T) (n count k : ℕ) (f : ℕ → Object) (xs : List (ℕ × Shared)) (o : ℕ) (g : Fields)
    → IsLegal m n count f xs → ((p : ℕ) → WriterIsAlone (f p).inside) → RepresentsWithin n k g (f o) → (h : Fields)
    × RepresentsWithin n (k + all_entries xs) h (objects_after f xs o)
represents_after_steps m n count k f [] o g l a is = (g, record { represents = is.represents; light = let w = is.light in omega (arith, w) })
represents_after_steps m n count k f (x ∷ xs) o g l a is =
    let next : (h : Fields) × RepresentsWithin n (k + one_if_entry x.1.0) h (objects_then f x o) = elim (cases_eq o (target x.1.0)) [
      | inl e ↦
          let z = represents_after_act m n k x.0 x.1.0 g (f (target x.1.0)) l.0.thread l.0.uses l.0.admits (a (target x.1.0))
          (subst (λ p. RepresentsWithin n k g (f p)) e is) in (
            z.0,
            subst (λ p. RepresentsWithin n (k + one_if_entry x.1.0) z.0 (objects_then f x p)) (sym e)
                (subst (RepresentsWithin n (k + one_if_entry x.1.0) z.0) (sym (objects_then_at_target f x)) z.1),
          )
      | inr ne ↦ (
        g,
        subst (RepresentsWithin n (k + one_if_entry x.1.0) g) (sym (objects_then_other f x o ne))
            (record { represents = is.represents; light = let w = is.light in omega (arith, w) }),
      )
    ] in
    let r = represents_after_steps m n count (k + one_if_entry x.1.0) (objects_then f x) xs o next.0 l.1 (writer_alone_after_step m n count f x l.0 a) next.1 in
    (r.0, record { represents = r.1.represents; light = let w = r.1.light in omega (arith, w) })

-- ---- contents are words

abbrev pub HasSmallWords : Object → Type 0
HasSmallWords b = (i : ℕ) → b.words i < 2 ^ 32

small_words_after_act : (q : Act) (t : ℕ) (b : Object) → Uses q (b.inside t) → HasSmallWords b → HasSmallWords (acted q t b)
small_words_after_act Silent t b u h = h
small_words_after_act (Replied k v) t b u h = h
small_words_after_act (Entered o a v) t b u h = h
small_words_after_act (TryFailed o) t b u h = h
small_words_after_act (Left o Reading) t b u h = h
small_words_after_act (Left o Writing) t b u h = h
small_words_after_act (Got o i) t b u h = h
small_words_after_act (Stored o i w) t b u h = λ j. upd_by_cases b.words i w j (λ z. z < 2 ^ 32) (λ _. u.1) (λ _. h j)
small_words_after_act Never t b u h = h

small_words_after_steps : {T : Type 0} (m : Machine T) (n count : ℕ) (f : ℕ → Object) (xs : List (ℕ × Shared)) → IsLegal m n count f xs
    → ((p : ℕ) → HasSmallWords (f p)) → (p : ℕ) → HasSmallWords (objects_after f xs p)
small_words_after_steps m n count f [] l h = h
small_words_after_steps m n count f (x ∷ xs) l h = small_words_after_steps m n count (objects_then f x) xs l.1 (λ p. elim (cases_eq p (target x.1.0)) [
  | inl e ↦ subst (λ z. HasSmallWords (objects_then f x z)) (sym e)
      (subst HasSmallWords (sym (objects_then_at_target f x)) (small_words_after_act x.1.0 x.0 (f (target x.1.0)) l.0.uses (h (target x.1.0))))
  | inr ne ↦ subst HasSmallWords (sym (objects_then_other f x p ne)) (h p)
])

-- ---- the version that a writer entered

-- while it is inside for writing, the version is v
abbrev pub VersionWhileWriting : ℕ → Object → ℕ → Type 0
VersionWhileWriting t b v = b.inside t ≡ Some Writing → b.version ≡ v

-- a step of its own on the object
own_act_writing_version : {T : Type 0} (m : Machine T) (q : Act) (t v : ℕ) (b : Object) → Uses q (b.inside t) → VersionWhileWriting t b v
    → VersionWhileWriting t (acted q t b) (version_then (target q) (emitted q b) v)
own_act_writing_version m Silent t v b u h = absurd u
own_act_writing_version m (Replied k w) t v b u h = absurd u
own_act_writing_version m (TryFailed o) t v b u h = absurd u
own_act_writing_version m Never t v b u h = absurd u
own_act_writing_version m (Entered o Reading w) t v b u h = λ _. sym (ap (λ c. version_if c b.version v) (eq-eqb o o refl))
own_act_writing_version m (Entered o Writing w) t v b u h = λ _. sym (ap (λ c. version_if c b.version v) (eq-eqb o o refl))
own_act_writing_version m (Left o Reading) t v b u h = λ is. absurd (cc (sym (upd_at_own_place b.inside t None) ∙ is))
own_act_writing_version m (Left o Writing) t v b u h = λ is. absurd (cc (sym (upd_at_own_place b.inside t None) ∙ is))
own_act_writing_version m (Got o i) t v b u h = h
own_act_writing_version m (Stored o i w) t v b u h = h

-- a step of another thread's on the object
other_act_writing_version : {T : Type 0} (m : Machine T) (q : Act) (t u v : ℕ) (b : Object) → Uses q (b.inside u) → WriterIsAlone b.inside → t ≢ u → VersionWhileWriting t b v
    → VersionWhileWriting t (acted q u b) v
other_act_writing_version m Silent t u v b s a ne h = absurd s
other_act_writing_version m (Replied k w) t u v b s a ne h = absurd s
other_act_writing_version m (TryFailed o) t u v b s a ne h = absurd s
other_act_writing_version m Never t u v b s a ne h = absurd s
other_act_writing_version m (Entered o c w) t u v b s a ne h = λ is. h (sym (upd_at_other_place b.inside u t (Some c) ne) ∙ is)
other_act_writing_version m (Left o Reading) t u v b s a ne h = λ is. h (sym (upd_at_other_place b.inside u t None ne) ∙ is)
other_act_writing_version m (Left o Writing) t u v b s a ne h = λ is. absurd (cc (sym (upd_at_other_place b.inside u t None ne) ∙ is, a u t (λ e. ne (sym e)) s))
other_act_writing_version m (Got o i) t u v b s a ne h = h
other_act_writing_version m (Stored o i w) t u v b s a ne h = h

-- what is reported of another object
other_object_no_version : (q : Act) (b : Object) (o v : ℕ) → o ≢ target q → version_then o (emitted q b) v ≡ v
other_object_no_version Silent b o v ne = refl
other_object_no_version (Replied k w) b o v ne = refl
other_object_no_version (Entered p Reading w) b o v ne = ap (λ c. version_if c b.version v) (ne_eqb o p ne)
other_object_no_version (Entered p Writing w) b o v ne = ap (λ c. version_if c b.version v) (ne_eqb o p ne)
other_object_no_version (TryFailed p) b o v ne = refl
other_object_no_version (Left p a) b o v ne = refl
other_object_no_version (Got p i) b o v ne = refl
other_object_no_version (Stored p i w) b o v ne = refl
other_object_no_version Never b o v ne = refl

steps_writing_version : {T : Type 0} (m : Machine T) (n count : ℕ) (f : ℕ → Object) (xs : List (ℕ × Shared)) (t o v : ℕ) → IsLegal m n count f xs
    → ((p : ℕ) → WriterIsAlone (f p).inside) → VersionWhileWriting t (f o) v
    → VersionWhileWriting t (objects_after f xs o) (entered_at o v (of_thread t (order_labels f xs)))
steps_writing_version m n count f [] t o v l a h = h
steps_writing_version m n count f (x ∷ xs) t o v l a h =
    let q : Act = x.1.0 in
    let b : Object = f (target q) in
    let more = of_thread t (order_labels (objects_then f x) xs) in
    let goes = λ (w : ℕ) (s : VersionWhileWriting t (objects_then f x o) w). steps_writing_version m n count (objects_then f x) xs t o w l.1
    (writer_alone_after_step m n count f x l.0 a) s in
    elim (cases_eq t x.0) [
      | inl own ↦ subst (λ c. VersionWhileWriting t (objects_after (objects_then f x) xs o) (entered_at o v (join_if c (emitted q b) more)))
          (sym (eq-eqb t x.0 own))
          (goes (version_then o (emitted q b) v) (elim (cases_eq o (target q)) [
            | inl e ↦ subst (λ p. VersionWhileWriting t (objects_then f x p) (version_then p (emitted q b) v)) (sym e)
                (subst (λ z. VersionWhileWriting t z (version_then (target q) (emitted q b) v)) (sym (objects_then_at_target f x))
                (subst (λ u. VersionWhileWriting t (acted q u b) (version_then (target q) (emitted q b) v)) own
                (own_act_writing_version m q t v b (subst (λ u. Uses q (b.inside u)) (sym own) l.0.uses) (subst (λ p. VersionWhileWriting t (f p) v) e h))))
            | inr ne ↦ subst (λ z. VersionWhileWriting t z (version_then o (emitted q b) v)) (sym (objects_then_other f x o ne))
                (subst (VersionWhileWriting t (f o)) (sym (other_object_no_version q b o v ne)) h)
          ]))
      | inr other ↦ subst (λ c. VersionWhileWriting t (objects_after (objects_then f x) xs o) (entered_at o v (join_if c (emitted q b) more)))
          (sym (ne_eqb t x.0 other))
          (goes v (elim (cases_eq o (target q)) [
            | inl e ↦ subst (λ p. VersionWhileWriting t (objects_then f x p) v) (sym e)
                (subst (λ z. VersionWhileWriting t z v) (sym (objects_then_at_target f x))
                (other_act_writing_version m q t x.0 v b l.0.uses (a (target q)) other (subst (λ p. VersionWhileWriting t (f p) v) e h)))
            | inr ne ↦ subst (λ z. VersionWhileWriting t z v) (sym (objects_then_other f x o ne)) h
          ]))
    ]

-- ---- what is known of one object as one thread steps on it

pub record IsKnownObject (n t o : ℕ) (h : List ObjectStep) (b : Object) (w : ℕ) : Type 0 where
  pub represents : Represents n (fields_of w) b
  pub light : weight (fields_of w) ≤ most_threads * most_events
  pub narrow : (fields_of w).inside ≤ most_threads
  pub inside : b.inside t ≡ inside_by o h
  pub alone : WriterIsAlone b.inside
  pub small : HasSmallWords b
  pub version : VersionWhileWriting t b (entered_at o 0 (map label_by_rule h))
  pub thread : t < n

-- two words that say the same object are equally heavy
weight_by_object : (n : ℕ) (f g : Fields) (b : Object) → Represents n f b → Represents n g b → weight f ≡ weight g
weight_by_object n f g b s t =
    let v : f.version ≡ g.version = s.version ∙ sym t.version in
    let l : f.left ≡ g.left = s.left ∙ sym t.left in
    let r : f.inside ≡ g.inside = s.inside.readers ∙ sym t.inside.readers in
    let w : bit_of f.writer ≡ bit_of g.writer = ap bit_of (s.inside.writer ∙ sym t.inside.writer) in
    omega (arith, v, l, r, w)

readers_of_nobody : (n : ℕ) → readers n (λ t. None) ≡ 0
readers_of_nobody zero = refl
readers_of_nobody (suc n) = let r = readers_of_nobody n in omega (arith, r)

has_writer_of_nobody : (n : ℕ) → has_writer n (λ t. None) ≡ false
has_writer_of_nobody zero = refl
has_writer_of_nobody (suc n) = ap (λ b. Rattle.std.specs.Prelude.◌||◌ b false) (has_writer_of_nobody n)

abbrev pub all_zero_fields : Fields
all_zero_fields = record { version = 0; left = 0; inside = 0; writer = false }

pub zero_represents_fresh : (n : ℕ) (words : ℕ → ℕ) → Represents n all_zero_fields (record { version = 0; left = 0; inside = λ t. None; words = words })
zero_represents_fresh n words = record {
  version = refl;
  left = refl;
  inside =
      record { readers = sym (readers_of_nobody n); writer = sym (has_writer_of_nobody n); others = λ t l. refl };
}

listed_word_is_32_bits : (xs : List ℕ) (i : ℕ) → AllByRecursion IsWord xs → get_or xs i 0 < 2 ^ 32
listed_word_is_32_bits [] i h = omega arith
listed_word_is_32_bits (x ∷ xs) zero h = h.0
listed_word_is_32_bits (x ∷ xs) (suc i) h = listed_word_is_32_bits xs i h.1

words_of_take_are_words : (k : ℕ) (xs : List ℕ) → AllByRecursion IsWord xs → AllByRecursion IsWord (take k xs)
words_of_take_are_words zero xs h = tt
words_of_take_are_words (suc k) [] h = tt
words_of_take_are_words (suc k) (x ∷ xs) h = (h.0, words_of_take_are_words k xs h.1)

words_of_drop_are_words : (k : ℕ) (xs : List ℕ) → AllByRecursion IsWord xs → AllByRecursion IsWord (drop k xs)
words_of_drop_are_words zero xs h = h
words_of_drop_are_words (suc k) [] h = tt
words_of_drop_are_words (suc k) (x ∷ xs) h = words_of_drop_are_words k xs h.1

abbrev pub objects_by_steps : Guest → List (ℕ × Shared) → ℕ → Object
objects_by_steps g steps = objects_after (start_objects g) steps

-- the same of all legal steps
pub small_words_by_legal : (g : Guest) (steps : List (ℕ × Shared)) → IsGuest g
    → IsLegal (thread_machine g.code) (length g.entries) (object_count g) (start_objects g) steps → (o : ℕ) → HasSmallWords (objects_by_steps g steps o)
small_words_by_legal g steps guest legal = small_words_after_steps (thread_machine g.code) (length g.entries) (object_count g) (start_objects g) steps legal
    (λ p i. let words : List ℕ = take (object_words g) (drop (object_words g * p) g.words) in
    subst (λ z. z < 2 ^ 32) (sym (get_or_zero-padded words i)) (listed_word_is_32_bits words i
    (words_of_take_are_words (object_words g) (drop (object_words g * p) g.words) (words_of_drop_are_words (object_words g * p) g.words guest.words_fit))))

writer_alone_at_start : (g : Guest) (p : ℕ) → WriterIsAlone (start_objects g p).inside
writer_alone_at_start g p t u ne is = refl

pub seat_object_is_known : (g : Guest) (x : table.State (Unit {0}) CrewView) (k : KeptByRule g x) (id o : ℕ) (q : Track) → get_elem? x.views id ≡ some (q ∷ [])
    → o < object_count g
    → IsKnownObject (length g.entries) q.thread o q.steps (objects_by_steps g k.steps o) (get_or x.words (word_place o) 0)
seat_object_is_known g x k id o q at lt =
    let m = thread_machine g.code in
    let n : ℕ = length g.entries in
    let own = (k.fits id (q ∷ []) at).0.0 in
    let l = represents_after_steps m n (object_count g) 0 (start_objects g) k.steps o all_zero_fields k.legal (writer_alone_at_start g)
    (record { represents = zero_represents_fresh n (start_objects g o).words; light = omega arith }) in
    let represents : Represents n (fields_of (get_or x.words (word_place o) 0)) (objects_by_steps g k.steps o) = k.table.words o lt in
    let same = weight_by_object n (fields_of (get_or x.words (word_place o) 0)) l.0 (objects_by_steps g k.steps o) represents l.1.represents in
    let light = l.1.light in
    let sum = total_of_thread_entries m n (object_count g) (start_objects g) k.steps k.legal in
    let few = guest_threads_within g k.guest in
    let most = total_le_count_bound n most_events (λ t. entries (of_thread t k.steps)) k.few few in
    let in_all = readers_at_most_threads n (objects_by_steps g k.steps o).inside in
    let counted = represents.inside.readers in
    record {
      represents = represents;
      light = omega (arith, same, light, sum, most, few);
      narrow = omega (arith, in_all, counted, few);
      inside = inside_after_order (start_objects g) k.steps q.thread o ∙ ap (inside_after o None) own.steps_are;
      alone = writer_alone_after_steps m n (object_count g) (start_objects g) k.steps k.legal (writer_alone_at_start g) o;
      small = small_words_by_legal g k.steps k.guest k.legal o;
      version = subst (λ ks. VersionWhileWriting q.thread (objects_by_steps g k.steps o) (entered_at o 0 ks)) own.labels_are
          (steps_writing_version m n (object_count g) (start_objects g) k.steps q.thread o 0 k.legal (writer_alone_at_start g) (λ is. absurd (cc is)));
      thread = own.thread;
    }
