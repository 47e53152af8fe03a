-- What a word says of who is inside is kept by each step.
use Rattle.std.proofs.Common.{◌≡◌, ◌≢◌, ℕ, zero, suc, ◌+◌, ◌<◌, ◌≤◌, Bool, true, false, length, Option, Some, None, refl, sym, ap, ◌∙◌, subst, arith, inl, inr, get_or-set_same, get_or-set_other}
use Rattle.std.specs.Prelude.{◌||◌, slice_index, slice_set}
use Rattle.std.proofs.lemmas.Bool.{cases_eq, cases_lt}
use Rattle.ir_lemmas.proofs.CallerLemmas.{or_true_from_left, or_true_from_right}
use Rattle.ir_image.specs.Guest.{most_object_words}
use Rattle.ir_runs.specs.Machine.{upd, Entered, Left, Stored, Object, acted}
use Rattle.ir_runs.specs.declared.access.Access.{Access}
use Rattle.ir_runs.specs.declared.access.Access.TheVariants.{Reading, Writing}
use Rattle.ir_object.specs.declared.fields.Fields.{Fields}
use Rattle.ir_object.specs.Cell.{Cell, one_if_reading, is_writing, readers, has_writer, Counts}
use Rattle.ir_object.specs.Standing.{Admitted, CanLeave, StandsFor, WordsStand}
use Rattle.ir_object.specs.Word.{entered_word, left_by}
use Rattle.ir_runs.proofs.CallerLemmas.{upd_at_own_place, upd_at_other_place, upd_by_cases}

disjuncts_are_false : (a b : Bool) → (a || b) ≡ false → (a ≡ false) × (b ≡ false)
disjuncts_are_false false b e = (refl, e)
disjuncts_are_false true b e = absurd (cc e)

disjunction_of_false : (a b : Bool) → a ≡ false → b ≡ false → (a || b) ≡ false
disjunction_of_false false b e f = f
disjunction_of_false true b e f = absurd (cc e)

-- a change past the first n isn't counted
readers_past_count : (n : ℕ) (f : ℕ → Option Access) (t : ℕ) (x : Option Access) → n ≤ t → readers n (upd f t x) ≡ readers n f
readers_past_count zero f t x l = refl
readers_past_count (suc n) f t x l =
    let here : one_if_reading (upd f t x n) ≡ one_if_reading (f n) = ap one_if_reading (upd_at_other_place f t n x (λ e. omega (arith, e, l))) in
    let rest = readers_past_count n f t x (omega arith) in
    omega (arith, here, rest)

-- one thread changed
pub readers_by_old_and_new : (n : ℕ) (f : ℕ → Option Access) (t : ℕ) (x : Option Access) → t < n
    → readers n (upd f t x) + one_if_reading (f t) ≡ readers n f + one_if_reading x
readers_by_old_and_new zero f t x l = absurd (omega arith)
readers_by_old_and_new (suc n) f t x l = elim (cases_eq n t) [
  | inl e ↦
      let here : one_if_reading (upd f t x n) ≡ one_if_reading x = ap one_if_reading (ap (upd f t x) e ∙ upd_at_own_place f t x) in
      let was : one_if_reading (f n) ≡ one_if_reading (f t) = ap (λ z. one_if_reading (f z)) e in
      let rest = readers_past_count n f t x (omega (arith, e)) in
      omega (arith, here, was, rest)
  | inr ne ↦
      let here : one_if_reading (upd f t x n) ≡ one_if_reading (f n) = ap one_if_reading (upd_at_other_place f t n x ne) in
      let rest = readers_by_old_and_new n f t x (omega (arith, ne, l)) in
      omega (arith, here, rest)
]

pub no_readers_none_reads : (n : ℕ) (f : ℕ → Option Access) → readers n f ≡ 0 → (t : ℕ) → t < n → f t ≢ Some Reading
no_readers_none_reads zero f e t l = absurd (omega arith)
no_readers_none_reads (suc n) f e t l = elim (cases_eq t n) [
  | inl same ↦ λ h. let one : one_if_reading (f n) ≡ 1 = ap one_if_reading (ap f (sym same) ∙ h) in omega (arith, one, e)
  | inr ne ↦ no_readers_none_reads n f (omega arith) t (omega (arith, ne, l))
]

pub none_reads_no_readers : (n : ℕ) (f : ℕ → Option Access) → ((t : ℕ) → t < n → f t ≢ Some Reading) → readers n f ≡ 0
none_reads_no_readers zero f h = refl
none_reads_no_readers (suc n) f h =
    let rest = none_reads_no_readers n f (λ t l. h t (omega arith)) in
    let here : one_if_reading (f n) ≡ 0 = by (f n) (h n (omega arith)) in
    omega (arith, here, rest)
  where
    by : (x : Option Access) → x ≢ Some Reading → one_if_reading x ≡ 0
    by None g = refl
    by (Some Reading) g = absurd (g refl)
    by (Some Writing) g = refl

readers_positive : (n : ℕ) (f : ℕ → Option Access) (t : ℕ) → t < n → f t ≡ Some Reading → 0 < readers n f
readers_positive n f t l e = elim (cases_eq (readers n f) 0) [ inl z ↦ absurd (no_readers_none_reads n f z t l e) | inr ne ↦ omega arith ]

pub no_writer_none_writes : (n : ℕ) (f : ℕ → Option Access) → has_writer n f ≡ false → (t : ℕ) → t < n → f t ≢ Some Writing
no_writer_none_writes zero f e t l = absurd (omega arith)
no_writer_none_writes (suc n) f e t l = elim (cases_eq t n) [
  | inl same ↦ λ h. let one : is_writing (f n) ≡ true = ap is_writing (ap f (sym same) ∙ h) in
      cc (one, (disjuncts_are_false (has_writer n f) (is_writing (f n)) e).1)
  | inr ne ↦ no_writer_none_writes n f (disjuncts_are_false _ _ e).0 t (omega (arith, ne, l))
]

pub none_writes_no_writer : (n : ℕ) (f : ℕ → Option Access) → ((t : ℕ) → t < n → f t ≢ Some Writing) → has_writer n f ≡ false
none_writes_no_writer zero f h = refl
none_writes_no_writer (suc n) f h = disjunction_of_false _ _ (none_writes_no_writer n f (λ t l. h t (omega arith))) (by (f n) (h n (omega arith)))
  where
    by : (x : Option Access) → x ≢ Some Writing → is_writing x ≡ false
    by None g = refl
    by (Some Reading) g = refl
    by (Some Writing) g = absurd (g refl)

pub has_writer_if_writer : (n : ℕ) (f : ℕ → Option Access) (t : ℕ) → t < n → f t ≡ Some Writing → has_writer n f ≡ true
has_writer_if_writer zero f t l e = absurd (omega arith)
has_writer_if_writer (suc n) f t l e = elim (cases_eq t n) [
  | inl same ↦ or_true_from_right _ _ (ap is_writing (ap f (sym same) ∙ e))
  | inr ne ↦ or_true_from_left _ _ (has_writer_if_writer n f t (omega (arith, ne, l)) e)
]

-- a change that puts no writer in and takes none out
pub has_writer_unchanged : (n : ℕ) (f : ℕ → Option Access) (t : ℕ) (x : Option Access) → is_writing x ≡ is_writing (f t)
    → has_writer n (upd f t x) ≡ has_writer n f
has_writer_unchanged zero f t x e = refl
has_writer_unchanged (suc n) f t x e =
    ap (λ a. a || is_writing (upd f t x n)) (has_writer_unchanged n f t x e) ∙ ap (λ b. has_writer n f || b)
    (upd_by_cases f t x n (λ y. is_writing y ≡ is_writing (f n)) (λ same. e ∙ ap (λ z. is_writing (f z)) (sym same)) (λ _. refl))

others_outside_change : (n : ℕ) (f : ℕ → Option Access) (t : ℕ) (x : Option Access) → t < n → ((u : ℕ) → n ≤ u → f u ≡ None) → (u : ℕ) → n ≤ u
    → upd f t x u ≡ None
others_outside_change n f t x l h u g = upd_at_other_place f t u x (λ e. omega (arith, e, l, g)) ∙ h u g

-- a reader may enter where no writer is inside
pub admitted_reader_no_writer : (n : ℕ) (f : Fields) (inside : ℕ → Option Access) → Counts n f inside → Admitted Reading f → (u : ℕ)
    → inside u ≢ Some Writing
admitted_reader_no_writer n f inside c e u = elim (cases_lt u n)
    [ inl l ↦ no_writer_none_writes n inside (sym c.writer ∙ e) u l | inr g ↦ λ h. cc (h, c.others u g) ]

pub no_writer_admits_reader : (n : ℕ) (f : Fields) (inside : ℕ → Option Access) → Counts n f inside → ((u : ℕ) → inside u ≢ Some Writing)
    → Admitted Reading f
no_writer_admits_reader n f inside c h = c.writer ∙ none_writes_no_writer n inside (λ t l. h t)

none_if_neither_access : (x : Option Access) → x ≢ Some Reading → x ≢ Some Writing → x ≡ None
none_if_neither_access None a b = refl
none_if_neither_access (Some Reading) a b = absurd (a refl)
none_if_neither_access (Some Writing) a b = absurd (b refl)

-- a writer may enter if no thread is inside
pub admitted_writer_is_alone : (n : ℕ) (f : Fields) (inside : ℕ → Option Access) → Counts n f inside → Admitted Writing f → (u : ℕ) → inside u ≡ None
admitted_writer_is_alone n f inside c e u = elim (cases_lt u n) [
  | inl l ↦ none_if_neither_access (inside u) (no_readers_none_reads n inside (sym c.readers ∙ e.1) u l) (no_writer_none_writes n inside (sym c.writer ∙ e.0) u l)
  | inr g ↦ c.others u g
]

pub none_inside_admits_writer : (n : ℕ) (f : Fields) (inside : ℕ → Option Access) → Counts n f inside → ((u : ℕ) → inside u ≡ None)
    → Admitted Writing f
none_inside_admits_writer n f inside c h = (
  c.writer ∙ none_writes_no_writer n inside (λ t l e. cc (h t, e)),
  c.readers
      ∙ none_reads_no_readers n inside (λ t l e. cc (h t, e)),
)

-- a thread that isn't inside enters
pub counts_after_entry : (n : ℕ) (f : Fields) (inside : ℕ → Option Access) (t : ℕ) (a : Access) → t < n → inside t ≡ None → Counts n f inside
    → Counts n (entered_word a f) (upd inside t (Some a))
counts_after_entry n f inside t Reading l e c = record {
  readers =
      let was : one_if_reading (inside t) ≡ 0 = ap one_if_reading e in
      let sums = readers_by_old_and_new n inside t (Some Reading) l in
      let counted = c.readers in
      omega (arith, was, sums, counted);
  writer = c.writer ∙ sym (has_writer_unchanged n inside t (Some Reading) (sym (ap is_writing e)));
  others = others_outside_change n inside t (Some Reading) l c.others;
}
counts_after_entry n f inside t Writing l e c = record {
  readers =
      let was : one_if_reading (inside t) ≡ 0 = ap one_if_reading e in
      let sums = readers_by_old_and_new n inside t (Some Writing) l in
      let counted = c.readers in
      omega (arith, was, sums, counted);
  writer = sym (has_writer_if_writer n (upd inside t (Some Writing)) t l (upd_at_own_place inside t (Some Writing)));
  others = others_outside_change n inside t (Some Writing) l c.others;
}

-- whoever is inside may leave
pub inside_thread_can_leave : (n : ℕ) (f : Fields) (inside : ℕ → Option Access) (t : ℕ) (a : Access) → t < n → inside t ≡ Some a → Counts n f inside
    → CanLeave a f
inside_thread_can_leave n f inside t Reading l e c = let some = readers_positive n inside t l e in let counted = c.readers in omega (arith, some, counted)
inside_thread_can_leave n f inside t Writing l e c = c.writer ∙ has_writer_if_writer n inside t l e

-- a thread that is inside leaves; a writer is alone inside
pub counts_after_leave : (n : ℕ) (f : Fields) (inside : ℕ → Option Access) (t : ℕ) (a : Access) → t < n → inside t ≡ Some a
    → (a ≡ Writing → (u : ℕ) → u ≢ t → inside u ≡ None) → Counts n f inside → Counts n (left_by a f) (upd inside t None)
counts_after_leave n f inside t Reading l e alone c = record {
  readers =
      let was : one_if_reading (inside t) ≡ 1 = ap one_if_reading e in
      let sums = readers_by_old_and_new n inside t None l in
      let counted = c.readers in
      omega (arith, was, sums, counted);
  writer = c.writer ∙ sym (has_writer_unchanged n inside t None (sym (ap is_writing e)));
  others = others_outside_change n inside t None l c.others;
}
counts_after_leave n f inside t Writing l e alone c = record {
  readers = sym (none_reads_no_readers n (upd inside t None) (λ u _ h. cc (nobody u, h)));
  writer = sym (none_writes_no_writer n (upd inside t None) (λ u _ h. cc (nobody u, h)));
  others = others_outside_change n inside t None l c.others;
}
  where
    nobody : (u : ℕ) → upd inside t None u ≡ None
    nobody u = upd_by_cases inside t None u (λ x. x ≡ None) (λ _. refl) (λ ne. alone refl u ne)

pub words_stand : WordsStand
words_stand = record {
  reads = λ n f inside c. (admitted_reader_no_writer n f inside c, no_writer_admits_reader n f inside c);
  writes = λ n f inside c. (admitted_writer_is_alone n f inside c, none_inside_admits_writer n f inside c);
  leaves = λ n f inside t a l e c. inside_thread_can_leave n f inside t a l e c;
  entry = entries;
  exit = exits;
  store = stores;
}
  where
    entries : (n : ℕ) (c : Cell) (b : Object) (t : ℕ) (a : Access) (v : ℕ) → t < n → b.inside t ≡ None → StandsFor n c b
        → StandsFor n (record c { fields = entered_word a c.fields }) (acted (Entered 0 a v) t b)
    entries n c b t Reading v l e s = record {
      version = s.version;
      left = s.left;
      inside =
          counts_after_entry n c.fields b.inside t Reading l e s.inside;
      words = s.words;
    }
    entries n c b t Writing v l e s = record {
      version = s.version;
      left = s.left;
      inside =
          counts_after_entry n c.fields b.inside t Writing l e s.inside;
      words = s.words;
    }

    exits : (n : ℕ) (c : Cell) (b : Object) (t : ℕ) (a : Access) → t < n → b.inside t ≡ Some a
        → (a ≡ Writing → (u : ℕ) → u ≢ t → b.inside u ≡ None) → StandsFor n c b
        → StandsFor n (record c { fields = left_by a c.fields }) (acted (Left 0 a) t b)
    exits n c b t Reading l e alone s = record {
      version = s.version;
      left = let was = s.left in omega (arith, was);
      inside =
          counts_after_leave n c.fields b.inside t Reading l e alone s.inside;
      words = s.words;
    }
    exits n c b t Writing l e alone s = record {
      version = let was = s.version in omega (arith, was);
      left = refl;
      inside =
          counts_after_leave n c.fields b.inside t Writing l e alone s.inside;
      words = s.words;
    }

    stores : (n : ℕ) (c : Cell) (b : Object) (t i v : ℕ) → length c.words ≡ most_object_words → i < most_object_words → StandsFor n c b
        → StandsFor n (record c { words = slice_set c.words i v }) (acted (Stored 0 i v) t b)
    stores n c b t i v count l s = record {
      version = s.version;
      left = s.left;
      inside = s.inside;
      words = λ j k. elim (cases_eq j i) [
        | inl e ↦ subst (λ z. slice_index (slice_set c.words i v) z ≡ upd b.words i v z) (sym e)
            (get_or-set_same c.words i v 0 (omega (arith, count, l)) ∙ sym (upd_at_own_place b.words i v))
        | inr ne ↦ get_or-set_other c.words i j v 0 ne ∙ s.words j k ∙ sym (upd_at_other_place b.words i j v ne)
      ];
    }

pub readers_at_most_threads : (n : ℕ) (f : ℕ → Option Access) → readers n f ≤ n
readers_at_most_threads zero f = omega arith
readers_at_most_threads (suc n) f = let r = readers_at_most_threads n f in let s = one_at_most (f n) in omega (arith, r, s)
  where
    one_at_most : (x : Option Access) → one_if_reading x ≤ 1
    one_at_most None = omega arith
    one_at_most (Some Reading) = omega arith
    one_at_most (Some Writing) = omega arith
