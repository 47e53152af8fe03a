-- At the start no thread is inside an object.
use Rattle.std.proofs.Common.{◌≡◌, ℕ, zero, suc, ◌+◌, ◌-◌, ◌*◌, ◌<◌, ◌≤◌, List, [], ◌∷◌, ◌++◌, length, take, drop, replicate, get_or, Option, None, refl, sym, ap, ◌∙◌, subst, arith, inl, inr, false}
use Rattle.std.proofs.lemmas.List.{get_or-replicate, get_or_past, length-replicate, length-append, length-take}
use Rattle.std.proofs.lemmas.Bool.{cases_lt}
use Rattle.ir_image.specs.Guest.{Guest, object_count, object_words, most_object_words, first_words}
use Rattle.ir_image.specs.Bounds.{IsGuest}
use Rattle.ir_image.proofs.CallerLemmas.{form_words_within, guest_threads_within, guest_objects_within}
use Rattle.ir_thread.specs.State.{held_at}
use Rattle.ir_thread.specs.declared.profile.Profile.{Profile}
use Rattle.ir_thread.specs.State as thread
use Rattle.ir_runs.specs.declared.access.Access.{Access}
use Rattle.ir_object.specs.Cell.{Cell, Counts, readers, has_writer}
use Rattle.ir_object.specs.Empty.{empty}
use Rattle.ir_object.specs.Word.{bit_of}
use Rattle.ir_object.specs.declared.fields.Fields.{Fields}
use Rattle.ir_object.proofs.CallerLemmas.{none_reads_no_readers, none_writes_no_writer}
use Rattle.ir_flat.specs.Flat.{Flat, idle, cell_of, inside_of, tables, start_threads, start_cell, start_cells, start_flat, IsFlat, IsKept}

pub length_of_start_threads : (g : Guest) (budget : ℕ) (profile : Profile) (from n : ℕ) → length (start_threads g budget profile from n) ≡ n
length_of_start_threads g budget profile from zero = refl
length_of_start_threads g budget profile from (suc n) = ap suc (length_of_start_threads g budget profile (suc from) n)

pub length_of_start_cells : (g : Guest) (from n : ℕ) → length (start_cells g from n) ≡ n
length_of_start_cells g from zero = refl
length_of_start_cells g from (suc n) = ap suc (length_of_start_cells g (suc from) n)

-- one thread more
pub start_threads_suc : (g : Guest) (budget : ℕ) (profile : Profile) (from n : ℕ)
    → start_threads g budget profile from (suc n) ≡ start_threads g budget profile from n ++ thread.start_state g (from + n) budget profile ∷ []
start_threads_suc g budget profile from zero = ap (λ k. thread.start_state g k budget profile ∷ []) (let e : from ≡ from + 0 = omega arith in e)
start_threads_suc g budget profile from (suc n) = ap (λ xs. thread.start_state g from budget profile ∷ xs)
    (start_threads_suc g budget profile (suc from) n ∙ ap (λ k. start_threads g budget profile (suc from) n ++ thread.start_state g k budget profile ∷ [])
    (let e : suc from + n ≡ from + suc n = omega arith in e))

-- one object more
pub start_cells_suc : (g : Guest) (from n : ℕ) → start_cells g from (suc n) ≡ start_cells g from n ++ start_cell (first_words g (from + n)) ∷ []
start_cells_suc g from zero = ap (λ k. start_cell (first_words g k) ∷ []) (let e : from ≡ from + 0 = omega arith in e)
start_cells_suc g from (suc n) = ap (λ xs. start_cell (first_words g from) ∷ xs)
    (start_cells_suc g (suc from) n ∙ ap (λ k. start_cells g (suc from) n ++ start_cell (first_words g k) ∷ [])
    (let e : suc from + n ≡ from + suc n = omega arith in e))

-- a thread at the start holds nothing and has logged nothing
pub record IsFresh (places : ℕ) (x : thread.ThreadState) : Type 0 where
  pub none : (o : ℕ) → held_at x.held o ≡ None
  pub events : x.events ≡ 0

held_at-replicate_none : (n o : ℕ) → held_at (replicate n None) o ≡ None
held_at-replicate_none n o = elim (cases_lt o n) [
  | inl l ↦ get_or-replicate n o None None l
  | inr g ↦ get_or_past (replicate n None) o None
      (subst (λ k. k ≤ o) (sym (length-replicate n None)) g)
]

pub start_thread_is_fresh : (g : Guest) (budget : ℕ) (profile : Profile) (from n t : ℕ) → IsFresh (object_count g) (get_or (start_threads g budget profile from n) t idle)
start_thread_is_fresh g budget profile from zero t = record { none = λ o. refl; events = refl }
start_thread_is_fresh g budget profile from (suc n) zero = record { none = held_at-replicate_none (object_count g); events = refl }
start_thread_is_fresh g budget profile from (suc n) (suc t) = start_thread_is_fresh g budget profile (suc from) n t

-- a thread at the start has taken no step
pub start_has_no_steps : (guest : Guest) (budget : ℕ) (profile : Profile) (from n t : ℕ) → (get_or (start_threads guest budget profile from n) t idle).steps ≡ 0
start_has_no_steps guest budget profile from zero t = refl
start_has_no_steps guest budget profile from (suc n) zero = refl
start_has_no_steps guest budget profile from (suc n) (suc t) = start_has_no_steps guest budget profile (suc from) n t

-- a place for each object
pub length-start_held : (g : Guest) (budget : ℕ) (profile : Profile) (from n t : ℕ) → t < n → length (get_or (start_threads g budget profile from n) t idle).held ≡ object_count g
length-start_held g budget profile from zero t l = absurd (omega arith)
length-start_held g budget profile from (suc n) zero l = length-replicate (object_count g) None
length-start_held g budget profile from (suc n) (suc t) l = length-start_held g budget profile (suc from) n t (omega arith)

abbrev all_zero_fields : Fields
all_zero_fields = record { version = 0; left = 0; inside = 0; writer = false }

pub start_fields_are_zero : (g : Guest) (from n o : ℕ) → (get_or (start_cells g from n) o empty).fields ≡ all_zero_fields
start_fields_are_zero g from zero o = refl
start_fields_are_zero g from (suc n) zero = refl
start_fields_are_zero g from (suc n) (suc o) = start_fields_are_zero g (suc from) n o

-- an object has its first words
pub start_words_are_first : (g : Guest) (from n o : ℕ) → o < n → (get_or (start_cells g from n) o empty).words ≡ first_words g (from + o)
start_words_are_first g from zero o l = absurd (omega arith)
start_words_are_first g from (suc n) zero l = ap (first_words g) (let e : from ≡ from + 0 = omega arith in e)
start_words_are_first g from (suc n) (suc o) l = start_words_are_first g (suc from) n o (omega arith) ∙ ap (first_words g) (let e : suc from + o ≡ from + suc o = omega arith in e)

-- there are most_object_words of them, whatever the form
pub length_of_first_words : (g : Guest) (o : ℕ) → length (first_words g o) ≡ most_object_words
length_of_first_words g o =
    let own = take (object_words g) (drop (object_words g * o) g.words) in
    let few = length-take (object_words g) (drop (object_words g * o) g.words) in
    let most = form_words_within g.form in
    let parts = length-append own (replicate (most_object_words - length own) 0) in
    let rest = length-replicate {A = ℕ} (most_object_words - length own) 0 in
    omega (arith, few, most, parts, rest)

-- no thread is inside
pub none_inside_at_start : (g : Guest) (budget : ℕ) (profile : Profile) (o t : ℕ) → inside_of (start_flat g budget profile) o t ≡ None
none_inside_at_start g budget profile o t = (start_thread_is_fresh g budget profile 0 (length g.entries) t).none o

zero_fields_count_none : (n : ℕ) (inside : ℕ → Option Access) (f : Fields) → f ≡ all_zero_fields → ((t : ℕ) → inside t ≡ None) → Counts n f inside
zero_fields_count_none n inside f e none = record {
  readers = ap (λ z. z.inside) e ∙ sym (none_reads_no_readers n inside (λ t l h. cc (none t, h)));
  writer = ap (λ z. z.writer) e ∙ sym (none_writes_no_writer n inside (λ t l h. cc (none t, h)));
  others = λ t l. none t;
}

pub start_is_kept : (g : Guest) (budget : ℕ) (profile : Profile) → IsKept (length g.entries) (tables (start_flat g budget profile))
start_is_kept g budget profile = record {
  linked = λ t o. refl;
  exclusive = λ o t u ne w. none_inside_at_start g budget profile o u;
  others = λ t o l. none_inside_at_start g budget profile o t;
  logged = λ o.
      let f : Fields = (cell_of (start_flat g budget profile) o).fields in
      let zero_fields : f ≡ all_zero_fields = start_fields_are_zero g 0 (object_count g) o in
      let c = zero_fields_count_none (length g.entries) (inside_of (start_flat g budget profile) o) all_zero_fields refl (none_inside_at_start g budget profile o) in
      let version : f.version ≡ 0 = ap (λ z. z.version) zero_fields in
      let left : f.left ≡ 0 = ap (λ z. z.left) zero_fields in
      let inside : 0 ≡ readers (length g.entries) (inside_of (start_flat g budget profile) o) = c.readers in
      let writer : 0 ≡ bit_of (has_writer (length g.entries) (inside_of (start_flat g budget profile) o)) = ap bit_of c.writer in
      omega (arith, version, left, inside, writer);
  events = λ t l. let e = (start_thread_is_fresh g budget profile 0 (length g.entries) t).events in omega (arith, e);
}

pub start_is_flat : (g : Guest) (budget : ℕ) (profile : Profile) → IsGuest g → IsFlat (start_flat g budget profile)
start_is_flat g budget profile ok =
    let n : length (start_threads g budget profile 0 (length g.entries)) ≡ length g.entries = length_of_start_threads g budget profile 0 (length g.entries) in
    let m : length (start_cells g 0 (object_count g)) ≡ object_count g = length_of_start_cells g 0 (object_count g) in
    record {
      few_threads = omega (arith, n, guest_threads_within g ok);
      few_objects = omega (arith, m, guest_objects_within g ok);
      places = λ t l. length-start_held g budget profile 0 (length g.entries) t (omega (arith, n, l)) ∙ sym m;
      objects = λ o l. record {
        counts = zero_fields_count_none (length (start_threads g budget profile 0 (length g.entries))) (inside_of (start_flat g budget profile) o)
            (cell_of (start_flat g budget profile) o).fields (start_fields_are_zero g 0 (object_count g) o) (none_inside_at_start g budget profile o);
        words = ap length (start_words_are_first g 0 (object_count g) o (omega (arith, m, l))) ∙ length_of_first_words g (0 + o);
      };
      kept = subst (λ k. IsKept k (tables (start_flat g budget profile))) (sym n) (start_is_kept g budget profile);
    }

-- the loop that makes the threads
pub made_start_threads_step : (g : Guest) (budget : ℕ) (profile : Profile) (n : ℕ) (before after : List thread.ThreadState) (x : thread.ThreadState) → before ≡ start_threads g budget profile 0 n
    → x ≡ thread.start_state g n budget profile → after ≡ before ++ x ∷ [] → after ≡ start_threads g budget profile 0 (n + 1)
made_start_threads_step g budget profile n before after x is new made =
    made ∙ ap (λ xs. xs ++ x ∷ []) is ∙ ap (λ y. start_threads g budget profile 0 n ++ y ∷ []) new
    ∙ ap (λ k. start_threads g budget profile 0 n ++ thread.start_state g k budget profile ∷ []) (let e : n ≡ 0 + n = omega arith in e)
    ∙ sym (start_threads_suc g budget profile 0 n) ∙ ap (start_threads g budget profile 0) (let e : suc n ≡ n + 1 = omega arith in e)

-- the loop that makes the objects
pub made_start_cells_step : (g : Guest) (n : ℕ) (before after : List Cell) (x : Cell) → before ≡ start_cells g 0 n → x ≡ start_cell (first_words g n)
    → after ≡ before ++ x ∷ [] → after ≡ start_cells g 0 (n + 1)
made_start_cells_step g n before after x is new made =
    made ∙ ap (λ xs. xs ++ x ∷ []) is ∙ ap (λ y. start_cells g 0 n ++ y ∷ []) new
    ∙ ap (λ k. start_cells g 0 n ++ start_cell (first_words g k) ∷ []) (let e : n ≡ 0 + n = omega arith in e)
    ∙ sym (start_cells_suc g 0 n) ∙ ap (start_cells g 0) (let e : suc n ≡ n + 1 = omega arith in e)

pub made_start_is_flat : (g : Guest) (budget : ℕ) (profile : Profile) (f : Flat) → f.code ≡ g.code → f.threads ≡ start_threads g budget profile 0 (length g.entries)
    → f.objects ≡ start_cells g 0 (object_count g) → IsGuest g → IsFlat f
made_start_is_flat g budget profile f p q r ok = subst IsFlat (λ i. record { code = sym p i; threads = sym q i; objects = sym r i })
    (start_is_flat g budget profile ok)
