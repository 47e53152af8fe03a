-- What is read is within the limits of a guest.
use Rattle.std.proofs.Common.{◌≡◌, ℕ, ◌*◌, ◌/◌, ◌%◌, ◌≤◌, cond, eqb, leb, ltb, Bool, true, false, refl, List, length, take, Option, Some}
use Rattle.std.proofs.Common.{None, Result, Ok, Err, subst, sym, arith, length-take, length-take-le}
use Rattle.std.specs.List.{AllByRecursion}
use Rattle.std.proofs.lemmas.Bool.{leb-true, eqb-true, and_parts}
use Rattle.ir_bytes.specs.Reading.{◌>>=◌, field_at, fields_at}
use Rattle.ir_bytes.proofs.CallerLemmas.{two_binds_are_ok, four_binds_are_ok, test_passed_if_ok, ok_is_injective, test_true_if_no_fault, number_within}
use Rattle.ir_image.specs.declared.form.ImageForm.{ImageForm}
use Rattle.ir_image.specs.declared.form.ImageForm.TheVariants.{Small, Large}
use Rattle.ir_image.specs.Guest.{limits_of, Guest, memory_size, most_code_words, object_words, object_count}
use Rattle.ir_image.specs.Bounds.{IsWord, IsByte, IsGuest, IsPlace}
use Rattle.ir_image.specs.Fields.{is_place}
use Rattle.ir_elf.specs.declared.part.Part.TheVariants.{Memory}
use Rattle.ir_elf.specs.declared.refusal.Refusal.{Refusal}
use Rattle.ir_elf.specs.declared.refusal.Refusal.TheVariants.{Table, Entry, NoCode}
use Rattle.ir_elf.specs.Refusal.{refusal_unless}
use Rattle.ir_elf.specs.Segments.{Segment}
use Rattle.ir_elf.specs.Memory.{memory_of, table_of, words_in}
use Rattle.ir_elf.specs.Table.{TableParts, form_field, table_form, threads_field, table_entry_field, table_entry_at, are_objects, table_at}
use Rattle.ir_elf.specs.Reading.{code_memory, code_words, data_bytes, table_found, guest_of}
use Rattle.ir_elf.proofs.Fields.{field_read_passes_test, fields_at_are_read}
use Rattle.ir_elf.proofs.Words.{length-words_in_own}
use Rattle.ir_image.proofs.CallerLemmas.{place_test_sound}

-- ---- the table

-- what a table says is within the limits of its form, and in code of `code` words
pub record IsWithin (code : ℕ) (t : TableParts) : Type 0 where
  pub some_thread : 1 ≤ length t.entries
  pub few_threads : length t.entries ≤ (limits_of t.form).threads
  pub entries_fit : AllByRecursion (IsPlace code) t.entries
  pub whole_objects : length t.words % (limits_of t.form).words ≡ 0
  pub few_objects : length t.words / (limits_of t.form).words ≤ (limits_of t.form).objects

entry_read_is_place : (words : ℕ) (bytes : List ℕ) (n : ℕ × List ℕ) → table_entry_at words bytes ≡ Ok n → IsPlace words n.0
entry_read_is_place words bytes n e = place_test_sound words n.0 (test_true_if_no_fault (is_place words n.0) Entry (field_read_passes_test Table (table_entry_field words) bytes n e))

word_count_is_whole : (form : ImageForm) (n : ℕ) → n % (4 * (limits_of form).words) ≡ 0 → n / 4 % (limits_of form).words ≡ 0
word_count_is_whole Small n e = omega (arith, e)
word_count_is_whole Large n e = omega (arith, e)

object_number_within : (form : ImageForm) (n : ℕ) → n ≤ 4 * ((limits_of form).words * (limits_of form).objects)
    → n / 4 / (limits_of form).words ≤ (limits_of form).objects
object_number_within Small n h = omega (arith, h)
object_number_within Large n h = omega (arith, h)

-- the objects' words of bytes that are those of whole objects
record AreObjects (form : ImageForm) (words : List ℕ) : Type 0 where
  whole : length words % (limits_of form).words ≡ 0
  few : length words / (limits_of form).words ≤ (limits_of form).objects

words_are_objects : (form : ImageForm) (own : List ℕ) → are_objects form (length own) ≡ true → AreObjects form (words_in own)
words_are_objects form own h =
    let both = and_parts (eqb (length own % (4 * (limits_of form).words)) 0)
    (leb (length own) (4 * ((limits_of form).words * (limits_of form).objects))) h in
    record {
      whole = subst (λ (n : ℕ). n % (limits_of form).words ≡ 0) (sym (length-words_in_own own)) (word_count_is_whole form (length own) (eqb-true _ _ both.0));
      few = subst (λ (n : ℕ). n / (limits_of form).words ≤ (limits_of form).objects) (sym (length-words_in_own own))
          (object_number_within form (length own) (leb-true _ _ both.1));
    }

abbrev pub table_parts_by : ImageForm → List ℕ → List ℕ → TableParts
table_parts_by form entries own = record { form = form; entries = entries; words = words_in own }

pub read_table_within : (code : ℕ) (bytes : List ℕ) (t : TableParts) → table_at code bytes ≡ Ok t → IsWithin code t
unfolding table_at
read_table_within code bytes t e =
    four_binds_are_ok (field_at Table form_field bytes) (λ form. field_at Table (threads_field (table_form form.0)) form.1)
    (λ form threads. fields_at (table_entry_at code) threads.0 threads.1)
    (λ form threads entries. cond (are_objects (table_form form.0) (length entries.1)) (Ok (table_parts_by (table_form form.0) entries.0 entries.1)) (Err Table))
    t e (λ form threads entries e0 e1 e2 e3.
    let f = table_form form.0 in
    let n = number_within 1 (limits_of f).threads threads.0 Table (field_read_passes_test Table (threads_field f) form.1 threads e1) in
    let own = fields_at_are_read (IsPlace code) (table_entry_at code) (entry_read_is_place code) threads.0 threads.1 entries e2 in
    let p = test_passed_if_ok (are_objects f (length entries.1)) Table (table_parts_by f entries.0 entries.1) t e3 in
    let objects = words_are_objects f entries.1 p.0 in
    subst (IsWithin code) p.1 (record {
      some_thread = let count = own.count in let some = n.0 in omega (arith, count, some);
      few_threads = subst (λ (k : ℕ). k ≤ (limits_of f).threads) (sym own.count) n.1;
      entries_fit = own.each;
      whole_objects = objects.whole;
      few_objects = objects.few;
    }))

-- ---- the guest

-- a step after a test that was passed
pub parts_of_ok_unless : {A : Type 0} (b : Bool) (refusal : Refusal) (step : Result A Refusal) (x : A) → refusal_unless b refusal step ≡ Ok x
    → (b ≡ true) × (step ≡ Ok x)
parts_of_ok_unless true refusal step x e = (refl, e)
parts_of_ok_unless false refusal step x e = absurd cc

-- the limits of a guest, but for what its numbers' types say
pub record HasLimits (g : Guest) : Type 0 where
  pub some_thread : 1 ≤ length g.entries
  pub few_threads : length g.entries ≤ (limits_of g.form).threads
  pub short_code : length g.code ≤ most_code_words
  pub short_data : length g.bytes ≤ memory_size
  pub whole_objects : length g.words % object_words g ≡ 0
  pub few_objects : object_count g ≤ (limits_of g.form).objects
  pub entries_fit : AllByRecursion (IsPlace (length g.code)) g.entries

found_table_within : (code : ℕ) (table : Option (List ℕ)) (t : TableParts) → table_found code table ≡ Ok t → IsWithin code t
found_table_within code (Some table) t e = read_table_within code table t e
found_table_within code None t e = absurd cc

-- how many words of code there are
length-words_in_take : (n : ℕ) (memory : List ℕ) → length memory ≡ 4 * most_code_words → n ≤ most_code_words → length (words_in (take (4 * n) memory)) ≡ n
length-words_in_take n memory whole few =
    let count = length-words_in_own (take (4 * n) memory) in
    let taken = length-take-le (4 * n) memory (omega (arith, whole, few)) in
    omega (arith, count, taken)

take_within_memory : (n : ℕ) (memory : List ℕ) → n ≤ memory_size → length (take n memory) ≤ memory_size
take_within_memory n memory few = let least = length-take n memory in omega (arith, few, least)

abbrev pub guest_by : List Segment → TableParts → Guest
guest_by segments t = record {
  form = t.form;
  entries = t.entries;
  code = words_in (take (4 * code_words segments) (code_memory segments));
  bytes = take (data_bytes segments) (memory_of Memory segments);
  words = t.words;
}

pub segments_guest_has_limits : (segments : List Segment) (g : Guest) → code_words segments ≤ most_code_words → data_bytes segments ≤ memory_size
    → length (code_memory segments) ≡ 4 * most_code_words → guest_of segments ≡ Ok g → HasLimits g
unfolding guest_of
segments_guest_has_limits segments g short_code short_data whole e =
    let p = parts_of_ok_unless (ltb 0 (code_words segments)) NoCode
    (table_found (code_words segments) (table_of segments) >>= λ t. Ok (guest_by segments t)) g e in
    two_binds_are_ok (table_found (code_words segments) (table_of segments)) (λ t. Ok (guest_by segments t)) g p.1 (λ t e0 e1.
    let w = found_table_within (code_words segments) (table_of segments) t e0 in
    let count = length-words_in_take (code_words segments) (code_memory segments) whole short_code in
    subst HasLimits (ok_is_injective Refusal (guest_by segments t) g e1) (record {
      some_thread = w.some_thread;
      few_threads = w.few_threads;
      short_code = subst (λ (k : ℕ). k ≤ most_code_words) (sym count) short_code;
      short_data = take_within_memory (data_bytes segments) (memory_of Memory segments) short_data;
      whole_objects = w.whole_objects;
      few_objects = w.few_objects;
      entries_fit = subst (λ (k : ℕ). AllByRecursion (IsPlace k) t.entries) (sym count) w.entries_fit;
    }))

pub limited_guest_is_guest : (g : Guest) → HasLimits g → AllByRecursion IsWord g.code → AllByRecursion IsByte g.bytes → AllByRecursion IsWord g.words
    → IsGuest g
limited_guest_is_guest g h code bytes words = record {
  some_thread = h.some_thread;
  few_threads = h.few_threads;
  short_code = h.short_code;
  short_data = h.short_data;
  whole_objects = h.whole_objects;
  few_objects = h.few_objects;
  entries_fit = h.entries_fit;
  code_fits = code;
  bytes_fit = bytes;
  words_fit = words;
}

-- ---- numbers of a type
