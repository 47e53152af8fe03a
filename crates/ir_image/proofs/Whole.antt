-- What is read is encoded so, and what is encoded so is read.
use Rattle.std.proofs.Common.{◌≡◌, ℕ, ◌*◌, ◌<◌, ◌≤◌, cond, eqb, List, [], ◌∷◌, ◌++◌, length, slice_index, Ok, Err, refl, sym, ap, subst, ◌∙◌, append_assoc, arith}
use Rattle.std.specs.List.{AllByRecursion}
use Rattle.std.proofs.lemmas.Bool.{eqb-true}
use Rattle.std.proofs.lemmas.List.{append-nil, nil_from_length}
use Rattle.byteorder.specs.Endian.{little_bytes}
use Rattle.ir_bytes.specs.Reading.{field_at, bytes_at, fields_at}
use Rattle.ir_bytes.proofs.CallerLemmas.{two_binds_are_ok, five_binds_are_ok, six_binds_are_ok, test_passed_if_ok, ok_is_injective}
use Rattle.ir_bytes.proofs.CallerLemmas.{number_within, within_has_no_fault, IsBytes, is_bytes_by_elements, Takes, takes_append, TakesField}
use Rattle.ir_bytes.proofs.CallerLemmas.{field_at_takes_field, field_at-little_bytes, takes_single_byte, field_at_of_byte, TakesBytes}
use Rattle.ir_bytes.proofs.CallerLemmas.{bytes_at_takes_bytes, bytes_at_of_append, TakesFields, fields_at_takes_fields}
use Rattle.ir_bytes.proofs.CallerLemmas.{fields_at_of_encodings}
use Rattle.ir_image.specs.declared.counts.Counts.{Counts}
use Rattle.ir_image.specs.declared.image_err.ImageErr.{ImageErr}
use Rattle.ir_image.specs.declared.image_err.ImageErr.TheVariants.{Short, Count, Trailing}
use Rattle.ir_image.specs.Guest.{Guest, memory_size, most_code_words, object_count, limits_of, image_magic, form_at, counts_at, body_at, guest_at}
use Rattle.ir_image.specs.Bounds.{IsWord, IsGuest, IsPlace}
use Rattle.ir_image.specs.Fields.{image_threads_field, image_objects_field, words_field, bytes_field, entry_at, word_at}
use Rattle.ir_image.specs.declared.form.ImageForm.{ImageForm}
use Rattle.ir_image.specs.Encoding.{counts_of, counts_encoding, words_encoding, body_encoding, encoding}
use Rattle.ir_image.proofs.Forms.{words_div_is_objects, whole_words_divide, whole_words_multiply}
use Rattle.ir_image.proofs.Fields.{form_at_takes_magic, form_at_of_magic, word_at_takes_word, word_at_of_little_bytes, entry_at_takes_bytes, entry_at-little_bytes}

-- ---- the counts

-- counts within their limits
record IsWithin (c : Counts) : Type 0 where
  some_thread : 1 ≤ c.threads
  few_threads : c.threads ≤ (limits_of c.form).threads
  few_objects : c.objects ≤ (limits_of c.form).objects
  short_code : c.words ≤ most_code_words
  short_data : c.bytes ≤ memory_size

-- what reading the counts takes
record TakesCounts (all : List ℕ) (x : Counts × List ℕ) : Type 0 where
  takes : Takes all (counts_encoding x.0) x.1
  within : IsWithin x.0

counts_fields_take : (all : List ℕ) (first : ImageForm × List ℕ) (threads objects words bytes : ℕ × List ℕ) → Takes all (image_magic first.0) first.1
    → TakesField (image_threads_field first.0) first.1 threads → TakesField (image_objects_field first.0) threads.1 objects
    → TakesField words_field objects.1 words → TakesField bytes_field words.1 bytes
    → TakesCounts all (record { form = first.0; threads = threads.0; objects = objects.0; words = words.0; bytes = bytes.0 }, bytes.1)
counts_fields_take all first threads objects words bytes t0 t1 t2 t3 t4 =
    let n = number_within 1 (limits_of first.0).threads threads.0 Count t1.passes in
    let m = number_within 0 (limits_of first.0).objects objects.0 Count t2.passes in
    let c = number_within 0 most_code_words words.0 Count t3.passes in
    let d = number_within 0 memory_size bytes.0 Count t4.passes in
    let second = takes_append threads.1 (objects.0 ∷ []) objects.1 (little_bytes 4 words.0) words.1
    (takes_single_byte threads.1 objects t2.takes t2.fits) t3.takes in
    let third = takes_append threads.1 (objects.0 ∷ [] ++ little_bytes 4 words.0) words.1 (little_bytes 4 bytes.0) bytes.1 second t4.takes
    in
    let fourth = takes_append first.1 (threads.0 ∷ []) threads.1 ((objects.0 ∷ [] ++ little_bytes 4 words.0) ++ little_bytes 4 bytes.0)
    bytes.1 (takes_single_byte first.1 threads t1.takes t1.fits) third in
    record {
      takes = takes_append all (image_magic first.0) first.1
          (threads.0 ∷ [] ++ ((objects.0 ∷ [] ++ little_bytes 4 words.0) ++ little_bytes 4 bytes.0)) bytes.1 t0 fourth;
      within = record { some_thread = n.0; few_threads = n.1; few_objects = m.1; short_code = c.1; short_data = d.1 };
    }

counts_at_takes_counts : (all : List ℕ) (x : Counts × List ℕ) → IsBytes all → counts_at all ≡ Ok x → TakesCounts all x
unfolding counts_at
counts_at_takes_counts all x fits e =
    six_binds_are_ok (form_at all) (λ first. field_at Short (image_threads_field first.0) first.1)
    (λ first threads. field_at Short (image_objects_field first.0) threads.1)
    (λ first threads objects. field_at Short words_field objects.1) (λ first threads objects words. field_at Short bytes_field words.1)
    (λ first threads objects words bytes. Ok
    (record { form = first.0; threads = threads.0; objects = objects.0; words = words.0; bytes = bytes.0 }, bytes.1)) x e
    (λ first threads objects words bytes e0 e1 e2 e3 e4 e5.
    let t0 = form_at_takes_magic all first fits e0 in
    let t1 = field_at_takes_field Short (image_threads_field first.0) first.1 threads t0.rest_fits e1 in
    let t2 = field_at_takes_field Short (image_objects_field first.0) threads.1 objects t1.takes.rest_fits e2 in
    let t3 = field_at_takes_field Short words_field objects.1 words t2.takes.rest_fits e3 in
    let t4 = field_at_takes_field Short bytes_field words.1 bytes t3.takes.rest_fits e4 in
    subst (λ (y : Counts × List ℕ). TakesCounts all y)
    (ok_is_injective ImageErr (record { form = first.0; threads = threads.0; objects = objects.0; words = words.0; bytes = bytes.0 }, bytes.1) x e5)
    (counts_fields_take all first threads objects words bytes t0 t1 t2 t3 t4))

counts_at_of_encoding : (c : Counts) (rest : List ℕ) → IsWithin c → counts_at (counts_encoding c ++ rest) ≡ Ok (c, rest)
unfolding counts_at
counts_at_of_encoding c rest within =
    let r3 = little_bytes 4 c.bytes ++ rest in
    let r2 = little_bytes 4 c.words ++ r3 in
    let e0 = form_at_of_magic c.form (c.threads ∷ c.objects ∷ r2) in
    let e1 = field_at_of_byte Short (image_threads_field c.form) c.threads (c.objects ∷ r2) refl
    (within_has_no_fault 1 (limits_of c.form).threads c.threads Count within.some_thread within.few_threads) in
    let e2 = field_at_of_byte Short (image_objects_field c.form) c.objects r2 refl
    (within_has_no_fault 0 (limits_of c.form).objects c.objects Count (omega arith) within.few_objects)
    in
    let e3 = field_at-little_bytes Short words_field c.words r3 (omega arith)
    (within_has_no_fault 0 most_code_words c.words Count (omega arith) within.short_code)
    in
    let e4 = field_at-little_bytes Short bytes_field c.bytes rest (omega arith)
    (within_has_no_fault 0 memory_size c.bytes Count (omega arith) within.short_data) in
    ap counts_at (append_assoc (image_magic c.form) (c.threads ∷ c.objects ∷ [] ++ little_bytes 4 c.words ++ little_bytes 4 c.bytes) rest)
    ∙ rw (e0, e1, e2, e3, e4) refl

-- ---- what follows the counts

-- what reading the rest of an image takes
record TakesBody (c : Counts) (all : List ℕ) (g : Guest) : Type 0 where
  counts : counts_of g ≡ c
  fits : IsGuest g
  parts : all ≡ body_encoding g

counts_of_guest_is : (g : Guest) (c : Counts) → g.form ≡ c.form → length g.entries ≡ c.threads → object_count g ≡ c.objects
    → length g.code ≡ c.words → length g.bytes ≡ c.bytes → counts_of g ≡ c
counts_of_guest_is g c f n m w d = λ i. record { form = f i; threads = n i; objects = m i; words = w i; bytes = d i }

append_assoc_4 : (a b c d : List ℕ) → a ++ (b ++ (c ++ d)) ≡ a ++ b ++ c ++ d
append_assoc_4 a b c d = simp append_assoc

-- four parts, and nothing after them
append_4_and_nothing : (all a r0 b r1 c r2 d r3 : List ℕ) → all ≡ a ++ r0 → r0 ≡ b ++ r1 → r1 ≡ c ++ r2 → r2 ≡ d ++ r3 → r3 ≡ []
    → all ≡ a ++ b ++ c ++ d
append_4_and_nothing all a r0 b r1 c r2 d r3 p0 p1 p2 p3 p4 =
    let last : r2 ≡ d = p3 ∙ ap (λ (x : List ℕ). d ++ x) p4 ∙ append-nil d in
    p0 ∙ ap (λ (x : List ℕ). a ++ x) (p1 ∙ ap (λ (x : List ℕ). b ++ x) (p2 ∙ ap (λ (x : List ℕ). c ++ x) last)) ∙ append_assoc_4 a b c d

body_fields_take_body : (c : Counts) (all : List ℕ) (entries code initial words : List ℕ × List ℕ) → IsWithin c
    → TakesFields (IsPlace c.words) (little_bytes 4) c.threads all entries → TakesFields IsWord (little_bytes 4) c.words entries.1 code
    → TakesBytes c.bytes code.1 initial → TakesFields IsWord (little_bytes 4) ((limits_of c.form).words * c.objects) initial.1 words
    → words.1 ≡ [] → TakesBody c all (record { form = c.form; entries = entries.0; code = code.0; bytes = initial.0; words = words.0 })
body_fields_take_body c all entries code initial words within t0 t1 t2 t3 nothing =
    let objects = words_div_is_objects c.form (length words.0) c.objects t3.count in
    record {
      counts = counts_of_guest_is (record { form = c.form; entries = entries.0; code = code.0; bytes = initial.0; words = words.0 }) c refl t0.count
          objects t1.count t2.count;
      fits = record {
        some_thread = omega (arith, t0.count);
        few_threads = let few = within.few_threads in omega (arith, few, t0.count);
        short_code = omega (arith, t1.count);
        short_data = omega (arith, t2.count);
        whole_objects = whole_words_divide c.form (length words.0) c.objects t3.count;
        few_objects = let few = within.few_objects in omega (arith, few, objects);
        entries_fit = subst (λ (k : ℕ). AllByRecursion (IsPlace k) entries.0) (sym t1.count) t0.fit;
        code_fits = t1.fit;
        bytes_fit = t2.fit;
        words_fit = t3.fit;
      };
      parts = append_4_and_nothing all (words_encoding entries.0) entries.1 (words_encoding code.0) code.1 initial.0 initial.1 (words_encoding words.0)
          words.1 t0.takes.parts t1.takes.parts t2.takes.parts t3.takes.parts nothing;
    }

body_at_takes_body : (c : Counts) (all : List ℕ) (g : Guest) → IsBytes all → IsWithin c → body_at c all ≡ Ok g → TakesBody c all g
unfolding body_at
body_at_takes_body c all g fits within e =
    five_binds_are_ok (fields_at (entry_at c.words) c.threads all) (λ entries. fields_at word_at c.words entries.1)
    (λ entries code. bytes_at Short c.bytes code.1) (λ entries code initial. fields_at word_at ((limits_of c.form).words * c.objects) initial.1)
    (λ entries code initial words. cond (eqb (length words.1) 0)
    (Ok (record { form = c.form; entries = entries.0; code = code.0; bytes = initial.0; words = words.0 })) (Err Trailing)) g e
    (λ entries code initial words e0 e1 e2 e3 e4.
    let t0 = fields_at_takes_fields (IsPlace c.words) (little_bytes 4) (entry_at c.words) (entry_at_takes_bytes c.words) c.threads all entries fits e0 in
    let t1 = fields_at_takes_fields IsWord (little_bytes 4) word_at word_at_takes_word c.words entries.1 code t0.takes.rest_fits e1 in
    let t2 = bytes_at_takes_bytes Short c.bytes code.1 initial t1.takes.rest_fits e2 in
    let t3 = fields_at_takes_fields IsWord (little_bytes 4) word_at word_at_takes_word ((limits_of c.form).words * c.objects) initial.1 words t2.takes.rest_fits e3 in
    let p = test_passed_if_ok (eqb (length words.1) 0) Trailing (record { form = c.form; entries = entries.0; code = code.0; bytes = initial.0; words = words.0 })
    g e4 in
    subst (λ (y : Guest). TakesBody c all y) p.1
    (body_fields_take_body c all entries code initial words within t0 t1 t2 t3 (nil_from_length words.1 (eqb-true (length words.1) 0 p.0))))

body_at_of_encoding : (g : Guest) → IsGuest g → body_at (counts_of g) (body_encoding g) ≡ Ok g
unfolding body_at
body_at_of_encoding g fits =
    let r2 = words_encoding g.words in
    let r1 = g.bytes ++ r2 in
    let r0 = words_encoding g.code ++ r1 in
    let e0 = fields_at_of_encodings (IsPlace (length g.code)) (little_bytes 4) (entry_at (length g.code))
    (λ n rest place. entry_at-little_bytes (length g.code) n rest fits.short_code place) g.entries r0 fits.entries_fit in
    let e1 = fields_at_of_encodings IsWord (little_bytes 4) word_at word_at_of_little_bytes g.code r1 fits.code_fits in
    let e2 = bytes_at_of_append Short g.bytes r2 in
    let count = whole_words_multiply g.form (length g.words) fits.whole_objects in
    let e3 : fields_at word_at ((limits_of g.form).words * object_count g) r2 ≡ Ok (g.words, []) =
    ap (λ (k : ℕ). fields_at word_at k r2) count ∙ ap (fields_at word_at (length g.words)) (sym (append-nil r2)) ∙ fields_at_of_encodings IsWord
    (little_bytes 4) word_at word_at_of_little_bytes g.words [] fits.words_fit in
    ap (body_at (counts_of g)) (sym (append_assoc_4 (words_encoding g.entries) (words_encoding g.code) g.bytes r2)) ∙ rw (e0, e1, e2, e3) refl

-- ---- the whole image

body_takes_guest : (all : List ℕ) (x : Counts × List ℕ) (g : Guest) → TakesCounts all x → TakesBody x.0 x.1 g → IsGuest g × (all ≡ encoding g)
body_takes_guest all x g t u = (
  u.fits,
  t.takes.parts ∙ ap (λ (k : List ℕ). counts_encoding x.0 ++ k) u.parts ∙ ap
      (λ (c : Counts). counts_encoding c ++ body_encoding g) (sym u.counts),
)

pub guest_at_takes_encoding : (all : List ℕ) (g : Guest) → IsBytes all → guest_at all ≡ Ok g → IsGuest g × (all ≡ encoding g)
unfolding guest_at
guest_at_takes_encoding all g fits e =
    two_binds_are_ok (counts_at all) (λ c. body_at c.0 c.1) g e (λ x e0 e1.
    let t = counts_at_takes_counts all x fits e0 in
    body_takes_guest all x g t (body_at_takes_body x.0 x.1 g t.takes.rest_fits t.within e1))

-- what the parts of an image say of it
pub parts_take_encoding : (all : List ℕ) (c : Counts) (rest : List ℕ) (g h : Guest) → ((i : ℕ) → slice_index all i < 256)
    → counts_at all ≡ Ok (c, rest) → body_at c rest ≡ Ok g → g ≡ h → IsGuest h × (all ≡ encoding h)
parts_take_encoding all c rest g h bytes e0 e1 same =
    let fits = is_bytes_by_elements all bytes in
    let t = counts_at_takes_counts all (c, rest) fits e0 in
    subst (λ (x : Guest). IsGuest x × (all ≡ encoding x)) same
    (body_takes_guest all (c, rest) g t (body_at_takes_body c rest g t.takes.rest_fits t.within e1))

pub guest_at_of_encoding : (g : Guest) → IsGuest g → guest_at (encoding g) ≡ Ok g
unfolding guest_at
guest_at_of_encoding g fits =
    let within : IsWithin (counts_of g) = record {
      some_thread = fits.some_thread;
      few_threads = fits.few_threads;
      few_objects = fits.few_objects;
      short_code = fits.short_code;
      short_data = fits.short_data;
    } in
    rw (counts_at_of_encoding (counts_of g) (body_encoding g) within) (body_at_of_encoding g fits)
