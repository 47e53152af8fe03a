-- The fault of an image is the first of its fields'.
use Rattle.std.proofs.Common.{◌≡◌, ℕ, ◌*◌, eqb, List, length, Ok, Err, refl}
use Rattle.std.specs.Prelude.{◌==◌, if◌then◌else◌}
use Rattle.ir_bytes.specs.Reading.{◌>>=◌, field_at, bytes_at, fields_at}
use Rattle.ir_bytes.specs.Format.{Format, finished, next, before, repeated, fault_of, plain}
use Rattle.ir_bytes.proofs.CallerLemmas.{Follows, Begins, Refuses, field_at_follows_field, bytes_at_begins, field_at_begins}
use Rattle.ir_bytes.proofs.CallerLemmas.{number_at_begins, sequence_follows_fields, sequence_refuses_format, rest_refuses_format}
use Rattle.ir_bytes.proofs.CallerLemmas.{fault_of_trailing_test, fields_at_begins}
use Rattle.ir_image.specs.declared.counts.Counts.{Counts}
use Rattle.ir_image.specs.declared.image_err.ImageErr.{ImageErr}
use Rattle.ir_image.specs.declared.image_err.ImageErr.TheVariants.{Short, Trailing}
use Rattle.ir_image.specs.declared.form.ImageForm.{ImageForm}
use Rattle.ir_image.specs.Guest.{limits_of, form_of, Guest, form_at, counts_at, body_at, guest_at}
use Rattle.ir_image.specs.Fields.{image_fault, image_magic_field, image_threads_field, image_objects_field, words_field, bytes_field, entry_field, entry_at, word_at}

abbrev counts_by : ImageForm → ℕ → ℕ → ℕ → ℕ → Counts
counts_by f n m c d = record { form = f; threads = n; objects = m; words = c; bytes = d }

-- the magic, and what follows it
abbrev form_fields : (ImageForm → Format ImageErr) → Format ImageErr
form_fields after = next image_magic_field λ f. after (form_of f)

form_at_follows_fields : Follows Short Trailing form_at form_fields
unfolding form_at
form_at_follows_fields =
    sequence_follows_fields Short Trailing (field_at Short image_magic_field) (next image_magic_field) (λ f b. Ok (form_of f, b)) (λ f after. after (form_of f))
    (field_at_follows_field Short Trailing image_magic_field) (λ f after b. refl)

-- the fields of the counts, and what follows them
abbrev counts_fields : (Counts → Format ImageErr) → Format ImageErr
counts_fields after = form_fields λ f. next (image_threads_field f) λ n. next (image_objects_field f) λ m. next words_field λ c. next bytes_field λ d.
    after (counts_by f n m c d)

counts_at_follows : Follows Short Trailing counts_at counts_fields
unfolding counts_at
counts_at_follows =
    sequence_follows_fields Short Trailing form_at form_fields
    (λ f b0. field_at Short (image_threads_field f) b0 >>= λ n. field_at Short (image_objects_field f) n.1 >>= λ m. field_at Short words_field m.1 >>=
    λ c. field_at Short bytes_field c.1 >>= λ d. Ok (counts_by f n.0 m.0 c.0 d.0, d.1))
    (λ f after. next (image_threads_field f) λ n. next (image_objects_field f) λ m. next words_field λ c. next bytes_field λ d.
    after (counts_by f n m c d))
    form_at_follows_fields (λ f.
    sequence_follows_fields Short Trailing (field_at Short (image_threads_field f)) (next (image_threads_field f))
    (λ n b1. field_at Short (image_objects_field f) b1 >>= λ m. field_at Short words_field m.1 >>= λ c. field_at Short bytes_field c.1 >>= λ d. Ok
    (counts_by f n m.0 c.0 d.0, d.1))
    (λ n after. next (image_objects_field f) λ m. next words_field λ c. next bytes_field λ d. after (counts_by f n m c d))
    (field_at_follows_field Short Trailing (image_threads_field f)) (λ n.
    sequence_follows_fields Short Trailing (field_at Short (image_objects_field f)) (next (image_objects_field f))
    (λ m b2. field_at Short words_field b2 >>= λ c. field_at Short bytes_field c.1 >>= λ d. Ok (counts_by f n m c.0 d.0, d.1))
    (λ m after. next words_field λ c. next bytes_field λ d. after (counts_by f n m c d))
    (field_at_follows_field Short Trailing (image_objects_field f)) (λ m.
    sequence_follows_fields Short Trailing (field_at Short words_field) (next words_field)
    (λ c b3. field_at Short bytes_field b3 >>= λ d. Ok (counts_by f n m c d.0, d.1))
    (λ c after. next bytes_field λ d. after (counts_by f n m c d))
    (field_at_follows_field Short Trailing words_field) (λ c.
    sequence_follows_fields Short Trailing (field_at Short bytes_field) (next bytes_field)
    (λ d b4. Ok (counts_by f n m c d, b4))
    (λ d after. after (counts_by f n m c d))
    (field_at_follows_field Short Trailing bytes_field) (λ d after b4. refl)))))

-- ---- what follows the counts

abbrev entries_fields : Counts → Format ImageErr → Format ImageErr
entries_fields c = repeated c.threads (before (entry_field c.words))

abbrev words_fields : ℕ → Format ImageErr → Format ImageErr
words_fields n = repeated n (before (plain 4))

abbrev body_fields : Counts → Format ImageErr
body_fields c = entries_fields c (words_fields c.words (before (plain c.bytes) (words_fields ((limits_of c.form).words * c.objects) finished)))

words_at_begins : (n : ℕ) → Begins Short Trailing (fields_at word_at n) (words_fields n)
words_at_begins n = fields_at_begins Short Trailing word_at (before (plain 4)) n (number_at_begins Short Trailing 4)

abbrev guest_by : ImageForm → List ℕ → List ℕ → List ℕ → List ℕ → Guest
guest_by f entries code initial words = record { form = f; entries = entries; code = code; bytes = initial; words = words }

body_at_refuses_format : (c : Counts) → Refuses Short Trailing (body_at c) (body_fields c)
unfolding body_at
body_at_refuses_format c =
    rest_refuses_format Short Trailing (fields_at (entry_at c.words) c.threads) (entries_fields c)
    (λ entries b0. fields_at word_at c.words b0 >>= λ code. bytes_at Short c.bytes code.1 >>= λ initial. fields_at word_at
    ((limits_of c.form).words * c.objects) initial.1 >>= λ words.
    if length words.1 == 0 then Ok (guest_by c.form entries code.0 initial.0 words.0) else Err Trailing)
    (words_fields c.words (before (plain c.bytes) (words_fields ((limits_of c.form).words * c.objects) finished)))
    (fields_at_begins Short Trailing (entry_at c.words) (before (entry_field c.words)) c.threads
    (field_at_begins Short Trailing (entry_field c.words))) (λ entries.
    rest_refuses_format Short Trailing (fields_at word_at c.words) (words_fields c.words)
    (λ code b1. bytes_at Short c.bytes b1 >>= λ initial. fields_at word_at ((limits_of c.form).words * c.objects) initial.1 >>= λ words.
    if length words.1 == 0 then Ok (guest_by c.form entries code initial.0 words.0) else Err Trailing)
    (before (plain c.bytes) (words_fields ((limits_of c.form).words * c.objects) finished))
    (words_at_begins c.words) (λ code.
    rest_refuses_format Short Trailing (bytes_at Short c.bytes) (before (plain c.bytes))
    (λ initial b2. fields_at word_at ((limits_of c.form).words * c.objects) b2 >>= λ words. if length words.1 == 0 then Ok
    (guest_by c.form entries code initial words.0) else Err Trailing)
    (words_fields ((limits_of c.form).words * c.objects) finished)
    (bytes_at_begins Short Trailing c.bytes) (λ initial.
    rest_refuses_format Short Trailing (fields_at word_at ((limits_of c.form).words * c.objects)) (words_fields ((limits_of c.form).words * c.objects))
    (λ words b3. if length b3 == 0 then Ok (guest_by c.form entries code initial words) else Err Trailing)
    finished
    (words_at_begins ((limits_of c.form).words * c.objects)) (λ words b3. fault_of_trailing_test Trailing (guest_by c.form entries code initial words) (eqb (length b3) 0)))))

pub guest_fault_is_first : (bytes : List ℕ) → fault_of (guest_at bytes) ≡ image_fault bytes
unfolding guest_at
guest_fault_is_first = sequence_refuses_format Short Trailing counts_at counts_fields body_at body_fields counts_at_follows body_at_refuses_format
