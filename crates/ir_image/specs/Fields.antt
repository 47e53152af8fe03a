-- The fields of an image in their order.
use Rattle.std.specs.Prelude.{ℕ, ◌*◌, List, Option, ◌==◌, ◌+◌, nat_le, ◌%◌, Bool, nat_lt, ◌&&◌}
use Rattle.ir_bytes.specs.Format.{Format, finished, next, before, repeated, first_refused, plain}
use Rattle.ir_image.specs.declared.image_err.ImageErr.{ImageErr}
use Rattle.ir_image.specs.declared.image_err.ImageErr.TheVariants.{Short, Trailing, Magic, Count, Entry}
use Rattle.ir_image.specs.Guest.{limits_of, form_of, most_code_words, magic_number, memory_size, code_start}
use Rattle.ir_image.specs.declared.form.ImageForm.{ImageForm}
use Rattle.ir_bytes.specs.Reading.{Field, tested, within, Reader, field_at, number_at}

abbrev pub image_objects_field : ImageForm → Field ImageErr
image_objects_field form = within 1 0 (limits_of form).objects Count

-- the number of bytes of data
abbrev pub bytes_field : Field ImageErr
bytes_field = within 4 0 memory_size Count

-- the number of words of code
abbrev pub words_field : Field ImageErr
words_field = within 4 0 most_code_words Count

abbrev pub image_threads_field : ImageForm → Field ImageErr
image_threads_field form = within 1 1 (limits_of form).threads Count

-- whether n is the address of a word in code of `words` words
abbrev pub is_place : ℕ → ℕ → Bool
is_place words n = (n % 4 == 0) && (nat_le code_start n && nat_lt n (code_start + 4 * words))

abbrev pub entry_field : ℕ → Field ImageErr
entry_field words = tested 4 (is_place words) Entry

-- a form's magic
abbrev pub image_magic_field : Field ImageErr
image_magic_field = tested 4 (λ n. n == magic_number (form_of n)) Magic

-- the magic, which names the form; how many threads, objects, words of code and bytes of data; the entries; the code; the data; the
-- objects' first words
abbrev pub image_fields : Format ImageErr
image_fields =
    next image_magic_field λ f. next (image_threads_field (form_of f)) λ n. next (image_objects_field (form_of f)) λ m. next words_field λ c. next bytes_field λ d.
    repeated n (before (entry_field c))
    (repeated c (before (plain 4)) (before (plain d) (repeated ((limits_of (form_of f)).words * m) (before (plain 4)) finished)))

-- the first fault of bytes that are no image
abbrev pub image_fault : List ℕ → Option ImageErr
image_fault = first_refused Short Trailing image_fields

-- an entry into code of `words` words, and the bytes after it
abbrev pub entry_at : ℕ → Reader ℕ ImageErr
entry_at words = field_at Short (tested 4 (is_place words) Entry)

-- a word, and the bytes after it
abbrev pub word_at : Reader ℕ ImageErr
word_at = number_at Short 4
