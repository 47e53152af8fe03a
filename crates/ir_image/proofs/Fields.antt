-- The magic and the entries, read and written.
use Rattle.std.proofs.Common.{◌≡◌, ℕ, ◌+◌, ◌*◌, ◌%◌, ◌≤◌, ltb, leb, eqb, true, List, ◌++◌, Option, None, Result, Ok, refl, ap, subst, ◌∙◌, arith, lit<}
use Rattle.std.specs.Prelude.{◌&&◌}
use Rattle.std.proofs.lemmas.Bool.{ltb-true, leb-true, le-leb, lt-ltb, eqb-true, eq-eqb, and_parts}
use Rattle.byteorder.specs.Endian.{little_bytes}
use Rattle.ir_bytes.specs.Reading.{◌>>=◌, field_at}
use Rattle.ir_bytes.proofs.CallerLemmas.{two_binds_are_ok, ok_is_injective, IsBytes, Takes, number_at_takes_number, number_at-little_bytes}
use Rattle.ir_bytes.proofs.CallerLemmas.{field_at_takes_field, field_at-little_bytes, test_true_if_no_fault}
use Rattle.ir_image.specs.declared.image_err.ImageErr.{ImageErr}
use Rattle.ir_image.specs.declared.image_err.ImageErr.TheVariants.{Short, Magic, Entry}
use Rattle.ir_image.specs.Guest.{code_start, most_code_words, image_magic, magic_number, form_of, form_at}
use Rattle.ir_image.specs.Bounds.{IsWord, IsPlace}
use Rattle.ir_image.specs.Fields.{image_magic_field, entry_field, entry_at, is_place, word_at}
use Rattle.ir_image.specs.declared.form.ImageForm.{ImageForm}
use Rattle.ir_image.specs.declared.form.ImageForm.TheVariants.{Small, Large}

-- the bytes of a form's number
pub bytes_of_magic_number : (form : ImageForm) → little_bytes 4 (magic_number form) ≡ image_magic form
bytes_of_magic_number Small = refl
bytes_of_magic_number Large = refl

pub form_at_takes_magic : (bytes : List ℕ) (x : ImageForm × List ℕ) → IsBytes bytes → form_at bytes ≡ Ok x → Takes bytes (image_magic x.0) x.1
unfolding form_at
form_at_takes_magic bytes x fits e =
    two_binds_are_ok (field_at Short image_magic_field bytes) (λ n. Ok (form_of n.0, n.1)) x e (λ n e0 e1.
    let t = field_at_takes_field Short image_magic_field bytes n fits e0 in
    let own = eqb-true n.0 (magic_number (form_of n.0)) (test_true_if_no_fault (eqb n.0 (magic_number (form_of n.0))) Magic t.passes) in
    subst (λ (y : ImageForm × List ℕ). Takes bytes (image_magic y.0) y.1) (ok_is_injective ImageErr (form_of n.0, n.1) x e1)
    (subst (λ (k : List ℕ). Takes bytes k n.1) (ap (little_bytes 4) own ∙ bytes_of_magic_number (form_of n.0)) t.takes))

magic_field_of_magic : (form : ImageForm) (rest : List ℕ) → field_at Short image_magic_field (image_magic form ++ rest) ≡ Ok (magic_number form, rest)
magic_field_of_magic Small rest = field_at-little_bytes Short image_magic_field 0x31495249 rest (lit< tt) refl
magic_field_of_magic Large rest = field_at-little_bytes Short image_magic_field 0x32495249 rest (lit< tt) refl

form_of_magic_number : (form : ImageForm) → form_of (magic_number form) ≡ form
form_of_magic_number Small = refl
form_of_magic_number Large = refl

pub form_at_of_magic : (form : ImageForm) (rest : List ℕ) → form_at (image_magic form ++ rest) ≡ Ok (form, rest)
unfolding form_at
form_at_of_magic form rest = ap (λ (r : Result (ℕ × List ℕ) ImageErr). r >>= λ n. Ok (form_of n.0, n.1)) (magic_field_of_magic form rest)
    ∙ ap (λ (f : ImageForm). Ok (f, rest)) (form_of_magic_number form)

pub word_at_takes_word : (bytes : List ℕ) (n : ℕ × List ℕ) → IsBytes bytes → word_at bytes ≡ Ok n
    → Takes bytes (little_bytes 4 n.0) n.1 × IsWord n.0
word_at_takes_word bytes n fits e = number_at_takes_number Short 4 bytes n fits e

pub word_at_of_little_bytes : (n : ℕ) (rest : List ℕ) → IsWord n → word_at (little_bytes 4 n ++ rest) ≡ Ok (n, rest)
word_at_of_little_bytes n rest fits = number_at-little_bytes Short 4 n rest fits

pub place_test_sound : (words n : ℕ) → is_place words n ≡ true → IsPlace words n
place_test_sound words n h =
    let one = and_parts (eqb (n % 4) 0) (leb code_start n && ltb n (code_start + 4 * words)) h in
    let two = and_parts (leb code_start n) (ltb n (code_start + 4 * words)) one.1 in
    record { aligned = eqb-true _ _ one.0; low = leb-true _ _ two.0; high = ltb-true _ _ two.1 }

abbrev entry_fault : ℕ → ℕ → Option ImageErr
entry_fault words n = (entry_field words).fault n

pub entry_at_takes_bytes : (words : ℕ) (bytes : List ℕ) (n : ℕ × List ℕ) → IsBytes bytes → entry_at words bytes ≡ Ok n
    → Takes bytes (little_bytes 4 n.0) n.1 × IsPlace words n.0
entry_at_takes_bytes words bytes n fits e =
    let t = field_at_takes_field Short (entry_field words) bytes n fits e in
    (t.takes, place_test_sound words n.0 (test_true_if_no_fault (is_place words n.0) Entry t.passes))

pub entry_at-little_bytes : (words : ℕ) (n : ℕ) (rest : List ℕ) → words ≤ most_code_words → IsPlace words n
    → entry_at words (little_bytes 4 n ++ rest) ≡ Ok (n, rest)
entry_at-little_bytes words n rest h place =
    let fits : IsWord n = omega arith in
    let passes : entry_fault words n ≡ None = rw
    (eq-eqb (n % 4) 0 place.aligned, le-leb code_start n place.low, lt-ltb n (code_start + 4 * words) place.high) refl in
    field_at-little_bytes Short (entry_field words) n rest fits passes
