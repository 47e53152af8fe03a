-- What the limits of each form say, and words that are padded to the most of any.
use Rattle.std.proofs.Common.{◌≡◌, ℕ, ◌-◌, ◌*◌, ◌/◌, ◌%◌, ◌<◌, ◌≤◌, List, length, get_or, replicate, refl, sym, ◌∙◌, subst, inl, inr, arith}
use Rattle.std.proofs.lemmas.Bool.{cases_lt}
use Rattle.std.proofs.lemmas.List.{get_or_append_left, get_or-append_right, get_or-replicate, get_or_past, length-replicate}
use Rattle.ir_lemmas.proofs.CallerLemmas.{get_or-zeros}
use Rattle.ir_image.specs.declared.form.ImageForm.{ImageForm}
use Rattle.ir_image.specs.declared.form.ImageForm.TheVariants.{Small, Large}
use Rattle.ir_image.specs.Guest.{limits_of, most_threads, most_objects, most_object_words, Guest, object_count}
use Rattle.ir_image.specs.Bounds.{IsGuest}
use Rattle.ir_image.specs.Padded.{padded}

pub word_limit_positive : (form : ImageForm) → 0 < (limits_of form).words
word_limit_positive Small = omega arith
word_limit_positive Large = omega arith

pub form_words_within : (form : ImageForm) → (limits_of form).words ≤ most_object_words
form_words_within Small = omega arith
form_words_within Large = omega arith

pub thread_limit_positive : (form : ImageForm) → 0 < (limits_of form).threads
thread_limit_positive Small = omega arith
thread_limit_positive Large = omega arith

pub form_threads_within : (form : ImageForm) → (limits_of form).threads ≤ most_threads
form_threads_within Small = omega arith
form_threads_within Large = omega arith

pub form_objects_within : (form : ImageForm) → (limits_of form).objects ≤ most_objects
form_objects_within Small = omega arith
form_objects_within Large = omega arith

-- a guest has no more than any form allows
pub guest_threads_within : (g : Guest) → IsGuest g → length g.entries ≤ most_threads
guest_threads_within g fits = let few = fits.few_threads in let most = form_threads_within g.form in omega (arith, few, most)

pub guest_objects_within : (g : Guest) → IsGuest g → object_count g ≤ most_objects
guest_objects_within g fits = let few = fits.few_objects in let most = form_objects_within g.form in omega (arith, few, most)

-- ---- words of whole objects

pub words_div_is_objects : (form : ImageForm) (words objects : ℕ) → words ≡ (limits_of form).words * objects → words / (limits_of form).words ≡ objects
words_div_is_objects Small words objects e = omega (arith, e)
words_div_is_objects Large words objects e = omega (arith, e)

pub whole_words_divide : (form : ImageForm) (words objects : ℕ) → words ≡ (limits_of form).words * objects → words % (limits_of form).words ≡ 0
whole_words_divide Small words objects e = omega (arith, e)
whole_words_divide Large words objects e = omega (arith, e)

pub whole_words_multiply : (form : ImageForm) (words : ℕ) → words % (limits_of form).words ≡ 0
    → (limits_of form).words * (words / (limits_of form).words) ≡ words
whole_words_multiply Small words whole = omega (arith, whole)
whole_words_multiply Large words whole = omega (arith, whole)

whole_words_within : (form : ImageForm) (words : ℕ) → words % (limits_of form).words ≡ 0
    → words / (limits_of form).words ≤ (limits_of form).objects → words ≤ most_object_words * most_objects
whole_words_within Small words whole few = omega (arith, whole, few)
whole_words_within Large words whole few = omega (arith, whole, few)

pub guest_words_within : (g : Guest) → IsGuest g → length g.words ≤ most_object_words * most_objects
guest_words_within g fits = whole_words_within g.form (length g.words) fits.whole_objects fits.few_objects

-- ---- words, and 0 after them

pub get_or_zero-padded : (xs : List ℕ) (i : ℕ) → get_or (padded xs) i 0 ≡ get_or xs i 0
get_or_zero-padded xs i =
    let zeros : List ℕ = replicate (most_object_words - length xs) 0 in
    elim (cases_lt i (length xs)) [
      | inl l ↦ get_or_append_left xs zeros 0 i l
      | inr g ↦ get_or-append_right xs zeros (length xs) i 0 refl g ∙ get_or-zeros (most_object_words - length xs) (i - length xs)
          ∙ sym (get_or_past xs i 0 g)
    ]
