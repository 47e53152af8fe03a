-- The form of the image that threads are of.
use Rattle.std.proofs.Common.{◌≡◌, ◌<◌, ◌+◌, ℕ, zero, suc, List, [], ◌∷◌, length, get_or, refl, sym, ap, ◌∙◌, subst, arith}
use Rattle.std.specs.List.{AllByRecursion, range_with_len}
use Rattle.ir_lemmas.proofs.CallerLemmas.{get_or_satisfies, length_of_map}
use Rattle.ir_image.specs.Guest.{Guest}
use Rattle.ir_image.specs.declared.form.ImageForm.{ImageForm}
use Rattle.ir_thread.specs.State.{ThreadState, most_budget}
use Rattle.ir_world.specs.Sources.{source, seed_of}
use Rattle.ir_flat.proofs.CallerLemmas.{length_of_start_threads}
use Rattle.ir_graph.specs.Setup.{Setup, setup_start, first_sources}
use Rattle.ir_thread.specs.declared.profile.Profile.{Profile}
use Rattle.ir_flat.specs.Flat.{Flat, idle, start_threads}
use Rattle.ir_state_store.specs.Table.{HaveForm}
use Rattle.ir_graph.specs.Plain.{LooksAlike}

all_of_elements : {X : Type 0} (P : X → Type 0) (xs : List X) (d : X) → ((n : ℕ) → n < length xs → P (get_or xs n d)) → AllByRecursion P xs
all_of_elements P [] d each = tt
all_of_elements P (x ∷ xs) d each = (each zero (omega arith), all_of_elements P xs d (λ n lt. each (suc n) (omega (arith, lt))))

-- two moments of a guest have the form of one image
pub like_moment_form : (form : ImageForm) (f g : Flat) → LooksAlike f g → HaveForm form f.threads → HaveForm form g.threads
like_moment_form form f g like all = all_of_elements (λ (s : ThreadState). s.form ≡ form) g.threads idle (λ n lt.
    sym (like.twins n).form
    ∙ get_or_satisfies (λ (s : ThreadState). s.form ≡ form) f.threads n idle all (subst (λ k. n < k) like.threads lt))

pub start_threads_have_form : (guest : Guest) (budget : ℕ) (profile : Profile) (from n : ℕ) → HaveForm guest.form (start_threads guest budget profile from n)
start_threads_have_form guest budget profile from zero = tt
start_threads_have_form guest budget profile from (suc n) = (refl, start_threads_have_form guest budget profile (suc from) n)

length-range_with_len : (a n : ℕ) → length (range_with_len a n) ≡ n
length-range_with_len a zero = refl
length-range_with_len a (suc n) = ap suc (length-range_with_len (a + 1) n)

-- at the start each thread has a source
pub each_has_first_source : (x : Setup) → length (first_sources x) ≡ length x.guest.entries
each_has_first_source x =
    length_of_map (λ t. source (seed_of x.random t) x.input) (range_with_len 0 (length x.guest.entries))
    ∙ length-range_with_len 0 (length x.guest.entries)

pub start_has_all_sources : (x : Setup) → length (setup_start x).sources ≡ length (setup_start x).flat.threads
start_has_all_sources x =
    each_has_first_source x ∙ sym (length_of_start_threads x.guest most_budget x.profile 0 (length x.guest.entries))
