-- Lists whose elements are replaced, the first ones first.
use Rattle.std.proofs.Common.{◌≡◌, ℕ, suc, zero, ◌+◌, ◌<◌, ◌≤◌, List, [], ◌∷◌, ◌++◌, length, drop, get_or, slice_set, append_assoc, append-nil, refl, sym, ap, ◌∙◌, subst, arith}
use Rattle.ir_lemmas.proofs.CallerLemmas.{drop_past_length}
use Rattle.ir_image.specs.Guest.{Guest, object_count, first_words}
use Rattle.ir_thread.specs.State as thread
use Rattle.ir_thread.specs.declared.profile.Profile.{Profile}
use Rattle.ir_object.specs.Cell.{Cell}
use Rattle.ir_flat.specs.Flat.{start_threads, start_cells, start_cell}
use Rattle.ir_flat.proofs.Fresh.{length_of_start_threads, length_of_start_cells, made_start_threads_step, made_start_cells_step}

slice_set_append_at_end : {X : Type 0} (front ys : List X) (x : X) → slice_set (front ++ ys) (length front) x ≡ front ++ slice_set ys 0 x
slice_set_append_at_end [] ys x = refl
slice_set_append_at_end (y ∷ front) ys x = ap (λ zs. y ∷ zs) (slice_set_append_at_end front ys x)

slice_set_zero_of_drop : {X : Type 0} (xs : List X) (n : ℕ) (x : X) → n < length xs → slice_set (drop n xs) 0 x ≡ x ∷ drop (suc n) xs
slice_set_zero_of_drop [] n x l = absurd (omega arith)
slice_set_zero_of_drop (y ∷ ys) zero x l = refl
slice_set_zero_of_drop (y ∷ ys) (suc n) x l = slice_set_zero_of_drop ys n x (omega arith)

-- the first n were replaced, and now the next one
pub slice_set_front_drop : {X : Type 0} (front xs : List X) (n : ℕ) (x : X) → length front ≡ n → n < length xs
    → slice_set (front ++ drop n xs) n x ≡ (front ++ x ∷ []) ++ drop (n + 1) xs
slice_set_front_drop front xs n x size within =
    ap (λ k. slice_set (front ++ drop n xs) k x) (sym size) ∙ slice_set_append_at_end front (drop n xs) x ∙ ap (λ ys. front ++ ys) (slice_set_zero_of_drop xs n x within)
    ∙ (let same : suc n ≡ n + 1 = omega arith in ap (λ k. front ++ (x ∷ drop k xs)) same) ∙ sym (append_assoc front (x ∷ []) (drop (n + 1) xs))

get_or_zero_of_drop : {X : Type 0} (xs : List X) (n : ℕ) (d : X) → get_or (drop n xs) 0 d ≡ get_or xs n d
get_or_zero_of_drop [] zero d = refl
get_or_zero_of_drop [] (suc n) d = refl
get_or_zero_of_drop (y ∷ ys) zero d = refl
get_or_zero_of_drop (y ∷ ys) (suc n) d = get_or_zero_of_drop ys n d

get_or_append_at_end : {X : Type 0} (front ys : List X) (d : X) → get_or (front ++ ys) (length front) d ≡ get_or ys 0 d
get_or_append_at_end [] ys d = refl
get_or_append_at_end (y ∷ front) ys d = get_or_append_at_end front ys d

-- the next one is as it was
pub get_or_front_drop : {X : Type 0} (front xs : List X) (n : ℕ) (d : X) → length front ≡ n → get_or (front ++ drop n xs) n d ≡ get_or xs n d
get_or_front_drop front xs n d size = ap (λ k. get_or (front ++ drop n xs) k d) (sym size) ∙ get_or_append_at_end front (drop n xs) d ∙ get_or_zero_of_drop xs n d

-- all were replaced
pub front_drop_past_length : {X : Type 0} (front xs now : List X) (n : ℕ) → now ≡ front ++ drop n xs → length xs ≤ n → now ≡ front
front_drop_past_length front xs now n is all = is ∙ ap (λ ys. front ++ ys) (drop_past_length xs n all) ∙ append-nil front

-- the next thread is as at the start
pub renewed_threads_step : (g : Guest) (budget : ℕ) (profile : Profile) (n : ℕ) (xs now : List thread.ThreadState) (x : thread.ThreadState)
    → now ≡ start_threads g budget profile 0 n ++ drop n xs → n < length xs → x ≡ thread.start_state g n budget profile
    → slice_set now n x ≡ start_threads g budget profile 0 (n + 1) ++ drop (n + 1) xs
renewed_threads_step g budget profile n xs now x is within new =
    ap (λ ys. slice_set ys n x) is
    ∙ slice_set_front_drop (start_threads g budget profile 0 n) xs n x (length_of_start_threads g budget profile 0 n) within
    ∙ ap (λ ys. ys ++ drop (n + 1) xs)
    (made_start_threads_step g budget profile n (start_threads g budget profile 0 n) (start_threads g budget profile 0 n ++ x ∷ []) x refl new refl)

-- the next object is as at the start
pub renewed_cells_step : (g : Guest) (n : ℕ) (xs now : List Cell) (x : Cell) → now ≡ start_cells g 0 n ++ drop n xs → n < length xs
    → x ≡ start_cell (first_words g n) → slice_set now n x ≡ start_cells g 0 (n + 1) ++ drop (n + 1) xs
renewed_cells_step g n xs now x is within new =
    ap (λ ys. slice_set ys n x) is ∙ slice_set_front_drop (start_cells g 0 n) xs n x (length_of_start_cells g 0 n) within
    ∙ ap (λ ys. ys ++ drop (n + 1) xs) (made_start_cells_step g n (start_cells g 0 n) (start_cells g 0 n ++ x ∷ []) x refl new refl)
