-- Worlds before the first step and after the last.
use Rattle.std.proofs.Common.{Bool, true, false, ◌≡◌, ◌<◌, ℕ, ◌+◌, zero, suc, List, [], ◌∷◌, ◌++◌, length, map, get_or, refl, sym, ap, ◌∙◌, subst, arith, add-one}
use Rattle.std.specs.Prelude.{replicate}
use Rattle.std.specs.List.{range_with_len}
use Rattle.std.proofs.lemmas.List.{length-map}
use Rattle.std.proofs.lemmas.List.FromFn.{map-range_with_len_more, length-map-range_with_len}
use Rattle.ir_lemmas.proofs.CallerLemmas.{map_of_append_item, replicate_append_one}
use Rattle.ir_record.specs.Worlds.{AnsweredCall}
use Rattle.ir_world.specs.Sources.{MadeWith, made_with, is_counted, seed_of, origin_of, origins, IsAnsweredFrom}
use Rattle.ir_world.specs.declared.time.Time.{Time}

-- one world more
pub map_made_step : {W : Type 0} (made : W → MadeWith) (old new : List W) (w : W) (counted : Bool) (random : ℕ) (file : List ℕ) (n : ℕ)
    → map made old ≡ origins counted random file n → made w ≡ origin_of counted random file n → new ≡ old ++ w ∷ []
    → map made new ≡ origins counted random file (n + 1)
map_made_step made old new w counted random file n before here e =
    ap (map made) e ∙ map_of_append_item made old w ∙ ap (λ (z : List MadeWith). z ++ made w ∷ []) before
    ∙ ap (λ (z : MadeWith). origins counted random file n ++ z ∷ []) here
    ∙ sym (map-range_with_len_more (origin_of counted random file) 0 n n (omega arith))

-- what the new world is made with
pub made_with_is_origin : (time before : Time) (seed random : ℕ) (of file : List ℕ) (n : ℕ) → time ≡ before → seed ≡ seed_of random n → of ≡ file
    → made_with time seed of ≡ origin_of (is_counted before) random file n
made_with_is_origin time before seed random of file n e s f = λ i. made_with (e i) (s i) (f i)

pub map_answers_empty_step : {W : Type 0} (answers : W → List AnsweredCall) (old new : List W) (w : W) (n : ℕ) → map answers old ≡ replicate n []
    → answers w ≡ [] → new ≡ old ++ w ∷ [] → map answers new ≡ replicate (n + 1) []
map_answers_empty_step answers old new w n before s e =
    ap (map answers) e ∙ map_of_append_item answers old w ∙ ap (λ (z : List (List AnsweredCall)). z ++ answers w ∷ []) before
    ∙ ap (λ (z : List AnsweredCall). replicate n [] ++ z ∷ []) s ∙ replicate_append_one n []
    ∙ ap (λ (k : ℕ). replicate k []) (sym (add-one n))

-- there is a world for each thread
pub world_count_is_threads : {W : Type 0} (made : W → MadeWith) (worlds : List W) (counted : Bool) (random : ℕ) (file : List ℕ) (n : ℕ)
    → map made worlds ≡ origins counted random file n → length worlds ≡ n
world_count_is_threads made worlds counted random file n e = sym (length-map worlds made) ∙ ap (λ (z : List MadeWith). length z) e
    ∙ length-map-range_with_len (origin_of counted random file) 0 n

answered_from_origins : {O : Type 0} (made : O → MadeWith) (answers : O → List AnsweredCall) → ((o : O) → IsAnsweredFrom (made o) (answers o))
    → (counted : Bool) (random : ℕ) (file : List ℕ) (os : List O) (a n : ℕ)
    → map made os ≡ map (origin_of counted random file) (range_with_len a n)
    → (t : ℕ) → t < n → IsAnsweredFrom (origin_of counted random file (a + t)) (get_or (map answers os) t [])
answered_from_origins made answers gave counted random file os a zero e t l = absurd (omega (arith, l))
answered_from_origins made answers gave counted random file [] a (suc n) e t l = absurd (cc)
answered_from_origins made answers gave counted random file (o ∷ os) a (suc n) e zero l =
    let here : made o ≡ origin_of counted random file a = cc in
    let first : a ≡ a + zero = omega arith in
    subst (λ (m : MadeWith). IsAnsweredFrom m (answers o)) (here ∙ ap (origin_of counted random file) first) (gave o)
answered_from_origins made answers gave counted random file (o ∷ os) a (suc n) e (suc t) l =
    let rest : map made os ≡ map (origin_of counted random file) (range_with_len (a + 1) n) = cc in
    let place : a + 1 + t ≡ a + suc t = omega arith in
    subst (λ (k : ℕ). IsAnsweredFrom (origin_of counted random file k) (get_or (map answers os) t [])) place
    (answered_from_origins made answers gave counted random file os (a + 1) n rest t (omega (arith, l)))

-- each of the worlds was answered by its own sources
pub answered_by_own_origin : {O : Type 0} (made : O → MadeWith) (answers : O → List AnsweredCall) → ((o : O) → IsAnsweredFrom (made o) (answers o))
    → (counted : Bool) (random : ℕ) (file : List ℕ) (os : List O) (n : ℕ) → map made os ≡ origins counted random file n
    → (t : ℕ) → t < n → IsAnsweredFrom (origin_of counted random file t) (get_or (map answers os) t [])
answered_by_own_origin made answers gave counted random file os n e t l =
    let place : 0 + t ≡ t = omega arith in
    subst (λ (k : ℕ). IsAnsweredFrom (origin_of counted random file k) (get_or (map answers os) t [])) place
    (answered_from_origins made answers gave counted random file os 0 n e t l)
