-- Outputs that are put one after another.
use Rattle.std.proofs.Common.{Bool, true, ◌≡◌, ◌≤◌, ◌<◌, ◌+◌, ℕ, List, [], ◌∷◌, ◌++◌, length, map, take, get_or, Option, None, Some, sym, ap, ◌∙◌, subst, arith, append_assoc, append-nil}
use Rattle.std.specs.List.{enumerate_from, range_with_len}
use Rattle.std.proofs.lemmas.List.{length-map, map-append, get_or-map, take_more, take_all}
use Rattle.std.proofs.lemmas.List.FromFn.{length-enumerate_from, get_or-enumerate_from, map-range_with_len_more}
use Rattle.ir_files.specs.Outputs.{Printed, by_thread, Gains, output_writer_of, FailedAtOne}

pub unchanged_gains_none : (a : Option (List Printed)) → Gains a a []
unchanged_gains_none None = tt
unchanged_gains_none (Some x) = sym (append-nil x)

gains_append : (a b c : Option (List Printed)) (first rest : List Printed) → Gains a b first → Gains b c rest → Gains a c (first ++ rest)
gains_append None b c first rest p q = tt
gains_append (Some x) None c first rest p q = absurd p
gains_append (Some x) (Some y) None first rest p q = absurd q
gains_append (Some x) (Some y) (Some z) first rest p q = q ∙ ap (λ (l : List Printed). l ++ rest) p ∙ append_assoc x first rest

-- the outputs of the first n threads, and that of the next
outputs_by_thread_step : (printed : List (List ℕ)) (n : ℕ) (bytes : List ℕ) → n < length printed → bytes ≡ get_or printed n bytes
    → take (n + 1) (by_thread printed) ≡ take n (by_thread printed) ++ (n, bytes) ∷ []
outputs_by_thread_step printed n bytes some e =
    let long : length (enumerate_from 0 printed) ≡ length printed = length-enumerate_from 0 printed in
    let place : 0 + n ≡ n = omega arith in
    let same : ◌≡◌ {A = Printed} (0 + n, get_or printed n bytes) (n, bytes) = λ i. (place i, sym e i) in
    take_more (enumerate_from 0 printed) n (n, bytes) (omega (arith, some, long))
    ∙ ap (λ (z : Printed). take n (by_thread printed) ++ z ∷ []) (get_or-enumerate_from 0 printed n (n, bytes) some ∙ same)

-- one output more was taken
pub gains_first_step : {V : Type 0} (of : V → List ℕ) (a b c : Option (List Printed)) (n : ℕ) (vs : List V) (v : V) (bytes : List ℕ)
    → n < length vs → v ≡ get_or vs n v → bytes ≡ of v → Gains a b (take n (by_thread (map of vs))) → Gains b c ((n, bytes) ∷ [])
    → Gains a c (take (n + 1) (by_thread (map of vs)))
gains_first_step of a b c n vs v bytes some e same before put =
    let long : length (map of vs) ≡ length vs = length-map vs of in
    let here : of v ≡ get_or (map of vs) n (of v) = ap of e ∙ sym (get_or-map of vs n v (of v) some) in
    subst (Gains a c) (sym (outputs_by_thread_step (map of vs) n (of v) (omega (arith, some, long)) here))
    (gains_append a b c (take n (by_thread (map of vs))) ((n, of v) ∷ []) before
    (subst (λ (z : List ℕ). Gains b c ((n, z) ∷ [])) same put))

-- all were
pub gains_all_at_end : {V : Type 0} (of : V → List ℕ) (a b : Option (List Printed)) (n : ℕ) (vs : List V) → length vs ≤ n
    → Gains a b (take n (by_thread (map of vs))) → Gains a b (by_thread (map of vs))
gains_all_at_end of a b n vs none before =
    let long : length (by_thread (map of vs)) ≡ length vs = length-enumerate_from 0 (map of vs) ∙ length-map vs of in
    subst (Gains a b) (take_all n (by_thread (map of vs)) (omega (arith, none, long))) before

-- the next was not
pub failed_at_next_output : {V : Type 0} (of : V → List ℕ) (a b c : Option (List Printed)) (failed : Bool) (n : ℕ) (vs : List V) → n < length vs
    → Gains a b (take n (by_thread (map of vs))) → Gains b c [] → failed ≡ true
    → FailedAtOne (output_writer_of a c failed) (map of vs)
failed_at_next_output of a b c failed n vs some before kept broke =
    let long : length (map of vs) ≡ length vs = length-map vs of in
    let first : List Printed = take n (by_thread (map of vs)) in
    record {
      thread = n;
      is_one = omega (arith, some, long);
      taken = subst (Gains a c) (append-nil first) (gains_append a b c first [] before kept);
      broke = broke;
    }

-- ---- lists that grow by one

pub maps_equal_after_push : {A B C : Type 0} (f : A → C) (g : B → C) (old new : List A) (a : A) (ys : List B) (b : B) → map f old ≡ map g ys
    → f a ≡ g b → new ≡ old ++ a ∷ [] → map f new ≡ map g (ys ++ b ∷ [])
maps_equal_after_push f g old new a ys b before here e = ap (map f) e ∙ map-append f old (a ∷ []) ∙ ap (λ z. z ++ f a ∷ []) before
    ∙ ap (λ z. map g ys ++ z ∷ []) here ∙ sym (map-append g ys (b ∷ []))

pub map_range_push : {A C : Type 0} (f : A → C) (g : ℕ → C) (old new : List A) (a : A) (n : ℕ) → map f old ≡ map g (range_with_len 0 n)
    → f a ≡ g n → new ≡ old ++ a ∷ [] → map f new ≡ map g (range_with_len 0 (n + 1))
map_range_push f g old new a n before here e = ap (map f) e ∙ map-append f old (a ∷ []) ∙ ap (λ z. z ++ f a ∷ []) before
    ∙ ap (λ z. map g (range_with_len 0 n) ++ z ∷ []) here ∙ sym (map-range_with_len_more g 0 n n (omega arith))
