-- Gathering, thread by thread.
use Rattle.std.proofs.Common.{◌≡◌, ℕ, zero, suc, ◌+◌, ◌<◌, List, [], ◌∷◌, ◌++◌, length, map, take, get_or, sym, ap, ◌∙◌, subst, arith, inl, inr, append_assoc, length-append}
use Rattle.std.proofs.lemmas.Bool.{cases_eq}
use Rattle.std.proofs.lemmas.List.{get_or_append_left, get_or_default, get_or-map, length-map}
use Rattle.std.proofs.Math.Seq.{get_or-append_seam}
use Rattle.ir_lemmas.proofs.CallerLemmas.{map_of_append_item}
use Rattle.ir_thread.specs.State as thread
use Rattle.ir_flat.specs.Flat.{Flat, thread_of, idle}
use Rattle.ir_log.specs.Logged.{Logged}
use Rattle.ir_trace.specs.Recorded.{RecordedThread}
use Rattle.ir_trace.specs.Absent.{absent}
use Rattle.ir_record.specs.Gathered.{IsThreadTrace, AreThreadTraces}
use Rattle.ir_record.specs.Progress.{log_at, no_log}

-- the next of a list
pub get_or_at_prefix_end : {A : Type 0} (before rest whole : List A) (x d : A) → before ++ x ∷ rest ≡ whole → get_or whole (length before) d ≡ x
get_or_at_prefix_end before rest whole x d e = ap (λ z. get_or z (length before) d) (sym e) ∙ get_or-append_seam before x rest d

pub prefix_end_below_length : {A : Type 0} (before rest whole : List A) (x : A) → before ++ x ∷ rest ≡ whole → length before < length whole
prefix_end_below_length before rest whole x e = let n = length-append before (x ∷ rest) in let m : length (before ++ x ∷ rest) ≡ length whole =
    ap (λ z. length z) e in omega (arith, n, m)

-- one thread more
pub thread_traces_push : (f : Flat) (before : List Logged) (x : Logged) (rs : List RecordedThread) (r : RecordedThread)
    → AreThreadTraces f before rs → IsThreadTrace (thread_of f (length rs)) x r → AreThreadTraces f (before ++ x ∷ []) (rs ++ r ∷ [])
thread_traces_push f before x rs r was new =
    let n = length-append before (x ∷ []) in
    let m = length-append rs (r ∷ []) in
    record {
      count = let k = was.count in omega (arith, n, m, k);
      each = λ t l. elim (cases_eq t (length before)) [
        | inl e ↦ subst (λ z. IsThreadTrace (thread_of f z) (log_at (before ++ x ∷ []) z) (get_or (rs ++ r ∷ []) z absent)) (sym e)
            (subst (λ z. IsThreadTrace (thread_of f (length before)) z (get_or (rs ++ r ∷ []) (length before) absent))
            (sym (get_or-append_seam before x [] no_log))
            (subst (λ z. IsThreadTrace (thread_of f (length before)) x z)
            (sym (ap (λ k. get_or (rs ++ r ∷ []) k absent) (sym was.count) ∙ get_or-append_seam rs r [] absent))
            (subst (λ k. IsThreadTrace (thread_of f k) x r) was.count new)))
        | inr ne ↦
            let below : t < length before = omega (arith, l, n, ne) in
            subst (λ z. IsThreadTrace (thread_of f t) z (get_or (rs ++ r ∷ []) t absent))
            (sym (get_or_append_left before (x ∷ []) no_log t below))
            (subst (λ z. IsThreadTrace (thread_of f t) (log_at before t) z)
            (sym (get_or_append_left rs (r ∷ []) absent t (let k = was.count in omega (arith, below, k)))) (was.each t below))
      ];
    }

-- the thread that was read
pub looked_up_is_thread_of : (f : Flat) (threads : List thread.ThreadState) (t : ℕ) (x : thread.ThreadState) → threads ≡ f.threads → t < length f.threads
    → x ≡ get_or threads t x → x ≡ thread_of f t
looked_up_is_thread_of f threads t x same l e = e ∙ ap (λ z. get_or z t x) same ∙ get_or_default f.threads t x idle l

-- one item more of a list that is taken from the prefix
pub next_item_to_prefix : {A : Type 0} (before items rest whole : List A) (x : A) → before ++ items ≡ whole → items ≡ x ∷ rest
    → (before ++ x ∷ []) ++ rest ≡ whole
next_item_to_prefix before items rest whole x h e = append_assoc before (x ∷ []) rest ∙ ap (λ z. before ++ z) (sym e) ∙ h

pub rest_length_one_less : {A : Type 0} (items rest : List A) (x : A) (len less : ℕ) → len ≡ length items → items ≡ x ∷ rest → less + 1 ≡ len
    → less ≡ length rest
rest_length_one_less items rest x len less h e one = let n : length items ≡ suc (length rest) = ap (λ z. length z) e in omega (arith, h, n, one)

-- a list, seen by a function, with one item more
pub map_push : {A B : Type 0} (f : A → B) (xs new : List A) (x : A) (ys : List B) → new ≡ xs ++ x ∷ [] → map f xs ≡ ys
    → map f new ≡ ys ++ f x ∷ []
map_push f xs new x ys e h = ap (map f) e ∙ map_of_append_item f xs x ∙ ap (λ z. z ++ f x ∷ []) h

take_next_is_take_suc : {A : Type 0} (xs : List A) (i : ℕ) (x d : A) → i < length xs → get_or xs i d ≡ x → take i xs ++ x ∷ [] ≡ take (suc i) xs
take_next_is_take_suc [] i x d l e = absurd (omega arith)
take_next_is_take_suc (y ∷ xs) zero x d l e = ap (λ z. z ∷ []) (sym e)
take_next_is_take_suc (y ∷ xs) (suc i) x d l e = ap (λ z. y ∷ z) (take_next_is_take_suc xs i x d (omega arith) e)

-- the prefix of a list, seen by a function, with one item more
pub map_take_step : {A B C : Type 0} (f : A → B) (h : C → B) (xs new : List A) (x : A) (whole : List C) (c : C) → new ≡ xs ++ x ∷ []
    → map f xs ≡ take (length xs) (map h whole) → length xs < length whole → c ≡ get_or whole (length xs) c → f x ≡ h c
    → map f new ≡ take (length new) (map h whole)
map_take_step f h xs new x whole c e was l is same =
    let n : length new ≡ suc (length xs) = ap (λ z. length z) e ∙ length-append xs (x ∷ [])
    ∙ (let k : length xs + 1 ≡ suc (length xs) = omega arith in k) in
    map_push f xs new x (take (length xs) (map h whole)) e was
    ∙ take_next_is_take_suc (map h whole) (length xs) (f x) (f x) (let m = length-map whole h in omega (arith, m, l))
    (get_or-map h whole (length xs) c (f x) l ∙ ap h (sym is) ∙ sym same)
    ∙ ap (λ k. take k (map h whole)) (sym n)
