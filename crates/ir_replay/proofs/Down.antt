-- Lists of which the last is number 0.
use Rattle.std.proofs.Common.{false, ◌≡◌, ℕ, suc, ◌+◌, ◌<◌, List, [], ◌∷◌, ◌++◌, length, refl, sym, ap, ◌∙◌, subst, arith, inl, inr, length-append, append_assoc}
use Rattle.std.proofs.lemmas.Bool.{cases_eq}
use Rattle.std.proofs.lemmas.List.{get_or_at}
use Rattle.std.specs.List.{AllByRecursion, slice_index_or, AllZip}
use Rattle.atomic_table.specs.Seated.{TableId}
use Rattle.atomic_table.specs.declared.shared.Seat.{Seat}
use Rattle.ir_flat.specs.Flat.{idle}
use Rattle.ir_thread.specs.State as thread
use Rattle.ir_weave.specs.Woven.{View, AreSeats, opened_at, progress, first_met_cut}
use Rattle.ir_weave.specs.declared.plan.Plan.{Plan}
use Rattle.ir_replay.specs.Rounds.{backwards, round_threads, seats_of}
use Rattle.ir_replay.specs.declared.worker.Worker.{Worker}
use Rattle.ir_lemmas.proofs.CallerLemmas.{related_same_length}

-- P holds of each number and the element there
abbrev pub AllByNumber : {A : Type 0} → (ℕ → A → Type 0) → List A → Type 0
AllByNumber P [] = Unit {0}
AllByNumber P (x ∷ xs) = P (length xs) x × AllByNumber P xs

pub all_by_number_implied : {A : Type 0} (P Q : ℕ → A → Type 0) (xs : List A) → ((t : ℕ) (x : A) → t < length xs → P t x → Q t x) → AllByNumber P xs → AllByNumber Q xs
all_by_number_implied P Q [] f h = tt
all_by_number_implied P Q (x ∷ xs) f h = (f (length xs) x (omega arith) h.0, all_by_number_implied P Q xs (λ t y l. f t y (omega (arith, l))) h.1)

pub all_by_number_of_both : {A : Type 0} (P Q : ℕ → A → Type 0) (xs : List A) → AllByNumber P xs → AllByNumber Q xs → AllByNumber (λ t x. P t x × Q t x) xs
all_by_number_of_both P Q [] h k = tt
all_by_number_of_both P Q (x ∷ xs) h k = ((h.0, k.0), all_by_number_of_both P Q xs h.1 k.1)

pub all_from_by_number : {A : Type 0} (P : ℕ → A → Type 0) (Q : A → Type 0) (xs : List A) → ((t : ℕ) (x : A) → t < length xs → P t x → Q x)
    → AllByNumber P xs → AllByRecursion Q xs
all_from_by_number P Q [] f h = tt
all_from_by_number P Q (x ∷ xs) f h = (f (length xs) x (omega arith) h.0, all_from_by_number P Q xs (λ t y l. f t y (omega (arith, l))) h.1)

pub by_number_exists : {A : Type 0} (P : ℕ → A → Type 0) (xs : List A) → AllByNumber P xs → (t : ℕ) → t < length xs → (x : A) × P t x
by_number_exists P [] h t l = absurd (omega (arith, l))
by_number_exists P (x ∷ xs) h t l = elim (cases_eq t (length xs)) [
  | inl e ↦ (x, subst (λ z. P z x) (sym e) h.0)
  | inr ne ↦ by_number_exists P xs h.1 t (omega (arith, l, ne))
]

pub by_number_related : {A : Type 0} (P : ℕ → A → Type 0) (R : A → A → Type 0) (xs ys : List A) → AllByNumber P xs → AllZip R xs ys
    → AllByNumber (λ t y. (x : A) × P t x × R x y) ys
by_number_related P R [] [] h p = tt
by_number_related P R [] (y ∷ ys) h p = absurd p
by_number_related P R (x ∷ xs) [] h p = absurd p
by_number_related P R (x ∷ xs) (y ∷ ys) h p = ((x, subst (λ z. P z x) (sym (related_same_length R xs ys p.1)) h.0, p.0), by_number_related P R xs ys h.1 p.1)

pub zip_of_related : {A : Type 0} (R : A → A → Type 0) (xs ys : List A) → length ys ≡ length xs
    → ((i : ℕ) (d : A) → i < length xs → R (slice_index_or xs i d) (slice_index_or ys i d)) → AllZip R xs ys
zip_of_related R [] [] e h = tt
zip_of_related R [] (y ∷ ys) e h = absurd (omega (arith, e))
zip_of_related R (x ∷ xs) [] e h = absurd (omega (arith, e))
zip_of_related R (x ∷ xs) (y ∷ ys) e h = (h 0 x (omega arith), zip_of_related R xs ys (omega (arith, e)) (λ i d l. h (suc i) d (omega (arith, l))))

-- ---- workers

pub length_of_backwards : {A : Type 0} (xs : List A) → length (backwards xs) ≡ length xs
length_of_backwards [] = refl
length_of_backwards (x ∷ xs) = length-append (backwards xs) (x ∷ [])
    ∙ (let e = length_of_backwards xs in let g : length (backwards xs) + 1 ≡ suc (length xs) = omega (arith, e) in g)

length_of_threads_of : (ws : List Worker) → length (round_threads ws) ≡ length ws
length_of_threads_of [] = refl
length_of_threads_of (w ∷ ws) = ap suc (length_of_threads_of ws)

length_of_seats_of : (ws : List Worker) → length (seats_of ws) ≡ length ws
length_of_seats_of [] = refl
length_of_seats_of (w ∷ ws) = ap suc (length_of_seats_of ws)

pub length-threads_backward : (ws : List Worker) → length (backwards (round_threads ws)) ≡ length ws
length-threads_backward ws = length_of_backwards (round_threads ws) ∙ length_of_threads_of ws

pub length-seats_backward : (ws : List Worker) → length (backwards (seats_of ws)) ≡ length ws
length-seats_backward ws = length_of_backwards (seats_of ws) ∙ length_of_seats_of ws

-- their threads
pub worker_has_own_thread : (ws : List Worker) (rest xs : List thread.ThreadState) → backwards (round_threads ws) ++ rest ≡ xs
    → AllByNumber (λ t w. w.thread ≡ slice_index_or xs t idle) ws
worker_has_own_thread [] rest xs e = tt
worker_has_own_thread (w ∷ ws) rest xs e =
    let parts : backwards (round_threads ws) ++ w.thread ∷ rest ≡ xs = sym (append_assoc (backwards (round_threads ws)) (w.thread ∷ []) rest)
    ∙ e in (
      sym (ap (λ z. slice_index_or z (length ws) idle) (sym parts)
          ∙ get_or_at (backwards (round_threads ws)) w.thread rest idle (length ws) (length-threads_backward ws)),
      worker_has_own_thread ws (w.thread ∷ rest) xs
          parts,
    )

-- the seat of thread t as the table is opened
abbrev pub IsSeatAtOpening : TableId → Plan → ℕ → Seat (Unit {0}) View → Type 0
IsSeatAtOpening id k t s = (s.table_id ≡ id) × (s.me ≡ (progress k t (opened_at k t) false (first_met_cut k) ∷ [], []))

seat_is_opening_seat : (id : TableId) (k : Plan) (t m : ℕ) (xs rest : List (Seat (Unit {0}) View)) (s : Seat (Unit {0}) View) → m ≡ t + length xs
    → AreSeats id k t (xs ++ s ∷ rest) → IsSeatAtOpening id k m s
seat_is_opening_seat id k t m [] rest s e h = subst (λ z. IsSeatAtOpening id k z s) (let g : t ≡ m = omega (arith, e) in g) h.0
seat_is_opening_seat id k t m (x ∷ xs) rest s e h = seat_is_opening_seat id k (suc t) m xs rest s (omega (arith, e)) h.1

pub worker_has_own_seat : (id : TableId) (k : Plan) (ws : List Worker) (rest : List (Seat (Unit {0}) View))
    → AreSeats id k 0 (backwards (seats_of ws) ++ rest) → AllByNumber (λ t w. IsSeatAtOpening id k t w.seat) ws
worker_has_own_seat id k [] rest h = tt
worker_has_own_seat id k (w ∷ ws) rest h =
    let parts : AreSeats id k 0 (backwards (seats_of ws) ++ w.seat ∷ rest) =
    subst (AreSeats id k 0) (append_assoc (backwards (seats_of ws)) (w.seat ∷ []) rest) h in (
      seat_is_opening_seat id k 0 (length ws) (backwards (seats_of ws)) rest w.seat (let e = length-seats_backward ws in omega (arith, e)) parts,
      worker_has_own_seat id k ws
          (w.seat ∷ rest) parts,
    )
