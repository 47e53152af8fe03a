-- Workers that are made, gathered and joined, one by one.
use Rattle.ir_thread.specs.declared.profile.Profile.{Profile}
use Rattle.std.proofs.Common.{◌≡◌, ℕ, suc, ◌+◌, ◌<◌, ◌≤◌, Bool, false, List, [], ◌∷◌, ◌++◌, map, length, get_or, take, drop, refl, sym, ap}
use Rattle.std.proofs.Common.{◌∙◌, subst, arith, inl, inr, append-nil, append_assoc, length-append}
use Rattle.std.proofs.lemmas.Bool.{cases_lt}
use Rattle.std.proofs.lemmas.List.{length-map, get_or_past, get_or-map}
use Rattle.std.specs.List.{AllByRecursion, AllZip}
use Rattle.atomic_table.specs.Seated.{TableId}
use Rattle.atomic_table.specs.declared.shared.Seat.{Seat}
use Rattle.ir_image.specs.Guest.{Guest}
use Rattle.ir_crew.specs.Ends.{AreCrewSeats}
use Rattle.ir_crew.specs.Rule.{CrewView}
use Rattle.ir_trace.specs.Recorded.{RecordedThread}
use Rattle.ir_record.specs.Gathered.{IsThreadTrace}
use Rattle.ir_record.specs.Threads.{IsNewThread, AreNew, AreTraces, views_of}
use Rattle.ir_record.specs.declared.by_threads.worker.Worker.{Worker}

pub new_workers_push : {W : Type 0} (g : Guest) (budget : ℕ) (profile : Profile) (id : TableId) (t n : ℕ) (ws : List (Worker W)) (w : Worker W)
    → AreNew g budget profile id t ws → n ≡ t + length ws → IsNewThread g budget profile id n w → AreNew g budget profile id t (ws ++ w ∷ [])
new_workers_push g budget profile id t n [] w h e new = (subst (λ z. IsNewThread g budget profile id z w) (let q : n ≡ t = omega (arith, e) in q) new, tt)
new_workers_push g budget profile id t n (x ∷ ws) w h e new = (h.0, new_workers_push g budget profile id (suc t) n ws w h.1 (omega (arith, e)) new)

-- the first seat, and those left
pub first_seat_and_rest : (id : TableId) (t : ℕ) (ss rest : List (Seat (Unit {0}) CrewView)) (s : Seat (Unit {0}) CrewView) → 0 < length ss
    → s ≡ get_or ss 0 s → rest ≡ take 0 ss ++ drop 1 ss → AreCrewSeats id t ss
    → ((s.table_id ≡ id) × (s.me ≡ (record { thread = t; steps = [] } ∷ [], []))) × AreCrewSeats id (suc t) rest
first_seat_and_rest id t [] rest s l is left h = absurd (omega arith)
first_seat_and_rest id t (x ∷ ss) rest s l is left h =
    ((ap (λ z. z.table_id) is ∙ h.0.0, ap (λ z. z.me) is ∙ h.0.1), subst (AreCrewSeats id (suc t)) (sym left) h.1)

pub rest_one_shorter : {A : Type 0} (ss rest : List A) → 0 < length ss → rest ≡ take 0 ss ++ drop 1 ss → length rest + 1 ≡ length ss
rest_one_shorter [] rest l left = absurd (omega arith)
rest_one_shorter (x ∷ ss) rest l left = let e : length rest ≡ length ss = ap (λ z. length z) left in omega (arith, e)

pub worker_traces_push : {W : Type 0} (ws : List (Worker W)) (rs : List RecordedThread) (w : Worker W) (r : RecordedThread) → AreTraces ws rs
    → IsThreadTrace w.thread w.log r → AreTraces (ws ++ w ∷ []) (rs ++ r ∷ [])
worker_traces_push [] [] w r h i = (i, tt)
worker_traces_push [] (q ∷ rs) w r h i = absurd h
worker_traces_push (x ∷ ws) [] w r h i = absurd h
worker_traces_push (x ∷ ws) (q ∷ rs) w r h i = (h.0, worker_traces_push ws rs w r h.1 i)

pub traces_count_workers : {W : Type 0} (ws : List (Worker W)) (rs : List RecordedThread) → AreTraces ws rs → length rs ≡ length ws
traces_count_workers [] [] h = refl
traces_count_workers [] (q ∷ rs) h = absurd h
traces_count_workers (x ∷ ws) [] h = absurd h
traces_count_workers (x ∷ ws) (q ∷ rs) h = ap suc (traces_count_workers ws rs h.1)

pub middle_has_property : {X : Type 0} (P : X → Type 0) (xs ys : List X) (x : X) → AllByRecursion P (xs ++ x ∷ ys) → P x
middle_has_property P [] ys x h = h.0
middle_has_property P (y ∷ xs) ys x h = middle_has_property P xs ys x h.1

pub views_with_seat_added : (ss : List (Seat (Unit {0}) CrewView)) (s : Seat (Unit {0}) CrewView) → views_of (ss ++ s ∷ []) ≡ views_of ss ++ s.me.0
views_with_seat_added [] s = append-nil s.me.0
views_with_seat_added (x ∷ ss) s = ap (λ z. x.me.0 ++ z) (views_with_seat_added ss s) ∙ sym (append_assoc x.me.0 (views_of ss) s.me.0)

-- a seat more is joined
pub views_join_whole : (old rest : List (Seat (Unit {0}) CrewView)) (s all new : Seat (Unit {0}) CrewView) (whole : CrewView) → views_of old ++ all.me.0 ≡ whole
    → old ≡ rest ++ s ∷ [] → new.me ≡ (s.me.0 ++ all.me.0, []) → views_of rest ++ new.me.0 ≡ whole
views_join_whole old rest s all new whole h e is =
    ap (λ z. views_of rest ++ z.0) is ∙ sym (append_assoc (views_of rest) s.me.0 all.me.0)
    ∙ ap (λ z. z ++ all.me.0) (sym (views_with_seat_added rest s) ∙ ap views_of (sym e)) ∙ h

pub all_false_below_length : {W : Type 0} (f : W → Bool) (ws : List W) (n : ℕ) → length ws ≤ n → ((u : ℕ) → u < n → get_or (map f ws) u false ≡ false)
    → (t : ℕ) → get_or (map f ws) t false ≡ false
all_false_below_length f ws n l h t = elim (cases_lt t n) [
  | inl below ↦ h t below
  | inr past ↦ get_or_past (map f ws) t false (let m = length-map ws f in omega (arith, m, l, past))
]

pub false_below_suc : {W : Type 0} (f : W → Bool) (ws : List W) (t : ℕ) (d : W) → t < length ws → f (get_or ws t d) ≡ false
    → ((u : ℕ) → u < t → get_or (map f ws) u false ≡ false) → (u : ℕ) → u < t + 1 → get_or (map f ws) u false ≡ false
false_below_suc f ws t d within here before u below = elim (cases_lt u t) [
  | inl l ↦ before u l
  | inr l ↦ let same : t ≡ u = omega (arith, l, below) in
      subst (λ k. get_or (map f ws) k false ≡ false) same (get_or-map f ws t d false within ∙ here)
]

pub append_one_is_map : {A B : Type 0} (f : A → B) (xs : List A) (x : A) (ys : List B) (y : B) → ys ≡ map f xs → y ≡ f x → ys ++ y
    ∷ [] ≡ map f (xs ++ x ∷ [])
append_one_is_map f xs x ys y e h = (λ i. e i ++ h i ∷ []) ∙ go xs
  where
    go : (zs : _) → map f zs ++ f x ∷ [] ≡ map f (zs ++ x ∷ [])
    go [] = refl
    go (z ∷ zs) = ap (λ k. f z ∷ k) (go zs)

pub length_push_suc : {A : Type 0} (xs ys : List A) (x : A) → ys ≡ xs ++ x ∷ [] → length ys ≡ suc (length xs)
length_push_suc xs ys x e = ap (λ z. length z) e ∙ length-append xs (x ∷ []) ∙ (let q : length xs + 1 ≡ suc (length xs) = omega arith in q)

pub empty_if_length_zero : {A : Type 0} (xs : List A) (n : ℕ) → n ≡ length xs → n ≡ 0 → xs ≡ []
empty_if_length_zero [] n e z = refl
empty_if_length_zero (x ∷ xs) n e z = absurd (omega (arith, e, z))

pub zip_by_index : {A : Type 0} (P : A → A → Type 0) (xs ys : List A) → length ys ≡ length xs
    → ((i : ℕ) (d : A) → i < length xs → P (get_or xs i d) (get_or ys i d)) → AllZip P xs ys
zip_by_index P [] [] e h = tt
zip_by_index P [] (y ∷ ys) e h = absurd (omega (arith, e))
zip_by_index P (x ∷ xs) [] e h = absurd (omega (arith, e))
zip_by_index P (x ∷ xs) (y ∷ ys) e h = (h 0 x (omega arith), zip_by_index P xs ys (omega (arith, e)) (λ i d l. h (suc i) d (omega (arith, l))))
