-- Positions of events and leaves along the steps of a thread.
use Rattle.std.proofs.Common.{◌≡◌, ℕ, zero, suc, ◌+◌, ◌<◌, ◌≤◌, Bool, true, false, List, [], ◌∷◌, ◌++◌, length, length-append, set, Option, Some, None, refl, sym, ap, ◌∙◌, arith, append-nil}
use Rattle.std.proofs.lemmas.List.Sums.{sum_by-set}
use Rattle.ir_lemmas.proofs.CallerLemmas.{length_of_append_item}
use Rattle.ir_thread.specs.Permitted.{Permits, held_count}
use Rattle.ir_thread.specs.State.{held_at, one_if_held, after_ask, shared_ask}
use Rattle.ir_thread.specs.State as thread
use Rattle.ir_runs.specs.declared.access.Access.{Access}
use Rattle.ir_runs.specs.declared.access.Access.TheVariants.{Reading, Writing}
use Rattle.ir_thread.specs.declared.ask.Ask.{Ask}
use Rattle.ir_thread.specs.declared.ask.Ask.TheVariants.{Private, Env, Enter, Try, Leave as Leaves, Get, Put, Print, End, Done}
use Rattle.ir_thread.specs.declared.ask.Reply.{Reply}
use Rattle.ir_thread.specs.declared.ask.Reply.TheVariants.{Go, Value}
use Rattle.ir_runs.specs.Machine.{act_of, target, Admits, Label, Quiet, Answer, EnteredAt, FailedTry, LeftAt}
use Rattle.ir_thread.proofs.CallerLemmas.{held_count_after_leave, other_answer_keeps_held}
use Rattle.ir_flat.specs.Flat.{Flat, thread_of, tables, machine}
use Rattle.ir_fit.proofs.Seen.{label_of_step}
use Rattle.ir_runs.specs.Run.{join_if}
use Rattle.ir_fit.specs.Placed.{place_if, places_from, leave_if, leaves_from}
use Rattle.ir_fit.specs.Growing.{Growing, placed_by}
use Rattle.ir_fit.specs.declared.leave.Leave.{Leave}

place_if-append : (k : Label) (i : ℕ) (ps qs : List ℕ) → place_if k i (ps ++ qs) ≡ place_if k i ps ++ qs
place_if-append Quiet i ps qs = refl
place_if-append (Answer a v) i ps qs = refl
place_if-append (EnteredAt o a v l) i ps qs = refl
place_if-append (FailedTry o) i ps qs = refl
place_if-append (LeftAt o a v) i ps qs = refl

leave_if-append : (k : Label) (i : ℕ) (ps qs : List Leave) → leave_if k i (ps ++ qs) ≡ leave_if k i ps ++ qs
leave_if-append Quiet i ps qs = refl
leave_if-append (Answer a v) i ps qs = refl
leave_if-append (EnteredAt o a v l) i ps qs = refl
leave_if-append (FailedTry o) i ps qs = refl
leave_if-append (LeftAt o a v) i ps qs = refl

pub places_from_of_append : {T : Type 0} (i : ℕ) (xs ys : List (T × Label))
    → places_from i (xs ++ ys) ≡ places_from i xs ++ places_from (i + length xs) ys
places_from_of_append i [] ys = ap (λ (k : ℕ). places_from k ys) (let e : i ≡ i + 0 = omega arith in e)
places_from_of_append i (x ∷ xs) ys =
    ap (place_if x.1 i) (places_from_of_append (suc i) xs ys
    ∙ ap (λ (k : ℕ). places_from (suc i) xs ++ places_from k ys) (let e : suc i + length xs ≡ i + suc (length xs) = omega arith in e))
    ∙ place_if-append x.1 i (places_from (suc i) xs) (places_from (i + suc (length xs)) ys)

pub leaves_from_of_append : {T : Type 0} (i : ℕ) (xs ys : List (T × Label))
    → leaves_from i (xs ++ ys) ≡ leaves_from i xs ++ leaves_from (i + length xs) ys
leaves_from_of_append i [] ys = ap (λ (k : ℕ). leaves_from k ys) (let e : i ≡ i + 0 = omega arith in e)
leaves_from_of_append i (x ∷ xs) ys =
    ap (leave_if x.1 i) (leaves_from_of_append (suc i) xs ys
    ∙ ap (λ (k : ℕ). leaves_from (suc i) xs ++ leaves_from k ys) (let e : suc i + length xs ≡ i + suc (length xs) = omega arith in e))
    ∙ leave_if-append x.1 i (leaves_from (suc i) xs) (leaves_from (i + suc (length xs)) ys)

-- steps that emit nothing
abbrev pub AllQuiet : {T : Type 0} → List (T × Label) → Type 0
AllQuiet [] = Unit {0}
AllQuiet (x ∷ xs) = (x.1 ≡ Quiet) × AllQuiet xs

pub quiet_steps_no_places : {T : Type 0} (i : ℕ) (xs : List (T × Label)) → AllQuiet xs → places_from i xs ≡ []
quiet_steps_no_places i [] h = refl
quiet_steps_no_places i (x ∷ xs) h = ap (λ k. place_if k i (places_from (suc i) xs)) h.0 ∙ quiet_steps_no_places (suc i) xs h.1

pub quiet_steps_no_leaves : {T : Type 0} (i : ℕ) (xs : List (T × Label)) → AllQuiet xs → leaves_from i xs ≡ []
quiet_steps_no_leaves i [] h = refl
quiet_steps_no_leaves i (x ∷ xs) h = ap (λ k. leave_if k i (leaves_from (suc i) xs)) h.0 ∙ quiet_steps_no_leaves (suc i) xs h.1

pub join_if_is_quiet : {T : Type 0} (b : Bool) (x : T × Label) (xs : List (T × Label)) → x.1 ≡ Quiet → AllQuiet xs → AllQuiet (join_if b x xs)
join_if_is_quiet true x xs h rest = (h, rest)
join_if_is_quiet false x xs h rest = rest

-- ---- what a step adds

pub entries_after_placed_by : (f : Flat) (t v : ℕ) (p : Growing) (q : Ask)
    → Admits (machine f) (act_of (shared_ask q) v) ((tables f).objects (target (act_of (shared_ask q) v)))
    → (placed_by f t p q).entries ≡ p.entries ++ place_if (label_of_step f q v) (thread_of f t).steps []
entries_after_placed_by f t v p Private can = sym (append-nil p.entries)
entries_after_placed_by f t v p (Env kind) can = refl
entries_after_placed_by f t v p (Enter o Reading) can = refl
entries_after_placed_by f t v p (Enter o Writing) can = refl
entries_after_placed_by f t zero p (Try o) can = refl
entries_after_placed_by f t (suc zero) p (Try o) can = refl
entries_after_placed_by f t (suc (suc v)) p (Try o) can = absurd can
entries_after_placed_by f t v p (Leaves o a) can = sym (append-nil p.entries)
entries_after_placed_by f t v p (Get o i) can = sym (append-nil p.entries)
entries_after_placed_by f t v p (Put o i w) can = sym (append-nil p.entries)
entries_after_placed_by f t v p Print can = sym (append-nil p.entries)
entries_after_placed_by f t v p (End e) can = sym (append-nil p.entries)
entries_after_placed_by f t v p Done can = sym (append-nil p.entries)

pub leaves_after_placed_by : (f : Flat) (t v : ℕ) (p : Growing) (q : Ask)
    → (placed_by f t p q).leaves ≡ p.leaves ++ leave_if (label_of_step f q v) (thread_of f t).steps []
leaves_after_placed_by f t v p Private = sym (append-nil p.leaves)
leaves_after_placed_by f t v p (Env kind) = sym (append-nil p.leaves)
leaves_after_placed_by f t v p (Enter o Reading) = sym (append-nil p.leaves)
leaves_after_placed_by f t v p (Enter o Writing) = sym (append-nil p.leaves)
leaves_after_placed_by f t zero p (Try o) = sym (append-nil p.leaves)
leaves_after_placed_by f t (suc zero) p (Try o) = sym (append-nil p.leaves)
leaves_after_placed_by f t (suc (suc v)) p (Try o) = sym (append-nil p.leaves)
leaves_after_placed_by f t v p (Leaves o a) = refl
leaves_after_placed_by f t v p (Get o i) = sym (append-nil p.leaves)
leaves_after_placed_by f t v p (Put o i w) = sym (append-nil p.leaves)
leaves_after_placed_by f t v p Print = sym (append-nil p.leaves)
leaves_after_placed_by f t v p (End e) = sym (append-nil p.leaves)
leaves_after_placed_by f t v p Done = sym (append-nil p.leaves)

pub room_after_placed_by : (f : Flat) (t : ℕ) (p : Growing) (q : Ask) → (placed_by f t p q).room ≡ p.room
room_after_placed_by f t p Private = refl
room_after_placed_by f t p (Env kind) = refl
room_after_placed_by f t p (Enter o a) = refl
room_after_placed_by f t p (Try o) = refl
room_after_placed_by f t p (Leaves o a) = refl
room_after_placed_by f t p (Get o i) = refl
room_after_placed_by f t p (Put o i w) = refl
room_after_placed_by f t p Print = refl
room_after_placed_by f t p (End e) = refl
room_after_placed_by f t p Done = refl

-- ---- how many there are

pub placed_count_events : (code : List ℕ) (f : Flat) (t : ℕ) (p : Growing) (x : thread.ThreadState) (q : Ask) (r : Reply) → length p.entries ≡ x.events
    → length (placed_by f t p q).entries ≡ (after_ask code x q r).events
placed_count_events code f t p x Private r h = h
placed_count_events code f t p x (Env kind) r h = let n = length_of_append_item p.entries (thread_of f t).steps in omega (arith, n, h)
placed_count_events code f t p x (Enter o a) r h = let n = length_of_append_item p.entries (thread_of f t).steps in omega (arith, n, h)
placed_count_events code f t p x (Try o) r h = let n = length_of_append_item p.entries (thread_of f t).steps in omega (arith, n, h)
placed_count_events code f t p x (Leaves o a) r h = h
placed_count_events code f t p x (Get o i) r h = h
placed_count_events code f t p x (Put o i w) r h = h
placed_count_events code f t p x Print r h = h
placed_count_events code f t p x (End e) r h = h
placed_count_events code f t p x Done r h = h

held_count_set_some : (held : List (Option Access)) (o : ℕ) (a : Access) → o < length held → held_count (set held o (Some a)) ≤ held_count held + 1
held_count_set_some held o a l = let sums = sum_by-set one_if_held held o (Some a) None l in omega (arith, sums)

some_is_not_none : (x : Option Access) (a : Access) → x ≡ Some a → x ≡ None → ⊥
some_is_not_none x a e n = cc (e, n)

pub placed_leaves_in_events : (code : List ℕ) (f : Flat) (t : ℕ) (p : Growing) (x : thread.ThreadState) (q : Ask) (r : Reply) → Permits x q
    → length p.leaves + held_count x.held ≤ x.events
    → length (placed_by f t p q).leaves + held_count (after_ask code x q r).held ≤ (after_ask code x q r).events
placed_leaves_in_events code f t p x Private r k h = h
placed_leaves_in_events code f t p x (Env kind) r k h = omega (arith, h)
placed_leaves_in_events code f t p x (Enter o a) r k h = let more = held_count_set_some x.held o a k.2 in omega (arith, h, more)
placed_leaves_in_events code f t p x (Try o) Go k h = omega (arith, h)
placed_leaves_in_events code f t p x (Try o) (Value zero) k h = omega (arith, h)
placed_leaves_in_events code f t p x (Try o) (Value (suc zero)) k h = let more = held_count_set_some x.held o Writing k.2 in omega (arith, h, more)
placed_leaves_in_events code f t p x (Try o) (Value (suc (suc v))) k h = let same = ap held_count (other_answer_keeps_held x.held o v) in omega (arith, h, same)
placed_leaves_in_events code f t p x (Leaves o a) r k h =
    let less = held_count_after_leave x.held o k.1 (some_is_not_none (held_at x.held o) a k.2) in
    let n : length (placed_by f t p (Leaves o a)).leaves ≡ length p.leaves + 1 = length_of_append_item p.leaves _ in
    omega (arith, h, less, n)
placed_leaves_in_events code f t p x (Get o i) r k h = h
placed_leaves_in_events code f t p x (Put o i w) r k h = h
placed_leaves_in_events code f t p x Print r k h = h
placed_leaves_in_events code f t p x (End e) r k h = h
placed_leaves_in_events code f t p x Done r k h = h
