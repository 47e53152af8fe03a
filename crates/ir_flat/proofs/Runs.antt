-- What holds in each state that a run of a guest reaches.
use Rattle.std.proofs.Common.{◌≡◌, ℕ, ◌<◌, ◌≤◌, true, List, [], ◌∷◌, length, refl, ap, subst, arith, inl, inr}
use Rattle.std.proofs.lemmas.Bool.{cases_lt}
use Rattle.std.proofs.lemmas.List.{get_or_past}
use Rattle.ir_image.specs.Guest.{Guest, object_count}
use Rattle.ir_thread.specs.State.{ask_of, after_ask, after_reply, shared_ask, reply_of, is_result, thread_machine}
use Rattle.ir_thread.specs.Permitted.{Permits}
use Rattle.ir_runs.specs.Machine as machine
use Rattle.ir_runs.specs.Machine.{upd, target, Admits, reply}
use Rattle.ir_thread.specs.declared.profile.Profile.{Profile}
use Rattle.ir_thread.specs.State as thread
use Rattle.ir_runs.specs.declared.access.Access.{Access}
use Rattle.ir_thread.specs.declared.ask.Ask.{Ask}
use Rattle.ir_thread.specs.declared.ask.Ask.TheVariants.{Private, Env, Enter, Try, Leave, Get, Put, Print, End, Done}
use Rattle.ir_runs.specs.declared.env_kind.EnvKind.{EnvKind}
use Rattle.ir_runs.specs.declared.env_kind.EnvKind.TheVariants.{Clock, Random, Input}
use Rattle.ir_thread.proofs.CallerLemmas.{ask_of_permitted, thread_machine_lawful}
use Rattle.ir_runs.proofs.CallerLemmas.{upd_by_cases, idle_after_run, later_threads_stay_done, some_thread_can_step}
use Rattle.ir_flat.specs.Flat.{idle, thread_of, tables, start_threads, start_flat, IsKept}
use Rattle.ir_flat.specs.Laws.{NothingStuck, WritersAlone, HeldInside, CountsFit}
use Rattle.ir_runs.specs.Run.{State, Step, act, Can, after, IsRun, end}
use Rattle.ir_runs.specs.Bounds.{IsIdle, IsBounded}
use Rattle.ir_flat.proofs.Kept.{length-held_after_ask, kept_after_step, events_below_within, kept_state_invariant}
use Rattle.ir_flat.proofs.Fresh.{start_is_kept, length_of_start_threads, length-start_held}
use Rattle.ir_object.proofs.CallerLemmas.{readers_at_most_threads}

-- who steps is one of the threads
stepping_is_below_idle : (code : List ℕ) (n : ℕ) (s : State thread.ThreadState) (e : Step) → IsIdle (thread_machine code) s n → Can (thread_machine code) s e
    → e.0 < n
stepping_is_below_idle code n s e rest can = elim (cases_lt e.0 n) [
  | inl l ↦ l
  | inr g ↦ absurd (subst (λ q. Admits (thread_machine code) (machine.act_of q e.1) (s.objects (target (machine.act_of q e.1))))
      (rest e.0 g) can)
]

pub kept_after_run : (code : List ℕ) (n : ℕ) (s : State thread.ThreadState) (run : List Step) → IsIdle (thread_machine code) s n → IsKept n s
    → IsRun (thread_machine code) s run → IsKept n (end (thread_machine code) s run)
kept_after_run code n s [] rest k ok = k
kept_after_run code n s (e ∷ run) rest k ok =
    kept_after_run code n (after (thread_machine code) s e) run (later_threads_stay_done (thread_machine code) s n rest e ok.0)
    (kept_after_step code n s e (stepping_is_below_idle code n s e rest ok.0) k ok.0) ok.1

-- the threads have no more places than there are objects
abbrev pub HasPlaces : ℕ → State thread.ThreadState → Type 0
HasPlaces count s = (t : ℕ) → length (s.now t).held ≤ count

has_places_after_step : (code : List ℕ) (count : ℕ) (s : State thread.ThreadState) (e : Step) → HasPlaces count s
    → HasPlaces count (after (thread_machine code) s e)
unfolding after after_reply
has_places_after_step code count s e h t =
    let x : thread.ThreadState = s.now e.0 in
    let q : Ask = ask_of code x in
    let v : ℕ = reply (act (thread_machine code) s e) (s.objects (target (act (thread_machine code) s e))) in
    upd_by_cases s.now e.0 (after_ask code x q (reply_of q v)) t (λ z. length z.held ≤ count)
    (λ _. let same = length-held_after_ask code x q (reply_of q v) in let was = h e.0 in omega (arith, same, was))
    (λ _. h t)

held_lengths_bounded : (code : List ℕ) (count : ℕ) (s : State thread.ThreadState) (run : List Step) → HasPlaces count s
    → HasPlaces count (end (thread_machine code) s run)
held_lengths_bounded code count s [] h = h
held_lengths_bounded code count s (e ∷ run) h = held_lengths_bounded code count (after (thread_machine code) s e) run (has_places_after_step code count s e h)

entered_below_places : (x : thread.ThreadState) (q : Ask) (o : ℕ) (a : Access) → Permits x q → shared_ask q ≡ machine.Enter o a → o < length x.held
entered_below_places x Private o a p h = absurd (cc h)
entered_below_places x (Env kind) o a p h = absurd (cc h)
entered_below_places x (Enter i b) o a p h = subst (λ z. z < length x.held) (let e : ◌≡◌ {A = ℕ} i o = cc h in e) p.2
entered_below_places x (Try i) o a p h = absurd (cc h)
entered_below_places x (Leave i b) o a p h = absurd (cc h)
entered_below_places x (Get i j) o a p h = absurd (cc h)
entered_below_places x (Put i j w) o a p h = absurd (cc h)
entered_below_places x Print o a p h = absurd (cc h)
entered_below_places x (End e) o a p h = absurd (cc h)
entered_below_places x Done o a p h = absurd (cc h)

asks_bounded_by_places : (code : List ℕ) (count : ℕ) (s : State thread.ThreadState) → HasPlaces count s → IsBounded (thread_machine code) s count
asks_bounded_by_places code count s h t o a e = let below = entered_below_places (s.now t) (ask_of code (s.now t)) o a (ask_of_permitted code (s.now t)) e in let most =
    h t in omega (arith, below, most)

pub zero_is_result : (kind : EnvKind) → is_result kind 0 ≡ true
zero_is_result Clock = refl
zero_is_result Random = refl
zero_is_result Input = refl

pub guest_start_is_idle : (g : Guest) (budget : ℕ) (profile : Profile) → IsIdle (thread_machine g.code) (tables (start_flat g budget profile)) (length g.entries)
guest_start_is_idle g budget profile t l =
    ap (λ x. shared_ask (ask_of g.code x)) (get_or_past (start_threads g budget profile 0 (length g.entries)) t idle
    (let n = length_of_start_threads g budget profile 0 (length g.entries) in omega (arith, n, l)))

start_has_places : (g : Guest) (budget : ℕ) (profile : Profile) → HasPlaces (object_count g) (tables (start_flat g budget profile))
start_has_places g budget profile t = elim (cases_lt t (length g.entries)) [
  | inl l ↦ let same = length-start_held g budget profile 0 (length g.entries) t l in omega (arith, same)
  | inr past ↦
      let none : length (thread_of (start_flat g budget profile) t).held ≡ 0 =
      ap (λ x. length x.held) (get_or_past (start_threads g budget profile 0 (length g.entries)) t idle
      (let n = length_of_start_threads g budget profile 0 (length g.entries) in omega (arith, n, past))) in
      omega (arith, none)
]

pub kept_at_run_end : (g : Guest) (budget : ℕ) (profile : Profile) (run : List Step) → IsRun (thread_machine g.code) (tables (start_flat g budget profile)) run
    → IsKept (length g.entries) (end (thread_machine g.code) (tables (start_flat g budget profile)) run)
kept_at_run_end g budget profile run ok = kept_after_run g.code (length g.entries) (tables (start_flat g budget profile)) run (guest_start_is_idle g budget profile)
    (start_is_kept g budget profile) ok

pub guest_run_not_stuck : NothingStuck
guest_run_not_stuck g budget profile run ok t ne =
    let s : State thread.ThreadState = end (thread_machine g.code) (tables (start_flat g budget profile)) run in
    some_thread_can_step (thread_machine g.code) (thread_machine_lawful g.code) s (kept_state_invariant g.code (length g.entries) s (kept_at_run_end g budget profile run ok))
    (length g.entries) (object_count g)
    (idle_after_run (thread_machine g.code) (tables (start_flat g budget profile)) (length g.entries) (guest_start_is_idle g budget profile) run ok)
    (asks_bounded_by_places g.code (object_count g) s (held_lengths_bounded g.code (object_count g) (tables (start_flat g budget profile)) run (start_has_places g budget profile)))
    zero_is_result t ne

pub writers_are_alone : WritersAlone
writers_are_alone g budget profile run ok o t u ne h = (kept_at_run_end g budget profile run ok).exclusive o t u ne h

pub run_inside_is_held : HeldInside
run_inside_is_held g budget profile run ok o t = (kept_at_run_end g budget profile run ok).linked t o

pub run_object_counts_fit : CountsFit
run_object_counts_fit g budget profile run few ok o =
    let k = kept_at_run_end g budget profile run ok in
    let seen = k.logged o in
    let most = events_below_within (length g.entries) (end (thread_machine g.code) (tables (start_flat g budget profile)) run).now k.events in
    let inside = readers_at_most_threads (length g.entries) ((end (thread_machine g.code) (tables (start_flat g budget profile)) run).objects o).inside in
    record { version = omega (arith, seen, most, few); left = omega (arith, seen, most, few); inside = omega (arith, inside, few) }
