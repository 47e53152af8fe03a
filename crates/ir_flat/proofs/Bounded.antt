-- Each step keeps threads and objects within their bounds: words are words, and steps within the budget and what closes after it.
use Rattle.std.proofs.Common.{◌≡◌, ℕ, zero, suc, ◌+◌, ◌*◌, ◌<◌, ◌≤◌, List, [], ◌∷◌, length, length-set, take, drop, get_or, Option, Some, None, refl, sym, ap, ◌∙◌, subst, arith, inl, inr}
use Rattle.std.proofs.lemmas.Bool.{cases_lt}
use Rattle.std.proofs.lemmas.List.{get_or_past, length-replicate}
use Rattle.ir_image.specs.Guest.{Guest, object_count, object_words}
use Rattle.ir_image.specs.Bounds.{IsWord, IsGuest}
use Rattle.ir_image.proofs.CallerLemmas.{guest_threads_within, get_or_zero-padded}
use Rattle.ir_mach.proofs.CallerLemmas.{get_or_default_satisfies, all_of_take, all_of_drop, HasWords, start_core_has_words}
use Rattle.ir_thread.specs.Permitted.{IsRunning, Permits, held_count}
use Rattle.ir_thread.specs.State.{end_code, ask_of, after_ask, after_reply, most_events, shared_ask, reply_of, thread_machine}
use Rattle.ir_thread.specs.State as thread
use Rattle.ir_thread.specs.declared.ask.Ask.{Ask}
use Rattle.ir_thread.specs.declared.ask.Ask.TheVariants.{Private, Env, Enter, Try, Leave, Get, Put, Print, End, Done}
use Rattle.ir_thread.specs.declared.end.End as end
use Rattle.ir_thread.specs.declared.profile.Profile.{Profile}
use Rattle.ir_thread.proofs.CallerLemmas.{ask_of_permitted, held_count_after_leave, held_count_le_length, AsksWords, ask_of_has_words, ask_reply_has_words, environment_result_word}
use Rattle.ir_runs.specs.Machine.{act_of, Object, target, Admits, acted, reply}
use Rattle.ir_runs.specs.declared.access.Access.{Access}
use Rattle.ir_runs.specs.declared.access.Access.TheVariants.{Reading, Writing}
use Rattle.ir_runs.specs.Run.{State, Step, act, Can, after, IsRun, end}
use Rattle.ir_runs.proofs.CallerLemmas.{upd_by_cases}
use Rattle.ir_flat.specs.Flat.{idle, thread_of, tables, start_threads, start_cells, start_flat}
use Rattle.ir_object.specs.Empty.{empty}
use Rattle.ir_flat.proofs.Kept.{events_after_ask, ask_events_within_most, length-held_after_ask}
use Rattle.ir_flat.proofs.Fresh.{length_of_start_threads, length_of_start_cells, start_words_are_first}

-- ---- one thread

-- before its end a thread has taken no more steps than its budget; from it on one more, and one for each object that it has left since
abbrev pub StepsFit : Option end.End → thread.ThreadState → Type 0
StepsFit None x = x.steps ≤ x.budget
StepsFit (Some e) x = x.steps + held_count x.held ≤ x.budget + 1 + length x.held

-- the code of its end is a word
abbrev pub CodeFits : Option end.End → Type 0
CodeFits None = Unit {0}
CodeFits (Some e) = IsWord (end_code e)

-- a thread within a budget, of a guest with `objects` objects, with a profile
pub record IsBounded (budget objects : ℕ) (profile : Profile) (x : thread.ThreadState) : Type 0 where
  pub words : HasWords x.core
  pub number : IsWord x.number
  pub places : length x.held ≤ objects
  pub limit : x.budget ≤ budget
  pub profile_is : x.profile ≡ profile
  pub events : x.events ≤ most_events
  pub steps : StepsFit x.ended x
  pub code : CodeFits x.ended

-- the steps after what was asked
running_step_fits : (x y : thread.ThreadState) → IsRunning x → y.ended ≡ x.ended → y.steps ≡ x.steps + 1 → y.budget ≡ x.budget
    → StepsFit y.ended y
running_step_fits x y runs same one limit = subst (λ e. StepsFit e y) (sym (same ∙ runs.lives)) (omega (arith, runs.has_budget, one, limit))

steps_fit_after_leave : (x y : thread.ThreadState) (e : Option end.End) → x.ended ≡ e → StepsFit e x → (x.ended ≡ None → x.steps < x.budget)
    → y.steps ≡ x.steps + 1 → y.budget ≡ x.budget → length y.held ≡ length x.held
    → held_count x.held ≡ suc (held_count y.held) → StepsFit e y
steps_fit_after_leave x y None is h less one limit same fewer = let l = less is in omega (arith, l, one, limit)
steps_fit_after_leave x y (Some e) is h less one limit same fewer = omega (arith, h, one, limit, same, fewer)

steps_fit_after_ask : {budget objects : ℕ} {profile : Profile} (code : List ℕ) (x : thread.ThreadState) (q : Ask) (v : ℕ)
    → IsBounded budget objects profile x → Permits x q
    → StepsFit (after_ask code x q (reply_of q v)).ended (after_ask code x q (reply_of q v))
steps_fit_after_ask code x Private v h p = running_step_fits x (after_ask code x Private (reply_of Private v)) p refl refl refl
steps_fit_after_ask code x (Env kind) v h p = running_step_fits x (after_ask code x (Env kind) (reply_of (Env kind) v)) p.0 refl refl refl
steps_fit_after_ask code x (Enter o a) v h p = running_step_fits x (after_ask code x (Enter o a) (reply_of (Enter o a) v)) p.0 refl refl refl
steps_fit_after_ask code x (Try o) v h p = running_step_fits x (after_ask code x (Try o) (reply_of (Try o) v)) p.0 refl refl refl
steps_fit_after_ask code x (Leave o a) v h p =
    steps_fit_after_leave x (after_ask code x (Leave o a) (reply_of (Leave o a) v)) x.ended refl h.steps p.0 refl refl
    (length-set x.held o None) (held_count_after_leave x.held o p.1 (λ none. cc (p.2, none)))
steps_fit_after_ask code x (Get o i) v h p = running_step_fits x (after_ask code x (Get o i) (reply_of (Get o i) v)) p.0 refl refl refl
steps_fit_after_ask code x (Put o i w) v h p = running_step_fits x (after_ask code x (Put o i w) (reply_of (Put o i w) v)) p.0 refl refl refl
steps_fit_after_ask code x Print v h p = running_step_fits x (after_ask code x Print (reply_of Print v)) p.0 refl refl refl
steps_fit_after_ask code x (End e) v h p =
    let was : x.steps ≤ x.budget = subst (λ z. StepsFit z x) p h.steps in
    let few = held_count_le_length x.held in
    omega (arith, was, few)
steps_fit_after_ask code x Done v h p = h.steps

-- what stays, and the end's code
record LimitsStay (x y : thread.ThreadState) : Type 0 where
  number : y.number ≡ x.number
  limit : y.budget ≡ x.budget
  profile_is : y.profile ≡ x.profile
  code : CodeFits y.ended

limits_stay_after_ask : (code : List ℕ) (x : thread.ThreadState) (q : Ask) (v : ℕ) → CodeFits x.ended → AsksWords q
    → LimitsStay x (after_ask code x q (reply_of q v))
limits_stay_after_ask code x Private v c w = record { number = refl; limit = refl; profile_is = refl; code = c }
limits_stay_after_ask code x (Env kind) v c w = record { number = refl; limit = refl; profile_is = refl; code = c }
limits_stay_after_ask code x (Enter o a) v c w = record { number = refl; limit = refl; profile_is = refl; code = c }
limits_stay_after_ask code x (Try o) v c w = record { number = refl; limit = refl; profile_is = refl; code = c }
limits_stay_after_ask code x (Leave o a) v c w = record { number = refl; limit = refl; profile_is = refl; code = c }
limits_stay_after_ask code x (Get o i) v c w = record { number = refl; limit = refl; profile_is = refl; code = c }
limits_stay_after_ask code x (Put o i u) v c w = record { number = refl; limit = refl; profile_is = refl; code = c }
limits_stay_after_ask code x Print v c w = record { number = refl; limit = refl; profile_is = refl; code = c }
limits_stay_after_ask code x (End e) v c w = record { number = refl; limit = refl; profile_is = refl; code = w }
limits_stay_after_ask code x Done v c w = record { number = refl; limit = refl; profile_is = refl; code = c }

bounded_after_ask : {budget objects : ℕ} {profile : Profile} (code : List ℕ) (x : thread.ThreadState) (q : Ask) (v : ℕ)
    → IsBounded budget objects profile x → Permits x q → AsksWords q → IsWord v
    → IsBounded budget objects profile (after_ask code x q (reply_of q v))
bounded_after_ask code x q v h p asks fits =
    let same = limits_stay_after_ask code x q v h.code asks in
    let places = length-held_after_ask code x q (reply_of q v) in
    let events = events_after_ask code x q (reply_of q v) in
    let room = ask_events_within_most x q p h.events in
    record {
      words = ask_reply_has_words code x q v h.words h.number fits;
      number = subst IsWord (sym same.number) h.number;
      places = omega (arith, places, h.places);
      limit = omega (arith, same.limit, h.limit);
      profile_is = same.profile_is ∙ h.profile_is;
      events = omega (arith, events, room);
      steps = steps_fit_after_ask code x q v h p;
      code = same.code;
    }

-- ---- what it is answered, and what that makes of the object

reply_is_word : (code : List ℕ) (q : Ask) (r : ℕ) (b : Object) → ((i : ℕ) → IsWord (b.words i))
    → Admits (thread_machine code) (act_of (shared_ask q) r) b
    → IsWord (reply (act_of (shared_ask q) r) b)
reply_is_word code Private r b h can = omega arith
reply_is_word code (Env kind) r b h can = environment_result_word kind r can
reply_is_word code (Enter o a) r b h can = omega arith
reply_is_word code (Try o) zero b h can = omega arith
reply_is_word code (Try o) (suc zero) b h can = omega arith
reply_is_word code (Try o) (suc (suc r)) b h can = omega arith
reply_is_word code (Leave o a) r b h can = omega arith
reply_is_word code (Get o i) r b h can = h i
reply_is_word code (Put o i w) r b h can = omega arith
reply_is_word code Print r b h can = omega arith
reply_is_word code (End e) r b h can = omega arith
reply_is_word code Done r b h can = omega arith

object_words_stay_words : (q : Ask) (r t : ℕ) (b : Object) → ((i : ℕ) → IsWord (b.words i)) → AsksWords q
    → (i : ℕ) → IsWord ((acted (act_of (shared_ask q) r) t b).words i)
object_words_stay_words Private r t b h asks i = h i
object_words_stay_words (Env kind) r t b h asks i = h i
object_words_stay_words (Enter o a) r t b h asks i = h i
object_words_stay_words (Try o) zero t b h asks i = h i
object_words_stay_words (Try o) (suc zero) t b h asks i = h i
object_words_stay_words (Try o) (suc (suc r)) t b h asks i = h i
object_words_stay_words (Leave o Reading) r t b h asks i = h i
object_words_stay_words (Leave o Writing) r t b h asks i = h i
object_words_stay_words (Get o j) r t b h asks i = h i
object_words_stay_words (Put o j w) r t b h asks i = upd_by_cases b.words j w i IsWord (λ _. asks) (λ _. h i)
object_words_stay_words Print r t b h asks i = h i
object_words_stay_words (End e) r t b h asks i = h i
object_words_stay_words Done r t b h asks i = h i

-- ---- all threads and objects

-- each thread has its profile, and the words of each object are words
pub record IsWithin (budget objects : ℕ) (profiles : ℕ → Profile) (s : State thread.ThreadState) : Type 0 where
  pub threads : (t : ℕ) → IsBounded budget objects (profiles t) (s.now t)
  pub words : (o i : ℕ) → IsWord ((s.objects o).words i)

within_bounds_step : (code : List ℕ) {budget objects : ℕ} {profiles : ℕ → Profile} (s : State thread.ThreadState) (e : Step)
    → IsWithin budget objects profiles s → Can (thread_machine code) s e
    → IsWithin budget objects profiles (after (thread_machine code) s e)
unfolding after after_reply
within_bounds_step code {budget} {objects} {profiles} s e h can =
    let x : thread.ThreadState = s.now e.0 in
    let q : Ask = ask_of code x in
    let o : ℕ = target (act (thread_machine code) s e) in
    let b : Object = s.objects o in
    let v : ℕ = reply (act (thread_machine code) s e) b in
    let asks : AsksWords q = ask_of_has_words code x (h.threads e.0).words in
    record {
      threads = λ t. upd_by_cases s.now e.0 (after_ask code x q (reply_of q v)) t (IsBounded budget objects (profiles t))
          (λ same. subst (λ z. IsBounded budget objects (profiles z) (after_ask code x q (reply_of q v))) (sym same)
          (bounded_after_ask code x q v (h.threads e.0) (ask_of_permitted code x) asks (reply_is_word code q e.1 b (h.words o) can)))
          (λ _. h.threads t);
      words = λ p. upd_by_cases s.objects o (acted (act (thread_machine code) s e) e.0 b) p (λ z. (i : ℕ) → IsWord (z.words i))
          (λ _. object_words_stay_words q e.1 e.0 b (h.words o) asks) (λ _. h.words p);
    }

within_bounds_after_run : (code : List ℕ) {budget objects : ℕ} {profiles : ℕ → Profile} (s : State thread.ThreadState) (run : List Step)
    → IsWithin budget objects profiles s → IsRun (thread_machine code) s run
    → IsWithin budget objects profiles (end (thread_machine code) s run)
within_bounds_after_run code s [] h ok = h
within_bounds_after_run code s (e ∷ run) h ok = within_bounds_after_run code (after (thread_machine code) s e) run (within_bounds_step code s e h ok.0) ok.1

-- ---- the start

-- a thread of the guest's is one at its start
pub get_or-start_threads : (g : Guest) (budget : ℕ) (profile : Profile) (from n t : ℕ) → t < n
    → get_or (start_threads g budget profile from n) t idle ≡ thread.start_state g (from + t) budget profile
get_or-start_threads g budget profile from zero t l = absurd (omega arith)
get_or-start_threads g budget profile from (suc n) zero l = ap (λ z. thread.start_state g z budget profile)
    (let e : from ≡ from + 0 = omega arith in e)
get_or-start_threads g budget profile from (suc n) (suc t) l = get_or-start_threads g budget profile (suc from) n t (omega (arith, l))
    ∙ ap (λ z. thread.start_state g z budget profile) (let e : suc from + t ≡ from + suc t = omega arith in e)

start_thread_is_bounded : (g : Guest) (budget : ℕ) (profile : Profile) (t : ℕ) → IsGuest g → t < length g.entries
    → IsBounded budget (object_count g) profile (thread.start_state g t budget profile)
start_thread_is_bounded g budget profile t is l =
    let few = guest_threads_within g is in
    let places = length-replicate {A = Option Access} (object_count g) None in
    record {
      words = start_core_has_words g t is;
      number = omega (arith, l, few);
      places = omega (arith, places);
      limit = omega arith;
      profile_is = refl;
      events = omega arith;
      steps = omega arith;
      code = tt;
    }

idle_thread_is_bounded : (budget objects : ℕ) → IsBounded budget objects idle.profile idle
idle_thread_is_bounded budget objects = record {
  words = record { registers = tt; memory = tt };
  number = omega arith;
  places = omega arith;
  limit = omega arith;
  profile_is = refl;
  events = omega arith;
  steps = omega arith;
  code = omega arith;
}

-- the profiles of a guest's threads
abbrev pub profiles_of : Guest → ℕ → Profile → ℕ → Profile
profiles_of g budget profile t = (thread_of (start_flat g budget profile) t).profile

start_threads_bounded : (g : Guest) (budget : ℕ) (profile : Profile) (t : ℕ) → IsGuest g
    → IsBounded budget (object_count g) (profiles_of g budget profile t) (thread_of (start_flat g budget profile) t)
start_threads_bounded g budget profile t is = elim (cases_lt t (length g.entries)) [
  | inl l ↦ subst (λ x. IsBounded budget (object_count g) x.profile x)
      (sym (get_or-start_threads g budget profile 0 (length g.entries) t l
      ∙ ap (λ z. thread.start_state g z budget profile) (let e : 0 + t ≡ t = omega arith in e)))
      (start_thread_is_bounded g budget profile t is l)
  | inr past ↦ subst (λ x. IsBounded budget (object_count g) x.profile x)
      (sym (get_or_past (start_threads g budget profile 0 (length g.entries)) t idle
      (let n = length_of_start_threads g budget profile 0 (length g.entries) in omega (arith, n, past))))
      (idle_thread_is_bounded budget (object_count g))
]

start_words_are_words : (g : Guest) (budget : ℕ) (profile : Profile) (o i : ℕ) → IsGuest g
    → IsWord (((tables (start_flat g budget profile)).objects o).words i)
start_words_are_words g budget profile o i is = elim (cases_lt o (object_count g)) [
  | inl l ↦
      let words : List ℕ = take (object_words g) (drop (object_words g * (0 + o)) g.words) in
      subst (λ xs. IsWord (get_or xs i 0)) (sym (start_words_are_first g 0 (object_count g) o l)) (subst IsWord (sym (get_or_zero-padded words i))
      (get_or_default_satisfies IsWord words i 0 (omega arith) (all_of_take IsWord (object_words g) (drop (object_words g * (0 + o)) g.words)
      (all_of_drop IsWord (object_words g * (0 + o)) g.words is.words_fit))))
  | inr past ↦ subst (λ c. IsWord (get_or c.words i 0))
      (sym (get_or_past (start_cells g 0 (object_count g)) o empty
      (let n = length_of_start_cells g 0 (object_count g) in omega (arith, n, past))))
      (let zero_fits : IsWord 0 = omega arith in zero_fits)
]

-- in each state that a run reaches
pub within_bounds_run_end : (g : Guest) (budget : ℕ) (profile : Profile) (run : List Step) → IsGuest g
    → IsRun (thread_machine g.code) (tables (start_flat g budget profile)) run
    → IsWithin budget (object_count g) (profiles_of g budget profile)
    (end (thread_machine g.code) (tables (start_flat g budget profile)) run)
within_bounds_run_end g budget profile run is ok = within_bounds_after_run g.code (tables (start_flat g budget profile)) run
    (record { threads = λ t. start_threads_bounded g budget profile t is; words = λ o i. start_words_are_words g budget profile o i is }) ok
