-- The profile of a thread stays as it was.
use Rattle.std.proofs.Common.{◌≡◌, ℕ, zero, suc, ◌<◌, List, [], ◌∷◌, get_or, refl, sym, ap, ◌∙◌, subst, arith}
use Rattle.std.specs.List.{AllByRecursion}
use Rattle.ir_image.specs.Guest.{Guest}
use Rattle.ir_thread.specs.State.{ask_of, after_ask, reply_of, thread_machine}
use Rattle.ir_thread.specs.State as thread
use Rattle.ir_thread.specs.declared.ask.Ask.{Ask}
use Rattle.ir_thread.specs.declared.ask.Ask.TheVariants.{Private, Env, Enter, Try, Leave, Get, Put, Print, End, Done}
use Rattle.ir_thread.specs.declared.ask.Reply.{Reply}
use Rattle.ir_thread.specs.declared.profile.Profile.{Profile}
use Rattle.ir_runs.specs.Machine.{target, reply}
use Rattle.ir_runs.proofs.CallerLemmas.{upd_by_cases}
use Rattle.ir_runs.specs.Run.{State, Step, act, after, end}
use Rattle.ir_flat.specs.Flat.{Flat, thread_of, tables, machine, idle, start_threads}
use Rattle.ir_flat.proofs.CallerLemmas.{moved_thread, threads_after_step}
use Rattle.ir_log.specs.declared.event.Event.{Event}
use Rattle.ir_trace.specs.Bounds.{IsEvent}

-- whatever a thread asks
pub profile_after_ask : (code : List ℕ) (x : thread.ThreadState) (q : Ask) (r : Reply) → (after_ask code x q r).profile ≡ x.profile
profile_after_ask code x Private r = refl
profile_after_ask code x (Env kind) r = refl
profile_after_ask code x (Enter object access) r = refl
profile_after_ask code x (Try object) r = refl
profile_after_ask code x (Leave object access) r = refl
profile_after_ask code x (Get object index) r = refl
profile_after_ask code x (Put object index value) r = refl
profile_after_ask code x Print r = refl
profile_after_ask code x (End e) r = refl
profile_after_ask code x Done r = refl

profile_after_step : (code : List ℕ) (s : State thread.ThreadState) (e : Step) (u : ℕ)
    → ((after (thread_machine code) s e).now u).profile ≡ (s.now u).profile
profile_after_step code s e u =
    subst (λ now. (now u).profile ≡ (s.now u).profile) (sym (threads_after_step code s e))
    (upd_by_cases s.now e.0 (moved_thread code s e) u (λ z. z.profile ≡ (s.now u).profile)
    (λ same. profile_after_ask code (s.now e.0) (ask_of code (s.now e.0))
    (reply_of (ask_of code (s.now e.0)) (reply (act (thread_machine code) s e) (s.objects (target (act (thread_machine code) s e)))))
    ∙ ap (λ t. (s.now t).profile) (sym same))
    (λ _. refl))

pub profile_after_run : (code : List ℕ) (s : State thread.ThreadState) (run : List Step) (u : ℕ)
    → ((end (thread_machine code) s run).now u).profile ≡ (s.now u).profile
profile_after_run code s [] u = refl
profile_after_run code s (e ∷ run) u = profile_after_run code (after (thread_machine code) s e) run u ∙ profile_after_step code s e u

pub thread_profile_stays : (f g : Flat) (t r u : ℕ) → tables g ≡ after (machine f) (tables f) (t, r)
    → (thread_of g u).profile ≡ (thread_of f u).profile
thread_profile_stays f g t r u taken = ap (λ s. (s.now u).profile) taken ∙ profile_after_step f.code (tables f) (t, r) u

-- a log fits as it did, where the profile and the number of objects are as they were
pub events_of_equal_counts : (p q : Profile) (n m : ℕ) (es : List Event) → q ≡ p → m ≡ n → AllByRecursion (IsEvent p n) es
    → AllByRecursion (IsEvent q m) es
events_of_equal_counts p q n m es e h = subst (λ (z : Profile × ℕ). AllByRecursion (IsEvent z.0 z.1) es) (λ i. (sym e i, sym h i))

-- at the start it is the guest's
pub profile_of_start_thread : (g : Guest) (budget : ℕ) (profile : Profile) (from n t : ℕ) → t < n
    → (get_or (start_threads g budget profile from n) t idle).profile ≡ profile
profile_of_start_thread g budget profile from zero t l = absurd (omega (arith, l))
profile_of_start_thread g budget profile from (suc n) zero l = refl
profile_of_start_thread g budget profile from (suc n) (suc t) l = profile_of_start_thread g budget profile (suc from) n t (omega (arith, l))
