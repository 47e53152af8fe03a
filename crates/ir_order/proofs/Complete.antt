-- A complete run has a step.
use Rattle.std.proofs.Common.{◌≡◌, ◌≤◌, ℕ, zero, suc, List, [], ◌∷◌, length, get_or, None, refl, subst, arith}
use Rattle.std.specs.Prelude.{◌≢◌}
use Rattle.ir_image.specs.Guest.{Guest}
use Rattle.ir_thread.specs.Permitted.{Permits}
use Rattle.ir_thread.specs.State.{ThreadState, ask_of}
use Rattle.ir_thread.specs.declared.ask.Ask.TheVariants.{Done}
use Rattle.ir_thread.specs.declared.profile.Profile.{Profile}
use Rattle.ir_thread.proofs.CallerLemmas.{ask_of_permitted}
use Rattle.ir_flat.specs.Flat.{thread_of, start_threads, start_flat, idle}
use Rattle.ir_flat.proofs.CallerLemmas.{shared_done_is_done}
use Rattle.ir_order.specs.Complete.{CompleteRunsHaveSteps}

first_starts_not_ended : (guest : Guest) (budget : ℕ) (profile : Profile) (n : ℕ) → 1 ≤ n
    → (get_or (start_threads guest budget profile 0 n) 0 idle).ended ≡ None
first_starts_not_ended guest budget profile zero some = absurd (omega (arith, some))
first_starts_not_ended guest budget profile (suc n) some = refl

-- a thread that hasn't ended asks for something
running_is_not_done : (code : List ℕ) (x : ThreadState) → x.ended ≡ None → ask_of code x ≢ Done
running_is_not_done code x live done = let permits : Permits x Done = subst (Permits x) done (ask_of_permitted code x) in permits.0 live

pub complete_have_steps : CompleteRunsHaveSteps
complete_have_steps guest budget profile [] some done h =
    running_is_not_done guest.code (thread_of (start_flat guest budget profile) 0) (first_starts_not_ended guest budget profile (length guest.entries) some)
    (shared_done_is_done (ask_of guest.code (thread_of (start_flat guest budget profile) 0)) (done 0))
complete_have_steps guest budget profile (e ∷ run) some done h = absurd (cc h)
