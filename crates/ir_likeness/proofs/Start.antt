-- A guest's start, seen without a budget.
use Rattle.std.proofs.Common.{◌≡◌, ℕ, suc, zero, refl}
use Rattle.std.specs.Prelude.{length}
use Rattle.std.specs.List.{slice_index_or}
use Rattle.ir_image.specs.Guest.{Guest}
use Rattle.ir_thread.specs.State.{held_at}
use Rattle.ir_thread.specs.declared.profile.Profile.{Profile}
use Rattle.ir_flat.specs.Flat.{start_flat, start_threads, tables, thread_of, idle, cell_of}
use Rattle.ir_flat.specs.Room.{object_with}
use Rattle.ir_search_laws.specs.Views.{viewed}
use Rattle.ir_likeness.specs.Seen.{view}

thread_view_any_budget : (guest : Guest) (b c : ℕ) (profile : Profile) (from n t : ℕ)
    → view (slice_index_or (start_threads guest b profile from n) t idle) ≡ view (slice_index_or (start_threads guest c profile from n) t idle)
thread_view_any_budget guest b c profile from zero t = refl
thread_view_any_budget guest b c profile from (suc n) zero = refl
thread_view_any_budget guest b c profile from (suc n) (suc t) = thread_view_any_budget guest b c profile (suc from) n t

-- a guest starts as one state, seen so, whatever its budget
pub start_view_any_budget : (guest : Guest) (b c : ℕ) (profile : Profile)
    → viewed view (tables (start_flat guest b profile)) ≡ viewed view (tables (start_flat guest c profile))
start_view_any_budget guest b c profile =
    let same : (t : ℕ) → view (thread_of (start_flat guest b profile) t) ≡ view (thread_of (start_flat guest c profile) t) =
    λ t. thread_view_any_budget guest b c profile 0 (length guest.entries) t in
    λ i. record {
      now = λ t. same t i;
      objects = λ o. object_with (cell_of (start_flat guest b profile) o) (λ t. held_at (same t i).held o);
    }
