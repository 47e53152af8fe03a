-- Bytes of threads with the changes of private memory.
use Rattle.std.proofs.Common.{◌≡◌, ◌++◌, Bool, true, false, ℕ, List, [], length, take, refl, ap, ◌∙◌, cond}
use Rattle.std.proofs.lemmas.List.{drop_at, take_at}
use Rattle.ir_thread_bytes.specs.Basis.{Basis, IsBasis}
use Rattle.ir_thread_bytes.specs.Frozen.{page_changes, frozen, is_over}
use Rattle.ir_thread_bytes.specs.Thawed.{before_changes, changed_pages, thawed}
use Rattle.ir_thread_bytes.specs.Twins.{IsThawedAgain, KeepsBounds}
use Rattle.ir_thread_bytes.proofs.CallerLemmas.{thawed-changes}
use Rattle.ir_mach.specs.Pages.{pages_of}
use Rattle.ir_thread.specs.Frames.{frame_of, framed_thread}
use Rattle.ir_thread.specs.State.{ThreadState}
use Rattle.ir_state_store.specs.Rows.{packed_of, seen_in, StoreRow, thread_in, HasOwnBytes}

seen_is_first : (over : Bool) (first rest : List ℕ) (n : ℕ)
    → cond over (take (cond over (length first) n) (cond over (first ++ rest) first)) (cond over (first ++ rest) first) ≡ first
seen_is_first true first rest n = take_at first rest (length first) refl
seen_is_first false first rest n = refl

pub seen_in_own_bytes : (basis : Basis) (s : ThreadState) → seen_in (packed_of basis s) ≡ frozen basis s []
seen_in_own_bytes basis s =
    seen_is_first (is_over s) (frozen basis s []) (page_changes 0 basis.memory s.core.memory) (before_changes s 0)

-- a thread comes back from its frame and its bytes, with the changes behind them where it is over
comes_back_by_over : IsThawedAgain → (basis : Basis) → IsBasis basis → (s : ThreadState) → KeepsBounds s → (over : Bool) → is_over s ≡ over
    → thawed basis.memory (frame_of s) (cond over (length (frozen basis s [])) (before_changes s 0))
    (cond over (frozen basis s [] ++ page_changes 0 basis.memory s.core.memory) (frozen basis s [])) ≡ s
comes_back_by_over back basis whole s bounded true is =
    ap (λ l. framed_thread (frame_of s) (pages_of (changed_pages basis.memory l)))
    (drop_at (frozen basis s []) (page_changes 0 basis.memory s.core.memory) (length (frozen basis s [])) refl)
    ∙ thawed-changes basis.memory whole.size s bounded.core.memory_length
comes_back_by_over back basis whole s bounded false is = back basis whole s bounded [] is

-- so the thread of a row with its frame and its bytes is that thread
pub thread_in_own_row : IsThawedAgain → (basis : Basis) → IsBasis basis → (s : ThreadState) → KeepsBounds s → (row : StoreRow) → row.frame ≡ frame_of s
    → row.packed ≡ packed_of basis s → thread_in basis.memory row ≡ s
thread_in_own_row back basis whole s bounded row frame packed =
    (λ i. thawed basis.memory (frame i) (packed i).at (packed i).bytes) ∙ comes_back_by_over back basis whole s bounded (is_over s) refl

-- the bytes of a row are those of its thread
pub seen_in_row_is_frozen : (basis : Basis) (row : StoreRow) → HasOwnBytes basis row → seen_in row.packed ≡ frozen basis (thread_in basis.memory row) []
seen_in_row_is_frozen basis row own = ap seen_in own ∙ seen_in_own_bytes basis (thread_in basis.memory row)
