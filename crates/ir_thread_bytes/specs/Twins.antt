-- Threads whose bytes can be compared.
use Rattle.std.specs.Prelude.{◌≡◌, ◌↔◌, ℕ, ◌≤◌, List, length, false, MatchOption, ⊤}
use Rattle.ir_image.specs.Bounds.{IsWord}
use Rattle.ir_mach.specs.Core.{memory_size}
use Rattle.ir_mach.specs.Within.{IsCore}
use Rattle.ir_thread.specs.State.{end_code, ThreadState, most_output}
use Rattle.ir_thread.specs.Frames.{frame_of}
use Rattle.ir_likeness.specs.Seen.{Same, view}
use Rattle.ir_thread_bytes.specs.Basis.{Basis, IsBasis}
use Rattle.ir_thread_bytes.specs.Frozen.{page_changes, frozen, is_over}
use Rattle.ir_thread_bytes.specs.Thawed.{before_changes, thawed}

-- two moments of the thread of one number in one guest
pub record AreTwins (x y : ThreadState) : Type 0 where
  pub number : x.number ≡ y.number
  pub profile : x.profile ≡ y.profile
  pub form : x.form ≡ y.form
  pub objects : length x.held ≡ length y.held

-- what each thread keeps
pub record KeepsBounds (s : ThreadState) : Type 0 where
  pub core : IsCore s.core
  pub output : length s.output ≤ most_output
  pub code : MatchOption s.ended ⊤ (λ e. IsWord (end_code e))

-- two moments of a thread, beside marks of one length, have equal bytes exactly where they look the same
abbrev pub TellsApart : Type 0
TellsApart = (basis : Basis) → IsBasis basis → (x y : ThreadState) → AreTwins x y → KeepsBounds x → KeepsBounds y → (m n : List ℕ) → length m ≡ length n
    → (frozen basis x m ≡ frozen basis y n) ↔ Same basis.code (view x, m) (view y, n)

-- a thread that isn't over comes back from its bytes and its frame as it was
abbrev pub IsThawedAgain : Type 0
IsThawedAgain = (basis : Basis) → IsBasis basis → (s : ThreadState) → KeepsBounds s → (mark : List ℕ) → is_over s ≡ false
    → thawed basis.memory (frame_of s) (before_changes s (length mark)) (frozen basis s mark) ≡ s

-- a thread comes back from its frame and what is changed in its private memory, whether it is over or not
abbrev pub ChangesComeBack : Type 0
ChangesComeBack = (start : List ℕ) → length start ≡ memory_size → (s : ThreadState) → length s.core.memory ≡ memory_size
    → thawed start (frame_of s) 0 (page_changes 0 start s.core.memory) ≡ s
