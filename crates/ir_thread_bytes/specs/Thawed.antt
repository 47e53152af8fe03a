-- Private memory from what is changed in it.
use Rattle.std.specs.Prelude.{ℕ, ◌+◌, List, [], ◌∷◌, length, slice_set, drop}
use Rattle.std.specs.Int.{w16, from_le_bytes}
use Rattle.ir_mach.specs.Pages.{pages_of}
use Rattle.ir_thread.specs.Frames.{ThreadFrame, framed_thread}
use Rattle.ir_thread.specs.State.{ThreadState}

-- the memory with each of these changes; fewer than three bytes at the end are none
abbrev pub changed_pages : List ℕ → List ℕ → List ℕ
changed_pages memory [] = memory
changed_pages memory (low ∷ []) = memory
changed_pages memory (low ∷ high ∷ []) = memory
changed_pages memory (low ∷ high ∷ new ∷ rest) = changed_pages (slice_set memory (from_le_bytes w16 (low ∷ high ∷ [])) new) rest

-- How many bytes of a frozen thread that isn't over come before the changes: of its end 5, one more, of pc and registers 132, of each object
-- held 1, of the mark, of the output's length 4, and of the output.
abbrev pub before_changes : ThreadState → ℕ → ℕ
before_changes s mark = 142 + length s.held + mark + length s.output

-- the thread of this frame, with the changes from byte `at` on in its private memory
abbrev pub thawed : List ℕ → ThreadFrame → ℕ → List ℕ → ThreadState
thawed start frame at bytes = framed_thread frame (pages_of (changed_pages start (drop at bytes)))
