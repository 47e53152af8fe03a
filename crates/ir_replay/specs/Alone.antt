-- Where a thread rests that advances by itself at no marked word.
use Rattle.std.specs.Prelude.{ℕ, ◌≤◌, ◌⊎◌, List}
use Rattle.ir_mach.specs.Marks.{Marked}
use Rattle.ir_thread.specs.Private.{StopsUnmarked}
use Rattle.ir_flat.specs.Flat.{Flat, thread_of}
use Rattle.ir_cut.specs.Positions.{cut_of}
use Rattle.ir_weave.specs.Standing.{positions}

-- thread t is at its target, or its next step is marked or no instruction
abbrev pub RestsUnmarked : List ℕ → Marked → Flat → ℕ → Type 0
RestsUnmarked target code s t = (cut_of target t ≤ positions s t) ⊎ StopsUnmarked code (thread_of s t)
