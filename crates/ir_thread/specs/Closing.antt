-- What a thread of a guest's keeps to, whatever the code.
use Rattle.std.specs.Prelude.{ℕ, List}
use Rattle.ir_runs.specs.Lawful.{IsLawful, IsClosing}
use Rattle.ir_thread.specs.State.{thread_machine}

-- whatever the code, a thread enters in order, uses what it holds, and releases it after its end
abbrev pub ThreadsClose : Type 0
ThreadsClose = (code : List ℕ) → IsLawful (thread_machine code) × IsClosing (thread_machine code)
