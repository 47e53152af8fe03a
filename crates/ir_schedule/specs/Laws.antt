-- What holds of each run by a chooser.
use Rattle.std.specs.Prelude.{ℕ, ◌<◌, Bool, List}
use Rattle.std.specs.List.{AllByRecursion}
use Rattle.ir_thread.specs.State as thread
use Rattle.ir_runs.specs.Machine.{Machine}
use Rattle.ir_runs.specs.Run.{State, Step}
use Rattle.ir_runs.specs.Orders.{IsByOrder}
use Rattle.ir_schedule.specs.Schedules.{IsSchedule, chosen_threads}
use Rattle.ir_schedule.specs.declared.chooser.Chooser.{Chooser}

-- it is the run by the order of its steps' threads: a recording by that order has its steps, as far as the results of calls are the same
abbrev pub SchedulesAreOrders : Type 0
SchedulesAreOrders = (tries : Bool) (m : Machine thread.ThreadState) (n : ℕ) (s : State thread.ThreadState) (c : Chooser) (run : List Step)
    → IsSchedule tries m n s c run → IsByOrder m s n (chosen_threads run) run

-- each step is of one of the n threads
abbrev pub SchedulesAreOfThreads : Type 0
SchedulesAreOfThreads = (tries : Bool) (m : Machine thread.ThreadState) (n : ℕ) (s : State thread.ThreadState) (c : Chooser) (run : List Step)
    → IsSchedule tries m n s c run → AllByRecursion (λ t. t < n) (chosen_threads run)
