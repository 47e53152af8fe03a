-- Runs by a chooser are runs by an order.
use Rattle.std.proofs.Common.{◌<◌, ℕ, Bool, List, [], ◌∷◌, refl, sym, subst, inr, append-nil}
use Rattle.std.specs.List.{AllByRecursion}
use Rattle.ir_runs.specs.Machine.{Machine}
use Rattle.ir_runs.specs.Run.{State, Step, after}
use Rattle.ir_runs.specs.Orders.{InTurn}
use Rattle.ir_schedule.specs.Laws.{SchedulesAreOrders, SchedulesAreOfThreads}
use Rattle.ir_schedule.specs.Schedules.{ChoosesSteps, chosen_threads}
use Rattle.ir_schedule.specs.declared.chooser.Chooser.{Chooser}

led_run_is_in_turn : {T : Type 0} (tries : Bool) (m : Machine T) (n : ℕ) (s : State T) (c : Chooser) (run : List Step) (d : Chooser)
    → ChoosesSteps tries m n s c run d → InTurn m s (chosen_threads run) run
led_run_is_in_turn tries m n s c [] d h = refl
led_run_is_in_turn tries m n s c (e ∷ run) d h =
    inr (e.1, run, refl, h.1.1, h.1.2, led_run_is_in_turn tries m n (after m s e) h.0 run d h.2)

led_run_is_of_threads : {T : Type 0} (tries : Bool) (m : Machine T) (n : ℕ) (s : State T) (c : Chooser) (run : List Step) (d : Chooser)
    → ChoosesSteps tries m n s c run d → AllByRecursion (λ t. t < n) (chosen_threads run)
led_run_is_of_threads tries m n s c [] d h = tt
led_run_is_of_threads tries m n s c (e ∷ run) d h = (h.1.0, led_run_is_of_threads tries m n (after m s e) h.0 run d h.2)

pub schedules_are_orders : SchedulesAreOrders
schedules_are_orders tries m n s c run h = record {
  count = 0;
  turns = subst (λ order. InTurn m s order run) (sym (append-nil (chosen_threads run))) (led_run_is_in_turn tries m n s c run h.last h.leads);
  done = h.done;
}

pub schedules_of_threads : SchedulesAreOfThreads
schedules_of_threads tries m n s c run h = led_run_is_of_threads tries m n s c run h.last h.leads
