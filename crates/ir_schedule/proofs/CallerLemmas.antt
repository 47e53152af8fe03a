-- What callers may cite of runs by a chooser.
-- such a run is the run by the order of its steps' threads, each of which is one of the guest's
pub use Rattle.ir_schedule.proofs.Orders.{schedules_are_orders, schedules_of_threads}
