-- What callers may cite of logs.
-- what an event is that suits what is asked
pub use Rattle.ir_log.proofs.Suiting.{ask_of_call_event, ask_of_entry_event, event_suiting_try_cases, ask_of_event_unless_try, entry_event_asks_cases}
