-- What a request with names leaves where less is said of what it leaves.
use Rattle.std.proofs.Common.{◌≡◌, ◌⊎◌, ◌++◌, ℕ, Bool, true, false, List, [], Option, Some, None, inl, inr, refl, sym, ap, ◌∙◌, take, length, ◌-◌, cond}
use Rattle.std.specs.Prelude.{IfSome}
use Rattle.ir_arguments.specs.declared.asked.Asked.{Asked}
use Rattle.ir_arguments.specs.declared.asked.Asked.TheVariants as asked
use Rattle.ir_arguments.specs.declared.asked.Explored.{Explored}
use Rattle.ir_arguments.specs.declared.asked.Explored.TheVariants as explored
use Rattle.ir_arguments.specs.declared.asked.Print.{Print}
use Rattle.ir_arguments.specs.declared.asked.Print.TheVariants as printed
use Rattle.ir_arguments.specs.declared.record.RecordArguments.{RecordArguments}
use Rattle.ir_commands.specs.Printing.{LeavesUnread, Paths}
use Rattle.ir_commands.specs.Writing.{RecordsFile, StopsRecords, Storing}
use Rattle.ir_files.specs.Writers.{Writer}
use Rattle.ir_files.specs.declared.exit_status.ExitStatus.{ExitStatus}
use Rattle.ir_program.specs.Doing.{Does, Prints, PrintsOutcomes}
use Rattle.ir_program.specs.Named.{PutsNames, TookNamed, use_of, use_of_print}
use Rattle.ir_program.specs.declared.names_use.NamesUse.TheVariants.{Named}

-- ---- less is said

unread_weaker : {S A B : Type 0} {faults : Writer} → (A → B) → LeavesUnread S A faults → LeavesUnread S B faults
unread_weaker to u = record { status = u.status; kept = to u.kept; told = u.told }

printed_weaker : {X S A B : Type 0} {faults : Writer} → (A → B) → X ⊎ LeavesUnread S A faults → X ⊎ LeavesUnread S B faults
printed_weaker to (inl x) = inl x
printed_weaker to (inr u) = inr (unread_weaker to u)

record_because : {P Q A B : Type 0} → (A → B) → (P × A) ⊎ Q → (P × B) ⊎ Q
record_because to (inl p) = inl (p.0, to p.1)
record_because to (inr q) = inr q

record_stop_weaker : {at : Paths} {a : RecordArguments} {answered : ExitStatus} {out faults : Writer} {A B : Type 0} → (A → B)
    → StopsRecords at a answered out faults A → StopsRecords at a answered out faults B
record_stop_weaker to s = record {
  image = s.image;
  plan = s.plan;
  fault = s.fault;
  asked = s.asked;
  status = s.status;
  because = record_because to s.because;
  told = s.told;
}

records_weaker : (at : Paths) (stored : Storing) (a : RecordArguments) (answered : ExitStatus) (out faults : Writer) {A B : Type 0} → (A → B)
    → RecordsFile at stored a answered out faults A → RecordsFile at stored a answered out faults B
records_weaker at stored a answered out faults to (inl r) = inl r
records_weaker at stored a answered out faults to (inr (inl s)) = inr (inl (record_stop_weaker to s))
records_weaker at stored a answered out faults to (inr (inr u)) = inr (inr (unread_weaker to u))

prints_weaker : (at : Paths) (what : Print) (answered : ExitStatus) (out faults : Writer) {A B : Type 0} → (A → B) → Prints at what answered out faults A
    → Prints at what answered out faults B
prints_weaker at (printed.Code a) answered out faults to p = printed_weaker to p
prints_weaker at (printed.Trace a) answered out faults to p = printed_weaker to p
prints_weaker at (printed.Events a) answered out faults to p = printed_weaker to p
prints_weaker at (printed.Stale a) answered out faults to p = printed_weaker to p
prints_weaker at (printed.Who a) answered out faults to p = printed_weaker to p
prints_weaker at (printed.Why a) answered out faults to p = printed_weaker to p
prints_weaker at (printed.Diff a) answered out faults to p = printed_weaker to p
prints_weaker at (printed.View a) answered out faults to p = printed_weaker to p

outcomes_weaker : (at : Paths) (what : Explored) (answered : ExitStatus) (out faults : Writer) {A B : Type 0} → (A → B)
    → PrintsOutcomes at what answered out faults A → PrintsOutcomes at what answered out faults B
outcomes_weaker at (explored.Outcomes a) answered out faults to p = printed_weaker to p
outcomes_weaker at (explored.Classes a) answered out faults to p = printed_weaker to p
outcomes_weaker at (explored.Within a) answered out faults to p = printed_weaker to p

-- a request that takes names was done, and leaves less
pub named_request_weaker : (at : Paths) (stored : Storing) (lists : Bool) (what : Asked) (answered : ExitStatus) (input : Option (List ℕ))
    (out faults : Writer) {A B : Type 0} → use_of what ≡ Named lists → (A → B) → Does at stored what answered input out faults A
    → Does at stored what answered input out faults B
named_request_weaker at stored lists asked.Session answered input out faults e to d = absurd (cc e)
named_request_weaker at stored lists (asked.Make a) answered input out faults e to d = absurd (cc e)
named_request_weaker at stored lists (asked.Record a) answered input out faults e to d = records_weaker at stored a answered out faults to d
named_request_weaker at stored lists (asked.Debug a) answered input out faults e to d = absurd (cc e)
named_request_weaker at stored lists (asked.Gdb a) answered input out faults e to d = absurd (cc e)
named_request_weaker at stored lists (asked.Print what) answered input out faults e to d = prints_weaker at what answered out faults to d
named_request_weaker at stored lists (asked.Explore what) answered input out faults e to d = outcomes_weaker at what answered out faults to d
named_request_weaker at stored lists (asked.Help text) answered input out faults e to d = absurd (cc e)
named_request_weaker at stored lists (asked.Nothing why) answered input out faults e to d = absurd (cc e)
named_request_weaker at stored lists asked.NoMem answered input out faults e to d = absurd (cc e)
named_request_weaker at stored lists (asked.Hunt a) answered input out faults e to d = d
named_request_weaker at stored lists (asked.Shrink a) answered input out faults e to d = d
named_request_weaker at stored lists (asked.Until a) answered input out faults e to d = d
named_request_weaker at stored lists (asked.Outside a) answered input out faults e to d = d
