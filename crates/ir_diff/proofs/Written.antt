-- What is said of an error, and why bytes were refused.
use Rattle.std.proofs.Common.{◌≡◌, Result, Ok, Err, IfErr, subst}
use Rattle.ir_trace.specs.Recorded.{Recorded}
use Rattle.ir_trace.specs.declared.trace_err.TraceErr.{TraceErr}
use Rattle.ir_past.specs.Answers.{IsOpened, IsRefusedFor}
use Rattle.ir_past.specs.declared.opened.Opened.{Opened}
use Rattle.ir_past.specs.declared.opened.Opened.TheVariants as variant
use Rattle.ir_past.specs.declared.opened.Refusal.{Refusal}

-- what holds of an error holds of it in other words
pub if_err_weaker : {A E : Type 0} (r : Result A E) (P Q : E → Type 0) → ((e : E) → P e → Q e) → IfErr r P → IfErr r Q
if_err_weaker (Ok x) P Q more p = tt
if_err_weaker (Err e) P Q more p = more e p

-- why bytes were refused that were opened
pub opened_refusal_is_for : (read : Result Recorded TraceErr) (opened : Opened) (why : Refusal) → opened ≡ variant.Refused why → IsOpened read opened
    → IsRefusedFor read why
opened_refusal_is_for read opened why is h = subst (IsOpened read) is h
