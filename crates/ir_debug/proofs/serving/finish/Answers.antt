use Rattle.std.proofs.Common.{◌≡◌, ℕ, Bool, true, false, eqb, length, List, [], refl, sym, ap, ◌∙◌}
use Rattle.std.proofs.lemmas.Bool.{eqb-true, eqb-false}
use Rattle.std.proofs.lemmas.List.{nil_from_length}
use Rattle.ir_stream.specs.declared.serving.Flow.{Flow}
use Rattle.ir_stream.specs.declared.serving.Flow.TheVariants.{Goes, Quits}
use Rattle.ir_stream.specs.declared.serving.Served.TheVariants.{Quit, InputEnd}
use Rattle.ir_stream.specs.Endings.{flow_after, served_after}
use Rattle.ir_stream.proofs.CallerLemmas.{writes_or_fails_whole, writes_or_fails_part, wrote_empty_end, wrote_last_line, quits_of_empty_end, quits_of_end}
use Rattle.ir_debug.specs.Machine.{Replies, quits}
use Rattle.ir_debug.proofs.serving.finish.Goals as goal

some : (line : List ℕ) (b : Bool) → b ≡ eqb (length line) 0 → b ≡ false → line ≡ [] → ⊥
some line b test h e = eqb-false (length line) 0 (sym test ∙ h) (ap (λ (l : List ℕ). length l) e)

none : (line : List ℕ) (b : Bool) → b ≡ eqb (length line) 0 → b ≡ true → line ≡ []
none line b test h = nil_from_length line (eqb-true (length line) 0 (sym test ∙ h))

goes : (f : Flow) (b : Bool) → f ≡ flow_after b → f ≡ Goes → InputEnd ≡ served_after b
goes f true e is = absurd cc
goes f false e is = refl

quit : (f : Flow) (b : Bool) → f ≡ flow_after b → f ≡ Quits → Quit ≡ served_after b
quit f true e is = refl
quit f false e is = absurd cc

pub returns-then-is_empty-clause-writes : goal.returns-then-is_empty-clause-writes
returns-then-is_empty-clause-writes g c = writes_or_fails_whole (wrote_empty_end Replies _ _ _ (none _ _ c.is_empty.ensures c.if-is_empty.true)) refl

pub returns-then-is_empty-clause-served : goal.returns-then-is_empty-clause-served
returns-then-is_empty-clause-served g c =
    ap served_after (sym (quits_of_empty_end quits c.args.line.now (none _ _ c.is_empty.ensures c.if-is_empty.true)))

pub returns-in-Ok-Goes-clause-writes : goal.returns-in-Ok-Goes-clause-writes
returns-in-Ok-Goes-clause-writes g c =
    writes_or_fails_whole
    (wrote_last_line Replies _ _ _ _ _ (some _ _ c.is_empty.ensures c.if-is_empty.false) c.in-Ok-Goes.ensures.writes.ok)
    c.in-Ok-Goes.ensures.writes.stays

pub returns-in-Ok-Goes-clause-served : goal.returns-in-Ok-Goes-clause-served
returns-in-Ok-Goes-clause-served g c = goes _ _ c.in-Ok-Goes.ensures.flow c.in-Ok-Goes.field-0-is
    ∙ ap served_after (sym (quits_of_end quits c.args.line.now (some _ _ c.is_empty.ensures c.if-is_empty.false)))

pub returns-in-Ok-Quits-clause-writes : goal.returns-in-Ok-Quits-clause-writes
returns-in-Ok-Quits-clause-writes g c =
    writes_or_fails_whole
    (wrote_last_line Replies _ _ _ _ _ (some _ _ c.is_empty.ensures c.if-is_empty.false) c.in-Ok-Quits.ensures.writes.ok)
    c.in-Ok-Quits.ensures.writes.stays

pub returns-in-Ok-Quits-clause-served : goal.returns-in-Ok-Quits-clause-served
returns-in-Ok-Quits-clause-served g c = quit _ _ c.in-Ok-Quits.ensures.flow c.in-Ok-Quits.field-0-is
    ∙ ap served_after (sym (quits_of_end quits c.args.line.now (some _ _ c.is_empty.ensures c.if-is_empty.false)))

pub returns-in-Err-clause-some : goal.returns-in-Err-clause-some
returns-in-Err-clause-some g c = some _ _ c.is_empty.ensures c.if-is_empty.false

pub returns-in-Err-clause-writes : goal.returns-in-Err-clause-writes
returns-in-Err-clause-writes g c = writes_or_fails_part c.in-Err.ensures.writes.prefix c.in-Err.ensures.writes.err
