use Rattle.std.proofs.Common.{◌≡◌, ◌+◌, length, drop}
use denote.Shadow.{shadow}
use denote.Text.{Utf8}
use Rattle.ir_schedule.specs.Spelling.{marks}
use Rattle.ir_arguments.proofs.conditions.past_marks.Given as goal

-- the rest comes after as many marks as were counted
abbrev pub invariant-marks : goal.invariant-marks
invariant-marks l = shadow (Utf8 l.rest) × (record {
  rest : l.rest ≡ drop l.count l.fn.text;
  all : marks l.fn.text ≡ l.count + marks l.rest;
  within : l.count + length l.rest ≡ length l.fn.text;
})

abbrev pub decreases-marks : goal.decreases-marks
decreases-marks l = length l.rest
