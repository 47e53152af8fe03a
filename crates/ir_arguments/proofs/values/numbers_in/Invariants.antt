use Rattle.std.proofs.Common.{◌≡◌}
use Rattle.ir_arguments.specs.Reading.{each_read, large_number, large_numbers}
use Rattle.ir_arguments.proofs.Numbers.{joined_read, left_parts, bytes_left}
use Rattle.ir_arguments.proofs.values.numbers_in.Given as goal

-- the numbers so far and those of what is left are those of the text
abbrev pub invariant-parts : goal.invariant-parts
invariant-parts l = large_numbers l.fn.text ≡ joined_read l.numbers.items (each_read large_number (left_parts l.rest))

abbrev pub decreases-parts : goal.decreases-parts
decreases-parts l = bytes_left l.rest
