-- The exit statuses of the program.
use Rattle.std.specs.Prelude.{ℕ}
use Rattle.ir_files.specs.declared.exit_status.ExitStatus.{ExitStatus}
use Rattle.ir_files.specs.declared.exit_status.ExitStatus.TheVariants.{Done, Failed, BadArguments, Refused, NotFit, NotSo, GaveUp, Hangs}

-- the number of an exit status
abbrev pub status_number : ExitStatus → ℕ
status_number Done = 0
status_number Failed = 1
status_number BadArguments = 2
status_number Refused = 3
status_number NotFit = 4
status_number NotSo = 5
status_number GaveUp = 6
status_number Hangs = 7
