-- Parts of the texts of verdicts.
use Rattle.std.specs.Prelude.{ℕ, List, ◌++◌, codes, decimal, ◌==◌, if◌then◌else◌, ◌%◌, zero, suc, ◌+◌, ◌/◌}
use Rattle.ir_coherence.specs.Breaking.{cause_number}
use Rattle.ir_coherence.specs.declared.cause.Cause.{Cause}
use Rattle.ir_fit.specs.Fit.{header_cause_number}
use Rattle.ir_fit.specs.declared.header_cause.HeaderCause.{HeaderCause}
use Rattle.ir_runs.specs.declared.thread_verdict.ThreadVerdict.{ThreadVerdict}
use Rattle.ir_text.specs.Texts.{thread_verdict_text, hex_word}
use Rattle.ir_isa.specs.Fields.{register_name}
use Rattle.ir_mach.specs.Core.{Core, register}

abbrev pub thread_line : ℕ → ThreadVerdict → List ℕ
thread_line t v = codes "thread " ++ decimal t ++ thread_verdict_text v ++ codes "\n"

abbrev pub header_text : HeaderCause → List ℕ
header_text cause = codes "header differs " ++ decimal (header_cause_number cause)

abbrev pub incoherent_text : ℕ → ℕ → Cause → List ℕ
incoherent_text thread event cause = codes "incoherent thread " ++ decimal thread ++ codes " event " ++ decimal event ++ codes " cause " ++
    decimal (cause_number cause)

-- a line has four registers
abbrev pub register_text : Core → ℕ → List ℕ
register_text m n = register_name n ++ codes "=" ++ hex_word (register m n) ++ (if n % 4 == 3 then codes "\n" else codes " ")

-- how many lines of width bytes hold count bytes
abbrev pub lines_for : ℕ → ℕ → ℕ
lines_for zero count = 0
lines_for (suc width) count = (count + width) / suc width
