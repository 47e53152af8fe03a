-- Texts, computed.
use Rattle.std.proofs.Common.{◌≡◌, zero, suc, [], ◌∷◌, refl, Some, None, replicate}
use Rattle.std.specs.Prelude.{codes}
use Rattle.std.specs.Fmt.{digits}
use Rattle.hex.specs.Hex.{encode_with}
use Rattle.ir_runs.specs.Machine.{EnteredAt, Answer, FailedTry}
use Rattle.ir_runs.specs.Machine as machine
use Rattle.ir_runs.specs.declared.access.Access.TheVariants.{Reading, Writing}
use Rattle.ir_runs.specs.declared.env_kind.EnvKind.TheVariants.{Clock}
use Rattle.ir_runs.specs.declared.thread_verdict.ThreadVerdict.TheVariants.{Same, Disagrees, Starves}
use Rattle.ir_coherence.specs.declared.cause.Cause.TheVariants.{Twice}
use Rattle.ir_fit.specs.declared.header_cause.HeaderCause.TheVariants as header
use Rattle.ir_fit.specs.declared.verdict.Verdict.TheVariants.{Header, Incoherent}
use Rattle.ir_text.specs.Texts.{positions_text, memory_text, memory_lines, output_text, output_lines, object_text, inside_for, log_text, event_lines, verdict_text, threads_text}

positions_text_example : positions_text (3 ∷ 15 ∷ []) ≡ codes "at 3 15"
unfolding digits
positions_text_example = refl

memory_text_one_line : memory_text 0x10000 (0x13 ∷ 5 ∷ 0x80 ∷ 4 ∷ []) ≡ codes "00010000: 13058004\n"
unfolding memory_lines digits encode_with
memory_text_one_line = refl

memory_text_two_lines : memory_text 0x100004 (replicate 17 1) ≡ codes "00100004: 01010101010101010101010101010101\n00100014: 01\n"
unfolding memory_lines digits encode_with
memory_text_two_lines = refl

output_text_one_byte : output_text (0x48 ∷ []) ≡ codes "out 1\n48\n"
unfolding output_lines digits encode_with
output_text_one_byte = refl

output_text_nothing : output_text [] ≡ codes "out 0\n"
unfolding output_lines digits encode_with
output_text_nothing = refl

-- thread 0 is inside for writing
abbrev object_with_writer : machine.Object
object_with_writer = record { version = 1; left = 0; inside = elim [ zero ↦ Some Writing | (suc t) ↦ None ]; words = elim [ zero ↦ 1 | (suc i) ↦ 0 ] }

object_writer_example : object_text 2 8 object_with_writer ≡ codes "version 1 left 0 readers - writer 0\nwords 00000001 00000000 00000000 00000000 00000000 00000000 00000000 00000000\n"
unfolding inside_for digits encode_with
object_writer_example = refl

-- threads 0, 1 and 2 are inside for reading
abbrev object_with_readers : machine.Object
object_with_readers = record { version = 7; left = 2; inside = λ t. Some Reading; words = λ i. 0xabcdef01 }

object_readers_example : object_text 3 8 object_with_readers ≡ codes "version 7 left 2 readers 0,1,2 writer -\nwords abcdef01 abcdef01 abcdef01 abcdef01 abcdef01 abcdef01 abcdef01 abcdef01\n"
unfolding inside_for digits encode_with
object_readers_example = refl

log_write_example : log_text (EnteredAt 0 Writing 1 0 ∷ []) 1 ≡ codes "log 1 of 1\n0 write 0 version 1 readers 0\n"
unfolding event_lines digits encode_with
log_write_example = refl

log_clock_example : log_text (EnteredAt 3 Reading 5 0 ∷ Answer Clock 4294967295 ∷ []) 9 ≡ codes "log 2 of 9\n0 read 3 version 5\n1 clock 4294967295\n"
unfolding event_lines digits encode_with
log_clock_example = refl

log_refused_try_example : log_text (FailedTry 2 ∷ []) 1 ≡ codes "log 1 of 1\n0 try 2\n"
unfolding event_lines digits encode_with
log_refused_try_example = refl

header_differs_example : verdict_text (Header header.Objects) ≡ codes "header differs 2\n"
unfolding digits
header_differs_example = refl

incoherent_example : verdict_text (Incoherent 0 0 Twice) ≡ codes "incoherent thread 0 event 0 cause 2\n"
unfolding digits
incoherent_example = refl

three_verdicts_example : threads_text 0 (Same ∷ Disagrees 0 5 ∷ Starves 1 ∷ []) ≡ codes
    "thread 0 same\nthread 1 disagrees event 0 step 5\nthread 2 starves event 1\n"
unfolding threads_text digits
three_verdicts_example = refl
