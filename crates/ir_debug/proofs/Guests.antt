-- Guests of one thread and of two, computed at positions and cuts of their runs.
use Rattle.std.proofs.Common.{◌≡◌, ℕ, List, [], ◌∷◌, refl, replicate, ◌++◌}
use Rattle.std.specs.Prelude.{codes}
use Rattle.std.specs.Fmt.{digits}
use Rattle.hex.specs.Hex.{encode_with}
use Rattle.ir_image.specs.declared.form.ImageForm.{ImageForm}
use Rattle.ir_image.specs.declared.form.ImageForm.TheVariants.{Small, Large}
use Rattle.ir_isa.specs.Decoded as decoded
use Rattle.ir_runs.specs.Machine.{upd}
use Rattle.ir_thread.specs.State.{after_reply}
use Rattle.ir_thread.specs.declared.end.End.TheVariants.{Exit}
use Rattle.ir_thread.specs.declared.profile.Profile.{Profile}
use Rattle.ir_thread.specs.declared.profile.Profile.TheVariants.{One, Two}
use Rattle.ir_runs.specs.Run.{Step, after}
use Rattle.ir_fit.specs.Fit.{FittedTrace}
use Rattle.ir_text.specs.Texts.{registers_text, inside_for, event_lines, memory_lines, output_lines, bytes_from}
use Rattle.ir_command.specs.declared.command.Show.TheVariants.{Registers, Memory, Output, Object, Log, Next}
use Rattle.ir_debug.specs.Machine.{Desk, desk_of, show_text}
use Rattle.ir_log.specs.declared.event.Event.TheVariants.{Write}
use Rattle.ir_cut.specs.Positions.{thread_at}

abbrev fitted_trace_of_code : ImageForm → Profile → List ℕ → ℕ → ℕ → FittedTrace
fitted_trace_of_code form profile code objects steps = record {
  guest = record { form = form; entries = 0x10000 ∷ []; code = code; bytes = []; words = replicate objects 0 };
  recorded =
      record { objects = objects; budget = 1000; profile = profile; threads = record { steps = steps; end = Exit 0; events = [] } ∷ [] };
}

abbrev steps_of_lone_thread : ℕ → List Step
steps_of_lone_thread n = replicate n (0, 0)

abbrev desk_of_lone_thread : FittedTrace → ℕ → Desk
desk_of_lone_thread f k = record (desk_of f) { at = k ∷ [] }

abbrev trace_with_output : FittedTrace
trace_with_output = fitted_trace_of_code Small One (0x04800513 ∷ 0x00200893 ∷ 0x73 ∷ 0x00a50533 ∷ 0x00100893 ∷ 0x73 ∷ []) 0 6

-- it enters object 0 for reading and leaves it, and then for writing
abbrev trace_with_read_and_write : FittedTrace
trace_with_read_and_write = fitted_trace_of_code Small One (0x513 ∷ 0x00700893 ∷ 0x73 ∷ 0x00900893 ∷ 0x73 ∷ 0x00800893 ∷ 0x73 ∷ 0x00900893 ∷ 0x73 ∷ 0x00100893 ∷ 0x73 ∷ []) 8 11

-- it ends while it is inside for writing
abbrev trace_ending_inside : FittedTrace
trace_ending_inside = fitted_trace_of_code Small One (0x513 ∷ 0x00800893 ∷ 0x73 ∷ 0x593 ∷ 0x00700613 ∷ 0x00b00893 ∷ 0x73 ∷ 0x00100073 ∷ []) 8 9

-- the same guest but that it writes the last of the words of an object of the large form
abbrev trace_with_large_object : FittedTrace
trace_with_large_object = fitted_trace_of_code Large One (0x513 ∷ 0x00800893 ∷ 0x73 ∷ 0x00f00593 ∷ 0x00700613 ∷ 0x00b00893 ∷ 0x73 ∷ 0x00100073 ∷ []) 16 9

lone_thread_example : (show_text (steps_of_lone_thread 6) (desk_of_lone_thread trace_with_output 3) (Registers 0)
    ≡ codes "pc 0001000c\nzero=00000000 ra=00000000 sp=00110000 gp=00000000\ntp=00000000 t0=00000000 t1=00000000 t2=00000000\ns0=00000000 s1=00000000 a0=00000048 a1=00000000\na2=00000000 a3=00000000 a4=00000000 a5=00000000\na6=00000000 a7=00000002 s2=00000000 s3=00000000\ns4=00000000 s5=00000000 s6=00000000 s7=00000000\ns8=00000000 s9=00000000 s10=00000000 s11=00000000\nt3=00000000 t4=00000000 t5=00000000 t6=00000000\n")
    × (show_text (steps_of_lone_thread 6) (desk_of_lone_thread trace_with_output 3) (Output 0) ≡ codes "out 1\n48\n")
    × (show_text (steps_of_lone_thread 6) (desk_of_lone_thread trace_with_output 3) (Memory 0 0x10000 4) ≡ codes "00010000: 13058004\n")
    × (show_text (steps_of_lone_thread 11) (desk_of_lone_thread trace_with_read_and_write 7) (Object 0)
    ≡ codes "version 0 left 1 readers - writer 0\nwords 00000000 00000000 00000000 00000000 00000000 00000000 00000000 00000000\n")
    × (show_text (steps_of_lone_thread 11) (desk_of_lone_thread trace_with_read_and_write 3) (Object 0)
    ≡ codes "version 0 left 0 readers 0 writer -\nwords 00000000 00000000 00000000 00000000 00000000 00000000 00000000 00000000\n")
    × (show_text (steps_of_lone_thread 11) (desk_of_lone_thread trace_with_read_and_write 7) (Log 0) ≡ codes "log 2 of 2\n0 read 0 version 0\n1 write 0 version 0 readers 1\n")
    × (show_text (steps_of_lone_thread 9) (desk_of_lone_thread trace_ending_inside 8) (Next 0) ≡ codes "next give back 0\n")
    × (show_text (steps_of_lone_thread 9) (desk_of_lone_thread trace_ending_inside 9) (Object 0)
    ≡ codes "version 1 left 0 readers - writer -\nwords 00000007 00000000 00000000 00000000 00000000 00000000 00000000 00000000\n")
    × (show_text (steps_of_lone_thread 9) (desk_of_lone_thread trace_with_large_object 9) (Object 0)
    ≡ codes "version 1 left 0 readers - writer -\nwords 00000000 00000000 00000000 00000000 00000000 00000000 00000000 00000000 00000000 00000000 00000000 00000000 00000000 00000000 00000000 00000007\n")
unfolding show_text upd after_reply after inside_for event_lines memory_lines output_lines bytes_from digits encode_with registers_text
    decoded.instruction_of
lone_thread_example = (refl, refl, refl, refl, refl, refl, refl, refl, refl)

-- it tries to enter object 0 for writing, and ends with the answer
abbrev code_with_try : List ℕ
code_with_try = 0x513 ∷ 0x00d00893 ∷ 0x73 ∷ 0x00100893 ∷ 0x73 ∷ []

abbrev trace_with_refused_try : FittedTrace
trace_with_refused_try = fitted_trace_of_code Small Two code_with_try 8 5

refused_try_example : (show_text (steps_of_lone_thread 5) (desk_of_lone_thread trace_with_refused_try 2) (Next 0) ≡ codes "next 00010008 ecall\n")
    × (show_text (steps_of_lone_thread 5) (desk_of_lone_thread trace_with_refused_try 5) (Log 0) ≡ codes "log 1 of 1\n0 try 0\n")
    × (show_text (steps_of_lone_thread 5) (desk_of_lone_thread trace_with_refused_try 3) (Object 0)
    ≡ codes "version 0 left 0 readers - writer -\nwords 00000000 00000000 00000000 00000000 00000000 00000000 00000000 00000000\n")
unfolding show_text upd after_reply after inside_for event_lines memory_lines output_lines bytes_from digits encode_with registers_text
    decoded.instruction_of
refused_try_example = (refl, refl, refl)

-- the same where the try gets in, which is logged as an entry; the thread releases the object after its end
abbrev trace_with_admitted_try : FittedTrace
trace_with_admitted_try = fitted_trace_of_code Small Two code_with_try 8 6

abbrev run_with_admitted_try : List Step
run_with_admitted_try = (0, 0) ∷ (0, 0) ∷ (0, 1) ∷ (0, 0) ∷ (0, 0) ∷ (0, 0) ∷ []

admitted_try_example : (show_text run_with_admitted_try (desk_of_lone_thread trace_with_admitted_try 6) (Log 0) ≡ codes "log 1 of 1\n0 write 0 version 0 readers 0\n")
    × (show_text run_with_admitted_try (desk_of_lone_thread trace_with_admitted_try 3) (Object 0)
    ≡ codes "version 0 left 0 readers - writer 0\nwords 00000000 00000000 00000000 00000000 00000000 00000000 00000000 00000000\n")
    × (show_text run_with_admitted_try (desk_of_lone_thread trace_with_admitted_try 5) (Next 0) ≡ codes "next give back 0\n")
unfolding show_text upd after_reply after inside_for event_lines memory_lines output_lines bytes_from digits encode_with registers_text
    decoded.instruction_of
admitted_try_example = (refl, refl, refl)

abbrev code_of_two_threads : List ℕ
code_of_two_threads =
    0x00000513 ∷ 0x00800893 ∷ 0x73 ∷ 0x00000513 ∷ 0x00000593 ∷ 0x00a00893 ∷ 0x73 ∷ 0x00150613 ∷ 0x00000513 ∷ 0x00000593 ∷ 0x00b00893 ∷ 0x73
    ∷ 0x00000513 ∷ 0x00900893 ∷ 0x73 ∷ 0x00000513 ∷ 0x00100893 ∷ 0x73 ∷ []

abbrev trace_of_two_threads : FittedTrace
trace_of_two_threads = record {
  guest = record { form = Small; entries = 0x10000 ∷ 0x10000 ∷ []; code = code_of_two_threads; bytes = []; words = replicate 8 0 };
  recorded = record {
    objects = 1;
    budget = 1000;
    profile = One;
    threads = record { steps = 18; end = Exit 0; events = Write 0 1 0 ∷ [] }
        ∷ record { steps = 18; end = Exit 0; events = Write 0 0 0 ∷ [] } ∷ [];
  };
}

abbrev run_of_two_threads : List Step
run_of_two_threads = replicate 18 (1, 0) ++ replicate 18 (0, 0)

abbrev desk_of_two_threads_at : List ℕ → Desk
desk_of_two_threads_at at = record (desk_of trace_of_two_threads) { at = at }

two_threads_example : (show_text run_of_two_threads (desk_of_two_threads_at (3 ∷ 15 ∷ [])) (Next 0) ≡ codes "next 0001000c addi a0, zero, 0\n")
    × (show_text run_of_two_threads (desk_of_two_threads_at (3 ∷ 15 ∷ [])) (Log 0) ≡ codes "log 1 of 1\n0 write 0 version 1 readers 0\n")
    × (show_text run_of_two_threads (desk_of_two_threads_at (3 ∷ 15 ∷ [])) (Object 0)
    ≡ codes "version 1 left 0 readers - writer 0\nwords 00000001 00000000 00000000 00000000 00000000 00000000 00000000 00000000\n")
    × (show_text run_of_two_threads (desk_of_two_threads_at (18 ∷ 18 ∷ [])) (Object 0)
    ≡ codes "version 2 left 0 readers - writer -\nwords 00000002 00000000 00000000 00000000 00000000 00000000 00000000 00000000\n")
    × (show_text run_of_two_threads (desk_of_two_threads_at (18 ∷ 18 ∷ [])) (Next 0) ≡ codes "next done\n")
unfolding show_text upd after_reply after inside_for event_lines digits encode_with decoded.instruction_of
two_threads_example = (refl, refl, refl, refl, refl)

pc_after_seven_steps : (thread_at trace_of_two_threads run_of_two_threads 0 7).core.pc ≡ 0x1001c
unfolding upd after_reply after decoded.instruction_of
pc_after_seven_steps = refl
