-- Lines, refusals and texts of the small machine, computed.
use Rattle.std.proofs.Common.{◌≡◌, ℕ, [], ◌∷◌, refl, Option, Some, None, Ok, Err, true, false, replicate}
use Rattle.std.specs.Prelude.{codes, Result}
use Rattle.std.specs.Fmt.{digits}
use Rattle.ir_image.specs.Guest.{Guest}
use Rattle.ir_image.specs.declared.form.ImageForm.TheVariants.{Small}
use Rattle.ir_thread.specs.declared.end.End.TheVariants.{Breakpoint}
use Rattle.ir_thread.specs.declared.profile.Profile.TheVariants.{One}
use Rattle.ir_command.specs.Commands.{words_of, command_of, command_named, number_of}
use Rattle.ir_command.specs.declared.command.Command.{Command}
use Rattle.ir_command.specs.declared.command.Command.TheVariants.{Move, Position, Show, Set, Quit}
use Rattle.ir_command.specs.declared.command.Point.TheVariants.{Break}
use Rattle.ir_command.specs.declared.command.Move.TheVariants.{Step, Goto, Start, End}
use Rattle.ir_command.specs.declared.command.Show.TheVariants.{Registers, Memory, Object, Next}
use Rattle.ir_command.specs.declared.refusal.Refusal.{Refusal}
use Rattle.ir_command.specs.declared.refusal.Refusal.TheVariants.{UnknownCommand, BadArgument, NoSuchThread, NoSuchObject, BadAddress, LineTooLong}
use Rattle.ir_fit.specs.Fit.{FittedTrace}
use Rattle.ir_cut.specs.Positions.{last_cut}
use Rattle.ir_debug.specs.Machine.{Desk, desk_of, refusal_of, may_lack}
use Rattle.ir_debug.specs.Debugging.{moved_text}

abbrev AskedCommand : Type 0
AskedCommand = Result (Option Command) Refusal

abbrev command_asked : Command → AskedCommand
command_asked c = Ok (Some c)

abbrev command_refused : Refusal → AskedCommand
command_refused r = Err r

command_of_examples : (command_of (codes "jump") ≡ command_refused UnknownCommand)
    × (command_of (codes "break 0 0x1001c") ≡ command_asked (Set (Break 0 0x1001c)))
    × (command_of (codes "step 0") ≡ command_refused BadArgument)
    × (command_of (codes "step 0 4294967296") ≡ command_refused BadArgument)
    × (command_of (codes "step 0 4294967295") ≡ command_asked (Move (Step 0 4294967295)))
    × (command_of (codes "mem 9 0 0") ≡ command_refused BadArgument)
    × (command_of (codes "mem 9 0 257") ≡ command_refused BadArgument)
    × (command_of (codes "mem 0 0x10000 4") ≡ command_asked (Show (Memory 0 0x10000 4)))
    × (command_of (codes "  pos\t") ≡ command_asked Position)
    × (command_of (codes "quit 1") ≡ command_refused BadArgument)
    × (command_of (codes "goto 1 0xFFFFFFFFFFFFFFFF\r") ≡ command_asked (Move (Goto 1 0xFFFFFFFFFFFFFFFF)))
unfolding command_of command_named words_of number_of
command_of_examples = (refl, refl, refl, refl, refl, refl, refl, refl, refl, refl, refl)

blanks_are_no_command : (b : ℕ) → command_of (replicate 1024 32) ≡ Ok None
unfolding command_of words_of
blanks_are_no_command b = refl

blanks_too_long : command_of (replicate 1025 32) ≡ command_refused LineTooLong
unfolding command_of
blanks_too_long = refl

-- ---- refusals: two threads at one entry, one object, 18 words of code

abbrev guest_of_two_threads : Guest
guest_of_two_threads = record { form = Small; entries = 0x10000 ∷ 0x10000 ∷ []; code = replicate 18 0x13; bytes = []; words = replicate 8 0 }

abbrev desk_of_two_threads : Desk
desk_of_two_threads = desk_of (record { guest = guest_of_two_threads; recorded = record { objects = 1; budget = 1000; profile = One; threads = [] } })

refusal_of_examples : (refusal_of desk_of_two_threads (Move (Step 2 1)) ≡ Some NoSuchThread)
    × (refusal_of desk_of_two_threads (Show (Object 1)) ≡ Some NoSuchObject)
    × (refusal_of desk_of_two_threads (Show (Memory 0 4294967295 256)) ≡ Some BadAddress)
    × (refusal_of desk_of_two_threads (Show (Memory 0 0x10047 1)) ≡ None)
    × (refusal_of desk_of_two_threads (Show (Memory 0 0x10047 2)) ≡ Some BadAddress)
    × (refusal_of desk_of_two_threads (Show (Memory 1 0x100000 256)) ≡ None)
    × (refusal_of desk_of_two_threads (Show (Memory 1 0x10FFFF 2)) ≡ Some BadAddress)
    × (refusal_of desk_of_two_threads (Show (Memory 2 0 1)) ≡ Some NoSuchThread)
    × (refusal_of desk_of_two_threads (Move End) ≡ None)
    × (refusal_of desk_of_two_threads (Quit) ≡ None)
unfolding refusal_of
refusal_of_examples = (refl, refl, refl, refl, refl, refl, refl, refl, refl, refl)

may_lack_examples : (may_lack desk_of_two_threads (Show (Registers 0)) ≡ false)
    × (may_lack desk_of_two_threads (Show (Next 0)) ≡ true)
may_lack_examples = (refl, refl)

-- ---- answers

-- one thread of nine steps, the last of which is its end
abbrev trace_of_nine_steps : FittedTrace
trace_of_nine_steps = record {
  guest = record guest_of_two_threads { entries = 0x10000 ∷ [] };
  recorded =
      record { objects = 1; budget = 1000; profile = One; threads = record { steps = 9; end = Breakpoint; events = [] } ∷ [] };
}

moved_text_examples : (moved_text trace_of_nine_steps (Step 0 1) (9 ∷ []) ≡ codes "at 9 end\n")
    × (moved_text trace_of_nine_steps (Goto 0 0) (0 ∷ []) ≡ codes "at 0 start\n")
    × (moved_text trace_of_nine_steps (Step 0 1) (8 ∷ []) ≡ codes "at 8\n")
    × (moved_text trace_of_nine_steps Start (0 ∷ 0 ∷ []) ≡ codes "at 0 0\n")
unfolding digits
moved_text_examples = (refl, refl, refl, refl)

last_cut_example : last_cut trace_of_nine_steps ≡ 9 ∷ []
last_cut_example = refl
