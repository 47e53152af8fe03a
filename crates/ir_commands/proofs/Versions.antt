-- Versions of an object that are printed of files.
use Rattle.std.proofs.Common.{◌≡◌, ◌⊎◌, ℕ, Option, inl, inr, subst, sym}
use Rattle.std.specs.Prelude.{MatchOption}
use Rattle.ir_arguments.specs.declared.who.WhoArguments.{WhoArguments}
use Rattle.ir_files.specs.Writers.{Writer}
use Rattle.ir_files.specs.declared.exit_status.ExitStatus.{ExitStatus}
use Rattle.ir_opened.specs.Answers.{IsFitAnswerOf}
use Rattle.ir_past.specs.Replies.{IsAnswerOf}
use Rattle.ir_trace.specs.Recorded.{recorded_at}
use Rattle.ir_who.specs.Lines.{IsWhoAnswer, IsWhoUnanswered}
use Rattle.ir_who.specs.FitLines.{IsFitWhoAnswer, IsFitUnanswered}
use Rattle.ir_who_word.specs.Lines.{IsWordAnswer, IsWordUnanswered}
use Rattle.ir_commands.specs.Printing.{Paths, PrintedIfThere, PrintsOfFiles, PrintsWho, who_asked, word_asked}

-- what is printed without a word, or with this one
abbrev pub PrintsByWord : Paths → WhoArguments → Option ℕ → ExitStatus → Writer → Writer → Type 0
PrintsByWord at arguments word = PrintsOfFiles at arguments.trace arguments.image
    (λ trace. PrintedIfThere (IsAnswerOf (IsWhoAnswer (who_asked arguments)) (recorded_at trace)) (IsWhoUnanswered (who_asked arguments) (recorded_at trace)))
    (λ image trace answered out faults. MatchOption word
    (PrintedIfThere (IsFitAnswerOf (IsFitWhoAnswer (who_asked arguments)) image trace) (IsFitUnanswered (who_asked arguments) image trace) answered out faults)
    (λ number. PrintedIfThere (IsFitAnswerOf (IsWordAnswer (word_asked arguments number)) image trace) (IsWordUnanswered (word_asked arguments number) image trace)
    answered out faults))

-- it is what the arguments ask for
pub printed_by_word : (at : Paths) (arguments : WhoArguments) (s : ExitStatus) (out faults : Writer) (word : Option ℕ) → arguments.word ≡ word
    → PrintsByWord at arguments word s out faults → PrintsWho at arguments s out faults
printed_by_word at arguments s out faults word is h = subst (λ (w : Option ℕ). PrintsByWord at arguments w s out faults) (sym is) h

-- what is printed of files may be said in other words
pub said_otherwise : {A B C : Type 0} → (A → B) → A ⊎ C → B ⊎ C
said_otherwise to (inl a) = inl (to a)
said_otherwise to (inr c) = inr c
