-- What the program does by words that may name a file of names, by what it does in each case.
use Rattle.std.proofs.Common.{◌≡◌, ◌⊎◌, ◌++◌, ℕ, Bool, true, false, List, [], Option, Some, None, inl, inr, refl, sym, ap, ◌∙◌, subst}
use Rattle.std.specs.Prelude.{IfSome, option_map}
use Rattle.ir_arguments.specs.Parsing.{IsAskedBy}
use Rattle.ir_arguments.specs.Views.{request_view}
use Rattle.ir_arguments.specs.declared.asked.Asked.{Asked}
use Rattle.ir_arguments.specs.declared.asked.Asked.TheVariants as asked
use Rattle.ir_commands.specs.Files.{IsFileIn, TellsFault}
use Rattle.ir_commands.specs.Printing.{Paths}
use Rattle.ir_commands.specs.Writing.{Storing}
use Rattle.ir_commands.proofs.CallerLemmas.{unchanged_goes_on}
use Rattle.ir_files.specs.Writers.{Writer}
use Rattle.ir_files.specs.declared.exit_status.ExitStatus.{ExitStatus}
use Rattle.ir_files.specs.declared.exit_status.ExitStatus.TheVariants as status
use Rattle.ir_names.specs.Lines.{IsNamesFault, names_at}
use Rattle.ir_names.specs.Naming.{Reached, answer_start}
use Rattle.ir_names.specs.Taken.{begun_numbers, known_plain}
use Rattle.ir_names.specs.Things.{NameTable}
use Rattle.ir_names.specs.declared.names_err.NamesErr.{NamesErr}
use Rattle.ir_names.specs.declared.names_err.NamesErr.TheVariants as fault
use Rattle.ir_names.proofs.CallerLemmas.{known_at_start, takes_named_if_known}
use Rattle.ir_program.specs.Doing.{Does, TellsWhyNot}
use Rattle.ir_program.specs.Named.{DoesByFile, DoesNamed, HasFaultyName, LacksNames, PutsNames, ServesBy, ServesCommandLine, ServesNamed, TookNamed, names_status, use_of}
use Rattle.ir_program.specs.declared.names_use.NamesUse.{NamesUse}
use Rattle.ir_program.specs.Serving.{MayExplain, ServesWords}
use Rattle.ir_names.specs.Words.{NamesSplit, only_file, split_words, wants_names}

-- nothing more is told
explains_nothing : (answered : ExitStatus) (faults : Writer) → MayExplain answered faults faults
explains_nothing answered faults = record { begins = refl; goes_on = unchanged_goes_on faults.after; no_more = λ _. refl; broken = λ _. refl }

-- without memory nothing is done
pub serves_without_memory : (b : Bool) (at : Paths) (stored : Storing) (words : List (List ℕ)) (answered : ExitStatus) (input : Option (List ℕ))
    (out faults : Writer) (unprinted : Type 0) → TellsWhyNot status.Failed answered faults unprinted
    → ServesBy b at stored words answered input out faults unprinted
serves_without_memory true at stored words answered input out faults unprinted told = record { asked = asked.NoMem; is_asked = inl refl; done = told }
serves_without_memory false at stored words answered input out faults unprinted told =
    record { asked = asked.NoMem; is_asked = inl refl; told = faults; done = told; explained = explains_nothing answered faults }

-- words that name no file of names are served as they are
pub serves_plain : (at : Paths) (stored : Storing) (words : List (List ℕ)) (split : NamesSplit) (b : Bool) (answered : ExitStatus) (input : Option (List ℕ))
    (out faults : Writer) (unprinted : Type 0) → split ≡ split_words words → b ≡ wants_names split → b ≡ false
    → ServesWords at stored words answered input out faults unprinted → ServesCommandLine at stored words answered input out faults unprinted
serves_plain at stored words split b answered input out faults unprinted e f g served =
    subst (λ z. ServesBy z at stored words answered input out faults unprinted) (sym g ∙ f ∙ ap wants_names e) served

-- and others by the file that they name
pub serves_named : (at : Paths) (stored : Storing) (words : List (List ℕ)) (split : NamesSplit) (b : Bool) (answered : ExitStatus) (input : Option (List ℕ))
    (out faults : Writer) (unprinted : Type 0) → split ≡ split_words words → b ≡ wants_names split → b ≡ true
    → ServesNamed at stored split answered input out faults unprinted → ServesCommandLine at stored words answered input out faults unprinted
serves_named at stored words split b answered input out faults unprinted e f g served =
    subst (λ z. ServesBy z at stored words answered input out faults unprinted) (sym g ∙ f ∙ ap wants_names e)
    (subst (λ s. ServesNamed at stored s answered input out faults unprinted) e served)

-- the other words ask for a request, which was done by what names are for it
pub serves_request : (at : Paths) (stored : Storing) (split : NamesSplit) (words : List (List ℕ)) (what : Asked) (names_are : NamesUse) (file : Option (List ℕ))
    (answered : ExitStatus) (input : Option (List ℕ)) (out faults : Writer) (unprinted : Type 0) → IsAskedBy words (request_view what)
    → words ≡ split.others → names_are ≡ use_of what → file ≡ only_file split
    → DoesNamed names_are at stored file what answered input out faults unprinted → ServesNamed at stored split answered input out faults unprinted
serves_request at stored split words what names_are file answered input out faults unprinted is_asked e f h done = record {
  asked = what;
  is_asked = subst (λ w. IsAskedBy w (request_view what)) e is_asked;
  done = subst (λ u. DoesNamed u at stored (only_file split) what answered input out faults unprinted) f
      (subst (λ p. DoesNamed names_are at stored p what answered input out faults unprinted) h done);
}

-- without a single file of names nothing is done
pub tells_one_file : {X : Type 0} (file : Option X) (text : X → List ℕ) (at : Paths) (stored : Storing) (lists : Bool) (what : Asked) (answered : ExitStatus)
    (input : Option (List ℕ)) (out faults : Writer) (unprinted : Type 0) → ((path : X) → file ≡ Some path → ⊥)
    → TellsWhyNot status.BadArguments answered faults unprinted
    → DoesByFile at stored (option_map text file) lists what answered input out faults unprinted
tells_one_file None text at stored lists what answered input out faults unprinted none told = told
tells_one_file (Some path) text at stored lists what answered input out faults unprinted none told = absurd (none path refl)

-- a file of names that isn't taken
pub lacks_names : (known : Option (List ℕ)) (bytes : List ℕ) (why : NamesErr) (answered : ExitStatus) (faults : Writer) (unprinted : Type 0)
    → IsFileIn known bytes → IsNamesFault why (names_at bytes) → answered ≡ names_status why → unprinted → TellsFault faults
    → LacksNames known answered faults unprinted
lacks_names None bytes (fault.Line number) answered faults unprinted is read e kept told = (inr (e, tt), kept, told)
lacks_names (Some file) bytes (fault.Line number) answered faults unprinted is read e kept told =
    (inr (e, (number, ap names_at (sym is) ∙ read)), kept, told)
lacks_names known bytes fault.NoMem answered faults unprinted is read e kept told = (inl e, kept, told)

-- a writer with names that begins with these puts an answer out with them
pub puts_from_start : (names begun taken : NameTable) (lists was failed : Bool) (start end : Reached) (before after : Option (List ℕ)) → begun ≡ names
    → start ≡ answer_start lists → PutsNames names lists
    (record { before = known_plain begun start was before; after = known_plain taken end failed after; failed = failed })
    (record { before = before; after = after; failed = failed })
puts_from_start names begun taken lists was failed start end before after e f = record {
  failed = refl;
  start = begun_numbers names lists;
  from_start = λ none. ap (λ (n : NameTable). known_plain n start was before) e ∙ ap (λ (r : Reached). known_plain names r was before) f
      ∙ ap (known_plain names (answer_start lists) was) none ∙ known_at_start names lists was;
  took = λ text is. let t = takes_named_if_known names taken lists end failed after text is in
      record { begun = t.0; took = t.1; whole = t.2 };
}
