-- What the words ask for, by what clap's parse gives.
use Rattle.std.proofs.Common.{◌≡◌, ◌∙◌, ap, inl, inr, subst, sym, true, List, []}
use Rattle.clap.specs.Words.{HasKind, HasMatchesOf, IsAmong, Text, app_of, fault_of, is_simple, is_simple_and_free, subcommand_of, subcommand_rows_of, kind_of}
use Rattle.clap.specs.Faults.{is_free_app}
use Rattle.clap.specs.Simple.{built}
use Rattle.clap.specs.declared.builder.command.Command.{Command}
use Rattle.clap.specs.declared.error.Error.{Error}
use Rattle.clap.specs.declared.parser.matches.ArgMatches.{ArgMatches}
use Rattle.clap.proofs.WalkLemmas.{both}
use Rattle.ir_arguments.specs.Parser.{app_in, ir_app}
use Rattle.ir_arguments.specs.Parsing.{IsAskedBy, IsOrNoMemory, request_at_fault}
use Rattle.ir_arguments.specs.Requests.{Request}
use Rattle.ir_arguments.specs.Subcommands.{request_by_name}
use Rattle.ir_arguments.proofs.Apps.{ir_app_is_simple}

pub is_simple_program : (c : Command) → app_in c ≡ ir_app → is_simple_and_free (app_of c) ≡ true
unfolding app_in
is_simple_program c same = ap is_simple_and_free same ∙ ir_app_is_simple

rows_of_program : (c : Command) (words : List Text) (m : ArgMatches) → app_in c ≡ ir_app → HasMatchesOf (app_of c) words m
    → subcommand_rows_of m ≡ subcommand_of ir_app words
unfolding app_in
rows_of_program c words m same has =
    (has (both (is_simple (app_of c)) (is_free_app (built (app_of c))) (is_simple_program c same)).0).1
    ∙ ap (λ a. subcommand_of a words) same

faults_of_program : (c : Command) (words : List Text) → app_in c ≡ ir_app → fault_of ir_app words ≡ fault_of (app_of c) words
unfolding app_in
faults_of_program c words same = ap (λ a. fault_of a words) (sym same)

pub asked_by_matches : (c : Command) (words : List Text) (m : ArgMatches) (asked : Request) → app_in c ≡ ir_app → HasMatchesOf (app_of c) words m
    → fault_of (app_of c) words ≡ [] → IsOrNoMemory (request_by_name (subcommand_rows_of m)) asked → IsAskedBy words asked
asked_by_matches c words m asked same has none h = elim h [
  | inl is ↦ inr (inl (faults_of_program c words same ∙ none, is ∙ ap request_by_name (rows_of_program c words m same has)))
  | inr out ↦ inl out
]

pub asked_by_fault : (c : Command) (words : List Text) (e : Error) (asked : Request) → app_in c ≡ ir_app
    → HasKind (fault_of (app_of c) words) e → IsOrNoMemory (request_at_fault (kind_of e)) asked → IsAskedBy words asked
asked_by_fault c words e asked same (inl out) (inl is) = inl (is ∙ ap request_at_fault out)
asked_by_fault c words e asked same (inr among) (inl is) = inr (inr (record {
  fault = kind_of e;
  is_fault = subst (IsAmong (kind_of e)) (sym (faults_of_program c words same)) among;
  is_asked = is;
}))
asked_by_fault c words e asked same has (inr out) = inl out
