-- A session has no command of a question's name.
use Rattle.std.proofs.Common.{◌≡◌, ◌⊎◌, inl, inr, ℕ, Bool, true, false, List, [], ◌∷◌, length, Option, Some, None, Result, Ok, Err, cond, codes, refl, sym, ap, subst}
use Rattle.std.specs.Prelude.{nat_lt}
use Rattle.std.specs.Str.{bytes_eq}
use Rattle.std.proofs.lemmas.Slice.Eq.{bytes_eq-Decides}
use Rattle.ir_command.specs.Commands.{command_of, command_of_words, command_named, some_command, words_of, without_return, most_line}
use Rattle.ir_command.specs.declared.command.Command.{Command}
use Rattle.ir_command.specs.declared.refusal.Refusal.{Refusal}
use Rattle.ir_command.specs.declared.refusal.Refusal.TheVariants.{UnknownCommand, LineTooLong}
use Rattle.ir_monitor.specs.declared.asked.Asked.{Asked}
use Rattle.ir_monitor.specs.Asking.{asked_by_words, asked_of}

-- one of the names is there
named_in_turn : (a b c d : Bool) (w x y z : Option Asked) (asked : Asked)
    → cond a w (cond b x (cond c y (cond d z None))) ≡ Some asked → (a ≡ true) ⊎ ((b ≡ true) ⊎ ((c ≡ true) ⊎ (d ≡ true)))
named_in_turn true b c d w x y z asked is = inl refl
named_in_turn false true c d w x y z asked is = inr (inl refl)
named_in_turn false false true d w x y z asked is = inr (inr (inl refl))
named_in_turn false false false true w x y z asked is = inr (inr (inr refl))
named_in_turn false false false false w x y z asked is = absurd cc

-- a session knows no command of a name that is one that it doesn't know
unknown_by_name : (text name : List ℕ) (words : List (List ℕ)) → ((ws : List (List ℕ)) → command_named text ws ≡ Err UnknownCommand)
    → bytes_eq name text ≡ true → command_named name words ≡ Err UnknownCommand
unknown_by_name text name words unknown same = subst (λ (x : List ℕ). command_named x words ≡ Err UnknownCommand) (sym ((bytes_eq-Decides name text).0 same)) (unknown words)

unknown_who : (words : List (List ℕ)) → command_named (codes "who") words ≡ Err UnknownCommand
unfolding command_named
unknown_who words = refl

unknown_stale : (words : List (List ℕ)) → command_named (codes "stale") words ≡ Err UnknownCommand
unfolding command_named
unknown_stale words = refl

unknown_why : (words : List (List ℕ)) → command_named (codes "why") words ≡ Err UnknownCommand
unfolding command_named
unknown_why words = refl

unknown_events : (words : List (List ℕ)) → command_named (codes "events") words ≡ Err UnknownCommand
unfolding command_named
unknown_events words = refl

question_name_unknown : (name : List ℕ) (words : List (List ℕ)) (asked : Asked) → asked_by_words (name ∷ words) ≡ Some asked
    → command_named name words ≡ Err UnknownCommand
unfolding asked_by_words
question_name_unknown name words asked is = elim (named_in_turn (bytes_eq name (codes "who")) (bytes_eq name (codes "stale"))
    (bytes_eq name (codes "why")) (bytes_eq name (codes "events")) _ _ _ _ asked is) [
      | inl who ↦ unknown_by_name (codes "who") name words unknown_who who
      | inr (inl stale) ↦ unknown_by_name (codes "stale") name words unknown_stale stale
      | inr (inr (inl why)) ↦ unknown_by_name (codes "why") name words unknown_why why
      | inr (inr (inr events)) ↦ unknown_by_name (codes "events") name words unknown_events events
    ]

unknown_within_limit : (long : Bool) (words : List (List ℕ)) (asked : Asked) → cond long None (asked_by_words words) ≡ Some asked
    → cond long (Err LineTooLong) (command_of_words words) ≡ Err UnknownCommand
unfolding asked_by_words
unknown_within_limit true words asked is = absurd cc
unknown_within_limit false [] asked is = absurd cc
unknown_within_limit false (name ∷ words) asked is = ap some_command (question_name_unknown name words asked is)

pub question_line_is_no_command : (line : List ℕ) (asked : Asked) → asked_of line ≡ Some asked → command_of line ≡ Err UnknownCommand
unfolding asked_of command_of
question_line_is_no_command line asked is = unknown_within_limit (nat_lt most_line (length line)) (words_of (without_return line)) asked is
