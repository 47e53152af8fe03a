-- Of a line, no more than 1,025 bytes matter.
use Rattle.std.specs.Prelude.{◌≡◌, ◌<◌, ℕ, List, length, take, refl, true, nat_lt, Option, Result, Err}
use Rattle.std.proofs.Common.{ap, ◌∙◌, sym, subst, arith, inl, inr}
use Rattle.std.proofs.lemmas.Bool.{cases_lt, lt-ltb}
use Rattle.std.proofs.lemmas.List.{take_all, length-take}
use Rattle.ir_cut.specs.Positions.{EachRun}
use Rattle.ir_stream.specs.Written.{most_kept_bytes}
use Rattle.ir_command.specs.Commands.{most_line, command_of}
use Rattle.ir_command.specs.declared.command.Command.{Command}
use Rattle.ir_command.specs.declared.refusal.Refusal.{Refusal}
use Rattle.ir_command.specs.declared.refusal.Refusal.TheVariants.{LineTooLong}
use Rattle.ir_debug.specs.Machine.{Desk, RepliesBy, Replies, quits_by, quits}

long_line_is_refused : (line : List ℕ) → most_line < length line → command_of line ≡ Err LineTooLong
unfolding command_of
long_line_is_refused line h = let e : nat_lt most_line (length line) ≡ true = lt-ltb most_line (length line) h in rw e refl

long_prefix_command : (k : ℕ) (line : List ℕ) → most_line < k → command_of (take k line) ≡ command_of line
long_prefix_command k line h =
    elim (cases_lt k (length line)) [
      | inl lt ↦ long_line_is_refused (take k line) (omega (arith, length-take k line)) ∙ sym (long_line_is_refused line (omega arith))
      | inr le ↦ ap (λ l. command_of l) (take_all k line le)
    ]

pub replies_by_kept_bytes : (d : Desk) (line text : List ℕ) (next : Desk) → Replies d (take most_kept_bytes line) text next → Replies d line text next
unfolding Replies
replies_by_kept_bytes d line text next is =
    let P : Result (Option Command) Refusal → Type 0 = λ a. EachRun d.fitted (λ run. RepliesBy a run d text next) in
    subst P (long_prefix_command most_kept_bytes line (omega arith)) is

pub quits_by_kept_bytes : (line : List ℕ) → quits (take most_kept_bytes line) ≡ quits line
unfolding quits
quits_by_kept_bytes line = ap quits_by (long_prefix_command most_kept_bytes line (omega arith))
