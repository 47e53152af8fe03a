use Rattle.std.proofs.Common.{◌≡◌, ◌∙◌, ◌+◌, ◌++◌, ℕ, List, length, sym, subst}
use Rattle.std.specs.String.{string_bytes}
use Rattle.std.proofs.lemmas.List.{get_or_default}
use Rattle.ir_who.specs.Lines.{object_line}
use Rattle.ir_who_word.specs.Lines.{changed_lines}
use Rattle.ir_who_word.specs.Words.{unread}
use Rattle.ir_who_word.proofs.Joined.{append_no_changed_lines, changed_lines_other, changed_lines_same}
use Rattle.ir_who_word.proofs.lines.word_text.Goals as goal
use Rattle.ir_who_word.proofs.lines.word_text.Goals.{then-is_other+in_ok-word_line+in_ok-push_str, else-is_other}

pub loop-number-init : goal.loop-number-init
loop-number-init c = append_no_changed_lines c.args.index c.args.rows.now (string_bytes c.in_ok-text.text) (object_line c.args.object (length c.args.rows.now))
    c.in_ok-text.ensures

pub loop-number-preserved : goal.loop-number-preserved
loop-number-preserved c =
    let i : ℕ = c.args.index in
    let rows = c.args.rows.now in
    let n : ℕ = c.loop-number.number in
    let first : List ℕ = object_line c.args.object (length rows) in
    let text : List ℕ = string_bytes c.loop-number.text in
    elim c.if-is_other.branch [
      | then-is_other+in_ok-word_line+in_ok-push_str w ↦ subst (λ s. string_bytes s ≡ first ++ changed_lines i rows (n + 1)) (sym w.text-is)
          (changed_lines_other i rows n _ text _ first w.as_str.result.now c.loop-number.invariant w.in_ok-push_str.ensures.bytes
          (w.as_str.ensures.value ∙ w.in_ok-word_line.ensures) (get_or_default rows n unread _ c.loop-number-test.true)
          (sym c.is_other.ensures ∙ w.if-is_other.true))
      | else-is_other w ↦ subst (λ s. string_bytes s ≡ first ++ changed_lines i rows (n + 1)) (sym w.text-is)
          (changed_lines_same i rows n text first c.loop-number.invariant (sym c.is_other.ensures ∙ w.if-is_other.false))
    ]
