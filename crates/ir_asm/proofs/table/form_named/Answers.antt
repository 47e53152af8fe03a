use Rattle.std.proofs.Common.{◌∙◌, ◌++◌}
use Rattle.ir_asm.specs.Forms.{base_rows, multiply_rows, immediate_rows, memory_rows, branch_rows, single_rows, directive_rows}
use Rattle.ir_asm.proofs.Tables.{first_of_named_append}
use Rattle.ir_asm.proofs.table.form_named.Goals as goal

pub returns : goal.returns
returns c =
    c.either.ensures ∙ first_of_named_append base_rows (multiply_rows ++
    (immediate_rows ++ (memory_rows ++ (branch_rows ++ (single_rows ++ directive_rows))))) c.args.name.now _ _ c.base_form.ensures
    (c.either-multiply.ensures ∙ first_of_named_append multiply_rows (immediate_rows ++ (memory_rows ++ (branch_rows ++ (single_rows ++ directive_rows))))
    c.args.name.now _ _ c.multiply_form.ensures
    (c.either-immediate.ensures ∙ first_of_named_append immediate_rows (memory_rows ++ (branch_rows ++ (single_rows ++ directive_rows))) c.args.name.now _
    _ c.immediate_form.ensures
    (c.either-memory.ensures ∙ first_of_named_append memory_rows (branch_rows ++ (single_rows ++ directive_rows)) c.args.name.now _ _ c.memory_form.ensures
    (c.either-branch.ensures ∙ first_of_named_append branch_rows (single_rows ++ directive_rows) c.args.name.now _ _ c.branch_form.ensures
    (c.either-single.ensures ∙ first_of_named_append single_rows directive_rows c.args.name.now _ _ c.single_form.ensures c.directive_form.ensures)))))
