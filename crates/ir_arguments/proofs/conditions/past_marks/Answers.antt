use Rattle.std.proofs.Common.{rules}
use Rattle.ir_arguments.proofs.Marks.{rest_next, marks_next, length_next, all_marks, rest_of_all}
use Rattle.ir_arguments.proofs.conditions.past_marks.Goals as goal

pub marks-preserved : goal.marks-preserved
marks-preserved c =
    let so_far = c.marks.invariant.1 in (
      search rules,
      record {
        rest = rest_next c.args.text.now c.marks.rest.now c.in-Some.more.now c.marks.count so_far.rest c.in-Some.ensures;
        all = marks_next c.args.text.now c.marks.rest.now c.in-Some.more.now c.marks.count so_far.all c.in-Some.ensures;
        within = length_next c.args.text.now c.marks.rest.now c.in-Some.more.now c.marks.count so_far.within c.in-Some.ensures;
      },
    )

pub returns-clause-rest : goal.returns-clause-rest
returns-clause-rest c =
    rest_of_all c.args.text.now c.marks.rest.now c.marks.count c.marks.invariant.1.rest c.marks.invariant.1.all c.in_default.ensures

pub returns-clause-count : goal.returns-clause-count
returns-clause-count c = all_marks c.args.text.now c.marks.rest.now c.marks.count c.marks.invariant.1.all c.in_default.ensures
