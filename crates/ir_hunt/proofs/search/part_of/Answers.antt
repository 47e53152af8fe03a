use Rattle.ir_hunt.proofs.Parts.{copy_is_begun}
use Rattle.ir_hunt.proofs.search.part_of.Goals as goal

pub returns-in-Some-clause-part : goal.returns-in-Some-clause-part
returns-in-Some-clause-part g c = copy_is_begun c.args.own.now c.args.seeds c.in-Some.part.now c.copy.result c.copy.ensures.seeds c.copy.ensures.tried (record {
  tried = c.in-Some.ensures.tried c.args.own.now c.requires.tried;
  from = c.in-Some.ensures.first;
  within = c.in-Some.ensures.last;
})
