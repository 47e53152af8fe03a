use Rattle.std.specs.String.{string_bytes}
use Rattle.ir_hunt.proofs.Parts.{last_of_part_is_lowest, seeds_of_part_are_tried}
use Rattle.ir_hunt.proofs.search.found_in.Goals as goal

pub returns-in-Some : goal.returns-in-Some
returns-in-Some c hunt seeds seconds h = last_of_part_is_lowest hunt seeds c.args.part.seeds.first c.args.part.seeds.last c.args.part.left_out
    (string_bytes c.in-Some.list) h.begun.from h.begun.within (rw c.in-Some.is at h.begun.tried)

pub returns-in-None : goal.returns-in-None
returns-in-None c hunt seeds seconds h = (
  h.ends c.in-None.is,
  seeds_of_part_are_tried hunt seeds c.args.part.seeds.first c.args.part.seeds.last c.args.part.left_out h.begun.from (rw c.in-None.is at h.begun.tried),
)
