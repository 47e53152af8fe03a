use Rattle.std.proofs.Common.{rules, arith, vec_len}
use Rattle.ir_world.specs.Sources.{source, is_counted}
use Rattle.ir_world.proofs.Giving.{ticks_bounded, gave_sources_after, gave_skips_clock}
use Rattle.ir_world.proofs.program_world.ProgramWorld.answered.Goals as goal

pub invariant_of-self-in-Clock-Since : goal.invariant_of-self-in-Clock-Since
invariant_of-self-in-Clock-Since g c =
    let w = c.args.self.now in
    record {
      room = omega (arith, w.room, c.push_reserved.ensures.capacity);
      few = omega (arith, w.few, c.push_reserved.ensures.len);
      gave = gave_skips_clock (source w.seed w.file.now) w.sources w.time c.in-Clock-Since.start w.answers.items c.push_reserved.new.self.items
          c.args.kind c.in-Some.value c.in-Clock-Since.is-1 c.in-Clock-Since.is-0 w.gave c.push_reserved.ensures.items;
    }

pub invariant_of-self-2 : goal.invariant_of-self-2
invariant_of-self-2 g c =
    let w = c.args.self.now in
    record {
      room = omega (arith, w.room, c.push_reserved-2.ensures.capacity);
      few = ticks_bounded w.sources c.answer-value.new.self (vec_len w.answers) (vec_len c.push_reserved-2.new.self) c.args.kind
          c.answer-value.result w.few c.push_reserved-2.ensures.len c.answer-value.ensures.given;
      gave = gave_sources_after (source w.seed w.file.now) w.sources c.answer-value.new.self (is_counted w.time) w.answers.items
          c.push_reserved-2.new.self.items c.args.kind c.answer-value.result (search rules) w.gave c.push_reserved-2.ensures.items
          c.answer-value.ensures.given;
    }
