use Rattle.std.proofs.Common.{refl}
use Rattle.ir_record.proofs.CallerLemmas.{none_failed_push, length_of_push}
use Rattle.ir_schedule_tests.proofs.silent.worlds.Goals as goal

pub loop-number-preserved : goal.loop-number-preserved
loop-number-preserved c = record {
  count = length_of_push c.loop-number.worlds.items c.push.new.self.items _ c.loop-number.number c.loop-number.invariant.count
      c.in_ok-push.ensures.items;
  works = none_failed_push (λ w. w.failed) c.loop-number.worlds.items c.push.new.self.items _ c.loop-number.invariant.works
      c.in_ok-push.ensures.items refl;
}
