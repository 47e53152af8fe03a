use Rattle.std.proofs.Common.{rules, Some, None, refl}
use Rattle.ir_crew.proofs.CallerLemmas.{step_of_deed}
use Rattle.ir_crew.specs.declared.deed.Deed.TheVariants.{Try}
use Rattle.ir_log.specs.declared.event.Event.TheVariants as event
use Rattle.ir_thread.specs.declared.ask.Ask.TheVariants as ask
use Rattle.ir_record.proofs.WorkerSteps.{still_works_after_step, below_try, try_in_two, try_room, try_few, reply_lowers_own_left}
use Rattle.ir_record.proofs.by_threads.worker.Worker.try_write.Goals as goal

pub try_write-requires-clause-object : goal.try_write-requires-clause-object
try_write-requires-clause-object g c = below_try c.requires.worker c.requires.asked

pub try_write-requires-clause-room : goal.try_write-requires-clause-room
try_write-requires-clause-room g c = try_few c.requires.worker c.requires.asked

pub push-requires : goal.push-requires
push-requires g c = try_room c.requires.worker c.requires.asked

pub push-requires-2 : goal.push-requires-2
push-requires-2 g c = try_room c.requires.worker c.requires.asked

-- a refused try is answered 0, and is no object step
pub returns-in_default-clause-stays : goal.returns-in_default-clause-stays
returns-in_default-clause-stays g c = record {
  seat = c.try_write.ensures.seat.0;
  still = still_works_after_step c.requires.worker.same_code (ask.Try c.args.object) 0 None (Some (event.Try c.args.object))
      refl refl ((try_in_two c.requires.worker c.requires.asked, below_try c.requires.worker c.requires.asked), tt)
      c.requires.asked c.in_default.ensures.tried c.take_asked.ensures c.push.ensures refl;
}

-- a try that entered is answered 1, and logged as an entry
pub returns-clause-stays : goal.returns-clause-stays
returns-clause-stays g c =
    let version = c.in-Some.version in
    let readers = c.in-Some.readers in
    record {
      seat = c.try_write.ensures.seat.0;
      still = still_works_after_step c.requires.worker.same_code (ask.Try c.args.object) 1 (Some (step_of_deed c.args.object (Try version readers)))
          (Some (event.Write c.args.object version readers))
          refl refl ((below_try c.requires.worker c.requires.asked, search rules, search rules), tt)
          c.requires.asked c.in-Some.ensures.tried c.take_asked-2.ensures c.push-2.ensures refl;
    }

pub returns-in_default-clause-fewer : goal.returns-in_default-clause-fewer
returns-in_default-clause-fewer g c = reply_lowers_own_left _ _ _ c.requires.asked (λ done. absurd cc) c.take_asked.ensures

pub returns-clause-fewer : goal.returns-clause-fewer
returns-clause-fewer g c = reply_lowers_own_left _ _ _ c.requires.asked (λ done. absurd cc) c.take_asked-2.ensures
