use Rattle.std.proofs.Common.{rules, Some, refl}
use Rattle.ir_crew.proofs.CallerLemmas.{step_of_deed}
use Rattle.ir_crew.specs.declared.deed.Deed.TheVariants.{Enter}
use Rattle.ir_log.specs.declared.event.Event.TheVariants as event
use Rattle.ir_runs.specs.declared.access.Access.TheVariants.{Writing}
use Rattle.ir_thread.specs.declared.ask.Ask.TheVariants as ask
use Rattle.ir_record.proofs.WorkerSteps.{still_works_after_step, below_enter, enter_room, enter_few, reply_lowers_own_left}
use Rattle.ir_record.proofs.by_threads.worker.Worker.enter_write.Goals as goal

pub enter_write-version-requires-clause-object : goal.enter_write-version-requires-clause-object
enter_write-version-requires-clause-object g c = below_enter c.requires.worker c.requires.asked

pub enter_write-version-requires-clause-room : goal.enter_write-version-requires-clause-room
enter_write-version-requires-clause-room g c = enter_few c.requires.worker c.requires.asked

pub push-requires : goal.push-requires
push-requires g c = enter_room c.requires.worker c.requires.asked

pub returns-clause-stays : goal.returns-clause-stays
returns-clause-stays g c =
    let version = c.enter_write-version.result.0 in
    let readers = c.enter_write-version.result.1 in
    record {
      seat = c.enter_write-version.ensures.seat.0;
      still = still_works_after_step c.requires.worker.same_code (ask.Enter c.args.object Writing) 0
          (Some (step_of_deed c.args.object (Enter Writing version readers))) (Some (event.Write c.args.object version readers))
          refl refl ((below_enter c.requires.worker c.requires.asked, search rules, search rules), tt)
          c.requires.asked c.enter_write-version.ensures.entered c.take_asked.ensures c.push.ensures refl;
    }

pub returns-clause-fewer : goal.returns-clause-fewer
returns-clause-fewer g c = reply_lowers_own_left _ _ _ c.requires.asked (λ done. absurd cc) c.take_asked.ensures
