use Rattle.std.proofs.Common.{rules, Some, refl}
use Rattle.ir_crew.proofs.CallerLemmas.{step_of_deed}
use Rattle.ir_crew.specs.declared.deed.Deed.TheVariants.{Enter}
use Rattle.ir_log.specs.declared.event.Event.TheVariants as event
use Rattle.ir_runs.specs.declared.access.Access.TheVariants.{Reading}
use Rattle.ir_thread.specs.declared.ask.Ask.TheVariants as ask
use Rattle.ir_record.proofs.WorkerSteps.{still_works_after_step, below_enter, enter_room, enter_few, outside, reply_lowers_own_left}
use Rattle.ir_record.proofs.by_threads.worker.Worker.enter_read.Goals as goal

pub enter_read-version-requires-clause-object : goal.enter_read-version-requires-clause-object
enter_read-version-requires-clause-object g c = below_enter c.requires.worker c.requires.asked

pub enter_read-version-requires-clause-outside : goal.enter_read-version-requires-clause-outside
enter_read-version-requires-clause-outside g c = outside c.requires.worker c.requires.asked

pub enter_read-version-requires-clause-room : goal.enter_read-version-requires-clause-room
enter_read-version-requires-clause-room g c = enter_few c.requires.worker c.requires.asked

pub push-requires : goal.push-requires
push-requires g c = enter_room c.requires.worker c.requires.asked

pub returns-clause-stays : goal.returns-clause-stays
returns-clause-stays g c =
    let version = c.enter_read-version.result in
    record {
      seat = c.enter_read-version.ensures.seat.0;
      still = still_works_after_step c.requires.worker.same_code (ask.Enter c.args.object Reading) 0 (Some (step_of_deed c.args.object (Enter Reading version 0)))
          (Some (event.Read c.args.object version))
          refl refl ((below_enter c.requires.worker c.requires.asked, search rules), tt)
          c.requires.asked c.enter_read-version.ensures.entered c.take_asked.ensures c.push.ensures refl;
    }

pub returns-clause-fewer : goal.returns-clause-fewer
returns-clause-fewer g c = reply_lowers_own_left _ _ _ c.requires.asked (λ done. absurd cc) c.take_asked.ensures
