use Rattle.std.proofs.Common.{◌≡◌, length, true, sym, ap, ◌∙◌, subst}
use Rattle.ir_world.specs.Sources.{made_with}
use Rattle.ir_world.proofs.CallerLemmas.{world_count_is_threads}
use Rattle.ir_schedule.specs.Choices.{CanChoose}
use Rattle.ir_schedule.specs.Moments.{moment_of}
use Rattle.ir_hunt.proofs.Seeking.{fresh_thread_count}
use Rattle.ir_hunt.proofs.seeker.Seeker.run.Given.{Over}
use Rattle.ir_hunt.proofs.seeker.Seeker.run.Goals as goal

-- after it was restarted, the guest has as many threads as its image
long : (g : Over) (c : goal.After-run-arg-2-1 g) → length c.restart.new.self.runner.flat.threads ≡ length c.args.self.now.image.now.entries
long g c = fresh_thread_count c.args.self.now.image.now c.args.self.now.plan.now.record (moment_of (λ w. w.answers.items) c.restart.new.self.runner)
    c.in_ok-restart.ensures.fresh

pub run-requires-clause-ready : goal.run-requires-clause-ready
run-requires-clause-ready g c =
    let s = c.restart.new.self in
    record {
      worlds = world_count_is_threads (λ w. made_with w.time w.seed w.file.now) s.runner.worlds.items true s.plan.now.record.random s.plan.now.record.input
          (length s.image.now.entries) s.origins
          ∙ ap (λ i. length i.now.entries) c.in_ok-restart.ensures.image ∙ sym (long g c);
      works = c.in_ok-restart.ensures.works;
    }

pub run-requires-clause-serves : goal.run-requires-clause-serves
run-requires-clause-serves g c = subst (λ n. CanChoose n c.args.chooser.now) (sym (long g c)) c.requires.serves
