use Rattle.std.proofs.Common.{◌∙◌}
use Rattle.ir_schedule.specs.Ranking.{first_priorities, after_words}
use Rattle.ir_schedule.proofs.Words.{first_priorities_step, after_words_next, drawn_priorities_whole, generator_after_words}
use Rattle.ir_schedule.proofs.ranking.priorities.Goals as goal

pub threads-preserved : goal.threads-preserved
threads-preserved c = record {
  priorities = first_priorities_step c.args.threads c.threads.counter c.next_word-word.result c.threads.random c.next_word-word.new.self
      c.threads.priorities.items c.push.new.self.items c.threads-test.true c.next_word-word.ensures c.in_ok-push.ensures.items
      ∙ c.threads.invariant.priorities;
  generator = after_words_next c.args.threads c.threads.counter c.next_word-word.result c.threads.random c.next_word-word.new.self c.threads-test.true
      c.next_word-word.ensures ∙ c.threads.invariant.generator;
}

pub returns-clause-value : goal.returns-clause-value
returns-clause-value c = drawn_priorities_whole c.args.threads c.threads.counter c.threads.random c.threads.priorities.items
    (first_priorities c.args.threads c.args.random.now) c.threads-test.false c.threads.invariant.priorities

pub returns-clause-generator : goal.returns-clause-generator
returns-clause-generator c = generator_after_words c.args.threads c.threads.counter c.threads.random (after_words c.args.threads c.args.random.now)
    c.threads-test.false c.threads.invariant.generator
