use Rattle.std.proofs.Common.{◌-◌, ◌<◌, None, suc, sym, ◌∙◌, subst}
use Rattle.ir_graph.specs.Setup.{Setup}
use Rattle.ir_outcomes.specs.Explored.{IsExplored}
use Rattle.ir_outcomes.specs.Exploring.{levels_left}
use Rattle.ir_thread.specs.State.{IsAllowed}
use Rattle.ir_outcomes.proofs.Steps.{fewer_levels_left}
use Rattle.ir_outcomes.proofs.explored.explore.Goals as goal

pub go_over-requires-clause-allowed : goal.go_over-requires-clause-allowed
go_over-requires-clause-allowed g c =
    subst (λ (z : Setup). IsAllowed z.profile z.guest) (sym c.levels.invariant.setup) c.requires.allowed

pub levels-preserved : goal.levels-preserved
levels-preserved g c = record {
  is = c.go_over.ensures.kept.is;
  setup = c.go_over.ensures.kept.setup ∙ c.levels.invariant.setup;
  bounds = c.go_over.ensures.kept.bounds ∙ c.levels.invariant.bounds;
  most = c.go_over.ensures.kept.most ∙ c.levels.invariant.most;
}

pub levels-smaller : goal.levels-smaller
levels-smaller g c =
    let old = c.levels.exploring in
    let new = c.go_over.new.self in
    let none = c.goes_on.ensures.stop c.levels-test.true in
    subst (λ z. levels_left new.stop (suc new.most - new.states.search.level.number) < levels_left z (suc old.most - old.states.search.level.number)) (sym none)
    (subst (λ m. levels_left new.stop (suc m - new.states.search.level.number) < levels_left None (suc old.most - old.states.search.level.number)) (sym c.go_over.ensures.kept.most)
    (fewer_levels_left new.stop old.states.search.level.number new.states.search.level.number old.most (c.goes_on.ensures.wanted c.levels-test.true)
    c.go_over.ensures.next))

pub end-requires-clause-allowed : goal.end-requires-clause-allowed
end-requires-clause-allowed g c =
    subst (λ (z : Setup). IsAllowed z.profile z.guest) (sym c.levels.invariant.setup) c.requires.allowed

pub returns-clause-explored : goal.returns-clause-explored
returns-clause-explored g c =
    let e = c.levels.exploring in
    let r = c.end.result in
    subst (λ z. IsExplored z c.args.bounds c.args.most r) c.levels.invariant.setup
    (subst (λ z. IsExplored e.states.graph.setup z c.args.most r) c.levels.invariant.bounds
    (subst (λ z. IsExplored e.states.graph.setup e.states.graph.bounds z r) c.levels.invariant.most c.end.ensures.explored))
