use Rattle.std.proofs.Common.{◌≡◌, ◌<◌, ◌≤◌, suc, length, Some, inl, inr, ◌∙◌, subst, arith}
use Rattle.std.specs.Prelude.{slice_get}
use Rattle.std.specs.List.{slice_index_or}
use Rattle.std.proofs.lemmas.Option.{slice_get-get_or}
use Rattle.ir_search.specs.Origins.{first_origin, BeginsAt}
use Rattle.ir_search.proofs.CallerLemmas.{slice_get_some_below}
use Rattle.ir_state_store.specs.Nodes.{SourcedFlat}
use Rattle.ir_graph.specs.Setup.{setup_start}
use Rattle.ir_graph.specs.Standing.{NeedsSwitches}
use Rattle.ir_graph.proofs.CallerLemmas.{needs_level_switches}
use Rattle.ir_outcomes.proofs.Listed.{all_outcomes}
use Rattle.ir_outcomes.proofs.exploring.Exploring.end.Goals as goal

pub returns-clause-explored : goal.returns-clause-explored
returns-clause-explored c =
    let e = c.args.self in
    let is = c.requires.is in
    let s = e.states in
    let level = s.search.level in
    record {
      explored = is.explored;
      nodes = is.search.graph.nodes;
      reached = is.search.graph.reached;
      found = λ done. (c.ending-ended.ensures.finished done).2.found;
      all = λ done.
          let f = c.ending-ended.ensures.finished done in
          let going = is.going f.0 in
          let over = f.1 in
          let until = going.between.until in
          let some = slice_get_some_below s.search.found.nodes.items 0 first_origin going.between.has.first in
          let later : 0 < level.first = omega (arith, over, until, some) in
          all_outcomes s.graph.setup s.graph.flats.items s.search.found.nodes.items level.number e.list.seen e.list.listed.items e.list.outcomes.items
          (going.searched later) going.few going.has (going.seen later) f.2.all f.2.nodes;
      hangs = c.ending-ended.ensures.hangs;
      unknown = c.ending-ended.ensures.unknown;
      timed = is.search.times.has;
      untimed = λ done has. (c.ending-ended.ensures.finished done).2.timed.1 has;
      covered = λ done.
          let f = c.ending-ended.ensures.covered done in
          let more = f.1 in
          let most = is.wanted in
          elim (c.requires.over f.0) [
            | inl over ↦ absurd (omega (arith, over, more))
            | inr all ↦ (is.going f.0).levels ∙ omega (arith, all, most)
          ];
      left = λ done.
          let f = c.ending-ended.ensures.covered done in
          let more = f.1 in
          let most = is.wanted in
          elim (c.requires.over f.0) [
            | inl over ↦ absurd (omega (arith, over, more))
            | inr all ↦
                let number : level.number ≡ suc e.most = omega (arith, all, most) in
                let going = is.going f.0 in
                let v = level.first in
                let flats = s.graph.flats.items in
                let n = subst (λ k. BeginsAt s.search.found.nodes.items k v) number (going.between.stands v (omega arith) more) in
                let low : n.0.level ≤ level.number = (let a = n.2 in omega (arith, a, number)) in
                let later : 0 < v = (let a = going.between.number in omega (arith, a, number)) in
                let less : v < length flats = (let a = going.between.until in let b = going.between.all in omega (arith, more, a, b)) in
                let u : SourcedFlat = slice_index_or flats v (setup_start s.graph.setup) in
                let at : slice_get flats v ≡ Some u = slice_get-get_or flats v (setup_start s.graph.setup) less in (
                  v,
                  u,
                  at,
                  subst (NeedsSwitches s.graph.setup u) n.2
                      (needs_level_switches s.graph.setup flats s.search.found.nodes.items level.number (going.searched later) v u n.0 at n.1 low),
                )
          ];
      few = is.few;
      stopped = c.ending-ended.ensures.stopped;
    }
