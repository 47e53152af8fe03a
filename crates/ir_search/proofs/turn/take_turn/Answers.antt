use Rattle.std.proofs.Common.{◌≡◌, inl, inr, sym, ◌∙◌, subst, arith}
use Rattle.std.proofs.lemmas.Bool.{cases_lt}
use Rattle.ir_search.specs.Following.{IsNodeOpen}
use Rattle.ir_search.specs.Kept.{IsRowFollowed, SearchKeeps}
use Rattle.ir_search.proofs.Kept.{keeps_at_equal_level, keeps_transitive, all_found_if_kept}
use Rattle.ir_search.proofs.Reached.{begins_at_if_nodes_kept}
use Rattle.ir_search.proofs.turn.take_turn.Goals as goal

pub go_alone-requires-clause-row : goal.go_alone-requires-clause-row
go_alone-requires-clause-row g c =
    subst (λ t. IsRowFollowed ((g.S.Successors.shape c.loop-from.graph).noted t) c.loop-from.opened.items c.loop-from.found.nodes.items)
    (sym c.in_ok-start.ensures.thread) c.loop-from.invariant.row

pub go_alone-requires-clause-all : goal.go_alone-requires-clause-all
go_alone-requires-clause-all g c =
    all_found_if_kept _ _ _ _ _ _ c.loop-from.invariant.keeps c.loop-from.invariant.nodes

pub returns-in_err-go_alone-clause-keeps : goal.returns-in_err-go_alone-clause-keeps
returns-in_err-go_alone-clause-keeps g c =
    keeps_transitive c.args.level.number (g.S.Successors.shape c.args.graph.now) (g.S.Successors.shape c.loop-from.graph)
    (g.S.Successors.shape c.go_alone.new.graph) c.args.found.now.nodes.items c.loop-from.found.nodes.items c.go_alone.new.found.nodes.items
    c.loop-from.found.refusals.items c.go_alone.new.found.refusals.items c.loop-from.invariant.keeps
    (keeps_at_equal_level c.in_ok-start.start.level c.args.level.number _ _ c.loop-from.found.nodes.items c.go_alone.new.found.nodes.items
    c.go_alone.new.found.refusals.items c.in_ok-start.ensures.level c.go_alone.ensures.keeps)

pub loop-from-preserved : goal.loop-from-preserved
loop-from-preserved g c =
    let last = c.go_alone.new in
    let keeps : SearchKeeps c.args.level.number (g.S.Successors.shape c.loop-from.graph) (g.S.Successors.shape last.graph) (g.S.Successors.is_sound last.graph)
    c.loop-from.found.nodes.items last.found.nodes.items last.found.refusals.items =
    keeps_at_equal_level c.in_ok-start.start.level c.args.level.number _ _ c.loop-from.found.nodes.items last.found.nodes.items last.found.refusals.items
    c.in_ok-start.ensures.level c.go_alone.ensures.keeps in
    record {
      row = subst (λ t. IsRowFollowed ((g.S.Successors.shape last.graph).noted t) last.opened.items last.found.nodes.items) c.in_ok-start.ensures.thread
          c.in_ok-go_alone.ensures.row;
      opens = λ v low less. elim (cases_lt v c.loop-from.from) [
        | inl before ↦ c.go_alone.ensures.stays v (c.loop-from.invariant.opens v low before)
        | inr here ↦
            let same : c.loop-from.from ≡ v = omega (arith, less, here) in
            subst (IsNodeOpen last.opened.items) (c.in_ok-start.ensures.from ∙ same) c.in_ok-go_alone.ensures.opens
      ];
      stays = λ v o. c.go_alone.ensures.stays v (c.loop-from.invariant.stays v o);
      nodes = c.in_ok-go_alone.ensures.nodes;
      until = let a = c.loop-from.invariant.until in let b = keeps.adds.longer in omega (arith, a, b);
      level = λ v low less.
          begins_at_if_nodes_kept c.loop-from.found.nodes.items last.found.nodes.items keeps.adds.stays c.args.level.number v
          (c.loop-from.invariant.level v low less);
      keeps = keeps_transitive c.args.level.number (g.S.Successors.shape c.args.graph.now) (g.S.Successors.shape c.loop-from.graph)
          (g.S.Successors.shape last.graph) c.args.found.now.nodes.items c.loop-from.found.nodes.items last.found.nodes.items c.loop-from.found.refusals.items
          last.found.refusals.items c.loop-from.invariant.keeps keeps;
    }
