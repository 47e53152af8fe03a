use Rattle.std.proofs.Common.{◌≤◌, ◌<◌, length, length-set, inl, inr, sym, ◌∙◌, subst, arith}
use Rattle.std.proofs.lemmas.Bool.{cases_lt}
use Rattle.ir_search.specs.Following.{IsWayFollowed, IsNodeOpen}
use Rattle.ir_search.proofs.Rows.{slice_get-rows, row_after_set_cases}
use Rattle.ir_search.proofs.Kept.{keeps_transitive, all_found_if_kept}
use Rattle.ir_search.proofs.Reached.{begins_at_if_nodes_kept}
use Rattle.ir_search.proofs.Opens.{followed_if_notes_kept}
use Rattle.ir_search.proofs.level.take_level.Goals as goal

pub take_turn-requires-clause-followed : goal.take_turn-requires-clause-followed
take_turn-requires-clause-followed g c =
    let l : c.loop-thread.thread < length c.loop-thread.opened =
    (let a = c.loop-thread-test.true in let b = c.loop-thread.auto.opened in omega (arith, a, b)) in
    c.loop-thread.invariant.followed.followed c.loop-thread.thread _ (slice_get-rows c.loop-thread.opened c.loop-thread.thread c.index-opened-thread.result l)

pub take_turn-requires-clause-row : goal.take_turn-requires-clause-row
take_turn-requires-clause-row g c =
    let l : c.loop-thread.thread < length c.loop-thread.opened =
    (let a = c.loop-thread-test.true in let b = c.loop-thread.auto.opened in omega (arith, a, b)) in
    c.loop-thread.invariant.followed.rows c.loop-thread.thread _ (slice_get-rows c.loop-thread.opened c.loop-thread.thread c.index-opened-thread.result l)

pub take_turn-requires-clause-all : goal.take_turn-requires-clause-all
take_turn-requires-clause-all g c =
    all_found_if_kept _ _ _ _ _ _ c.loop-thread.invariant.keeps c.loop-thread.invariant.nodes

pub returns-in_err-take_turn-clause-keeps : goal.returns-in_err-take_turn-clause-keeps
returns-in_err-take_turn-clause-keeps g c =
    keeps_transitive c.args.level.number (g.S.Successors.shape c.args.graph.now) (g.S.Successors.shape c.loop-thread.graph)
    (g.S.Successors.shape c.take_turn.new.graph) c.args.found.now.nodes.items c.loop-thread.found.nodes.items c.take_turn.new.found.nodes.items
    c.loop-thread.found.refusals.items c.take_turn.new.found.refusals.items c.loop-thread.invariant.keeps c.take_turn.ensures.keeps

pub loop-thread-preserved : goal.loop-thread-preserved
loop-thread-preserved g c =
    let l : c.loop-thread.thread < length c.loop-thread.opened =
    (let a = c.loop-thread-test.true in let b = c.loop-thread.auto.opened in omega (arith, a, b)) in
    let this = slice_get-rows c.loop-thread.opened c.loop-thread.thread c.index-opened-thread.result l in
    let longer : length c.loop-thread.found.nodes.items ≤ length c.take_turn.new.found.nodes.items = c.take_turn.ensures.keeps.adds.longer in record {
      followed = record {
        followed = λ t row e. elim (row_after_set_cases c.loop-thread.opened c.loop-thread.thread t c.take_turn.new.opened row l e) [
          | inl p ↦ subst (IsWayFollowed ((g.S.Successors.shape c.take_turn.new.graph).noted t)) p.1
              (subst (λ u. IsWayFollowed ((g.S.Successors.shape c.take_turn.new.graph).noted u) c.take_turn.new.opened.items) (sym p.0)
              c.in_ok-take_turn.ensures.row.followed)
          | inr n ↦ followed_if_notes_kept ((g.S.Successors.shape c.loop-thread.graph).noted t) ((g.S.Successors.shape c.take_turn.new.graph).noted t) row
              (c.take_turn.ensures.keeps.grows.kept t) (c.loop-thread.invariant.followed.followed t row n.1)
        ];
        rows = λ t row e. elim (row_after_set_cases c.loop-thread.opened c.loop-thread.thread t c.take_turn.new.opened row l e) [
          | inl p ↦ subst (λ r. length r ≤ length c.take_turn.new.found.nodes.items) p.1
              (let a = c.in_ok-take_turn.ensures.row.row in omega (arith, a))
          | inr n ↦ let a = c.loop-thread.invariant.followed.rows t row n.1 in omega (arith, a, longer)
        ];
      };
      before = λ t row few e v low less. elim (row_after_set_cases c.loop-thread.opened c.loop-thread.thread t c.take_turn.new.opened row l e) [
        | inl p ↦ subst (λ r. IsNodeOpen r v) p.1 (c.take_turn.ensures.stays v
            (c.loop-thread.invariant.before c.loop-thread.thread _ (subst (λ z. z < length c.args.opened.now) p.0 few) this v low less))
        | inr n ↦ c.loop-thread.invariant.before t row few n.1 v low less
      ];
      opens = λ t row few e v low less. elim (row_after_set_cases c.loop-thread.opened c.loop-thread.thread t c.take_turn.new.opened row l e) [
        | inl p ↦ subst (λ r. IsNodeOpen r v) p.1 (elim (cases_lt v c.args.level.first) [
          | inl old ↦ c.take_turn.ensures.stays v
              (c.loop-thread.invariant.before c.loop-thread.thread _
              (let a = c.loop-thread.invariant.threads in omega (arith, a, l)) this v low old)
          | inr new ↦ c.in_ok-take_turn.ensures.opens v new less
        ])
        | inr n ↦ c.loop-thread.invariant.opens t row (let a = n.0 in omega (arith, a, few)) n.1 v low less
      ];
      threads = length-set c.loop-thread.opened c.loop-thread.thread c.take_turn.new.opened ∙ c.loop-thread.invariant.threads;
      nodes = c.in_ok-take_turn.ensures.nodes;
      until = let a = c.loop-thread.invariant.until in omega (arith, a, longer);
      level = λ v low less.
          begins_at_if_nodes_kept c.loop-thread.found.nodes.items c.take_turn.new.found.nodes.items c.take_turn.ensures.keeps.adds.stays c.args.level.number v
          (c.loop-thread.invariant.level v low less);
      keeps = keeps_transitive c.args.level.number (g.S.Successors.shape c.args.graph.now) (g.S.Successors.shape c.loop-thread.graph)
          (g.S.Successors.shape c.take_turn.new.graph) c.args.found.now.nodes.items c.loop-thread.found.nodes.items c.take_turn.new.found.nodes.items
          c.loop-thread.found.refusals.items c.take_turn.new.found.refusals.items c.loop-thread.invariant.keeps c.take_turn.ensures.keeps;
    }
