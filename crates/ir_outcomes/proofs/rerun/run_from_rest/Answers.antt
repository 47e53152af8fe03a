use Rattle.std.proofs.Common.{◌≡◌, [], sym, ◌∙◌, subst, length}
use Rattle.ir_record.specs.Recording.{turns_of_items}
use Rattle.ir_state_store.specs.Nodes.{SourcedFlat}
use Rattle.ir_search.specs.Origins.{AreReached}
use Rattle.ir_graph.specs.Notes.{noted_by}
use Rattle.ir_graph.specs.Plain.{GoesPlain}
use Rattle.ir_outcomes.specs.Again.{IsAgain, AreWaysBack}
use Rattle.ir_outcomes.proofs.Again.{start_again_no_turns}
use Rattle.ir_outcomes.proofs.Along.{along_path_from_first_node}
use Rattle.ir_outcomes.proofs.rerun.run_from_rest.Goals as goal

pub add_rests-requires : goal.add_rests-requires
add_rests-requires c = subst (λ (z : SourcedFlat). length z.sources ≡ length z.flat.threads) (sym c.in_ok-first.ensures)
    (start_again_no_turns c.args.states.now.graph.setup).each

pub returns-in-Err-add_path-clause-fails : goal.returns-in-Err-add_path-clause-fails
returns-in-Err-add_path-clause-fails c = λ node leads.
    let graph = c.args.states.now.graph in
    let found = c.args.states.now.search.found in
    let s = c.add_rests.new.state in
    let goes = subst (λ z. GoesPlain z s) c.in_ok-first.ensures c.add_rests.ensures.goes in
    let table = c.as_slice-table.result.now in
    let reached = subst (λ z. AreReached (noted_by graph.rows.items graph.refused_rows.items) z found.nodes.items) (sym c.as_slice-table.ensures.value)
    c.requires.search.ways in
    c.in-Err-add_path.ensures.fails node (along_path_from_first_node graph.setup graph.flats.items (noted_by graph.rows.items graph.refused_rows.items)
    (length graph.rows.items) table found.nodes.items c.args.path.now node s c.requires.search.graph reached leads goes c.in_default.ensures.rest
    (goes.sources ∙ (start_again_no_turns graph.setup).each ∙ sym goes.threads))

pub returns-clause-again : goal.returns-clause-again
returns-clause-again c =
    let setup = c.args.states.now.graph.setup in
    let first = c.in_ok-first.first in
    let start = subst (λ z. IsAgain setup (turns_of_items z) [] first) (sym c.new-items.ensures.items)
    (subst (IsAgain setup [] []) (sym c.in_ok-first.ensures) (start_again_no_turns setup)) in
    let by = c.in_default-add_path.ensures.again setup (c.in_default.ensures.again setup [] start) in
    record {
      ways = by.ways;
      back = subst (λ z. AreWaysBack z c.args.path.now by.ways) c.as_slice-table.ensures.value by.back;
      again = by.again;
    }

pub returns-clause-stands : goal.returns-clause-stands
returns-clause-stands c = λ node leads.
    let graph = c.args.states.now.graph in
    let found = c.args.states.now.search.found in
    let s = c.add_rests.new.state in
    let goes = subst (λ z. GoesPlain z s) c.in_ok-first.ensures c.add_rests.ensures.goes in
    let table = c.as_slice-table.result.now in
    let reached = subst (λ z. AreReached (noted_by graph.rows.items graph.refused_rows.items) z found.nodes.items) (sym c.as_slice-table.ensures.value)
    c.requires.search.ways in
    c.in_default-add_path.ensures.arrives node (along_path_from_first_node graph.setup graph.flats.items (noted_by graph.rows.items graph.refused_rows.items)
    (length graph.rows.items) table found.nodes.items c.args.path.now node s c.requires.search.graph reached leads goes c.in_default.ensures.rest
    (goes.sources ∙ (start_again_no_turns graph.setup).each ∙ sym goes.threads))
