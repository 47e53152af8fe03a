use Rattle.std.proofs.Common.{[], sym, subst}
use Rattle.ir_record.specs.Recording.{turns_of_items}
use Rattle.ir_outcomes.specs.Again.{IsAgain, AreWaysBack}
use Rattle.ir_outcomes.proofs.Again.{start_again_no_turns}
use Rattle.ir_outcomes.proofs.rerun.run_again.Goals as goal

pub add_rests-requires : goal.add_rests-requires
add_rests-requires c =
    let setup = c.args.states.now.graph.setup in
    let first = c.in_ok-state.state in
    (c.in_ok-add_path.ensures.again setup
    (subst (λ z. IsAgain setup (turns_of_items z) [] first) (sym c.new-items.ensures.items)
    (subst (IsAgain setup [] []) (sym c.in_ok-state.ensures) (start_again_no_turns setup)))).again.each

pub returns : goal.returns
returns c =
    let setup = c.args.states.now.graph.setup in
    let first = c.in_ok-state.state in
    let by = c.in_ok-add_path.ensures.again setup
    (subst (λ z. IsAgain setup (turns_of_items z) [] first) (sym c.new-items.ensures.items)
    (subst (IsAgain setup [] []) (sym c.in_ok-state.ensures) (start_again_no_turns setup))) in
    record {
      ways = by.ways;
      back = subst (λ z. AreWaysBack z c.args.path.now by.ways) c.as_slice-table.ensures.value by.back;
      again = c.in_ok-add_rests.ensures.again setup by.ways by.again;
    }
