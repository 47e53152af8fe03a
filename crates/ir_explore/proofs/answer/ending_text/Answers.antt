use Rattle.std.proofs.Common.{◌≡◌, ◌++◌, length, ◌∙◌}
use Rattle.std.specs.String.{string_bytes}
use Rattle.ir_explore.specs.Texts.{end_line}
use Rattle.ir_explore.proofs.answer.ending_text.Goals as goal

pub returns : goal.returns
returns c =
    let explored = c.args.explored.now in
    let ending : end_line explored.ended explored.levels (length c.as_slice-outcomes.result.now) c.len.result explored.hangs explored.states.graph.timed
    ≡ end_line explored.ended explored.levels (length explored.outcomes.items) (length explored.states.graph.flats.items) explored.hangs explored.states.graph.timed =
    λ i. end_line explored.ended explored.levels (length (c.as_slice-outcomes.ensures.value i)) (c.len.ensures i) explored.hangs explored.states.graph.timed in
    record {
      hang_lines = string_bytes c.in_ok-hang.hang;
      hang_text = c.in_ok-hang.ensures;
      whole = c.in_ok-extend_from_slice.ensures.items
          ∙ (λ i. (c.in_ok-text.ensures.items ∙ c.as_bytes.ensures.value) i ++ (c.as_bytes-2.ensures.value ∙ c.in_ok-line.ensures ∙ ending) i);
      status = c.status_of.ensures;
    }
