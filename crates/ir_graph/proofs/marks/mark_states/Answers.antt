use Rattle.std.proofs.Common.{◌≡◌, ◌↔◌, ℕ, length, sym, ap, ◌∙◌, subst}
use Rattle.std.proofs.lemmas.List.{with_items_is}
use Rattle.ir_search.specs.Following.{IsNodeOpen}
use Rattle.ir_search.specs.Ways.{HasMarked}
use Rattle.ir_graph.specs.Hangs.{AreWays}
use Rattle.ir_graph.specs.Notes.{noted_by}
use Rattle.ir_graph.proofs.marks.mark_states.Goals as goal

pub returns : goal.returns
returns c =
    let v = c.in_ok-marks.marks in
    let rows = c.args.graph.now.rows.items in
    let noted = noted_by rows c.args.graph.now.refused_rows.items in
    let flats = c.args.graph.now.flats.items in
    let value = c.deref_mut.ensures.value in
    let many : length c.mark_ways.new.marks ≡ length v.items = c.mark_ways.ensures.nodes ∙ ap length value in
    let same = with_items_is v c.mark_ways.new.marks (many ∙ sym v.ok.0) in
    let nodes : length v.items ≡ length flats = c.in_ok-marks.ensures.nodes in
    let threads : c.len.result ≡ length rows = c.len.ensures ∙ c.args.graph.now.rows.ok.0 in
    let exact = subst (λ z. (x : ℕ) → IsNodeOpen c.mark_ways.new.marks x ↔ HasMarked noted c.len.result z x) value
    c.mark_ways.ensures.exact in
    subst (AreWays noted (length rows) flats) (sym same) (record {
      done = v.items;
      nodes = nodes;
      done_marked = c.in_ok-marks.ensures.done;
      marked_done = c.in_ok-marks.ensures.marked;
      all = many ∙ nodes;
      exact = subst (λ z. (x : ℕ) → IsNodeOpen c.mark_ways.new.marks x ↔ HasMarked noted z v.items x) threads exact;
    })
