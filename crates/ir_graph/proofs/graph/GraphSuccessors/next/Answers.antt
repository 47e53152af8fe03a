use Rattle.std.proofs.Common.{◌≡◌, ◌⊎◌, ℕ, Bool, Some, length, sym, ap, ◌∙◌, subst}
use Rattle.std.proofs.lemmas.List.{with_items_is}
use Rattle.ir_graph.specs.Ahead.{AreTurns}
use Rattle.ir_graph.specs.Notes.{noted_by}
use Rattle.ir_graph.proofs.Grown.{graph_after_nodes, graph_after_both, is_graph_of_equal_rows, unnoted_thread_exists, node_code_is_guest_code}
use Rattle.ir_graph.proofs.Timed.{knows_times_nodes_added, knows_times_after_note, knows_times_equal_rows}
use Rattle.ir_graph.proofs.graph.GraphSuccessors.next.Goals as goal

pub successor-requires-clause-way : goal.successor-requires-clause-way
successor-requires-clause-way c =
    let g = c.args.self.now in record {
      node = c.requires.node;
      thread = λ f is.
          unnoted_thread_exists g.setup g.flats.items (noted_by g.rows.items g.refused_rows.items) (length g.rows.items) c.args.thread
          c.args.refused c.args.node c.args.node f c.requires.sound.0 (sym c.known.ensures ∙ c.in_default.is) is;
    }

pub successor-requires-clause-code : goal.successor-requires-clause-code
successor-requires-clause-code c = λ f is.
    let g = c.args.self.now in
    node_code_is_guest_code g.setup g.flats.items (noted_by g.rows.items g.refused_rows.items) (length g.rows.items) c.args.node f
    c.requires.sound.0 is
    ∙ sym c.code-code.ensures

pub successor-requires-clause-turns : goal.successor-requires-clause-turns
successor-requires-clause-turns c =
    subst (λ z. AreTurns z c.args.self.now.flats.shared c.args.self.now.ahead) (sym c.code-code.ensures) c.requires.sound.1

pub successor-requires-clause-store : goal.successor-requires-clause-store
successor-requires-clause-store c = c.requires.sound.2 ∙ sym c.code-code.ensures

pub returns-in_err-next-clause-sound : goal.returns-in_err-next-clause-sound
returns-in_err-next-clause-sound c =
    let g = c.args.self.now in
    let grown = c.successor.ensures in
    let known = knows_times_nodes_added g.setup g.flats.items c.successor.new.flats.items (noted_by g.rows.items g.refused_rows.items)
    (length g.rows.items) g.timed c.successor.new.timed c.requires.sound.0 c.requires.sound.3 grown.kept.adds.stay
    (grown.kept.has g.setup c.requires.sound.0.reached c.requires.sound.3.has) grown.kept.were in (
      graph_after_nodes g.setup g.flats.items c.successor.new.flats.items (noted_by g.rows.items g.refused_rows.items)
          (length g.rows.items) c.requires.sound.0 grown.kept.adds.stay grown.kept.adds.nodes (grown.kept.reached g.setup c.requires.sound.0.reached) grown.kept.adds.grown,
      subst (λ z. AreTurns z c.successor.new.flats.shared c.successor.new.ahead) c.code-code.ensures grown.turns,
      grown.store ∙ c.requires.sound.2,
      known,
    )

pub returns-in_err-note_way-clause-sound : goal.returns-in_err-note_way-clause-sound
returns-in_err-note_way-clause-sound c =
    let g = c.args.self.now in
    let flats = c.successor.new.flats.items in
    let grown = c.successor.ensures in
    let new = c.note_way.new.rows in
    let tries = c.note_way.new.refused_rows in
    let value = c.deref_mut.ensures.value in
    let values = c.deref_mut-2.ensures.value in
    let threads : length new ≡ length g.rows.items = c.note_way.ensures.threads ∙ ap length value in
    let many : length tries ≡ length g.refused_rows.items = c.note_way.ensures.refused_rows ∙ ap length values in
    let same = with_items_is g.rows new (threads ∙ sym g.rows.ok.0) in
    let also = with_items_is g.refused_rows tries (many ∙ sym g.refused_rows.ok.0) in
    let only = subst (λ z. (t : ℕ) (refused : Bool) (v : ℕ) → (noted_by new tries t refused v ≡ noted_by z g.refused_rows.items t refused v)
    ⊎ ((t ≡ c.args.thread) × (refused ≡ c.args.refused) × (v ≡ c.args.node) × (noted_by new tries t refused v ≡ Some c.in_ok-next.next))) value
    (subst (λ z. (t : ℕ) (refused : Bool) (v : ℕ) → (noted_by new tries t refused v ≡ noted_by c.deref_mut.result.now z t refused v)
    ⊎ ((t ≡ c.args.thread) × (refused ≡ c.args.refused) × (v ≡ c.args.node) × (noted_by new tries t refused v ≡ Some c.in_ok-next.next))) values
    c.note_way.ensures.only) in
    let noted = graph_after_both g.setup g.flats.items flats g.rows.items g.refused_rows.items new tries c.args.thread
    c.args.refused c.args.node c.in_ok-next.next c.requires.sound.0 grown.kept.adds.stay grown.kept.adds.nodes
    (grown.kept.reached g.setup c.requires.sound.0.reached) grown.kept.adds.grown only threads (sym c.known.ensures ∙ c.in_default.is)
    c.requires.node c.in_ok-next.ensures.next.within c.in_ok-next.ensures.next.leads in
    let known = knows_times_equal_rows g.setup flats c.successor.new.timed new tries same also
    (knows_times_after_note g.setup flats (noted_by g.rows.items g.refused_rows.items) (noted_by new tries) c.successor.new.timed c.args.thread c.args.refused
    c.args.node c.in_ok-next.next
    (knows_times_nodes_added g.setup g.flats.items flats (noted_by g.rows.items g.refused_rows.items) (length g.rows.items) g.timed
    c.successor.new.timed c.requires.sound.0 c.requires.sound.3 grown.kept.adds.stay
    (grown.kept.has g.setup c.requires.sound.0.reached c.requires.sound.3.has) grown.kept.were) only c.in_ok-next.ensures.next.tickless) in (
      is_graph_of_equal_rows g.setup flats new tries same also noted,
      subst (λ z. AreTurns z c.successor.new.flats.shared c.successor.new.ahead) c.code-code.ensures grown.turns,
      grown.store ∙ c.requires.sound.2,
      known,
    )

pub returns-clause-sound : goal.returns-clause-sound
returns-clause-sound c =
    let g = c.args.self.now in
    let flats = c.successor.new.flats.items in
    let grown = c.successor.ensures in
    let new = c.note_way.new.rows in
    let tries = c.note_way.new.refused_rows in
    let value = c.deref_mut.ensures.value in
    let values = c.deref_mut-2.ensures.value in
    let threads : length new ≡ length g.rows.items = c.note_way.ensures.threads ∙ ap length value in
    let many : length tries ≡ length g.refused_rows.items = c.note_way.ensures.refused_rows ∙ ap length values in
    let same = with_items_is g.rows new (threads ∙ sym g.rows.ok.0) in
    let also = with_items_is g.refused_rows tries (many ∙ sym g.refused_rows.ok.0) in
    let only = subst (λ z. (t : ℕ) (refused : Bool) (v : ℕ) → (noted_by new tries t refused v ≡ noted_by z g.refused_rows.items t refused v)
    ⊎ ((t ≡ c.args.thread) × (refused ≡ c.args.refused) × (v ≡ c.args.node) × (noted_by new tries t refused v ≡ Some c.in_ok-next.next))) value
    (subst (λ z. (t : ℕ) (refused : Bool) (v : ℕ) → (noted_by new tries t refused v ≡ noted_by c.deref_mut.result.now z t refused v)
    ⊎ ((t ≡ c.args.thread) × (refused ≡ c.args.refused) × (v ≡ c.args.node) × (noted_by new tries t refused v ≡ Some c.in_ok-next.next))) values
    c.note_way.ensures.only) in
    let noted = graph_after_both g.setup g.flats.items flats g.rows.items g.refused_rows.items new tries c.args.thread
    c.args.refused c.args.node c.in_ok-next.next c.requires.sound.0 grown.kept.adds.stay grown.kept.adds.nodes
    (grown.kept.reached g.setup c.requires.sound.0.reached) grown.kept.adds.grown only threads (sym c.known.ensures ∙ c.in_default.is)
    c.requires.node c.in_ok-next.ensures.next.within c.in_ok-next.ensures.next.leads in
    let known = knows_times_equal_rows g.setup flats c.successor.new.timed new tries same also
    (knows_times_after_note g.setup flats (noted_by g.rows.items g.refused_rows.items) (noted_by new tries) c.successor.new.timed c.args.thread c.args.refused
    c.args.node c.in_ok-next.next
    (knows_times_nodes_added g.setup g.flats.items flats (noted_by g.rows.items g.refused_rows.items) (length g.rows.items) g.timed
    c.successor.new.timed c.requires.sound.0 c.requires.sound.3 grown.kept.adds.stay
    (grown.kept.has g.setup c.requires.sound.0.reached c.requires.sound.3.has) grown.kept.were) only c.in_ok-next.ensures.next.tickless) in (
      is_graph_of_equal_rows g.setup flats new tries same also noted,
      subst (λ z. AreTurns z c.successor.new.flats.shared c.successor.new.ahead) c.code-code.ensures grown.turns,
      grown.store ∙ c.requires.sound.2,
      known,
    )
