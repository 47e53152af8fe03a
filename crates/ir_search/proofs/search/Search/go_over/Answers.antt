use Rattle.std.proofs.Common.{◌≡◌, ◌+◌, length, refl, sym, ap, ◌∙◌, subst}
use Rattle.std.proofs.lemmas.List.{with_items_is}
use Rattle.ir_search.specs.declared.origin.Level.{Level}
use Rattle.ir_search.specs.Levels.{rows, AllOpen}
use Rattle.ir_search.specs.Searching.{HasGone, IsBetween}
use Rattle.ir_search.proofs.Between.{has_part, between_more}
use Rattle.ir_search.proofs.Rows.{length_of_rows}
use Rattle.ir_search.proofs.search.Search.go_over.Goals as goal

pub returns-in_err-take_level-clause-has : goal.returns-in_err-take_level-clause-has
returns-in_err-take_level-clause-has g c =
    let noted = (g.S.Successors.shape c.args.graph.now).noted in
    let more = (g.S.Successors.shape c.take_level.new.graph).noted in
    let v = c.args.self.now.opened in
    let new = c.take_level.new.found.nodes.items in
    let level = c.args.self.now.level in
    let size = (g.S.Successors.shape c.take_level.new.graph).size in
    let same = with_items_is v c.take_level.new.opened (c.take_level.ensures.threads ∙ ap length c.deref_mut.ensures.value ∙ sym v.ok.0) in
    let many : length (rows c.take_level.new.opened) ≡ length (rows v.items) =
    length_of_rows c.take_level.new.opened ∙ c.take_level.ensures.threads ∙ ap length c.deref_mut.ensures.value ∙ sym (length_of_rows v.items) in
    subst (λ z. HasGone more (length (rows z)) size new c.take_level.new.found.refusals.items level.number) (sym same)
    (has_part noted more (g.S.Successors.shape c.args.graph.now).size c.args.self.now.found.nodes.items new c.args.self.now.found.refusals.items
    c.take_level.new.found.refusals.items (rows v.items) level c.requires.between
    c.take_level.ensures.keeps.grows.kept c.take_level.ensures.keeps.adds c.take_level.ensures.keeps.reached (length (rows c.take_level.new.opened)) size many
    c.take_level.ensures.keeps.few)

pub returns-clause-has : goal.returns-clause-has
returns-clause-has g c =
    let noted = (g.S.Successors.shape c.args.graph.now).noted in
    let more = (g.S.Successors.shape c.take_level.new.graph).noted in
    let v = c.args.self.now.opened in
    let new = c.take_level.new.found.nodes.items in
    let level = c.args.self.now.level in
    let size = (g.S.Successors.shape c.take_level.new.graph).size in
    let same = with_items_is v c.take_level.new.opened (c.take_level.ensures.threads ∙ ap length c.deref_mut.ensures.value ∙ sym v.ok.0) in
    let many : length (rows c.take_level.new.opened) ≡ length (rows v.items) =
    length_of_rows c.take_level.new.opened ∙ c.take_level.ensures.threads ∙ ap length c.deref_mut.ensures.value ∙ sym (length_of_rows v.items) in
    subst (λ z. HasGone more (length (rows z)) size new c.take_level.new.found.refusals.items level.number) (sym same)
    (has_part noted more (g.S.Successors.shape c.args.graph.now).size c.args.self.now.found.nodes.items new c.args.self.now.found.refusals.items
    c.take_level.new.found.refusals.items (rows v.items) level c.requires.between
    c.take_level.ensures.keeps.grows.kept c.take_level.ensures.keeps.adds c.take_level.ensures.keeps.reached (length (rows c.take_level.new.opened)) size many
    c.take_level.ensures.keeps.few)

pub returns-clause-between : goal.returns-clause-between
returns-clause-between g c =
    let noted = (g.S.Successors.shape c.args.graph.now).noted in
    let more = (g.S.Successors.shape c.take_level.new.graph).noted in
    let v = c.args.self.now.opened in
    let new = c.take_level.new.found.nodes.items in
    let level = c.args.self.now.level in
    let size = (g.S.Successors.shape c.take_level.new.graph).size in
    let same = with_items_is v c.take_level.new.opened (c.take_level.ensures.threads ∙ ap length c.deref_mut.ensures.value ∙ sym v.ok.0) in
    let wide : length c.deref_mut.result.now ≡ length (rows v.items) = ap length c.deref_mut.ensures.value ∙ sym (length_of_rows v.items) in
    let many : length (rows c.take_level.new.opened) ≡ length (rows v.items) =
    length_of_rows c.take_level.new.opened ∙ c.take_level.ensures.threads ∙ wide in
    let next : Level = record { number = level.number + 1; first = level.until; until = c.len.result } in
    subst (λ z. IsBetween more size new c.take_level.new.found.refusals.items (rows z) next) (sym same)
    (between_more noted more (g.S.Successors.shape c.args.graph.now).size c.args.self.now.found.nodes.items new
    c.args.self.now.found.refusals.items c.take_level.new.found.refusals.items (rows v.items) level c.requires.between
    c.take_level.ensures.keeps.grows.kept c.take_level.ensures.keeps.adds c.take_level.ensures.keeps.reached size (rows c.take_level.new.opened) next
    c.in_ok-take_level.ensures.rows.followed
    (subst (AllOpen (rows c.take_level.new.opened) 0 level.until) wide c.in_ok-take_level.ensures.opens) c.in_ok-take_level.ensures.rows.rows
    many c.in_ok-take_level.ensures.nodes refl refl (c.len.ensures ∙ c.take_level.new.found.nodes.ok.0) c.requires.more)
