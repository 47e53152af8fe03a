use Rattle.std.proofs.Common.{◌<◌, ◌∙◌, None, refl, arith, get_or}
use Rattle.std.specs.List.{slice_index_or}
use Rattle.std.proofs.lemmas.Option.{slice_get_within, slice_get-get_or}
use Rattle.ir_who.specs.declared.version.Version.{Version}
use Rattle.ir_who_word.specs.Words.{unread}
use Rattle.ir_who_word.proofs.Begun.{start_has_first_words, first_version_worded, no_versions_first_worded, are_first_worded_step}
use Rattle.ir_who_word.proofs.start.first_words.Goals as goal

pub loop-row-init : goal.loop-row-init
loop-row-init c = no_versions_first_worded c.args.guide.rows.now c.word_at-word.result c.new-words.result.items c.new-words.ensures.items

pub loop-row-preserved : goal.loop-row-preserved
loop-row-preserved c =
    let rows = c.args.guide.rows.now in
    let n = c.loop-row.row-index in
    let none : Version = record { made_by = None; readers = 0 } in
    are_first_worded_step rows n c.word_at-word.result c.loop-row.words.items c.push.new.self.items _ (get_or rows n none) c.loop-row.invariant
    (slice_get-get_or rows n none c.loop-row-test.true) c.in_ok-push.ensures.items refl

pub returns-clause-size : goal.returns-clause-size
returns-clause-size c =
    let a = c.loop-row.invariant.size in
    let b = c.loop-row-test.false in
    let d = c.loop-row.auto.row-index-end in
    omega (arith, a, b, d)

pub returns-clause-first : goal.returns-clause-first
returns-clause-first c r x there made =
    let f = c.args.guide.route.fitted.now in
    let w = c.args.guide.word in
    let l : r < c.loop-row.row-index = (let a = slice_get_within c.args.guide.rows.now r x there in let b = c.loop-row-test.false in omega (arith, a, b)) in
    first_version_worded f w x (slice_index_or c.loop-row.words.items r unread) c.word_at-word.result (c.loop-row.invariant.each r x l there)
    (c.word_at-word.ensures ∙ start_has_first_words f c.args.state.now c.requires.guide.route.last.run c.requires.start w.object w.index c.requires.guide.object) made
