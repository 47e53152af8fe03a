use Rattle.std.proofs.Common.{◌<◌, None, length, refl, arith}
use Rattle.std.specs.List.{slice_index_or}
use Rattle.std.proofs.lemmas.Result.{on_ok_weaker}
use Rattle.std.proofs.lemmas.Option.{slice_get-get_or}
use Rattle.ir_opened.specs.Positions.{IsInside}
use Rattle.ir_who.specs.declared.version.Version.{Version}
use Rattle.ir_who_word.proofs.Built.{built_after_own_version, all_built_track_set}
use Rattle.ir_who_word.proofs.Holding.{version_maker_is_write, write_entry_is_left}
use Rattle.ir_who.proofs.CallerLemmas.{version_maker_is_inside}
use Rattle.ir_who_word.proofs.tracks.add_row.Goals as goal

abbrev no_version : Version
no_version = record { made_by = None; readers = 0 }

pub hold_of-requires : goal.hold_of-requires
hold_of-requires c =
    let rows = c.args.guide.rows.now in
    version_maker_is_inside c.args.guide.route.fitted.now c.requires.guide.route.last.run c.args.guide.word.object rows c.requires.guide.versions c.args.row
    (slice_index_or rows c.args.row no_version) c.in-Some.place (slice_get-get_or rows c.args.row no_version c.requires.row) c.in-Some.is

pub bounds-tracks-place : goal.bounds-tracks-place
bounds-tracks-place c =
    let rows = c.args.guide.rows.now in
    let is = (version_maker_is_inside c.args.guide.route.fitted.now c.requires.guide.route.last.run c.args.guide.word.object rows c.requires.guide.versions c.args.row
    (slice_index_or rows c.args.row no_version) c.in-Some.place (slice_get-get_or rows c.args.row no_version c.requires.row) c.in-Some.is).thread in
    let size = c.requires.size in omega (arith, is, size)

pub add_hold-requires : goal.add_hold-requires
add_hold-requires c =
    let rows = c.args.guide.rows.now in
    let write = version_maker_is_write c.args.guide.route.fitted.now.recorded c.args.guide.word.object rows c.requires.guide.versions c.args.row
    (slice_index_or rows c.args.row no_version) c.in-Some.place (slice_get-get_or rows c.args.row no_version c.requires.row) c.in-Some.is in
    (c.in-Some-hold_of.ensures.hold c.args.guide.word.object write.0 write.1 write.2).past

pub returns-in-Some-hold_of-clause-built : goal.returns-in-Some-hold_of-clause-built
returns-in-Some-hold_of-clause-built c =
    let f = c.args.guide.route.fitted.now in
    let rows = c.args.guide.rows.now in
    let w = c.args.guide.word in
    let place = c.in-Some.place in
    let h = c.in-Some-hold_of.hold in
    let x : Version = slice_index_or rows c.args.row no_version in
    let there = slice_get-get_or rows c.args.row no_version c.requires.row in
    let inside : IsInside f place.thread place.event = version_maker_is_inside f c.requires.guide.route.last.run w.object rows c.requires.guide.versions c.args.row x place there c.in-Some.is in
    let write = version_maker_is_write f.recorded w.object rows c.requires.guide.versions c.args.row x place there c.in-Some.is in
    let hold = c.in-Some-hold_of.ensures.hold w.object write.0 write.1 write.2 in
    let l : place.thread < length c.args.tracks.now = (let a = inside.thread in let b = c.requires.size in omega (arith, a, b)) in
    let old = c.index-tracks-place.result in
    on_ok_weaker c.add_hold.result (λ added. all_built_track_set f rows w c.args.row place.thread c.args.tracks.now c.add_hold.new.track x place l c.requires.built there
    c.in-Some.is refl (built_after_own_version f rows w c.args.row place.thread _ c.add_hold.new.track x place h (c.requires.built place.thread old l) there c.in-Some.is refl
    c.in-Some-hold_of.ensures.row hold added)) c.add_hold.ensures

pub returns-in-None-clause-built : goal.returns-in-None-clause-built
returns-in-None-clause-built c =
    let rows = c.args.guide.rows.now in
    let f = c.args.guide.route.fitted.now in
    let write = version_maker_is_write f.recorded c.args.guide.word.object rows c.requires.guide.versions c.args.row
    (slice_index_or rows c.args.row no_version) c.in-Some.place (slice_get-get_or rows c.args.row no_version c.requires.row) c.in-Some.is in
    absurd (write_entry_is_left f c.requires.guide.route.last.run c.in-Some.place.thread c.in-Some.place.event c.args.guide.word.object write.0 write.1 write.2
    c.in-None.ensures.none)
