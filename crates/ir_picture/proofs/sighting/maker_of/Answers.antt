use Rattle.ir_picture.proofs.Seen.{found_maker_is_maker, no_maker_if_none_found}
use Rattle.ir_picture.proofs.sighting.maker_of.Goals as goal

pub returns-clause-found : goal.returns-clause-found
returns-clause-found c = found_maker_is_maker c.args.trace.now c.args.here.thread c.args.here.event c.args.found.object c.args.found.version c.args.makers.now
    c.get.result c.requires.makes c.requires.new c.if-found-eq0.false c.get.ensures

pub returns-clause-none : goal.returns-clause-none
returns-clause-none c = no_maker_if_none_found c.args.trace.now c.args.here.thread c.args.here.event c.args.found.object c.args.found.version c.args.makers.now
    c.get.result c.requires.makes c.requires.new c.if-found-eq0.false c.get.ensures
