use Rattle.ir_hunt.proofs.search.try_stretch.Goals as goal

pub gathered-requires-clause-tried : goal.gathered-requires-clause-tried
gathered-requires-clause-tried g c = c.seek_all.ensures.tried c.args.own.now c.requires.tries

pub returns-then-has_failed-clause-tries : goal.returns-then-has_failed-clause-tries
returns-then-has_failed-clause-tries g c = c.seek_all.ensures.tries c.args.own.now c.requires.tries

pub returns-in_err-part-clause-tries : goal.returns-in_err-part-clause-tries
returns-in_err-part-clause-tries g c = c.seek_all.ensures.tries c.args.own.now c.requires.tries

pub returns-clause-tries : goal.returns-clause-tries
returns-clause-tries g c = c.seek_all.ensures.tries c.args.own.now c.requires.tries
