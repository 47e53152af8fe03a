use Rattle.std.proofs.Common.{◌≡◌, ◌∙◌, ◌++◌, length, replicate, ap, arith}
use Rattle.ir_record.specs.Recording.{turns_of_items}
use Rattle.ir_shrink.specs.Moments.{moment_of}
use Rattle.ir_shrink.proofs.Moves.{followed_item, followed_no_thread, none_after_no_turn, none_stays_after_no_turn}
use Rattle.ir_shrink.proofs.mover.Mover.follow_item.Goals as goal

pub returns-then-t-threads-clause-followed : goal.returns-then-t-threads-clause-followed
returns-then-t-threads-clause-followed g c = (followed_no_thread c.args.item.thread c.args.item.count c.args.item.refused
    (moment_of g.W.World.answers c.args.self.now)
    (let e : length c.threads.result.now ≡ length c.args.self.now.flat.threads = ap (λ xs. length xs) c.threads.ensures.value in
    omega (arith, e, c.if-t-threads.true))).0

pub returns-then-t-threads-clause-rest : goal.returns-then-t-threads-clause-rest
returns-then-t-threads-clause-rest g c = λ e some. (followed_no_thread c.args.item.thread c.args.item.count c.args.item.refused
    (moment_of g.W.World.answers c.args.self.now)
    (let e : length c.threads.result.now ≡ length c.args.self.now.flat.threads = ap (λ xs. length xs) c.threads.ensures.value in
    omega (arith, e, c.if-t-threads.true))).1

pub returns-then-t-threads-clause-still : goal.returns-then-t-threads-clause-still
returns-then-t-threads-clause-still g c = λ e t none. none

pub returns-clause-followed : goal.returns-clause-followed
returns-clause-followed g c = followed_item c.args.item.thread c.in_ok-count.count c.args.item.count c.args.item.refused
    (moment_of g.W.World.answers c.args.self.now) (moment_of g.W.World.answers c.turns.new.self) (turns_of_items c.note.new.items.items)
    c.in_ok-count.ensures.within c.in_ok-count.ensures.took c.in_ok-count.ensures.rest
    (c.in_ok-note.ensures.turns ∙ ap (λ z. turns_of_items z.items ++ replicate c.in_ok-count.count (c.args.item.thread, c.args.item.refused)) c.turns.ensures.items)

pub returns-clause-rest : goal.returns-clause-rest
returns-clause-rest g c = λ e some. none_after_no_turn c.args.item.thread c.in_ok-count.count c.args.item.count c.args.item.refused
    (moment_of g.W.World.answers c.args.self.now) (moment_of g.W.World.answers c.turns.new.self) e some c.in_ok-count.ensures.rest

pub returns-clause-still : goal.returns-clause-still
returns-clause-still g c = λ e t none. none_stays_after_no_turn c.args.item.thread c.in_ok-count.count t c.args.item.refused
    (moment_of g.W.World.answers c.args.self.now) (moment_of g.W.World.answers c.turns.new.self) e c.in_ok-count.ensures.took none
