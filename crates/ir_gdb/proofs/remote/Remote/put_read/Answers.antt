use Rattle.std.proofs.Common.{ℕ, List, length, refl, ap, arith, inl, inr}
use Rattle.ir_packet.specs.declared.request.Request.TheVariants as request
use Rattle.ir_gdb.proofs.Answering.{on_ok_of_implied, on_err_of_implied}
use Rattle.ir_gdb.proofs.Replying.{unreplied_are_listed, supported_put, description_put, threads_put, reason_put, registers_put}
use Rattle.ir_gdb.proofs.Replying.{register_put, memory_put, move_put, restart_put, restart_at_put, lacks_if_nothing_put}
use Rattle.ir_gdb.proofs.Replying.{lacks_if_reading_fails, length-supported_text, length-description_text}
use Rattle.ir_gdb.proofs.remote.Remote.put_read.Goals as goal

pub put_text-requires : goal.put_text-requires
put_text-requires g c =
    let text = ap (λ (xs : List ℕ). length xs) c.supported.ensures in
    let short = length-supported_text in
    let room = c.requires.room in
    omega (arith, text, short, room)

pub put_piece-requires : goal.put_piece-requires
put_piece-requires g c =
    let text = ap (λ (xs : List ℕ). length xs) c.description.ensures in
    let short = length-description_text in
    let room = c.requires.room in
    omega (arith, text, short, room)

pub unreachable-requires : goal.unreachable-requires
unreachable-requires g c = unreplied_are_listed c.args.self.now.stub c.args.request c.requires.replies c.requires.reads c.in_default.not-Supported
    c.in_default.not-Description c.in_default.not-Threads c.in_default.not-Reason c.in_default.not-Registers c.in_default.not-Register
    c.in_default.not-Memory c.in_default.not-Move c.in_default.not-Restart c.in_default.not-RestartAt

pub returns-in-Supported-clause-ok : goal.returns-in-Supported-clause-ok
returns-in-Supported-clause-ok g c = supported_put c.args.self.now.stub c.args.request c.args.self.now.stub c.args.out.now.items
    c.put_text.new.out.items c.supported.result.now c.in-Supported.is refl c.supported.ensures c.put_text.ensures.bytes

pub returns-in-Description-clause-ok : goal.returns-in-Description-clause-ok
returns-in-Description-clause-ok g c = description_put c.args.self.now.stub c.args.request c.args.self.now.stub c.args.out.now.items
    c.put_piece.new.out.items c.description.result.now c.in-Description.from c.in-Description.most c.in-Description.is refl
    c.description.ensures c.put_piece.ensures.bytes

pub returns-in-Threads-clause-ok : goal.returns-in-Threads-clause-ok
returns-in-Threads-clause-ok g c = on_ok_of_implied c.threads.result _ _ (threads_put c.args.self.now.stub c.args.request c.args.self.now.stub
    c.args.out.now.items c.threads.new.out.items c.in-Threads.from c.in-Threads.most c.in-Threads.is refl) c.threads.ensures.ok

pub returns-in-Threads-clause-err : goal.returns-in-Threads-clause-err
returns-in-Threads-clause-err g c = on_err_of_implied c.threads.result _ _ (lacks_if_nothing_put c.args.self.now.stub c.args.request
    (request.Threads c.in-Threads.from c.in-Threads.most) c.args.self.now.stub c.args.out.now.items c.threads.new.out.items c.in-Threads.is refl
    (inl refl)) c.threads.ensures.err

pub returns-in-Reason-clause-ok : goal.returns-in-Reason-clause-ok
returns-in-Reason-clause-ok g c = on_ok_of_implied c.reason.result _ _ (reason_put c.args.self.now.stub c.args.request c.reason.new.self.stub
    c.args.out.now.items c.reason.new.out.items c.has_run.ensures c.reason.ensures.stub c.in-Reason.is) c.reason.ensures.ok

pub returns-in-Reason-clause-err : goal.returns-in-Reason-clause-err
returns-in-Reason-clause-err g c = lacks_if_reading_fails c.reason.result c.args.self.now.stub c.args.request request.Reason
    c.reason.new.self.stub c.args.out.now.items c.reason.new.out.items c.in-Reason.is refl c.reason.ensures.stub c.reason.ensures.lacks
    c.reason.ensures.err

pub returns-in-Registers-clause-ok : goal.returns-in-Registers-clause-ok
returns-in-Registers-clause-ok g c = on_ok_of_implied c.registers.result _ _ (registers_put c.args.self.now.stub c.args.request c.registers.new.self.stub
    c.args.out.now.items c.registers.new.out.items c.has_run.ensures c.registers.ensures.stub c.in-Registers.is) c.registers.ensures.ok

pub returns-in-Registers-clause-err : goal.returns-in-Registers-clause-err
returns-in-Registers-clause-err g c = lacks_if_reading_fails c.registers.result c.args.self.now.stub c.args.request request.Registers
    c.registers.new.self.stub c.args.out.now.items c.registers.new.out.items c.in-Registers.is refl c.registers.ensures.stub c.registers.ensures.lacks
    c.registers.ensures.err

pub returns-in-Register-clause-ok : goal.returns-in-Register-clause-ok
returns-in-Register-clause-ok g c = on_ok_of_implied c.register.result _ _ (register_put c.args.self.now.stub c.args.request c.register.new.self.stub
    c.args.out.now.items c.register.new.out.items c.has_run.ensures c.register.ensures.stub c.in-Register.number c.in-Register.is)
    c.register.ensures.ok

pub returns-in-Register-clause-err : goal.returns-in-Register-clause-err
returns-in-Register-clause-err g c = lacks_if_reading_fails c.register.result c.args.self.now.stub c.args.request (request.Register c.in-Register.number)
    c.register.new.self.stub c.args.out.now.items c.register.new.out.items c.in-Register.is refl c.register.ensures.stub c.register.ensures.lacks
    c.register.ensures.err

pub returns-in-Memory-clause-ok : goal.returns-in-Memory-clause-ok
returns-in-Memory-clause-ok g c = on_ok_of_implied c.memory.result _ _ (memory_put c.args.self.now.stub c.args.request c.memory.new.self.stub
    c.args.out.now.items c.memory.new.out.items c.has_run.ensures c.memory.ensures.stub c.in-Memory.address c.in-Memory.size c.in-Memory.is)
    c.memory.ensures.ok

pub returns-in-Memory-clause-err : goal.returns-in-Memory-clause-err
returns-in-Memory-clause-err g c = lacks_if_reading_fails c.memory.result c.args.self.now.stub c.args.request (request.Memory c.in-Memory.address c.in-Memory.size)
    c.memory.new.self.stub c.args.out.now.items c.memory.new.out.items c.in-Memory.is refl c.memory.ensures.stub c.memory.ensures.lacks
    c.memory.ensures.err

pub returns-in-Move-clause-ok : goal.returns-in-Move-clause-ok
returns-in-Move-clause-ok g c = on_ok_of_implied c.make_move.result _ _ (move_put c.args.self.now.stub c.args.request c.make_move.new.self.stub
    c.args.out.now.items c.make_move.new.out.items c.in-Move.motion c.in-Move.mover c.in-Move.is) c.make_move.ensures.ok

pub returns-in-Move-clause-err : goal.returns-in-Move-clause-err
returns-in-Move-clause-err g c = on_err_of_implied c.make_move.result _ _ (λ e. lacks_if_nothing_put c.args.self.now.stub c.args.request
    (request.Move c.in-Move.motion c.in-Move.mover) c.make_move.new.self.stub c.args.out.now.items c.make_move.new.out.items c.in-Move.is refl
    (inr e.0) e.1) c.make_move.ensures.err

pub returns-in-Restart-clause-ok : goal.returns-in-Restart-clause-ok
returns-in-Restart-clause-ok g c = on_ok_of_implied c.restart.result _ _ (restart_put c.args.self.now.stub c.args.request c.restart.new.self.stub
    c.args.out.now.items c.restart.new.out.items c.in-Restart.is) c.restart.ensures.ok

pub returns-in-Restart-clause-err : goal.returns-in-Restart-clause-err
returns-in-Restart-clause-err g c = on_err_of_implied c.restart.result _ _ (λ e. lacks_if_nothing_put c.args.self.now.stub c.args.request request.Restart
    c.restart.new.self.stub c.args.out.now.items c.restart.new.out.items c.in-Restart.is refl (inr e.0) e.1) c.restart.ensures.err

pub returns-in-RestartAt-clause-ok : goal.returns-in-RestartAt-clause-ok
returns-in-RestartAt-clause-ok g c = on_ok_of_implied c.restart-in-RestartAt.result _ _ (restart_at_put c.args.self.now.stub c.args.request
    c.restart-in-RestartAt.new.self.stub c.args.out.now.items c.restart-in-RestartAt.new.out.items c.in-RestartAt.number c.in-RestartAt.is)
    c.restart-in-RestartAt.ensures.ok

pub returns-in-RestartAt-clause-err : goal.returns-in-RestartAt-clause-err
returns-in-RestartAt-clause-err g c = on_err_of_implied c.restart-in-RestartAt.result _ _ (λ e. lacks_if_nothing_put c.args.self.now.stub c.args.request
    (request.RestartAt c.in-RestartAt.number) c.restart-in-RestartAt.new.self.stub c.args.out.now.items c.restart-in-RestartAt.new.out.items
    c.in-RestartAt.is refl (inr e.0) e.1) c.restart-in-RestartAt.ensures.err
