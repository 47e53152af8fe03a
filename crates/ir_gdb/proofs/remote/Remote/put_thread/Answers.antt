use Rattle.std.proofs.Common.{refl}
use Rattle.ir_gdb.proofs.Threads.{thread_text_by_parts}
use Rattle.ir_gdb.proofs.remote.Remote.put_thread.Goals as goal

pub returns-clause-bytes : goal.returns-clause-bytes
returns-clause-bytes c = thread_text_by_parts c.args.self.now.stub c.args.thread _ c.args.out.now.items c.put_text.new.out.items c.put_number.new.out.items
    c.put_place.new.out.items c.put_text-2.new.out.items refl c.put_text.ensures.bytes c.put_number.ensures.bytes c.put_place.ensures.bytes
    c.put_text-2.ensures.bytes
