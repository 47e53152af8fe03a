use Rattle.std.proofs.Common.{codes, arith}
use Rattle.ir_gdb.proofs.Threads.{text_put_start, text_put_step}
use Rattle.ir_gdb.proofs.remote.Remote.thread_list.Goals as goal

pub threads-init : goal.threads-init
threads-init c =
    let len = c.put_text.ensures.len in
    let none = c.in_ok-list.ensures.len in
    let room = c.in_ok-list.ensures.capacity in
    let kept = c.put_text.ensures.capacity in
    record {
      text = text_put_start c.args.self.now.stub c.in_ok-list.list.items c.put_text.new.out.items
          (codes "<?xml version=\"1.0\"?><threads>") c.in_ok-list.ensures.items c.put_text.ensures.bytes;
      len = omega (arith, len, none);
      room = omega (arith, room, kept);
    }

pub threads-preserved : goal.threads-preserved
threads-preserved c =
    let len = c.put_thread.ensures.len in
    let kept = c.put_thread.ensures.capacity in
    let before = c.threads.invariant.len in
    let room = c.threads.invariant.room in
    record {
      text = text_put_step c.args.self.now.stub c.threads.thread c.threads.list.items c.put_thread.new.out.items
          (codes "<?xml version=\"1.0\"?><threads>") c.threads.invariant.text c.put_thread.ensures.bytes;
      len = omega (arith, len, before);
      room = omega (arith, room, kept);
    }
