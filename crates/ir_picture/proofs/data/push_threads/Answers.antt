use Rattle.std.proofs.Common.{◌++◌, ◌∙◌, List, ap}
use Rattle.std.specs.String.{string_bytes}
use Rattle.ir_trace.specs.Recorded.{RecordedThread}
use Rattle.ir_picture.specs.Numbers.{thread_rows}
use Rattle.ir_picture.proofs.Texts.{append_assoc_3}
use Rattle.ir_picture.proofs.data.push_threads.Goals as goal

pub returns : goal.returns
returns c = append_assoc_3 (string_bytes c.args.text.now) _ (thread_rows 0 c.args.trace.now.threads c.args.ends.now) _ (string_bytes c.push_str.new.self)
    (string_bytes c.push_thread_rows.new.text) _ c.in_ok-push_str.ensures.bytes
    (c.in_ok-push_thread_rows.ensures
    ∙ ap (λ (ts : List RecordedThread). string_bytes c.push_str.new.self ++ thread_rows 0 ts c.args.ends.now) c.threads.ensures.value)
    c.in_ok-push_str-2.ensures.bytes
