use Rattle.std.proofs.Common.{◌∙◌, ◌++◌, ◌∷◌, [], ap, refl}
use Rattle.std.specs.String.{string_bytes}
use Rattle.ir_files.proofs.Given.{output_has_last}
use Rattle.ir_files.proofs.Standing.{output_more_is_given}
use Rattle.ir_files.proofs.output_files.OutputFilesOutputSink.put.Goals as goal

pub returns-in-Ok-clause-put : goal.returns-in-Ok-clause-put
returns-in-Ok-clause-put g c = output_has_last (λ p. p.now) string_bytes (λ o. (o.thread, g.D.Folder.known_closed o.file)) c.args.self.now.paths
    c.in-Some.paths c.args.self.now.each.items c.push_reserved.new.self.items (record { thread = c.args.thread; file = c.in-Ok.file }) c.args.thread
    c.in-Some-get.path.now c.in-Some.is c.in-Some-get.ensures.lookup.3.0 c.in-Some-get.ensures.lookup.1
    (c.push_reserved.ensures.items ∙ ap (λ z. z ++ record { thread = c.args.thread; file = c.in-Ok.file } ∷ []) c.reserve.ensures.items) refl
    (rw c.as_str-path.ensures.value at c.in-Ok.ensures.at)

pub returns-in-Ok-clause-taken : goal.returns-in-Ok-clause-taken
returns-in-Ok-clause-taken g c = output_more_is_given (λ p. p.now) string_bytes (g.D.Folder.knows c.args.self.now.folder.now)
    (λ o. (o.thread, g.D.Folder.known_closed o.file)) c.args.self.now.paths c.in-Some.paths c.args.self.now.each.items c.push_reserved.new.self.items
    (record { thread = c.args.thread; file = c.in-Ok.file }) c.args.thread c.in-Some-get.path.now c.args.bytes.now c.in-Some.is c.in-Some-get.ensures.lookup.3.0
    c.in-Some-get.ensures.lookup.1
    (c.push_reserved.ensures.items ∙ ap (λ z. z ++ record { thread = c.args.thread; file = c.in-Ok.file } ∷ []) c.reserve.ensures.items) refl
    (rw c.as_str-path.ensures.value at c.in-Ok.ensures.at) c.in-Ok.ensures.bytes
