use Rattle.std.proofs.Common.{◌<◌, ◌+◌, length, rules}
use Rattle.ir_files.proofs.ReadFiles.{short_read_is_all}
use Rattle.ir_files.proofs.files.read_all.Goals as goal

pub returns-in-Ok-2-clause-all : goal.returns-in-Ok-2-clause-all
returns-in-Ok-2-clause-all g c =
    let short : length c.read_to_end.new.buf.items < c.args.most + 1 = search rules in
    short_read_is_all g.R.Read.remaining (c.args.most + 1) c.take.result c.args.reader c.new-bytes.result.items c.read_to_end.new.buf.items
    c.take.ensures.limit c.take.ensures.inner c.new-bytes.ensures.items short c.in-Ok-2.ensures.bytes
