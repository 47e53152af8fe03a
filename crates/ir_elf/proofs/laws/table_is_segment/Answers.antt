use Rattle.ir_elf.proofs.Whole.{table_segment_encoding}
use Rattle.ir_elf.proofs.laws.table_is_segment.Goals as goal

pub returns : goal.returns
returns c = table_segment_encoding
