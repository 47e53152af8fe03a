use Rattle.ir_isa.proofs.DecodedLaws.{decoder_result_agrees, decoder_result_is_ok}
use Rattle.ir_isa.proofs.decoder.decode.Goals as goal

pub returns-clause-only : goal.returns-clause-only
returns-clause-only c = decoder_result_is_ok c.args.word c.by_opcode.result c.by_opcode.ensures.found c.by_opcode.ensures.illegal

pub returns-clause-exact : goal.returns-clause-exact
returns-clause-exact c =
    decoder_result_agrees c.args.word c.by_opcode.result c.by_opcode.ensures.found
    (decoder_result_is_ok c.args.word c.by_opcode.result c.by_opcode.ensures.found c.by_opcode.ensures.illegal)
