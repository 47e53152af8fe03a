use Rattle.std.proofs.Common.{◌∙◌, sym}
use Rattle.ir_symbols.proofs.Names.{name_is_ok_as_text}
use Rattle.ir_symbols.proofs.symbol.Symbol.new.Goals as goal

pub unwrap-text-requires : goal.unwrap-text-requires
unwrap-text-requires c = name_is_ok_as_text c.from_utf8.result _ _ c.args.name.now (sym c.is_name.ensures ∙ c.if-not-is_name.false) c.from_utf8.ensures.cases
