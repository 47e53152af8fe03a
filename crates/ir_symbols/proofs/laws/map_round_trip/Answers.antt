use Rattle.ir_symbols.proofs.RoundTrip.{symbols_from_map_text, table_of_map_text}
use Rattle.ir_symbols.proofs.laws.map_round_trip.Goals as goal

pub returns-clause-symbols : goal.returns-clause-symbols
returns-clause-symbols c = symbols_from_map_text 1

pub returns-clause-table : goal.returns-clause-table
returns-clause-table c = table_of_map_text
