-- Logs, and what sources gave.
use Rattle.std.proofs.Common.{ℕ, ◌<◌, true, List, [], ◌∷◌, length, refl, subst, arith}
use Rattle.std.proofs.lemmas.List.FromFn.{get_or-map-range_with_len}
use Rattle.ir_runs.specs.Machine.{Label, Quiet, Answer, EnteredAt, FailedTry, LeftAt}
use Rattle.ir_record.specs.Worlds.{answers_in}
use Rattle.ir_world.specs.Sources.{Source, source, given, Gave, IsAnsweredFrom, origin_of, seed_of}
use Rattle.ir_search_laws.specs.Sources.{Gives}
use Rattle.ir_state_store.specs.Table.{no_source}
use Rattle.ir_graph.specs.Setup.{Setup, first_source}

-- a source that answers the calls of a log, in turn, gave the log's answers
source_gave_answers : (s : Source) (log : List Label) → Gives given s log → (left : Source) × Gave s (answers_in log) left
source_gave_answers s [] all = (s, refl)
source_gave_answers s (Quiet ∷ log) all = source_gave_answers s log all
source_gave_answers s (Answer kind value ∷ log) all =
    let rest = source_gave_answers (given kind s).1 log all.1 in
    (rest.0, (all.0, rest.1))
source_gave_answers s (EnteredAt o a v l ∷ log) all = source_gave_answers s log all
source_gave_answers s (FailedTry o ∷ log) all = source_gave_answers s log all
source_gave_answers s (LeftAt o a v ∷ log) all = source_gave_answers s log all

-- so does the thread's world in a recording, where calls for the time are counted
pub log_answered_by_world : (setup : Setup) (t : ℕ) (log : List Label) → t < length setup.guest.entries → Gives given (first_source setup t) log
    → IsAnsweredFrom (origin_of true setup.random setup.input t) (answers_in log)
log_answered_by_world setup t log less gives =
    source_gave_answers (source (seed_of setup.random t) setup.input) log
    (subst (λ z. Gives given z log)
    (get_or-map-range_with_len (λ u. source (seed_of setup.random u) setup.input) 0 (length setup.guest.entries) t t no_source less (omega arith)) gives)
