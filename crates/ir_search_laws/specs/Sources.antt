-- Threads beside the sources that answer them.
use Rattle.std.specs.Prelude.{◌≡◌, ℕ, List, [], ◌∷◌}
use Rattle.ir_runs.specs.Machine.{Ask, Env, Machine, Label, Quiet, Answer, EnteredAt, FailedTry, LeftAt}
use Rattle.ir_runs.specs.declared.env_kind.EnvKind.{EnvKind}
use Rattle.ir_runs.specs.Run.{State}
use Rattle.ir_search_laws.specs.Counting.{AnswersCall}

-- what a source answers to a call of this kind, and what is left of it
abbrev pub Giving : Type 0 → Type 0
Giving S = EnvKind → S → ℕ × S

-- what a thread that asks so is answered by its source
abbrev pub answer_of : {S : Type 0} → Giving S → Ask → S → ℕ
answer_of given (Env k) source = (given k source).0
answer_of given _ source = 0

-- what is left of its source then
abbrev pub left_of_source : {S : Type 0} → Giving S → Ask → S → S
left_of_source given (Env k) source = (given k source).1
left_of_source given _ source = source

-- the thread's machine, with the thread's source beside it
abbrev pub sourced : {T S : Type 0} → Machine T → Giving S → Machine (T × S)
sourced m given = record {
  ask = λ x. m.ask x.0;
  take = λ x r. (m.take x.0 r, left_of_source given (m.ask x.0) x.1);
  held = λ x. m.held x.0;
  fits = m.fits;
  ended = λ x. m.ended x.0;
  size = λ x. m.size x.0;
}

-- each thread is answered by its own source
abbrev pub by_source : {T S : Type 0} → Machine T → Giving S → AnswersCall (T × S)
by_source m given t x = answer_of given (m.ask x.0) x.1

-- the threads alone
abbrev pub plain_source : {T S : Type 0} → State (T × S) → State T
plain_source s = record { now = λ t. (s.now t).0; objects = s.objects }

-- the calls of this log are answered by the source, in turn
abbrev pub Gives : {S : Type 0} → Giving S → S → List Label → Type 0
Gives given source [] = Unit {0}
Gives given source (Quiet ∷ es) = Gives given source es
Gives given source (Answer k v ∷ es) = (v ≡ (given k source).0) × Gives given (given k source).1 es
Gives given source (EnteredAt o a v l ∷ es) = Gives given source es
Gives given source (FailedTry o ∷ es) = Gives given source es
Gives given source (LeftAt o a v ∷ es) = Gives given source es
