-- Recordings in order that end because a world failed.
use Rattle.std.specs.Prelude.{◌≡◌, ◌<◌, ℕ, List, ◌∷◌, ◌++◌, length, Bool}
use Rattle.ir_thread.specs.State.{ask_of}
use Rattle.ir_thread.specs.State as thread
use Rattle.ir_thread.specs.declared.ask.Ask.TheVariants as ask
use Rattle.ir_runs.specs.Machine as machine
use Rattle.ir_runs.specs.declared.env_kind.EnvKind.{EnvKind}
use Rattle.ir_flat.specs.Flat.{thread_of, tables, machine}
use Rattle.ir_runs.specs.Run.{State, Step, asked, end, log}
use Rattle.ir_runs.specs.Orders.{InTurn}
use Rattle.ir_record.specs.Progress.{Progress}
use Rattle.ir_record.specs.Refusing.{Turn, InTurns}
use Rattle.ir_record.specs.Worlds.{answers_at, AnsweredCall, answers_in}

-- thread t asks its world, which fails: the thread that is named is t, and no world has answered more
pub record IsUnanswered (t : ℕ) (p : Progress) (named : ℕ) (answers : List (List AnsweredCall)) : Type 0 where
  pub named_is : named ≡ t
  pub kind : EnvKind
  pub asks : ask_of p.flat.code (thread_of p.flat t) ≡ ask.Env kind
  pub no_more : answers ≡ p.answers

-- from s on the turns of the order were taken until the one of the thread that is named, which asks its world there. Each world
-- answered what it had answered in p, and then what the steps of these turns logged of it
pub record StoppedAt (order : List ℕ) (s : State thread.ThreadState) (p : Progress) (named : ℕ) (answers : List (List AnsweredCall)) : Type 0 where
  pub taken : List ℕ
  pub left : List ℕ
  pub so_far : order ≡ taken ++ named ∷ left
  pub run : List Step
  pub turns : InTurn (machine p.flat) s taken run
  pub kind : EnvKind
  pub asks : asked (machine p.flat) (end (machine p.flat) s run) named ≡ machine.Env kind
  pub worlds : length answers ≡ length p.flat.threads
  pub answered : (t : ℕ) → t < length p.flat.threads
      → answers_at answers t ≡ answers_at p.answers t ++ answers_in (log (machine p.flat) s run t)

-- the same of turns, in which tries may be refused, from p on
pub record StoppedTurns (turns : List Turn) (p : Progress) (named : ℕ) (answers : List (List AnsweredCall)) : Type 0 where
  pub taken : List Turn
  pub refused : Bool
  pub left : List Turn
  pub so_far : turns ≡ taken ++ (named, refused) ∷ left
  pub run : List Step
  pub in_turns : InTurns (machine p.flat) (tables p.flat) taken run
  pub kind : EnvKind
  pub asks : asked (machine p.flat) (end (machine p.flat) (tables p.flat) run) named ≡ machine.Env kind
  pub worlds : length answers ≡ length p.flat.threads
  pub answered : (t : ℕ) → t < length p.flat.threads
      → answers_at answers t ≡ answers_at p.answers t ++ answers_in (log (machine p.flat) (tables p.flat) run t)
