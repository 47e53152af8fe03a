-- What the turns of a round come to.
use Rattle.std.specs.Prelude.{◌≡◌, ◌≢◌, ℕ, List, length, min, Bool, true, false}
use Rattle.ir_flat.specs.Flat.{Flat, tables, machine}
use Rattle.ir_runs.specs.Run.{HasNone}
use Rattle.ir_record.specs.Ahead.{lead_of_thread}
use Rattle.ir_record.specs.declared.in_order.round_result.RoundResult.{RoundResult}
use Rattle.ir_record.specs.declared.in_order.round_result.Outcome.{Outcome}
use Rattle.ir_record.specs.declared.in_order.round_result.Outcome.TheVariants.{Spent, Stepped, Waited}

-- whether a thread had a step at its turn
abbrev pub has_moved : Outcome → Bool
has_moved Spent = true
has_moved Stepped = true
has_moved Waited = false

-- one more turn, after which its thread is lead steps ahead: this bounds the rounds that may follow, and a step after a thread
-- that had none leaves no such round
abbrev pub Noted : Outcome → ℕ → RoundResult → RoundResult → Type 0
Noted Spent lead_of_thread old new = (new.moved ≡ true) × (new.waited ≡ old.waited) × (new.free ≡ min old.free lead_of_thread)
Noted Stepped lead_of_thread old new = (new.moved ≡ true) × (new.waited ≡ old.waited) × (old.waited ≡ true → new.free ≡ 0)
    × (old.waited ≡ false → new.free ≡ min old.free lead_of_thread)
Noted Waited lead_of_thread old new = (new.moved ≡ old.moved) × (new.waited ≡ true) × (new.free ≡ old.free)

-- a turn of thread t: the other threads are as many steps ahead as before, only a step of its own changes the state, and if it waits, it has no step
pub record IsRoundTurn (outcome : Outcome) (t : ℕ) (old new : List ℕ) (f g : Flat) : Type 0 where
  pub code : g.code ≡ f.code
  pub threads : length g.threads ≡ length f.threads
  pub others : (u : ℕ) → u ≢ t → lead_of_thread new u ≡ lead_of_thread old u
  pub rests : outcome ≢ Stepped → tables g ≡ tables f
  pub waits : outcome ≡ Waited → HasNone (machine g) (tables g) t
