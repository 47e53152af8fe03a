-- A step of one thread.
use Rattle.std.specs.Prelude.{◌≡◌, ℕ, Bool, true, false, length, ⊤}
use Rattle.ir_flat.specs.Flat.{Flat, tables, machine}
use Rattle.ir_record.specs.Refusing.{Tries}
use Rattle.ir_runs.specs.Run.{Can, after, HasNone}
use Rattle.ir_thread.specs.declared.ask.Ask as ask
use Rattle.ir_thread.specs.declared.ask.Ask.TheVariants as asks

-- g is f after one step of thread t with this result; a try in it is refused, or enters where it can
pub record MovedBy (refused : Bool) (t result : ℕ) (f g : Flat) : Type 0 where
  pub can : Can (machine f) (tables f) (t, result)
  pub tries : Tries (machine f) (tables f) refused (t, result)
  pub taken : tables g ≡ after (machine f) (tables f) (t, result)
  pub code : g.code ≡ f.code
  pub threads : length g.threads ≡ length f.threads
  pub objects : length g.objects ≡ length f.objects

-- what is asked is decided by no world and by no turn
abbrev pub IsOwnAsk : ask.Ask → Type 0
IsOwnAsk (asks.Env kind) = ⊥
IsOwnAsk (asks.Try object) = ⊥
IsOwnAsk _ = ⊤

-- a thread that asks so took its next step, or it has none and nothing is changed
abbrev pub GoesOn : Bool → ask.Ask → Bool → ℕ → Flat → Flat → Type 0
GoesOn true asked refused t f g = IsOwnAsk asked → MovedBy refused t 0 f g
GoesOn false asked refused t f g = (g ≡ f) × (IsOwnAsk asked → HasNone (machine f) (tables f) t)
