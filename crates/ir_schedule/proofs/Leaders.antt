-- The thread of the highest priority, and threads that fall.
use Rattle.std.proofs.Common.{◌≡◌, ◌<◌, ◌≤◌, ℕ, zero, suc, ◌+◌, List, [], ◌∷◌, length, drop, nat_lt, if◌then◌else◌, get_or, refl, sym, ap, ◌∙◌, arith}
use Rattle.std.specs.List.{Contains}
use Rattle.std.proofs.lemmas.Bool.{lt-ltb, le-ltb}
use Rattle.std.proofs.lemmas.List.{get_or_default}
use Rattle.ir_schedule.specs.Ranking.{priority, highest_rank}

-- the higher of two threads
abbrev pub higher : List ℕ → ℕ → ℕ → ℕ
higher ps t u = if nat_lt (priority ps t) (priority ps u) then u else t

highest_of_drop_step : (ps us : List ℕ) (i best : ℕ) → i < length us
    → highest_rank ps (drop i us) best ≡ highest_rank ps (drop (suc i) us) (higher ps best (get_or us i 0))
highest_of_drop_step ps [] i best l = absurd (omega arith)
highest_of_drop_step ps (u ∷ us) zero best l = refl
highest_of_drop_step ps (u ∷ us) (suc i) best l = highest_of_drop_step ps us i best (omega (arith, l))

-- one thread more is looked at
pub highest_rank_next : (ps us : List ℕ) (i best next : ℕ) → i < length us → next ≡ higher ps best (get_or us i 0)
    → highest_rank ps (drop (i + 1) us) next ≡ highest_rank ps (drop i us) best
highest_rank_next ps us i best next l e = ap (highest_rank ps (drop (i + 1) us)) e
    ∙ ap (λ n. highest_rank ps (drop n us) (higher ps best (get_or us i 0))) (let e : i + 1 ≡ suc i = omega arith in e)
    ∙ sym (highest_of_drop_step ps us i best l)

-- it is higher
pub higher_is_second : (ps : List ℕ) (t u next : ℕ) → priority ps t < priority ps u → next ≡ u → next ≡ higher ps t u
higher_is_second ps t u next l e = e ∙ sym (ap (λ b. if b then u else t) (lt-ltb (priority ps t) (priority ps u) l))

pub higher_is_first : (ps : List ℕ) (t u next : ℕ) → priority ps u ≤ priority ps t → next ≡ t → next ≡ higher ps t u
higher_is_first ps t u next l e = e ∙ sym (ap (λ b. if b then u else t) (le-ltb (priority ps t) (priority ps u) l))

-- an element
pub get_or_is_contained : (xs : List ℕ) (i x : ℕ) → i < length xs → x ≡ get_or xs i 0 → Contains xs x
get_or_is_contained xs i x l e = (i, l, get_or_default xs i x 0 l ∙ sym e)
