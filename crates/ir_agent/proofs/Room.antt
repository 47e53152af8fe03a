-- Room for numbers that were taken off the stack.
use Rattle.std.proofs.Common.{◌≡◌, ◌<◌, ℕ, suc, List, ◌∷◌, length, ap, arith}
use Rattle.ir_agent.specs.Evaluation.{most_stack}

-- in the place of the second that was taken
pub room_for_another : (one two put : List ℕ) (a b : ℕ) → length one < most_stack → one ≡ a ∷ two → put ≡ b ∷ two → length put < most_stack
room_for_another one two put a b room taken is =
    let first : length one ≡ suc (length two) = ap length taken in
    let second : length put ≡ suc (length two) = ap length is in
    omega (arith, room, first, second)

-- of the third
pub room_for_a_third : (one two three put more : List ℕ) (a b c d : ℕ) → length one < most_stack → one ≡ b ∷ two → two ≡ a ∷ three → put ≡ c ∷ three
    → more ≡ d ∷ put → length more < most_stack
room_for_a_third one two three put more a b c d room taken second is again =
    let first : length one ≡ suc (length two) = ap length taken in
    let next : length two ≡ suc (length three) = ap length second in
    let third : length put ≡ suc (length three) = ap length is in
    let last : length more ≡ suc (length put) = ap length again in
    omega (arith, room, first, next, third, last)
