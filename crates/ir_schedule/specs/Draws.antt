-- Numbers that a generator draws.
use Rattle.std.specs.Prelude.{ℕ, ◌*◌, ◌-◌, ◌/◌, ◌^◌}
use Rattle.rand_core.specs.Pcg32Seed.{pcg32_seed}
use Rattle.rand_pcg.specs.Lcg.{Lcg}
use Rattle.rand_pcg.specs.Pcg.{pcg32, pcg32_of_seed}

-- PCG32 started by the number that is as far below 2^64 - 1 as the seed is above 0. The random words of a guest's threads start by
-- small numbers, and an order of a small seed shares none of them
abbrev pub generator_of : ℕ → Lcg
generator_of seed = pcg32_of_seed (pcg32_seed 16 (2 ^ 64 - 1 - seed))

-- a number below n by the next word, and the generator after it
abbrev pub drawn : ℕ → Lcg → ℕ × Lcg
drawn n g = ((pcg32 g).0 * n / 2 ^ 32, (pcg32 g).1)
