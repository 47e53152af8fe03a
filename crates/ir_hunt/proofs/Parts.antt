-- Seeds that were tried, part after part.
use Rattle.std.proofs.Common.{◌≡◌, ◌≤◌, ◌<◌, ◌+◌, ◌-◌, ℕ, zero, suc, List, [], ◌∷◌, ◌++◌, inl, inr, sym, subst, ap, arith, refl, ◌∙◌}
use Rattle.std.specs.Prelude.{All, Option, Some, None, Result, Ok, Err, IfOk}
use Rattle.ir_hunt.specs.Hunt.{Hunt}
use Rattle.std.proofs.lemmas.List.Elements.{All-push}
use Rattle.ir_hunt.specs.Parts.{IsTried, IsBegun, IsPartOf, HasTried}
use Rattle.ir_hunt.specs.Tried.{Fails, AreTried, AreAllTried, IsLowestSeed, WereTried}
use Rattle.ir_hunt.specs.declared.part.Part.{Part}
use Rattle.ir_schedule.specs.declared.seeds.Seeds.{Seeds}

-- seeds that were tried, and those after them
tried_with_those_after : (h : Hunt) (first n m k a b c : ℕ) → k ≡ n + m → c ≡ a + b → AreTried h first n a → AreTried h (first + n) m b
    → AreTried h first k c
tried_with_those_after h first n zero k a b c many sum before after =
    let same : n ≡ k = omega (arith, many) in
    let count : a ≡ c = omega (arith, sum, after) in
    subst (λ z. AreTried h first z c) same (subst (AreTried h first n) count before)
tried_with_those_after h first n (suc m) zero a b c many sum before after = absurd (omega (arith, many))
tried_with_those_after h first n (suc m) (suc k) a b c many sum before (inl (fails, rest)) =
    let there : first + n + m ≡ first + k = omega (arith, many) in
    inl (subst (Fails h) there fails, tried_with_those_after h first n m k a b c (omega (arith, many)) sum before rest)
tried_with_those_after h first n (suc m) (suc k) a b c many sum before (inr (less, more, rest)) =
    inr (a + less, omega (arith, sum, more), tried_with_those_after h first n m k a less (a + less) (omega (arith, many)) refl before rest)

-- a seed more, whose run fails
pub tried_with_failing : (h : Hunt) (first seed a : ℕ) → first ≤ seed → AreTried h first (seed - first) a → Fails h seed
    → AreTried h first (seed + 1 - first) a
tried_with_failing h first seed a from before fails =
    let here : seed ≡ first + (seed - first) = omega (arith, from) in
    let more : suc (seed - first) ≡ seed + 1 - first = omega (arith, from) in
    subst (λ n. AreTried h first n a) more (inl (subst (Fails h) here fails, before))

-- a seed more, which is left out
pub tried_with_one_left_out : (h : Hunt) (first seed a : ℕ) → first ≤ seed → AreTried h first (seed - first) a
    → AreTried h first (seed + 1 - first) (a + 1)
tried_with_one_left_out h first seed a from before =
    let more : suc (seed - first) ≡ seed + 1 - first = omega (arith, from) in
    subst (λ n. AreTried h first n (a + 1)) more (inr (a, refl, before))

-- a part in which none is found, and the next
pub parts_are_a_part : (h : Hunt) (first last next end a b : ℕ) (list : Option (List ℕ)) → first ≤ last → next ≡ last + 1 → next ≤ end
    → WereTried h first last a None → WereTried h next end b list → WereTried h first end (a + b) list
parts_are_a_part h first last next end a b None some is more before after =
    let there : next ≡ first + (last + 1 - first) = omega (arith, some, is) in
    tried_with_those_after h first (last + 1 - first) (end + 1 - next) (end + 1 - first) a b (a + b) (omega (arith, some, is, more)) refl before
    (subst (λ n. AreTried h n (end + 1 - next) b) there after)
parts_are_a_part h first last next end a b (Some list) some is more before after =
    let there : next ≡ first + (last + 1 - first) = omega (arith, some, is) in
    record {
      from = omega (arith, some, is, more);
      to = omega arith;
      found = after.found;
      lower = tried_with_those_after h first (last + 1 - first) (end - next) (end - first) a b (a + b) (omega (arith, some, is, more)) refl before
          (subst (λ n. AreTried h n (end - next) b) there after.lower);
    }

-- what a worker has tried, and a part more
pub has_tried_a_part_more : (h before after : Hunt) (parts : List Part) (hand : Seeds) (part : Part) → after ≡ before → HasTried h before parts
    → IsPartOf before hand part → HasTried h after (parts ++ part ∷ [])
has_tried_a_part_more h before after parts hand part same tried more = record {
  same = same ∙ tried.same;
  each = All-push (IsTried h) parts part tried.each (subst (λ z. IsTried z part) tried.same more.begun.tried);
}

-- what was tried first of these seeds, and then of the seeds after it
pub begun_with_more_after : (h now : Hunt) (seeds left : Seeds) (part next both : Part) → now ≡ h → IsBegun h seeds part → IsBegun now left next → left.last ≡ seeds.last
    → both.seeds.first ≡ part.seeds.first → both.seeds.last ≡ next.seeds.last
    → ((hunt : Hunt) → IsTried hunt part → IsTried hunt next → IsTried hunt both) → IsBegun h seeds both
begun_with_more_after h now seeds left part next both same before after end from to tried = record {
  tried = tried h before.tried (subst (λ z. IsTried z next) same after.tried);
  from = from ∙ before.from;
  within = let within = after.within in omega (arith, end, to, within);
}

-- a copy of what was tried first of these seeds
pub copy_is_begun : {E : Type 0} (h : Hunt) (seeds : Seeds) (part : Part) (r : Result Part E) → IfOk r (λ p. p.seeds ≡ part.seeds)
    → IfOk r (λ p. (hunt : Hunt) → IsTried hunt part → IsTried hunt p) → IsBegun h seeds part → IfOk r (λ p. IsBegun h seeds p)
copy_is_begun h seeds part (Ok p) same tried begun = record {
  tried = tried h begun.tried;
  from = ap (λ (s : Seeds). s.first) same ∙ begun.from;
  within = subst (λ (s : Seeds). s.last ≤ seeds.last) (sym same) begun.within;
}
copy_is_begun h seeds part (Err e) same tried begun = tt

-- no more seeds were left out than were tried
pub left_out_at_most_tried : (h : Hunt) (first n a : ℕ) → AreTried h first n a → a ≤ n
left_out_at_most_tried h first zero a tried = omega (arith, tried)
left_out_at_most_tried h first (suc n) a (inl (fails, rest)) = let few = left_out_at_most_tried h first n a rest in omega (arith, few)
left_out_at_most_tried h first (suc n) a (inr (before, more, rest)) = let few = left_out_at_most_tried h first n before rest in omega (arith, more, few)

-- the last seed of a part is found, and it is the lowest
pub last_of_part_is_lowest : (h : Hunt) (seeds : Seeds) (first last a : ℕ) (list : List ℕ) → first ≡ seeds.first → last ≤ seeds.last
    → WereTried h first last a (Some list) → IsLowestSeed h seeds.first seeds.last last a list
last_of_part_is_lowest h seeds first last a list from within part = record {
  from = subst (λ z. z ≤ last) from part.from;
  to = within;
  found = part.found;
  lower = subst (λ z. AreTried h z (last - z) a) from part.lower;
}

-- where no seed is found in a part, all of it were tried
pub seeds_of_part_are_tried : (h : Hunt) (seeds : Seeds) (first last a : ℕ) → first ≡ seeds.first → WereTried h first last a None
    → AreAllTried h seeds.first last a
seeds_of_part_are_tried h seeds first last a from part = subst (λ z. AreAllTried h z last a) from part

-- of no seeds all were tried
pub no_seeds_are_tried : (h : Hunt) (first last : ℕ) → last < first → AreAllTried h first last 0
no_seeds_are_tried h first last none =
    let few : 0 ≡ last + 1 - first = omega (arith, none) in subst (λ n. AreTried h first n 0) few refl

-- each worker is of the hunt, and so is each with one more
pub each_of_hunt_push : {W : Type 0} (workers more : List W) (w : W) (tries : W → Hunt) (h : Hunt) → All (λ x. tries x ≡ h) workers
    → more ≡ workers ++ w ∷ [] → tries w ≡ h → All (λ x. tries x ≡ h) more
each_of_hunt_push workers more w tries h each added one =
    subst (All (λ x. tries x ≡ h)) (sym added) (All-push (λ x. tries x ≡ h) workers w each one)
