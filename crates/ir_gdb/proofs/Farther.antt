-- Cuts that are found from cuts: the least from a least, and the greatest from a greatest.
use Rattle.std.proofs.Common.{◌≡◌, ◌≤◌, ℕ, List, arith}
use Rattle.std.proofs.Math.Path.{fun_ext}
use Rattle.ir_runs.specs.Machine.{Machine}
use Rattle.ir_runs.specs.Run.{State, Step, Cut, IsCut, Consistent, IsLeast, IsGreatest}

module _ {T : Type 0} (m : Machine T) (s : State T) (run : List Step) where
  -- where a thread is, all are already
  pub own_cut_is_least : (p : Cut) (t : ℕ) → IsCut m s run p → Consistent m s run p → IsLeast m s run p t (p t) p
  own_cut_is_least p t cut consistent = record {
    cut = cut;
    consistent = consistent;
    above = λ u. omega arith;
    reaches = omega arith;
    least = λ c is con above there u. above u;
  }

  pub own_cut_is_greatest : (p : Cut) (t : ℕ) → IsCut m s run p → Consistent m s run p → IsGreatest m s run p t (p t) p
  own_cut_is_greatest p t cut consistent = record {
    cut = cut;
    consistent = consistent;
    below = λ u. omega arith;
    reaches = omega arith;
    greatest = λ c is con below there u. below u;
  }

  pub least_from_least : (p q r : Cut) (t k l : ℕ) → k ≤ l → IsLeast m s run p t k q → IsLeast m s run q t l r → IsLeast m s run p t l r
  least_from_least p q r t k l low first second = record {
    cut = second.cut;
    consistent = second.consistent;
    above = λ u. let a = first.above u in let b = second.above u in omega (arith, a, b);
    reaches = second.reaches;
    least = λ c is con above there u. second.least c is con (λ v. first.least c is con above (omega (arith, low, there)) v) there u;
  }

  pub greatest_from_greatest : (p q r : Cut) (t k l : ℕ) → l ≤ k → IsGreatest m s run p t k q → IsGreatest m s run q t l r → IsGreatest m s run p t l r
  greatest_from_greatest p q r t k l low first second = record {
    cut = second.cut;
    consistent = second.consistent;
    below = λ u. let a = first.below u in let b = second.below u in omega (arith, a, b);
    reaches = second.reaches;
    greatest = λ c is con below there u. second.greatest c is con (λ v. first.greatest c is con below (omega (arith, low, there)) v) there u;
  }

  -- there is one such cut
  pub one_least_cut : (p q r : Cut) (t k : ℕ) → IsLeast m s run p t k q → IsLeast m s run p t k r → q ≡ r
  one_least_cut p q r t k first second = fun_ext (λ u.
      let a = first.least r second.cut second.consistent second.above second.reaches u in
      let b = second.least q first.cut first.consistent first.above first.reaches u in
      omega (arith, a, b))

  pub one_greatest_cut : (p q r : Cut) (t k : ℕ) → IsGreatest m s run p t k q → IsGreatest m s run p t k r → q ≡ r
  one_greatest_cut p q r t k first second = fun_ext (λ u.
      let a = first.greatest r second.cut second.consistent second.below second.reaches u in
      let b = second.greatest q first.cut first.consistent first.below first.reaches u in
      omega (arith, a, b))
