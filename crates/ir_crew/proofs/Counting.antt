-- How many entries the threads have made.
use Rattle.std.proofs.Common.{◌≡◌, ◌≢◌, ℕ, zero, suc, ◌+◌, ◌*◌, ◌<◌, ◌≤◌, eqb, List, [], ◌∷◌, ◌++◌, refl, sym, ap, subst, arith, inl, inr, eq-eqb, ne_eqb}
use Rattle.std.proofs.lemmas.Bool.{cases_eq}
use Rattle.ir_image.specs.Guest.{most_threads}
use Rattle.ir_runs.specs.Machine.{Machine, Object}
use Rattle.ir_runs.specs.Run.{join_if}
use Rattle.ir_object.specs.Order.{Shared, of_thread, objects_then, IsLegal}
use Rattle.ir_crew.specs.Rule.{one_if_entry, entries}

pub entries_with_step_added : (xs : List Shared) (x : Shared) → entries (xs ++ x ∷ []) ≡ entries xs + one_if_entry x.0
entries_with_step_added [] x = omega arith
entries_with_step_added (y ∷ xs) x = let r = entries_with_step_added xs x in omega (arith, r)

-- the entries of all threads
abbrev pub all_entries : List (ℕ × Shared) → ℕ
all_entries [] = 0
all_entries (x ∷ xs) = one_if_entry x.1.0 + all_entries xs

-- the sum over the first n threads
abbrev pub total : ℕ → (ℕ → ℕ) → ℕ
total zero f = 0
total (suc n) f = total n f + f n

pub total_le_count_bound : (n k : ℕ) (f : ℕ → ℕ) → ((t : ℕ) → f t ≤ k) → n ≤ most_threads → total n f ≤ n * k
total_le_count_bound zero k f h l = omega arith
total_le_count_bound (suc n) k f h l = let r = total_le_count_bound n k f h (omega arith) in let e = h n in omega (arith, r, e)

total_of_zeros : (n : ℕ) → total n (λ t. 0) ≡ 0
total_of_zeros zero = refl
total_of_zeros (suc n) = let r = total_of_zeros n in omega (arith, r)

total_cong : (n : ℕ) (f g : ℕ → ℕ) → ((t : ℕ) → t < n → f t ≡ g t) → total n f ≡ total n g
total_cong zero f g h = refl
total_cong (suc n) f g h = let r = total_cong n f g (λ t lt. h t (omega arith)) in let s = h n (omega arith) in omega (arith, r, s)

-- where f is k more than g at u, and the same elsewhere
total_one_increased : (n u k : ℕ) (f g : ℕ → ℕ) → u < n → f u ≡ g u + k → ((t : ℕ) → t ≢ u → f t ≡ g t) → total n f ≡ total n g + k
total_one_increased zero u k f g lt here others = absurd (omega arith)
total_one_increased (suc n) u k f g lt here others = elim (cases_eq u n) [
  | inl is ↦ let r = total_cong n f g (λ t small. others t (λ e. omega (arith, e, small, is))) in let s : f n ≡ g n + k =
      subst (λ z. f z ≡ g z + k) is here in omega (arith, r, s)
  | inr ne ↦ let r = total_one_increased n u k f g (omega (arith, ne, lt)) here others in let s = others n (λ e. ne (sym e)) in omega (arith, r, s)
]

-- the entries are those of the threads
pub total_of_thread_entries : {T : Type 0} (m : Machine T) (n count : ℕ) (f : ℕ → Object) (xs : List (ℕ × Shared)) → IsLegal m n count f xs
    → total n (λ t. entries (of_thread t xs)) ≡ all_entries xs
total_of_thread_entries m n count f [] l = total_of_zeros n
total_of_thread_entries m n count f (x ∷ xs) l =
    let r = total_of_thread_entries m n count (objects_then f x) xs l.1 in
    let s = total_one_increased n x.0 (one_if_entry x.1.0) (λ t. entries (of_thread t (x ∷ xs))) (λ t. entries (of_thread t xs)) l.0.thread
    (let e : entries (join_if (eqb x.0 x.0) x.1 (of_thread x.0 xs)) ≡ one_if_entry x.1.0 + entries (of_thread x.0 xs) =
    ap (λ b. entries (join_if b x.1 (of_thread x.0 xs))) (eq-eqb x.0 x.0 refl) in omega (arith, e))
    (λ t ne. ap (λ b. entries (join_if b x.1 (of_thread t xs))) (ne_eqb t x.0 ne)) in
    omega (arith, r, s)
