-- What was written piece by piece.
use Rattle.std.proofs.Common.{◌≡◌, ℕ, List, ◌++◌, append_assoc}

-- four pieces after what was there
pub four_appends_are_append : (o a b c d o1 o2 o3 o4 : List ℕ) → o1 ≡ o ++ a → o2 ≡ o1 ++ b → o3 ≡ o2 ++ c → o4 ≡ o3 ++ d → o4 ≡ o ++ (a ++ b ++ c ++ d)
four_appends_are_append o a b c d o1 o2 o3 o4 e1 e2 e3 e4 = rw (e4, e3, e2, e1) (simp append_assoc)
