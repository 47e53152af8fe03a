use Rattle.std.proofs.Common.{◌≡◌, ◌≤◌, ◌<◌, ℕ, length, true, get_or}
use Rattle.ir_checkpoint.specs.Keeping.{is_below, total}
use Rattle.ir_checkpoint.specs.Store.{Entry}
use Rattle.ir_checkpoint.proofs.finding.nearest.Given as goal

abbrev pub invariant-loop-place : goal.invariant-loop-place
invariant-loop-place l = record {
  there : l.best < length l.entries;
  below : (d : Entry) → is_below (get_or l.entries l.best d).cut l.cut ≡ true;
  most : (d : Entry) → total (get_or l.entries l.best d).cut ≡ l.most;
  nearest : (i : ℕ) (d : Entry) → i < l.place → is_below (get_or l.entries i d).cut l.cut ≡ true → total (get_or l.entries i d).cut ≤ l.most;
}
