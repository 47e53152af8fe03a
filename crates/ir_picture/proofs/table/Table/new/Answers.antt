use Rattle.std.proofs.Common.{◌≡◌, ℕ, suc, zero, List, [], ◌∷◌, ◌++◌, refl, arith}
use Rattle.std.specs.Option.{option_map_or}
use Rattle.std.specs.Prelude.{slice_get}
use Rattle.ir_picture.specs.Placing.{version_at, unknown_version}
use Rattle.ir_picture.specs.declared.table.Version.{Version}
use Rattle.ir_picture.specs.declared.table.Versions.{Versions}
use Rattle.ir_picture.proofs.table.Table.new.Goals as goal

none_pushed : (f : Versions → Version) (xs : List Versions) (x : Versions) (o : ℕ) → f x ≡ unknown_version
    → ((p : ℕ) → option_map_or f (slice_get xs p) unknown_version ≡ unknown_version) → option_map_or f (slice_get (xs ++ x ∷ []) o) unknown_version ≡ unknown_version
none_pushed f [] x zero e h = e
none_pushed f [] x (suc o) e h = refl
none_pushed f (y ∷ ys) x zero e h = h 0
none_pushed f (y ∷ ys) x (suc o) e h = none_pushed f ys x o e (λ p. h (suc p))

pub loop-preserved : goal.loop-preserved
loop-preserved c = record {
  objects = omega (arith, c.in_ok-push.ensures.len, c.loop.invariant.objects);
  none = λ o v. rw c.in_ok-push.ensures.items
      (none_pushed (λ (x : Versions). version_at x v) c.loop.all.items c.new.result o (c.new.ensures v) (λ p. c.loop.invariant.none p v));
}
