use Rattle.std.proofs.Common.{◌≡◌, ℕ, suc, zero, None, Option, List, [], ◌∷◌, ◌++◌, refl, arith}
use Rattle.std.specs.Option.{option_map_or}
use Rattle.std.specs.Prelude.{slice_get}
use Rattle.ir_past.specs.Tables.{made_at}
use Rattle.ir_past.specs.declared.place.Place.{Place}
use Rattle.ir_past.specs.declared.makers.ObjectMakers.{ObjectMakers}
use Rattle.ir_past.proofs.makers.Makers.new.Goals as goal

none_pushed : (f : ObjectMakers → Option Place) (xs : List ObjectMakers) (x : ObjectMakers) (o : ℕ) → f x ≡ None
    → ((p : ℕ) → option_map_or f (slice_get xs p) None ≡ None) → option_map_or f (slice_get (xs ++ x ∷ []) o) None ≡ None
none_pushed f [] x zero e h = e
none_pushed f [] x (suc o) e h = refl
none_pushed f (y ∷ ys) x zero e h = h 0
none_pushed f (y ∷ ys) x (suc o) e h = none_pushed f ys x o e (λ p. h (suc p))

pub loop-preserved : goal.loop-preserved
loop-preserved c = record {
  objects = omega (arith, c.in_ok-push.ensures.len, c.loop.invariant.objects);
  none = λ o v. rw c.in_ok-push.ensures.items
      (none_pushed (λ (x : ObjectMakers). made_at x v) c.loop.all.items c.new.result o (c.new.ensures v) (λ p. c.loop.invariant.none p v));
}
