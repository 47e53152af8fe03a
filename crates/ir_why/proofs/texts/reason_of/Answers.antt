use Rattle.std.proofs.Common.{◌≡◌, List, Some, subst}
use Rattle.std.specs.Prelude.{slice_get}
use Rattle.ir_past.specs.declared.place.Place.{Place}
use Rattle.ir_why.proofs.texts.reason_of.Goals as goal

pub push_needs-requires : goal.push_needs-requires
push_needs-requires c = λ k p is.
    c.in_ok-needs.ensures.there k p (subst (λ (ps : List Place). slice_get ps k ≡ Some p) c.deref.ensures.value is)
