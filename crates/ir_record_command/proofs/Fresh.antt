-- What was recorded with fresh worlds.
use Rattle.std.proofs.Common.{true, false, ◌≡◌, ◌<◌, ℕ, List, [], length, get_or, sym, ap, ◌∙◌, subst, arith}
use Rattle.std.specs.Prelude.{Option, Some, None, Ok, replicate}
use Rattle.std.specs.Option.{is_some}
use Rattle.ir_image.specs.Guest.{Guest, guest_at}
use Rattle.ir_trace.specs.Recorded.{Recorded}
use Rattle.ir_record.specs.Recordings.{IsRecordingByTurns, IsRecordingOfSome}
use Rattle.ir_record.specs.Refusing.{Turn}
use Rattle.ir_record.specs.Worlds.{AnsweredCall}
use Rattle.ir_record_command.specs.Order.{order_of}
use Rattle.ir_record_command.specs.Plan.{Plan}
use Rattle.ir_record_command.specs.Recording.{IsRecordedBy, IsRecordedOf}
use Rattle.ir_world.specs.Sources.{origin_of, IsAnsweredFrom}

-- what was recorded in an order, with fresh worlds
pub fresh_by_order : (image list : List ℕ) (plan : Plan) (guest : Guest) (entries : List ℕ) (order given : List Turn)
    (before : List (List AnsweredCall)) (trace : Recorded) (outputs : List (List ℕ)) (answers : List (List AnsweredCall))
    → plan.order ≡ Some list
    → guest_at image ≡ Ok guest → entries ≡ guest.entries → order_of (length entries) list ≡ Some order → given ≡ order
    → before ≡ replicate (length entries) [] → IsRecordingByTurns guest plan.budget plan.profile given before trace outputs answers
    → ((t : ℕ) → t < length entries → IsAnsweredFrom (origin_of true plan.random plan.input t) (get_or answers t []))
    → IsRecordedOf image plan trace outputs
fresh_by_order image list plan guest entries order given before trace outputs answers listed is same spelled e silent h answered =
    let long : length entries ≡ length guest.entries = ap (λ (z : List ℕ). length z) same in
    record {
      guest = guest;
      is = is;
      answers = answers;
      recorded = subst (λ (o : Option (List ℕ)). IsRecordedBy o guest plan.budget plan.profile trace outputs answers) (sym listed) (
        order,
        ap (λ (n : ℕ). order_of n list) (sym long) ∙ spelled,
        subst (λ (z : List (List AnsweredCall)). IsRecordingByTurns guest plan.budget plan.profile order z trace outputs answers)
            (silent ∙ ap (λ (n : ℕ). replicate n []) long)
            (subst (λ (z : List Turn). IsRecordingByTurns guest plan.budget plan.profile z before trace outputs answers) e h),
      );
      answered = λ t l. subst (λ (o : Option (List ℕ)). IsAnsweredFrom (origin_of (is_some o) plan.random plan.input t) (get_or answers t []))
          (sym listed) (answered t (omega (arith, l, long)));
    }

-- the same, by threads
pub fresh_by_threads : (image : List ℕ) (plan : Plan) (guest : Guest) (entries : List ℕ) (before : List (List AnsweredCall))
    (trace : Recorded) (outputs : List (List ℕ)) (answers : List (List AnsweredCall))
    → plan.order ≡ None
    → guest_at image ≡ Ok guest → entries ≡ guest.entries → before ≡ replicate (length entries) []
    → IsRecordingOfSome guest plan.budget plan.profile before trace outputs answers
    → ((t : ℕ) → t < length entries → IsAnsweredFrom (origin_of false plan.random plan.input t) (get_or answers t []))
    → IsRecordedOf image plan trace outputs
fresh_by_threads image plan guest entries before trace outputs answers unlisted is same silent h answered =
    let long : length entries ≡ length guest.entries = ap (λ (z : List ℕ). length z) same in
    record {
      guest = guest;
      is = is;
      answers = answers;
      recorded = subst (λ (o : Option (List ℕ)). IsRecordedBy o guest plan.budget plan.profile trace outputs answers) (sym unlisted)
          (subst (λ (z : List (List AnsweredCall)). IsRecordingOfSome guest plan.budget plan.profile z trace outputs answers)
          (silent ∙ ap (λ (n : ℕ). replicate n []) long) h);
      answered = λ t l. subst (λ (o : Option (List ℕ)). IsAnsweredFrom (origin_of (is_some o) plan.random plan.input t) (get_or answers t []))
          (sym unlisted) (answered t (omega (arith, l, long)));
    }
