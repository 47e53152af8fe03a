-- Faults that are reported by their own words.
use Rattle.std.proofs.Common.{◌≡◌, Some, ℕ, List, ◌⊎◌, inl, inr, sym, subst}
use Rattle.ir_image.specs.declared.image_err.ImageErr.{ImageErr}
use Rattle.ir_files.specs.Writers.{Writer, Reports, fault_text}
use Rattle.ir_record_command.specs.Plan.{Plan}
use Rattle.ir_record_command.specs.Faults.{Unwritten, record_fault_words, RefusesRecord, IsItemReported, IsOrderReported, IsReported}
use Rattle.ir_record_command.specs.declared.record_fault.RecordFault.{RecordFault}
use Rattle.ir_record_command.specs.declared.record_fault.RecordFault.TheVariants.{Clock, Image, TooLarge, Order, NoMem, Lines}

reported_of_equal_fault : (e f : RecordFault) (image : List ℕ) (plan : Plan) (trace output : Unwritten) (w : Writer) → e ≡ f
    → (Reports w (fault_text (record_fault_words f)) → IsReported f image plan trace output w) → Reports w (fault_text (record_fault_words e))
    → IsReported e image plan trace output w
reported_of_equal_fault e f image plan trace output w is by r = subst (λ (z : RecordFault). IsReported z image plan trace output w) (sym is)
    (by (subst (λ (z : RecordFault). Reports w (fault_text (record_fault_words z))) is r))

-- the line of its words reports a fault that names nothing
pub nameless_is_reported : (e : RecordFault) (image : List ℕ) (plan : Plan) (trace output : Unwritten) (w : Writer)
    → ((x : ImageErr) × (e ≡ Image x)) ⊎ ((e ≡ TooLarge) ⊎ ((e ≡ NoMem) ⊎ ((e ≡ Clock) ⊎ (e ≡ Lines))))
    → Reports w (fault_text (record_fault_words e)) → IsReported e image plan trace output w
nameless_is_reported e image plan trace output w (inl (x, is)) = reported_of_equal_fault e (Image x) image plan trace output w is (λ h. h)
nameless_is_reported e image plan trace output w (inr (inl is)) = reported_of_equal_fault e TooLarge image plan trace output w is (λ h. h)
nameless_is_reported e image plan trace output w (inr (inr (inl is))) = reported_of_equal_fault e NoMem image plan trace output w is (λ h. h)
nameless_is_reported e image plan trace output w (inr (inr (inr (inl is)))) = reported_of_equal_fault e Clock image plan trace output w is (λ h. h)
nameless_is_reported e image plan trace output w (inr (inr (inr (inr is)))) = reported_of_equal_fault e Lines image plan trace output w is (λ h. h)

-- the line of an item of the plan's list reports the fault of that list
pub order_reported_by_item : (threads : ℕ) (image list : List ℕ) (plan : Plan) (w : Writer) → RefusesRecord (Order threads) image plan → plan.order ≡ Some list
    → IsItemReported threads list w → IsOrderReported image plan w
order_reported_by_item threads image list plan w (guest, listed, is, allowed, count, some, few, order, bad) e r =
    (guest, list, is, e, subst (λ (n : ℕ). IsItemReported n list w) count r)
