use Rattle.std.proofs.Common.{◌≡◌, [], ◌∷◌, ◌++◌, sym, ap, ◌∙◌, subst}
use Rattle.std.specs.List.{AllByRecursion}
use Rattle.std.specs.Prelude.{option_to_list}
use Rattle.ir_lemmas.proofs.CallerLemmas.{all_splits_off_last}
use Rattle.ir_record.specs.Threads.{IsSeatOf, views_of}
use Rattle.ir_record.proofs.Manning.{views_with_seat_added, views_join_whole}
use Rattle.ir_record.proofs.by_threads.results.joined.Goals as goal

pub loop-seat-init : goal.loop-seat-init
loop-seat-init c =
    let parts : c.args.seats.items ≡ c.pop.new.self.items ++ c.unwrap-all.result ∷ [] = c.pop.ensures.items
    ∙ ap (λ z. c.pop.new.self.items ++ option_to_list z) c.unwrap-all.ensures in
    let h = all_splits_off_last (IsSeatOf c.args.crew.now.table.shared.table_id) c.pop.new.self.items c.unwrap-all.result
    (subst (AllByRecursion (IsSeatOf c.args.crew.now.table.shared.table_id)) parts c.requires.seats) in
    record { all = h.1; views = sym (views_with_seat_added c.pop.new.self.items c.unwrap-all.result) ∙ ap views_of (sym parts); seats = h.0 }

pub join-all-requires-clause-seat : goal.join-all-requires-clause-seat
join-all-requires-clause-seat c =
    let h = all_splits_off_last (IsSeatOf c.args.crew.now.table.shared.table_id) c.pop-in-loop-seat.new.self.items c.in-Some.seat
    (subst (AllByRecursion (IsSeatOf c.args.crew.now.table.shared.table_id)) c.in-Some.ensures.items c.loop-seat.invariant.seats) in
    (h.1.table, h.1.empty)

pub loop-seat-preserved : goal.loop-seat-preserved
loop-seat-preserved c =
    let h = all_splits_off_last (IsSeatOf c.args.crew.now.table.shared.table_id) c.pop-in-loop-seat.new.self.items c.in-Some.seat
    (subst (AllByRecursion (IsSeatOf c.args.crew.now.table.shared.table_id)) c.in-Some.ensures.items c.loop-seat.invariant.seats) in
    record {
      all = record { table = c.join-all.ensures.0 ∙ h.1.table; empty = ap (λ z. z.1) c.join-all.ensures.1 };
      views = views_join_whole c.loop-seat.seats.items c.pop-in-loop-seat.new.self.items c.in-Some.seat c.loop-seat.all c.join-all.result
          (views_of c.args.seats.items) c.loop-seat.invariant.views c.in-Some.ensures.items c.join-all.ensures.1;
      seats = h.0;
    }
