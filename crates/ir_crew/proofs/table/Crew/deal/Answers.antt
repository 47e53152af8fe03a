use Rattle.std.proofs.Common.{◌≡◌, ◌-◌, ℕ, suc, length, [], ◌∷◌, ap, subst, sym, ◌∙◌, arith, length-append}
use Rattle.ir_crew.specs.Plays.{M}
use Rattle.ir_crew.specs.Ends.{AreCrewSeats}
use Rattle.ir_crew.proofs.Seats.{tracks_split_off_first}
use Rattle.ir_crew.proofs.Ending.{seats_with_last_added, first_dealt_later_left, dealt_is_first_thread, tracks_from_equal_count}
use Rattle.ir_crew.proofs.table.Crew.deal.Goals as goal

pub split_seat-requires : goal.split_seat-requires
split_seat-requires c = let i = c.loop-thread.invariant in let l : ℕ = length c.loop-thread.seats.items in let k : ℕ =
    c.args.threads - suc l in
    let q = i.me.1 in let n = i.count in let t = c.loop-thread-test.true in let p : i.me.0 ≡ suc k = omega arith in (
      i.table,
      (let w = c.args.self.now.words in omega (arith, w)),
      tracks_split_off_first _ _ l k c.loop-thread.seat.me.0 (ap (λ (z : M). z.0) (tracks_from_equal_count l i.me.0 k c.loop-thread.seat.me i.me.2 p)),
    )

pub loop-thread-preserved : goal.loop-thread-preserved
loop-thread-preserved c = let i = c.loop-thread.invariant in let l : ℕ = length c.loop-thread.seats.items in let k : ℕ =
    c.args.threads - suc l in
    let q = i.me.1 in let n = i.count in let t = c.loop-thread-test.true in let p : i.me.0 ≡ suc k = omega arith in
    let old = tracks_from_equal_count l i.me.0 k c.loop-thread.seat.me i.me.2 p in
    let e = c.split_seat.ensures in
    let items = c.in_ok-push.ensures.items in
    let long : length c.push.new.self.items ≡ suc l = ap length items
    ∙ omega (arith, length-append c.loop-thread.seats.items (c.split_seat.result ∷ [])) in record {
      count = omega arith;
      table = e.0 ∙ i.table;
      me = (k, omega arith, first_dealt_later_left l k (length c.push.new.self.items) c.loop-thread.seat.me c.split_seat.new.seat.me old e.2 long);
      seats = subst (AreCrewSeats c.args.self.now.table.shared.table_id 0) (sym items)
          (seats_with_last_added c.args.self.now.table.shared.table_id 0 l c.loop-thread.seats.items c.split_seat.result i.seats (omega arith)
          (e.3 ∙ i.table) (dealt_is_first_thread l k c.loop-thread.seat.me c.split_seat.result.me old e.4));
    }

pub returns : goal.returns
returns c = let i = c.loop-thread.invariant in let l : ℕ = length c.loop-thread.seats.items in let q = i.me.1 in let n = i.count in let t =
    c.loop-thread-test.false in let a = c.loop-thread.auto._thread-end in let r = c.requires.threads in
    let p : i.me.0 ≡ 1 = omega arith in
    let old = tracks_from_equal_count l i.me.0 0 c.loop-thread.seat.me i.me.2 p in
    let items = c.in_ok-push-2.ensures.items in (
      subst (AreCrewSeats c.args.self.now.table.shared.table_id 0) (sym items)
          (seats_with_last_added c.args.self.now.table.shared.table_id 0 l c.loop-thread.seats.items c.loop-thread.seat i.seats (omega arith) i.table
          old),
      ap length items ∙ omega (arith, length-append c.loop-thread.seats.items (c.loop-thread.seat ∷ [])),
    )
