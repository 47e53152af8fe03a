use Rattle.std.proofs.Common.{◌≡◌, ◌-◌, ℕ, suc, length, [], ◌∷◌, ap, subst, sym, ◌∙◌, arith, length-append}
use Rattle.ir_weave.specs.Woven.{M, AreSeats}
use Rattle.ir_weave.proofs.Opening.{tracks_split_off_first, seats_push, dealt_view_has_later_tracks, dealt_first_is_opening, view_has_later_tracks}
use Rattle.ir_weave.proofs.weave.Weave.deal.Goals as goal

pub split_seat-requires : goal.split_seat-requires
split_seat-requires c = let i = c.loop-thread.invariant in let l : ℕ = length c.loop-thread.seats.items in let k : ℕ =
    c.args.count - suc l in
    let q = i.me.1 in let n = i.count in let t = c.loop-thread-test.true in let p : i.me.0 ≡ suc k = omega (arith, q, n, t) in (
      i.table,
      omega (arith, c.args.self.now.words),
      tracks_split_off_first c.args.self.now.table.shared.key _ l k c.loop-thread.seat.me.0
          (ap (λ (z : M). z.0) (view_has_later_tracks c.args.self.now.table.shared.key l i.me.0 k c.loop-thread.seat.me i.me.2 p)),
    )

pub loop-thread-preserved : goal.loop-thread-preserved
loop-thread-preserved c = let i = c.loop-thread.invariant in let l : ℕ = length c.loop-thread.seats.items in let k : ℕ =
    c.args.count - suc l in
    let q = i.me.1 in let n = i.count in let t = c.loop-thread-test.true in let p : i.me.0 ≡ suc k = omega (arith, q, n, t) in
    let old = view_has_later_tracks c.args.self.now.table.shared.key l i.me.0 k c.loop-thread.seat.me i.me.2 p in
    let e = c.split_seat.ensures in
    let items = c.in_ok-push.ensures.items in
    let long : length c.push.new.self.items ≡ suc l = ap length items ∙ length-append c.loop-thread.seats.items (c.split_seat.result ∷ [])
    ∙ omega arith in record {
      count = omega (arith, long, n);
      table = e.0 ∙ i.table;
      me = (
        k,
        omega (arith, long, n, t, q, p),
        dealt_view_has_later_tracks c.args.self.now.table.shared.key l k (length c.push.new.self.items)
            c.loop-thread.seat.me c.split_seat.new.seat.me old e.2 long,
      );
      seats = subst (AreSeats c.args.self.now.table.shared.table_id c.args.self.now.table.shared.key 0) (sym items)
          (seats_push c.args.self.now.table.shared.table_id c.args.self.now.table.shared.key 0 l c.loop-thread.seats.items
          c.split_seat.result i.seats (omega arith) (e.3 ∙ i.table)
          (dealt_first_is_opening c.args.self.now.table.shared.key l k c.loop-thread.seat.me c.split_seat.result.me old e.4));
    }

pub returns : goal.returns
returns c = let i = c.loop-thread.invariant in let l : ℕ = length c.loop-thread.seats.items in let q = i.me.1 in let n = i.count in let t =
    c.loop-thread-test.false in let a = c.loop-thread.auto._thread-end in let r = c.requires.some in
    let p : i.me.0 ≡ 1 = omega (arith, q, n, t, a, r) in
    let old = view_has_later_tracks c.args.self.now.table.shared.key l i.me.0 0 c.loop-thread.seat.me i.me.2 p in
    let items = c.in_ok-push-2.ensures.items in (
      subst (AreSeats c.args.self.now.table.shared.table_id c.args.self.now.table.shared.key 0) (sym items)
          (seats_push c.args.self.now.table.shared.table_id c.args.self.now.table.shared.key 0 l c.loop-thread.seats.items
          c.loop-thread.seat i.seats (omega arith) i.table old),
      ap length items ∙ length-append c.loop-thread.seats.items (c.loop-thread.seat ∷ []) ∙ omega (arith, q, p),
    )
