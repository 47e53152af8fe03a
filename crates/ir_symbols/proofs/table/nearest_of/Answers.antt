use Rattle.std.proofs.Common.{ap, sym, subst, ◌/◌, ◌∙◌, ℕ, take}
use Rattle.ir_symbols.proofs.Counts.{IsCountBelow}
use Rattle.ir_symbols.proofs.Found.{last_of_counted_symbols, count_below_last_less, other_range_no_reach, first_at_last_nearest}
use Rattle.ir_symbols.proofs.table.nearest_of.Goals as goal

pub returns-then-highest-address : goal.returns-then-highest-address
returns-then-highest-address c =
    let last = c.in_ok-last.field-0.now in
    let at = last_of_counted_symbols c.args.symbols.now c.count_up_to.result last c.count_up_to.ensures.bound c.in_ok-last.ensures.item.3.0 c.in_ok-last.ensures.item.3.1 in
    other_range_no_reach c.args.symbols.now c.args.address c.count_up_to.result last c.requires c.count_up_to.ensures.bound c.count_up_to.ensures.point
    at.0 at.1 (λ e. c.if-highest-address.true (ap (λ (n : ℕ). n / 65536) c.address-highest.ensures ∙ e))

pub returns : goal.returns
returns c =
    let last = c.in_ok-last.field-0.now in
    let n = c.count_up_to.result in
    let at = last_of_counted_symbols c.args.symbols.now n last c.count_up_to.ensures.bound c.in_ok-last.ensures.item.3.0 c.in_ok-last.ensures.item.3.1 in
    let below : IsCountBelow (take n c.args.symbols.now) last.address c.count_below.result =
    subst (λ (m : ℕ). IsCountBelow (take n c.args.symbols.now) m c.count_below.result) c.address-highest.ensures c.count_below.ensures.point in
    first_at_last_nearest c.args.symbols.now c.args.address n c.count_below.result last c.index-reached-count_below.result c.requires
    c.count_up_to.ensures.bound c.count_up_to.ensures.point at.0 at.1
    (sym (ap (λ (m : ℕ). m / 65536) c.address-highest.ensures) ∙ c.if-highest-address.false)
    below (count_below_last_less c.args.symbols.now n c.count_below.result last c.count_up_to.ensures.bound at.0 at.1 below c.count_below.ensures.bound)
    c.index-reached-count_below.is
