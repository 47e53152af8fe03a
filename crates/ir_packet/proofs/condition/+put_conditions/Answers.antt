use Rattle.std.proofs.Common.{rules, ◌≡◌, ◌++◌, [], ◌∷◌, length, Some}
use Rattle.ir_packet.specs.Numbers.{bytes_of_pairs}
use Rattle.ir_packet.specs.Requests.{ConditionText, first_condition}
use Rattle.ir_packet.proofs.Conditions.{first_and_rest_are_put}
use Rattle.ir_lemmas.proofs.CallerLemmas.{on_ok_of_implied}
use Rattle.ir_packet.proofs.condition.+put_conditions.Goals as goal

pub returns : goal.returns
returns t c =
    let text : ConditionText = record { digits = c.in-Some.digits.now; rest = c.in-Some.rest.now } in
    let some : length c.args.text.now ≡ 0 → ⊥ = search rules in
    let first : first_condition c.args.text.now ≡ Some text = search rules in
    let put : c.push.new.self.items ≡ c.args.out.now.items ++ bytes_of_pairs c.in-Some.digits.now ∷ [] = search rules in
    on_ok_of_implied c.put_conditions.result
    (λ rest each are. first_and_rest_are_put c.args.out.now.items c.push.new.self.items c.put_conditions.new.out.items c.args.most c.args.text.now text each
    c.if-most-eq0.false some first put rest are) c.put_conditions.ensures
