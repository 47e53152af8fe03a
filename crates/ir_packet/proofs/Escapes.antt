-- What is left of a payload at the end of its bytes.
use Rattle.std.proofs.Common.{◌≡◌, ◌≤◌, ◌++◌, [], ℕ, List, Bool, length, drop, sym, ap, ◌∙◌, append-nil, refl}
use Rattle.std.proofs.Math.ListN.{drop_of_length-le}
use Rattle.ir_packet.specs.Packets.{unescaped_from}

unescaped_of_empty : (e : Bool) → unescaped_from e [] ≡ []
unfolding unescaped_from
unescaped_of_empty e = refl

pub unescaped_past_end : (done whole raw : List ℕ) (e : Bool) (i : ℕ) → length raw ≤ i → done ++ unescaped_from e (drop i raw) ≡ whole
    → done ≡ whole
unescaped_past_end done whole raw e i past is =
    sym (append-nil done) ∙ ap (λ (r : List ℕ). done ++ r) (sym (ap (unescaped_from e) (drop_of_length-le raw past) ∙ unescaped_of_empty e)) ∙ is
