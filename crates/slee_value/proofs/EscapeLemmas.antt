-- What stood in front stands there after more is added.
use Rattle.std.proofs.Common.{◌≡◌, ℕ, ◌≤◌, List, ◌++◌, length, take, ap, ◌∙◌, arith}
use Rattle.std.proofs.lemmas.List.{take-append-le, length-take}

pub front_stays : (n : ℕ) (old items more : List ℕ) → length old ≡ n → take n items ≡ old → take n (items ++ more) ≡ old
front_stays n old items more len e =
    let le : n ≤ length items = omega (arith, ap length e, length-take n items) in
    take-append-le n items more le ∙ e
