use Rattle.std.proofs.Common.{◌≡◌, ℕ, List, drop}
use Rattle.std.specs.List.{position_from}
use Rattle.std.specs.Str.{bytes_eq}
use Rattle.deploy_model.specs.Rules.{or_later}
use Rattle.slee_descriptor.specs.Keys.{number_in}
use Rattle.slee_descriptor.proofs.keys.keys_of.Given as goal

abbrev pub invariant-loop-i : goal.invariant-loop-i
invariant-loop-i g l = (q : List ℕ) →
    or_later (number_in l.keys q) (position_from (λ x. bytes_eq q (g.T.Named.name_of x)) l.i (drop l.i l.items))
    ≡ position_from (λ x. bytes_eq q (g.T.Named.name_of x)) 0 l.items
