use Rattle.std.proofs.Common.{rules, ◌≡◌, Some, [], ◌∷◌}
use Rattle.slee_turn.proofs.KeptLemmas.{starts}
use Rattle.slee_turn.proofs.turnstile.Turnstile.new.Goals as goal

pub new-requires : goal.new-requires
new-requires g c =
    let pushed : c.push.new.self.items ≡ Some c.args.value ∷ [] = search rules in
    let same : c.of-about.result.value ≡ c.args.value = search rules in
    starts g.G.Grows.setup g.G.Grows.history _ _ c.args.value _ (search rules) pushed same
