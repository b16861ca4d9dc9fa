use Rattle.std.proofs.Common.{rules, ◌≡◌, ◌∷◌, Some, sym, ap, ◌∙◌}
use Rattle.atomic_table.specs.Table.{rest}
use Rattle.slee_turn.specs.Knowledge.{free}
use Rattle.slee_turn.proofs.KeptLemmas.{takes_turn}
use Rattle.slee_turn.proofs.turnstile.Turnstile.try_take.Goals as goal

pub compare_exchange-found-requires : goal.compare_exchange-found-requires
compare_exchange-found-requires g c =
    let is_free : c.pass.inside.seat.me.0.phase ≡ free = ap (λ p. p.known.phase) c.pass.view_is ∙ c.requires.1 in
    (search rules, search rules, takes_turn g.G.Grows.setup g.G.Grows.history _ _ _ _ is_free c.pass.invariant.0)

pub exchange-requires : goal.exchange-requires
exchange-requires g c =
    let t = c.compare_exchange-found.ensures.2.0 (search rules) in
    let carried = ap (λ m. m.1) t.1 in
    (search rules, (Some t.0, carried ∙ ap (λ cs. (0, Some t.0) ∷ rest cs) (sym carried)))
