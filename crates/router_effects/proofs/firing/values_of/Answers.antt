use Rattle.std.proofs.Common.{rules, ◌≡◌, ◌∷◌}
use Rattle.router_effects.proofs.FiringLemmas.{declared_at, names_at, values_at}
use Rattle.router_effects.proofs.firing.values_of.Goals as goal

pub fields-preserved : goal.fields-preserved
fields-preserved c =
    let split : c.fields.left.now ≡ c.in-Some.code.now ∷ c.in-Some.more.now = search rules in
    record {
      names = names_at _ _ _ _ c.fields.invariant.names c.in_ok-add_value.ensures.name c.in_ok-add_value.ensures.items;
      values = values_at _ _ _ _ _ _ _ _ _ c.fields-test.true c.field-item.is split c.fields.invariant.declared c.in_ok-add_value.ensures.items c.fields.invariant.values;
      declared = declared_at _ _ _ _ _ _ c.fields-test.true c.field-item.is split c.fields.invariant.declared;
    }
