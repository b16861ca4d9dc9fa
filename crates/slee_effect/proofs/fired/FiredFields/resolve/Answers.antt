use Rattle.std.proofs.Common.{◌≡◌, ℕ, true, List, length, map, ap, sym, subst, ◌∙◌, arith}
use Rattle.std.proofs.lemmas.List.{with_items_is}
use Rattle.slee_value.specs.Order.{rises, names_of}
use Rattle.slee_effect.specs.declared.value.Val.{Val}
use Rattle.slee_effect.specs.Resolving.{resolved_field}
use Rattle.slee_effect.proofs.NamesLemmas.{names_stay, len_stays}
use Rattle.slee_effect.proofs.fired.FiredFields.resolve.Goals as goal

pub invariant_of-self : goal.invariant_of-self
invariant_of-self c =
    let e : c.resolve_fields.new.fields ≡ map (resolved_field c.args.next) c.self.inside.fields.items = c.resolve_fields.ensures ∙ ap (map (resolved_field c.args.next)) c.deref_mut.ensures.value in
    let len : length c.resolve_fields.new.fields ≡ c.self.inside.fields.len = omega (arith, ap length e, len_stays c.args.next c.self.inside.fields.items, c.self.inside.fields.ok.0) in
    subst (λ (l : List (List ℕ × Val)). rises (names_of l) ≡ true) (sym (with_items_is c.self.inside.fields c.resolve_fields.new.fields len ∙ e)) (names_stay c.args.next c.self.inside.fields.items ∙ c.self.invariant)
