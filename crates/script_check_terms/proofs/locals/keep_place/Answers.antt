use Rattle.std.proofs.Common.{◌≡◌, ◌∷◌, [], ◌∙◌, refl, sym}
use Rattle.script_types.specs.Scopes.{Variable, Child}
use Rattle.script_check_terms.proofs.LocalLemmas.{seen, add_new, add_seen, finds_first}
use Rattle.script_check_terms.proofs.locals.keep_place.Goals as goal

pub returns-then-is_some-clause-next : goal.returns-then-is_some-clause-next
returns-then-is_some-clause-next c =
    let place = seen c.args.places.now c.args.locals.now c.args.name.now c.kept_for.result c.place_kept.result c.requires c.kept_for.ensures c.place_kept.ensures in
    add_seen c.args.places.now c.args.locals.now c.args.name.now c.place_kept.result c.requires place (sym c.is_some.ensures ∙ c.if-is_some.true)

pub returns-clause-next : goal.returns-clause-next
returns-clause-next c =
    let place = seen c.args.places.now c.args.locals.now c.args.name.now c.kept_for.result c.place_kept.result c.requires c.kept_for.ensures c.place_kept.ensures in
    add_new c.args.places.now c.insert.new.self c.args.locals.now c.args.name.now c.place_kept.result c.requires place (sym c.is_some.ensures ∙ c.if-is_some.false) c.in_ok-insert.ensures.updates

pub returns-clause-here : goal.returns-clause-here
returns-clause-here c =
    let one : Variable = record { name = c.args.name.now; holds = Child 0 } in
    finds_first c.insert.new.self c.args.locals.now (one ∷ []) (returns-clause-next c one refl)
