use Rattle.std.proofs.Common.{◌≡◌, ◌∙◌, Option, Some, None, refl, sym, ap}
use Rattle.std.proofs.lemmas.Option.{slice_get_read, slice_get_past}
use Rattle.std.specs.Prelude.{codes, option_map, option_and_then}
use Rattle.serde_json.specs.Data.{Data}
use Rattle.serde_json.specs.Find.{get_item}
use Rattle.serde_json.specs.View.{view, items_view}
use Rattle.slee_value.specs.declared.kind.Kind.{Kind}
use Rattle.deploy_schema.specs.Names.{kind_at}
use Rattle.deploy_schema.proofs.Items.{item_at}
use Rattle.deploy_schema.proofs.lookup.declared_field.Goals as goal

pub returns-in-Some : goal.returns-in-Some
returns-in-Some c =
    let row = c.in-Some.ensures.lookup in
    let read = slice_get_read c.args.types.now _ c.args.number c.in-Some.declared.now refl row.3.0 row.1 in
    let item : get_item c.args.number (items_view c.args.types.now) ≡ Some (view c.in-Some.declared.now) = item_at c.args.types.now c.args.number ∙ ap (option_map view) read in
    let of : Option Data → Option Kind = λ o. option_and_then (λ e. kind_at (codes "fields") e c.args.field.now) o in
    c.kind_at.ensures ∙ sym (ap of item)

pub returns-in-None : goal.returns-in-None
returns-in-None c =
    let past = slice_get_past c.args.types.now c.args.number c.in-None.ensures.lookup.3 in
    let item : get_item c.args.number (items_view c.args.types.now) ≡ None = item_at c.args.types.now c.args.number ∙ ap (option_map view) past in
    let of : Option Data → Option Kind = λ o. option_and_then (λ e. kind_at (codes "fields") e c.args.field.now) o in
    sym (ap of item)
