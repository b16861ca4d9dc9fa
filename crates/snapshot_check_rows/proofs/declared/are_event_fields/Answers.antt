-- a built-in event has the fields of its code
use Rattle.std.proofs.Common.{false, List, Option, ap, sym, ◌∙◌}
use Rattle.std.specs.Option.{option_map_or}
use Rattle.built_in_events.specs.BuiltIn.{event_named}
use Rattle.script_types.specs.declared.codes.FieldCode.{FieldCode}
use Rattle.router_state.specs.Fits.{are_declared}
use Rattle.snapshot_check_rows.proofs.DeclaredLemmas.{fields_built_in}
use Rattle.snapshot_check_rows.proofs.declared.are_event_fields.Goals as goal

pub returns-in-Some : goal.returns-in-Some
returns-in-Some c =
    c.are_built_in.ensures
    ∙ sym (ap (λ (o : Option (List FieldCode)). option_map_or (λ (declared : List FieldCode). are_declared declared c.args.fields.now) o false)
    (fields_built_in c.args.deployment.now.parts c.args.event.now c.in-Some.event (c.in-Some.ensures ∙ ap event_named c.as_bytes.ensures.bytes)))
