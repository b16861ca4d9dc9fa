-- the tables are those that scripts know
use Rattle.std.proofs.Common.{List, [], ap, ◌∙◌}
use Rattle.std.specs.Prelude.{slice_get}
use Rattle.std.specs.Option.{option_map_or}
use Rattle.script_types.specs.declared.codes.Codes.{Codes}
use Rattle.script_types.specs.declared.codes.TableCode.{TableCode}
use Rattle.router_inputs.proofs.TableLemmas.{attributes_are}
use Rattle.router_inputs.proofs.rows.attributes_of.Goals as goal

pub returns : goal.returns
returns c =
    c.attributes_at.ensures
    ∙ ap (λ (tables : List TableCode). option_map_or (λ (t : TableCode). t.attributes) (slice_get tables c.args.table) []) (c.as_slice.ensures ∙ ap (λ (codes : Codes). codes.tables) c.codes.ensures.parts)
    ∙ attributes_are c.args.deployment.now.parts c.args.table
