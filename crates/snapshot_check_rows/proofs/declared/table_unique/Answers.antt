-- the parts have the table's profile specification as it was deployed
use Rattle.std.proofs.Common.{[], ap, sym, ◌∙◌}
use Rattle.std.specs.Prelude.{slice_get}
use Rattle.std.specs.Option.{option_map_or}
use Rattle.deploy_model.specs.declared.parts.ProfileSpec.{ProfileSpec}
use Rattle.snapshot_check_rows.proofs.DeclaredLemmas.{none_unique, unique_are}
use Rattle.snapshot_check_rows.proofs.declared.table_unique.Goals as goal

pub returns-in-Some : goal.returns-in-Some
returns-in-Some c =
    c.unique_in.ensures
    ∙ ap (λ n. option_map_or (λ (x : ProfileSpec). x.unique) (slice_get c.profiles.result.now n) []) c.profile_of.ensures
    ∙ unique_are c.args.deployment.now.parts c.tables.result.now c.profiles.result.now c.args.table c.in-Some.table.now c.tables.ensures.same c.profiles.ensures.same (sym c.in-Some.ensures)

pub returns-in-None : goal.returns-in-None
returns-in-None c = none_unique c.args.deployment.now.parts c.tables.result.now c.args.table c.tables.ensures.same (sym c.in-None.ensures)
