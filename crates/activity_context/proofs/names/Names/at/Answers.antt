-- as many are kept, each with its name
use Rattle.std.proofs.Common.{ap, ◌∙◌, arith}
use Rattle.std.specs.Prelude.{option_map}
use Rattle.std.proofs.lemmas.Option.{slice_get-map}
use Rattle.activity_context.specs.declared.numbered.NumberedName.{NumberedName}
use Rattle.activity_context.proofs.NamedLemmas.{as_many}
use Rattle.activity_context.proofs.names.Names.at.Goals as goal

pub at-requires : goal.at-requires
at-requires c =
    let within = rw (← c.self.view_is) at c.requires in
    let many = as_many c.self.inside.rows.rows in
    omega (arith, within, many)

pub returns : goal.returns
returns c =
    rw (← c.self.view_is)
    (slice_get-map (λ (row : NumberedName). row.named) c.self.inside.rows.rows c.args.place ∙ ap (option_map (λ (row : NumberedName). row.named)) c.at.ensures)
