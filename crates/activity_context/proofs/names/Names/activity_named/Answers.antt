-- the name is the one in byte order
use Rattle.std.proofs.Common.{ap, ◌∙◌}
use Rattle.std.specs.Prelude.{option_map}
use Rattle.activity_context.specs.declared.numbered.NumberedName.{NumberedName}
use Rattle.activity_context.proofs.FilingLemmas.{named_is}
use Rattle.activity_context.proofs.names.Names.activity_named.Goals as goal

pub returns-in-Some : goal.returns-in-Some
returns-in-Some c =
    rw (← c.self.view_is)
    (ap (option_map (λ (row : NumberedName). row.named.activity)) c.in-Some.ensures ∙ named_is c.args.name.now c.self.inside.rows.rows c.self.invariant.once)

pub returns-in-None : goal.returns-in-None
returns-in-None c =
    rw (← c.self.view_is)
    (ap (option_map (λ (row : NumberedName). row.named.activity)) c.in-None.ensures ∙ named_is c.args.name.now c.self.inside.rows.rows c.self.invariant.once)
