-- the name that was cut is free, and may have been there
use Rattle.activity_context.specs.Naming.{in_byte_order}
use Rattle.activity_context.proofs.NamedLemmas.{put_over}
use Rattle.activity_context.proofs.names.Names.put.Goals as goal

pub returns-clause-names : goal.returns-clause-names
returns-clause-names c =
    rw (← c.self.view_is, c.file.ensures.names, c.cut_named.ensures.names)
    (put_over (record { name = c.args.name; activity = c.args.activity }) (in_byte_order c.self.inside.rows.rows))
