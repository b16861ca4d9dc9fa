use Rattle.std.proofs.Common.{◌≡◌}
use Rattle.serde_json.specs.View.{view, members_view}
use Rattle.deploy_schema.specs.Forms.{entries_fault}
use Rattle.deploy_schema.proofs.map.check_entries.Given as goal

abbrev pub invariant-loop-name : goal.invariant-loop-name
invariant-loop-name g l =
    entries_fault (λ k. g.E.EntryForm.entry_fault l.form k l.number (view l.owner)) (members_view l.members.entries)
    ≡ entries_fault (λ k. g.E.EntryForm.entry_fault l.form k l.number (view l.owner)) (members_view l.name-iterator)
