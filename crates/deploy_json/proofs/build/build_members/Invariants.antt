use Rattle.std.proofs.Common.{◌≡◌, ◌++◌}
use Rattle.serde_json.specs.View.{members_view}
use Rattle.deploy_json.specs.Values.{entries}
use Rattle.deploy_json.specs.Shapes.{EachMember}
use Rattle.deploy_json.proofs.build.build_members.Given as goal

abbrev pub invariant-loop-name : goal.invariant-loop-name
invariant-loop-name g l = record {
  fits : EachMember (g.B.BuildEntry.fits_entry l.form) (members_view l.name-iterator);
  built : l.list ++ entries (g.B.BuildEntry.built_entry l.form) (members_view l.name-iterator) ≡ entries (g.B.BuildEntry.built_entry l.form) (members_view l.members.entries);
}
