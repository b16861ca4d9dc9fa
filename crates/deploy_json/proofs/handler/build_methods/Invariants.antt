use Rattle.std.proofs.Common.{◌≡◌, ◌++◌, map}
use Rattle.std.specs.Prelude.{codes}
use Rattle.serde_json.specs.View.{members_view}
use Rattle.deploy_json.specs.Values.{entries}
use Rattle.deploy_json.specs.Shapes.{EachMember, IsMethod}
use Rattle.deploy_json.specs.Sources.{member_misread, entries_misread}
use Rattle.deploy_json.specs.Rows.{method_row}
use Rattle.deploy_json.specs.Documents.{method_of}
use Rattle.deploy_json.proofs.handler.build_methods.Given as goal

abbrev pub invariant-loop-name : goal.invariant-loop-name
invariant-loop-name l = record {
  fits : EachMember IsMethod (members_view l.name-iterator);
  built : map method_row l.methods ++ entries method_of (members_view l.name-iterator) ≡ entries method_of (members_view l.members.entries);
  fault : entries_misread (member_misread (codes "do")) (members_view l.members.entries) ≡ entries_misread (member_misread (codes "do")) (members_view l.name-iterator);
}
