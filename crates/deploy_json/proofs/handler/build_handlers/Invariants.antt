use Rattle.std.proofs.Common.{◌≡◌, ◌++◌, drop, map}
use Rattle.std.specs.Prelude.{codes}
use Rattle.serde_json.specs.View.{items_view}
use Rattle.deploy_json.specs.Values.{listed}
use Rattle.deploy_json.specs.Shapes.{EachItem, IsHandler}
use Rattle.deploy_json.specs.Sources.{member_misread, items_misread}
use Rattle.deploy_json.specs.Rows.{handler_row}
use Rattle.deploy_json.specs.Documents.{handler_of}
use Rattle.deploy_json.proofs.handler.build_handlers.Given as goal

abbrev pub invariant-loop-i : goal.invariant-loop-i
invariant-loop-i l = record {
  fits : EachItem IsHandler (items_view (drop l.i l.items));
  built : map handler_row l.handlers ++ listed handler_of (items_view (drop l.i l.items)) ≡ listed handler_of (items_view l.items);
  fault : items_misread (member_misread (codes "on")) 0 (items_view l.items) ≡ items_misread (member_misread (codes "on")) l.i (items_view (drop l.i l.items));
}
