use Rattle.std.proofs.Common.{◌≡◌, ◌++◌, drop}
use Rattle.serde_json.specs.View.{items_view}
use Rattle.deploy_json.specs.Values.{listed}
use Rattle.deploy_json.specs.Shapes.{EachItem}
use Rattle.deploy_json.proofs.build.build_items.Given as goal

abbrev pub invariant-loop-item : goal.invariant-loop-item
invariant-loop-item g l = record {
  fits : EachItem (g.B.Build.fits l.form) (items_view (drop l.item-index l.items));
  built : l.list ++ listed (g.B.Build.built l.form) (items_view (drop l.item-index l.items)) ≡ listed (g.B.Build.built l.form) (items_view l.items);
}
