use Rattle.std.proofs.Common.{◌≡◌, ◌++◌, drop, map}
use Rattle.serde_json.specs.View.{items_view}
use Rattle.deploy_json.specs.Values.{listed}
use Rattle.deploy_json.specs.Shapes.{EachItem, IsBlock}
use Rattle.deploy_json.specs.Sources.{block_misread, items_misread}
use Rattle.deploy_json.specs.Rows.{block_row}
use Rattle.deploy_json.specs.Documents.{block_of}
use Rattle.deploy_json.proofs.block.build_blocks.Given as goal

abbrev pub invariant-loop-i : goal.invariant-loop-i
invariant-loop-i l = record {
  fits : EachItem IsBlock (items_view (drop l.i l.items));
  built : map block_row l.blocks ++ listed block_of (items_view (drop l.i l.items)) ≡ listed block_of (items_view l.items);
  fault : items_misread block_misread 0 (items_view l.items) ≡ items_misread block_misread l.i (items_view (drop l.i l.items));
}
