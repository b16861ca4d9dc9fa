use Rattle.std.proofs.Common.{◌≡◌, drop}
use Rattle.std.specs.List.{list_any}
use Rattle.std.specs.Prelude.{codes, bytes_eq}
use Rattle.serde_json.specs.View.{items_view}
use Rattle.deploy_schema.specs.Names.{texts_of}
use Rattle.deploy_schema.proofs.selection.has_custom.Given as goal

abbrev pub invariant-loop-word : goal.invariant-loop-word
invariant-loop-word l = list_any (bytes_eq (codes "custom")) (texts_of (items_view l.words)) ≡ list_any (bytes_eq (codes "custom")) (texts_of (items_view (drop l.word-index l.words)))
