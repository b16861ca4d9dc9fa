use Rattle.std.proofs.Common.{◌≡◌, drop}
use Rattle.std.specs.List.{position_from}
use Rattle.std.specs.Str.{bytes_eq}
use Rattle.serde_json.specs.View.{items_view}
use Rattle.deploy_schema.specs.Names.{texts_of}
use Rattle.deploy_schema.proofs.selection.place_of.Given as goal

abbrev pub invariant-loop-i : goal.invariant-loop-i
invariant-loop-i l = position_from (bytes_eq l.word) 0 (texts_of (items_view l.words)) ≡ position_from (bytes_eq l.word) l.i (texts_of (items_view (drop l.i l.words)))
