use Rattle.std.proofs.Common.{◌∙◌}
use Rattle.std.specs.Prelude.{codes, bytes_eq, option_and_then}
use Rattle.std.specs.List.{list_any}
use Rattle.serde_json.specs.Find.{get, as_array}
use Rattle.serde_json.specs.View.{view}
use Rattle.deploy_schema.specs.Names.{texts_of}
use Rattle.deploy_schema.proofs.Items.{custom_words}
use Rattle.deploy_schema.proofs.selection.is_custom.Goals as goal

pub returns : goal.returns
returns c =
    c.has_custom.ensures
    ∙ (λ i. list_any (bytes_eq (codes "custom")) (texts_of (c.items_in-words.ensures i)))
    ∙ custom_words (option_and_then as_array (get (codes "initial") (view c.args.event.now)))
