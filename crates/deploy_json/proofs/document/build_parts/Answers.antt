use Rattle.serde_json.specs.View.{view}
use Rattle.deploy_json.proofs.Shaped.{shaped}
use Rattle.deploy_json.proofs.document.build_parts.Goals as goal

pub parts_of-requires : goal.parts_of-requires
parts_of-requires c = shaped (view c.args.document.now) c.requires.shape

pub returns : goal.returns
returns c = record { built = c.parts_of.ensures.built; fault = c.parts_of.ensures.fault }
