use Rattle.std.proofs.Common.{subst}
use Rattle.serde_json.specs.Data.{Items}
use Rattle.serde_json.specs.View.{view}
use Rattle.deploy_model.specs.Faults.{Says}
use Rattle.deploy_schema.specs.Forms.{list_of}
use Rattle.deploy_schema.specs.Texts.{text}
use Rattle.deploy_schema.specs.Names.{texts_of}
use Rattle.deploy_schema.specs.Tables.{variable}
use Rattle.deploy_schema.proofs.selection.check_variables.Goals as goal

pub returns : goal.returns
returns c =
    let P : Items → Type 0 = λ ds. Says (list_of (text (variable (texts_of ds))) c.args.number (view c.args.owner.now) (view c.args.value.now)) c.check.result in
    subst P c.array_items-words.ensures c.check.ensures
