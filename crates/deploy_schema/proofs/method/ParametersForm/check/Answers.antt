use Rattle.std.proofs.Common.{◌≡◌, ◌∙◌, subst}
use Rattle.std.specs.Prelude.{codes}
use Rattle.serde_json.specs.View.{view}
use Rattle.deploy_model.specs.Faults.{Says}
use Rattle.deploy_model.specs.Rules.{Numbering}
use Rattle.deploy_schema.specs.Forms.{list_of}
use Rattle.deploy_schema.specs.Numbers.{answer_of, numbers_from, items_of}
use Rattle.deploy_schema.specs.Tables.{parameter}
use Rattle.deploy_schema.proofs.method.ParametersForm.check.Goals as goal

pub returns : goal.returns
returns c =
    let e : answer_of c.in_ok-names.names ≡ numbers_from (codes "name") 0 (items_of (view c.args.value.now)) = c.in_ok-names.ensures ∙ (λ i. numbers_from (codes "name") 0 (c.array_items.ensures i)) in
    let P : Numbering → Type 0 = λ n. Says (list_of (parameter n) c.args.number (view c.args.owner.now) (view c.args.value.now)) c.check.result in
    subst P e c.check.ensures
