use Rattle.std.proofs.Common.{◌≡◌, ◌∙◌, subst}
use Rattle.std.specs.Prelude.{codes}
use Rattle.serde_json.specs.View.{view}
use Rattle.deploy_model.specs.Faults.{Says}
use Rattle.deploy_model.specs.Rules.{Numbering}
use Rattle.deploy_schema.specs.Forms.{list_of}
use Rattle.deploy_schema.specs.Numbers.{answer_of, numbers_from, items_of}
use Rattle.deploy_schema.specs.Lookups.{names_of}
use Rattle.deploy_schema.specs.Tables.{handler}
use Rattle.deploy_schema.proofs.handler.HandlersForm.check.Goals as goal

pub returns : goal.returns
returns c =
    let e : answer_of c.in_ok-handlers.handlers ≡ numbers_from (codes "event") 0 (items_of (view c.args.value.now)) = c.in_ok-handlers.ensures ∙ (λ i. numbers_from (codes "event") 0 (c.array_items.ensures i)) in
    let P : Numbering → Type 0 = λ n. Says (list_of (handler (names_of c.args.self.now.0.now) n) c.args.number (view c.args.owner.now) (view c.args.value.now)) c.check.result in
    subst P e c.check.ensures
