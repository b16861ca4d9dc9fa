use Rattle.std.proofs.Common.{subst, Bool}
use Rattle.std.specs.Prelude.{codes}
use Rattle.serde_json.specs.View.{view}
use Rattle.script_tree.specs.Tree.{Bytes}
use Rattle.deploy_model.specs.Faults.{Says}
use Rattle.deploy_schema.specs.Forms.{object}
use Rattle.deploy_schema.specs.Numbers.{answer_of}
use Rattle.deploy_schema.specs.Ids.{text_at}
use Rattle.deploy_schema.specs.Lookups.{names_of}
use Rattle.deploy_schema.specs.Tables.{handler_members}
use Rattle.deploy_schema.proofs.handler.HandlerFormForm.check.Goals as goal

pub returns : goal.returns
returns c =
    let said : Bytes → Bool → Type 0 = λ e w. Says (object (handler_members (names_of c.args.self.now.all.now) (answer_of c.args.self.now.handlers.now) e w) c.args.number (view c.args.owner.now) (view c.args.value.now)) c.check.result in
    let P : Bytes → Type 0 = λ e. said e c.is_custom-wanted.result in
    let Q : Bool → Type 0 = λ w. said (text_at (codes "event") (view c.args.value.now)) w in
    subst Q c.is_custom-wanted.ensures (subst P c.text_at-event.ensures c.check.ensures)
