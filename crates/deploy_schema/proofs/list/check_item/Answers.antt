use Rattle.std.proofs.Common.{◌≡◌, ◌∙◌, subst, List, ℕ}
use Rattle.std.specs.Prelude.{decimal}
use Rattle.serde_json.specs.View.{view}
use Rattle.deploy_model.specs.Faults.{Tells, under}
use Rattle.deploy_schema.proofs.list.check_item.Goals as goal

pub returns-in_ok-format-in-Err : goal.returns-in_ok-format-in-Err
returns-in_ok-format-in-Err g c =
    let e : c.as_str.result.now ≡ decimal c.args.i = c.as_str.ensures.value ∙ c.in_ok-format-in-Err.ensures.ok in
    let P : List ℕ → Type 0 = λ s. Tells (under s (g.F.Form.fault c.args.form.now c.args.i (view c.args.owner.now) (view c.args.item.now))) c.under_step.result in
    subst P e (c.under_step.ensures _ c.in-Err.ensures)
