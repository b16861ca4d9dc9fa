use Rattle.std.proofs.Common.{◌≡◌, ◌∙◌, subst, List, ℕ, decimal}
use Rattle.deploy_model.specs.Faults.{Tells, under}
use Rattle.deploy_model.proofs.rule.check_item.Goals as goal

pub returns-in_ok-format-in-Err : goal.returns-in_ok-format-in-Err
returns-in_ok-format-in-Err g c =
    let e : c.as_str.result.now ≡ decimal c.args.i = c.as_str.ensures.value ∙ c.in_ok-format-in-Err.ensures.ok in
    let P : List ℕ → Type 0 = λ s. Tells (under s (g.R.Rule.fault c.args.rule.now c.args.i c.args.part.now)) c.under.result in
    subst P e (c.under.ensures _ c.in-Err.ensures)
