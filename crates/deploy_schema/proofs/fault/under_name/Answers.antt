use Rattle.std.proofs.Common.{◌≡◌, ◌∙◌, subst, List, ℕ}
use Rattle.deploy_model.specs.Faults.{Tells, under}
use Rattle.deploy_schema.specs.Pointers.{escaped}
use Rattle.deploy_schema.proofs.fault.under_name.Goals as goal

pub returns-in-Ok : goal.returns-in-Ok
returns-in-Ok c = λ m t.
    let e : c.as_str.result.now ≡ escaped c.args.name.now = c.as_str.ensures.value ∙ c.in-Ok.ensures in
    let P : List ℕ → Type 0 = λ s. Tells (under s m) c.under_step.result in
    subst P e (c.under_step.ensures m t)
