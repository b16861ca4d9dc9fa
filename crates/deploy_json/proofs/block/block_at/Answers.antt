use Rattle.std.proofs.Common.{◌≡◌, ◌∙◌, subst, List, ℕ}
use Rattle.std.specs.Prelude.{decimal}
use Rattle.serde_json.specs.View.{view}
use Rattle.deploy_json.specs.Sources.{Tells, under, block_misread}
use Rattle.deploy_json.proofs.block.block_at.Goals as goal

pub returns-in_ok-format-in-Err-clause-fault : goal.returns-in_ok-format-in-Err-clause-fault
returns-in_ok-format-in-Err-clause-fault c =
    let e : c.as_str.result.now ≡ decimal c.args.i = c.as_str.ensures.value ∙ c.in_ok-format-in-Err.ensures.ok in
    let P : List ℕ → Type 0 = λ s. Tells (under s (block_misread (view c.args.value.now))) c.under.result in
    subst P e (c.under.ensures (block_misread (view c.args.value.now)) c.in-Err.ensures.fault)
