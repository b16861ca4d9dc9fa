use Rattle.std.proofs.Common.{◌≡◌, ◌∙◌, subst, ℕ, List, Option}
use Rattle.std.specs.Prelude.{codes}
use Rattle.deploy_model.specs.Faults.{Says, under}
use Rattle.deploy_model.specs.Firsts.{answer_of}
use Rattle.deploy_model.specs.Rules.{items}
use Rattle.deploy_model.specs.Tables.{key_number, parameter}
use Rattle.deploy_model.proofs.walk.check_parameters.Goals as goal

pub returns : goal.returns
returns c =
    let same : answer_of c.in_ok-names.names ≡ key_number (λ p. p.0) c.args.method.now.params = λ i q. (c.in_ok-names.ensures q ∙ (λ j. key_number (λ p. p.0) (c.as_slice.ensures j) q)) i in
    let P : (List ℕ → Option ℕ) → Type 0 = λ names. Says (under (codes "params") (items (parameter names) c.args.method.now.params)) c.check_member.result in
    subst P same c.check_member.ensures
