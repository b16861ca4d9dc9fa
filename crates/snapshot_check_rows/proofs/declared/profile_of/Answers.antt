-- the number of the profile specification is that of its key
use Rattle.std.proofs.Common.{ℕ, List, ap, ◌∙◌}
use Rattle.std.specs.Option.{unwrap_or}
use Rattle.deploy_model.specs.Deployed.{profile_named}
use Rattle.deploy_model.specs.Resolving.{deployed_of}
use Rattle.snapshot_check_rows.proofs.DeclaredLemmas.{profile_placed}
use Rattle.snapshot_check_rows.proofs.declared.profile_of.Goals as goal

pub returns : goal.returns
returns c =
    c.unwrap_or.ensures
    ∙ ap (λ found. unwrap_or found 0) (c.profile_named-profile.ensures ∙ ap (λ (q : List ℕ). profile_named (deployed_of c.args.deployment.now.parts) q) c.as_str.ensures.bytes ∙ profile_placed c.args.deployment.now.parts c.args.table.now.profile)
