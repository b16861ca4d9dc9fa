-- the bytes of the state beside those of the initial one
use Rattle.std.proofs.Common.{◌∙◌, ◌<◌, ◌^◌, ℕ, List, length, subst}
use Rattle.script_types.specs.ProgramOf.{kept_program}
use Rattle.deploy_model.specs.Resolving.{deployed_of}
use Rattle.snapshot_write.proofs.WholeLemmas.{snapshot_is}
use Rattle.snapshot_write.proofs.state.snapshot_text.Goals as goal

pub returns-clause-text : goal.returns-clause-text
returns-clause-text c =
    c.unless_initial.ensures.bytes
    ∙ snapshot_is c.args.stores.now.state (deployed_of c.args.deployment.now.parts) (kept_program c.args.deployment.now.codes) _ _ c.requires c.in_ok-bytes.ensures (c.deref.ensures.value ∙ c.in_ok-initial.ensures)

pub returns-clause-short : goal.returns-clause-short
returns-clause-short c = subst (λ (bytes : List ℕ). length bytes < 2 ^ 64) c.in_ok-bytes.ensures c.unless_initial.ensures.short
