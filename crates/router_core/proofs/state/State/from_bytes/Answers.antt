-- the rows are those of a well-formed state
use Rattle.std.proofs.Common.{◌≡◌, Err, Some, ap, sym, ◌∙◌}
use Rattle.std.proofs.lemmas.Result.{err_from_is_err_and}
use Rattle.deploy_model.specs.Resolving.{deployed_of}
use Rattle.script_types.specs.ProgramOf.{kept_program}
use Rattle.router_state.specs.State.{State}
use Rattle.snapshot_rows.specs.Rows.{state_of}
use Rattle.router_core.specs.declared.fault.StateFault.{StateFault}
use Rattle.router_core.specs.declared.fault.StateFault.TheVariants as faults
use Rattle.router_core.proofs.RestoreLemmas.{restored_well}
use Rattle.router_core.proofs.state.State.from_bytes.Goals as goal

pub returns-in_err-rows-clause-bad : goal.returns-in_err-rows-clause-bad
returns-in_err-rows-clause-bad c = λ is.
    let q = err_from_is_err_and c.from_residual.result c.from_residual.ensures.1 in
    let one = q.1 in
    let two = q.2 in
    let bad : c.in_err-rows.field-0.0 ≡ faults.Bad = cc in
    c.in_err-rows.ensures.bad (ap (λ (e : StateFault). Err e) bad) (kept_program c.args.deployment.now.codes)

pub state_with-requires-clause-well : goal.state_with-requires-clause-well
state_with-requires-clause-well c =
    let d = deployed_of c.args.deployment.now.parts in
    let p = kept_program c.args.deployment.now.codes in
    restored_well c.args.format d p c.args.bytes.now (state_of d p c.in_ok-rows.rows) (c.in_ok-rows.ensures.ok p)

pub returns-in-Ok-clause-ok : goal.returns-in-Ok-clause-ok
returns-in-Ok-clause-ok c = c.in_ok-rows.ensures.ok (kept_program c.args.deployment.now.codes) ∙ ap (λ (s : State). Some s) (sym c.in-Ok.ensures)
