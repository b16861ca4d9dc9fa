-- the table is named by the deployment
use Rattle.std.proofs.Common.{ℕ, List, sym, ap, ◌∙◌}
use Rattle.std.specs.Prelude.{option_and_then}
use Rattle.deploy_model.specs.Deployed.{Deployed, table_named}
use Rattle.deploy_model.specs.Resolving.{deployed_of}
use Rattle.router_state.specs.Profiles.{row_at}
use Rattle.router_state.specs.State.{State}
use Rattle.router_state.specs.declared.rows.ProfileRow.{ProfileRow}
use Rattle.router_look.proofs.RowLemmas.{absent, named_there}
use Rattle.router_look.proofs.rows.row_of.Goals as goal

pub returns-in-Ok : goal.returns-in-Ok
returns-in-Ok c =
    let s : State = c.args.stores.now.state in
    let named = c.in-Some.ensures ∙ ap (λ (q : List ℕ). table_named (deployed_of c.args.deployment.now.parts) q) c.as_str.ensures.bytes ∙ ap (λ (d : Deployed). table_named d c.args.table.now) c.requires in
    sym (ap (λ (rows : List ProfileRow). row_at rows c.in-Some.number c.args.row.now) (sym c.profiles.ensures.rows) ∙ c.in-Ok.ensures.row) ∙ ap (λ found. option_and_then (λ n. row_at s.rows n c.args.row.now) found) named

pub returns-in-Err : goal.returns-in-Err
returns-in-Err c =
    let s : State = c.args.stores.now.state in
    let named = c.in-Some.ensures ∙ ap (λ (q : List ℕ). table_named (deployed_of c.args.deployment.now.parts) q) c.as_str.ensures.bytes ∙ ap (λ (d : Deployed). table_named d c.args.table.now) c.requires in
    let none = absent s.deployment _ _ c.in-Some.number c.args.row.now _ c.profiles.ensures.tables (named_there s.deployment c.args.table.now c.in-Some.number named) c.in-Err.ensures.fault in
    sym (ap (λ (rows : List ProfileRow). row_at rows c.in-Some.number c.args.row.now) (sym c.profiles.ensures.rows) ∙ none) ∙ ap (λ found. option_and_then (λ n. row_at s.rows n c.args.row.now) found) named

pub returns-in-None : goal.returns-in-None
returns-in-None c =
    let s : State = c.args.stores.now.state in
    let named = c.in-None.ensures ∙ ap (λ (q : List ℕ). table_named (deployed_of c.args.deployment.now.parts) q) c.as_str.ensures.bytes ∙ ap (λ (d : Deployed). table_named d c.args.table.now) c.requires in
    ap (λ found. option_and_then (λ n. row_at s.rows n c.args.row.now) found) named
