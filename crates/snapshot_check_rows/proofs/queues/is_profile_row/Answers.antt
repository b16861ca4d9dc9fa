-- all parts of the test
use Rattle.std.proofs.Common.{◌≡◌, true, length, ap, sym, ◌∙◌}
use Rattle.std.specs.Prelude.{◌&&◌, nat_lt}
use Rattle.std.specs.List.{list_all}
use Rattle.deploy_model.specs.Deployed.{Deployed, table_attributes}
use Rattle.deploy_model.specs.Resolving.{deployed_of}
use Rattle.router_state.specs.Fits.{are_declared, is_text, is_value}
use Rattle.snapshot_check_rows.proofs.queues.is_profile_row.Goals as goal

pub returns-then-are_declared_fields : goal.returns-then-are_declared_fields
returns-then-are_declared_fields c =
    let d : Deployed = deployed_of c.args.deployment.now.parts in
    let there : nat_lt c.args.row.now.table (length d.tables) ≡ true = sym c.has_table.ensures ∙ c.if-has_table.true in
    let text : is_text c.args.row.now.row ≡ true = sym c.is_text.ensures ∙ c.if-is_text.true in
    let declared : are_declared (table_attributes d c.args.row.now.table) c.args.row.now.attributes ≡ true = ((λ i. are_declared (sym c.table_attributes.ensures i) (sym c.as_slice.ensures.fields i)) ∙ sym c.are_declared_fields.ensures ∙ c.if-are_declared_fields.true) in
    c.are_values.ensures
    ∙ ap (list_all (λ field. is_value c.args.next_activity c.args.next_timer field.1)) c.as_slice-then-are_declared_fields.ensures.fields
    ∙ (λ i. sym there i && (sym text i && (sym declared i && list_all (λ field. is_value c.args.next_activity c.args.next_timer field.1) c.args.row.now.attributes)))
