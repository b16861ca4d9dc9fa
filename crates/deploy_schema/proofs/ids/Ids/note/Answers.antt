use Rattle.std.proofs.Common.{◌≡◌, ◌∙◌, sym, cond, Some}
use Rattle.slee_value.specs.declared.component.ComponentId.{ComponentId}
use Rattle.deploy_model.specs.Rules.{is_same_id}
use Rattle.deploy_schema.proofs.Noting.{absent_by}
use Rattle.deploy_schema.specs.declared.ids.Triple.{Triple}
use Rattle.deploy_schema.specs.Lookups.{number_in, component_of}
use Rattle.deploy_schema.proofs.NotingIds.{noted_id}
use Rattle.deploy_schema.proofs.ids.Ids.note.Goals as goal

pub returns : goal.returns
returns c = λ q.
    let m = c.args.self.now.found in
    let key : ComponentId = component_of c.args.triple in
    let asked : Triple = record { name = record { ref_ptr = (0, 0); now = q.name }; vendor = record { ref_ptr = (0, 0); now = q.vendor }; version = record { ref_ptr = (0, 0); now = q.version } } in
    let found : number_in c.insert.new.self q ≡ cond (is_same_id key q) (Some c.args.number) (number_in m q) = c.in_ok-insert.ensures.updates.0 asked in
    found ∙ noted_id (number_in m) key c.args.number q (absent_by c.get.result _ c.get.ensures.value (sym c.is_some.ensures ∙ c.if-is_some.false))
