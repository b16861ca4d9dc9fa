use Rattle.std.proofs.Common.{◌≡◌, ◌∙◌, sym, ap, cond, Some, None}
use Rattle.slee_value.specs.declared.component.ComponentId.{ComponentId}
use Rattle.deploy_model.specs.declared.ids.Triple.{Triple}
use Rattle.deploy_model.specs.Rules.{is_same_id}
use Rattle.deploy_model.specs.Ids.{number_in}
use Rattle.deploy_model.proofs.Noting.{absent_by}
use Rattle.deploy_model.proofs.NotingIds.{id_by, noted_id}
use Rattle.deploy_model.proofs.ids.Ids.note.Goals as goal

pub returns : goal.returns
returns c = λ q.
    let m = c.args.self.now.found in
    let t = c.triple_of-triple.result in
    let key : ComponentId = record { name = t.name.now; vendor = t.vendor.now; version = t.version.now } in
    let is : key ≡ c.args.id.now = id_by c.args.id.now t.name.now t.vendor.now t.version.now c.triple_of-triple.ensures.name c.triple_of-triple.ensures.vendor c.triple_of-triple.ensures.version in
    let none : number_in m key ≡ None = absent_by c.get.result _ c.get.ensures.value (sym c.is_some.ensures ∙ c.if-is_some.false) in
    let asked : Triple = record { name = record { ref_ptr = (0, 0); now = q.name }; vendor = record { ref_ptr = (0, 0); now = q.vendor }; version = record { ref_ptr = (0, 0); now = q.version } } in
    let found : number_in c.insert.new.self q ≡ cond (is_same_id key q) (Some c.args.number) (number_in m q) = c.in_ok-insert.ensures.updates.0 asked in
    found
    ∙ ap (λ (k : ComponentId). cond (is_same_id k q) (Some c.args.number) (number_in m q)) is
    ∙ noted_id (number_in m) c.args.id.now c.args.number q (sym (ap (number_in m) is) ∙ none)
