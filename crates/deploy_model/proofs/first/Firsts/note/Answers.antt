use Rattle.std.proofs.Common.{◌∙◌, sym}
use Rattle.std.proofs.lemmas.Map.Text.{hash_map_updates_str}
use Rattle.deploy_model.specs.Firsts.{found_in}
use Rattle.deploy_model.proofs.Noting.{noted, absent_by}
use Rattle.deploy_model.proofs.first.Firsts.note.Goals as goal

pub returns : goal.returns
returns g c = λ q.
    hash_map_updates_str c.args.name.now c.args.self.now.found c.insert.new.self _ c.in_ok-insert.ensures.updates q
    ∙ noted (found_in c.args.self.now.found) c.args.name.now c.args.value q (absent_by c.get.result _ c.get.ensures.value (sym c.is_some.ensures ∙ c.if-is_some.false))
