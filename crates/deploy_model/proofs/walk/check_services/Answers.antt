use Rattle.std.proofs.Common.{◌≡◌, ◌∙◌, subst, ℕ, List, Option}
use Rattle.std.specs.Prelude.{codes}
use Rattle.slee_value.specs.declared.component.ComponentId.{ComponentId}
use Rattle.deploy_model.specs.declared.parts.Service.{Service}
use Rattle.deploy_model.specs.Faults.{Says, under}
use Rattle.deploy_model.specs.Firsts.{answer_of}
use Rattle.deploy_model.specs.Ids.{id_answer}
use Rattle.deploy_model.specs.Lookups.{known_of}
use Rattle.deploy_model.specs.Rules.{items}
use Rattle.deploy_model.specs.Tables.{key_number, id_number, service}
use Rattle.deploy_model.proofs.walk.check_services.Goals as goal

pub returns : goal.returns
returns c =
    let keys : answer_of c.in_ok-keys.keys ≡ key_number (λ (s : Service). s.key) c.args.parts.now.services =
    λ i q. (c.in_ok-keys.ensures q ∙ (λ j. key_number (λ (s : Service). s.key) (c.as_slice.ensures j) q)) i in
    let ids : id_answer c.in_ok-ids.ids ≡ id_number (λ (s : Service). s.id) c.args.parts.now.services =
    λ i q. (c.in_ok-ids.ensures q ∙ (λ j. id_number (λ (s : Service). s.id) (c.as_slice-2.ensures j) q)) i in
    let P : (List ℕ → Option ℕ) → Type 0 = λ k. Says (under (codes "services") (items (service (known_of c.args.all.now) k (id_answer c.in_ok-ids.ids)) c.args.parts.now.services)) c.check_member.result in
    let Q : (ComponentId → Option ℕ) → Type 0 = λ d. Says (under (codes "services") (items (service (known_of c.args.all.now) (key_number (λ (s : Service). s.key) c.args.parts.now.services) d) c.args.parts.now.services)) c.check_member.result in
    subst Q ids (subst P keys c.check_member.ensures)
