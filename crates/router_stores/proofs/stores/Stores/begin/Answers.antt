-- nothing is there but what was deployed
use Rattle.std.proofs.Common.{◌≡◌, ◌+◌, map, length, refl, sym, ap, ◌∙◌}
use Rattle.std.proofs.lemmas.List.{length-map}
use Rattle.deploy_model.specs.Deployed.{Deployed}
use Rattle.deploy_model.specs.Resolving.{deployed_of, table_of}
use Rattle.deploy_model.specs.Rules.{Numbering}
use Rattle.deploy_model.specs.Tables.{key_number}
use Rattle.deploy_model.specs.declared.parts.Block.{Block}
use Rattle.deploy_model.specs.declared.parts.Parts.{Parts}
use Rattle.deploy_model.specs.declared.parts.ProfileSpec.{ProfileSpec}
use Rattle.slee_descriptor.specs.declared.deployment.Deployment.{Deployment}
use Rattle.router_state.specs.Initial.{service_deployed, table_activities}
use Rattle.router_stores.specs.Begun.{activities_up_to}
use Rattle.router_stores.specs.TableSpecs.{specs_of}
use Rattle.router_stores.proofs.BegunLemmas.{begun_all}
use Rattle.router_stores.proofs.PartLemmas.{services_begin}
use Rattle.router_stores.proofs.stores.Stores.begin.Goals as goal

pub invariant_of-result : goal.invariant_of-result
invariant_of-result c = record {
  ordered = rw c.requires.begun.links (c.new-7.ensures.agrees c.new-2.result.rows);
  tables = c.new-6.ensures.tables ∙ c.requires.tables ∙ ap (λ (d : Deployment). specs_of (deployed_of d.parts)) (sym c.of.ensures);
  ready = λ a. rw (c.new-8.ensures, c.new-4.ensures.events) refl;
}

pub returns : goal.returns
returns c =
    let parts : Parts = c.args.deployment.now.parts in
    let d : Deployed = deployed_of parts in
    let profiles : Numbering = key_number (λ (p : ProfileSpec). p.key) parts.profiles in
    let blocks : Numbering = key_number (λ (b : Block). b.key) parts.blocks in
    let count = length-map parts.tables (table_of profiles) in
    let activities : c.args.contexts.activities ≡ table_activities 0 d.tables = c.requires.begun.activities ∙ ap activities_up_to (sym count) ∙ begun_all d.tables in
    let next : c.args.contexts.next ≡ length d.tables + 1 = c.requires.begun.next ∙ ap (λ n. n + 1) (sym count) in
    let services : c.args.services.items ≡ map service_deployed d.services = c.requires.services ∙ services_begin blocks parts.services in
    rw (c.of.ensures, c.new.ensures, c.new-2.ensures.rows, c.new-2.ensures.next, activities, c.requires.begun.attributes, c.requires.begun.links, c.requires.begun.names, next, c.new-3.ensures, c.new-4.ensures.events, c.new-4.ensures.services_done, c.new-4.ensures.delivered, c.new-4.ensures.suspensions, c.new-5.ensures.timers, c.new-5.ensures.next, c.new-6.ensures.rows, c.new-9.ensures, services) refl
