use Rattle.std.proofs.Common.{◌≡◌, ◌∙◌, ℕ, List, map, refl, sym}
use Rattle.script_types.specs.declared.codes.EventCode.{EventCode}
use Rattle.deploy_model.specs.declared.parts.EventType.{EventType}
use Rattle.deploy_model.specs.declared.parts.ProfileSpec.{ProfileSpec}
use Rattle.deploy_model.specs.declared.parts.Table.{Table}
use Rattle.deploy_model.specs.declared.parts.Block.{Block}
use Rattle.deploy_model.specs.declared.parts.Service.{Service}
use Rattle.deploy_model.specs.Deployed.{DeployedProfile, DeployedTable, DeployedBlock, DeployedService}
use Rattle.deploy_model.proofs.Faultless.{each_handled_once}
use Rattle.deploy_model.specs.Resolving.{event_of, profile_of, table_of, block_of, deployed_of, service_of}
use Rattle.deploy_model.specs.Selecting.{service_order}
use Rattle.deploy_model.specs.Tables.{key_number}
use Rattle.slee_descriptor.specs.Counting.{begun_by, noted_from}
use Rattle.slee_descriptor.specs.Keys.{number_in}
use Rattle.slee_descriptor.specs.Ranks.{rank_of}
use Rattle.slee_descriptor.proofs.Counted.{handled}
use Rattle.slee_descriptor.proofs.Numbering.{placed}
use Rattle.slee_descriptor.proofs.Selected.{begun}
use Rattle.slee_descriptor.proofs.indexes.indexes_of.Goals as goal

pub returns : goal.returns
returns c =
    let p = c.args.parts.now in
    let profiles = key_number (λ (x : ProfileSpec). x.key) p.profiles in
    let blocks = key_number (λ (b : Block). b.key) p.blocks in
    let once = each_handled_once p c.requires in
    let keyed : (q : List ℕ) → number_in c.in_ok-blocks.blocks q ≡ blocks q = λ q. c.in_ok-blocks.ensures q ∙ (λ j. key_number (λ (b : Block). b.key) (c.as_slice-2.ensures j) q) in
    let order = c.as_slice-6.ensures.value ∙ c.in_ok-order.ensures ∙ (λ j. map rank_of (service_order (map (service_of (λ q. keyed q j)) (c.as_slice-4.ensures j)))) in
    record {
      profiles = λ q. c.in_ok-profiles.ensures q ∙ (λ j. key_number (λ (x : ProfileSpec). x.key) (c.as_slice.ensures j) q) ∙ sym (placed profile_of (λ (x : DeployedProfile). x.key) q p.profiles);
      blocks = λ q. c.in_ok-blocks.ensures q ∙ (λ j. key_number (λ (b : Block). b.key) (c.as_slice-2.ensures j) q) ∙ sym (placed (block_of blocks) (λ (b : DeployedBlock). b.key) q p.blocks);
      handlers = λ q. c.in_ok-handlers.ensures q ∙ (λ j. noted_from 0 (c.as_slice-3.ensures j) q) ∙ handled blocks q p.blocks 0 once;
      starters = λ q. c.in_ok-starters.ensures q ∙ (λ j. begun_by (c.as_slice-5.ensures j) (order j) q) ∙ begun (deployed_of p) blocks p.blocks q refl once (service_order (map (service_of blocks) p.services));
    }
