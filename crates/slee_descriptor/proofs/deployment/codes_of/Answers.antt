use Rattle.std.proofs.Common.{◌≡◌, ◌∙◌, map, ℕ, List}
use Rattle.deploy_model.specs.declared.parts.ProfileSpec.{ProfileSpec}
use Rattle.deploy_model.specs.declared.parts.Block.{Block}
use Rattle.deploy_model.specs.declared.parts.Service.{Service}
use Rattle.deploy_model.specs.Deployed.{DeployedProfile, DeployedBlock}
use Rattle.deploy_model.specs.Resolving.{event_of, profile_of, block_of}
use Rattle.deploy_model.specs.Tables.{key_number}
use Rattle.slee_descriptor.specs.CodesOfParts.{table_code, block_code, names_in}
use Rattle.slee_descriptor.specs.Keys.{number_in}
use Rattle.slee_descriptor.proofs.Numbering.{placed}
use Rattle.slee_descriptor.proofs.deployment.codes_of.Goals as goal

pub returns-clause-coded : goal.returns-clause-coded
returns-clause-coded c =
    let p = c.args.parts.now in
    let named : (q : List ℕ) → number_in c.args.indexes.now.profiles q ≡ key_number (λ (x : ProfileSpec). x.key) p.profiles q =
    λ q. c.requires.profiles q ∙ placed profile_of (λ (x : DeployedProfile). x.key) q p.profiles in
    let keyed : (q : List ℕ) → number_in c.args.indexes.now.blocks q ≡ key_number (λ (b : Block). b.key) p.blocks q =
    λ q. c.requires.blocks q ∙ placed (block_of (key_number (λ (b : Block). b.key) p.blocks)) (λ (b : DeployedBlock). b.key) q p.blocks in
    let events = c.in_ok-events.ensures ∙ (λ j. map event_of (c.as_slice-2.ensures j)) in
    let tables = c.in_ok-tables.ensures ∙ (λ j. map (table_code (λ q. named q j) (c.as_slice.ensures j)) (c.as_slice-3.ensures j)) in
    let blocks = c.in_ok-blocks.ensures ∙ (λ j. map (block_code (λ q. keyed q j)) (c.as_slice-5.ensures j)) in
    let names = c.in_ok-names.ensures ∙ (λ j. names_in (c.as_slice-6.ensures j) (c.as_slice-7.ensures j) (c.as_slice-8.ensures j)) ∙ (λ j. names_in (events j) (tables j) (blocks j)) in
    λ i. record {
      events = events i;
      tables = tables i;
      services = (c.in_ok-services.ensures ∙ (λ j. map (λ (s : Service). s.key) (c.as_slice-4.ensures j))) i;
      blocks = blocks i;
      names = names i;
      programs = c.new.result;
    }
