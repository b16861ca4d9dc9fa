-- The indexes of a deployment: which number each key of a profile and a block has, which blocks handle each event, and which services it may begin.
use Rattle.std.specs.Prelude.{◌≡◌, ◌<◌, ◌^◌, length}
use Rattle.script_tree.specs.Tree.{Bytes}
use Rattle.deploy_model.specs.declared.parts.Parts.{Parts}
use Rattle.deploy_model.specs.Deployed.{Deployed, profile_named, block_named, handlers_of}
use Rattle.deploy_model.specs.Selecting.{starters_of}
use Rattle.slee_descriptor.specs.Keys.{number_in}
use Rattle.slee_descriptor.specs.ByEvents.{numbers_at}
use Rattle.slee_descriptor.specs.declared.indexes.Indexes.{Indexes}

-- Indexes that have for each key and event what the deployment says.
pub record AreIndexes (i : Indexes) (d : Deployed) : Type 0 where
  pub profiles : (q : Bytes) → number_in i.profiles q ≡ profile_named d q
  pub blocks : (q : Bytes) → number_in i.blocks q ≡ block_named d q
  pub handlers : (q : Bytes) → numbers_at i.handlers q ≡ handlers_of d q
  pub starters : (q : Bytes) → numbers_at i.starters q ≡ starters_of d q

-- Parts of which those that scripts name have numbers.
pub record AreNumbered (p : Parts) : Type 0 where
  pub events : length p.events < 2 ^ 32
  pub tables : length p.tables < 2 ^ 32
  pub services : length p.services < 2 ^ 32
