-- When the names in the parts of a deployment are names. In code they are so by their type.
use Rattle.std.specs.Prelude.{◌≡◌, Bool, true, List, map}
use Rattle.std.specs.List.{AllByRecursion, list_all}
use Rattle.slee_value.specs.Name.{is_name}
use Rattle.slee_value.specs.Order.{rises}
use Rattle.slee_value.specs.declared.kind.Kind.{Kind}
use Rattle.script_tree.specs.Tree.{Bytes}
use Rattle.deploy_model.specs.declared.parts.Block.{Block}
use Rattle.deploy_model.specs.declared.parts.EventType.{EventType}
use Rattle.deploy_model.specs.declared.parts.Parts.{Parts}
use Rattle.deploy_model.specs.declared.parts.ProfileSpec.{ProfileSpec}
use Rattle.deploy_model.specs.declared.parts.Relation.{Relation}
use Rattle.deploy_model.specs.declared.parts.Service.{Service}
use Rattle.deploy_model.specs.declared.parts.Table.{Table}

-- each field has a name
abbrev pub have_names : List (Bytes × Kind) → Bool
have_names fields = list_all (λ (f : Bytes × Kind). is_name f.0) fields

pub record IsNamedEvent (e : EventType) : Type 0 where
  pub key : is_name e.key ≡ true
  pub fields : have_names e.fields ≡ true

pub record IsNamedBlock (b : Block) : Type 0 where
  pub key : is_name b.key ≡ true
  pub fields : have_names b.fields ≡ true
  pub attributes : have_names b.attributes ≡ true
  pub aliases : list_all (λ (a : Bytes × Bytes). is_name a.1) b.aliases ≡ true
  pub relations : list_all (λ (r : Relation). is_name r.name) b.relations ≡ true

-- The names in all parts are names, and tables rise by theirs.
pub record AreNames (p : Parts) : Type 0 where
  pub events : AllByRecursion IsNamedEvent p.events
  pub profiles : list_all (λ (q : ProfileSpec). have_names q.attributes) p.profiles ≡ true
  pub tables : list_all (λ (t : Table). is_name t.name) p.tables ≡ true
  pub rise : rises (map (λ (t : Table). t.name) p.tables) ≡ true
  pub blocks : AllByRecursion IsNamedBlock p.blocks
  pub services : list_all (λ (s : Service). is_name s.key) p.services ≡ true
