-- What is asked when the next entity is asked for.
use Rattle.std.specs.Prelude.{◌≡◌, ℕ, ◌==◌, Bool, false, ◌&&◌, not, List, Option}
use Rattle.std.specs.List.{list_any, filter_map}
use Rattle.std.specs.Option.{option_map_or}
use Rattle.slee_value.specs.declared.ids.EntityId.{EntityId}
use Rattle.deploy_model.specs.Deployed.{handles}
use Rattle.router_state.specs.declared.rows.Entity.{Entity}
use Rattle.router_state.specs.declared.rows.Event.{Event}
use Rattle.router_state.specs.declared.rows.Link.{Link}
use Rattle.router_state.specs.declared.rows.Mask.{Mask}
use Rattle.router_state.specs.State.{State}
use Rattle.router_state.specs.Trees.{entity_at}
use Rattle.router_state.specs.Masks.{is_masked}
use Rattle.router_state.specs.Queues.{is_delivered}
use Rattle.router_state.specs.Next.{is_for_tree}

-- the entity is one of these
abbrev pub is_among : List EntityId → ℕ → Bool
is_among entities e = list_any (λ entity. entity.0 == e) entities

-- These entities and masks are those of the state, and the rest is what the event asks of an entity that is attached to the activity.
pub record IsAbout (s : State) (a : ℕ) (v : Event) (es : List Entity) (ms : List Mask) (name : List ℕ) (bs : List ℕ) (service : Option ℕ) (received : ℕ → Bool) : Type 0 where
  pub entities : es ≡ s.entities
  pub masks : ms ≡ s.masks
  pub event : name ≡ v.name
  pub target : service ≡ v.target
  -- the blocks that handle the event
  pub blocks : (b : ℕ) → list_any (λ block. block == b) bs ≡ handles s.deployment b v.name
  -- the entities that have received it
  pub delivered : (e : ℕ) → received e ≡ is_delivered s.delivered a e

-- An attached entity may receive the event: its block is one of these, it doesn't mask the event, it hasn't received it, and the event is for its tree.
abbrev pub is_wanted : List Entity → List Mask → ℕ → List ℕ → List ℕ → Option ℕ → (ℕ → Bool) → Entity → Bool
is_wanted rows masks a event blocks target received row =
    list_any (λ block. block == row.block) blocks
    && (not (is_masked masks row.number.0 a event)
    && (not (received row.number.0) && is_for_tree rows target row))

-- the entities of these attachments
abbrev pub entities_of : List Entity → List Link → List Entity
entities_of rows links = filter_map (λ link. entity_at rows link.entity.0) links

-- the entity of an attachment is there and passes
abbrev pub passes : List Entity → (Entity → Bool) → Link → Bool
passes rows wanted link = option_map_or wanted (entity_at rows link.entity.0) false
