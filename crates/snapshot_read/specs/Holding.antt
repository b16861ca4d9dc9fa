-- Rows made of what was read, where it can be held.
use Rattle.std.specs.Prelude.{◌≡◌, ◌&&◌, Bool, false, List, [], ◌∷◌, ◌++◌, Result, Ok, Err, map, filter_map, flat_map}
use Rattle.std.specs.List.{list_all}
use Rattle.slee_value.specs.Fields.{are_fields}
use Rattle.slee_value.specs.Name.{is_name}
use Rattle.router_state.specs.Parsing.{EntityPart, ActivityPart, LinkPart}
use Rattle.router_state.specs.Restoring.{entity_of, root_name_of, fields_of, activity_of, attributes_of, events_of, services_done_of, delivered_of, suspension_of, link_of, masks_of}
use Rattle.router_state.specs.declared.rows.ProfileRow.{ProfileRow}
use Rattle.snapshot_read.specs.Names.{is_stem_named, is_kind_named}
use Rattle.snapshot_read.specs.declared.fault.ReadFault.{ReadFault}
use Rattle.snapshot_read.specs.declared.fault.ReadFault.TheVariants as faults
use Rattle.snapshot_read.specs.declared.entity_rows.EntityRows.{EntityRows}
use Rattle.snapshot_read.specs.declared.activity_rows.ActivityRows.{ActivityRows}
use Rattle.snapshot_read.specs.declared.link_rows.LinkRows.{LinkRows}

-- The test fails. Want of memory says nothing.
abbrev pub Refuses : Bool → ReadFault → Type 0
Refuses passes faults.Bad = passes ≡ false
Refuses passes faults.NoMemory = Unit {0}

-- what a call gave is right, or it was refused and the test fails
abbrev pub Holds : {X : Type 0} → (X → Type 0) → Bool → Result X ReadFault → Type 0
Holds Right passes (Ok x) = Right x
Holds Right passes (Err e) = Refuses passes e

-- the names of an entity are names
abbrev pub holds_entity : EntityPart → Bool
holds_entity x = is_stem_named x.stem && list_all (λ field. is_name field.0) x.fields

-- the names of an activity and of its events are names, and the fields of events rise
abbrev pub holds_activity : ActivityPart → Bool
holds_activity x = is_kind_named x.kind && list_all (λ event. are_fields event.fields) x.events

-- the attributes of a profile row rise
abbrev pub holds_row : ProfileRow → Bool
holds_row row = are_fields row.attributes

-- the rows of these entities
pub record AreEntityRows (xs : List EntityPart) (rows : EntityRows) : Type 0 where
  pub entities : rows.entities.items ≡ map entity_of xs
  pub root_names : rows.root_names.items ≡ filter_map root_name_of xs
  pub fields : rows.fields.items ≡ flat_map fields_of xs

-- the rows of one more entity
pub record WithEntity (x : EntityPart) (old new : EntityRows) : Type 0 where
  pub entities : new.entities.items ≡ old.entities.items ++ map entity_of (x ∷ [])
  pub root_names : new.root_names.items ≡ old.root_names.items ++ filter_map root_name_of (x ∷ [])
  pub fields : new.fields.items ≡ old.fields.items ++ fields_of x

-- the rows of these activities
pub record AreActivityRows (xs : List ActivityPart) (rows : ActivityRows) : Type 0 where
  pub activities : rows.activities.items ≡ map activity_of xs
  pub attributes : rows.attributes.items ≡ flat_map attributes_of xs
  pub events : rows.events.items ≡ flat_map events_of xs
  pub services_done : rows.services_done.items ≡ flat_map services_done_of xs
  pub delivered : rows.delivered.items ≡ flat_map delivered_of xs
  pub suspensions : rows.suspensions.items ≡ filter_map suspension_of xs

-- the rows of one more activity
pub record WithActivity (x : ActivityPart) (old new : ActivityRows) : Type 0 where
  pub activities : new.activities.items ≡ old.activities.items ++ map activity_of (x ∷ [])
  pub attributes : new.attributes.items ≡ old.attributes.items ++ attributes_of x
  pub events : new.events.items ≡ old.events.items ++ events_of x
  pub services_done : new.services_done.items ≡ old.services_done.items ++ services_done_of x
  pub delivered : new.delivered.items ≡ old.delivered.items ++ delivered_of x
  pub suspensions : new.suspensions.items ≡ old.suspensions.items ++ filter_map suspension_of (x ∷ [])

-- the rows of these attachments
pub record AreLinkRows (xs : List LinkPart) (rows : LinkRows) : Type 0 where
  pub links : rows.links.items ≡ map link_of xs
  pub masks : rows.masks.items ≡ flat_map masks_of xs
