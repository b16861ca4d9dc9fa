-- The orders of the lists, and those of their keys.
use Rattle.std.proofs.Common.{◌≡◌, refl}
use Rattle.rows_sorted.specs.Keys.{key_before}
use Rattle.rows_sorted.proofs.KeyLemmas.{number_agrees, pair_agrees}
use Rattle.router_state.specs.Keys.{entity_key, root_name_key, field_key, activity_key, attribute_key, link_key, mask_key, named_key, queued_key, service_mark_key, entity_mark_key, suspension_key, timer_key, profile_row_key}
use Rattle.router_state.specs.Contexts.{attribute_before, link_before, name_before}
use Rattle.router_state.specs.Fields.{field_before}
use Rattle.router_state.specs.Masks.{mask_before}
use Rattle.router_state.specs.Profiles.{row_before}
use Rattle.router_state.specs.Queues.{queued_before, service_mark_before, entity_mark_before, suspension_before}
use Rattle.router_state.specs.Trees.{root_name_before}
use Rattle.router_state.specs.declared.rows.Entity.{Entity}
use Rattle.router_state.specs.declared.rows.RootName.{RootName}
use Rattle.router_state.specs.declared.rows.Field.{Field}
use Rattle.router_state.specs.declared.rows.Activity.{Activity}
use Rattle.router_state.specs.declared.rows.Attribute.{Attribute}
use Rattle.router_state.specs.declared.rows.Link.{Link}
use Rattle.router_state.specs.declared.rows.Mask.{Mask}
use Rattle.router_state.specs.declared.rows.Named.{Named}
use Rattle.router_state.specs.declared.rows.Queued.{Queued}
use Rattle.router_state.specs.declared.rows.ServiceMark.{ServiceMark}
use Rattle.router_state.specs.declared.rows.EntityMark.{EntityMark}
use Rattle.router_state.specs.declared.rows.Suspension.{Suspension}
use Rattle.router_state.specs.declared.rows.Timer.{Timer}
use Rattle.router_state.specs.declared.rows.ProfileRow.{ProfileRow}
use Rattle.entity_tree.specs.Kept.{entity_before}
use Rattle.activity_context.specs.Views.{activity_before}
use Rattle.timer_facility.specs.Views.{timer_before}

pub entities : (λ (x y : Entity). key_before (entity_key x) (entity_key y)) ≡ entity_before
entities = λ i x y. number_agrees x.number.0 y.number.0 i

pub root_names : (λ (x y : RootName). key_before (root_name_key x) (root_name_key y)) ≡ root_name_before
root_names = λ i x y. number_agrees x.entity.0 y.entity.0 i

pub fields : (λ (x y : Field). key_before (field_key x) (field_key y)) ≡ field_before
fields = refl

pub activities : (λ (x y : Activity). key_before (activity_key x) (activity_key y)) ≡ activity_before
activities = λ i x y. number_agrees x.number.0 y.number.0 i

pub attributes : (λ (x y : Attribute). key_before (attribute_key x) (attribute_key y)) ≡ attribute_before
attributes = refl

pub links : (λ (x y : Link). key_before (link_key x) (link_key y)) ≡ link_before
links = λ i x y. pair_agrees x.activity.0 x.entity.0 y.activity.0 y.entity.0 i

pub masks : (λ (x y : Mask). key_before (mask_key x) (mask_key y)) ≡ mask_before
masks = refl

pub names : (λ (x y : Named). key_before (named_key x) (named_key y)) ≡ name_before
names = refl

pub events : (λ (x y : Queued). key_before (queued_key x) (queued_key y)) ≡ queued_before
events = λ i x y. pair_agrees x.activity.0 x.event.id.0 y.activity.0 y.event.id.0 i

pub services_done : (λ (x y : ServiceMark). key_before (service_mark_key x) (service_mark_key y)) ≡ service_mark_before
services_done = λ i x y. pair_agrees x.activity.0 x.service y.activity.0 y.service i

pub delivered : (λ (x y : EntityMark). key_before (entity_mark_key x) (entity_mark_key y)) ≡ entity_mark_before
delivered = λ i x y. pair_agrees x.activity.0 x.entity.0 y.activity.0 y.entity.0 i

pub suspensions : (λ (x y : Suspension). key_before (suspension_key x) (suspension_key y)) ≡ suspension_before
suspensions = λ i x y. number_agrees x.activity.0 y.activity.0 i

pub timers : (λ (x y : Timer). key_before (timer_key x) (timer_key y)) ≡ timer_before
timers = λ i x y. number_agrees x.number.0 y.number.0 i

pub rows : (λ (x y : ProfileRow). key_before (profile_row_key x) (profile_row_key y)) ≡ row_before
rows = refl
