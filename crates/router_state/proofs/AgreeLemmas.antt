-- The order of keys is that in which the lists of the state stand.
use Rattle.std.proofs.Common.{◌≡◌, List}
use Rattle.std.specs.Prelude.{nat_lt}
use Rattle.rows_sorted.specs.Orders.{put, rises_by, rises_in}
use Rattle.router_state.specs.Trees.{root_name_before}
use Rattle.router_state.specs.Contexts.{link_before}
use Rattle.router_state.specs.Queues.{queued_before, service_mark_before, entity_mark_before, suspension_before}
use Rattle.router_state.specs.declared.rows.Entity.{Entity}
use Rattle.router_state.specs.declared.rows.RootName.{RootName}
use Rattle.router_state.specs.declared.rows.Activity.{Activity}
use Rattle.router_state.specs.declared.rows.Link.{Link}
use Rattle.router_state.specs.declared.rows.Queued.{Queued}
use Rattle.router_state.specs.declared.rows.ServiceMark.{ServiceMark}
use Rattle.router_state.specs.declared.rows.EntityMark.{EntityMark}
use Rattle.router_state.specs.declared.rows.Suspension.{Suspension}
use Rattle.router_state.specs.declared.rows.Timer.{Timer}
use Rattle.rows_sorted.specs.Keys.{key_before}
use Rattle.rows_sorted.proofs.KeyLemmas.{number_agrees, pair_agrees}
use Rattle.router_state.specs.Keys.{entity_key, root_name_key, activity_key, link_key, queued_key, service_mark_key, entity_mark_key, suspension_key, timer_key}

pub entity_order : (rows : List Entity) → rises_by (λ x y. key_before (entity_key x) (entity_key y)) rows ≡ rises_in (λ row. row.number.0) rows
entity_order rows = λ i. rises_by (λ x y. number_agrees x.number.0 y.number.0 i) rows

pub entity_put : (row : Entity) (rows : List Entity) → put (λ x y. key_before (entity_key x) (entity_key y)) row rows ≡ put (λ x y. nat_lt x.number.0 y.number.0) row rows
entity_put row rows = λ i. put (λ x y. number_agrees x.number.0 y.number.0 i) row rows

pub root_name_order : (rows : List RootName) → rises_by (λ x y. key_before (root_name_key x) (root_name_key y)) rows ≡ rises_by root_name_before rows
root_name_order rows = λ i. rises_by (λ x y. number_agrees x.entity.0 y.entity.0 i) rows

pub root_name_put : (row : RootName) (rows : List RootName) → put (λ x y. key_before (root_name_key x) (root_name_key y)) row rows ≡ put root_name_before row rows
root_name_put row rows = λ i. put (λ x y. number_agrees x.entity.0 y.entity.0 i) row rows

pub activity_order : (rows : List Activity) → rises_by (λ x y. key_before (activity_key x) (activity_key y)) rows ≡ rises_in (λ row. row.number.0) rows
activity_order rows = λ i. rises_by (λ x y. number_agrees x.number.0 y.number.0 i) rows

pub activity_put : (row : Activity) (rows : List Activity) → put (λ x y. key_before (activity_key x) (activity_key y)) row rows ≡ put (λ x y. nat_lt x.number.0 y.number.0) row rows
activity_put row rows = λ i. put (λ x y. number_agrees x.number.0 y.number.0 i) row rows

pub timer_order : (rows : List Timer) → rises_by (λ x y. key_before (timer_key x) (timer_key y)) rows ≡ rises_in (λ row. row.number.0) rows
timer_order rows = λ i. rises_by (λ x y. number_agrees x.number.0 y.number.0 i) rows

pub timer_put : (row : Timer) (rows : List Timer) → put (λ x y. key_before (timer_key x) (timer_key y)) row rows ≡ put (λ x y. nat_lt x.number.0 y.number.0) row rows
timer_put row rows = λ i. put (λ x y. number_agrees x.number.0 y.number.0 i) row rows

pub suspension_order : (rows : List Suspension) → rises_by (λ x y. key_before (suspension_key x) (suspension_key y)) rows ≡ rises_by suspension_before rows
suspension_order rows = λ i. rises_by (λ x y. number_agrees x.activity.0 y.activity.0 i) rows

pub suspension_put : (row : Suspension) (rows : List Suspension) → put (λ x y. key_before (suspension_key x) (suspension_key y)) row rows ≡ put suspension_before row rows
suspension_put row rows = λ i. put (λ x y. number_agrees x.activity.0 y.activity.0 i) row rows

pub link_order : (rows : List Link) → rises_by (λ x y. key_before (link_key x) (link_key y)) rows ≡ rises_by link_before rows
link_order rows = λ i. rises_by (λ x y. pair_agrees x.activity.0 x.entity.0 y.activity.0 y.entity.0 i) rows

pub link_put : (row : Link) (rows : List Link) → put (λ x y. key_before (link_key x) (link_key y)) row rows ≡ put link_before row rows
link_put row rows = λ i. put (λ x y. pair_agrees x.activity.0 x.entity.0 y.activity.0 y.entity.0 i) row rows

pub queued_order : (rows : List Queued) → rises_by (λ x y. key_before (queued_key x) (queued_key y)) rows ≡ rises_by queued_before rows
queued_order rows = λ i. rises_by (λ x y. pair_agrees x.activity.0 x.event.id.0 y.activity.0 y.event.id.0 i) rows

pub queued_put : (row : Queued) (rows : List Queued) → put (λ x y. key_before (queued_key x) (queued_key y)) row rows ≡ put queued_before row rows
queued_put row rows = λ i. put (λ x y. pair_agrees x.activity.0 x.event.id.0 y.activity.0 y.event.id.0 i) row rows

pub service_mark_order : (rows : List ServiceMark) → rises_by (λ x y. key_before (service_mark_key x) (service_mark_key y)) rows ≡ rises_by service_mark_before rows
service_mark_order rows = λ i. rises_by (λ x y. pair_agrees x.activity.0 x.service y.activity.0 y.service i) rows

pub service_mark_put : (row : ServiceMark) (rows : List ServiceMark) → put (λ x y. key_before (service_mark_key x) (service_mark_key y)) row rows ≡ put service_mark_before row rows
service_mark_put row rows = λ i. put (λ x y. pair_agrees x.activity.0 x.service y.activity.0 y.service i) row rows

pub entity_mark_order : (rows : List EntityMark) → rises_by (λ x y. key_before (entity_mark_key x) (entity_mark_key y)) rows ≡ rises_by entity_mark_before rows
entity_mark_order rows = λ i. rises_by (λ x y. pair_agrees x.activity.0 x.entity.0 y.activity.0 y.entity.0 i) rows

pub entity_mark_put : (row : EntityMark) (rows : List EntityMark) → put (λ x y. key_before (entity_mark_key x) (entity_mark_key y)) row rows ≡ put entity_mark_before row rows
entity_mark_put row rows = λ i. put (λ x y. pair_agrees x.activity.0 x.entity.0 y.activity.0 y.entity.0 i) row rows
