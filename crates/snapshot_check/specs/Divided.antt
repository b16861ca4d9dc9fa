-- The tests of a well-formed state, divided by what finds rows and by what is put in order.
use Rattle.std.specs.Prelude.{Bool, ◌&&◌, List, nat_le}
use Rattle.std.specs.List.{list_all}
use Rattle.deploy_model.specs.Deployed.{Deployed}
use Rattle.rows_sorted.specs.Orders.{rises_by}
use Rattle.rows_sorted.specs.Keys.{Key, key_before, Rises}
use Rattle.router_state.specs.Closed.{are_roots_held, are_stopping_with_trees, are_nulls_in_use}
use Rattle.router_state.specs.Fits.{is_u64}
use Rattle.router_state.specs.Keys.{entity_key, root_name_key, field_key, activity_key, attribute_key, link_key, mask_key, named_key, queued_key, service_mark_key, entity_mark_key, suspension_key, timer_key, profile_row_key}
use Rattle.router_state.specs.Profiles.{are_unique}
use Rattle.router_state.specs.Timers.{last_moment}
use Rattle.router_state.specs.WellContexts.{are_services, differ_in_kind, is_activity_row, is_attribute_row, is_link_row, is_mask_row, is_name_row, tables_have_activities}
use Rattle.router_state.specs.WellEntities.{all_differ, differ_in_name, has_its_fields, is_entity_row, is_field_row, is_named, is_root_name}
use Rattle.router_state.specs.WellQueues.{differ_in_number, ends_right, is_entity_mark, is_event_row, is_service_mark, is_suspension_row}
use Rattle.router_state.specs.WellRows.{is_next_number, is_profile_row, is_timer_row}
use Rattle.snapshot_rows.specs.declared.rows.Rows.{Rows}

-- the clock, counts and next numbers are in their ranges
abbrev pub fit_counts : Rows → Bool
fit_counts r =
    nat_le r.clock last_moment
    && (is_u64 r.inputs
    && (is_next_number r.next_entity
    && (is_next_number r.next_activity && (is_next_number r.next_timer && is_next_number r.next_event))))

-- the rows rise by their keys
abbrev pub rise : {Row : Type 0} → (Row → Key) → List Row → Bool
rise key rows = rises_by (λ x y. key_before (key x) (key y)) rows

-- each list rises by its keys
abbrev pub are_in_order : Rows → Bool
are_in_order r =
    rise entity_key r.entities.items
    && (rise root_name_key r.root_names.items
    && (rise field_key r.fields.items
    && (rise activity_key r.activities.items
    && (rise attribute_key r.attributes.items
    && (rise link_key r.links.items
    && (rise mask_key r.masks.items
    && (rise named_key r.names.items
    && (rise queued_key r.events.items
    && (rise service_mark_key r.services_done.items
    && (rise entity_mark_key r.delivered.items
    && (rise suspension_key r.suspensions.items
    && (rise timer_key r.timers.items && rise profile_row_key r.rows.items))))))))))))

-- the orders by which rows are found
pub record InOrder (r : Rows) : Type 0 where
  pub entities : Rises entity_key r.entities.items
  pub root_names : Rises root_name_key r.root_names.items
  pub fields : Rises field_key r.fields.items
  pub activities : Rises activity_key r.activities.items
  pub links : Rises link_key r.links.items
  pub events : Rises queued_key r.events.items
  pub delivered : Rises entity_mark_key r.delivered.items
  pub rows : Rises profile_row_key r.rows.items

-- entities, convergence names and fields fit, one by one
abbrev pub fit_entities : Deployed → Rows → Bool
fit_entities d r =
    list_all (is_entity_row d r.entities.items r.next_entity) r.entities.items
    && (list_all (is_root_name d r.entities.items r.next_activity r.next_event) r.root_names.items
    && (list_all (is_named r.root_names.items) r.entities.items
    && (list_all (is_field_row r.entities.items r.next_activity r.next_timer) r.fields.items
    && list_all (has_its_fields d r.fields.items) r.entities.items)))

-- activities and what hangs on them fit, one by one
abbrev pub fit_activities : Deployed → Rows → Bool
fit_activities d r =
    list_all (is_activity_row d r.next_activity) r.activities.items
    && (tables_have_activities r.activities.items 0 d.tables
    && (list_all (is_attribute_row d r.activities.items r.next_activity r.next_timer) r.attributes.items
    && (list_all (is_link_row r.entities.items r.activities.items) r.links.items
    && (list_all (is_mask_row d r.links.items) r.masks.items && list_all (is_name_row r.activities.items) r.names.items))))

-- what waits fits, one by one
abbrev pub fit_queues : Deployed → Rows → Bool
fit_queues d r =
    list_all (is_event_row d r.activities.items r.next_activity r.next_timer r.next_event) r.events.items
    && (list_all (ends_right r.events.items) r.activities.items
    && (list_all (is_service_mark d r.events.items) r.services_done.items
    && (list_all (is_entity_mark r.events.items r.next_entity) r.delivered.items
    && list_all (is_suspension_row r.clock r.events.items r.delivered.items) r.suspensions.items)))

-- services, timers and rows of profile tables fit, one by one
abbrev pub fit_others : Deployed → Rows → Bool
fit_others d r =
    are_services d r.activities.items r.services.items
    && (list_all (is_timer_row r.activities.items r.next_timer) r.timers.items
    && list_all (is_profile_row d r.next_activity r.next_timer) r.rows.items)

-- each row fits
abbrev pub are_fit : Deployed → Rows → Bool
are_fit d r = fit_entities d r && (fit_activities d r && (fit_queues d r && fit_others d r))

-- what is to be different is
abbrev pub are_different : Deployed → Rows → Bool
are_different d r =
    all_differ (differ_in_name r.entities.items) r.root_names.items
    && (all_differ (λ x y. differ_in_kind x.kind y.kind) r.activities.items
    && (all_differ differ_in_number r.events.items && all_differ (are_unique d) r.rows.items))

-- closing changes nothing
abbrev pub are_closed : Rows → Bool
are_closed r =
    are_roots_held r.entities.items r.links.items
    && (are_stopping_with_trees r.entities.items 0 r.services.items
    && are_nulls_in_use r.activities.items r.links.items r.names.items r.timers.items r.events.items)
