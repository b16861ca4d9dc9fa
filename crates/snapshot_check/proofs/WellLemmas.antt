-- What the tests say together of rows, and what one test gives for another.
use Rattle.std.proofs.Common.{◌≡◌, ℕ, ◌<◌, ◌==◌, ◌^◌, Bool, true, false, List, [], ◌∷◌, refl, sym, ap, ◌∙◌, arith}
use Rattle.std.specs.Prelude.{◌&&◌, ◌||◌, nat_lt, nat_le}
use Rattle.std.specs.List.{list_all}
use Rattle.std.specs.Option.{option_map_or}
use Rattle.std.proofs.lemmas.Bool.Decides.{nat_tests}
use Rattle.script_types.specs.Program.{Program}
use Rattle.deploy_model.specs.Deployed.{Deployed}
use Rattle.rows_sorted.specs.Orders.{rises_by, rises_in}
use Rattle.router_state.specs.Contexts.{attribute_before, link_before, name_before}
use Rattle.router_state.specs.Fields.{field_before}
use Rattle.router_state.specs.Fits.{is_drawn, is_priority}
use Rattle.router_state.specs.Keys.{entity_key, root_name_key, field_key, activity_key, attribute_key, link_key, mask_key, named_key, queued_key, service_mark_key, entity_mark_key, suspension_key, timer_key, profile_row_key}
use Rattle.router_state.specs.Masks.{mask_before}
use Rattle.router_state.specs.Profiles.{are_unique, row_before}
use Rattle.router_state.specs.Queues.{entity_mark_before, queued_before, service_mark_before, suspension_before}
use Rattle.router_state.specs.Timers.{last_moment}
use Rattle.router_state.specs.Trees.{entity_at, parent_of, root_name_before}
use Rattle.router_state.specs.Well.{is_well}
use Rattle.router_state.specs.WellContexts.{are_services, differ_in_kind, is_activity_row, is_attribute_row, is_link_row, is_mask_row, is_name_row, tables_have_activities}
use Rattle.router_state.specs.WellEntities.{all_differ, differ_in_name, has_its_fields, is_entity_row, is_field_row, is_named, is_root_name, is_stem, leads_to}
use Rattle.router_state.specs.WellQueues.{differ_in_number, ends_right, is_entity_mark, is_event_row, is_service_mark, is_suspension_row}
use Rattle.router_state.specs.WellRows.{is_next_number, is_profile_row, is_timer_row}
use Rattle.router_state.specs.declared.rows.Activity.{Activity}
use Rattle.router_state.specs.declared.rows.Entity.{Entity}
use Rattle.router_state.specs.declared.rows.Stem.{Stem}
use Rattle.router_state.specs.declared.rows.Stem.TheVariants as stems
use Rattle.router_state.specs.declared.rows.Timer.{Timer}
use Rattle.router_state.proofs.AgreeLemmas.{activity_order, entity_mark_order, entity_order, link_order, queued_order, root_name_order, service_mark_order, suspension_order, timer_order}
use Rattle.snapshot_rows.specs.Rows.{state_of}
use Rattle.snapshot_rows.specs.declared.rows.Rows.{Rows}
use Rattle.snapshot_check.specs.Divided.{are_closed, are_different, are_fit, are_in_order, fit_activities, fit_counts, fit_entities, fit_others, fit_queues, rise, InOrder}
use Rattle.snapshot_check.specs.Tops.{is_lower}
use Rattle.snapshot_check.proofs.RegroupLemmas.{regrouped}

both_true : (a b : Bool) → (a && b) ≡ true → (a ≡ true) × (b ≡ true)
both_true true true passes = (refl, refl)
both_true true false passes = cc
both_true false b passes = cc

true_both : (a b : Bool) → a ≡ true → b ≡ true → (a && b) ≡ true
true_both true true passes also = refl
true_both true false passes also = cc
true_both false b passes also = cc

-- numbers of 64 bits

pub next_fits : (n : ℕ) → n < 2 ^ 64 → nat_lt 0 n ≡ is_next_number n
next_fits n low = let fits : nat_lt n (2 ^ 64) ≡ true = grind (arith, nat_tests, low) in sym (ap (λ b. nat_lt 0 n && b) fits ∙ alone (nat_lt 0 n))
  where
    alone : (b : Bool) → (b && true) ≡ b
    alone true = refl
    alone false = refl

pub counts_fit : (r : Rows) → r.inputs < 2 ^ 64
    → (nat_le r.clock last_moment && (is_next_number r.next_entity && (is_next_number r.next_activity && (is_next_number r.next_timer && is_next_number r.next_event)))) ≡ fit_counts r
counts_fit r low =
    let fits : nat_lt r.inputs (2 ^ 64) ≡ true = grind (arith, nat_tests, low) in
    ap (λ b. nat_le r.clock last_moment && (b && (is_next_number r.next_entity && (is_next_number r.next_activity && (is_next_number r.next_timer && is_next_number r.next_event))))) (sym fits)

-- the orders, by keys and as the definition has them
in_order_is : (r : Rows) → are_in_order r ≡ ((rises_in (λ (row : Entity). row.number.0) r.entities.items) && ((rises_by root_name_before r.root_names.items) && ((rises_by field_before r.fields.items) && ((rises_in (λ (row : Activity). row.number.0) r.activities.items) && ((rises_by attribute_before r.attributes.items) && ((rises_by link_before r.links.items) && ((rises_by mask_before r.masks.items) && ((rises_by name_before r.names.items) && ((rises_by queued_before r.events.items) && ((rises_by service_mark_before r.services_done.items) && ((rises_by entity_mark_before r.delivered.items) && ((rises_by suspension_before r.suspensions.items) && ((rises_in (λ (row : Timer). row.number.0) r.timers.items) && ((rises_by row_before r.rows.items)))))))))))))))
in_order_is r = λ i.
    entity_order r.entities.items i
    && (root_name_order r.root_names.items i
    && (rises_by field_before r.fields.items
    && (activity_order r.activities.items i
    && (rises_by attribute_before r.attributes.items
    && (link_order r.links.items i
    && (rises_by mask_before r.masks.items
    && (rises_by name_before r.names.items
    && (queued_order r.events.items i
    && (service_mark_order r.services_done.items i
    && (entity_mark_order r.delivered.items i
    && (suspension_order r.suspensions.items i
    && (timer_order r.timers.items i && rises_by row_before r.rows.items))))))))))))

pub well_is : (d : Deployed) (p : Program) (r : Rows) → is_well (state_of d p r) ≡ (fit_counts r && (are_in_order r && (are_fit d r && (are_different d r && are_closed r))))
well_is d p r =
    regrouped (fit_counts r)
    (are_services d r.activities.items r.services.items)
    (rises_in (λ (row : Entity). row.number.0) r.entities.items)
    (list_all (is_entity_row d r.entities.items r.next_entity) r.entities.items)
    (rises_by root_name_before r.root_names.items)
    (list_all (is_root_name d r.entities.items r.next_activity r.next_event) r.root_names.items)
    (list_all (is_named r.root_names.items) r.entities.items)
    (all_differ (differ_in_name r.entities.items) r.root_names.items)
    (rises_by field_before r.fields.items)
    (list_all (is_field_row r.entities.items r.next_activity r.next_timer) r.fields.items)
    (list_all (has_its_fields d r.fields.items) r.entities.items)
    (rises_in (λ (row : Activity). row.number.0) r.activities.items)
    (list_all (is_activity_row d r.next_activity) r.activities.items)
    (all_differ (λ (x y : Activity). differ_in_kind x.kind y.kind) r.activities.items)
    (tables_have_activities r.activities.items 0 d.tables)
    (rises_by attribute_before r.attributes.items)
    (list_all (is_attribute_row d r.activities.items r.next_activity r.next_timer) r.attributes.items)
    (rises_by link_before r.links.items)
    (list_all (is_link_row r.entities.items r.activities.items) r.links.items)
    (rises_by mask_before r.masks.items)
    (list_all (is_mask_row d r.links.items) r.masks.items)
    (rises_by name_before r.names.items)
    (list_all (is_name_row r.activities.items) r.names.items)
    (rises_by queued_before r.events.items)
    (all_differ differ_in_number r.events.items)
    (list_all (is_event_row d r.activities.items r.next_activity r.next_timer r.next_event) r.events.items)
    (list_all (ends_right r.events.items) r.activities.items)
    (rises_by service_mark_before r.services_done.items)
    (list_all (is_service_mark d r.events.items) r.services_done.items)
    (rises_by entity_mark_before r.delivered.items)
    (list_all (is_entity_mark r.events.items r.next_entity) r.delivered.items)
    (rises_by suspension_before r.suspensions.items)
    (list_all (is_suspension_row r.clock r.events.items r.delivered.items) r.suspensions.items)
    (rises_in (λ (row : Timer). row.number.0) r.timers.items)
    (list_all (is_timer_row r.activities.items r.next_timer) r.timers.items)
    (rises_by row_before r.rows.items)
    (list_all (is_profile_row d r.next_activity r.next_timer) r.rows.items)
    (all_differ (are_unique d) r.rows.items)
    (are_closed r)
    ∙ ap (λ orders. fit_counts r && (orders && (are_fit d r && (are_different d r && are_closed r)))) (sym (in_order_is r))

-- where one test fails, the rows are none of a well-formed state

module _ (d : Deployed) (p : Program) (r : Rows) where
  pub counts_unfit : fit_counts r ≡ false → false ≡ is_well (state_of d p r)
  counts_unfit bad = sym (well_is d p r ∙ ap (λ b. b && (are_in_order r && (are_fit d r && (are_different d r && are_closed r)))) bad)

  pub not_in_order : fit_counts r ≡ true → are_in_order r ≡ false → false ≡ is_well (state_of d p r)
  not_in_order counts bad = sym (well_is d p r ∙ (λ i. counts i && (bad i && (are_fit d r && (are_different d r && are_closed r)))))

  pub not_fit : fit_counts r ≡ true → are_in_order r ≡ true → are_fit d r ≡ false → false ≡ is_well (state_of d p r)
  not_fit counts order bad = sym (well_is d p r ∙ (λ i. counts i && (order i && (bad i && (are_different d r && are_closed r)))))

  pub not_different : fit_counts r ≡ true → are_in_order r ≡ true → are_fit d r ≡ true → are_different d r ≡ false → false ≡ is_well (state_of d p r)
  not_different counts order fit bad = sym (well_is d p r ∙ (λ i. counts i && (order i && (fit i && (bad i && are_closed r)))))

  pub all_but_closed : fit_counts r ≡ true → are_in_order r ≡ true → are_fit d r ≡ true → are_different d r ≡ true → are_closed r ≡ is_well (state_of d p r)
  all_but_closed counts order fit different = sym (well_is d p r ∙ (λ i. counts i && (order i && (fit i && (different i && are_closed r)))))

-- each order of those in which rows are found
pub orders_are : (r : Rows) → are_in_order r ≡ true → InOrder r
orders_are r all =
    let a = both_true (rise entity_key r.entities.items) (rise root_name_key r.root_names.items && (rise field_key r.fields.items && (rise activity_key r.activities.items && (rise attribute_key r.attributes.items && (rise link_key r.links.items && (rise mask_key r.masks.items && (rise named_key r.names.items && (rise queued_key r.events.items && (rise service_mark_key r.services_done.items && (rise entity_mark_key r.delivered.items && (rise suspension_key r.suspensions.items && (rise timer_key r.timers.items && rise profile_row_key r.rows.items)))))))))))) all in
    let b = both_true (rise root_name_key r.root_names.items) (rise field_key r.fields.items && (rise activity_key r.activities.items && (rise attribute_key r.attributes.items && (rise link_key r.links.items && (rise mask_key r.masks.items && (rise named_key r.names.items && (rise queued_key r.events.items && (rise service_mark_key r.services_done.items && (rise entity_mark_key r.delivered.items && (rise suspension_key r.suspensions.items && (rise timer_key r.timers.items && rise profile_row_key r.rows.items))))))))))) a.1 in
    let c = both_true (rise field_key r.fields.items) (rise activity_key r.activities.items && (rise attribute_key r.attributes.items && (rise link_key r.links.items && (rise mask_key r.masks.items && (rise named_key r.names.items && (rise queued_key r.events.items && (rise service_mark_key r.services_done.items && (rise entity_mark_key r.delivered.items && (rise suspension_key r.suspensions.items && (rise timer_key r.timers.items && rise profile_row_key r.rows.items)))))))))) b.1 in
    let e = both_true (rise activity_key r.activities.items) (rise attribute_key r.attributes.items && (rise link_key r.links.items && (rise mask_key r.masks.items && (rise named_key r.names.items && (rise queued_key r.events.items && (rise service_mark_key r.services_done.items && (rise entity_mark_key r.delivered.items && (rise suspension_key r.suspensions.items && (rise timer_key r.timers.items && rise profile_row_key r.rows.items))))))))) c.1 in
    let f = both_true (rise attribute_key r.attributes.items) (rise link_key r.links.items && (rise mask_key r.masks.items && (rise named_key r.names.items && (rise queued_key r.events.items && (rise service_mark_key r.services_done.items && (rise entity_mark_key r.delivered.items && (rise suspension_key r.suspensions.items && (rise timer_key r.timers.items && rise profile_row_key r.rows.items)))))))) e.1 in
    let g = both_true (rise link_key r.links.items) (rise mask_key r.masks.items && (rise named_key r.names.items && (rise queued_key r.events.items && (rise service_mark_key r.services_done.items && (rise entity_mark_key r.delivered.items && (rise suspension_key r.suspensions.items && (rise timer_key r.timers.items && rise profile_row_key r.rows.items))))))) f.1 in
    let h = both_true (rise mask_key r.masks.items) (rise named_key r.names.items && (rise queued_key r.events.items && (rise service_mark_key r.services_done.items && (rise entity_mark_key r.delivered.items && (rise suspension_key r.suspensions.items && (rise timer_key r.timers.items && rise profile_row_key r.rows.items)))))) g.1 in
    let j = both_true (rise named_key r.names.items) (rise queued_key r.events.items && (rise service_mark_key r.services_done.items && (rise entity_mark_key r.delivered.items && (rise suspension_key r.suspensions.items && (rise timer_key r.timers.items && rise profile_row_key r.rows.items))))) h.1 in
    let k = both_true (rise queued_key r.events.items) (rise service_mark_key r.services_done.items && (rise entity_mark_key r.delivered.items && (rise suspension_key r.suspensions.items && (rise timer_key r.timers.items && rise profile_row_key r.rows.items)))) j.1 in
    let l = both_true (rise service_mark_key r.services_done.items) (rise entity_mark_key r.delivered.items && (rise suspension_key r.suspensions.items && (rise timer_key r.timers.items && rise profile_row_key r.rows.items))) k.1 in
    let m = both_true (rise entity_mark_key r.delivered.items) (rise suspension_key r.suspensions.items && (rise timer_key r.timers.items && rise profile_row_key r.rows.items)) l.1 in
    let n = both_true (rise suspension_key r.suspensions.items) (rise timer_key r.timers.items && rise profile_row_key r.rows.items) m.1 in
    let o = both_true (rise timer_key r.timers.items) (rise profile_row_key r.rows.items) n.1 in
    record { entities = a.0; root_names = b.0; fields = c.0; activities = e.0; links = g.0; events = k.0; delivered = m.0; rows = o.1 }

-- what fits gives

entities_fit : (d : Deployed) (r : Rows) → are_fit d r ≡ true → fit_entities d r ≡ true
entities_fit d r all = (both_true (fit_entities d r) (fit_activities d r && (fit_queues d r && fit_others d r)) all).0

pub names_there : (d : Deployed) (r : Rows) → are_fit d r ≡ true → list_all (is_root_name d r.entities.items r.next_activity r.next_event) r.root_names.items ≡ true
names_there d r all =
    let a = both_true (list_all (is_entity_row d r.entities.items r.next_entity) r.entities.items) (list_all (is_root_name d r.entities.items r.next_activity r.next_event) r.root_names.items && (list_all (is_named r.root_names.items) r.entities.items && (list_all (is_field_row r.entities.items r.next_activity r.next_timer) r.fields.items && list_all (has_its_fields d r.fields.items) r.entities.items))) (entities_fit d r all) in
    (both_true (list_all (is_root_name d r.entities.items r.next_activity r.next_event) r.root_names.items) (list_all (is_named r.root_names.items) r.entities.items && (list_all (is_field_row r.entities.items r.next_activity r.next_timer) r.fields.items && list_all (has_its_fields d r.fields.items) r.entities.items)) a.1).0

pub entities_named : (d : Deployed) (r : Rows) → are_fit d r ≡ true → list_all (is_named r.root_names.items) r.entities.items ≡ true
entities_named d r all =
    let a = both_true (list_all (is_entity_row d r.entities.items r.next_entity) r.entities.items) (list_all (is_root_name d r.entities.items r.next_activity r.next_event) r.root_names.items && (list_all (is_named r.root_names.items) r.entities.items && (list_all (is_field_row r.entities.items r.next_activity r.next_timer) r.fields.items && list_all (has_its_fields d r.fields.items) r.entities.items))) (entities_fit d r all) in
    let b = both_true (list_all (is_root_name d r.entities.items r.next_activity r.next_event) r.root_names.items) (list_all (is_named r.root_names.items) r.entities.items && (list_all (is_field_row r.entities.items r.next_activity r.next_timer) r.fields.items && list_all (has_its_fields d r.fields.items) r.entities.items)) a.1 in
    (both_true (list_all (is_named r.root_names.items) r.entities.items) (list_all (is_field_row r.entities.items r.next_activity r.next_timer) r.fields.items && list_all (has_its_fields d r.fields.items) r.entities.items) b.1).0

or_true : (b : Bool) → (b || true) ≡ true
or_true true = refl
or_true false = refl

lower_row : (d : Deployed) (rows : List Entity) (next : ℕ) (row : Entity) → is_entity_row d rows next row ≡ true → is_lower row ≡ true
lower_row d rows next row fits =
    let a = both_true (is_drawn next row.number.0) (is_priority row.priority && is_stem d rows row.number.0 row.block row.stem) fits in
    let b = both_true (is_priority row.priority) (is_stem d rows row.number.0 row.block row.stem) a.1 in
    true_both (nat_lt 0 row.number.0) ((parent_of row == 0) || nat_lt (parent_of row) row.number.0) (both_true (nat_lt 0 row.number.0) (nat_lt row.number.0 next) a.0).0 (by row.stem refl b.1)
  where
    by : (stem : Stem) → row.stem ≡ stem → is_stem d rows row.number.0 row.block row.stem ≡ true → ((parent_of row == 0) || nat_lt (parent_of row) row.number.0) ≡ true
    by (stems.Root service) is placed = rw is refl
    by (stems.Child parent relation) is placed =
        let there : (nat_lt parent.0 row.number.0 && option_map_or (λ (up : Entity). leads_to d up.block relation row.block) (entity_at rows parent.0) false) ≡ true = rw is at placed in
        rw is (ap (λ b. (parent.0 == 0) || b) (both_true (nat_lt parent.0 row.number.0) (option_map_or (λ (up : Entity). leads_to d up.block relation row.block) (entity_at rows parent.0) false) there).0 ∙ or_true (parent.0 == 0))

all_weaker : (p q : Entity → Bool) → ((x : Entity) → p x ≡ true → q x ≡ true) → (xs : List Entity) → list_all p xs ≡ true → list_all q xs ≡ true
all_weaker p q follows [] all = refl
all_weaker p q follows (x ∷ xs) all = let parts = both_true (p x) (list_all p xs) all in true_both (q x) (list_all q xs) (follows x parts.0) (all_weaker p q follows xs parts.1)

pub entities_lower : (d : Deployed) (r : Rows) → are_fit d r ≡ true → list_all is_lower r.entities.items ≡ true
entities_lower d r all =
    let a = both_true (list_all (is_entity_row d r.entities.items r.next_entity) r.entities.items) (list_all (is_root_name d r.entities.items r.next_activity r.next_event) r.root_names.items && (list_all (is_named r.root_names.items) r.entities.items && (list_all (is_field_row r.entities.items r.next_activity r.next_timer) r.fields.items && list_all (has_its_fields d r.fields.items) r.entities.items))) (entities_fit d r all) in
    all_weaker (is_entity_row d r.entities.items r.next_entity) is_lower (lower_row d r.entities.items r.next_entity) r.entities.items a.0
