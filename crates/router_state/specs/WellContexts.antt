-- Tests of the lists of activities: activities, attributes, attachments, masks, names, services. Each test takes the lists that it reads.
use Rattle.std.specs.Prelude.{ℕ, ◌+◌, nat_lt, ◌==◌, Bool, true, false, ◌&&◌, ◌||◌, not, is_some, List, [], ◌∷◌, length}
use Rattle.std.specs.Option.{option_map_or}
use Rattle.std.specs.List.{list_all}
use Rattle.slee_value.specs.Name.{is_name}
use Rattle.deploy_model.specs.Deployed.{Deployed, DeployedTable, attribute_kind, is_event}
use Rattle.rows_sorted.specs.Orders.{rises_by, rises_in}
use Rattle.router_state.specs.Fits.{is_drawn, is_text, is_value, is_of_kind}
use Rattle.router_state.specs.Trees.{entity_at}
use Rattle.router_state.specs.Contexts.{activity_at, has_name, is_of_service, is_of_table, is_linked, attribute_before, link_before, name_before}
use Rattle.router_state.specs.Initial.{table_activity}
use Rattle.router_state.specs.Masks.{mask_before}
use Rattle.router_state.specs.Services.{is_active}
use Rattle.router_state.specs.WellEntities.{all_differ}
use Rattle.router_state.specs.declared.rows.AcKind.{AcKind}
use Rattle.router_state.specs.declared.rows.AcKind.TheVariants as kinds
use Rattle.router_state.specs.declared.rows.Activity.{Activity}
use Rattle.router_state.specs.declared.rows.Attribute.{Attribute}
use Rattle.router_state.specs.declared.rows.Entity.{Entity}
use Rattle.router_state.specs.declared.rows.Link.{Link}
use Rattle.router_state.specs.declared.rows.Mask.{Mask}
use Rattle.router_state.specs.declared.rows.Named.{Named}
use Rattle.router_state.specs.declared.rows.Service.{Service}

-- What an activity stands for is deployed; a table's activity has the number of its place and is Active.
abbrev pub is_kind : Deployed → Activity → AcKind → Bool
is_kind d row (kinds.External name) = is_name name
is_kind d row kinds.Null = true
is_kind d row (kinds.Service service) = nat_lt service (length d.services)
is_kind d row (kinds.Table table) = nat_lt table (length d.tables) && ((row.number.0 == table_activity table) && not row.ending)

-- an activity's number was drawn, and what it stands for is deployed
abbrev pub is_activity_row : Deployed → ℕ → Activity → Bool
is_activity_row d next row = is_drawn next row.number.0 && is_kind d row row.kind

-- two activities aren't both external and of one name
abbrev pub differ_in_kind : AcKind → AcKind → Bool
differ_in_kind kind (kinds.External name) = not (has_name kind name)
differ_in_kind kind kinds.Null = true
differ_in_kind kind (kinds.Service service) = true
differ_in_kind kind (kinds.Table table) = true

-- each table from n on has its activity
abbrev pub tables_have_activities : List Activity → ℕ → List DeployedTable → Bool
tables_have_activities rows n [] = true
tables_have_activities rows n (t ∷ ts) =
    option_map_or (λ row. is_of_table n row.kind) (activity_at rows (table_activity n)) false && tables_have_activities rows (n + 1) ts

-- activities rise, each row passes, external names differ, and each table has its activity
abbrev pub are_activities : Deployed → List Activity → ℕ → Bool
are_activities d rows next =
    rises_in (λ row. row.number.0) rows
    && (list_all (is_activity_row d next) rows
    && (all_differ (λ x y. differ_in_kind x.kind y.kind) rows && tables_have_activities rows 0 d.tables))

-- an attribute's activity is there, and its value is of the key's kind
abbrev pub is_attribute_row : Deployed → List Activity → ℕ → ℕ → Attribute → Bool
is_attribute_row d rows next_activity next_timer row =
    is_some (activity_at rows row.activity.0)
    && (is_value next_activity next_timer row.value && option_map_or (λ kind. is_of_kind kind row.value) (attribute_kind d row.key) false)

-- attributes rise, and each row passes
abbrev pub are_attributes : Deployed → List Activity → List Attribute → ℕ → ℕ → Bool
are_attributes d rows attributes next_activity next_timer =
    rises_by attribute_before attributes && list_all (is_attribute_row d rows next_activity next_timer) attributes

-- what is attached is there, and what it is attached to
abbrev pub is_link_row : List Entity → List Activity → Link → Bool
is_link_row entities activities l = is_some (entity_at entities l.entity.0) && is_some (activity_at activities l.activity.0)

-- attachments rise, and each row passes
abbrev pub are_links : List Entity → List Activity → List Link → Bool
are_links entities activities links = rises_by link_before links && list_all (is_link_row entities activities) links

-- a mask stands on an attachment and names an event that there is
abbrev pub is_mask_row : Deployed → List Link → Mask → Bool
is_mask_row d links m = is_linked links m.entity.0 m.activity.0 && is_event d m.event

-- masks rise, and each row passes
abbrev pub are_masks : Deployed → List Link → List Mask → Bool
are_masks d links masks = rises_by mask_before masks && list_all (is_mask_row d links) masks

-- a name is a text and stands for an activity that is there
abbrev pub is_name_row : List Activity → Named → Bool
is_name_row activities row = is_text row.name && is_some (activity_at activities row.activity.0)

-- names rise, and each row passes
abbrev pub are_names : List Activity → List Named → Bool
are_names activities names = rises_by name_before names && list_all (is_name_row activities) names

-- an activity of the service, not Ending where the service is Active
abbrev pub is_activity_of : ℕ → Service → Activity → Bool
is_activity_of n row activity = is_of_service n activity.kind && not (is_active row.state && activity.ending)

-- a service has no activity, or one of its own
abbrev pub is_service_row : List Activity → ℕ → Service → Bool
is_service_row activities n row =
    (row.activity.0 == 0) || option_map_or (is_activity_of n row) (activity_at activities row.activity.0) false

-- the services from number n on pass
abbrev pub are_services_from : List Activity → ℕ → List Service → Bool
are_services_from activities n [] = true
are_services_from activities n (row ∷ rows) = is_service_row activities n row && are_services_from activities (n + 1) rows

-- there are as many services as were deployed, and each row passes
abbrev pub are_services : Deployed → List Activity → List Service → Bool
are_services d activities services = (length services == length d.services) && are_services_from activities 0 services
