-- Tests of the lists of entities: entities, convergence names and fields. Each test takes the lists that it reads.
use Rattle.std.specs.Prelude.{ℕ, nat_lt, ◌==◌, Bool, true, false, ◌&&◌, not, if◌then◌else◌, is_some, is_none, List, [], ◌∷◌, Option, option_and_then}
use Rattle.std.specs.Option.{option_map_or}
use Rattle.std.specs.List.{list_all}
use Rattle.slee_value.specs.declared.convergence.ConvName.{ConvName}
use Rattle.script_meaning.specs.Same.{same_option, same_name}
use Rattle.deploy_model.specs.Deployed.{Deployed, block_fields, relation_of, service_at, is_event}
use Rattle.rows_sorted.specs.Orders.{rises_by, rises_in}
use Rattle.router_state.specs.Fits.{is_drawn, is_priority, is_text, is_value, none_or, are_declared}
use Rattle.router_state.specs.Fields.{field_before, fields_of}
use Rattle.router_state.specs.Trees.{entity_at, service_of, is_root, root_name_at, root_name_before}
use Rattle.router_state.specs.declared.rows.Stem.{Stem}
use Rattle.router_state.specs.declared.rows.Stem.TheVariants as stems
use Rattle.router_state.specs.declared.rows.Entity.{Entity}
use Rattle.router_state.specs.declared.rows.RootName.{RootName}
use Rattle.router_state.specs.declared.rows.Field.{Field}

-- the relation is one of this block, and leads to that block
abbrev pub leads_to : Deployed → ℕ → List ℕ → ℕ → Bool
leads_to d block relation child = option_map_or (λ r. r.block == child) (relation_of d block relation) false

-- a root has its service's block; a child has its relation's block and a parent of a lower number
abbrev pub is_stem : Deployed → List Entity → ℕ → ℕ → Stem → Bool
is_stem d rows number block (stems.Root service) = option_map_or (λ v. v.root == block) (service_at d service) false
is_stem d rows number block (stems.Child parent relation) =
    nat_lt parent.0 number && option_map_or (λ row. leads_to d row.block relation block) (entity_at rows parent.0) false

-- an entity's number was drawn, and it stands where its block may stand
abbrev pub is_entity_row : Deployed → List Entity → ℕ → Entity → Bool
is_entity_row d rows next row =
    is_drawn next row.number.0 && (is_priority row.priority && is_stem d rows row.number.0 row.block row.stem)

-- entities rise, and each row passes
abbrev pub are_entities : Deployed → List Entity → ℕ → Bool
are_entities d rows next = rises_in (λ row. row.number.0) rows && list_all (is_entity_row d rows next) rows

-- the parts of a convergence name fit; an activity or event that it has was there once
abbrev pub is_conv : Deployed → ℕ → ℕ → ConvName → Bool
is_conv d next_activity next_event name =
    none_or (λ a. is_drawn next_activity a.0) name.activity
    && (none_or is_text name.address
    && (none_or (is_event d) name.event_type
    && (none_or (λ v. is_drawn next_event v.0) name.event && none_or is_text name.custom)))

-- roots, and no other entities, have a convergence name
abbrev pub is_named : List RootName → Entity → Bool
is_named names row =
    if is_root row.stem then is_some (root_name_at names row.number.0) else is_none (root_name_at names row.number.0)

-- a convergence name is that of an entity
abbrev pub is_root_name : Deployed → List Entity → ℕ → ℕ → RootName → Bool
is_root_name d rows next_activity next_event row =
    is_some (entity_at rows row.entity.0) && is_conv d next_activity next_event row.name

-- convergence names rise by entity, and each row passes
abbrev pub are_root_names : Deployed → List Entity → List RootName → ℕ → ℕ → Bool
are_root_names d rows names next_activity next_event =
    rises_by root_name_before names
    && (list_all (is_root_name d rows next_activity next_event) names && list_all (is_named names) rows)

-- the service of the root of this number
abbrev pub root_service : List Entity → ℕ → Option ℕ
root_service rows e = option_and_then (service_of rows) (entity_at rows e)

-- two roots are of two services, or have different convergence names
abbrev pub differ_in_name : List Entity → RootName → RootName → Bool
differ_in_name rows x y =
    not (same_option (λ a b. a == b) (root_service rows x.entity.0) (root_service rows y.entity.0) && same_name x.name y.name)

-- each row differs from each later one
abbrev pub all_differ : {Row : Type 0} → (Row → Row → Bool) → List Row → Bool
all_differ differ [] = true
all_differ differ (row ∷ rows) = list_all (differ row) rows && all_differ differ rows

-- two roots of one service have different convergence names (JSR 240, 8.5)
abbrev pub are_root_names_apart : List Entity → List RootName → Bool
are_root_names_apart rows names = all_differ (differ_in_name rows) names

-- a field's entity is there, and its value fits
abbrev pub is_field_row : List Entity → ℕ → ℕ → Field → Bool
is_field_row rows next_activity next_timer row =
    is_some (entity_at rows row.entity.0) && is_value next_activity next_timer row.value

-- an entity has the declared fields of its block
abbrev pub has_its_fields : Deployed → List Field → Entity → Bool
has_its_fields d fields row = are_declared (block_fields d row.block) (fields_of fields row.number.0)

-- fields rise, each row passes, and each entity has its own
abbrev pub are_fields : Deployed → List Entity → List Field → ℕ → ℕ → Bool
are_fields d rows fields next_activity next_timer =
    rises_by field_before fields
    && (list_all (is_field_row rows next_activity next_timer) fields && list_all (has_its_fields d fields) rows)
