-- Keys that are put in order, and what they stand for.
use Rattle.std.specs.Prelude.{ℕ, ℤ, Bool, ◌==◌, ◌&&◌, List, [], ◌∷◌, Option, Some, None, option_and_then, option_map, flat_map}
use Rattle.std.specs.Str.{bytes_eq}
use Rattle.script_meaning.specs.Same.{same_bool, same_int, same_name, same_option}
use Rattle.slee_value.specs.declared.convergence.ConvName.{ConvName}
use Rattle.slee_value.specs.declared.value.Value.{Value}
use Rattle.slee_value.specs.declared.value.Value.TheVariants as values
use Rattle.router_state.specs.Trees.{entity_at}
use Rattle.router_state.specs.declared.rows.AcKind.{AcKind}
use Rattle.router_state.specs.declared.rows.AcKind.TheVariants as kinds
use Rattle.router_state.specs.declared.rows.Activity.{Activity}
use Rattle.router_state.specs.declared.rows.Entity.{Entity}
use Rattle.router_state.specs.declared.rows.RootName.{RootName}
use Rattle.snapshot_check.specs.declared.differing.RootKey.{RootKey}
use Rattle.snapshot_check.specs.declared.differing.ValueKey.{ValueKey}
use Rattle.router_state.specs.declared.rows.Stem.{Stem}
use Rattle.router_state.specs.declared.rows.Stem.TheVariants as stems

-- the name of an external activity
abbrev pub external_name : AcKind → List (List ℕ)
external_name (kinds.External name) = name ∷ []
external_name kinds.Null = []
external_name (kinds.Service service) = []
external_name (kinds.Table table) = []

-- the names of the external activities
abbrev pub external_names : List Activity → List (List ℕ)
external_names rows = flat_map (λ row. external_name row.kind) rows

-- the service of a root
abbrev pub own_service : Stem → Option ℕ
own_service (stems.Root service) = Some service
own_service (stems.Child parent relation) = None

-- the service of the root of this number
abbrev pub service_at : List Entity → ℕ → Option ℕ
service_at rows e = option_and_then (λ row. own_service row.stem) (entity_at rows e)

-- a service and a convergence name
pub record RootView : Type 0 where
  pub service : Option ℕ
  pub name : ConvName

-- what a key stands for
abbrev pub root_view : RootKey → RootView
root_view k = record {
  service = k.service;
  name = record {
    activity = option_map (λ n. record { 0 = n }) k.activity;
    address = option_map (λ text. text.now) k.address;
    event_type = option_map (λ text. text.now) k.event_type;
    event = option_map (λ n. record { 0 = n }) k.event;
    custom = option_map (λ text. text.now) k.custom;
  };
}

-- the convergence name of a root, with the root's service
abbrev pub root_row : List Entity → RootName → RootView
root_row rows x = record { service = service_at rows x.entity.0; name = x.name }

-- the same service and the same name
abbrev pub same_root : RootView → RootView → Bool
same_root x y = same_option (λ a b. a == b) x.service y.service && same_name x.name y.name

-- a value by its type, or nothing
pub record ValueView : Type 0 where
  pub int : Option ℤ
  pub text : Option (List ℕ)
  pub flag : Option Bool
  pub activity : Option ℕ
  pub timer : Option ℕ

-- what a key stands for
abbrev pub value_view : ValueKey → ValueView
value_view k = record { int = k.int; text = option_map (λ text. text.now) k.text; flag = k.flag; activity = k.activity; timer = k.timer }

-- a value, or nothing, as it is compared
abbrev pub view_of : Option Value → ValueView
view_of None = record { int = None; text = None; flag = None; activity = None; timer = None }
view_of (Some (values.Int n)) = record { int = Some n; text = None; flag = None; activity = None; timer = None }
view_of (Some (values.Text text)) = record { int = None; text = Some text; flag = None; activity = None; timer = None }
view_of (Some (values.Bool b)) = record { int = None; text = None; flag = Some b; activity = None; timer = None }
view_of (Some (values.Activity a)) = record { int = None; text = None; flag = None; activity = Some a.0; timer = None }
view_of (Some (values.Timer t)) = record { int = None; text = None; flag = None; activity = None; timer = Some t.0 }

-- the same value, or nothing on both sides
abbrev pub same_view : ValueView → ValueView → Bool
same_view x y =
    same_option same_int x.int y.int
    && (same_option bytes_eq x.text y.text
    && (same_option same_bool x.flag y.flag
    && (same_option (λ a b. a == b) x.activity y.activity && same_option (λ a b. a == b) x.timer y.timer)))
