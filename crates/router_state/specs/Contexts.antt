-- Activity contexts with their attachments, attributes and names: what is read of them, and how they change (JSR 240, chapter 7).
use Rattle.std.specs.Prelude.{ℕ, ◌==◌, Bool, false, true, not, if◌then◌else◌, List, [], ◌∷◌, ◌++◌, Option, option_map, filter, find, map}
use Rattle.std.specs.List.{list_any}
use Rattle.std.specs.Option.{option_map_or}
use Rattle.std.specs.Str.{bytes_eq}
use Rattle.slee_value.specs.Order.{is_below}
use Rattle.slee_value.specs.declared.ids.ActivityId.{ActivityId}
use Rattle.slee_value.specs.declared.value.Value.{Value}
use Rattle.rows_sorted.specs.Orders.{put, pair_before, text_before, same_text, same_pair}
use Rattle.router_state.specs.declared.rows.AcKind.{AcKind}
use Rattle.router_state.specs.declared.rows.AcKind.TheVariants as kinds
use Rattle.router_state.specs.declared.rows.Activity.{Activity}
use Rattle.router_state.specs.declared.rows.Attribute.{Attribute}
use Rattle.router_state.specs.declared.rows.Link.{Link}
use Rattle.router_state.specs.declared.rows.Named.{Named}

-- the activity of this number
abbrev pub activity_at : List Activity → ℕ → Option Activity
activity_at rows a = find (λ row. row.number.0 == a) rows

-- the activity is there and isn't Ending
abbrev pub is_active : List Activity → ℕ → Bool
is_active rows a = option_map_or (λ row. not row.ending) (activity_at rows a) false

-- a kind is that of the external activity of this name
abbrev pub has_name : AcKind → List ℕ → Bool
has_name (kinds.External name) other = bytes_eq name other
has_name kinds.Null other = false
has_name (kinds.Service service) other = false
has_name (kinds.Table table) other = false

-- the external activity of this name
abbrev pub external : List Activity → List ℕ → Option Activity
external rows name = find (λ row. has_name row.kind name) rows

-- a kind is that of null activities
abbrev pub is_null : AcKind → Bool
is_null (kinds.External name) = false
is_null kinds.Null = true
is_null (kinds.Service service) = false
is_null (kinds.Table table) = false

-- a kind is that of this service
abbrev pub is_of_service : ℕ → AcKind → Bool
is_of_service service (kinds.External name) = false
is_of_service service kinds.Null = false
is_of_service service (kinds.Service own) = own == service
is_of_service service (kinds.Table table) = false

-- a kind is that of this table
abbrev pub is_of_table : ℕ → AcKind → Bool
is_of_table table (kinds.External name) = false
is_of_table table kinds.Null = false
is_of_table table (kinds.Service service) = false
is_of_table table (kinds.Table own) = own == table

-- A new activity has the greatest number, and so stands last.
abbrev pub with_activity : List Activity → ℕ → AcKind → List Activity
with_activity rows a kind = rows ++ record { number = record { 0 = a }; kind = kind; ending = false } ∷ []

-- an activity's row: Ending, where it has this number
abbrev pub ends : ℕ → Activity → Activity
ends a row = if row.number.0 == a then record row { ending = true } else row

-- the activity is Ending
abbrev pub with_end : List Activity → ℕ → List Activity
with_end rows a = map (ends a) rows

-- no activity of this number
abbrev pub without_activity : List Activity → ℕ → List Activity
without_activity rows a = filter (λ row. not (row.number.0 == a)) rows

-- by activity, then by key
abbrev pub attribute_before : Attribute → Attribute → Bool
attribute_before x y = text_before x.activity.0 x.key y.activity.0 y.key

-- the value of an attribute that was set
abbrev pub attribute_at : List Attribute → ℕ → List ℕ → Option Value
attribute_at rows a key = option_map (λ row. row.value) (find (λ row. same_text row.activity.0 row.key a key) rows)

-- the attributes of an activity, as pairs of key and value
abbrev pub attributes_of : List Attribute → ℕ → List (List ℕ × Value)
attributes_of rows a = map (λ row. (row.key, row.value)) (filter (λ row. row.activity.0 == a) rows)

-- the activity's attribute has this value
abbrev pub with_attribute : List Attribute → ℕ → List ℕ → Value → List Attribute
with_attribute rows a key value = put attribute_before (record { activity = record { 0 = a }; key = key; value = value }) rows

-- no attributes of the activity
abbrev pub without_attributes : List Attribute → ℕ → List Attribute
without_attributes rows a = filter (λ row. not (row.activity.0 == a)) rows

-- by activity, then by entity
abbrev pub link_before : Link → Link → Bool
link_before x y = pair_before x.activity.0 x.entity.0 y.activity.0 y.entity.0

-- the attachment is that of the entity to the activity
abbrev pub is_link : ℕ → ℕ → Link → Bool
is_link e a l = same_pair l.entity.0 l.activity.0 e a

-- the entity is attached to the activity (JSR 240, 7.4)
abbrev pub is_linked : List Link → ℕ → ℕ → Bool
is_linked links e a = list_any (is_link e a) links

-- the attachments to an activity
abbrev pub links_on : List Link → ℕ → List Link
links_on links a = filter (λ l. l.activity.0 == a) links

-- the activities to which an entity is attached, rising
abbrev pub activities_of : List Link → ℕ → List ℕ
activities_of links e = map (λ l. l.activity.0) (filter (λ l. l.entity.0 == e) links)

-- the entity is attached to the activity, once
abbrev pub with_link : List Link → ℕ → ℕ → List Link
with_link links e a = put link_before (record { entity = record { 0 = e }; activity = record { 0 = a } }) links

-- no attachment of the two
abbrev pub without_link : List Link → ℕ → ℕ → List Link
without_link links e a = filter (λ l. not (is_link e a l)) links

-- no attachments to the activity
abbrev pub without_links_on : List Link → ℕ → List Link
without_links_on links a = filter (λ l. not (l.activity.0 == a)) links

-- by name
abbrev pub name_before : Named → Named → Bool
name_before x y = is_below x.name y.name

-- the activity for which a name stands
abbrev pub named_at : List Named → List ℕ → Option ActivityId
named_at rows name = option_map (λ row. row.activity) (find (λ row. bytes_eq row.name name) rows)

-- the name stands for the activity
abbrev pub with_name : List Named → List ℕ → ℕ → List Named
with_name rows name a = put name_before (record { name = name; activity = record { 0 = a } }) rows

-- the name stands for nothing
abbrev pub without_name : List Named → List ℕ → List Named
without_name rows name = filter (λ row. not (bytes_eq row.name name)) rows

-- no names that stand for the activity
abbrev pub without_names_of : List Named → ℕ → List Named
without_names_of rows a = filter (λ row. not (row.activity.0 == a)) rows
