-- Values without fault: of an object each wanted member has none, of an array each item, of a map each member.
use Rattle.std.proofs.Common.{◌≡◌, ℕ, ◌+◌, List, [], ◌∷◌, Bool, true, false, Option, Some, None, refl, IsTrue, is_some}
use Rattle.std.specs.Prelude.{decimal, option_and_then}
use Rattle.std.specs.Option.{unwrap_or}
use Rattle.serde_json.specs.Data.{Data, Items, no_items, item, Members, no_members, member}
use Rattle.serde_json.specs.Find.{get, as_str, as_array, as_object}
use Rattle.script_tree.specs.Tree.{Bytes}
use Rattle.deploy_model.specs.declared.fault.DeployBad.{DeployBad}
use Rattle.deploy_model.specs.Faults.{Fault, unless, under, and_then}
use Rattle.deploy_model.proofs.Faultless.{first_none, later_none, under_none, unless_none}
use Rattle.deploy_schema.specs.Pointers.{escaped}
use Rattle.deploy_schema.specs.Forms.{Form, Want, need, may, list_of, list_or_type, items_fault, map_of, map_or_type, entries_fault, object, object_or_type, wants_fault, others_fault, value_fault, knows}
use Rattle.deploy_schema.specs.Texts.{TextRule, text, text_or_type}
use Rattle.deploy_schema.specs.Numbers.{items_or_none, items_of}
use Rattle.deploy_schema.specs.Names.{members_or_none}
use Rattle.deploy_json.specs.Values.{text_of}
use Rattle.deploy_json.specs.Shapes.{EachItem, EachMember}

-- the members that an object's table wants
wants_of : (ws : List Want) (n : ℕ) (d : Data) (o : Option Members) → object_or_type ws n d o ≡ None → wants_fault ws n d ≡ None
wants_of ws n d None h = cc
wants_of ws n d (Some ms) h = first_none (wants_fault ws n d) (others_fault (knows ws) ms) h

-- none of these members has a fault
abbrev pub EachWant : List Want → ℕ → Data → Type 0
EachWant [] n d = Unit {0}
EachWant (w ∷ ws) n d = (value_fault w n d (get w.name d) ≡ None) × EachWant ws n d

each_want : (ws : List Want) (n : ℕ) (d : Data) → wants_fault ws n d ≡ None → EachWant ws n d
each_want [] n d h = tt
each_want (w ∷ ws) n d h = (
  under_none w.name (value_fault w n d (get w.name d)) (first_none (under w.name (value_fault w n d (get w.name d))) (wants_fault ws n d) h),
  each_want ws n d (later_none (under w.name (value_fault w n d (get w.name d))) (wants_fault ws n d) h),
)

pub object_members : (ws : List Want) (n : ℕ) (owner d : Data) → object ws n owner d ≡ None → EachWant ws n d
object_members ws n owner d h = each_want ws n d (wants_of ws n d (as_object d) h)

-- a text keeps its rule
text_in : (rule : TextRule) (n : ℕ) (owner : Data) (t : Option Bytes) → text_or_type (rule n owner) t ≡ None → rule n owner (unwrap_or t []) ≡ None
text_in rule n owner None h = cc
text_in rule n owner (Some s) h = h

pub text_keeps : (rule : TextRule) (n : ℕ) (owner d : Data) → text rule n owner d ≡ None → rule n owner (text_of d) ≡ None
text_keeps rule n owner d h = text_in rule n owner (as_str d) h

pub needed_text : (name : Bytes) (rule : TextRule) (n : ℕ) (d : Data) (v : Option Data) → value_fault (need name (text rule)) n d v ≡ None → rule n d (unwrap_or (option_and_then as_str v) []) ≡ None
needed_text name rule n d None h = cc
needed_text name rule n d (Some x) h = text_in rule n d (as_str x) h

pub needed_there : (name : Bytes) (form : Form) (n : ℕ) (d : Data) (v : Option Data) → value_fault (need name form) n d v ≡ None → IsTrue (is_some v)
needed_there name form n d None h = cc
needed_there name form n d (Some x) h = refl

-- items of an array
each_of : (P : Data → Type 0) (f : ℕ → Data → Option Fault) → ((n : ℕ) (d : Data) → f n d ≡ None → P d) → (n : ℕ) (ds : Items) → items_fault f n ds ≡ None → EachItem P ds
each_of P f fits n no_items h = tt
each_of P f fits n (item d ds) h = (
  fits n d (under_none (decimal n) (f n d) (first_none (under (decimal n) (f n d)) (items_fault f (n + 1) ds) h)),
  each_of P f fits (n + 1) ds (later_none (under (decimal n) (f n d)) (items_fault f (n + 1) ds) h),
)

each_in : (P : Data → Type 0) (f : ℕ → Data → Option Fault) → ((n : ℕ) (d : Data) → f n d ≡ None → P d) → (o : Option Items) → list_or_type f o ≡ None → EachItem P (items_or_none o)
each_in P f fits None h = tt
each_in P f fits (Some ds) h = each_of P f fits 0 ds h

pub list_items : (P : Data → Type 0) (form : Form) (n : ℕ) (owner : Data) → ((m : ℕ) (x : Data) → form m owner x ≡ None → P x) → (d : Data) → list_of form n owner d ≡ None → EachItem P (items_of d)
list_items P form n owner fits d h = each_in P (λ m. form m owner) fits (as_array d) h

pub may_items : (P : Data → Type 0) (name : Bytes) (form : Form) (n : ℕ) (d : Data) → ((x : Data) → form n d x ≡ None → EachItem P (items_of x)) → (v : Option Data) → value_fault (may name form) n d v ≡ None → EachItem P (items_or_none (option_and_then as_array v))
may_items P name form n d fits None h = tt
may_items P name form n d fits (Some x) h = fits x h

-- members of a map
member_of : (P : Bytes → Data → Type 0) (f : Bytes → Data → Option Fault) → ((k : Bytes) (d : Data) → f k d ≡ None → P k d) → (ms : Members) → entries_fault f ms ≡ None → EachMember P ms
member_of P f fits no_members h = tt
member_of P f fits (member k d ms) h = (
  fits k d (under_none (escaped k) (f k d) (first_none (under (escaped k) (f k d)) (entries_fault f ms) h)),
  member_of P f fits ms (later_none (under (escaped k) (f k d)) (entries_fault f ms) h),
)

member_in : (P : Bytes → Data → Type 0) (f : Bytes → Data → Option Fault) → ((k : Bytes) (d : Data) → f k d ≡ None → P k d) → (o : Option Members) → map_or_type f o ≡ None → EachMember P (members_or_none o)
member_in P f fits None h = tt
member_in P f fits (Some ms) h = member_of P f fits ms h

pub may_members : (P : Bytes → Data → Type 0) (name : Bytes) (form : Bytes → Form) (n : ℕ) (d : Data) → ((k : Bytes) (x : Data) → form k n d x ≡ None → P k x) → (v : Option Data) → value_fault (may name (map_of form)) n d v ≡ None → EachMember P (members_or_none (option_and_then as_object v))
may_members P name form n d fits None h = tt
may_members P name form n d fits (Some x) h = member_in P (λ k. form k n d) fits (as_object x) h
