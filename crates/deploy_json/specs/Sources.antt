-- The texts of scripts, and the first that can't be read.
use Rattle.std.specs.Prelude.{ℕ, ◌+◌, [], ◌∷◌, ◌++◌, ◌≡◌, Option, Some, None, option_map, Result, Ok, Err, codes, decimal}
use Rattle.std.specs.Option.{unwrap_or}
use Rattle.serde_json.specs.Data.{Data, Items, no_items, item, Members, no_members, member}
use Rattle.serde_json.specs.Find.{get, as_str}
use Rattle.script_tree.specs.Tree.{Bytes, Statements}
use Rattle.script_tree.specs.Reading.{script_read}
use Rattle.script_tree.specs.declared.fault.SyntaxFault.{SyntaxFault}
use Rattle.deploy_schema.specs.Numbers.{items_of, items_at}
use Rattle.deploy_schema.specs.Pointers.{escaped}
use Rattle.deploy_schema.specs.Names.{members_at}
use Rattle.deploy_json.specs.Values.{text_of}
use Rattle.deploy_json.specs.declared.parts_fault.PartsFault.{PartsFault}
use Rattle.deploy_json.specs.declared.parts_fault.PartsFault.TheVariants as answers

-- Each line, behind a newline.
abbrev pub lines_after : Items → Bytes
lines_after no_items = []
lines_after (item d ds) = 10 ∷ text_of d ++ lines_after ds

abbrev pub joined : Items → Bytes
joined no_items = []
joined (item d ds) = text_of d ++ lines_after ds

abbrev pub text_or_joined : Option Bytes → Items → Bytes
text_or_joined (Some s) ds = s
text_or_joined None ds = joined ds

-- The text of a script.
abbrev pub source : Data → Bytes
source d = text_or_joined (as_str d) (items_of d)

-- A script that can't be read, below some value: the JSON pointer from there, and its fault.
pub record Misread : Type 0 where
  pub path : Bytes
  pub fault : SyntaxFault

abbrev pub under : Bytes → Option Misread → Option Misread
under step None = None
under step (Some m) = Some (record { path = 47 ∷ step ++ m.path; fault = m.fault })

abbrev pub and_then : Option Misread → Option Misread → Option Misread
and_then None later = later
and_then (Some m) later = Some m

abbrev pub misread_of : Result Statements SyntaxFault → Option Misread
misread_of (Ok script) = None
misread_of (Err fault) = Some (record { path = []; fault = fault })

-- The fault of a script with this text.
unfoldable pub text_misread : Bytes → Option Misread
text_misread text = misread_of (script_read text)

abbrev pub script_misread : Data → Option Misread
script_misread d = text_misread (source d)

abbrev pub where_there : (Data → Option Misread) → Option Data → Option Misread
where_there of None = None
where_there of (Some d) = of d

-- The script of an object at a member, if it has one.
abbrev pub member_misread : Bytes → Data → Option Misread
member_misread name d = under name (where_there script_misread (get name d))

-- The text of the script that an object has at a member, empty where it has none.
abbrev pub source_at : Bytes → Data → Bytes
source_at name d = unwrap_or (option_map source (get name d)) []

abbrev pub items_misread : (Data → Option Misread) → ℕ → Items → Option Misread
items_misread of n no_items = None
items_misread of n (item d ds) = and_then (under (decimal n) (of d)) (items_misread of (n + 1) ds)

abbrev pub entries_misread : (Data → Option Misread) → Members → Option Misread
entries_misread of no_members = None
entries_misread of (member k d ms) = and_then (under (escaped k) (of d)) (entries_misread of ms)

abbrev pub handlers_misread : Data → Option Misread
handlers_misread d = under (codes "events") (items_misread (member_misread (codes "on")) 0 (items_at (codes "events") d))

abbrev pub methods_misread : Data → Option Misread
methods_misread d = under (codes "methods") (entries_misread (member_misread (codes "do")) (members_at (codes "methods") d))

abbrev pub callbacks_misread : Data → Option Misread
callbacks_misread d =
    and_then (member_misread (codes "exception") d)
    (and_then (member_misread (codes "rolled_back") d) (member_misread (codes "remove") d))

-- The first script of a block that can't be read: handlers, methods in byte order, callbacks.
abbrev pub block_misread : Data → Option Misread
block_misread d = and_then (handlers_misread d) (and_then (methods_misread d) (callbacks_misread d))

-- The first script of a document that can't be read.
abbrev pub first_misread : Data → Option Misread
first_misread d = under (codes "blocks") (items_misread block_misread 0 (items_at (codes "blocks") d))

-- The answers that may be given where this is the first: want of memory may stand for any.
abbrev pub Tells : Option Misread → PartsFault → Type 0
Tells m answers.NoMemory = Unit {0}
Tells m (answers.Misread path fault) = m ≡ Some (record { path = path; fault = fault })

abbrev pub Says : {A : Type 0} → Option Misread → Result A PartsFault → Type 0
Says m (Ok x) = m ≡ None
Says m (Err e) = Tells m e
