-- No fault of a list's parts where the document's list has none.
use Rattle.std.proofs.Common.{◌≡◌, ℕ, ◌+◌, List, [], ◌∷◌, Option, Some, None, refl, map}
use Rattle.std.specs.Prelude.{decimal, option_and_then}
use Rattle.serde_json.specs.Data.{Data, Items, no_items, item, Members, no_members, member}
use Rattle.serde_json.specs.Find.{as_array, as_object}
use Rattle.script_tree.specs.Tree.{Bytes}
use Rattle.deploy_model.specs.Faults.{Fault, under, and_then}
use Rattle.deploy_model.specs.Rules.{Rule, items, items_from, entries}
use Rattle.deploy_schema.specs.Pointers.{escaped}
use Rattle.deploy_schema.specs.Forms.{Form, may, list_of, list_or_type, items_fault, map_of, map_or_type, entries_fault, value_fault}
use Rattle.deploy_schema.specs.Numbers.{items_of, items_or_none}
use Rattle.deploy_schema.specs.Names.{members_or_none}
use Rattle.deploy_json.specs.Values.{listed, entries as entries_in}
use Rattle.deploy_json.specs.Shapes.{EachItem}
use Rattle.deploy_json.proofs.Each.{any_items}
use Rattle.deploy_model.proofs.Faultless.{first_none, later_none, under_none}

-- no fault at the end of a table
abbrev no_fault : Option Fault
no_fault = None

pub ended : no_fault ≡ None
ended = refl

pub both_none : {a b : Option Fault} → a ≡ None → b ≡ None → and_then a b ≡ None
both_none {a = None} {b = b} h g = g
both_none {a = Some f} {b = b} h g = cc

pub kept_none : {a : Option Fault} → (step : Bytes) → a ≡ None → under step a ≡ None
kept_none {a = None} step h = refl
kept_none {a = Some f} step h = cc

pub first_same : {A : Type 0} (x y : A) (xs ys : List A) → x ∷ xs ≡ y ∷ ys → x ≡ y
first_same x y xs ys e = cc

pub rest_same : {A : Type 0} (x y : A) (xs ys : List A) → x ∷ xs ≡ y ∷ ys → xs ≡ ys
rest_same x y xs ys e = cc

pub nothing_none : {A R : Type 0} (row : A → R) (rule : ℕ → Rule A) (xs : List A) → map row xs ≡ [] → items rule xs ≡ None
nothing_none row rule [] e = refl
nothing_none row rule (x ∷ xs) e = cc

-- the items of an array, each of which stands for one of the list
fitting_none : {A R : Type 0} (P : Data → Type 0) (row : A → R) (of : Data → R) (rule : ℕ → Rule A) (f : ℕ → Data → Option Fault) → ((n : ℕ) (x : A) (d : Data) → P d → row x ≡ of d → f n d ≡ None → rule n x ≡ None) → (n : ℕ) (xs : List A) (ds : Items) → map row xs ≡ listed of ds → EachItem P ds → items_fault f n ds ≡ None → items_from rule n xs ≡ None
fitting_none P row of rule f each n [] ds e fits h = refl
fitting_none P row of rule f each n (x ∷ xs) no_items e fits h = cc
fitting_none P row of rule f each n (x ∷ xs) (item d ds) e fits h =
    both_none
    (kept_none (decimal n) (each n x d fits.0 (first_same (row x) (of d) (map row xs) (listed of ds) e) (under_none (decimal n) (f n d) (first_none (under (decimal n) (f n d)) (items_fault f (n + 1) ds) h))))
    (fitting_none P row of rule f each (n + 1) xs ds (rest_same (row x) (of d) (map row xs) (listed of ds) e) fits.1 (later_none (under (decimal n) (f n d)) (items_fault f (n + 1) ds) h))

pub items_none : {A R : Type 0} (row : A → R) (of : Data → R) (rule : ℕ → Rule A) (f : ℕ → Data → Option Fault) → ((n : ℕ) (x : A) (d : Data) → row x ≡ of d → f n d ≡ None → rule n x ≡ None) → (xs : List A) (ds : Items) → map row xs ≡ listed of ds → items_fault f 0 ds ≡ None → items rule xs ≡ None
items_none row of rule f each xs ds e h = fitting_none (λ d. Unit {0}) row of rule f (λ n x d t same none. each n x d same none) 0 xs ds e (any_items ds) h

in_array : {A R : Type 0} (P : Data → Type 0) (row : A → R) (of : Data → R) (rule : ℕ → Rule A) (f : ℕ → Data → Option Fault) → ((n : ℕ) (x : A) (d : Data) → P d → row x ≡ of d → f n d ≡ None → rule n x ≡ None) → (xs : List A) (o : Option Items) → map row xs ≡ listed of (items_or_none o) → EachItem P (items_or_none o) → list_or_type f o ≡ None → items rule xs ≡ None
in_array P row of rule f each xs None e fits h = nothing_none row rule xs e
in_array P row of rule f each xs (Some ds) e fits h = fitting_none P row of rule f each 0 xs ds e fits h

pub array_none : {A R : Type 0} (row : A → R) (of : Data → R) (rule : ℕ → Rule A) (form : Form) (m : ℕ) (owner : Data) → ((n : ℕ) (x : A) (d : Data) → row x ≡ of d → form n owner d ≡ None → rule n x ≡ None) → (xs : List A) (d : Data) → map row xs ≡ listed of (items_of d) → list_of form m owner d ≡ None → items rule xs ≡ None
array_none row of rule form m owner each xs d e h = in_array (λ x. Unit {0}) row of rule (λ n. form n owner) (λ n x v t same none. each n x v same none) xs (as_array d) e (any_items (items_of d)) h

pub list_none : {A R : Type 0} (row : A → R) (of : Data → R) (rule : ℕ → Rule A) (name : Bytes) (form : Form) (m : ℕ) (owner : Data) → ((n : ℕ) (x : A) (d : Data) → row x ≡ of d → form n owner d ≡ None → rule n x ≡ None) → (xs : List A) (v : Option Data) → map row xs ≡ listed of (items_or_none (option_and_then as_array v)) → value_fault (may name (list_of form)) m owner v ≡ None → items rule xs ≡ None
list_none row of rule name form m owner each xs None e h = nothing_none row rule xs e
list_none row of rule name form m owner each xs (Some d) e h = array_none row of rule form m owner each xs d e h

-- the same, where it is known what each item has
pub fitting_list_none : {A R : Type 0} (P : Data → Type 0) (row : A → R) (of : Data → R) (rule : ℕ → Rule A) (name : Bytes) (form : Form) (m : ℕ) (owner : Data) → ((n : ℕ) (x : A) (d : Data) → P d → row x ≡ of d → form n owner d ≡ None → rule n x ≡ None) → (xs : List A) (v : Option Data) → map row xs ≡ listed of (items_or_none (option_and_then as_array v)) → EachItem P (items_or_none (option_and_then as_array v)) → value_fault (may name (list_of form)) m owner v ≡ None → items rule xs ≡ None
fitting_list_none P row of rule name form m owner each xs None e fits h = nothing_none row rule xs e
fitting_list_none P row of rule name form m owner each xs (Some d) e fits h = in_array P row of rule (λ n. form n owner) each xs (as_array d) e fits h

-- the members of an object, each of which stands for one of the list
pub entries_none : {A R : Type 0} (row : A → R) (of : Bytes → Data → R) (name : A → Bytes) (rule : Rule A) (f : Bytes → Data → Option Fault) → ((x : A) (k : Bytes) (d : Data) → row x ≡ of k d → f k d ≡ None → rule x ≡ None) → (xs : List A) (ms : Members) → map row xs ≡ entries_in of ms → entries_fault f ms ≡ None → entries name rule xs ≡ None
entries_none row of name rule f each [] ms e h = refl
entries_none row of name rule f each (x ∷ xs) no_members e h = cc
entries_none row of name rule f each (x ∷ xs) (member k d ms) e h =
    both_none
    (kept_none (name x) (each x k d (first_same (row x) (of k d) (map row xs) (entries_in of ms) e) (under_none (escaped k) (f k d) (first_none (under (escaped k) (f k d)) (entries_fault f ms) h))))
    (entries_none row of name rule f each xs ms (rest_same (row x) (of k d) (map row xs) (entries_in of ms) e) (later_none (under (escaped k) (f k d)) (entries_fault f ms) h))

in_object : {A R : Type 0} (row : A → R) (of : Bytes → Data → R) (name : A → Bytes) (rule : Rule A) (f : Bytes → Data → Option Fault) → ((x : A) (k : Bytes) (d : Data) → row x ≡ of k d → f k d ≡ None → rule x ≡ None) → (xs : List A) (o : Option Members) → map row xs ≡ entries_in of (members_or_none o) → map_or_type f o ≡ None → entries name rule xs ≡ None
in_object row of name rule f each xs None e h = entries_none row of name rule f each xs no_members e refl
in_object row of name rule f each xs (Some ms) e h = entries_none row of name rule f each xs ms e h

pub map_none : {A R : Type 0} (row : A → R) (of : Bytes → Data → R) (name : A → Bytes) (rule : Rule A) (wanted : Bytes) (form : Bytes → Form) (m : ℕ) (owner : Data) → ((x : A) (k : Bytes) (d : Data) → row x ≡ of k d → form k m owner d ≡ None → rule x ≡ None) → (xs : List A) (v : Option Data) → map row xs ≡ entries_in of (members_or_none (option_and_then as_object v)) → value_fault (may wanted (map_of form)) m owner v ≡ None → entries name rule xs ≡ None
map_none row of name rule wanted form m owner each xs None e h = entries_none row of name rule (λ k. form k m owner) each xs no_members e refl
map_none row of name rule wanted form m owner each xs (Some d) e h = in_object row of name rule (λ k. form k m owner) each xs (as_object d) e h
