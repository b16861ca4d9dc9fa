-- Names, and expressions without parts.
use Rattle.std.proofs.Common.{◌≡◌, ◌+◌, ℕ, inl, inr, Bool, true, false, List, [], ◌∷◌, length, Option, Some, None, Ok, Err, refl, sym, ap, subst, ◌∙◌}
use Rattle.std.specs.Prelude.{cond, find, position, nat_lt, slice_get, bytes_eq, is_some, option_map, option_and_then}
use Rattle.std.specs.List.{position_or_len}
use Rattle.std.proofs.lemmas.List.Folds.{find_at}
use Rattle.std.proofs.lemmas.Option.{slice_get_past, slice_get_cases}
use Rattle.std.proofs.lemmas.Bool.{ltb-false, lt-ltb, le-ltb}
use Rattle.slee_value.specs.declared.kind.Kind.{Kind}
use Rattle.slee_value.specs.declared.kind.Kind.TheVariants as k
use Rattle.script_types.specs.declared.codes.FieldCode.{FieldCode}
use Rattle.script_types.specs.declared.codes.TableCode.{TableCode}
use Rattle.script_tree.specs.declared.symbol.Constant.{Constant}
use Rattle.script_tree.specs.declared.symbol.Constant.TheVariants as c
use Rattle.script_tree.specs.declared.tree.Leaf.{Leaf}
use Rattle.script_tree.specs.declared.tree.Leaf.TheVariants as l
use Rattle.script_tree.specs.Tree.{Bytes}
use Rattle.script_types.specs.declared.term.Atom.TheVariants as a
use Rattle.script_types.specs.Codes.{Method, named, kind_in, relation_named}
use Rattle.script_types.specs.TypingResult.{Checked, ◌>>=◌, known}
use Rattle.script_types.specs.Scopes.{Scope, Holding, Value, Child, Variable, visible, value_or_fault, child_or_fault, check_value, check_child}
use Rattle.script_types.specs.TypingExpressions.{Role, OnEvent, InMethod, OnException, OnRolledBack, OnRemove, Setting, not_on_remove, check_failure, check_constant, check_event_field, check_leaf}
use Rattle.script_types.specs.Elaboration.{Typed, typed, Found, ValueAt, ChildAt, found_in, variable_named, as_value, value_named, as_child, child_named, failure_for, constant_of, event_field, event_field_for, leaf_of}
use Rattle.script_types.specs.ElaborationOfStatements.{MethodAt, method_from}
use Rattle.script_laws.proofs.TypedAlike.{Same, same_then, same_after, same_known, same_end, same_self}

abbrev pub kind_of : Typed → Kind
kind_of one = one.kind

-- the item at the first place that passes is the first item that passes
within : {A : Type 0} (xs : List A) (n : ℕ) (b : Bool) → nat_lt n (length xs) ≡ b → slice_get xs n ≡ option_and_then (slice_get xs) (cond b (Some n) None)
within xs n true h = refl
within xs n false h = slice_get_past xs n (ltb-false n (length xs) h)

pub find_is : {A : Type 0} (test : A → Bool) (xs : List A) → find test xs ≡ option_and_then (slice_get xs) (position test xs)
find_is test xs = find_at test xs ∙ within xs (position_or_len test xs) (nat_lt (position_or_len test xs) (length xs)) refl

-- a place that passes has an item
inside : {A : Type 0} (xs : List A) (n : ℕ) → is_some (slice_get xs n) ≡ nat_lt n (length xs)
inside xs n = elim (slice_get_cases xs n).1 [ inl h ↦ ap is_some h.2 ∙ sym (lt-ltb n (length xs) h.1) | inr h ↦ ap is_some h.1 ∙ sym (le-ltb n (length xs) h.0) ]

-- a variable, by its name and by its place
holding_at : (o : Option Variable) (place : ℕ) → option_map (λ v. v.holds) o ≡ option_map (λ f. f.holds) (option_map (λ (v : Variable). let z : Found = record { place = place; holds = v.holds } in z) o)
holding_at None place = refl
holding_at (Some v) place = refl

holding_in : (scope : Scope) (o : Option ℕ) → option_map (λ v. v.holds) (option_and_then (slice_get scope) o) ≡ option_map (λ f. f.holds) (found_in scope o)
holding_in scope None = refl
holding_in scope (Some n) = holding_at (slice_get scope n) n

visible_is : (scope : Scope) (name : Bytes) → visible scope name ≡ option_map (λ f. f.holds) (variable_named scope name)
visible_is scope name =
    let test : Variable → Bool = λ v. bytes_eq v.name name in
    ap (option_map (λ (v : Variable). v.holds)) (find_is test scope) ∙ holding_in scope (position test scope)

abbrev pub kind_at : ValueAt → Kind
kind_at x = x.kind

value_held : (h : Holding) (place at : ℕ) → Same kind_at (as_value at place h) (value_or_fault (Some h) at)
value_held (Value kind) place at = refl
value_held (Child block) place at = refl

value_found : (o : Option Found) (at : ℕ) → Same kind_at (known at o >>= λ x. as_value at x.place x.holds) (value_or_fault (option_map (λ f. f.holds) o) at)
value_found None at = refl
value_found (Some f) at = value_held f.holds f.place at

pub value_same : (scope : Scope) (name : Bytes) (at : ℕ) → Same kind_at (value_named scope name at) (check_value scope name at)
value_same scope name at = subst (λ o. Same kind_at (value_named scope name at) (value_or_fault o at)) (sym (visible_is scope name)) (value_found (variable_named scope name) at)

abbrev pub block_at : ChildAt → ℕ
block_at x = x.block

child_held : (h : Holding) (place at : ℕ) → Same block_at (as_child at place h) (child_or_fault (Some h) at)
child_held (Value kind) place at = refl
child_held (Child block) place at = refl

child_found : (o : Option Found) (at : ℕ) → Same block_at (known at o >>= λ x. as_child at x.place x.holds) (child_or_fault (option_map (λ f. f.holds) o) at)
child_found None at = refl
child_found (Some f) at = child_held f.holds f.place at

pub child_same : (scope : Scope) (name : Bytes) (at : ℕ) → Same block_at (child_named scope name at) (check_child scope name at)
child_same scope name at = subst (λ o. Same block_at (child_named scope name at) (child_or_fault o at)) (sym (visible_is scope name)) (child_found (variable_named scope name) at)

-- a field of an event, by its name and by its place
field_is : (place : ℕ) (name : Bytes) (fields : List FieldCode) → kind_in name fields ≡ option_map kind_of (event_field place name fields)
field_is place name [] = refl
field_is place name (field ∷ fields) =
    elim (bytes_eq field.name name) as (λ b. option_map (λ (f : FieldCode). f.kind) (cond b (Some field) (named (λ f. f.name) name fields)) ≡ option_map kind_of (cond b (Some (typed field.kind (a.EventField place field.kind))) (event_field (place + 1) name fields)))
    [ true ↦ refl | false ↦ field_is (place + 1) name fields ]

event_field_same : (role : Role) (at : ℕ) (name : Bytes) → Same kind_of (event_field_for role at name) (check_event_field role at name)
event_field_same (OnEvent fields) at name = same_known kind_of (at + 2) (event_field 0 name fields) (kind_in name fields) (field_is 0 name fields)
event_field_same (InMethod result) at name = refl
event_field_same OnException at name = refl
event_field_same OnRolledBack at name = refl
event_field_same OnRemove at name = refl

-- a method, by its name and by its number
pub method_is : (number : ℕ) (name : Bytes) (methods : List Method) → named (λ m. m.name) name methods ≡ option_map (λ (x : MethodAt). x.method) (method_from number name methods)
method_is number name [] = refl
method_is number name (method ∷ methods) =
    elim (bytes_eq method.name name) as (λ b. cond b (Some method) (named (λ m. m.name) name methods) ≡ option_map (λ (x : MethodAt). x.method) (cond b (Some (record { number = number; method = method })) (method_from (number + 1) name methods)))
    [ true ↦ refl | false ↦ method_is (number + 1) name methods ]

-- a table, by its name and by its place
table_found : (o : Option TableCode) (b : Bool) (make : ℕ → Typed) (n at : ℕ) (test : Checked (Unit {0})) → ((place : ℕ) → (make place).kind ≡ k.Activity) → is_some o ≡ b → Same kind_of (known at (option_map make (cond b (Some n) None)) >>= λ x. test >>= λ _. (let z : Checked Typed = Ok x in z)) (known at o >>= λ _. test >>= λ _. (let z : Checked Kind = Ok k.Activity in z))
table_found None false make n at test m h = refl
table_found None true make n at test m h = cc
table_found (Some t) false make n at test m h = cc
table_found (Some t) true make n at (Ok x) m h = ap (λ z. let r : Checked Kind = Ok z in r) (sym (m n))
table_found (Some t) true make n at (Err fault) m h = refl

failure_same : (role : Role) (at : ℕ) → Same kind_of (failure_for role at) (check_failure role at)
failure_same (OnEvent fields) at = refl
failure_same (InMethod result) at = refl
failure_same OnException at = refl
failure_same OnRolledBack at = refl
failure_same OnRemove at = refl

constant_same : (s : Setting) (at : ℕ) (x : Constant) → Same kind_of (constant_of s at x) (check_constant s at x)
constant_same s at c.True = refl
constant_same s at c.False = refl
constant_same s at c.Nothing = refl
constant_same s at c.Now = same_after kind_of (not_on_remove s at) _ _ (λ _. refl)
constant_same s at c.Activity = same_after kind_of (not_on_remove s at) _ _ (λ _. refl)
constant_same s at c.Failure = failure_same s.role at

table_same : (s : Setting) (scope : Scope) (at : ℕ) (name : Bytes) → Same kind_of (leaf_of s scope at (l.Table name)) (check_leaf s scope at (l.Table name))
table_same s scope at name =
    let test : TableCode → Bool = λ t. bytes_eq t.name name in
    let n : ℕ = position_or_len test s.codes.tables in
    table_found (find test s.codes.tables) (nat_lt n (length s.codes.tables)) _ n (at + 2) (not_on_remove s at) (λ _. refl) (ap is_some (find_at test s.codes.tables) ∙ inside s.codes.tables n)

pub leaf_same : (s : Setting) (scope : Scope) (at : ℕ) (x : Leaf) → Same kind_of (leaf_of s scope at x) (check_leaf s scope at x)
leaf_same s scope at (l.Int n) = refl
leaf_same s scope at (l.Text t) = refl
leaf_same s scope at (l.Constant x) = constant_same s at x
leaf_same s scope at (l.Variable name) = same_end kind_at kind_of (value_named scope name at) (check_value scope name at) _ (value_same scope name at) (λ x. refl)
leaf_same s scope at (l.Field name) = same_end (λ (x : Kind). x) kind_of (known (at + 2) (kind_in name s.block.fields)) (known (at + 2) (kind_in name s.block.fields)) _ (same_self (known (at + 2) (kind_in name s.block.fields))) (λ x. refl)
leaf_same s scope at (l.EventField name) = event_field_same s.role at name
leaf_same s scope at (l.Table name) = table_same s scope at name
leaf_same s scope at (l.Count name) = same_after kind_of (known (at + 2) (relation_named name s.block)) _ _ (λ _. same_after kind_of (not_on_remove s at) _ _ (λ _. refl))
leaf_same s scope at (l.Priority name) = same_then block_at kind_of _ _ _ _ (child_same scope name (at + 2)) (λ _. same_after kind_of (not_on_remove s at) _ _ (λ _. refl))
