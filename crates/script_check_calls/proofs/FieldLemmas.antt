-- Fields of a `fire`, from one place on: the first, and those behind it. And how many tokens they have.
use Rattle.std.proofs.Common.{◌≡◌, ◌+◌, ◌-◌, ◌<◌, ◌≤◌, ◌==◌, ℕ, Bool, true, false, ◌||◌, List, [], ◌∷◌, ◌++◌, length, drop, take, get_or, map, Option, Some, None, Ok, Err, refl, sym, ap, subst, ◌∙◌, arith, add-one, drop-cons, bytes_eq}
use Rattle.std.specs.Prelude.{if◌then◌else◌, is_some}
use Rattle.std.specs.Option.{option_or}
use Rattle.std.specs.Cmp.Lexicographic.{nat_list_eq_equiv}
use Rattle.std.specs.List.{list_any}
use Rattle.std.proofs.lemmas.List.{length-append, map-append, take_more, drop_all}
use Rattle.std.proofs.lemmas.Bool.Decides.{nat_tests}
use Rattle.std.proofs.lemmas.List.Folds.{list_any-append}
use Rattle.slee_value.specs.declared.kind.Kind.{Kind}
use Rattle.script_tree.specs.declared.tree.FieldValue.{FieldValue}
use Rattle.script_tree.specs.Tree.{Bytes, Expression, tree_of, field_of}
use Rattle.script_tree.specs.Tree as tree
use Rattle.script_tree.specs.Spelling.{spell_expression, spell_fields, spell_more_fields, spell_service, spell_on_activities}
use Rattle.script_types.specs.declared.codes.FieldCode.{FieldCode}
use Rattle.script_types.specs.declared.places.Places.{Places}
use Rattle.script_types.specs.Places.{place_in, only_at}
use Rattle.script_types.specs.Codes.{kind_in}
use Rattle.script_types.specs.Scopes.{Scope}
use Rattle.script_types.specs.TokenCounts.{tokens_in}
use Rattle.script_types.specs.TypingExpressions.{Setting}
use Rattle.script_types.specs.TypingResult.{Checked, known}
use Rattle.script_types.specs.Program.{Term}
use Rattle.script_types.specs.Elaboration.{asked_of}
use Rattle.script_types.specs.ElaborationOfStatements.{fields_of}
use Rattle.script_check_calls.specs.Parts.{Has, field_made, names_of}
use Rattle.script_check_terms.specs.declared.fault.ScriptFault.{ScriptFault}
use Rattle.script_check_terms.specs.Answers.{Refuses}
use Rattle.script_check_calls.proofs.PartLemmas.{behind, then_more, part_made, part_refused}

-- the same names are among both
abbrev pub SameNames : List Bytes → List Bytes → Type 0
SameNames given others = (name : Bytes) → list_any (bytes_eq name) given ≡ list_any (bytes_eq name) others

-- of the names given before it counts only which they are
pub same_fields : (s : Setting) (scope : Scope) (declared : List FieldCode) (given others : List Bytes) (at : ℕ) (fields : List (Bytes × Expression)) → SameNames given others → fields_of s scope declared given at fields ≡ fields_of s scope declared others at fields
same_fields s scope declared given others at [] same = refl
same_fields s scope declared given others at (field ∷ more) same =
    let rest = same_fields s scope declared (field.0 ∷ given) (field.0 ∷ others) (at + 3 + tokens_in field.1) more (λ name. ap (λ b. bytes_eq name field.0 || b) (same name)) in
    rw (same field.0, rest) refl

abbrev FirstFirst : Setting → Scope → List FieldCode → List Bytes → ℕ → Bytes × Expression → List (Bytes × Expression) → Type 0
FirstFirst s scope declared given at field more = fields_of s scope declared given at (field ∷ more) ≡ then_more (field_made s scope declared given at field) (fields_of s scope declared (field.0 ∷ given) (at + 3 + tokens_in field.1) more)

made_or_not : (s : Setting) (scope : Scope) (declared : List FieldCode) (given : List Bytes) (at : ℕ) (field : Bytes × Expression) (more : List (Bytes × Expression)) (kind : Kind) (m : Checked Term) → known at (kind_in field.0 declared) ≡ Ok kind → list_any (bytes_eq field.0) given ≡ false → asked_of s scope kind (at + 2) field.1 ≡ m → FirstFirst s scope declared given at field more
made_or_not s scope declared given at field more kind (Ok term) k n e = rw (k, n, e) refl
made_or_not s scope declared given at field more kind (Err fault) k n e = rw (k, n, e) refl

given_or_not : (s : Setting) (scope : Scope) (declared : List FieldCode) (given : List Bytes) (at : ℕ) (field : Bytes × Expression) (more : List (Bytes × Expression)) (kind : Kind) (is_given : Bool) → known at (kind_in field.0 declared) ≡ Ok kind → list_any (bytes_eq field.0) given ≡ is_given → FirstFirst s scope declared given at field more
given_or_not s scope declared given at field more kind true k n = rw (k, n) refl
given_or_not s scope declared given at field more kind false k n = made_or_not s scope declared given at field more kind (asked_of s scope kind (at + 2) field.1) k n refl

known_or_not : (s : Setting) (scope : Scope) (declared : List FieldCode) (given : List Bytes) (at : ℕ) (field : Bytes × Expression) (more : List (Bytes × Expression)) (m : Checked Kind) → known at (kind_in field.0 declared) ≡ m → FirstFirst s scope declared given at field more
known_or_not s scope declared given at field more (Ok kind) k = given_or_not s scope declared given at field more kind (list_any (bytes_eq field.0) given) k refl
known_or_not s scope declared given at field more (Err fault) k = rw k refl

either_way : (a b : Bool) → (a || b) ≡ (b || (a || false))
either_way true true = refl
either_way true false = refl
either_way false true = refl
either_way false false = refl

-- the names of the fields before one, and its own
one_name_more : (fields : List FieldValue) (i : ℕ) (field : FieldValue) → i < length fields → field ≡ get_or fields i field → SameNames (field.name ∷ names_of (map field_of (take i fields))) (names_of (map field_of (take (i + 1) fields)))
one_name_more fields i field lt is name =
    let next : take (i + 1) fields ≡ take i fields ++ field ∷ [] = take_more fields i field lt ∙ ap (λ x. take i fields ++ x ∷ []) (sym is) in
    either_way (bytes_eq name field.name) (list_any (bytes_eq name) (names_of (map field_of (take i fields))))
    ∙ sym (ap (λ xs. list_any (bytes_eq name) (names_of (map field_of xs))) next
    ∙ ap (λ xs. list_any (bytes_eq name) (names_of xs)) (map-append field_of (take i fields) (field ∷ []))
    ∙ ap (list_any (bytes_eq name)) (map-append (λ f. f.0) (map field_of (take i fields)) (field_of field ∷ []))
    ∙ list_any-append (bytes_eq name) (names_of (map field_of (take i fields))) (field.name ∷ []))

some_or : (o : Option ℕ) (b : Bool) (place : ℕ) → is_some (option_or o (if b then Some place else None)) ≡ (b || is_some o)
some_or (Some x) true place = refl
some_or (Some x) false place = refl
some_or None true place = refl
some_or None false place = refl

-- an index of the names before a field, and behind it
pub given_next : (old new : Places) (fields : List FieldValue) (i : ℕ) (field : FieldValue) → i < length fields → field ≡ get_or fields i field → Has old (names_of (map field_of (take i fields)))
    → ((name : Bytes) → place_in new name ≡ option_or (place_in old name) (only_at field.name i name)) → Has new (names_of (map field_of (take (i + 1) fields)))
given_next old new fields i field lt is has noted name =
    ap is_some (noted name)
    ∙ some_or (place_in old name) (bytes_eq field.name name) i
    ∙ ap (λ b. b || is_some (place_in old name)) (nat_list_eq_equiv.symm field.name name)
    ∙ ap (λ b. bytes_eq name field.name || b) (has name)
    ∙ one_name_more fields i field lt is name

pub fields_next : (s : Setting) (scope : Scope) (declared : List FieldCode) (at : ℕ) (fields : List FieldValue) (i : ℕ) (field : FieldValue) → i < length fields → field ≡ get_or fields i field → fields_of s scope declared (names_of (map field_of (take i fields))) at (map field_of (drop i fields)) ≡ then_more (field_made s scope declared (names_of (map field_of (take i fields))) at (field_of field)) (fields_of s scope declared (names_of (map field_of (take (i + 1) fields))) (at + 3 + tokens_in (tree_of field.value)) (map field_of (drop (i + 1) fields)))
fields_next s scope declared at fields i field lt is =
    let given = names_of (map field_of (take i fields)) in
    let next : drop i fields ≡ field ∷ drop (i + 1) fields = rw (drop-cons fields i field lt, ← is, add-one) refl in
    ap (λ xs. fields_of s scope declared given at (map field_of xs)) next
    ∙ known_or_not s scope declared given at (field_of field) (map field_of (drop (i + 1) fields)) (known at (kind_in field.name declared)) refl
    ∙ ap (then_more (field_made s scope declared given at (field_of field))) (same_fields s scope declared (field.name ∷ given) (names_of (map field_of (take (i + 1) fields))) (at + 3 + tokens_in (tree_of field.value)) (map field_of (drop (i + 1) fields)) (one_name_more fields i field lt is))

-- what the fields from place i on give
abbrev pub fields_from : Setting → Scope → List FieldCode → ℕ → List FieldValue → ℕ → Checked (List (Bytes × Term))
fields_from s scope declared at fields i = fields_of s scope declared (names_of (map field_of (take i fields))) at (map field_of (drop i fields))

abbrev pub field_at : Setting → Scope → List FieldCode → ℕ → List FieldValue → ℕ → FieldValue → Checked (Bytes × Term)
field_at s scope declared at fields i field = field_made s scope declared (names_of (map field_of (take i fields))) at (field_of field)

pub field_refused : (s : Setting) (scope : Scope) (declared : List FieldCode) (at : ℕ) (fields : List FieldValue) (i : ℕ) (field : FieldValue) (done : List (Bytes × Term)) (whole : Checked (List (Bytes × Term))) (e : ScriptFault) → i < length fields → field ≡ get_or fields i field → behind done (fields_from s scope declared at fields i) ≡ whole → Refuses (field_at s scope declared at fields i field) e → Refuses whole e
field_refused s scope declared at fields i field done whole e lt is h r = part_refused done (field_at s scope declared at fields i field) (fields_from s scope declared (at + 3 + tokens_in (tree_of field.value)) fields (i + 1)) whole e (ap (behind done) (sym (fields_next s scope declared at fields i field lt is)) ∙ h) r

pub field_done : (s : Setting) (scope : Scope) (declared : List FieldCode) (at : ℕ) (fields : List FieldValue) (i : ℕ) (field : FieldValue) (done : List (Bytes × Term)) (whole : Checked (List (Bytes × Term))) (made : Bytes × Term) → i < length fields → field ≡ get_or fields i field → behind done (fields_from s scope declared at fields i) ≡ whole → field_at s scope declared at fields i field ≡ Ok made → behind (done ++ made ∷ []) (fields_from s scope declared (at + 3 + tokens_in (tree_of field.value)) fields (i + 1)) ≡ whole
field_done s scope declared at fields i field done whole made lt is h r = part_made done made (field_at s scope declared at fields i field) (fields_from s scope declared (at + 3 + tokens_in (tree_of field.value)) fields (i + 1)) whole (ap (behind done) (sym (fields_next s scope declared at fields i field lt is)) ∙ h) r

-- with a comma before each, and the bracket behind the last
abbrev pub tokens_to_the_end : List FieldValue → ℕ
tokens_to_the_end fields = length (spell_more_fields (map field_of fields))

pub tokens_next : (fields : List FieldValue) (i : ℕ) (field : FieldValue) → i < length fields → field ≡ get_or fields i field → tokens_to_the_end (drop i fields) ≡ 3 + tokens_in (tree_of field.value) + tokens_to_the_end (drop (i + 1) fields)
tokens_next fields i field lt is =
    let next : drop i fields ≡ field ∷ drop (i + 1) fields = rw (drop-cons fields i field lt, ← is, add-one) refl in
    let both : length (spell_expression (tree_of field.value) ++ spell_more_fields (map field_of (drop (i + 1) fields))) ≡ tokens_in (tree_of field.value) + tokens_to_the_end (drop (i + 1) fields) = length-append (spell_expression (tree_of field.value)) (spell_more_fields (map field_of (drop (i + 1) fields))) in
    ap tokens_to_the_end next ∙ (let e : length (spell_more_fields (field_of field ∷ map field_of (drop (i + 1) fields))) ≡ 3 + tokens_in (tree_of field.value) + tokens_to_the_end (drop (i + 1) fields) = omega (arith, both) in e)

unless_none : (m n : ℕ) → n + 1 ≡ m → 1 < m → m ≡ if n == 0 then 0 else n + 1
unless_none m n h some = grind (arith, nat_tests)

-- there are brackets only round fields
pub brackets_round : (fields : List FieldValue) (n : ℕ) → n + 1 ≡ tokens_to_the_end fields → length (spell_fields (map field_of fields)) ≡ if n == 0 then 0 else n + 1
brackets_round [] n h = let z : n ≡ 0 = omega (arith, h) in rw z refl
brackets_round (field ∷ fields) n h = let some : 1 < length (spell_more_fields (map field_of (field ∷ fields))) = omega arith in unless_none (tokens_to_the_end (field ∷ fields)) n h some

pub tokens_of_fire : (name : Bytes) (x : Expression) (service : Option Bytes) (fields : List (Bytes × Expression)) → length (spell_on_activities (tree.Fire name x service fields)) ≡ 3 + tokens_in x + length (spell_service service) + length (spell_fields fields)
tokens_of_fire name x service fields =
    let all : length (spell_expression x ++ (spell_service service ++ spell_fields fields)) ≡ tokens_in x + length (spell_service service ++ spell_fields fields) = length-append (spell_expression x) (spell_service service ++ spell_fields fields) in
    let behind : length (spell_service service ++ spell_fields fields) ≡ length (spell_service service) + length (spell_fields fields) = length-append (spell_service service) (spell_fields fields) in
    omega (arith, all, behind)

-- where there are fields, all of them have brackets
pub all_tokens : (fields : List FieldValue) (i : ℕ) → i < length fields → length (spell_fields (map field_of fields)) ≡ tokens_to_the_end fields
all_tokens [] i lt = let none : ⊥ = omega (arith, lt) in absurd none
all_tokens (field ∷ fields) i lt = refl

-- behind the last field stands a bracket
pub last_token : (fields : List FieldValue) (i here at : ℕ) → length fields ≤ i → here + tokens_to_the_end (drop i fields) ≡ at + tokens_to_the_end fields → here + 1 ≡ at + tokens_to_the_end fields
last_token fields i here at end place = let none : drop i fields ≡ [] = drop_all i fields end in subst (λ rest. here + tokens_to_the_end rest ≡ at + tokens_to_the_end fields) none place

some_token : (fields : List FieldValue) → 1 ≤ tokens_to_the_end fields
some_token [] = omega arith
some_token (field ∷ fields) = omega arith

-- the tokens of all fields, behind the last
pub tokens_behind : (fields : List FieldValue) (i here at : ℕ) → length fields ≤ i → here + tokens_to_the_end (drop i fields) ≡ at + tokens_to_the_end fields → length (spell_fields (map field_of fields)) ≡ if (here - at) == 0 then 0 else (here - at) + 1
tokens_behind fields i here at end place =
    let last = last_token fields i here at end place in
    let some = some_token fields in
    brackets_round fields (here - at) (omega (arith, last, some))
