-- What is to be different is just where the keys that stand for it are.
use Rattle.std.proofs.Common.{◌≡◌, ℕ, zero, suc, ◌+◌, ◌==◌, ℤ, Bool, true, false, List, [], ◌∷◌, ◌++◌, Option, Some, None, length, map, is_some, refl, sym, ap, ◌∙◌, arith, inl, inr, Less, Equal, Greater}
use Rattle.std.specs.Prelude.{◌&&◌, ◌||◌, not, int_lt, nat_lt, option_map}
use Rattle.std.specs.Cmp.Lexicographic.{slice_cmp}
use Rattle.std.specs.List.{AllByRecursion, list_all}
use Rattle.std.specs.Option.{option_cmp}
use Rattle.std.specs.Ordering.{bool_cmp, int_cmp, is_eq, nat_cmp, ordering_then}
use Rattle.std.specs.Str.{bytes_eq}
use Rattle.std.specs.declared.cmp.Ordering.{Ordering}
use Rattle.std.proofs.lemmas.Bool.{cases_Bool}
use Rattle.std.proofs.lemmas.Bool.Decides.{nat_tests}
use Rattle.std.proofs.lemmas.Map.Text.{is_eq-slice_cmp}
use denote.Ref.{Bor}
use Rattle.slee_value.specs.declared.ids.ActivityId.{ActivityId}
use Rattle.slee_value.specs.declared.ids.EventId.{EventId}
use Rattle.slee_value.specs.declared.value.Value.{Value}
use Rattle.slee_value.specs.declared.value.Value.TheVariants as values
use Rattle.script_meaning.specs.Same.{same_bool, same_int, same_name, same_option, same_value}
use Rattle.deploy_model.specs.Deployed.{Deployed}
use Rattle.router_state.specs.Contexts.{has_name}
use Rattle.router_state.specs.Profiles.{differ_in, value_of}
use Rattle.router_state.specs.Trees.{entity_at, root_name_at, service_above}
use Rattle.router_state.specs.WellContexts.{differ_in_kind}
use Rattle.router_state.specs.WellEntities.{all_differ, differ_in_name, is_conv, is_named, is_root_name, root_service}
use Rattle.router_state.specs.WellQueues.{differ_in_number}
use Rattle.router_state.specs.declared.rows.AcKind.{AcKind}
use Rattle.router_state.specs.declared.rows.AcKind.TheVariants as kinds
use Rattle.router_state.specs.declared.rows.Activity.{Activity}
use Rattle.router_state.specs.declared.rows.Entity.{Entity}
use Rattle.router_state.specs.declared.rows.ProfileRow.{ProfileRow}
use Rattle.router_state.specs.declared.rows.Queued.{Queued}
use Rattle.router_state.specs.declared.rows.RootName.{RootName}
use Rattle.router_state.specs.declared.rows.Stem.{Stem}
use Rattle.router_state.specs.declared.rows.Stem.TheVariants as stems
use Rattle.snapshot_check.specs.Keys.{are_apart}
use Rattle.snapshot_check.specs.Roots.{external_name, external_names, root_row, root_view, same_root, same_view, service_at, value_view, view_of}
use Rattle.snapshot_check.specs.declared.differing.RootKey.{RootKey}
use Rattle.snapshot_check.specs.declared.differing.ValueKey.{ValueKey}
use Rattle.snapshot_check.proofs.TopLemmas.{alike, found_holds, found_number}

both_true : (a b : Bool) → (a && b) ≡ true → (a ≡ true) × (b ≡ true)
both_true true true passes = (refl, refl)
both_true true false passes = cc
both_true false b passes = cc

true_both : (a b : Bool) → a ≡ true → b ≡ true → (a && b) ≡ true
true_both true true passes also = refl
true_both true false passes also = cc
true_both false b passes also = cc

true_behind : (b : Bool) → (b && true) ≡ b
true_behind true = refl
true_behind false = refl

or_true : (b : Bool) → (b || true) ≡ true
or_true true = refl
or_true false = refl

-- differing things, seen through what they stand for

all_map : {A B : Type 0} (f : A → B) (q : B → Bool) (xs : List A) → list_all q (map f xs) ≡ list_all (λ x. q (f x)) xs
all_map f q [] = refl
all_map f q (x ∷ xs) = ap (λ rest. q (f x) && rest) (all_map f q xs)

map_differ : {A B : Type 0} (f : A → B) (p : B → B → Bool) (xs : List A) → all_differ p (map f xs) ≡ all_differ (λ x y. p (f x) (f y)) xs
map_differ f p [] = refl
map_differ f p (x ∷ xs) = λ i. all_map f (p (f x)) xs i && map_differ f p xs i

-- two tests that agree where something holds of both sides
module _ {A : Type 0} (P : A → Type 0) (p q : A → A → Bool) (agree : (x y : A) → P x → P y → p x y ≡ q x y) where
  all_agree : (x : A) → P x → (ys : List A) → AllByRecursion P ys → list_all (p x) ys ≡ list_all (q x) ys
  all_agree x own [] all = refl
  all_agree x own (y ∷ ys) all = λ i. agree x y own all.0 i && all_agree x own ys all.1 i

  differ_agree : (xs : List A) → AllByRecursion P xs → all_differ p xs ≡ all_differ q xs
  differ_agree [] all = refl
  differ_agree (x ∷ xs) all = λ i. all_agree x all.0 xs all.1 i && differ_agree xs all.1 i

-- keys that an order tells apart just where what they stand for isn't the same
keys_differ : {K V X : Type 0} (order : K → K → Ordering) (view : K → V) (same : V → V → Bool) (seen : X → V) → ((x y : K) → is_eq (order x y) ≡ same (view x) (view y))
    → (keys : List K) (xs : List X) → map view keys ≡ map seen xs → all_differ (are_apart order) keys ≡ all_differ (λ x y. not (same (seen x) (seen y))) xs
keys_differ order view same seen tie keys xs is =
    (λ i. all_differ (λ x y. not (tie x y i)) keys)
    ∙ sym (map_differ view (λ x y. not (same x y)) keys)
    ∙ ap (all_differ (λ x y. not (same x y))) is
    ∙ map_differ seen (λ x y. not (same x y)) xs

-- numbers of events

number_tie : (a b : ℕ) → is_eq (nat_cmp a b) ≡ (a == b)
number_tie a b = elim (cases_Bool (nat_lt a b)) [
  | inl low ↦ let other : (a == b) ≡ false = grind (arith, nat_tests) in rw (low, other) refl
  | inr high ↦ elim (cases_Bool (a == b)) [
    | inl equal ↦ rw (high, equal) refl
    | inr apart ↦ rw (high, apart) refl
  ]
]

pub numbers_differ : (numbers : List ℕ) (events : List Queued) → numbers ≡ map (λ (q : Queued). q.event.id.0) events → all_differ (are_apart nat_cmp) numbers ≡ all_differ differ_in_number events
numbers_differ numbers events is =
    (λ i. all_differ (λ x y. not (number_tie x y i)) numbers) ∙ ap (all_differ (λ x y. not (x == y))) is ∙ map_differ (λ (q : Queued). q.event.id.0) (λ x y. not (x == y)) events

-- external names

none_like : (kind : AcKind) (xs : List Activity) → ((name : List ℕ) → has_name kind name ≡ false) → list_all (λ (y : Activity). differ_in_kind kind y.kind) xs ≡ true
none_like kind [] other = refl
none_like kind (y ∷ ys) other = true_both (differ_in_kind kind y.kind) (list_all (λ (z : Activity). differ_in_kind kind z.kind) ys) (by y.kind) (none_like kind ys other)
  where
    by : (own : AcKind) → differ_in_kind kind own ≡ true
    by (kinds.External name) = ap not (other name)
    by kinds.Null = refl
    by (kinds.Service service) = refl
    by (kinds.Table table) = refl

others_named : (name : List ℕ) (xs : List Activity) → list_all (λ other. not (bytes_eq name other)) (external_names xs) ≡ list_all (λ (y : Activity). differ_in_kind (kinds.External name) y.kind) xs
others_named name [] = refl
others_named name (y ∷ ys) = by y.kind (others_named name ys)
  where
    by : (own : AcKind) → list_all (λ other. not (bytes_eq name other)) (external_names ys) ≡ list_all (λ (z : Activity). differ_in_kind (kinds.External name) z.kind) ys
        → list_all (λ other. not (bytes_eq name other)) (external_name own ++ external_names ys) ≡ (differ_in_kind (kinds.External name) own && list_all (λ (z : Activity). differ_in_kind (kinds.External name) z.kind) ys)
    by (kinds.External other) rest = ap (λ b. not (bytes_eq name other) && b) rest
    by kinds.Null rest = rest
    by (kinds.Service service) rest = rest
    by (kinds.Table table) rest = rest

externals_differ : (xs : List Activity) → all_differ (λ x y. not (bytes_eq x y)) (external_names xs) ≡ all_differ (λ (x y : Activity). differ_in_kind x.kind y.kind) xs
externals_differ [] = refl
externals_differ (x ∷ xs) = by x.kind (externals_differ xs)
  where
    by : (own : AcKind) → all_differ (λ a b. not (bytes_eq a b)) (external_names xs) ≡ all_differ (λ (a b : Activity). differ_in_kind a.kind b.kind) xs
        → all_differ (λ a b. not (bytes_eq a b)) (external_name own ++ external_names xs) ≡ (list_all (λ (y : Activity). differ_in_kind own y.kind) xs && all_differ (λ (a b : Activity). differ_in_kind a.kind b.kind) xs)
    by (kinds.External name) rest = λ i. others_named name xs i && rest i
    by kinds.Null rest = λ i. sym (none_like kinds.Null xs (λ name. refl)) i && rest i
    by (kinds.Service service) rest = λ i. sym (none_like (kinds.Service service) xs (λ name. refl)) i && rest i
    by (kinds.Table table) rest = λ i. sym (none_like (kinds.Table table) xs (λ name. refl)) i && rest i

pub names_differ : (names : List (Bor (List ℕ))) (xs : List Activity) → map (λ (n : Bor (List ℕ)). n.now) names ≡ external_names xs
    → all_differ (are_apart (λ (x y : Bor (List ℕ)). slice_cmp nat_cmp x.now y.now)) names ≡ all_differ (λ (x y : Activity). differ_in_kind x.kind y.kind) xs
names_differ names xs is =
    (λ i. all_differ (λ (x y : Bor (List ℕ)). not (is_eq-slice_cmp x.now y.now i)) names)
    ∙ sym (map_differ (λ (n : Bor (List ℕ)). n.now) (λ x y. not (bytes_eq x y)) names)
    ∙ ap (all_differ (λ x y. not (bytes_eq x y))) is
    ∙ externals_differ xs

-- orders by several parts

step : (o rest : Ordering) (b c : Bool) → is_eq o ≡ b → is_eq rest ≡ c → is_eq (ordering_then o rest) ≡ (b && c)
step Less rest b c is also = ap (λ x. x && c) is
step Equal rest b c is also = also ∙ ap (λ x. x && c) is
step Greater rest b c is also = ap (λ x. x && c) is

option_tie : {A : Type 0} (R : A → A → Ordering) (same : A → A → Bool) → ((x y : A) → is_eq (R x y) ≡ same x y) → (x y : Option A) → is_eq (option_cmp R x y) ≡ same_option same x y
option_tie R same tie None None = refl
option_tie R same tie None (Some y) = refl
option_tie R same tie (Some x) None = refl
option_tie R same tie (Some x) (Some y) = tie x y

seen_tie : {A B : Type 0} (R : A → A → Ordering) (view : A → B) (same : B → B → Bool) → ((x y : A) → is_eq (R x y) ≡ same (view x) (view y)) → (x y : Option A) → is_eq (option_cmp R x y) ≡ same_option same (option_map view x) (option_map view y)
seen_tie R view same tie None None = refl
seen_tie R view same tie None (Some y) = refl
seen_tie R view same tie (Some x) None = refl
seen_tie R view same tie (Some x) (Some y) = tie x y

-- how two texts behind references compare
abbrev text_order : Bor (List ℕ) → Bor (List ℕ) → Ordering
text_order x y = slice_cmp nat_cmp x.now y.now

texts_tie : (x y : Option (Bor (List ℕ))) → is_eq (option_cmp text_order x y) ≡ same_option bytes_eq (option_map (λ (t : Bor (List ℕ)). t.now) x) (option_map (λ (t : Bor (List ℕ)). t.now) y)
texts_tie x y = seen_tie text_order (λ (t : Bor (List ℕ)). t.now) bytes_eq (λ a b. is_eq-slice_cmp a.now b.now) x y

-- convergence names

-- how two keys of roots compare
abbrev root_order : RootKey → RootKey → Ordering
root_order x y =
    ordering_then (option_cmp nat_cmp x.service y.service)
    (ordering_then (option_cmp nat_cmp x.activity y.activity)
    (ordering_then (option_cmp text_order x.address y.address)
    (ordering_then (option_cmp text_order x.event_type y.event_type)
    (ordering_then (option_cmp nat_cmp x.event y.event) (option_cmp text_order x.custom y.custom)))))

abbrev activity_of : ℕ → ActivityId
activity_of n = record { 0 = n }

abbrev event_of : ℕ → EventId
event_of n = record { 0 = n }

root_tie : (x y : RootKey) → is_eq (root_order x y) ≡ same_root (root_view x) (root_view y)
root_tie x y =
    step (option_cmp nat_cmp x.service y.service) (ordering_then (option_cmp nat_cmp x.activity y.activity) (ordering_then (option_cmp text_order x.address y.address) (ordering_then (option_cmp text_order x.event_type y.event_type) (ordering_then (option_cmp nat_cmp x.event y.event) (option_cmp text_order x.custom y.custom))))) (same_option (λ a b. a == b) x.service y.service) (same_option (λ (a b : ActivityId). a.0 == b.0) (root_view x).name.activity (root_view y).name.activity && (same_option bytes_eq (root_view x).name.address (root_view y).name.address && (same_option bytes_eq (root_view x).name.event_type (root_view y).name.event_type && (same_option (λ (a b : EventId). a.0 == b.0) (root_view x).name.event (root_view y).name.event && (same_option bytes_eq (root_view x).name.custom (root_view y).name.custom))))) (option_tie nat_cmp (λ a b. a == b) number_tie x.service y.service)
    (step (option_cmp nat_cmp x.activity y.activity) (ordering_then (option_cmp text_order x.address y.address) (ordering_then (option_cmp text_order x.event_type y.event_type) (ordering_then (option_cmp nat_cmp x.event y.event) (option_cmp text_order x.custom y.custom)))) (same_option (λ (a b : ActivityId). a.0 == b.0) (root_view x).name.activity (root_view y).name.activity) (same_option bytes_eq (root_view x).name.address (root_view y).name.address && (same_option bytes_eq (root_view x).name.event_type (root_view y).name.event_type && (same_option (λ (a b : EventId). a.0 == b.0) (root_view x).name.event (root_view y).name.event && (same_option bytes_eq (root_view x).name.custom (root_view y).name.custom)))) (seen_tie nat_cmp activity_of (λ (a b : ActivityId). a.0 == b.0) number_tie x.activity y.activity)
    (step (option_cmp text_order x.address y.address) (ordering_then (option_cmp text_order x.event_type y.event_type) (ordering_then (option_cmp nat_cmp x.event y.event) (option_cmp text_order x.custom y.custom))) (same_option bytes_eq (root_view x).name.address (root_view y).name.address) (same_option bytes_eq (root_view x).name.event_type (root_view y).name.event_type && (same_option (λ (a b : EventId). a.0 == b.0) (root_view x).name.event (root_view y).name.event && (same_option bytes_eq (root_view x).name.custom (root_view y).name.custom))) (texts_tie x.address y.address)
    (step (option_cmp text_order x.event_type y.event_type) (ordering_then (option_cmp nat_cmp x.event y.event) (option_cmp text_order x.custom y.custom)) (same_option bytes_eq (root_view x).name.event_type (root_view y).name.event_type) (same_option (λ (a b : EventId). a.0 == b.0) (root_view x).name.event (root_view y).name.event && (same_option bytes_eq (root_view x).name.custom (root_view y).name.custom)) (texts_tie x.event_type y.event_type)
    (step (option_cmp nat_cmp x.event y.event) (option_cmp text_order x.custom y.custom) (same_option (λ (a b : EventId). a.0 == b.0) (root_view x).name.event (root_view y).name.event) (same_option bytes_eq (root_view x).name.custom (root_view y).name.custom) (seen_tie nat_cmp event_of (λ (a b : EventId). a.0 == b.0) number_tie x.event y.event)
    (texts_tie x.custom y.custom)))))

all_by : {X : Type 0} (p : X → Bool) (xs : List X) → list_all p xs ≡ true → AllByRecursion (λ x. p x ≡ true) xs
all_by p [] all = tt
all_by p (x ∷ xs) all = let parts = both_true (p x) (list_all p xs) all in (parts.0, all_by p xs parts.1)

all_from : {X : Type 0} (P Q : X → Type 0) → ((x : X) → P x → Q x) → (xs : List X) → AllByRecursion P xs → AllByRecursion Q xs
all_from P Q follows [] all = tt
all_from P Q follows (x ∷ xs) all = (follows x all.0, all_from P Q follows xs all.1)

all_and : {X : Type 0} (P Q : X → Type 0) (xs : List X) → AllByRecursion P xs → AllByRecursion Q xs → AllByRecursion (λ x. P x × Q x) xs
all_and P Q [] all also = tt
all_and P Q (x ∷ xs) all also = ((all.0, also.0), all_and P Q xs all.1 also.1)

-- each convergence name is found by its entity
each_there : (names : List RootName) → AllByRecursion (λ x. is_some (root_name_at names x.entity.0) ≡ true) names
each_there [] = tt
each_there (x ∷ xs) = (first, all_from (λ r. is_some (root_name_at xs r.entity.0) ≡ true) (λ r. is_some (root_name_at (x ∷ xs) r.entity.0) ≡ true) later xs (each_there xs))
  where
    first : is_some (root_name_at (x ∷ xs) x.entity.0) ≡ true
    first = let own = alike x.entity.0 in rw own refl

    later : (r : RootName) → is_some (root_name_at xs r.entity.0) ≡ true → is_some (root_name_at (x ∷ xs) r.entity.0) ≡ true
    later r there = elim (cases_Bool (x.entity.0 == r.entity.0)) [
      | inl is ↦ rw is refl
      | inr other ↦ rw other there
    ]

root_above : (n : ℕ) (rows : List Entity) (service : ℕ) → service_above n rows (stems.Root service) ≡ Some service
root_above zero rows service = refl
root_above (suc n) rows service = refl

-- a convergence name is that of a root, so that its service is that of the tree
own_root : (d : Deployed) (entities : List Entity) (names : List RootName) (next_activity next_event : ℕ) → list_all (is_named names) entities ≡ true
    → (x : RootName) → (is_some (root_name_at names x.entity.0) ≡ true) × (is_root_name d entities next_activity next_event x ≡ true) → service_at entities x.entity.0 ≡ root_service entities x.entity.0
own_root d entities names next_activity next_event named x both =
    let there = (both_true (is_some (entity_at entities x.entity.0)) (is_conv d next_activity next_event x.name) both.1).0 in
    by (entity_at entities x.entity.0) refl there
  where
    of_stem : (row : Entity) (stem : Stem) → row.stem ≡ stem → is_named names row ≡ true → is_some (root_name_at names row.number.0) ≡ true → entity_at entities x.entity.0 ≡ Some row → service_at entities x.entity.0 ≡ root_service entities x.entity.0
    of_stem row (stems.Root service) is own known found = rw (found, is) (sym (root_above (length entities) entities service))
    of_stem row (stems.Child parent relation) is own known found = absurd (let none : not (is_some (root_name_at names row.number.0)) ≡ true = rw is at own in let wrong : false ≡ true = rw known at none in cc)

    by : (o : Option Entity) → entity_at entities x.entity.0 ≡ o → is_some (entity_at entities x.entity.0) ≡ true → service_at entities x.entity.0 ≡ root_service entities x.entity.0
    by None is there = absurd (let wrong : false ≡ true = rw is at there in cc)
    by (Some row) is there =
        of_stem row row.stem refl (found_holds (λ r. is_named names r ≡ true) x.entity.0 row entities (all_by (is_named names) entities named) is)
        (ap (λ n. is_some (root_name_at names n)) (found_number x.entity.0 row entities is) ∙ both.0) is

pub roots_differ : (d : Deployed) (entities : List Entity) (names : List RootName) (next_activity next_event : ℕ) (keys : List RootKey)
    → list_all (is_root_name d entities next_activity next_event) names ≡ true → list_all (is_named names) entities ≡ true → map root_view keys ≡ map (root_row entities) names
    → all_differ (are_apart root_order) keys ≡ all_differ (differ_in_name entities) names
roots_differ d entities names next_activity next_event keys there named is =
    keys_differ root_order root_view same_root (root_row entities) root_tie keys names is
    ∙ differ_agree (λ x. service_at entities x.entity.0 ≡ root_service entities x.entity.0) (λ x y. not (same_root (root_row entities x) (root_row entities y))) (differ_in_name entities)
    (λ x y one other i. not (same_option (λ a b. a == b) (one i) (other i) && same_name x.name y.name)) names
    (all_from (λ x. (is_some (root_name_at names x.entity.0) ≡ true) × (is_root_name d entities next_activity next_event x ≡ true)) (λ x. service_at entities x.entity.0 ≡ root_service entities x.entity.0)
    (own_root d entities names next_activity next_event named) names
    (all_and (λ x. is_some (root_name_at names x.entity.0) ≡ true) (λ x. is_root_name d entities next_activity next_event x ≡ true) names (each_there names) (all_by (is_root_name d entities next_activity next_event) names there)))

-- values

int_tie : (x y : ℤ) → is_eq (int_cmp x y) ≡ same_int x y
int_tie x y = elim (cases_Bool (int_lt x y)) [
  | inl low ↦ rw low refl
  | inr high ↦ elim (cases_Bool (int_lt y x)) [
    | inl above ↦ rw (high, above) refl
    | inr level ↦ rw (high, level) refl
  ]
]

flag_tie : (x y : Bool) → is_eq (bool_cmp x y) ≡ same_bool x y
flag_tie true true = refl
flag_tie true false = refl
flag_tie false true = refl
flag_tie false false = refl

-- how two keys of values compare
abbrev value_order : ValueKey → ValueKey → Ordering
value_order x y =
    ordering_then (option_cmp int_cmp x.int y.int)
    (ordering_then (option_cmp text_order x.text y.text)
    (ordering_then (option_cmp bool_cmp x.flag y.flag)
    (ordering_then (option_cmp nat_cmp x.activity y.activity) (option_cmp nat_cmp x.timer y.timer))))

value_tie : (x y : ValueKey) → is_eq (value_order x y) ≡ same_view (value_view x) (value_view y)
value_tie x y =
    step (option_cmp int_cmp x.int y.int) (ordering_then (option_cmp text_order x.text y.text) (ordering_then (option_cmp bool_cmp x.flag y.flag) (ordering_then (option_cmp nat_cmp x.activity y.activity) (option_cmp nat_cmp x.timer y.timer)))) (same_option same_int x.int y.int) (same_option bytes_eq (value_view x).text (value_view y).text && (same_option same_bool x.flag y.flag && (same_option (λ a b. a == b) x.activity y.activity && (same_option (λ a b. a == b) x.timer y.timer)))) (option_tie int_cmp same_int int_tie x.int y.int)
    (step (option_cmp text_order x.text y.text) (ordering_then (option_cmp bool_cmp x.flag y.flag) (ordering_then (option_cmp nat_cmp x.activity y.activity) (option_cmp nat_cmp x.timer y.timer))) (same_option bytes_eq (value_view x).text (value_view y).text) (same_option same_bool x.flag y.flag && (same_option (λ a b. a == b) x.activity y.activity && (same_option (λ a b. a == b) x.timer y.timer))) (texts_tie x.text y.text)
    (step (option_cmp bool_cmp x.flag y.flag) (ordering_then (option_cmp nat_cmp x.activity y.activity) (option_cmp nat_cmp x.timer y.timer)) (same_option same_bool x.flag y.flag) (same_option (λ a b. a == b) x.activity y.activity && (same_option (λ a b. a == b) x.timer y.timer)) (option_tie bool_cmp same_bool flag_tie x.flag y.flag)
    (step (option_cmp nat_cmp x.activity y.activity) (option_cmp nat_cmp x.timer y.timer) (same_option (λ a b. a == b) x.activity y.activity) (same_option (λ a b. a == b) x.timer y.timer) (option_tie nat_cmp (λ a b. a == b) number_tie x.activity y.activity)
    (option_tie nat_cmp (λ a b. a == b) number_tie x.timer y.timer))))

value_same : (x y : Option Value) → same_view (view_of x) (view_of y) ≡ same_option same_value x y
value_same None None = refl
value_same None (Some (values.Int y)) = refl
value_same None (Some (values.Text y)) = refl
value_same None (Some (values.Bool y)) = refl
value_same None (Some (values.Activity y)) = refl
value_same None (Some (values.Timer y)) = refl
value_same (Some (values.Int x)) None = refl
value_same (Some (values.Int x)) (Some (values.Int y)) = true_behind (same_int x y)
value_same (Some (values.Int x)) (Some (values.Text y)) = refl
value_same (Some (values.Int x)) (Some (values.Bool y)) = refl
value_same (Some (values.Int x)) (Some (values.Activity y)) = refl
value_same (Some (values.Int x)) (Some (values.Timer y)) = refl
value_same (Some (values.Text x)) None = refl
value_same (Some (values.Text x)) (Some (values.Int y)) = refl
value_same (Some (values.Text x)) (Some (values.Text y)) = true_behind (bytes_eq x y)
value_same (Some (values.Text x)) (Some (values.Bool y)) = refl
value_same (Some (values.Text x)) (Some (values.Activity y)) = refl
value_same (Some (values.Text x)) (Some (values.Timer y)) = refl
value_same (Some (values.Bool x)) None = refl
value_same (Some (values.Bool x)) (Some (values.Int y)) = refl
value_same (Some (values.Bool x)) (Some (values.Text y)) = refl
value_same (Some (values.Bool x)) (Some (values.Bool y)) = true_behind (same_bool x y)
value_same (Some (values.Bool x)) (Some (values.Activity y)) = refl
value_same (Some (values.Bool x)) (Some (values.Timer y)) = refl
value_same (Some (values.Activity x)) None = refl
value_same (Some (values.Activity x)) (Some (values.Int y)) = refl
value_same (Some (values.Activity x)) (Some (values.Text y)) = refl
value_same (Some (values.Activity x)) (Some (values.Bool y)) = refl
value_same (Some (values.Activity x)) (Some (values.Activity y)) = true_behind (x.0 == y.0)
value_same (Some (values.Activity x)) (Some (values.Timer y)) = refl
value_same (Some (values.Timer x)) None = refl
value_same (Some (values.Timer x)) (Some (values.Int y)) = refl
value_same (Some (values.Timer x)) (Some (values.Text y)) = refl
value_same (Some (values.Timer x)) (Some (values.Bool y)) = refl
value_same (Some (values.Timer x)) (Some (values.Activity y)) = refl
value_same (Some (values.Timer x)) (Some (values.Timer y)) = refl

pub column_differs : (keys : List ValueKey) (rows : List ProfileRow) (name : List ℕ) → map value_view keys ≡ map (λ (row : ProfileRow). view_of (value_of row.attributes name)) rows
    → all_differ (are_apart value_order) keys ≡ all_differ (λ (x y : ProfileRow). differ_in x.attributes y.attributes name) rows
column_differs keys rows name is =
    keys_differ value_order value_view same_view (λ (row : ProfileRow). view_of (value_of row.attributes name)) value_tie keys rows is
    ∙ (λ i. all_differ (λ (x y : ProfileRow). not (value_same (value_of x.attributes name) (value_of y.attributes name) i)) rows)
