-- Names of the naming facility after changes.
use Rattle.std.proofs.Common.{◌≡◌, ℕ, ◌==◌, Bool, true, false, List, [], ◌∷◌, refl, sym, ap, ◌∙◌, inl, inr}
use Rattle.std.specs.Prelude.{not, filter, option_map, if◌then◌else◌, Some, None}
use Rattle.std.specs.List.{AllByRecursion, fold}
use Rattle.std.specs.Option.{option_map_or}
use Rattle.std.specs.Str.{bytes_eq}
use Rattle.std.proofs.lemmas.Bool.{cases_Bool}
use Rattle.std.proofs.lemmas.Slice.Eq.{bytes_eq-Decides}
use Rattle.slee_value.specs.Order.{is_below}
use Rattle.slee_value.specs.declared.ids.ActivityId.{ActivityId}
use Rattle.router_state.specs.State.{State}
use Rattle.router_state.specs.Contexts.{name_before, named_at, with_name, without_name, without_names_of}
use Rattle.router_state.specs.Ordered.{IsOrdered}
use Rattle.router_state.specs.Changes.{after_change, after_changes}
use Rattle.router_state.specs.declared.change.Change.{Change}
use Rattle.router_state.specs.declared.change.Change.TheVariants as changes
use Rattle.router_state.specs.declared.rows.Named.{Named}
use Rattle.router_laws.proofs.ListLemmas.{find_kept, find_lost, find_put_own, find_put_other}
use Rattle.router_laws.proofs.OrderLemmas.{below_joins}
use Rattle.router_laws.proofs.OrderedLemmas.{ordered_after}
use Rattle.router_laws.proofs.RisingLemmas.{InOrder, order_from_rises}
use Rattle.router_draft.proofs.FieldLemmas.{texts_alike, texts_apart}
use Rattle.router_draft.specs.After.{named_after}

-- two texts that are the same are one
one_text : (x y : List ℕ) → bytes_eq x y ≡ true → x ≡ y
one_text x y same = (bytes_eq-Decides x y).0 same

itself : (x : List ℕ) → bytes_eq x x ≡ true
itself x = (bytes_eq-Decides x x).1 refl

turned : (x y : List ℕ) → bytes_eq x y ≡ false → bytes_eq y x ≡ false
turned x y other = elim (cases_Bool (bytes_eq y x)) [
  | inl same ↦ absurd (let is = one_text y x same in let wrong : bytes_eq x x ≡ false = rw is at other in let right = itself x in cc)
  | inr apart ↦ apart
]

-- a name is bound
bound_seen : (name name' : List ℕ) (a' : ℕ) (rows : List Named) → named_at (with_name rows name' a') name ≡ (if bytes_eq name' name then Some (record { 0 = a' }) else named_at rows name)
bound_seen name name' a' rows =
    let row : Named = record { name = name'; activity = record { 0 = a' } } in
    let mine : Named → Bool = λ r. bytes_eq r.name name in
    elim (cases_Bool (bytes_eq name' name)) [
      | inl same ↦ ap (option_map (λ (r : Named). r.activity)) (find_put_own name_before mine row rows same (λ x own. level x own same)) ∙ (rw same refl)
      | inr other ↦
          ap (option_map (λ (r : Named). r.activity))
          (find_put_other name_before mine row rows (is_below name name') (is_below name' name) other (texts_apart name name' (turned name' name other))
          (λ x own. ap (λ n. is_below n name') (one_text x.name name own)) (λ x own. ap (λ n. is_below name' n) (one_text x.name name own)))
          ∙ (rw other refl)
    ]
  where
    level : (x : Named) → bytes_eq x.name name ≡ true → bytes_eq name' name ≡ true → is_below x.name name' ≡ false
    level x own same = ap (λ n. is_below n name') (one_text x.name name own ∙ sym (one_text name' name same)) ∙ texts_alike name' name' (itself name')

-- a name stands for nothing
unbound_seen : (name name' : List ℕ) (rows : List Named) → named_at (without_name rows name') name ≡ (if bytes_eq name' name then None else named_at rows name)
unbound_seen name name' rows = elim (cases_Bool (bytes_eq name' name)) [
  | inl same ↦ ap (option_map (λ (r : Named). r.activity)) (find_lost (λ (r : Named). bytes_eq r.name name) (λ r. not (bytes_eq r.name name')) (λ (r : Named) mine. lost r mine same) rows) ∙ (rw same refl)
  | inr other ↦ ap (option_map (λ (r : Named). r.activity)) (find_kept (λ (r : Named). bytes_eq r.name name) (λ r. not (bytes_eq r.name name')) (λ (r : Named) mine. kept r mine other) rows) ∙ (rw other refl)
]
  where
    lost : (r : Named) → bytes_eq r.name name ≡ true → bytes_eq name' name ≡ true → not (bytes_eq r.name name') ≡ false
    lost r mine same = ap (λ n. not (bytes_eq n name')) (one_text r.name name mine ∙ sym (one_text name' name same)) ∙ ap not (itself name')

    kept : (r : Named) → bytes_eq r.name name ≡ true → bytes_eq name' name ≡ false → not (bytes_eq r.name name') ≡ true
    kept r mine other = ap (λ n. not (bytes_eq n name')) (one_text r.name name mine) ∙ ap not (turned name' name other)

-- no name comes twice
none_later : (name : List ℕ) (p : Named → Bool) (x : Named) (xs : List Named) → bytes_eq x.name name ≡ true → AllByRecursion (λ y. name_before x y ≡ true) xs → named_at (filter p xs) name ≡ None
none_later name p x [] own all = refl
none_later name p x (y ∷ ys) own all = elim (cases_Bool (p y)) [
  | inl stays ↦ let other = apart in rw (stays, other) (none_later name p x ys own all.1)
  | inr goes ↦ rw goes (none_later name p x ys own all.1)
]
  where
    apart : bytes_eq y.name name ≡ false
    apart = elim (cases_Bool (bytes_eq y.name name)) [
      | inl same ↦ absurd (
          let level : is_below x.name y.name ≡ false = ap (λ n. is_below n y.name) (one_text x.name name own ∙ sym (one_text y.name name same)) ∙ texts_alike y.name y.name (itself y.name) in
          let before = all.0 in cc
          )
      | inr other ↦ other
    ]

-- the names of an activity go
dropped_seen : (name : List ℕ) (a : ℕ) (rows : List Named) → InOrder name_before rows
    → named_at (without_names_of rows a) name ≡ (if option_map_or (λ (b : ActivityId). b.0 == a) (named_at rows name) false then None else named_at rows name)
dropped_seen name a [] order = refl
dropped_seen name a (x ∷ xs) order = elim (cases_Bool (bytes_eq x.name name)) [
  | inl mine ↦ elim (cases_Bool (x.activity.0 == a)) [
    | inl goes ↦ rw (goes, mine, goes) (none_later name (λ (row : Named). not (row.activity.0 == a)) x xs mine order.0)
    | inr stays ↦ rw (stays, mine, stays) refl
  ]
  | inr other ↦ elim (cases_Bool (x.activity.0 == a)) [
    | inl goes ↦ rw (goes, other) (dropped_seen name a xs order.1)
    | inr stays ↦ rw (stays, other) (dropped_seen name a xs order.1)
  ]
]

joins : (x y z : Named) → name_before x y ≡ true → name_before y z ≡ true → name_before x z ≡ true
joins x y z one two = below_joins x.name y.name z.name one two

named_is : (name : List ℕ) (c : Change) (s : State) → IsOrdered s → named_at (after_change c s).names name ≡ named_after c name (named_at s.names name)
named_is name (changes.Bind name' a') s order = bound_seen name name' a'.0 s.names
named_is name (changes.Unbind name') s order = unbound_seen name name' s.names
named_is name (changes.DropContext a') s order = dropped_seen name a'.0 s.names (order_from_rises name_before joins s.names order.names)
named_is name _ s order = refl

pub named_laid : (cs : List Change) (s : State) (name : List ℕ) → IsOrdered s → named_at (after_changes cs s).names name ≡ fold (λ was c. named_after c name was) (named_at s.names name) cs
named_laid [] s name order = refl
named_laid (c ∷ cs) s name order = named_laid cs (after_change c s) name (ordered_after c s order) ∙ ap (λ was. fold (λ was c. named_after c name was) was cs) (named_is name c s order)
