-- What is read of JSON has each name of an object once, in byte order, since members are put in their places.
use Rattle.std.proofs.Common.{◌≡◌, ℕ, true, List, ◌∷◌, Option, Some, None, refl, ap, ◌∙◌, subst}
use Rattle.std.specs.Prelude.{option_map, option_and_then}
use Rattle.std.specs.Ordering.{nat_cmp, match_ordering, is_lt, ordering_reverse}
use Rattle.std.specs.Cmp.Lexicographic.{slice_cmp}
use Rattle.std.specs.declared.cmp.Ordering.{Ordering}
use Rattle.std.specs.declared.cmp.Ordering.TheVariants as order
use Rattle.std.proofs.lemmas.Bool.{and_parts}
use Rattle.std.proofs.lemmas.Cmp.{nat_list_cmp_total}
use Rattle.serde_json.specs.Data.{Data, null, boolean, number, string, array, object, Items, no_items, item, Members, no_members, member, put}
use Rattle.serde_json.specs.Read.{of_json, of_items, of_members, read, number_of, max_depth}
use Rattle.json.specs.Json as json
use Rattle.json.specs.Lex.{tokens}
use Rattle.slee_value.specs.Order.{is_below, rises}
use Rattle.router_laws_deployed.specs.Ordered.{names, IsOrdered, AreOrdered, EachOrdered}

-- the name comes before the first of these members
abbrev IsAhead : List ℕ → Members → Type 0
IsAhead l no_members = Unit {0}
IsAhead l (member k d ms) = is_below l k ≡ true

ahead_rises : (l : List ℕ) (ms : Members) → IsAhead l ms → rises (names ms) ≡ true → rises (l ∷ names ms) ≡ true
ahead_rises l no_members ahead up = refl
ahead_rises l (member k d ms) ahead up = rw (ahead, up) refl

rises_ahead : (l : List ℕ) (ms : Members) → rises (l ∷ names ms) ≡ true → IsAhead l ms × (rises (names ms) ≡ true)
rises_ahead l no_members up = (tt, refl)
rises_ahead l (member k d ms) up = and_parts (is_below l k) (rises (k ∷ names ms)) up

put_ahead_by : (o : Ordering) (l k m : List ℕ) (d e : Data) (ms : Members) → is_below l k ≡ true → is_below l m ≡ true → IsAhead l (match_ordering o (member k d (member m e ms)) (member m d ms) (member m e (put k d ms)))
put_ahead_by order.Less l k m d e ms one other = one
put_ahead_by order.Equal l k m d e ms one other = other
put_ahead_by order.Greater l k m d e ms one other = other

put_ahead : (l k : List ℕ) (d : Data) (ms : Members) → is_below l k ≡ true → IsAhead l ms → IsAhead l (put k d ms)
put_ahead l k d no_members one ahead = one
put_ahead l k d (member m e ms) one ahead = put_ahead_by (slice_cmp nat_cmp k m) l k m d e ms one ahead

turned : (k l : List ℕ) → slice_cmp nat_cmp k l ≡ order.Greater → is_below l k ≡ true
turned k l is = ap is_lt (nat_list_cmp_total.antisymm l k ∙ ap ordering_reverse is)

put_rises_by : (o : Ordering) (k l : List ℕ) (d e : Data) (ms : Members) → slice_cmp nat_cmp k l ≡ o → rises (l ∷ names ms) ≡ true → rises (names (put k d ms)) ≡ true
    → rises (names (match_ordering o (member k d (member l e ms)) (member l d ms) (member l e (put k d ms)))) ≡ true
put_rises_by order.Less k l d e ms is up rest = let first : is_below k l ≡ true = rw is refl in rw (first, up) refl
put_rises_by order.Equal k l d e ms is up rest = up
put_rises_by order.Greater k l d e ms is up rest = ahead_rises l (put k d ms) (put_ahead l k d ms (turned k l is) (rises_ahead l ms up).0) rest

put_rises : (k : List ℕ) (d : Data) (ms : Members) → rises (names ms) ≡ true → rises (names (put k d ms)) ≡ true
put_rises k d no_members up = refl
put_rises k d (member l e ms) up = put_rises_by (slice_cmp nat_cmp k l) k l d e ms refl up (put_rises k d ms (rises_ahead l ms up).1)

put_each_by : (o : Ordering) (k l : List ℕ) (d e : Data) (ms : Members) → IsOrdered d → IsOrdered e × EachOrdered ms → EachOrdered (put k d ms)
    → EachOrdered (match_ordering o (member k d (member l e ms)) (member l d ms) (member l e (put k d ms)))
put_each_by order.Less k l d e ms mine all rest = (mine, all)
put_each_by order.Equal k l d e ms mine all rest = (mine, all.1)
put_each_by order.Greater k l d e ms mine all rest = (all.0, rest)

put_each : (k : List ℕ) (d : Data) (ms : Members) → IsOrdered d → EachOrdered ms → EachOrdered (put k d ms)
put_each k d no_members mine all = (mine, tt)
put_each k d (member l e ms) mine all = put_each_by (slice_cmp nat_cmp k l) k l d e ms mine all (put_each k d ms mine all.1)

mapped_number : {A : Type 0} (f : A → Data) (o : Option A) (d : Data) → ((x : A) → IsOrdered (f x)) → option_map f o ≡ Some d → IsOrdered d
mapped_number f None d each e = cc
mapped_number f (Some x) d each e = let same : f x ≡ d = cc in subst IsOrdered same (each x)

-- what was found, and what is made of it
split : {A B : Type 0} (o : Option A) (f : A → Option B) (y : B) → option_and_then f o ≡ Some y → (x : A) × ((o ≡ Some x) × (f x ≡ Some y))
split None f y e = cc
split (Some x) f y e = (x, (refl, e))

mapped : {A B : Type 0} (o : Option A) (f : A → B) (y : B) → option_map f o ≡ Some y → (x : A) × ((o ≡ Some x) × (f x ≡ y))
mapped None f y e = cc
mapped (Some x) f y e = (x, (refl, cc))

mutual
  of_json_ordered : (j : json.Json) (d : Data) → of_json j ≡ Some d → IsOrdered d
  of_json_ordered json.null d e = let same : null ≡ d = cc in subst IsOrdered same tt
  of_json_ordered (json.boolean b) d e = let same : boolean b ≡ d = cc in subst IsOrdered same tt
  of_json_ordered (json.number s) d e = mapped_number number (number_of s) d (λ x. tt) e
  of_json_ordered (json.string s) d e = let same : string s ≡ d = cc in subst IsOrdered same tt
  of_json_ordered (json.array js) d e =
      let found = mapped (of_items js) array d e in
      subst IsOrdered found.1.1 (of_items_ordered js found.0 found.1.0)
  of_json_ordered (json.object ms) d e =
      let found = mapped (of_members ms no_members) object d e in
      subst IsOrdered found.1.1 (of_members_ordered ms no_members found.0 found.1.0 (refl, tt))

  of_items_ordered : (js : json.Items) (ds : Items) → of_items js ≡ Some ds → AreOrdered ds
  of_items_ordered json.no_items ds e = let same : no_items ≡ ds = cc in subst AreOrdered same tt
  of_items_ordered (json.item j js) ds e =
      let first = split (of_json j) (λ d. option_map (item d) (of_items js)) ds e in
      let rest = mapped (of_items js) (item first.0) ds first.1.1 in
      subst AreOrdered rest.1.1 (of_json_ordered j first.0 first.1.0, of_items_ordered js rest.0 rest.1.0)

  of_members_ordered : (ms : json.Members) (found r : Members) → of_members ms found ≡ Some r → (rises (names found) ≡ true) × EachOrdered found → (rises (names r) ≡ true) × EachOrdered r
  of_members_ordered json.no_members found r e all = let same : found ≡ r = cc in subst (λ x. (rises (names x) ≡ true) × EachOrdered x) same all
  of_members_ordered (json.member k j ms) found r e all =
      let first = split (of_json j) (λ d. of_members ms (put k d found)) r e in
      of_members_ordered ms (put k first.0 found) r first.1.1 (put_rises k first.0 found all.0, put_each k first.0 found (of_json_ordered j first.0 first.1.0) all.1)

pub read_ordered : (text : List ℕ) (d : Data) → read text ≡ Some d → IsOrdered d
read_ordered text d e =
    let found = split (option_and_then (λ p. json.if_last p.0 p.1) (json.value max_depth (tokens text))) of_json d e in
    of_json_ordered found.0 d found.1.1
