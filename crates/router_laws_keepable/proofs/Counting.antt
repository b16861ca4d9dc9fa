-- A document has no more tables and services than its text has bytes.
use Rattle.std.proofs.Common.{◌≡◌, ℕ, ◌+◌, ◌≤◌, List, [], ◌∷◌, length, refl, ap, sym, subst, arith, inl, inr, Option, Some, None}
use Rattle.std.specs.Prelude.{Ok, Result, codes, option_and_then, option_map}
use Rattle.std.specs.Ordering.{match_ordering, nat_cmp}
use Rattle.std.specs.Cmp.Lexicographic.{slice_cmp}
use Rattle.std.specs.declared.cmp.Ordering.{Ordering}
use Rattle.std.specs.declared.cmp.Ordering.TheVariants as order
use Rattle.std.specs.Str.{is_utf8}
use Rattle.std.proofs.lemmas.Bool.{cases_Bool}
use Rattle.serde_json.specs.Data.{Data, Items, Members, array, boolean, item, member, no_items, no_members, null, number, object, string}
use Rattle.serde_json.specs.Find.{as_array, as_object, get, get_member}
use Rattle.deploy_schema.specs.Names.{members_at, members_or_none}
use Rattle.deploy_schema.specs.Numbers.{items_at, items_or_none}
use Rattle.deploy_schema.specs.Tables.{shape_fault}
use Rattle.deploy_json.proofs.Shaped.{shaped}
use Rattle.deploy_json.specs.Documents.{parts_in}
use Rattle.deploy_json.specs.Reading.{parts_of, shape_read, syntax_read, unless, value_in, value_parts}
use Rattle.deploy_json.specs.Rows.{PartsRow}
use Rattle.deploy_json.specs.Shapes.{EachItem, IsService}
use Rattle.deploy_json.specs.Sources.{first_misread}
use Rattle.deploy_json.specs.Values.{entries, listed, service_of, table_of}
use Rattle.deploy_json.specs.declared.fault.ReadFault.{ReadFault}
use Rattle.router_laws_deployed.proofs.Declared.{shape_none, unless_ok}
use Rattle.router_laws_keepable.proofs.Members.{data_size, read_few, sum_items, sum_members}

-- what is found in a value has no more members than it

own_few : (e d : Data) (n : ℕ) → data_size e ≤ n → Some e ≡ Some d → data_size d ≤ n
own_few e d n few is = let same : e ≡ d = cc in subst (λ x. data_size x ≤ n) same few

member_by : (o : Ordering) (d : Data) (n : ℕ) (below same above : Option Data) → (below ≡ Some d → data_size d ≤ n) → (same ≡ Some d → data_size d ≤ n) → (above ≡ Some d → data_size d ≤ n) → match_ordering o below same above ≡ Some d → data_size d ≤ n
member_by order.Less d n below same above one two three is = one is
member_by order.Equal d n below same above one two three is = two is
member_by order.Greater d n below same above one two three is = three is

member_few : (k : List ℕ) (ms : Members) (d : Data) (n : ℕ) → sum_members ms ≤ n → get_member k ms ≡ Some d → data_size d ≤ n
member_few k no_members d n few is = absurd (cc)
member_few k (member l e ms) d n few is =
    let rest : sum_members ms ≤ n = omega (arith, few) in
    let own : data_size e ≤ n = omega (arith, few) in
    member_by (slice_cmp nat_cmp k l) d n (get_member k ms) (Some e) (get_member k ms) (member_few k ms d n rest) (own_few e d n own) (member_few k ms d n rest) is

get_few : (k : List ℕ) (d e : Data) → get k d ≡ Some e → data_size e ≤ data_size d
get_few k null e is = absurd (cc)
get_few k (boolean b) e is = absurd (cc)
get_few k (number n) e is = absurd (cc)
get_few k (string s) e is = absurd (cc)
get_few k (array ds) e is = absurd (cc)
get_few k (object ms) e is = member_few k ms e (sum_members ms) (omega arith) is

members_few : (e : Data) → sum_members (members_or_none (as_object e)) ≤ data_size e
members_few null = omega arith
members_few (boolean b) = omega arith
members_few (number n) = omega arith
members_few (string s) = omega arith
members_few (array ds) = omega arith
members_few (object ms) = omega arith

items_few : (e : Data) → sum_items (items_or_none (as_array e)) ≤ data_size e
items_few null = omega arith
items_few (boolean b) = omega arith
items_few (number n) = omega arith
items_few (string s) = omega arith
items_few (array ds) = omega arith
items_few (object ms) = omega arith

members_at_few : (name : List ℕ) (d : Data) → sum_members (members_at name d) ≤ data_size d
members_at_few name d = by (get name d) refl
  where
    by : (o : Option Data) → get name d ≡ o → sum_members (members_or_none (option_and_then as_object o)) ≤ data_size d
    by None is = omega arith
    by (Some e) is = omega (arith, members_few e, get_few name d e is)

items_at_few : (name : List ℕ) (d : Data) → sum_items (items_at name d) ≤ data_size d
items_at_few name d = by (get name d) refl
  where
    by : (o : Option Data) → get name d ≡ o → sum_items (items_or_none (option_and_then as_array o)) ≤ data_size d
    by None is = omega arith
    by (Some e) is = omega (arith, items_few e, get_few name d e is)

entries_few : {A : Type 0} (f : List ℕ → Data → A) (ms : Members) → length (entries f ms) ≤ sum_members ms
entries_few f no_members = omega arith
entries_few f (member k d ms) = omega (arith, entries_few f ms)

-- a service has a member, its key
service_some : (d : Data) → IsService d → 1 ≤ data_size d
service_some null is = absurd (cc (is.key))
service_some (boolean b) is = absurd (cc (is.key))
service_some (number n) is = absurd (cc (is.key))
service_some (string s) is = absurd (cc (is.key))
service_some (array ds) is = absurd (cc (is.key))
service_some (object no_members) is = absurd (cc (is.key))
service_some (object (member k d ms)) is = omega arith

services_listed : (ds : Items) → EachItem IsService ds → length (listed service_of ds) ≤ sum_items ds
services_listed no_items all = omega arith
services_listed (item d ds) all = omega (arith, service_some d all.0, services_listed ds all.1)

-- a document that was read

value_few : (bytes : List ℕ) (d : Data) → value_in bytes ≡ Some d → data_size d ≤ length bytes + 1
value_few bytes d is = elim (cases_Bool (is_utf8 bytes)) [
  | inl good ↦ omega (arith, read_few bytes d (rw good at is))
  | inr bad ↦ (let none : None ≡ Some d = rw bad at is in absurd (cc))
]

-- the tables and the services of parts are few
pub record AreFew (p : PartsRow) (n : ℕ) : Type 0 where
  pub tables : length p.tables ≤ n
  pub services : length p.services ≤ n

document_few : (d : Data) (n : ℕ) → data_size d ≤ n → shape_fault d ≡ None → AreFew (parts_in d) n
document_few d n few shape = record {
  tables = omega (arith, few, entries_few table_of (members_at (codes "tables") d), members_at_few (codes "tables") d);
  services = omega (arith, few, services_listed (items_at (codes "services") d) (shaped d shape).services, items_at_few (codes "services") d);
}

pub parts_few : (bytes : List ℕ) (p : PartsRow) → parts_of bytes ≡ Ok p → AreFew p (length bytes + 1)
parts_few bytes p is = by (value_in bytes) refl is
  where
    same : (x : PartsRow) → (let r : Result PartsRow ReadFault = Ok x in r) ≡ Ok p → x ≡ p
    same x is = cc

    by : (o : Option Data) → value_in bytes ≡ o → value_parts o ≡ Ok p → AreFew p (length bytes + 1)
    by None found is = absurd (cc)
    by (Some d) found is =
        let rest : Result PartsRow ReadFault = unless (option_map syntax_read (first_misread d)) (Ok (parts_in d)) in
        let behind = unless_ok (option_map shape_read (shape_fault d)) rest p is in
        let whole = same (parts_in d) (unless_ok (option_map syntax_read (first_misread d)) (Ok (parts_in d)) p behind) in
        subst (λ (q : PartsRow). AreFew q (length bytes + 1)) whole (document_few d (length bytes + 1) (value_few bytes d found) (shape_none (shape_fault d) rest is))
