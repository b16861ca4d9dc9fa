-- What names of methods and keys of services stand for.
use Rattle.std.proofs.Common.{◌≡◌, ℕ, ◌+◌, Bool, true, false, cond, ◌||◌, List, [], ◌∷◌, Option, Some, None, Bor, refl, true≢false, bytes_eq, position, find, map}
use Rattle.std.specs.Prelude.{is_some, option_copied, option_map, option_and_then}
use Rattle.std.specs.List.{list_any, position_from}
use Rattle.std.specs.Cmp.Lexicographic.{nat_list_eq_equiv}
use Rattle.std.proofs.lemmas.Iterator.Adapters.{position_from-zero}
use Rattle.script_types.specs.declared.codes.MethodCode.{MethodCode}
use Rattle.script_types.specs.CodesOf.{method_of_code}
use Rattle.script_types.specs.ElaborationOfStatements.{MethodAt, method_from}
use Rattle.script_tree.specs.Tree.{Bytes}

-- a method, with the number that it has
abbrev method_at : Option MethodCode → Option ℕ → Option MethodAt
method_at found number = option_and_then (λ m. option_map (λ n. record { number = n; method = method_of_code m }) number) found

method_or_later : (n : ℕ) (name : Bytes) (method : MethodCode) (methods : List MethodCode) (b : Bool)
    → method_from (n + 1) name (map method_of_code methods) ≡ method_at (find (λ x. bytes_eq x.name name) methods) (position_from (λ x. bytes_eq x.name name) (n + 1) methods)
    → cond b (Some (record { number = n; method = method_of_code method })) (method_from (n + 1) name (map method_of_code methods))
    ≡ method_at (cond b (Some method) (find (λ x. bytes_eq x.name name) methods)) (cond b (Some n) (position_from (λ x. bytes_eq x.name name) (n + 1) methods))
method_or_later n name method methods true h = refl
method_or_later n name method methods false h = h

method_from_place : (n : ℕ) (name : Bytes) (methods : List MethodCode) → method_from n name (map method_of_code methods) ≡ method_at (find (λ x. bytes_eq x.name name) methods) (position_from (λ x. bytes_eq x.name name) n methods)
method_from_place n name [] = refl
method_from_place n name (method ∷ methods) = method_or_later n name method methods (bytes_eq method.name name) (method_from_place (n + 1) name methods)

pub method_is : (name : Bytes) (methods : List MethodCode) → method_from 0 name (map method_of_code methods) ≡ method_at (find (λ x. bytes_eq x.name name) methods) (position (λ x. bytes_eq x.name name) methods)
method_is name methods = rw (position_from-zero (λ x. bytes_eq x.name name) methods) (method_from_place 0 name methods)

service_or_later : (key name : Bytes) (names : List Bytes) (b c : Bool) → b ≡ c → is_some (find (λ x. bytes_eq x key) names) ≡ list_any (bytes_eq key) names
    → is_some (cond b (Some name) (find (λ x. bytes_eq x key) names)) ≡ (c || list_any (bytes_eq key) names)
service_or_later key name names true true e h = refl
service_or_later key name names false false e h = h
service_or_later key name names true false e h = absurd (true≢false e)
service_or_later key name names false true e h = absurd cc

pub service_is : (key : Bytes) (names : List Bytes) → is_some (find (λ x. bytes_eq x key) names) ≡ list_any (bytes_eq key) names
service_is key [] = refl
service_is key (name ∷ names) = service_or_later key name names (bytes_eq name key) (bytes_eq key name) (nat_list_eq_equiv.symm name key) (service_is key names)

-- what is lent is there exactly where its copy is
pub some_copied : {A : Type 0} → (o : Option (Bor A)) → is_some o ≡ is_some (option_copied o)
some_copied None = refl
some_copied (Some x) = refl
