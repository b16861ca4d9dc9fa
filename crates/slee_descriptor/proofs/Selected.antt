-- The services that an event may begin, as a deployment says it, and the order in which they are put.
use Rattle.std.proofs.Common.{◌≡◌, ℕ, zero, suc, ◌+◌, ◌<◌, ◌&&◌, ◌||◌, not, Bool, true, false, List, [], ◌∷◌, ◌++◌, cond, map, filter, find, reverse, bytes_eq, Option, Some, None, is_some, option_and_then, option_map, slice_get, nat_lt, refl, subst, sym, ap, ◌∙◌, arith, inl, inr}
use Rattle.std.specs.Prelude.{int_lt}
use Rattle.std.specs.Cmp.{IsStrictWeakOrder}
use Rattle.std.specs.List.{AllByRecursion}
use Rattle.std.specs.List.Sorted.{ties}
use Rattle.std.specs.Option.{option_map_or}
use Rattle.std.proofs.lemmas.Bool.{cases_Bool}
use Rattle.std.proofs.lemmas.Bool.Decides.{nat_tests}
use Rattle.std.proofs.lemmas.Int.{ints}
use Rattle.std.proofs.lemmas.Option.{slice_get-map}
use Rattle.script_tree.specs.Tree.{Bytes}
use Rattle.deploy_model.proofs.Faultless.{stand_at}
use Rattle.deploy_model.specs.declared.parts.Block.{Block}
use Rattle.deploy_model.specs.Deployed.{Deployed, DeployedBlock, DeployedService, Handling, is_initial}
use Rattle.deploy_model.specs.Resolving.{block_of, handling_of}
use Rattle.deploy_model.specs.Rules.{Numbering}
use Rattle.deploy_model.specs.Selecting.{Numbered, numbered}
use Rattle.deploy_model.specs.Tables.{key_number}
use Rattle.slee_descriptor.specs.Counting.{begun_by, events_of, noted}
use Rattle.slee_descriptor.specs.Ranks.{rank_before, rank_of}
use Rattle.slee_descriptor.specs.declared.by_event.Counted.TheVariants as counted
use Rattle.slee_descriptor.specs.declared.selection.Rank.{Rank}
use Rattle.slee_descriptor.proofs.Counted.{counts_so, found_same, noted_once, once}

pub ranks : IsStrictWeakOrder rank_before
ranks = record {
  one_way = λ x y before. grind (arith, ints, nat_tests);
  chain = λ x y z one two. grind (arith, ints, nat_tests);
}

-- of two numbers the lower one's service doesn't tie with the other's
lower_apart : (p q b : Bool) → (not (q || (not p && true)) && not (p || (not q && b))) ≡ false
lower_apart true true b = refl
lower_apart true false b = refl
lower_apart false true b = refl
lower_apart false false b = refl

higher_apart : (p q a : Bool) → (not (q || (not p && a)) && not (p || (not q && true))) ≡ false
higher_apart true true a = refl
higher_apart true false true = refl
higher_apart true false false = refl
higher_apart false true a = refl
higher_apart false false true = refl
higher_apart false false false = refl

apart_below : (k x : Rank) → nat_lt k.number x.number ≡ true → ties rank_before k x ≡ false
apart_below k x low = rw low (lower_apart (int_lt k.priority x.priority) (int_lt x.priority k.priority) (nat_lt x.number k.number))

apart_above : (k x : Rank) → nat_lt x.number k.number ≡ true → ties rank_before k x ≡ false
apart_above k x high = rw high (higher_apart (int_lt k.priority x.priority) (int_lt x.priority k.priority) (nat_lt k.number x.number))

none_tie : (k : Rank) (n : ℕ) (services : List DeployedService) → nat_lt k.number n ≡ true → filter (ties rank_before k) (map rank_of (numbered n services)) ≡ []
none_tie k n [] low = refl
none_tie k n (s ∷ services) low =
    let next : nat_lt k.number (n + 1) ≡ true = grind (arith, nat_tests, low) in
    rw (apart_below k (rank_of (n, s)) low) (none_tie k (n + 1) services next)

-- one service at most ties with any
pub at_most_one : (k : Rank) (n : ℕ) (services : List DeployedService) → reverse (filter (ties rank_before k) (map rank_of (numbered n services))) ≡ filter (ties rank_before k) (map rank_of (numbered n services))
at_most_one k n [] = refl
at_most_one k n (s ∷ services) = elim (cases_Bool (nat_lt k.number (n + 1))) [
  | inl low ↦
      let rest = none_tie k (n + 1) services low in
      elim (cases_Bool (ties rank_before k (rank_of (n, s)))) [
        | inl is ↦ rw (is, rest) refl
        | inr isnt ↦ rw (isnt, rest) refl
      ]
  | inr high ↦
      let above : nat_lt n k.number ≡ true = grind (arith, nat_tests, high) in
      rw (apart_above k (rank_of (n, s)) above) (at_most_one k (n + 1) services)
]

-- what holds of each holds of the one at a place
all_at : {A : Type 0} (P : A → Type 0) (xs : List A) (i : ℕ) (x : A) → AllByRecursion P xs → slice_get xs i ≡ Some x → P x
all_at P [] i x all at = cc
all_at P (y ∷ ys) zero x all at = let same : y ≡ x = cc in subst P same all.0
all_at P (y ∷ ys) (suc i) x all at = all_at P ys i x all.1 at

abbrev StandsApart : Block → Type 0
StandsApart b = stand_at (key_number (λ h. h.event) b.events) 0 b.events ≡ true

-- of one service
begins : (numbers : Numbering) (n : ℕ) (q : Bytes) (o : Option Block) → ((b : Block) → o ≡ Some b → StandsApart b)
    → noted counted.Initial n (option_map_or (λ b. b.events) o []) q ≡ cond (option_map_or (λ h. is_some h.initial) (option_and_then (λ (b : DeployedBlock). find (λ h. bytes_eq h.event q) b.events) (option_map (block_of numbers) o)) false) (n ∷ []) []
begins numbers n q None apart = refl
begins numbers n q (Some b) apart =
    once counted.Initial n q b.events (apart b refl) ∙ ap (λ (t : Bool). cond t (n ∷ []) []) (sym (found_same counted.Initial q b.events))

begins_at : (numbers : Numbering) (n : ℕ) (q : Bytes) (blocks : List Block) (root : ℕ) → AllByRecursion StandsApart blocks
    → noted counted.Initial n (events_of blocks root) q ≡ cond (option_map_or (λ h. is_some h.initial) (option_and_then (λ (b : DeployedBlock). find (λ h. bytes_eq h.event q) b.events) (slice_get (map (block_of numbers) blocks) root)) false) (n ∷ []) []
begins_at numbers n q blocks root all =
    rw (slice_get-map (block_of numbers) blocks root) (begins numbers n q (slice_get blocks root) (λ b at. all_at StandsApart blocks root b all at))

one : (b : Bool) (x : Numbered) (xs : List Numbered) → cond b (x.0 ∷ []) [] ++ map (λ y. y.0) xs ≡ map (λ y. y.0) (cond b (x ∷ xs) xs)
one true x xs = refl
one false x xs = refl

-- service by service
pub begun : (d : Deployed) (numbers : Numbering) (blocks : List Block) (q : Bytes) → d.blocks ≡ map (block_of numbers) blocks → AllByRecursion StandsApart blocks → (xs : List Numbered)
    → begun_by blocks (map rank_of xs) q ≡ map (λ x. x.0) (filter (λ x. is_initial d x.1.root q) xs)
begun d numbers blocks q same all [] = refl
begun d numbers blocks q same all (x ∷ xs) =
    let first = begins_at numbers x.0 q blocks x.1.root all in
    let own : noted counted.Initial x.0 (events_of blocks x.1.root) q ≡ cond (is_initial d x.1.root q) (x.0 ∷ []) [] = rw same first in
    rw (own, begun d numbers blocks q same all xs) (one (is_initial d x.1.root q) x (filter (λ y. is_initial d y.1.root q) xs))
