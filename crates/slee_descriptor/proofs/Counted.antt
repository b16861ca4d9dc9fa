-- Which numbers are noted for an event: of each block one at most, as a deployment says it.
use Rattle.std.proofs.Common.{◌≡◌, ℕ, ◌+◌, ◌<◌, ◌==◌, ◌&&◌, Bool, true, false, List, [], ◌∷◌, ◌++◌, cond, map, find, bytes_eq, Option, Some, None, is_some, option_map, filter_map, slice_get, refl, sym, ap, ◌∙◌, arith, inl, inr}
use Rattle.std.specs.List.{AllByRecursion, position_from}
use Rattle.std.specs.Option.{option_map_or}
use Rattle.std.proofs.lemmas.Bool.{and_parts, cases_Bool}
use Rattle.std.proofs.lemmas.Bool.Decides.{nat_tests}
use Rattle.std.proofs.lemmas.Slice.Eq.{bytes_eq-Decides}
use Rattle.script_tree.specs.Tree.{Bytes}
use Rattle.deploy_model.proofs.Faultless.{stand_at}
use Rattle.deploy_model.proofs.Noting.{turned}
use Rattle.deploy_model.specs.declared.choice.Variable.{Variable}
use Rattle.deploy_model.specs.declared.parts.Block.{Block}
use Rattle.deploy_model.specs.declared.parts.BlockEvent.{BlockEvent}
use Rattle.deploy_model.specs.Deployed.{Handling, handlers_from}
use Rattle.deploy_model.specs.Resolving.{block_of, handling_of}
use Rattle.deploy_model.specs.Rules.{Numbering, is_number, variable_of}
use Rattle.deploy_model.specs.Tables.{key_number}
use Rattle.slee_descriptor.specs.Counting.{counts, noted, noted_from}
use Rattle.slee_descriptor.specs.declared.by_event.Counted.{Counted}
use Rattle.slee_descriptor.specs.declared.by_event.Counted.TheVariants as counted

nothing_behind : {A : Type 0} (xs : List A) → xs ++ [] ≡ xs
nothing_behind [] = refl
nothing_behind (x ∷ xs) = ap (λ rest. x ∷ rest) (nothing_behind xs)

passed : (i p : ℕ) → p < i → (i == p) ≡ false
passed i p lt = grind (arith, nat_tests, lt)

-- where an event's own place is passed, no number is noted for it
gone : (c : Counted) (n : ℕ) (places : Numbering) (q : Bytes) (p i : ℕ) (events : List BlockEvent) → places q ≡ Some p → p < i → stand_at places i events ≡ true → noted c n events q ≡ []
gone c n places q p i [] at lt stand = refl
gone c n places q p i (h ∷ events) at lt stand =
    let parts = and_parts (is_number i (places h.event)) (stand_at places (i + 1) events) stand in
    elim (cases_Bool (bytes_eq q h.event)) [
      | inl same ↦
          let there : places h.event ≡ Some p = ap places (sym ((bytes_eq-Decides q h.event).0 same)) ∙ at in
          let apart = passed i p lt in
          let wrong : (i == p) ≡ true = rw there at parts.0 in
          cc
      | inr other ↦ rw other (gone c n places q p (i + 1) events at (omega (arith, lt)) parts.1)
    ]

-- the number, where the event's handler counts
abbrev pub noted_once : Counted → ℕ → List BlockEvent → Bytes → List ℕ
noted_once c n events q = cond (option_map_or (counts c) (find (λ h. bytes_eq q h.event) events) false) (n ∷ []) []

once_from : (c : Counted) (n : ℕ) (places : Numbering) (q : Bytes) (i : ℕ) (events : List BlockEvent) → places q ≡ position_from (λ x. bytes_eq q x.event) i events → stand_at places i events ≡ true → noted c n events q ≡ noted_once c n events q
once_from c n places q i [] at stand = refl
once_from c n places q i (h ∷ events) at stand =
    let parts = and_parts (is_number i (places h.event)) (stand_at places (i + 1) events) stand in
    elim (cases_Bool (bytes_eq q h.event)) [
      | inl same ↦ let rest = gone c n places q i (i + 1) events (rw same at at) (omega arith) parts.1 in rw (same, rest) (nothing_behind _)
      | inr other ↦ rw other (once_from c n places q (i + 1) events (rw other at at) parts.1)
    ]

pub once : (c : Counted) (n : ℕ) (q : Bytes) (events : List BlockEvent) → stand_at (key_number (λ h. h.event) events) 0 events ≡ true → noted c n events q ≡ noted_once c n events q
once c n q events stand = once_from c n (key_number (λ h. h.event) events) q 0 events refl stand

-- whether a handling counts, as a deployment says it
abbrev pub counts_so : Counted → Handling → Bool
counts_so counted.Handled h = true
counts_so counted.Initial h = is_some h.initial

mapped_there : (words : Option (List Bytes)) → is_some (option_map (filter_map variable_of) words) ≡ is_some words
mapped_there None = refl
mapped_there (Some words) = refl

counts_same : (c : Counted) (h : BlockEvent) → counts_so c (handling_of h) ≡ counts c h
counts_same counted.Handled h = refl
counts_same counted.Initial h = mapped_there h.initial

pub found_same : (c : Counted) (q : Bytes) (events : List BlockEvent) → option_map_or (counts_so c) (find (λ (h : Handling). bytes_eq h.event q) (map handling_of events)) false ≡ option_map_or (counts c) (find (λ h. bytes_eq q h.event) events) false
found_same c q [] = refl
found_same c q (h ∷ events) = elim (cases_Bool (bytes_eq q h.event)) [
  | inl same ↦ let turn = turned h.event q ∙ same in rw (turn, same) (counts_same c h)
  | inr other ↦ let turn = turned h.event q ∙ other in rw (turn, other) (found_same c q events)
]

there : {A : Type 0} (o : Option A) → is_some o ≡ option_map_or (λ x. true) o false
there None = refl
there (Some x) = refl

one : (n : ℕ) (b : Bool) (rest : List ℕ) → cond b (n ∷ rest) rest ≡ cond b (n ∷ []) [] ++ rest
one n true rest = refl
one n false rest = refl

-- block by block
pub handled : (numbers : Numbering) (q : Bytes) (blocks : List Block) (n : ℕ) → AllByRecursion (λ b. stand_at (key_number (λ h. h.event) b.events) 0 b.events ≡ true) blocks → noted_from n blocks q ≡ handlers_from n (map (block_of numbers) blocks) q
handled numbers q [] n all = refl
handled numbers q (b ∷ blocks) n all =
    let own = once counted.Handled n q b.events all.0 in
    let same = there (find (λ (h : Handling). bytes_eq h.event q) (map handling_of b.events)) ∙ found_same counted.Handled q b.events in
    rw (own, handled numbers q blocks (n + 1) all.1, same) (sym (one n (option_map_or (counts counted.Handled) (find (λ (h : BlockEvent). bytes_eq q h.event) b.events) false) (handlers_from (n + 1) (map (block_of numbers) blocks) q)))
