-- The keys that a delivery reads over answers to all keys: at most 64 before its rolled-back callback and 64 in it. What it lacks over fewer answers is one of them.
use Rattle.std.proofs.Common.{◌≡◌, ◌+◌, ◌*◌, ◌≤◌, true, false, Bool, ℕ, List, [], ◌∷◌, ◌++◌, length, Option, Some, None, refl, sym, ap, ◌∙◌, subst, ◌⊎◌, inl, inr, length-append}
use Rattle.std.specs.Prelude.{◌||◌}
use Rattle.std.specs.List.{list_any}
use native.Mathlib.Omega.{arith}
use Rattle.std.proofs.lemmas.List.Folds.{list_any-append}
use Rattle.slee_value.specs.declared.ids.EntityId.{EntityId}
use Rattle.slee_value.specs.declared.ids.ActivityId.{ActivityId}
use Rattle.slee_value.specs.declared.value.Value.{Value}
use Rattle.script_types.specs.Program.{Steps, BlockProgram, Program}
use Rattle.script_meaning.specs.declared.key.Key.{Key}
use Rattle.script_meaning.specs.declared.outcome.Args.{Args}
use Rattle.script_meaning.specs.declared.outcome.Outcome.{Outcome}
use Rattle.script_meaning.specs.declared.outcome.Outcome.TheVariants as o
use Rattle.script_meaning.specs.Seeing.{same_key}
use Rattle.script_meaning.specs.Answers.{Answers}
use Rattle.script_meaning.specs.Running.{key_limit}
use Rattle.script_meaning.specs.Meaning.{Before, nothing_before, Report, Meaning, Done, Need, Unchecked, meaning_in}
use Rattle.script_meaning.specs.Delivery.{Delivered, Delivery, Complete, Wants, NotChecked, reported, run_callback, on_failure, outcome_of, standing, called_back, behind, callback_args, delivered_by}
use Rattle.script_laws.specs.Dependence.{Extends}
use Rattle.script_laws.specs.Fitting.{IsSound}
use Rattle.script_laws.proofs.LikeMeaning.{meaning_stays, meaning_reads}

-- each key has an answer
abbrev pub IsTotal : Answers → Type 0
IsTotal answers = (key : Key) → answers key ≡ None → ⊥

-- a script of a checked block over such answers comes to its end
pub comes_to_end : (answers : Answers) (before : Before) (m : Meaning) → IsTotal answers → IsSound answers before m → (q : Report) × (m ≡ Done q)
comes_to_end answers before (Done q) total h = (q, refl)
comes_to_end answers before (Need key) total h = absurd (total key h)
comes_to_end answers before Unchecked total h = absurd h

-- the keys of a run
abbrev pub keys_of : Meaning → List Key
keys_of (Done q) = q.keys
keys_of (Need key) = []
keys_of Unchecked = []

abbrev pub callback_keys : (Steps → Before → Meaning) → Option Steps → Before → List Key
callback_keys run None before = []
callback_keys run (Some steps) before = keys_of (run steps before)

-- those of a handler with its callbacks
abbrev pub delivery_keys : (List ℕ → Steps → Before → Meaning) → BlockProgram → Meaning → List Key
delivery_keys run block (Done q) =
    (q.keys ++ callback_keys (run q.failure) (on_failure q.outcome block.exception) (record { effects = q.effects; keys = q.keys }))
    ++ callback_keys (run q.failure) block.rolled_back nothing_before
delivery_keys run block (Need key) = []
delivery_keys run block Unchecked = []

-- the scripts of a block, if there, mean what a checked script may
abbrev pub AreSound : Answers → (Steps → Before → Meaning) → Option Steps → Type 0
AreSound answers run None = Unit {0}
AreSound answers run (Some steps) = (before : Before) → length before.keys ≤ key_limit → IsSound answers before (run steps before)

few_of : (answers : Answers) (before : Before) (m : Meaning) → length before.keys ≤ key_limit → IsSound answers before m → length before.keys + length (keys_of m) ≤ key_limit
few_of answers before (Done q) few h = h.2
few_of answers before (Need key) few h = omega arith
few_of answers before Unchecked few h = absurd h

few_in_callback : (answers : Answers) (run : Steps → Before → Meaning) (steps : Option Steps) (before : Before) → AreSound answers run steps → length before.keys ≤ key_limit → length before.keys + length (callback_keys run steps before) ≤ key_limit
few_in_callback answers run None before sound few = omega arith
few_in_callback answers run (Some steps) before sound few = few_of answers before (run steps before) few (sound before few)

on_failure_sound : (answers : Answers) (run : Steps → Before → Meaning) (outcome : Outcome) (steps : Option Steps) → AreSound answers run steps → AreSound answers run (on_failure outcome steps)
on_failure_sound answers run (o.Broken kind) steps h = h
on_failure_sound answers run o.Asked steps h = tt
on_failure_sound answers run o.Fine steps h = tt

-- a delivery reads few keys
pub few_in_delivery : (answers : Answers) (run : List ℕ → Steps → Before → Meaning) (block : BlockProgram) (m : Meaning) → IsSound answers nothing_before m → ((failure : List ℕ) → AreSound answers (run failure) block.exception × AreSound answers (run failure) block.rolled_back) → length (delivery_keys run block m) ≤ 2 * key_limit
few_in_delivery answers run block (Done q) h sound =
    let before : Before = record { effects = q.effects; keys = q.keys } in
    let first : List Key = callback_keys (run q.failure) (on_failure q.outcome block.exception) before in
    let second : List Key = callback_keys (run q.failure) block.rolled_back nothing_before in
    let own : length q.keys ≤ key_limit = omega (arith, h.2) in
    let one = few_in_callback answers (run q.failure) (on_failure q.outcome block.exception) before (on_failure_sound answers (run q.failure) q.outcome block.exception (sound q.failure).0) own in
    let other = few_in_callback answers (run q.failure) block.rolled_back nothing_before (sound q.failure).1 (omega arith) in
    omega (arith, one, other, length-append (q.keys ++ first) second, length-append q.keys first)
few_in_delivery answers run block (Need key) h sound = omega arith
few_in_delivery answers run block Unchecked h sound = absurd h

-- the same for scripts over fewer answers: what ends there ends alike, and what is lacked there is read
abbrev Fewer : (Steps → Before → Meaning) → (Steps → Before → Meaning) → Type 0
Fewer run all = ((s : Steps) (b : Before) (q : Report) → run s b ≡ Done q → all s b ≡ Done q)
    × ((s : Steps) (b : Before) (key : Key) (q : Report) → run s b ≡ Need key → all s b ≡ Done q → (list_any (same_key key) b.keys || list_any (same_key key) q.keys) ≡ true)

wants_same : (k key : Key) → Wants k ≡ Wants key → k ≡ key
wants_same k key e = cc

-- a callback, or what comes behind it, lacks the key
abbrev Lacks : (Steps → Before → Meaning) → Option Steps → Before → (Option Report → Delivery) → Key → Type 0
Lacks all steps before g key = ((list_any (same_key key) before.keys || list_any (same_key key) (callback_keys all steps before)) ≡ true) ⊎ ((report : Option Report) × (g report ≡ Wants key))

or_true : (b : Bool) → (b || true) ≡ true
or_true true = refl
or_true false = refl

module _ (answers : Answers) (total : IsTotal answers) where
  script_lacks : (run all : Steps → Before → Meaning) (steps : Steps) (before : Before) (g : Option Report → Delivery) (key : Key) (m : Meaning) → Fewer run all → IsSound answers before (all steps before) → run steps before ≡ m → reported m (λ q. g (Some q)) ≡ Wants key → Lacks all (Some steps) before g key
  script_lacks run all steps before g key (Done q) fewer sound is h = inr (Some q, h)
  script_lacks run all steps before g key (Need k) fewer sound is h =
      let end = comes_to_end answers before (all steps before) total sound in
      let read = fewer.1 steps before k end.0 is end.1 in
      inl (subst (λ x. (list_any (same_key x) before.keys || list_any (same_key x) (keys_of (all steps before))) ≡ true) (wants_same k key h) (ap (λ m. list_any (same_key k) before.keys || list_any (same_key k) (keys_of m)) end.1 ∙ read))
  script_lacks run all steps before g key Unchecked fewer sound is h = cc

  callback_lacks : (run all : Steps → Before → Meaning) (steps : Option Steps) (before : Before) (g : Option Report → Delivery) (key : Key) → Fewer run all → AreSound answers all steps → length before.keys ≤ key_limit → run_callback run steps before g ≡ Wants key → Lacks all steps before g key
  callback_lacks run all None before g key fewer sound few h = inr (None, h)
  callback_lacks run all (Some steps) before g key fewer sound few h = script_lacks run all steps before g key (run steps before) fewer (sound before few) refl h

  in_first : (key : Key) (xs ys zs : List Key) → (list_any (same_key key) xs || list_any (same_key key) ys) ≡ true → list_any (same_key key) ((xs ++ ys) ++ zs) ≡ true
  in_first key xs ys zs h = list_any-append (same_key key) (xs ++ ys) zs ∙ ap (λ b. b || list_any (same_key key) zs) (list_any-append (same_key key) xs ys ∙ h)

  in_second : (key : Key) (xs zs : List Key) → list_any (same_key key) zs ≡ true → list_any (same_key key) (xs ++ zs) ≡ true
  in_second key xs zs h = list_any-append (same_key key) xs zs ∙ ap (λ b. list_any (same_key key) xs || b) h ∙ or_true (list_any (same_key key) xs)

  called_back_lacks : (run all : Steps → Before → Meaning) (block : BlockProgram) (q : Report) (key : Key) → Fewer run all → AreSound answers all block.exception → AreSound answers all block.rolled_back → length q.keys ≤ key_limit → called_back run block q ≡ Wants key →
      list_any (same_key key) ((q.keys ++ callback_keys all (on_failure q.outcome block.exception) (record { effects = q.effects; keys = q.keys })) ++ callback_keys all block.rolled_back nothing_before) ≡ true
  called_back_lacks run all block q key fewer exception rolled_back few h =
      let before : Before = record { effects = q.effects; keys = q.keys } in
      let first : List Key = callback_keys all (on_failure q.outcome block.exception) before in
      let second : List Key = callback_keys all block.rolled_back nothing_before in
      let last : Option Report → Option Report → Delivery = λ one other. Complete (record { outcome = q.outcome; exception = outcome_of one; rolled_back = outcome_of other; effects = standing other }) in
      let found = callback_lacks run all (on_failure q.outcome block.exception) before (λ one. run_callback run block.rolled_back nothing_before (last one)) key fewer (on_failure_sound answers all q.outcome block.exception exception) few h in
      elim found [
        | inl here ↦ in_first key q.keys first second here
        | inr later ↦ elim (callback_lacks run all block.rolled_back nothing_before (last later.0) key fewer rolled_back (omega arith) later.1) [
          | inl there ↦ in_second key (q.keys ++ first) second there
          | inr never ↦ cc never.1
        ]
      ]

  behind_lacks : (run all : List ℕ → Steps → Before → Meaning) (block : BlockProgram) (q : Report) (outcome : Outcome) (key : Key) → ((t : List ℕ) → Fewer (run t) (all t)) → ((t : List ℕ) → AreSound answers (all t) block.exception × AreSound answers (all t) block.rolled_back) → length q.keys ≤ key_limit → behind run block q outcome ≡ Wants key → list_any (same_key key) (delivery_keys all block (Done q)) ≡ true
  behind_lacks run all block q o.Fine key fewer sound few h = cc
  behind_lacks run all block q o.Asked key fewer sound few h = called_back_lacks (run q.failure) (all q.failure) block q key (fewer q.failure) (sound q.failure).0 (sound q.failure).1 few h
  behind_lacks run all block q (o.Broken kind) key fewer sound few h = called_back_lacks (run q.failure) (all q.failure) block q key (fewer q.failure) (sound q.failure).0 (sound q.failure).1 few h

  handler_lacks : (run all : List ℕ → Steps → Before → Meaning) (block : BlockProgram) (m n : Meaning) (key : Key) → ((t : List ℕ) → Fewer (run t) (all t)) → ((t : List ℕ) → AreSound answers (all t) block.exception × AreSound answers (all t) block.rolled_back) → IsSound answers nothing_before n → ((q : Report) → m ≡ Done q → n ≡ Done q) → ((k : Key) (q : Report) → m ≡ Need k → n ≡ Done q → list_any (same_key k) q.keys ≡ true) → reported m (λ q. behind run block q q.outcome) ≡ Wants key → list_any (same_key key) (delivery_keys all block n) ≡ true
  handler_lacks run all block (Done q) n key fewer sound own stays reads h =
      let same : n ≡ Done q = stays q refl in
      let few : length q.keys ≤ key_limit = omega (arith, (subst (IsSound answers nothing_before) same own).2) in
      ap (λ x. list_any (same_key key) (delivery_keys all block x)) same ∙ behind_lacks run all block q q.outcome key fewer sound few h
  handler_lacks run all block (Need k) n key fewer sound own stays reads h =
      let end = comes_to_end answers nothing_before n total own in
      let q : Report = end.0 in
      let first : List Key = callback_keys (all q.failure) (on_failure q.outcome block.exception) (record { effects = q.effects; keys = q.keys }) in
      let second : List Key = callback_keys (all q.failure) block.rolled_back nothing_before in
      let read : list_any (same_key key) q.keys ≡ true = subst (λ x. list_any (same_key x) q.keys ≡ true) (wants_same k key h) (reads k q refl end.1) in
      ap (λ x. list_any (same_key key) (delivery_keys all block x)) end.1 ∙ in_first key q.keys first second (ap (λ b. b || list_any (same_key key) first) read)
  handler_lacks run all block Unchecked n key fewer sound own stays reads h = cc

-- how the callbacks of a delivery run
abbrev pub callbacks_over : Answers → Program → BlockProgram → EntityId → ActivityId → List ℕ → Steps → Before → Meaning
callbacks_over answers program block e a failure callback before = meaning_in answers program block callback e (callback_args a failure) before

abbrev pub handler_over : Answers → Program → BlockProgram → Steps → EntityId → ActivityId → List (List ℕ × Value) → Meaning
handler_over answers program block steps e a fields = meaning_in answers program block steps e (record { activity = a; fields = fields; failure = [] }) nothing_before

-- what a delivery lacks over fewer answers it reads over all
pub delivery_lacks : (answers all : Answers) (program : Program) (block : BlockProgram) (steps : Steps) (e : EntityId) (a : ActivityId) (fields : List (List ℕ × Value)) (key : Key) → IsTotal all → Extends answers all → IsSound all nothing_before (handler_over all program block steps e a fields) → ((t : List ℕ) → AreSound all (callbacks_over all program block e a t) block.exception × AreSound all (callbacks_over all program block e a t) block.rolled_back) →
    delivered_by answers program block steps e a fields ≡ Wants key → list_any (same_key key) (delivery_keys (callbacks_over all program block e a) block (handler_over all program block steps e a fields)) ≡ true
unfolding delivered_by
delivery_lacks answers all program block steps e a fields key total more own sound h =
    handler_lacks all total (callbacks_over answers program block e a) (callbacks_over all program block e a) block (handler_over answers program block steps e a fields) (handler_over all program block steps e a fields) key
    (λ t. ((λ s b q done. meaning_stays answers all program block s e (callback_args a t) b q more done), (λ s b k q lacks done. meaning_reads answers all program block s e (callback_args a t) b k q more lacks done)))
    sound own
    (λ q done. meaning_stays answers all program block steps e (record { activity = a; fields = fields; failure = [] }) nothing_before q more done)
    (λ k q lacks done. meaning_reads answers all program block steps e (record { activity = a; fields = fields; failure = [] }) nothing_before k q more lacks done) h
