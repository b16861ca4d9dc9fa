-- What is read from lines: events that are queued, and none from other lines.
use Rattle.router_laws_histories.specs.Words.{IsWord}
use Rattle.std.proofs.Common.{◌≡◌, ℕ, ◌+◌, ◌-◌, ◌*◌, ◌^◌, ◌<◌, ◌≤◌, ◌==◌, ◌/◌, ◌%◌, Bool, true, false, List, [], ◌∷◌, ◌++◌, refl, ◌∙◌, ap, inl, inr, arith, if◌then◌else◌}
use Rattle.std.specs.Prelude.{codes, decimal, drop}
use Rattle.std.specs.Str.{bytes_eq}
use Rattle.std.proofs.lemmas.Bool.{cases_eq, eq-eqb, ne_eqb, false_from_ne_true}
use Rattle.std.proofs.lemmas.Bool.Decides.{nat_tests}
use Rattle.std.proofs.lemmas.Fmt.{decimal_by_steps, decimal_injective}
use Rattle.std.proofs.lemmas.List.Elements.{All-append, All-cons, All-nil}
use Rattle.std.proofs.lemmas.List.Splits.{slice_split_at, slice_split_none}
use Rattle.std.proofs.lemmas.List.Sums.{fold-append}
use Rattle.std.proofs.lemmas.Slice.Eq.{bytes_eq-Decides}
use Rattle.router_laws.proofs.ListRules.{append_joins}
use Rattle.trace_history.specs.Decimals.{decimal_value}
use Rattle.trace_history.specs.Reading.{activity_word, event_word, queued_by, finished_by, reached_by}
use Rattle.trace_history.specs.Words.{words_in}
use Rattle.script_meaning.specs.Running.{word_of}
use Rattle.script_meaning.specs.declared.outcome.Outcome.{Outcome}
use Rattle.script_meaning.specs.declared.outcome.Outcome.TheVariants as outcomes
use Rattle.router_steps.specs.Lines.{queued_line, finish_heading, deliver_heading, outcome_words}

abbrev is_space : ℕ → Bool
is_space b = b == 32

pub decimal_is_word : (n : ℕ) → n < 2 ^ 64 → IsWord (decimal n)
decimal_is_word n fits = decimal_by_steps (λ _ ds. IsWord ds) one more n fits
  where
    digit : (n : ℕ) → n < 10 → ((48 + n) == 32) ≡ false
    digit n small = grind (arith, nat_tests)

    single : (n : ℕ) → n < 10 → IsWord ((48 + n) ∷ [])
    single n small = All-cons (λ b. (b == 32) ≡ false) (48 + n) [] (digit n small) (All-nil (λ b. (b == 32) ≡ false))

    one : (n : ℕ) → n < 10 → IsWord ((48 + n) ∷ [])
    one n small = single n small

    more : (n : ℕ) (ds : List ℕ) → 10 ≤ n → IsWord ds → IsWord (ds ++ (48 + n % 10) ∷ [])
    more n ds large word = All-append (λ b. (b == 32) ≡ false) ds ((48 + n % 10) ∷ []) word (single (n % 10) (omega arith))

pub decimal_is_read : (n : ℕ) → n < 2 ^ 64 → decimal_value (decimal n) ≡ n
decimal_is_read n fits = decimal_by_steps (λ n ds. decimal_value ds ≡ n) one more n fits
  where
    one : (n : ℕ) → n < 10 → decimal_value ((48 + n) ∷ []) ≡ n
    one n small = omega arith

    more : (n : ℕ) (ds : List ℕ) → 10 ≤ n → decimal_value ds ≡ n / 10 → decimal_value (ds ++ (48 + n % 10) ∷ []) ≡ n
    more n ds large is = fold-append (λ m b. 10 * m + (b - 48)) 0 ds ((48 + n % 10) ∷ []) ∙ rw is (last n)
      where
        last : (n : ℕ) → 10 * (n / 10) + (48 + n % 10 - 48) ≡ n
        last n = omega arith

-- a word in front of another, behind some bytes that are no spaces
pub first_word : (word rest : List ℕ) → IsWord word → words_in (word ++ 32 ∷ rest) ≡ word ∷ words_in rest
first_word word rest is = slice_split_at is_space word 32 rest is refl

last_word : (word : List ℕ) → IsWord word → words_in word ≡ word ∷ []
last_word word is = slice_split_none is_space word is

same_texts : (x y : List ℕ) → x ≡ y → bytes_eq x y ≡ true
same_texts x y is = (bytes_eq-Decides x y).1 is

other_texts : (x y : List ℕ) → (x ≡ y → ⊥) → bytes_eq x y ≡ false
other_texts x y isnt = false_from_ne_true (bytes_eq x y) (λ is. isnt ((bytes_eq-Decides x y).0 is))

pub same_words : (a b : ℕ) → a < 2 ^ 64 → b < 2 ^ 64 → bytes_eq (activity_word a) (activity_word b) ≡ (a == b)
same_words a b one two = elim (cases_eq a b) [
  | inl is ↦ rw (same_texts (activity_word a) (activity_word b) (ap activity_word is), eq-eqb a b is) refl
  | inr isnt ↦ rw (other_texts (activity_word a) (activity_word b) (λ same. isnt (decimal_injective a b one two (ap (drop 1) same))), ne_eqb a b isnt) refl
]

-- words of another verb
pub quiet_verb : (a : ℕ) (verb : List ℕ) (words : List (List ℕ)) → bytes_eq verb (codes "queued") ≡ false → queued_by a ([] ∷ [] ∷ verb ∷ words) ≡ []
quiet_verb a verb [] other = refl
quiet_verb a verb (v ∷ []) other = refl
quiet_verb a verb (v ∷ n ∷ []) other = refl
quiet_verb a verb (v ∷ n ∷ b ∷ []) other = rw other refl
quiet_verb a verb (v ∷ n ∷ b ∷ more ∷ words) other = refl

words_of_queued : (v : ℕ) (event : List ℕ) (a : ℕ) → v < 2 ^ 64 → a < 2 ^ 64 → IsWord event
    → words_in (queued_line v event a) ≡ [] ∷ [] ∷ codes "queued" ∷ event_word v ∷ event ∷ activity_word a ∷ []
words_of_queued v event a v_fits a_fits word =
    let number : words_in (event_word v ++ 32 ∷ (event ++ 32 ∷ activity_word a)) ≡ event_word v ∷ words_in (event ++ 32 ∷ activity_word a) =
    first_word (event_word v) (event ++ 32 ∷ activity_word a) (All-cons (λ b. (b == 32) ≡ false) 118 (decimal v) refl (decimal_is_word v v_fits)) in
    let name : words_in (event ++ 32 ∷ activity_word a) ≡ event ∷ words_in (activity_word a) = first_word event (activity_word a) word in
    let last : words_in (activity_word a) ≡ activity_word a ∷ [] = last_word (activity_word a) (All-cons (λ b. (b == 32) ≡ false) 97 (decimal a) refl (decimal_is_word a a_fits)) in
    let behind : words_in (event_word v ++ 32 ∷ (event ++ 32 ∷ activity_word a)) ≡ event_word v ∷ event ∷ activity_word a ∷ [] =
    number ∙ rw (name, last) refl in
    ap (λ words. [] ∷ [] ∷ codes "queued" ∷ words) behind

pub queued_is_read : (v : ℕ) (event : List ℕ) (b a : ℕ) → v < 2 ^ 64 → b < 2 ^ 64 → a < 2 ^ 64 → IsWord event
    → queued_by a (words_in (queued_line v event b)) ≡ (if b == a then v ∷ [] else [])
queued_is_read v event b a v_fits b_fits a_fits word =
    rw (words_of_queued v event b v_fits b_fits word, same_words b a b_fits a_fits, decimal_is_read v v_fits) refl

-- the words of a line with a verb, an event and an activity, and what stands behind them

pub words_of_two : (v a : ℕ) (rest : List ℕ) → v < 2 ^ 64 → a < 2 ^ 64 → words_in (event_word v ++ 32 ∷ (activity_word a ++ 32 ∷ rest)) ≡ event_word v ∷ activity_word a ∷ words_in rest
words_of_two v a rest v_fits a_fits =
    let first : words_in (event_word v ++ 32 ∷ (activity_word a ++ 32 ∷ rest)) ≡ event_word v ∷ words_in (activity_word a ++ 32 ∷ rest) =
    first_word (event_word v) (activity_word a ++ 32 ∷ rest) (All-cons (λ b. (b == 32) ≡ false) 118 (decimal v) refl (decimal_is_word v v_fits)) in
    let second : words_in (activity_word a ++ 32 ∷ rest) ≡ activity_word a ∷ words_in rest =
    first_word (activity_word a) rest (All-cons (λ b. (b == 32) ≡ false) 97 (decimal a) refl (decimal_is_word a a_fits)) in
    first ∙ rw second refl

pub words_of_last_two : (v a : ℕ) → v < 2 ^ 64 → a < 2 ^ 64 → words_in (event_word v ++ 32 ∷ activity_word a) ≡ event_word v ∷ activity_word a ∷ []
words_of_last_two v a v_fits a_fits =
    let first : words_in (event_word v ++ 32 ∷ activity_word a) ≡ event_word v ∷ words_in (activity_word a) =
    first_word (event_word v) (activity_word a) (All-cons (λ b. (b == 32) ≡ false) 118 (decimal v) refl (decimal_is_word v v_fits)) in
    let second : words_in (activity_word a) ≡ activity_word a ∷ [] =
    last_word (activity_word a) (All-cons (λ b. (b == 32) ≡ false) 97 (decimal a) refl (decimal_is_word a a_fits)) in
    first ∙ rw second refl

-- headings of finishes

pub words_of_finish : (a v : ℕ) → a < 2 ^ 64 → v < 2 ^ 64 → words_in (finish_heading a v) ≡ codes "finish" ∷ activity_word a ∷ event_word v ∷ []
words_of_finish a v a_fits v_fits =
    let first : words_in (activity_word a ++ 32 ∷ event_word v) ≡ activity_word a ∷ words_in (event_word v) =
    first_word (activity_word a) (event_word v) (All-cons (λ b. (b == 32) ≡ false) 97 (decimal a) refl (decimal_is_word a a_fits)) in
    let last : words_in (event_word v) ≡ event_word v ∷ [] = last_word (event_word v) (All-cons (λ b. (b == 32) ≡ false) 118 (decimal v) refl (decimal_is_word v v_fits)) in
    ap (λ words. codes "finish" ∷ words) (first ∙ rw last refl)

pub finish_is_read : (b v a : ℕ) → b < 2 ^ 64 → v < 2 ^ 64 → a < 2 ^ 64 → finished_by a (words_in (finish_heading b v)) ≡ (if b == a then v ∷ [] else [])
finish_is_read b v a b_fits v_fits a_fits = rw (words_of_finish b v b_fits v_fits, same_words b a b_fits a_fits, decimal_is_read v v_fits) refl

-- headings of other verbs
pub other_finish : (a : ℕ) (verb : List ℕ) (words : List (List ℕ)) → bytes_eq verb (codes "finish") ≡ false → finished_by a (verb ∷ words) ≡ []
other_finish a verb [] other = refl
other_finish a verb (x ∷ []) other = refl
other_finish a verb (x ∷ y ∷ []) other = rw other refl
other_finish a verb (x ∷ y ∷ z ∷ words) other = refl

-- headings of deliveries

words_of_deliver : (a v e : ℕ) (outcome : Outcome) → a < 2 ^ 64 → v < 2 ^ 64 → e < 2 ^ 64
    → words_in (deliver_heading a v e outcome) ≡ codes "deliver" ∷ activity_word a ∷ event_word v ∷ (codes "e" ++ decimal e) ∷ words_in (outcome_words outcome)
words_of_deliver a v e outcome a_fits v_fits e_fits =
    let entity = codes "e" ++ decimal e in
    let first : words_in (activity_word a ++ 32 ∷ (event_word v ++ 32 ∷ (entity ++ 32 ∷ outcome_words outcome))) ≡ activity_word a ∷ words_in (event_word v ++ 32 ∷ (entity ++ 32 ∷ outcome_words outcome)) =
    first_word (activity_word a) _ (All-cons (λ b. (b == 32) ≡ false) 97 (decimal a) refl (decimal_is_word a a_fits)) in
    let second : words_in (event_word v ++ 32 ∷ (entity ++ 32 ∷ outcome_words outcome)) ≡ event_word v ∷ words_in (entity ++ 32 ∷ outcome_words outcome) =
    first_word (event_word v) _ (All-cons (λ b. (b == 32) ≡ false) 118 (decimal v) refl (decimal_is_word v v_fits)) in
    let third : words_in (entity ++ 32 ∷ outcome_words outcome) ≡ entity ∷ words_in (outcome_words outcome) =
    first_word entity (outcome_words outcome) (All-cons (λ b. (b == 32) ≡ false) 101 (decimal e) refl (decimal_is_word e e_fits)) in
    let joined : words_in ((activity_word a ++ 32 ∷ event_word v) ++ 32 ∷ (entity ++ 32 ∷ outcome_words outcome)) ≡ words_in (activity_word a ++ 32 ∷ (event_word v ++ 32 ∷ (entity ++ 32 ∷ outcome_words outcome))) =
    ap words_in (append_joins (activity_word a) (32 ∷ event_word v) (32 ∷ (entity ++ 32 ∷ outcome_words outcome))) in
    ap (λ words. codes "deliver" ∷ words) (joined ∙ first ∙ rw (second, third) refl)

same_events : (a b : ℕ) → a < 2 ^ 64 → b < 2 ^ 64 → bytes_eq (event_word a) (event_word b) ≡ (a == b)
same_events a b one two = elim (cases_eq a b) [
  | inl is ↦ rw (same_texts (event_word a) (event_word b) (ap event_word is), eq-eqb a b is) refl
  | inr isnt ↦ rw (other_texts (event_word a) (event_word b) (λ same. isnt (decimal_injective a b one two (ap (drop 1) same))), ne_eqb a b isnt) refl
]

some_word : (outcome : Outcome) → (word : List ℕ) × (words : List (List ℕ)) × (words_in (outcome_words outcome) ≡ word ∷ words)
some_word outcomes.Fine = (codes "fine", [], refl)
some_word outcomes.Asked = (codes "asked", [], refl)
some_word (outcomes.Broken kind) = (codes "failed", words_in (word_of kind), refl)

pub deliver_is_read : (a w e v : ℕ) (outcome : Outcome) → a < 2 ^ 64 → w < 2 ^ 64 → e < 2 ^ 64 → v < 2 ^ 64
    → reached_by v (words_in (deliver_heading a w e outcome)) ≡ (if w == v then e ∷ [] else [])
deliver_is_read a w e v outcome a_fits w_fits e_fits v_fits =
    let some = some_word outcome in
    rw (words_of_deliver a w e outcome a_fits w_fits e_fits, some.2, same_events w v w_fits v_fits, decimal_is_read e e_fits) refl

pub other_reach : (v : ℕ) (verb : List ℕ) (words : List (List ℕ)) → bytes_eq verb (codes "deliver") ≡ false → reached_by v (verb ∷ words) ≡ []
other_reach v verb [] other = refl
other_reach v verb (x ∷ []) other = refl
other_reach v verb (x ∷ y ∷ []) other = refl
other_reach v verb (x ∷ y ∷ z ∷ []) other = refl
other_reach v verb (x ∷ y ∷ z ∷ u ∷ words) other = rw other refl
