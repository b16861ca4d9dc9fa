-- The words of a line, and a word's parts.
use Rattle.std.proofs.Common.{◌≡◌, ℕ, ◌<◌, suc, Bool, true, false, not, ◌==◌, if◌then◌else◌, List, [], ◌∷◌, ◌++◌, length, length-append, get_or, refl, ◌∙◌, ap, arith, Option, Some, None, MatchOption}
use Rattle.std.proofs.Common.{Bor, eq-eqb, ne_eqb}
use Rattle.std.proofs.lemmas.Bool.{and_parts, and_from, not-true, not_from_false}
use Rattle.std.proofs.lemmas.Str.Pattern.{IsSplitOnceResult, split_parts}
use Rattle.std.specs.List.{onto_first, list_all}
use Rattle.signal_script.specs.Lines.{words_of, cut_at}

-- no byte of a text is this one
abbrev pub lacks : ℕ → List ℕ → Bool
lacks c bs = list_all (λ b. not (b == c)) bs

pub lacks_from : (c : ℕ) (bs : List ℕ) → ((i : ℕ) → i < length bs → get_or bs i 0 ≡ c → ⊥) → lacks c bs ≡ true
lacks_from c [] none = refl
lacks_from c (b ∷ bs) none =
    and_from (not (b == c)) (lacks c bs) (not_from_false (b == c) (ne_eqb b c (none 0 (omega arith)))) (lacks_from c bs (λ i lt. none (suc i) (omega arith)))

-- a text without a space is one word
pub words_alone : (bs : List ℕ) → lacks 32 bs ≡ true → words_of bs ≡ bs ∷ []
words_alone [] none = refl
words_alone (b ∷ bs) none =
    let parts = and_parts (not (b == 32)) (lacks 32 bs) none in
    rw (not-true (b == 32) parts.0) (ap (onto_first b) (words_alone bs parts.1))

-- a word, and what stands behind the space after it
pub words_before : (bs ds : List ℕ) → lacks 32 bs ≡ true → words_of (bs ++ 32 ∷ ds) ≡ bs ∷ words_of ds
words_before [] ds none = refl
words_before (b ∷ bs) ds none =
    let parts = and_parts (not (b == 32)) (lacks 32 bs) none in
    rw (not-true (b == 32) parts.0) (ap (onto_first b) (words_before bs ds parts.1))

-- a text that lacks a byte isn't cut at it
pub cut_none : (c : ℕ) (bs : List ℕ) → lacks c bs ≡ true → cut_at c bs ≡ None
cut_none c [] none = refl
cut_none c (b ∷ bs) none =
    let parts = and_parts (not (b == c)) (lacks c bs) none in
    rw (not-true (b == c) parts.0, cut_none c bs parts.1)

-- a text is cut at the first such byte
pub cut_some : (c : ℕ) (bs ds : List ℕ) → lacks c bs ≡ true → cut_at c (bs ++ c ∷ ds) ≡ Some (bs, ds)
cut_some c [] ds none = rw (eq-eqb c c refl)
cut_some c (b ∷ bs) ds none =
    let parts = and_parts (not (b == c)) (lacks c bs) none in
    rw (not-true (b == c) parts.0, cut_some c bs ds parts.1)

-- the same, as `split_once` cuts
pub once_cut : (c : ℕ) (text : List ℕ) (r : Option (Bor (List ℕ) × Bor (List ℕ))) → c < 128 → IsSplitOnceResult c text r
    → MatchOption r (cut_at c text ≡ None) (λ parts. cut_at c text ≡ Some (parts.0.now, parts.1.now))
once_cut c text None low is = cut_none c text (lacks_from c text (split_parts c text None is low))
once_cut c text (Some parts) low is =
    let cut = split_parts c text (Some parts) is low in
    ap (cut_at c) cut.0 ∙ cut_some c parts.0.now parts.1.now (lacks_from c parts.0.now cut.1)

-- the first word, as `split_once` cuts it
pub first_word_cut : (text : List ℕ) (r : Option (Bor (List ℕ) × Bor (List ℕ))) → IsSplitOnceResult 32 text r
    → MatchOption r (words_of text ≡ text ∷ []) (λ parts. words_of text ≡ parts.0.now ∷ words_of parts.1.now)
first_word_cut text None is = words_alone text (lacks_from 32 text (split_parts 32 text None is (omega arith)))
first_word_cut text (Some parts) is =
    let cut = split_parts 32 text (Some parts) is (omega arith) in
    ap words_of cut.0 ∙ words_before parts.0.now parts.1.now (lacks_from 32 parts.0.now cut.1)

-- what stands behind a word is shorter than the text
pub behind_shorter : (text : List ℕ) (r : Option (Bor (List ℕ) × Bor (List ℕ))) → IsSplitOnceResult 32 text r
    → MatchOption r (Unit {0}) (λ parts. length parts.1.now < length text)
behind_shorter text None is = tt
behind_shorter text (Some parts) is =
    let cut = split_parts 32 text (Some parts) is (omega arith) in
    omega (arith, ap length cut.0, length-append parts.0.now (32 ∷ parts.1.now))

-- a text has a word
onto_some : (b : ℕ) (parts : List (List ℕ)) → onto_first b parts ≡ [] → ⊥
onto_some b [] is = cc
onto_some b (part ∷ parts) is = cc

pub words_some : (bs : List ℕ) → words_of bs ≡ [] → ⊥
words_some [] is = cc
words_some (b ∷ bs) is = either (b == 32) is
  where
    either : (t : Bool) → (if t then [] ∷ words_of bs else onto_first b (words_of bs)) ≡ [] → ⊥
    either true e = cc
    either false e = onto_some b (words_of bs) e
