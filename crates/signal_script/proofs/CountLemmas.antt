-- How many words stand behind a verb.
use Rattle.std.proofs.Common.{◌≡◌, ℕ, List, [], ◌∷◌, ◌++◌, Ok, Err, refl, sym, ap}
use Rattle.signal_script.specs.Lines.{words_of}
use Rattle.signal_script.specs.Signals.{Reading, and_then, only_word, only_two, two_or_more, text_of, field_of, fields_of}
use Rattle.signal_script.specs.declared.fault.SignalBad.{SignalBad}
use Rattle.signal_script.specs.declared.fault.SignalBad.TheVariants as bads
use Rattle.signal_script.specs.Answers.{IsFaultOf}
use Rattle.signal_script.specs.declared.fault.LineFault.{LineFault}
use Rattle.signal_script.specs.declared.fault.LineFault.TheVariants as faults
use Rattle.signal_script.proofs.WordLemmas.{words_some}

pub one_is_not_more : (text word behind : List ℕ) → words_of text ≡ word ∷ words_of behind → only_word (words_of text) ≡ Err bads.Count
one_is_not_more text word behind is = rw is (by (words_of behind) (words_some behind))
  where
    by : (ws : List (List ℕ)) → (ws ≡ [] → ⊥) → only_word (word ∷ ws) ≡ Err bads.Count
    by [] some = absurd (some refl)
    by (w ∷ ws) some = refl

pub two_at_least : (text first behind second : List ℕ) (more : List (List ℕ)) → words_of text ≡ first ∷ words_of behind → words_of behind ≡ second ∷ more
    → two_or_more (words_of text) ≡ Ok (first, second, more)
two_at_least text first behind second more is then = rw (is, then)

-- two words alone, and more than two
pub two_alone : (ws : List (List ℕ)) (first second : List ℕ) → two_or_more ws ≡ Ok (first, second, []) → only_two ws ≡ Ok (first, second)
two_alone [] first second is = cc
two_alone (a ∷ []) first second is = cc
two_alone (a ∷ b ∷ ws) first second is =
    let same : (a, b, ws) ≡ (first, second, []) = cc in
    let none : ws ≡ [] = ap (λ (p : List ℕ × List ℕ × List (List ℕ)). p.2) same in
    rw none (ap (λ (p : List ℕ × List ℕ × List (List ℕ)). Ok (p.0, p.1)) same)

pub two_with_more : (ws : List (List ℕ)) (first second behind : List ℕ) → two_or_more ws ≡ Ok (first, second, words_of behind) → only_two ws ≡ Err bads.Count
two_with_more [] first second behind is = cc
two_with_more (a ∷ []) first second behind is = cc
two_with_more (a ∷ b ∷ []) first second behind is =
    let same : (a, b, []) ≡ (first, second, words_of behind) = cc in
    absurd (words_some behind (sym (ap (λ (p : List ℕ × List ℕ × List (List ℕ)). p.2) same)))
two_with_more (a ∷ b ∷ c ∷ ws) first second behind is = refl

pub not_two : (ws : List (List ℕ)) (kind : SignalBad) → two_or_more ws ≡ Err kind → only_two ws ≡ Err kind
not_two [] kind is = let same : bads.Count ≡ kind = cc in ap Err same
not_two (a ∷ []) kind is = let same : bads.Count ≡ kind = cc in ap Err same
not_two (a ∷ b ∷ ws) kind is = cc

-- a field word more: its name, and the value that its other part stands for
pub field_more : (made new : List (List ℕ × List ℕ)) (text word name value : List ℕ) (more : List (List ℕ)) → words_of text ≡ word ∷ more
    → field_of made word ≡ and_then (text_of value) (λ v. Ok (name, v)) → and_then (text_of value) (λ v. Ok (made ++ (name, v) ∷ [])) ≡ Ok new
    → fields_of made (words_of text) ≡ fields_of new more
field_more made new text word name value more is cut added = rw (is, cut) (by (text_of value) added)
  where
    by : (r : Reading (List ℕ)) → and_then r (λ v. Ok (made ++ (name, v) ∷ [])) ≡ Ok new → and_then (and_then r (λ v. Ok (name, v))) (λ field. fields_of (made ++ field ∷ []) more) ≡ fields_of new more
    by (Ok v) e = let same : made ++ (name, v) ∷ [] ≡ new = cc in ap (λ (l : List (List ℕ × List ℕ)). fields_of l more) same
    by (Err bad) e = cc

-- a word that is no field word
pub field_fault : (made : List (List ℕ × List ℕ)) (text word : List ℕ) (more : List (List ℕ)) (kind : SignalBad) → words_of text ≡ word ∷ more
    → field_of made word ≡ Err kind → fields_of made (words_of text) ≡ Err kind
field_fault made text word more kind is bad = rw (is, bad) refl

-- one whose value is no text
pub value_fault : (made : List (List ℕ × List ℕ)) (text word name value : List ℕ) (more : List (List ℕ)) (fault : LineFault) → words_of text ≡ word ∷ more
    → field_of made word ≡ and_then (text_of value) (λ v. Ok (name, v)) → IsFaultOf (text_of value) fault → IsFaultOf (fields_of made (words_of text)) fault
value_fault made text word name value more (faults.Bad kind) is cut bad = rw (is, cut, bad) refl
value_fault made text word name value more faults.NoMemory is cut bad = tt
