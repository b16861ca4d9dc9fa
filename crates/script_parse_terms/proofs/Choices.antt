-- Where neither of two tokens comes.
use Rattle.std.proofs.Common.{◌≡◌, ℕ, List, ◌∷◌, length, false, refl, sym, ap, ◌∙◌}
use denote.Enum.Bare.{sameb}
use Rattle.script_tree.specs.contracts.symbol.Fixed.{the_type}
use Rattle.script_tree.specs.declared.symbol.Fixed.{Fixed}
use Rattle.script_tree.specs.declared.symbol.Fixed.TheVariants as x
use Rattle.script_tree.specs.declared.symbol.Symbol.TheVariants as s
use Rattle.script_tree.specs.declared.lexeme.Lexeme.{Lexeme}
use Rattle.script_tree.specs.declared.lexeme.Lexeme.TheVariants as t
use Rattle.script_parse_terms.specs.declared.refusal.ReadError.TheVariants as errors
use Rattle.script_tree.specs.Grammar.{is_fixed, Stops, Who, Over, who_after, who_fixed, over_after, over_fixed}
use Rattle.script_parse_terms.specs.Takes.{Fails, kind_at, starts}
use Rattle.script_parse_terms.proofs.Machine.{refuse}

no_own : (y : Fixed) → sameb the_type y x.Own ≡ false → who_fixed y ≡ Stops
no_own x.Own h = cc
no_own _ h = refl

no_who : (token : Lexeme) → is_fixed x.Own token ≡ false → ((n : List ℕ) → token ≡ t.Name n → ⊥) → who_after token ≡ Stops
no_who (t.Name n) h k = absurd (k n refl)
no_who (t.Symbol (s.Fixed y)) h k = no_own y h
no_who (t.Symbol (s.Operator y)) h k = refl
no_who (t.Symbol (s.Constant y)) h k = refl
no_who (t.Symbol (s.Function y)) h k = refl
no_who (t.Symbol (s.Verb y)) h k = refl
no_who (t.Int n) h k = refl
no_who (t.Text n) h k = refl
no_who t.Bad h k = refl

-- neither `self` nor a name
pub refuse_who : (d : ℕ) (ts : List Lexeme) → starts x.Own ts ≡ false → ((n : List ℕ) (rest : List Lexeme) → ts ≡ t.Name n ∷ rest → ⊥) → Fails Who d ts (errors.Misfit (record { left = length ts; kind = kind_at ts }))
refuse_who d ts h k = refuse Who d ts refl (λ token rest is. no_who token (ap (starts x.Own) (sym is) ∙ h) (λ n e. k n rest (is ∙ ap (λ y. y ∷ rest) e)))

no_activities : (y : Fixed) → sameb the_type y x.Activities ≡ false → over_fixed y ≡ Stops
no_activities x.Activities h = cc
no_activities _ h = refl

no_over : (token : Lexeme) → is_fixed x.Activities token ≡ false → ((n : List ℕ) → token ≡ t.Name n → ⊥) → over_after token ≡ Stops
no_over (t.Name n) h k = absurd (k n refl)
no_over (t.Symbol (s.Fixed y)) h k = no_activities y h
no_over (t.Symbol (s.Operator y)) h k = refl
no_over (t.Symbol (s.Constant y)) h k = refl
no_over (t.Symbol (s.Function y)) h k = refl
no_over (t.Symbol (s.Verb y)) h k = refl
no_over (t.Int n) h k = refl
no_over (t.Text n) h k = refl
no_over t.Bad h k = refl

-- neither `activities` nor a name
pub refuse_over : (d : ℕ) (ts : List Lexeme) → starts x.Activities ts ≡ false → ((n : List ℕ) (rest : List Lexeme) → ts ≡ t.Name n ∷ rest → ⊥) → Fails Over d ts (errors.Misfit (record { left = length ts; kind = kind_at ts }))
refuse_over d ts h k = refuse Over d ts refl (λ token rest is. no_over token (ap (starts x.Activities) (sym is) ∙ h) (λ n e. k n rest (is ∙ ap (λ y. y ∷ rest) e)))
