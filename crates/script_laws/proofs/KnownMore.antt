-- What is known where one more answer is learned.
use Rattle.std.proofs.Common.{◌≡◌, true, false, Bool, List, [], ◌∷◌, ◌++◌, Option, Some, None, refl, sym, ap, ◌∙◌, subst, append-nil, append_assoc}
use Rattle.std.specs.Prelude.{cond}
use Rattle.script_meaning.specs.declared.key.Key.{Key}
use Rattle.script_meaning.specs.declared.seen.Seen.{Seen}
use Rattle.script_meaning.specs.Seeing.{same_key}
use Rattle.script_meaning.specs.Answers.{Answers, kept}
use Rattle.script_laws.specs.Asking.{WereAsked}
use Rattle.script_laws.specs.Dependence.{Extends}
use Rattle.script_laws.proofs.DistinctKeys.{key_is}

kept_first : (b : Bool) (answer one : Seen) (o p : Option Seen) → (o ≡ Some answer → p ≡ Some answer) → cond b (Some one) o ≡ Some answer → cond b (Some one) p ≡ Some answer
kept_first true answer one o p go h = h
kept_first false answer one o p go h = go h

-- more that is known leaves what was known
pub kept_extends : (known more : List (Key × Seen)) → Extends (kept known) (kept (known ++ more))
kept_extends [] more key answer h = cc
kept_extends (x ∷ known) more key answer h = kept_first (same_key x.0 key) answer x.1 (kept known key) (kept (known ++ more) key) (kept_extends known more key answer) h

more_first : (answers : Answers) (pair : Key × Seen) (key : Key) (answer : Seen) (b : Bool) → same_key pair.0 key ≡ b → answers pair.0 ≡ Some pair.1 → cond b (Some pair.1) None ≡ Some answer → answers key ≡ Some answer
more_first answers pair key answer true same is h = subst (λ k. answers k ≡ Some answer) (key_is pair.0 key same) (is ∙ h)
more_first answers pair key answer false same is h = cc

at_first : (answers : Answers) (key : Key) (one answer : Seen) (b : Bool) (o p : Option Seen) → (cond b (Some one) o ≡ Some answer → answers key ≡ Some answer) → ((o ≡ Some answer → answers key ≡ Some answer) → p ≡ Some answer → answers key ≡ Some answer) → cond b (Some one) p ≡ Some answer → answers key ≡ Some answer
at_first answers key one answer true o p more go h = more h
at_first answers key one answer false o p more go h = go more h

more_at : (answers : Answers) (known : List (Key × Seen)) (pair : Key × Seen) (key : Key) (answer : Seen) → (kept known key ≡ Some answer → answers key ≡ Some answer) → answers pair.0 ≡ Some pair.1 → kept (known ++ pair ∷ []) key ≡ Some answer → answers key ≡ Some answer
more_at answers [] pair key answer more is h = more_first answers pair key answer (same_key pair.0 key) refl is h
more_at answers (x ∷ known) pair key answer more is h = at_first answers key x.1 answer (same_key x.0 key) (kept known key) (kept (known ++ pair ∷ []) key) more (λ rest there. more_at answers known pair key answer rest is there) h

-- one more answer that others have too
pub extends_more : (answers : Answers) (known : List (Key × Seen)) (pair : Key × Seen) → Extends (kept known) answers → answers pair.0 ≡ Some pair.1 → Extends (kept (known ++ pair ∷ [])) answers
extends_more answers known pair more is key answer h = more_at answers known pair key answer (more key answer) is h

-- one key more that was asked for
pub asked_more : (lacks : Answers → Option Key) (known learned : List (Key × Seen)) (pair : Key × Seen) → WereAsked lacks known learned → lacks (kept (known ++ learned)) ≡ Some pair.0 → WereAsked lacks known (learned ++ pair ∷ [])
asked_more lacks known [] pair asked h = (subst (λ l. lacks (kept l) ≡ Some pair.0) (append-nil known) h, tt)
asked_more lacks known (x ∷ learned) pair asked h =
    (asked.0, asked_more lacks (known ++ x ∷ []) learned pair asked.1 (subst (λ l. lacks (kept l) ≡ Some pair.0) (sym (append_assoc known (x ∷ []) learned)) h))
