-- What readers answer: what they read and what follows it, or the fault that stands within.
use Rattle.std.specs.Prelude.{◌≡◌, ℕ, Bool, List, [], ◌∷◌, Result, Ok, Err, Option, Some, None}
use Rattle.std.specs.Borrow.{Bor}
use Rattle.script_tree.specs.declared.symbol.Fixed.{Fixed}
use Rattle.script_tree.specs.declared.lexeme.Lexeme.{Lexeme}
use Rattle.script_tree.specs.declared.tree.Expr.{Expr}
use Rattle.script_tree.specs.Tree.{Expression, tree_of}
use Rattle.script_tree.specs.Spelling.{fits}
use Rattle.script_tree.specs.Grammar.{Part, Level, One, Item, ATree}
use Rattle.script_parse_terms.specs.declared.refusal.ReadError.{ReadError}
use Rattle.script_parse_terms.specs.Takes.{Took, TookAll, TookBefore, Turned, Fails, FailsAll, FailsBefore, fits_at}

-- the reader of a part: what it reads is this item, and fits
abbrev pub Reads : {A : Type 0} → Part → (A → Item) → (A → Bool) → ℕ → List Lexeme → Result (A × Bor (List Lexeme)) ReadError → Type 0
Reads part item good d ts (Ok x) = Took part [] d ts (item x.0 ∷ []) (good x.0) x.1.now
Reads part item good d ts (Err e) = Fails part d ts e

-- the reader of an expression without operators
abbrev pub ReadsOperand : ℕ → List Lexeme → Result (Expr × Bor (List Lexeme)) ReadError → Type 0
ReadsOperand d ts (Ok x) = Took (Level 0) [] d ts (ATree (tree_of x.0) ∷ []) (fits_at 0 d (tree_of x.0)) x.1.now
ReadsOperand d ts (Err e) = Fails (Level 0) d ts e

-- the reader of an expression with this word or sign behind it
abbrev pub ReadsBefore : {A : Type 0} → Fixed → (A → Expression) → ℕ → List Lexeme → Result (A × Bor (List Lexeme)) ReadError → Type 0
ReadsBefore y tree d ts (Ok x) = TookBefore y d ts (tree x.0) (fits d (tree x.0)) x.1.now
ReadsBefore y tree d ts (Err e) = FailsBefore y d ts e

-- the reader of a part that says more of what was read before: how that is spelled, and what it changes
abbrev pub ReadsMore : {A : Type 0} → Part → (A → List Lexeme) → (A → List Item → List Item) → (A → Bool) → ℕ → List Lexeme → Result (A × Bor (List Lexeme)) ReadError → Type 0
ReadsMore part spell set good d ts (Ok x) = TookAll (part ∷ []) [] d d ts (spell x.0) (set x.0) (good x.0) x.1.now
ReadsMore part spell set good d ts (Err e) = Fails part d ts e

-- the reader of several parts, behind which d brackets are open in the place of e
abbrev pub ReadsAll : {A : Type 0} → List Part → (A → List Lexeme) → (A → List Item → List Item) → (A → Bool) → ℕ → ℕ → List Lexeme → Result (A × Bor (List Lexeme)) ReadError → Type 0
ReadsAll parts spell set good e d ts (Ok x) = TookAll parts [] e d ts (spell x.0) (set x.0) (good x.0) x.1.now
ReadsAll parts spell set good e d ts (Err error) = FailsAll parts e ts error

-- the reader of a word or sign, behind which d brackets are open in the place of e
abbrev pub Turns : Fixed → ℕ → ℕ → List Lexeme → Result (Bor (List Lexeme)) ReadError → Type 0
Turns y e d ts (Ok rest) = Turned y e d ts rest.now
Turns y e d ts (Err error) = Fails (One y) e ts error

-- the reader of what the first token says, if it says such a thing
abbrev pub ReadsFirst : {A : Type 0} → Option A → List Lexeme → Option (A × Bor (List Lexeme)) → Type 0
ReadsFirst said ts None = said ≡ None
ReadsFirst said ts (Some x) = (said ≡ Some x.0) × ((first : Lexeme) × (ts ≡ first ∷ x.1.now))
