-- The fault that is read of a text stands at the first place which no script goes on past.
use Rattle.std.proofs.Common.{◌≡◌, ◌≤◌, ◌+◌, ◌-◌, ℕ, List, [], ◌∷◌, ◌++◌, length, length-append, Bool, true, false, cond, ◌&&◌, Result, Ok, Err, refl, sym, ap, subst, ◌∙◌, arith, append_assoc, append-nil}
use Rattle.std.specs.List.{list_all}
use Rattle.std.proofs.lemmas.List.{length-map}
use Rattle.script_tree.specs.declared.lexeme.Lexeme.{Lexeme}
use Rattle.script_tree.specs.declared.lexeme.Lexeme.TheVariants as t
use Rattle.script_tree.specs.declared.scanning.Place.{Place}
use Rattle.script_tree.specs.declared.fault.Misfit.{Misfit}
use Rattle.script_tree.specs.declared.fault.SyntaxBad.{SyntaxBad}
use Rattle.script_tree.specs.declared.fault.SyntaxBad.TheVariants as bad
use Rattle.script_tree.specs.declared.fault.SyntaxFault.{SyntaxFault}
use Rattle.script_tree.specs.declared.fault.SyntaxFault.TheVariants as faults
use Rattle.script_tree.specs.Tree.{Bytes, Statements}
use Rattle.script_tree.specs.Lexer.{spots_of, lexemes_of, lexeme_of}
use Rattle.script_tree.specs.Reading.{script_read, read_by, place_of_token}
use Rattle.script_tree.specs.Grammar.{Part, Item, Next, Stops, Goes, Verdict, Fine, Faulty, eat, optional, passed, Turn, Opens, Closes, Stays, turn, too_deep, depth_by, kind_of, at_end, verdict_at, verdict, script_of}
use Rattle.script_print.proofs.Expressions.{and_parts, le_is}
use Rattle.script_print.proofs.Scripts.{script_again}
use Rattle.script_print.proofs.Refused.{no_script}
use Rattle.script_print.specs.Proper.{is_proper}
use Rattle.script_print.specs.Beginnings.{NoneGoesOn, Explains, FirstMisfit, open_behind}
use Rattle.script_print.proofs.Tokens.{tokens_proper}
use Rattle.script_print.proofs.Viable.{fault, left_in, kind_in, continued}

-- ---- a fault divides the tokens

record Divided (ts : List Lexeme) (d n : ℕ) (kind : SyntaxBad) : Type 0 where
  front : List Lexeme
  rest : List Lexeme
  whole : ts ≡ front ++ rest
  left : n ≡ length rest
  why : Explains kind (open_behind d front) rest

-- the tokens end
at_last : (d n : ℕ) (kind : SyntaxBad) → 0 ≡ n → bad.End ≡ kind → Divided [] d n kind
at_last d n kind e k = record { front = []; rest = []; whole = refl; left = sym e; why = subst (λ k. Explains k d []) k refl }

-- a token comes that doesn't fit
at_first : (token : Lexeme) (ts : List Lexeme) (d n : ℕ) (kind : SyntaxBad) → length ts + 1 ≡ n → Explains kind d (token ∷ ts) → Divided (token ∷ ts) d n kind
at_first token ts d n kind e why = record { front = []; rest = token ∷ ts; whole = refl; left = omega (arith, e); why = why }

further : (token : Lexeme) (ts : List Lexeme) (d n : ℕ) (kind : SyntaxBad) → Divided ts (depth_by (turn token) d) n kind → Divided (token ∷ ts) d n kind
further token ts d n kind c = record { front = token ∷ c.front; rest = c.rest; whole = ap (λ l. token ∷ l) c.whole; left = c.left; why = c.why }

explains_kind : (token : Lexeme) (ts : List Lexeme) (d : ℕ) → Explains (kind_of token) d (token ∷ ts)
explains_kind t.Bad ts d = refl
explains_kind (t.Int i) ts d = refl
explains_kind (t.Name i) ts d = refl
explains_kind (t.Text i) ts d = refl
explains_kind (t.Symbol y) ts d = refl

opens_here : (turn : Turn) (d : ℕ) → too_deep turn d ≡ true → (64 ≤ d) × (turn ≡ Opens)
opens_here Opens d h = (le_is 64 d h, refl)
opens_here Closes d h = absurd cc
opens_here Stays d h = absurd cc

explains_deep : (token : Lexeme) (ts : List Lexeme) (d : ℕ) → too_deep (turn token) d ≡ true → Explains bad.Deep d (token ∷ ts)
explains_deep token ts d h = opens_here (turn token) d h

ends_by : (b : Bool) (v : Verdict) (d : ℕ) (f : Misfit) → cond b v (fault 0 bad.End) ≡ Faulty f → (v ≡ Faulty f → Divided [] d f.left f.kind) → Divided [] d f.left f.kind
ends_by true v d f h go = go h
ends_by false v d f h go = at_last d f.left f.kind (ap left_in h) (ap kind_in h)

ends_divided : (ps : List Part) (is : List Item) (d : ℕ) (f : Misfit) → at_end ps is ≡ Faulty f → Divided [] d f.left f.kind
ends_divided [] is d f h = absurd cc
ends_divided (p ∷ ps) is d f h = ends_by (optional p) (at_end ps (passed p is)) d f h (λ k. ends_divided ps (passed p is) d f k)

divided_by : (b : Bool) (v : Verdict) (token : Lexeme) (ts : List Lexeme) (d : ℕ) (f : Misfit) → (b ≡ true → Explains bad.Deep d (token ∷ ts)) → cond b (fault (length ts + 1) bad.Deep) v ≡ Faulty f → (v ≡ Faulty f → Divided ts (depth_by (turn token) d) f.left f.kind) → Divided (token ∷ ts) d f.left f.kind
divided_by true v token ts d f why h go = at_first token ts d f.left f.kind (ap left_in h) (subst (λ k. Explains k d (token ∷ ts)) (ap kind_in h) (why refl))
divided_by false v token ts d f why h go = further token ts d f.left f.kind (go h)

divided_at : (next : Next) (d : ℕ) (token : Lexeme) (ts : List Lexeme) (f : Misfit) → verdict_at next d token ts (λ ps is d. verdict ps is d ts) ≡ Faulty f → ((ps : List Part) (is : List Item) (d : ℕ) → verdict ps is d ts ≡ Faulty f → Divided ts d f.left f.kind) → Divided (token ∷ ts) d f.left f.kind
divided_at Stops d token ts f h go = at_first token ts d f.left f.kind (ap left_in h) (subst (λ k. Explains k d (token ∷ ts)) (ap kind_in h) (explains_kind token ts d))
divided_at (Goes ps is) d token ts f h go = divided_by (too_deep (turn token) d) (verdict ps is (depth_by (turn token) d) ts) token ts d f (λ deep. explains_deep token ts d deep) h (go ps is (depth_by (turn token) d))

divided : (ts : List Lexeme) (ps : List Part) (is : List Item) (d : ℕ) (f : Misfit) → verdict ps is d ts ≡ Faulty f → Divided ts d f.left f.kind
unfolding verdict
divided [] ps is d f h = ends_divided ps is d f h
divided (token ∷ ts) ps is d f h = divided_at (eat ps is token) d token ts f h (λ ps is d h. divided ts ps is d f h)

-- ---- no script goes on past it

none_goes_on : (front rest : List Lexeme) (kind : SyntaxBad) → script_of (front ++ rest) ≡ fault (length rest) kind → NoneGoesOn front rest
none_goes_on front [] kind h = λ script good e.
    let both : Fine script ≡ fault 0 kind = sym (script_again script good) ∙ ap script_of (e ∙ sym (append-nil front)) ∙ h in
    absurd cc
none_goes_on front (token ∷ rest) kind h = λ b.
    let e : length (token ∷ rest) ≡ length rest + 1 = omega arith in
    no_script front token rest kind (h ∙ ap (λ n. fault n kind) e) b.script b.more b.whole (b.spelled ∙ append_assoc front (token ∷ []) b.more)

-- ---- the place in the text

all_in_front : (xs ys : List Lexeme) → list_all is_proper (xs ++ ys) ≡ true → list_all is_proper xs ≡ true
all_in_front [] ys h = refl
all_in_front (y ∷ xs) ys h =
    let p = and_parts (is_proper y) (list_all is_proper (xs ++ ys)) h in
    ap (λ b. b && list_all is_proper xs) p.0 ∙ all_in_front xs ys p.1

abbrev place_in : SyntaxFault → Place
place_in faults.NoMemory = record { line = 0; column = 0 }
place_in (faults.At line column kind) = record { line = line; column = column }

abbrev reason_in : SyntaxFault → SyntaxBad
reason_in faults.NoMemory = bad.End
reason_in (faults.At line column kind) = kind

abbrev fault_read : Result Statements SyntaxFault → SyntaxFault
fault_read (Ok script) = faults.NoMemory
fault_read (Err fault) = fault

misfit_at : (text : Bytes) (f : Misfit) → script_of (lexemes_of text) ≡ Faulty f → Divided (lexemes_of text) 0 f.left f.kind → FirstMisfit text (place_of_token text (length (spots_of text) - f.left)) f.kind
misfit_at text f h c =
    let read : script_of (c.front ++ c.rest) ≡ fault (length c.rest) f.kind = ap script_of (sym c.whole) ∙ h ∙ ap (λ n. fault n f.kind) c.left in
    let all = length-map (spots_of text) lexeme_of in
    let many : length (lexemes_of text) ≡ length (c.front ++ c.rest) = ap length c.whole in
    let before : length c.front ≡ length (spots_of text) - f.left = omega (arith, all, many, length-append c.front c.rest, c.left) in
    record {
      front = c.front;
      rest = c.rest;
      divided = c.whole;
      here = ap (place_of_token text) before;
      begins = λ few. continued c.front c.rest f.kind (all_in_front c.front c.rest (ap (list_all is_proper) (sym c.whole) ∙ tokens_proper text)) few read;
      ends = none_goes_on c.front c.rest f.kind read;
      why = c.why;
    }

misfit_by : (text : Bytes) (v : Verdict) (fault : SyntaxFault) → script_of (lexemes_of text) ≡ v → read_by text (spots_of text) v ≡ Err fault → FirstMisfit text (place_in fault) (reason_in fault)
misfit_by text (Fine script) fault is h = absurd cc
misfit_by text (Faulty f) fault is h = subst (λ e. FirstMisfit text (place_in e) (reason_in e)) (ap fault_read h) (misfit_at text f is (divided (lexemes_of text) _ _ 0 f is))

pub first_misfit : (text : Bytes) (line column : ℕ) (kind : SyntaxBad) → script_read text ≡ Err (faults.At line column kind) → FirstMisfit text (record { line = line; column = column }) kind
first_misfit text line column kind h = misfit_by text (script_of (lexemes_of text)) (faults.At line column kind) refl h
