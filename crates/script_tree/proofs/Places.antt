-- Where the tokens of a text begin, and how many there are.
use Rattle.std.proofs.Common.{◌≡◌, ◌≤◌, ◌+◌, ◌-◌, ℕ, zero, suc, List, [], ◌∷◌, length, map, drop, Bool, true, false, cond, refl, ap, ◌∙◌, arith}
use Rattle.std.specs.Prelude.{◌==◌, slice_get}
use Rattle.std.specs.List.{prefix_len}
use Rattle.std.proofs.lemmas.List.{length-map}
use Rattle.script_tree.specs.declared.lexeme.Lexeme.{Lexeme}
use Rattle.script_tree.specs.declared.lexeme.Lexeme.TheVariants as t
use Rattle.script_tree.specs.declared.token.Token.{Token}
use Rattle.script_tree.specs.Tree.{Bytes, Statements}
use Rattle.script_tree.specs.Spelling.{spell_statements}
use Rattle.script_tree.specs.Lexer.{Spot, lexed, spots_of, lexeme_of, unless_bad, spotted, cut, is_blank, is_in_line}
use Rattle.script_tree.specs.Reading.{Writes, token_of, start_of, start_at}

there : (spots : List Spot) (n end : ℕ) → start_at (slice_get (map token_of spots) n) end ≡ start_of (drop n spots) end
there [] zero end = refl
there [] (suc n) end = refl
there (spot ∷ spots) zero end = refl
there (spot ∷ spots) (suc n) end = there spots n end

pub token_starts : (text : Bytes) (tokens : List Token) (n : ℕ) → tokens ≡ map token_of (spots_of text) → start_at (slice_get tokens n) (length text) ≡ start_of (drop n (spots_of text)) (length text)
token_starts text tokens n e = ap (λ l. start_at (slice_get l n) (length text)) e ∙ there (spots_of text) n (length text)

unless_short : (y : Lexeme) (spots : List Spot) (n : ℕ) → length spots ≤ n → length (unless_bad y spots) ≤ n
unless_short (t.Int m) spots n h = h
unless_short (t.Name m) spots n h = h
unless_short (t.Text m) spots n h = h
unless_short (t.Symbol m) spots n h = h
unless_short t.Bad spots n h = omega arith

cond_short : (a : Bool) (xs ys : List Spot) (n : ℕ) → length xs ≤ n → length ys ≤ n → length (cond a xs ys) ≤ n
cond_short true xs ys n h k = h
cond_short false xs ys n h k = k

-- each token has a byte of its own
spots_short : (bs : Bytes) (at skip : ℕ) → length (lexed at skip bs) ≤ length bs
spots_short [] at zero = omega arith
spots_short [] at (suc skip) = omega arith
spots_short (b ∷ bs) at (suc skip) = omega (arith, spots_short bs (at + 1) skip)
spots_short (b ∷ bs) at zero =
    let c = cut (b ∷ bs) in
    let behind = lexed (at + 1) (c.size - 1) bs in
    cond_short (is_blank b) (lexed (at + 1) 0 bs) (cond (b == 35) (lexed (at + 1) (prefix_len is_in_line bs) bs) (spotted c at (λ skip. lexed (at + 1) skip bs))) (length (b ∷ bs)) (omega (arith, spots_short bs (at + 1) 0))
    (cond_short (b == 35) (lexed (at + 1) (prefix_len is_in_line bs) bs) (spotted c at (λ skip. lexed (at + 1) skip bs)) (length (b ∷ bs)) (omega (arith, spots_short bs (at + 1) (prefix_len is_in_line bs)))
    (omega (arith, unless_short c.lexeme behind (length bs) (spots_short bs (at + 1) (c.size - 1)))))

-- so a text has no more tokens than bytes
pub bounded : (text : Bytes) (script : Statements) → Writes text script → length (spell_statements script) ≤ length text
bounded text script w = omega (arith, ap length w.spelled, length-map (spots_of text) lexeme_of, spots_short text 0 0)
