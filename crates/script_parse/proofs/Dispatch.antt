-- Which statement begins with which token.
use Rattle.std.proofs.Common.{◌≡◌, ℕ, false, List, ◌∷◌, length, refl}
use Rattle.script_tree.specs.declared.symbol.Fixed.{Fixed}
use Rattle.script_tree.specs.declared.symbol.Fixed.TheVariants as x
use Rattle.script_tree.specs.declared.symbol.Symbol.TheVariants as s
use Rattle.script_tree.specs.declared.lexeme.Lexeme.{Lexeme}
use Rattle.script_tree.specs.declared.lexeme.Lexeme.TheVariants as t
use Rattle.script_tree.specs.Grammar.{Stops, Stmt as AStmt, stmt_fixed}
use Rattle.script_parse_terms.specs.declared.refusal.ReadError.TheVariants as errors
use Rattle.script_parse_terms.specs.Takes.{Fails, kind_at}
use Rattle.script_parse_terms.proofs.Machine.{refuse}
use Rattle.script_parse.specs.Simple.{has_block}

-- words with which no statement begins
pub no_stmt : (y : Fixed) → has_block y ≡ false → (y ≡ x.Let → ⊥) → (y ≡ x.Own → ⊥) → (y ≡ x.Attr → ⊥) → (y ≡ x.Create → ⊥) → (y ≡ x.Remove → ⊥) → (y ≡ x.Priority → ⊥) → (y ≡ x.Call → ⊥) → (y ≡ x.Attach → ⊥) → (y ≡ x.Detach → ⊥) → (y ≡ x.Mask → ⊥) → (y ≡ x.Unmask → ⊥) → (y ≡ x.Fire → ⊥) → (y ≡ x.Null → ⊥) → (y ≡ x.Bind → ⊥) → (y ≡ x.Timer → ⊥) → (y ≡ x.Usage → ⊥) → (y ≡ x.Rollback → ⊥) → stmt_fixed y ≡ Stops
no_stmt x.If h h0 h1 h2 h3 h4 h5 h6 h7 h8 h9 h10 h11 h12 h13 h14 h15 h16 = cc
no_stmt x.While h h0 h1 h2 h3 h4 h5 h6 h7 h8 h9 h10 h11 h12 h13 h14 h15 h16 = cc
no_stmt x.For h h0 h1 h2 h3 h4 h5 h6 h7 h8 h9 h10 h11 h12 h13 h14 h15 h16 = cc
no_stmt x.Let h h0 h1 h2 h3 h4 h5 h6 h7 h8 h9 h10 h11 h12 h13 h14 h15 h16 = absurd (h0 refl)
no_stmt x.Own h h0 h1 h2 h3 h4 h5 h6 h7 h8 h9 h10 h11 h12 h13 h14 h15 h16 = absurd (h1 refl)
no_stmt x.Attr h h0 h1 h2 h3 h4 h5 h6 h7 h8 h9 h10 h11 h12 h13 h14 h15 h16 = absurd (h2 refl)
no_stmt x.Create h h0 h1 h2 h3 h4 h5 h6 h7 h8 h9 h10 h11 h12 h13 h14 h15 h16 = absurd (h3 refl)
no_stmt x.Remove h h0 h1 h2 h3 h4 h5 h6 h7 h8 h9 h10 h11 h12 h13 h14 h15 h16 = absurd (h4 refl)
no_stmt x.Priority h h0 h1 h2 h3 h4 h5 h6 h7 h8 h9 h10 h11 h12 h13 h14 h15 h16 = absurd (h5 refl)
no_stmt x.Call h h0 h1 h2 h3 h4 h5 h6 h7 h8 h9 h10 h11 h12 h13 h14 h15 h16 = absurd (h6 refl)
no_stmt x.Attach h h0 h1 h2 h3 h4 h5 h6 h7 h8 h9 h10 h11 h12 h13 h14 h15 h16 = absurd (h7 refl)
no_stmt x.Detach h h0 h1 h2 h3 h4 h5 h6 h7 h8 h9 h10 h11 h12 h13 h14 h15 h16 = absurd (h8 refl)
no_stmt x.Mask h h0 h1 h2 h3 h4 h5 h6 h7 h8 h9 h10 h11 h12 h13 h14 h15 h16 = absurd (h9 refl)
no_stmt x.Unmask h h0 h1 h2 h3 h4 h5 h6 h7 h8 h9 h10 h11 h12 h13 h14 h15 h16 = absurd (h10 refl)
no_stmt x.Fire h h0 h1 h2 h3 h4 h5 h6 h7 h8 h9 h10 h11 h12 h13 h14 h15 h16 = absurd (h11 refl)
no_stmt x.Null h h0 h1 h2 h3 h4 h5 h6 h7 h8 h9 h10 h11 h12 h13 h14 h15 h16 = absurd (h12 refl)
no_stmt x.Bind h h0 h1 h2 h3 h4 h5 h6 h7 h8 h9 h10 h11 h12 h13 h14 h15 h16 = absurd (h13 refl)
no_stmt x.Timer h h0 h1 h2 h3 h4 h5 h6 h7 h8 h9 h10 h11 h12 h13 h14 h15 h16 = absurd (h14 refl)
no_stmt x.Usage h h0 h1 h2 h3 h4 h5 h6 h7 h8 h9 h10 h11 h12 h13 h14 h15 h16 = absurd (h15 refl)
no_stmt x.Rollback h h0 h1 h2 h3 h4 h5 h6 h7 h8 h9 h10 h11 h12 h13 h14 h15 h16 = absurd (h16 refl)
no_stmt _ h h0 h1 h2 h3 h4 h5 h6 h7 h8 h9 h10 h11 h12 h13 h14 h15 h16 = refl

pub refuse_stmt : (d : ℕ) (y : Fixed) (ts behind : List Lexeme) → ts ≡ t.Symbol (s.Fixed y) ∷ behind → stmt_fixed y ≡ Stops → Fails AStmt d ts (errors.Misfit (record { left = length ts; kind = kind_at ts }))
refuse_stmt d y ts behind e h = refuse AStmt d ts refl (λ token rest is. let same : token ≡ t.Symbol (s.Fixed y) = cc in rw same h)
