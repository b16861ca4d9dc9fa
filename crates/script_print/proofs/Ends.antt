-- Parts that are still to come can be completed by some tokens.
use Rattle.std.proofs.Common.{◌≡◌, ◌≤◌, ◌+◌, ◌-◌, ℕ, List, [], ◌∷◌, length, Bool, true, false, cond, ◌&&◌, ◌||◌, refl, sym, ap, ◌∙◌, arith}
use Rattle.std.specs.Prelude.{nat_le, not}
use Rattle.std.specs.List.{list_all}
use Rattle.std.proofs.lemmas.Bool.Decides.{nat_tests}
use denote.Enum.Bare.{sameb}
use Rattle.script_tree.specs.contracts.symbol.Fixed.{the_type}
use Rattle.script_tree.specs.declared.symbol.Fixed.{Fixed}
use Rattle.script_tree.specs.declared.symbol.Fixed.TheVariants as x
use Rattle.script_tree.specs.declared.lexeme.Lexeme.{Lexeme}
use Rattle.script_tree.specs.declared.lexeme.Lexeme.TheVariants as t
use Rattle.script_tree.specs.declared.fault.SyntaxBad.TheVariants as bad
use Rattle.script_tree.specs.declared.tree.Leaf.TheVariants as l
use Rattle.script_tree.specs.declared.tree.Who.TheVariants as w
use Rattle.script_tree.specs.declared.tree.Over.TheVariants as v
use Rattle.slee_value.specs.declared.keep.Keep.TheVariants as keeps
use Rattle.script_tree.specs.Tree as tree
use Rattle.script_tree.specs.Tree.{Statements}
use Rattle.script_tree.specs.Spelling.{fixed}
use Rattle.script_tree.specs.Grammar.{Part, Item, AName, AText, AWho, AnOver, ATree, ABlock, Next, Stops, Goes, One, Name, Text, Who, Over, KeepWord, Level, More, Stmt, Stmts, Block, MoreIf, MorePriority, MoreService, MoreFields, NextField, MoreRepeat, MoreKeep, Arguments, NextArgument, MoreResult, Make, Keeping, Turn, Opens, Closes, Stays, Fine, Faulty, after, optional, passed, make, level_after, stmt_fixed, turn_of, too_deep, depth_by, script_in, verdict}
use Rattle.script_print.proofs.Levels.{made, opens, runs, lasts, skip_runs}
use Rattle.script_print.proofs.Expressions.{and_parts}
use Rattle.script_print.specs.Proper.{is_proper}
use Rattle.script_print.proofs.Steps.{one_on}

-- what has to come first: nothing, a word or sign, or something else
pub data Ahead : Type 0 where
  Ends : Ahead
  Sign : Fixed → Ahead
  Other : Ahead

abbrev first_of : Part → Ahead
first_of (One y) = Sign y
first_of (Block m) = Sign x.OpenCurly
first_of _ = Other

abbrev pub ahead : List Part → Ahead
ahead [] = Ends
ahead (p ∷ ps) = cond (optional p) (ahead ps) (first_of p)

abbrev pub begins : Next → Bool
begins Stops = false
begins (Goes qs js) = true

abbrev pub same : Fixed → Fixed → Bool
same y z = sameb the_type y z

-- whether a part, or what a part ends with, may take a word or sign in place of what follows
abbrev pub takes : Part → Fixed → Bool
takes Stmts y = begins (stmt_fixed y) || same y x.Else
takes MoreIf y = same y x.Else
takes MorePriority y = same y x.Priority
takes MoreService y = same y x.For
takes MoreFields y = same y x.OpenCurly
takes NextField y = same y x.Comma
takes MoreRepeat y = same y x.Every
takes MoreKeep y = same y x.Keep
takes Arguments y = begins (level_after 8 (fixed y)) || same y x.Comma
takes NextArgument y = same y x.Comma
takes MoreResult y = same y x.As
takes _ y = false

-- whether a part ends with something that may be left out
abbrev is_open : Part → Bool
is_open (Make m) = false
is_open (Level n) = true
is_open p = optional p

-- a part that ends with something that may be left out takes nothing of what has to follow
abbrev pub stands_before : Part → Ahead → Bool
stands_before p Ends = true
stands_before p (Sign y) = not (takes p y)
stands_before p Other = false

abbrev is_stmt : Part → Bool
is_stmt Stmt = true
is_stmt _ = false

-- each part stands before what follows it
abbrev pub stands : List Part → Bool
stands [] = true
stands (p ∷ ps) = not (is_stmt p) && cond (is_open p) (stands_before p (ahead ps) && stands ps) (stands ps)

-- brackets to come are opened where no other bracket to come is open; inside: one is open
abbrev pub low_turn : Bool → Turn → (Bool → Bool) → Bool
low_turn inside Opens rest = not inside && rest true
low_turn inside Closes rest = rest false
low_turn inside Stays rest = rest inside

abbrev pub low : Bool → List Part → Bool
low inside [] = true
low inside (One y ∷ ps) = low_turn inside (turn_of y) (λ inside. low inside ps)
low inside (Block m ∷ ps) = not inside && low inside ps
low inside (_ ∷ ps) = low inside ps

-- ---- a completion

-- tokens begin with what has to come first
abbrev FirstIs : Ahead → List Lexeme → Type 0
FirstIs Ends ts = ts ≡ []
FirstIs (Sign y) ts = (rest : List Lexeme) × (ts ≡ fixed y ∷ rest)
FirstIs Other ts = Unit {0}

pub record Completed (ps : List Part) (is : List Item) (d : ℕ) : Type 0 where
  pub tokens : List Lexeme
  pub script : Statements
  pub good : list_all is_proper tokens ≡ true
  pub first : FirstIs (ahead ps) tokens
  pub done : verdict ps is d tokens ≡ Fine script

abbrev limit : Bool → ℕ
limit true = 64
limit false = 63

-- a part that may be left out, and can't begin here
skip : (p : Part) (ps : List Part) (is : List Item) (d : ℕ) (ts : List Lexeme) → optional p ≡ true → ((token : Lexeme) (rest : List Lexeme) → ts ≡ token ∷ rest → after p token ≡ Stops) → verdict (p ∷ ps) is d ts ≡ verdict ps (passed p is) d ts
unfolding verdict
skip p ps is d [] opt h = rw opt refl
skip p ps is d (token ∷ rest) opt h = rw (opt, h token rest refl) refl

stops_by : (next : Next) → begins next ≡ false → next ≡ Stops
stops_by Stops h = refl
stops_by (Goes qs js) h = absurd cc

pub not_true : (b : Bool) → not b ≡ true → b ≡ false
not_true true h = absurd cc
not_true false h = refl

pub or_left : (a b : Bool) → (a || b) ≡ false → a ≡ false
or_left true b h = absurd cc
or_left false b h = refl

pub or_right : (a b : Bool) → (a || b) ≡ false → b ≡ false
or_right true b h = absurd cc
or_right false b h = h

-- an optional part doesn't begin with a word or sign that it doesn't take
untaken : (p : Part) (y : Fixed) → optional p ≡ true → takes p y ≡ false → after p (fixed y) ≡ Stops
untaken (More n) y opt h = refl
untaken Stmts y opt h = rw (stops_by (stmt_fixed y) (or_left (begins (stmt_fixed y)) (same y x.Else) h)) refl
untaken MoreIf y opt h = rw h refl
untaken MorePriority y opt h = rw h refl
untaken MoreService y opt h = rw h refl
untaken MoreFields y opt h = rw h refl
untaken NextField y opt h = rw h refl
untaken MoreRepeat y opt h = rw h refl
untaken MoreKeep y opt h = rw h refl
untaken Arguments y opt h = rw (stops_by (level_after 8 (fixed y)) (or_left (begins (level_after 8 (fixed y))) (same y x.Comma) h)) refl
untaken NextArgument y opt h = rw h refl
untaken MoreResult y opt h = rw h refl
untaken (Make m) y opt h = refl
untaken (One z) y opt h = absurd cc
untaken Name y opt h = absurd cc
untaken Text y opt h = absurd cc
untaken Who y opt h = absurd cc
untaken Over y opt h = absurd cc
untaken KeepWord y opt h = absurd cc
untaken (Level n) y opt h = absurd cc
untaken Stmt y opt h = absurd cc
untaken (Block m) y opt h = absurd cc

-- before what stands behind it, an open part is passed over
first_stops : (p : Part) (a : Ahead) (ts : List Lexeme) → optional p ≡ true → stands_before p a ≡ true → FirstIs a ts → (token : Lexeme) (rest : List Lexeme) → ts ≡ token ∷ rest → after p token ≡ Stops
first_stops p Ends ts opt h f token rest is = absurd cc
first_stops p (Sign y) ts opt h f token rest is =
    let both : fixed y ∷ f.0 ≡ token ∷ rest = sym f.1 ∙ is in
    let first : fixed y ≡ token = cc in
    ap (after p) (sym first) ∙ untaken p y opt (not_true (takes p y) h)
first_stops p Other ts opt h f token rest is = absurd cc

passed_by : (p : Part) (ps : List Part) (is : List Item) (d : ℕ) → optional p ≡ true → stands_before p (ahead ps) ≡ true → (c : Completed ps (passed p is) d) → Completed (p ∷ ps) is d
passed_by p ps is d opt h c = record {
  tokens = c.tokens;
  script = c.script;
  good = c.good;
  first = rw opt c.first;
  done = skip p ps is d c.tokens opt (first_stops p (ahead ps) c.tokens opt h c.first) ∙ c.done;
}

made_up : (m : _) (ps : List Part) (is : List Item) (d : ℕ) → Completed ps (make m is) d → Completed (Make m ∷ ps) is d
made_up m ps is d c = record { tokens = c.tokens; script = c.script; good = c.good; first = c.first; done = made m ps is d c.tokens ∙ c.done }

-- ---- words and signs

no_room : (d : ℕ) → d ≤ 63 → nat_le 64 d ≡ false
no_room d le = grind (arith, nat_tests)

one_turned : (y : Fixed) (turn : Turn) (ps : List Part) (is : List Item) (d e : ℕ) → turn_of y ≡ turn → too_deep turn d ≡ false → depth_by turn d ≡ e → Completed ps is e → Completed (One y ∷ ps) is d
one_turned y turn ps is d e is_turn room depth c = record {
  tokens = fixed y ∷ c.tokens;
  script = c.script;
  good = c.good;
  first = (c.tokens, refl);
  done = one_on y ps is d c.tokens
      ∙ ap (λ t. cond (too_deep t d) (Faulty (record { left = length c.tokens + 1; kind = bad.Deep })) (verdict ps is (depth_by t d) c.tokens)) is_turn
      ∙ ap (λ b. cond b (Faulty (record { left = length c.tokens + 1; kind = bad.Deep })) (verdict ps is (depth_by turn d) c.tokens)) room
      ∙ ap (λ n. verdict ps is n c.tokens) depth
      ∙ c.done;
}

one_completed : (y : Fixed) (turn : Turn) (inside : Bool) (ps : List Part) (is : List Item) (d : ℕ) → turn_of y ≡ turn → low_turn inside turn (λ i. low i ps) ≡ true → d ≤ limit inside → ((i : Bool) (e : ℕ) → low i ps ≡ true → e ≤ limit i → Completed ps is e) → Completed (One y ∷ ps) is d
one_completed y Opens true ps is d e h le rest = absurd cc
one_completed y Opens false ps is d e h le rest = one_turned y Opens ps is d (d + 1) e (no_room d le) refl (rest true (d + 1) h (omega (arith, le)))
one_completed y Closes true ps is d e h le rest = one_turned y Closes ps is d (d - 1) e refl refl (rest false (d - 1) h (omega (arith, le)))
one_completed y Closes false ps is d e h le rest = one_turned y Closes ps is d (d - 1) e refl refl (rest false (d - 1) h (omega (arith, le)))
one_completed y Stays inside ps is d e h le rest = one_turned y Stays ps is d d e refl refl (rest inside d h le)

-- ---- expressions and blocks

last_so : (n : ℕ) (p : Part) (a : Ahead) (ts : List Lexeme) → stands_before p a ≡ true → FirstIs a ts → lasts n ts ≡ true
last_so n p Ends ts h f = ap (lasts n) f
last_so n p (Sign y) ts h f = ap (lasts n) f.1
last_so n p Other ts h f = absurd cc

number_read : (ps : List Part) (is : List Item) (d : ℕ) (ts : List Lexeme) → verdict (Level 0 ∷ ps) is d (t.Int 0 ∷ ts) ≡ verdict ps (ATree (tree.Leaf (l.Int 0)) ∷ is) d ts
unfolding verdict
number_read ps is d ts = refl

level_completed : (n : ℕ) (ps : List Part) (is : List Item) (d : ℕ) → stands_before (Level n) (ahead ps) ≡ true → Completed ps (ATree (tree.Leaf (l.Int 0)) ∷ is) d → Completed (Level n ∷ ps) is d
level_completed n ps is d h c = record {
  tokens = t.Int 0 ∷ c.tokens;
  script = c.script;
  good = c.good;
  first = tt;
  done = opens n ps is d (t.Int 0) c.tokens (λ n other. refl) ∙ number_read (runs n ps) is d c.tokens ∙ skip_runs n (n + 1) ps (ATree (tree.Leaf (l.Int 0)) ∷ is) d c.tokens (omega arith) (last_so (n + 1) (Level n) (ahead ps) c.tokens h c.first) ∙ c.done;
}

braces_open : (m : _) (ps : List Part) (is : List Item) (d : ℕ) (ts : List Lexeme) → d ≤ 63 → verdict (Block m ∷ ps) is d (fixed x.OpenCurly ∷ ts) ≡ verdict (Stmts ∷ Make m ∷ One x.CloseCurly ∷ ps) (ABlock tree.Nothing ∷ is) (d + 1) ts
unfolding verdict
braces_open m ps is d ts le = rw (no_room d le) refl

braces_close : (m : _) (ps : List Part) (is : List Item) (d : ℕ) (ts : List Lexeme) → verdict (Stmts ∷ Make m ∷ One x.CloseCurly ∷ ps) is (d + 1) (fixed x.CloseCurly ∷ ts) ≡ verdict ps (make m is) d ts
unfolding verdict
braces_close m ps is d ts = let e : d + 1 - 1 ≡ d = omega arith in ap (λ n. verdict ps (make m is) n ts) e

block_completed : (m : _) (ps : List Part) (is : List Item) (d : ℕ) → d ≤ 63 → Completed ps (make m (ABlock tree.Nothing ∷ is)) d → Completed (Block m ∷ ps) is d
block_completed m ps is d le c = record {
  tokens = fixed x.OpenCurly ∷ fixed x.CloseCurly ∷ c.tokens;
  script = c.script;
  good = c.good;
  first = (fixed x.CloseCurly ∷ c.tokens, refl);
  done = braces_open m ps is d (fixed x.CloseCurly ∷ c.tokens) le ∙ braces_close m ps (ABlock tree.Nothing ∷ is) d c.tokens ∙ c.done;
}

-- ---- every list of parts

open_before : (p : Part) (ps : List Part) → stands_before p (ahead ps) && stands ps ≡ true → (stands_before p (ahead ps) ≡ true) × (stands ps ≡ true)
open_before p ps h = and_parts (stands_before p (ahead ps)) (stands ps) h

inner : (inside : Bool) (b : Bool) → (not inside && b) ≡ true → (inside ≡ false) × (b ≡ true)
inner true b h = absurd cc
inner false b h = (refl, h)

ap_limit : (inside : Bool) (d : ℕ) → inside ≡ false → d ≤ limit inside → d ≤ 63
ap_limit true d e le = absurd cc
ap_limit false d e le = le

pub complete : (ps : List Part) (inside : Bool) (is : List Item) (d : ℕ) → stands ps ≡ true → low inside ps ≡ true → d ≤ limit inside → Completed ps is d
unfolding verdict
complete [] inside is d st lo le = record { tokens = []; script = script_in is; good = refl; first = refl; done = refl }
complete (One y ∷ ps) inside is d st lo le = one_completed y (turn_of y) inside ps is d refl lo le (λ i e lo le. complete ps i is e st lo le)
complete (Name ∷ ps) inside is d st lo le = let c = complete ps inside (AName (97 ∷ []) ∷ is) d st lo le in record { tokens = t.Name (97 ∷ []) ∷ c.tokens; script = c.script; good = c.good; first = tt; done = c.done }
complete (Text ∷ ps) inside is d st lo le = let c = complete ps inside (AText [] ∷ is) d st lo le in record { tokens = t.Text [] ∷ c.tokens; script = c.script; good = c.good; first = tt; done = c.done }
complete (Who ∷ ps) inside is d st lo le = let c = complete ps inside (AWho w.Own ∷ is) d st lo le in record { tokens = fixed x.Own ∷ c.tokens; script = c.script; good = c.good; first = tt; done = c.done }
complete (Over ∷ ps) inside is d st lo le = let c = complete ps inside (AnOver v.Activities ∷ is) d st lo le in record { tokens = fixed x.Activities ∷ c.tokens; script = c.script; good = c.good; first = tt; done = c.done }
complete (KeepWord ∷ ps) inside is d st lo le =
    let c = complete ps inside (make (Keeping keeps.All) is) d st lo le in
    record { tokens = fixed x.All ∷ c.tokens; script = c.script; good = c.good; first = tt; done = made (Keeping keeps.All) ps is d c.tokens ∙ c.done }
complete (Level n ∷ ps) inside is d st lo le = let h = open_before (Level n) ps st in level_completed n ps is d h.0 (complete ps inside (ATree (tree.Leaf (l.Int 0)) ∷ is) d h.1 lo le)
complete (Block m ∷ ps) inside is d st lo le = let i = inner inside (low inside ps) lo in block_completed m ps is d (ap_limit inside d i.0 le) (complete ps inside (make m (ABlock tree.Nothing ∷ is)) d st i.1 le)
complete (Stmt ∷ ps) inside is d st lo le = absurd cc
complete (Make m ∷ ps) inside is d st lo le = made_up m ps is d (complete ps inside (make m is) d st lo le)
complete (More n ∷ ps) inside is d st lo le = let h = open_before (More n) ps st in passed_by (More n) ps is d refl h.0 (complete ps inside is d h.1 lo le)
complete (Stmts ∷ ps) inside is d st lo le = let h = open_before Stmts ps st in passed_by Stmts ps is d refl h.0 (complete ps inside is d h.1 lo le)
complete (MoreIf ∷ ps) inside is d st lo le = let h = open_before MoreIf ps st in passed_by MoreIf ps is d refl h.0 (complete ps inside is d h.1 lo le)
complete (MorePriority ∷ ps) inside is d st lo le = let h = open_before MorePriority ps st in passed_by MorePriority ps is d refl h.0 (complete ps inside is d h.1 lo le)
complete (MoreService ∷ ps) inside is d st lo le = let h = open_before MoreService ps st in passed_by MoreService ps is d refl h.0 (complete ps inside is d h.1 lo le)
complete (MoreFields ∷ ps) inside is d st lo le = let h = open_before MoreFields ps st in passed_by MoreFields ps is d refl h.0 (complete ps inside is d h.1 lo le)
complete (NextField ∷ ps) inside is d st lo le = let h = open_before NextField ps st in passed_by NextField ps is d refl h.0 (complete ps inside is d h.1 lo le)
complete (MoreRepeat ∷ ps) inside is d st lo le = let h = open_before MoreRepeat ps st in passed_by MoreRepeat ps is d refl h.0 (complete ps inside is d h.1 lo le)
complete (MoreKeep ∷ ps) inside is d st lo le = let h = open_before MoreKeep ps st in passed_by MoreKeep ps is d refl h.0 (complete ps inside is d h.1 lo le)
complete (Arguments ∷ ps) inside is d st lo le = let h = open_before Arguments ps st in passed_by Arguments ps is d refl h.0 (complete ps inside is d h.1 lo le)
complete (NextArgument ∷ ps) inside is d st lo le = let h = open_before NextArgument ps st in passed_by NextArgument ps is d refl h.0 (complete ps inside is d h.1 lo le)
complete (MoreResult ∷ ps) inside is d st lo le = let h = open_before MoreResult ps st in passed_by MoreResult ps is d refl h.0 (complete ps inside is d h.1 lo le)
