-- Lists that are read by place, one thing after another.
use Rattle.std.proofs.Common.{◌≡◌, ℕ, zero, suc, ◌+◌, ◌≤◌, List, [], ◌∷◌, ◌++◌, Bor, Some, length, map, drop, sym, ap, ◌∙◌, arith}
use Rattle.std.specs.Prelude.{flat_map, option_map, slice_get}
use Rattle.std.proofs.lemmas.List.{append-nil, append_assoc, drop_all}
use Rattle.slee_value.specs.declared.ids.ActivityId.{ActivityId}
use Rattle.slee_value.specs.declared.ids.EntityId.{EntityId}
use Rattle.trace_history.specs.Lines.{line_text, line_texts}
use Rattle.router_state.specs.Show.{link_line}
use Rattle.router_state.specs.State.{State}
use Rattle.router_state.specs.declared.rows.Link.{Link}
use Rattle.router_state.specs.declared.rows.Named.{Named}
use Rattle.activity_context.specs.Views.{parts_of_link, parts_of_name}
use Rattle.router_show.specs.Names.{name_seen, names_seen}
use Rattle.router_show.proofs.ShowLemmas.{joined}

-- what is seen of a list from a place on: the thing at that place, and what comes behind it
next_seen : {X Y : Type 0} (see : X → Y) (xs : List X) (n : ℕ) (y : Y) → option_map see (slice_get xs n) ≡ Some y → map see (drop n xs) ≡ y ∷ map see (drop (n + 1) xs)
next_seen see [] n y is = absurd (cc)
next_seen see (x ∷ xs) zero y is = let same : see x ≡ y = cc in ap (λ z. z ∷ map see xs) same
next_seen see (x ∷ xs) (suc n) y is = let next : suc n + 1 ≡ suc (n + 1) = omega arith in rw next (next_seen see xs n y is)

-- the same of the list itself
next_there : {X : Type 0} (xs : List X) (n : ℕ) (x : X) → slice_get xs n ≡ Some x → drop n xs ≡ x ∷ drop (n + 1) xs
next_there [] n x is = absurd (cc)
next_there (y ∷ xs) zero x is = let same : y ≡ x = cc in ap (λ z. z ∷ xs) same
next_there (y ∷ xs) (suc n) x is = let next : suc n + 1 ≡ suc (n + 1) = omega arith in rw next (next_there xs n x is)

-- one name more
pub name_kept : (seen : List (Bor (List ℕ) × ActivityId)) (name : Bor (List ℕ) × ActivityId) (kept : List Named) (n : ℕ) → option_map parts_of_name (slice_get kept n) ≡ Some (name_seen name)
    → names_seen (seen ++ name ∷ []) ++ map parts_of_name (drop (n + 1) kept) ≡ names_seen seen ++ map parts_of_name (drop n kept)
name_kept [] name kept n is = sym (next_seen parts_of_name kept n (name_seen name) is)
name_kept (x ∷ seen) name kept n is = ap (λ more. name_seen x ∷ more) (name_kept seen name kept n is)

-- one thing more
pub next_kept : {X : Type 0} (seen : List (Bor X)) (x : Bor X) (kept : List X) (n : ℕ) → slice_get kept n ≡ Some x.now
    → map (λ b. b.now) (seen ++ x ∷ []) ++ drop (n + 1) kept ≡ map (λ b. b.now) seen ++ drop n kept
next_kept [] x kept n is = sym (next_there kept n x.now is)
next_kept (y ∷ seen) x kept n is = ap (λ more. y.now ∷ more) (next_kept seen x kept n is)

-- nothing is left
pub all_kept : {X Y : Type 0} (see : X → Y) (seen : List Y) (kept : List X) (n : ℕ) → length kept ≤ n → seen ++ map see (drop n kept) ≡ map see kept → seen ≡ map see kept
all_kept see seen kept n past is = sym (append-nil seen) ∙ sym (ap (λ left. seen ++ map see left) (drop_all n kept past)) ∙ is

pub all_there : {X : Type 0} (seen kept : List X) (n : ℕ) → length kept ≤ n → seen ++ drop n kept ≡ kept → seen ≡ kept
all_there seen kept n past is = sym (append-nil seen) ∙ sym (ap (λ left. seen ++ left) (drop_all n kept past)) ∙ is

-- one line more, and those that are left
pub line_more : {X : Type 0} (line : X → List ℕ) (xs : List X) (n : ℕ) (x : X) (before after all : List ℕ) → slice_get xs n ≡ Some x → after ≡ before ++ line_text (line x)
    → before ++ line_texts (map line (drop n xs)) ≡ all → after ++ line_texts (map line (drop (n + 1) xs)) ≡ all
line_more line xs n x before after all is put so_far =
    ap (λ text. text ++ line_texts (map line (drop (n + 1) xs))) put
    ∙ append_assoc before (line_text (line x)) (line_texts (map line (drop (n + 1) xs)))
    ∙ ap (λ left. before ++ line_texts (map line left)) (sym (next_there xs n x is))
    ∙ so_far

-- the lines of one thing more, and those of what is left
pub lines_more : {X : Type 0} (lines : X → List (List ℕ)) (xs : List X) (n : ℕ) (x : X) (before after all : List ℕ) → slice_get xs n ≡ Some x → after ≡ before ++ line_texts (lines x)
    → before ++ line_texts (flat_map lines (drop n xs)) ≡ all → after ++ line_texts (flat_map lines (drop (n + 1) xs)) ≡ all
lines_more lines xs n x before after all is put so_far =
    ap (λ text. text ++ line_texts (flat_map lines (drop (n + 1) xs))) put
    ∙ append_assoc before (line_texts (lines x)) (line_texts (flat_map lines (drop (n + 1) xs)))
    ∙ ap (λ text. before ++ text) (sym (joined (lines x) (flat_map lines (drop (n + 1) xs))))
    ∙ ap (λ left. before ++ line_texts (flat_map lines left)) (sym (next_there xs n x is))
    ∙ so_far

-- the line of one attachment more, and those of the attachments that are left
next_link : (s : State) (links : List Link) (n : ℕ) (parts : EntityId × ActivityId) → option_map parts_of_link (slice_get links n) ≡ Some parts
    → map (link_line s) (drop n links) ≡ link_line s (record { entity = parts.0; activity = parts.1 }) ∷ map (link_line s) (drop (n + 1) links)
next_link s [] n parts is = absurd (cc)
next_link s (x ∷ xs) zero parts is = let same : parts_of_link x ≡ parts = cc in ap (λ (p : EntityId × ActivityId). link_line s (record { entity = p.0; activity = p.1 }) ∷ map (link_line s) xs) same
next_link s (x ∷ xs) (suc n) parts is = let next : suc n + 1 ≡ suc (n + 1) = omega arith in rw next (next_link s xs n parts is)

pub link_more : (s : State) (n : ℕ) (parts : EntityId × ActivityId) (before after all : List ℕ) → option_map parts_of_link (slice_get s.links n) ≡ Some parts
    → after ≡ before ++ line_text (link_line s (record { entity = parts.0; activity = parts.1 }))
    → before ++ line_texts (map (link_line s) (drop n s.links)) ≡ all → after ++ line_texts (map (link_line s) (drop (n + 1) s.links)) ≡ all
link_more s n parts before after all is put so_far =
    ap (λ text. text ++ line_texts (map (link_line s) (drop (n + 1) s.links))) put
    ∙ append_assoc before (line_text (link_line s (record { entity = parts.0; activity = parts.1 }))) (line_texts (map (link_line s) (drop (n + 1) s.links)))
    ∙ ap (λ lines. before ++ line_texts lines) (sym (next_link s s.links n parts is))
    ∙ so_far
