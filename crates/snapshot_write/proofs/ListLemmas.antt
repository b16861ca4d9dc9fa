-- Lists that are written one thing after another.
use Rattle.std.proofs.Common.{◌≡◌, ℕ, zero, suc, ◌+◌, List, [], ◌∷◌, ◌++◌, Some, drop, map, length, refl, sym, ap, ◌∙◌, arith}
use Rattle.std.specs.Prelude.{flat_map, option_map, slice_get}
use Rattle.std.proofs.lemmas.List.{append_assoc}
use Rattle.slee_value.specs.Bytes.{spelled_u64}
use Rattle.slee_value.specs.declared.ids.ActivityId.{ActivityId}
use Rattle.slee_value.specs.declared.ids.EntityId.{EntityId}
use Rattle.activity_context.specs.Views.{parts_of_link}
use Rattle.router_state.specs.Snapshot.{listed, spelled_link}
use Rattle.router_state.specs.State.{State}
use Rattle.router_state.specs.declared.rows.Link.{Link}

-- what stands from a place on: the thing at that place, and what comes after it
next_there : {X : Type 0} (xs : List X) (n : ℕ) (x : X) → slice_get xs n ≡ Some x → drop n xs ≡ x ∷ drop (n + 1) xs
next_there [] n x is = absurd (cc)
next_there (y ∷ xs) zero x is = let same : y ≡ x = cc in ap (λ z. z ∷ xs) same
next_there (y ∷ xs) (suc n) x is = let next : suc n + 1 ≡ suc (n + 1) = omega arith in rw next (next_there xs n x is)

-- the bytes of one thing more, and those of what is left
pub bytes_more : {X : Type 0} (spelled : X → List ℕ) (xs : List X) (n : ℕ) (x : X) (before after all : List ℕ) → slice_get xs n ≡ Some x → after ≡ before ++ spelled x
    → before ++ flat_map spelled (drop n xs) ≡ all → after ++ flat_map spelled (drop (n + 1) xs) ≡ all
bytes_more spelled xs n x before after all is put so_far =
    ap (λ bytes. bytes ++ flat_map spelled (drop (n + 1) xs)) put
    ∙ append_assoc before (spelled x) (flat_map spelled (drop (n + 1) xs))
    ∙ ap (λ left. before ++ flat_map spelled left) (sym (next_there xs n x is))
    ∙ so_far

-- the same of an attachment that is read in parts
pub link_more : (s : State) (links : List Link) (n : ℕ) (parts : EntityId × ActivityId) (before after all : List ℕ) → option_map parts_of_link (slice_get links n) ≡ Some parts
    → after ≡ before ++ spelled_link s (record { entity = parts.0; activity = parts.1 })
    → before ++ flat_map (spelled_link s) (drop n links) ≡ all → after ++ flat_map (spelled_link s) (drop (n + 1) links) ≡ all
link_more s links n parts before after all is put so_far =
    ap (λ bytes. bytes ++ flat_map (spelled_link s) (drop (n + 1) links)) put
    ∙ append_assoc before (spelled_link s (record { entity = parts.0; activity = parts.1 })) (flat_map (spelled_link s) (drop (n + 1) links))
    ∙ ap (λ bytes. before ++ bytes) (sym (next_link s links n parts is))
    ∙ so_far
  where
    next_link : (s : State) (links : List Link) (n : ℕ) (parts : EntityId × ActivityId) → option_map parts_of_link (slice_get links n) ≡ Some parts
        → flat_map (spelled_link s) (drop n links) ≡ spelled_link s (record { entity = parts.0; activity = parts.1 }) ++ flat_map (spelled_link s) (drop (n + 1) links)
    next_link s [] n parts is = absurd (cc)
    next_link s (x ∷ xs) zero parts is = let same : parts_of_link x ≡ parts = cc in ap (λ (p : EntityId × ActivityId). spelled_link s (record { entity = p.0; activity = p.1 }) ++ flat_map (spelled_link s) xs) same
    next_link s (x ∷ xs) (suc n) parts is = let next : suc n + 1 ≡ suc (n + 1) = omega arith in rw next (next_link s xs n parts is)

-- things that are written as they are seen
each_seen : {X Y : Type 0} (spelled : Y → List ℕ) (see : X → Y) (xs : List X) → flat_map (λ x. spelled (see x)) xs ≡ flat_map spelled (map see xs)
each_seen spelled see [] = refl
each_seen spelled see (x ∷ xs) = ap (λ more. spelled (see x) ++ more) (each_seen spelled see xs)

all_seen : {X Y : Type 0} (see : X → Y) (xs : List X) → length xs ≡ length (map see xs)
all_seen see [] = refl
all_seen see (x ∷ xs) = ap (λ n. suc n) (all_seen see xs)

pub listed_seen : {X Y : Type 0} (spelled : Y → List ℕ) (see : X → Y) (xs : List X) → listed (λ x. spelled (see x)) xs ≡ listed spelled (map see xs)
listed_seen spelled see xs = ap (λ n. spelled_u64 n ++ flat_map (λ x. spelled (see x)) xs) (all_seen see xs) ∙ ap (λ bytes. spelled_u64 (length (map see xs)) ++ bytes) (each_seen spelled see xs)

-- parts that are written one after another, two to six of them
pub two_put : (start a b x y : List ℕ) → x ≡ start ++ a → y ≡ x ++ b → y ≡ start ++ (a ++ b)
two_put start a b x y one two = two ∙ ap (λ z. z ++ b) one ∙ append_assoc start a b

pub three_put : (start a b c x y z : List ℕ) → x ≡ start ++ a → y ≡ x ++ b → z ≡ y ++ c → z ≡ start ++ (a ++ (b ++ c))
three_put start a b c x y z one two three = two_put start a (b ++ c) x z one (two_put x b c y z two three)

pub four_put : (start a b c d w x y z : List ℕ) → w ≡ start ++ a → x ≡ w ++ b → y ≡ x ++ c → z ≡ y ++ d → z ≡ start ++ (a ++ (b ++ (c ++ d)))
four_put start a b c d w x y z one two three four = two_put start a (b ++ (c ++ d)) w z one (three_put w b c d x y z two three four)

pub six_put : (start a b c d e f u v w x y z : List ℕ) → u ≡ start ++ a → v ≡ u ++ b → w ≡ v ++ c → x ≡ w ++ d → y ≡ x ++ e → z ≡ y ++ f → z ≡ start ++ (a ++ (b ++ (c ++ (d ++ (e ++ f)))))
six_put start a b c d e f u v w x y z one two three four five six =
    two_put start a (b ++ (c ++ (d ++ (e ++ f)))) u z one (two_put u b (c ++ (d ++ (e ++ f))) v z two (four_put v c d e f w x y z three four five six))
