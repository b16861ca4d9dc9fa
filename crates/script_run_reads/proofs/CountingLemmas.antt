-- Children counted where they stand are as many as their list has.
use Rattle.std.proofs.Common.{◌≡◌, ℕ, ◌+◌, Bool, true, false, not, ◌&&◌, ◌||◌, cond, List, [], ◌∷◌, ◌++◌, length, filter, refl, sym, ap, ◌∙◌, arith}
use Rattle.std.specs.Prelude.{bytes_eq}
use Rattle.slee_effect.specs.declared.reference.Ref.{Ref}
use Rattle.slee_effect.specs.declared.reference.Ref.TheVariants.{Known, Fresh}
use Rattle.slee_effect.specs.declared.effect.Effect.{Effect}
use Rattle.slee_effect.specs.declared.effect.Effect.TheVariants as ef
use Rattle.script_meaning.specs.Overlay.{same_ref, is_removed, removes, entities_by, count_of, overlay, overlay_from, children_after}
use Rattle.script_run_machine.proofs.KeyLemmas.{numbers_turned}
use Rattle.script_run_reads.specs.Counting.{one_if, staying, creates, created}

turned : (a b : Ref) → same_ref a b ≡ same_ref b a
turned (Known m) (Known n) = numbers_turned m n
turned (Fresh m) (Fresh n) = numbers_turned m n
turned (Known m) (Fresh n) = refl
turned (Fresh m) (Known n) = refl

all_stay : (refs : List Ref) → length refs ≡ staying [] refs
all_stay [] = refl
all_stay (r ∷ rs) = let h : length (r ∷ rs) ≡ 1 + staying [] rs = omega (arith, all_stay rs) in h

-- an effect that removes nothing leaves those that stay
same_stay : (x : Effect) (es : List Effect) → ((r : Ref) → removes r x ≡ false) → (refs : List Ref) → staying (x ∷ es) refs ≡ staying es refs
same_stay x es none [] = refl
same_stay x es none (r ∷ rs) = ap (λ (b : Bool). one_if (not (b || is_removed r es)) + staying (x ∷ es) rs) (none r) ∙ ap (λ (n : ℕ). one_if (not (is_removed r es)) + n) (same_stay x es none rs)

one_more : (es : List Effect) (refs : List Ref) (r : Ref) → staying es (refs ++ r ∷ []) ≡ staying es refs + one_if (not (is_removed r es))
one_more es [] r = let h : one_if (not (is_removed r es)) + 0 ≡ 0 + one_if (not (is_removed r es)) = omega arith in h
one_more es (x ∷ xs) r = let h : one_if (not (is_removed x es)) + staying es (xs ++ r ∷ []) ≡ one_if (not (is_removed x es)) + staying es xs + one_if (not (is_removed r es)) = omega (arith, one_more es xs r) in h

created_there : (b : Bool) (es : List Effect) (refs : List Ref) (r : Ref) → staying es (cond b (refs ++ r ∷ []) refs) ≡ staying es refs + one_if (b && not (is_removed r es))
created_there true es refs r = one_more es refs r
created_there false es refs r = let h : staying es refs ≡ staying es refs + 0 = omega arith in h

head_cut : (b : Bool) (es : List Effect) (r : Ref) (rest : List Ref) (n : ℕ) → staying es rest ≡ n → staying es (cond (not b) (r ∷ rest) rest) ≡ one_if (not (b || is_removed r es)) + n
head_cut true es r rest n h = let g : staying es rest ≡ 0 + n = omega (arith, h) in g
head_cut false es r rest n h = ap (λ (k : ℕ). one_if (not (is_removed r es)) + k) h

cut_there : (gone : Ref) (es : List Effect) (refs : List Ref) → staying es (filter (λ r. not (same_ref r gone)) refs) ≡ staying (ef.Remove gone ∷ es) refs
cut_there gone es [] = refl
cut_there gone es (r ∷ rs) =
    head_cut (same_ref r gone) es r (filter (λ r. not (same_ref r gone)) rs) (staying (ef.Remove gone ∷ es) rs) (cut_there gone es rs)
    ∙ ap (λ (b : Bool). one_if (not (b || is_removed r es)) + staying (ef.Remove gone ∷ es) rs) (turned r gone)

-- what one effect does to the count
one_step : (e : Ref) (relation : List ℕ) (n : ℕ) (x : Effect) (es : List Effect) (refs : List Ref) → staying es (children_after e relation n x refs) ≡ staying (x ∷ es) refs + one_if (creates e relation x && not (is_removed (Fresh n) es))
one_step e relation n (ef.Create p q k) es refs = created_there (same_ref p e && bytes_eq q relation) es refs (Fresh n) ∙ ap (λ (m : ℕ). m + one_if ((same_ref p e && bytes_eq q relation) && not (is_removed (Fresh n) es))) (sym (same_stay (ef.Create p q k) es (λ r. refl) refs))
one_step e relation n (ef.Remove gone) es refs = cut_there gone es refs ∙ (let h : staying (ef.Remove gone ∷ es) refs ≡ staying (ef.Remove gone ∷ es) refs + 0 = omega arith in h)
one_step e relation n other es refs = sym (same_stay other es (λ r. refl) refs) ∙ (let h : staying (other ∷ es) refs ≡ staying (other ∷ es) refs + 0 = omega arith in h)

nothing_behind : (es : List Effect) → es ++ [] ≡ es
nothing_behind [] = refl
nothing_behind (x ∷ xs) = ap (λ (ys : List Effect). x ∷ ys) (nothing_behind xs)

all_counted : (e : Ref) (relation : List ℕ) (n : ℕ) (es : List Effect) (refs : List Ref) → length (overlay_from entities_by (children_after e relation) n es refs) ≡ staying es refs + created e relation n es []
all_counted e relation n [] refs = let h : length refs ≡ staying [] refs + 0 = omega (arith, all_stay refs) in h
all_counted e relation n (x ∷ es) refs =
    let rest : length (overlay_from entities_by (children_after e relation) (n + entities_by x) es (children_after e relation n x refs)) ≡ staying es (children_after e relation n x refs) + created e relation (n + entities_by x) es [] = all_counted e relation (n + entities_by x) es (children_after e relation n x refs) in
    let here : one_if (creates e relation x && not (is_removed (Fresh n) (es ++ []))) ≡ one_if (creates e relation x && not (is_removed (Fresh n) es)) = ap (λ (ys : List Effect). one_if (creates e relation x && not (is_removed (Fresh n) ys))) (nothing_behind es) in
    let h : length (overlay_from entities_by (children_after e relation) (n + entities_by x) es (children_after e relation n x refs)) ≡ staying (x ∷ es) refs + (one_if (creates e relation x && not (is_removed (Fresh n) (es ++ []))) + created e relation (n + entities_by x) es []) = omega (arith, rest, here, one_step e relation n x es refs) in
    h

two_lists : (e : Ref) (relation : List ℕ) (n : ℕ) (xs ys : List Effect) → created e relation n (xs ++ ys) [] ≡ created e relation n xs ys + created e relation (n + count_of entities_by xs) ys []
two_lists e relation n [] ys =
    let same : created e relation n ys [] ≡ created e relation (n + 0) ys [] = ap (λ (k : ℕ). created e relation k ys []) (let h : n ≡ n + 0 = omega arith in h) in
    let h : created e relation n ys [] ≡ 0 + created e relation (n + 0) ys [] = omega (arith, same) in
    h
two_lists e relation n (x ∷ xs) ys =
    let rest : created e relation (n + entities_by x) (xs ++ ys) [] ≡ created e relation (n + entities_by x) xs ys + created e relation (n + entities_by x + count_of entities_by xs) ys [] = two_lists e relation (n + entities_by x) xs ys in
    let here : one_if (creates e relation x && not (is_removed (Fresh n) ((xs ++ ys) ++ []))) ≡ one_if (creates e relation x && not (is_removed (Fresh n) (xs ++ ys))) = ap (λ (zs : List Effect). one_if (creates e relation x && not (is_removed (Fresh n) zs))) (nothing_behind (xs ++ ys)) in
    let there : created e relation (n + entities_by x + count_of entities_by xs) ys [] ≡ created e relation (n + (entities_by x + count_of entities_by xs)) ys [] = ap (λ (k : ℕ). created e relation k ys []) (let h : n + entities_by x + count_of entities_by xs ≡ n + (entities_by x + count_of entities_by xs) = omega arith in h) in
    let h : one_if (creates e relation x && not (is_removed (Fresh n) ((xs ++ ys) ++ []))) + created e relation (n + entities_by x) (xs ++ ys) [] ≡ one_if (creates e relation x && not (is_removed (Fresh n) (xs ++ ys))) + created e relation (n + entities_by x) xs ys + created e relation (n + (entities_by x + count_of entities_by xs)) ys [] = omega (arith, rest, here, there) in
    h

-- the children of two lists of effects
pub children_counted : (e : Ref) (relation : List ℕ) (xs ys : List Effect) (refs : List Ref) → length (overlay entities_by (children_after e relation) (xs ++ ys) refs) ≡ staying (xs ++ ys) refs + (created e relation 0 xs ys + created e relation (count_of entities_by xs) ys [])
children_counted e relation xs ys refs =
    let one : length (overlay_from entities_by (children_after e relation) 0 (xs ++ ys) refs) ≡ staying (xs ++ ys) refs + created e relation 0 (xs ++ ys) [] = all_counted e relation 0 (xs ++ ys) refs in
    let none : created e relation (0 + count_of entities_by xs) ys [] ≡ created e relation (count_of entities_by xs) ys [] = ap (λ (k : ℕ). created e relation k ys []) (let h : 0 + count_of entities_by xs ≡ count_of entities_by xs = omega arith in h) in
    let two : created e relation 0 (xs ++ ys) [] ≡ created e relation 0 xs ys + created e relation (count_of entities_by xs) ys [] = two_lists e relation 0 xs ys ∙ ap (λ (k : ℕ). created e relation 0 xs ys + k) none in
    one ∙ ap (λ (n : ℕ). staying (xs ++ ys) refs + n) two
