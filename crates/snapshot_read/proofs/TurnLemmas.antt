-- A turn of a loop over what is left of a list.
use Rattle.std.proofs.Common.{◌≡◌, Bool, true, false, List, [], ◌∷◌, ◌++◌, map, flat_map, refl, sym, ap, ◌∙◌, append_assoc}
use Rattle.std.specs.Prelude.{◌&&◌, Option, filter_map}
use Rattle.std.specs.List.{list_all}
use Rattle.std.proofs.lemmas.List.Elements.{filter_map-append}

-- one more item, made into another, stands after those before
pub map_on : {X Y : Type 0} (f : X → Y) (before after total : List Y) (x : X) (left more : List X) → left ≡ x ∷ more → after ≡ before ++ f x ∷ [] → before ++ map f left ≡ total → after ++ map f more ≡ total
map_on f before after total x left more cut is so_far = rw is (append_assoc before (f x ∷ []) (map f more) ∙ (rw cut at so_far))

-- the same of an item that gives a list
pub flat_on : {X Y : Type 0} (f : X → List Y) (before after total : List Y) (x : X) (left more : List X) → left ≡ x ∷ more → after ≡ before ++ f x → before ++ flat_map f left ≡ total → after ++ flat_map f more ≡ total
flat_on f before after total x left more cut is so_far = rw is (append_assoc before (f x) (flat_map f more) ∙ (rw cut at so_far))

-- the same of an item that may give one
pub filter_on : {X Y : Type 0} (f : X → Option Y) (before after total : List Y) (x : X) (left more : List X) → left ≡ x ∷ more → after ≡ before ++ filter_map f (x ∷ []) → before ++ filter_map f left ≡ total → after ++ filter_map f more ≡ total
filter_on f before after total x left more cut is so_far =
    rw is (append_assoc before (filter_map f (x ∷ [])) (filter_map f more) ∙ ap (λ ys. before ++ ys) (sym (filter_map-append f (x ∷ []) more)) ∙ (rw cut at so_far))

-- a test that fails of what is left fails of all
pub fails_on : {X : Type 0} (p : X → Bool) (all left more : List X) (x : X) → left ≡ x ∷ more → (list_all p left ≡ false → list_all p all ≡ false) → list_all p more ≡ false → list_all p all ≡ false
fails_on p all left more x cut so_far fails = so_far (rw (cut, fails) (both_false (p x)))
  where
    both_false : (b : Bool) → (b && false) ≡ false
    both_false true = refl
    both_false false = refl

-- and so does one that fails of the first item
pub fails_first : {X : Type 0} (p : X → Bool) (all left more : List X) (x : X) → left ≡ x ∷ more → (list_all p left ≡ false → list_all p all ≡ false) → p x ≡ false → list_all p all ≡ false
fails_first p all left more x cut so_far fails = so_far (rw (cut, fails) refl)

-- one more item stands after those before
pub item_on : {X : Type 0} (before after total : List X) (x y : X) (left more : List X) → left ≡ x ∷ more → y ≡ x → after ≡ before ++ y ∷ [] → before ++ left ≡ total → after ++ more ≡ total
item_on before after total x y left more cut same is so_far = rw (is, same) (append_assoc before (x ∷ []) more ∙ (rw cut at so_far))
