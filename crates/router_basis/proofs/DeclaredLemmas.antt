-- Attributes are looked for in one block after another.
use Rattle.std.proofs.Common.{◌≡◌, ◌+◌, ◌<◌, ◌++◌, ◌∙◌, ℕ, List, ◌∷◌, Option, Some, None, drop, flat_map, get_or, length, sym, ap}
use Rattle.std.specs.Prelude.{option_map}
use Rattle.std.specs.Option.{option_or}
use Rattle.std.specs.Str.{bytes_eq}
use Rattle.std.proofs.lemmas.List.{drop_more}
use Rattle.std.proofs.lemmas.List.Folds.{find-append}
use Rattle.script_types.specs.Codes.{named}
use Rattle.script_types.specs.declared.codes.AttributeCode.{AttributeCode}
use Rattle.script_types.specs.declared.codes.BlockCode.{BlockCode}

-- the attributes of blocks
abbrev pub attributes_of : List BlockCode → List AttributeCode
attributes_of blocks = flat_map (λ (b : BlockCode). b.attributes) blocks

-- the attribute of this key
abbrev pub keyed : List ℕ → List AttributeCode → Option AttributeCode
keyed key xs = named (λ (a : AttributeCode). a.key) key xs

of_both : (key : List ℕ) (xs ys : List AttributeCode) → keyed key (xs ++ ys) ≡ option_or (keyed key xs) (keyed key ys)
of_both key xs ys = find-append (λ (a : AttributeCode). bytes_eq a.key key) xs ys

-- the blocks from a place on
from_place : (blocks : List BlockCode) (i : ℕ) (b : BlockCode) → i < length blocks → b ≡ get_or blocks i b → drop i blocks ≡ b ∷ drop (i + 1) blocks
from_place blocks i b within is = drop_more blocks i b within ∙ ap (λ (x : BlockCode). x ∷ drop (i + 1) blocks) (sym is)

here_or_behind : (blocks : List BlockCode) (i : ℕ) (b : BlockCode) (key : List ℕ) → i < length blocks → b ≡ get_or blocks i b
    → keyed key (attributes_of (drop i blocks)) ≡ option_or (keyed key b.attributes) (keyed key (attributes_of (drop (i + 1) blocks)))
here_or_behind blocks i b key within is = ap (λ (bs : List BlockCode). keyed key (attributes_of bs)) (from_place blocks i b within is) ∙ of_both key b.attributes (attributes_of (drop (i + 1) blocks))

-- what is found in this block is found among all
pub found_here : (blocks : List BlockCode) (i : ℕ) (b : BlockCode) (key : List ℕ) (a : AttributeCode) (whole : Option AttributeCode) → i < length blocks → b ≡ get_or blocks i b → Some a ≡ keyed key b.attributes
    → keyed key (attributes_of (drop i blocks)) ≡ whole → Some a.kind ≡ option_map (λ (x : AttributeCode). x.kind) whole
found_here blocks i b key a whole within is found so =
    ap (option_map (λ (x : AttributeCode). x.kind)) (ap (λ (o : Option AttributeCode). option_or o (keyed key (attributes_of (drop (i + 1) blocks)))) found ∙ sym (here_or_behind blocks i b key within is) ∙ so)

-- what isn't found in this block is found behind it or nowhere
pub found_behind : (blocks : List BlockCode) (i : ℕ) (b : BlockCode) (key : List ℕ) (whole : Option AttributeCode) → i < length blocks → b ≡ get_or blocks i b → None ≡ keyed key b.attributes
    → keyed key (attributes_of (drop i blocks)) ≡ whole → keyed key (attributes_of (drop (i + 1) blocks)) ≡ whole
found_behind blocks i b key whole within is none so =
    ap (λ (o : Option AttributeCode). option_or o (keyed key (attributes_of (drop (i + 1) blocks)))) none ∙ sym (here_or_behind blocks i b key within is) ∙ so
