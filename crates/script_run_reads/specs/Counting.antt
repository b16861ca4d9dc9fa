-- How many children stand behind effects, counted where they stand.
use Rattle.std.specs.Prelude.{ℕ, pos, ◌+◌, Bool, true, false, not, ◌&&◌, List, [], ◌∷◌, ◌++◌, length, bytes_eq}
use Rattle.slee_effect.specs.declared.reference.Ref.{Ref}
use Rattle.slee_effect.specs.declared.reference.Ref.TheVariants.{Fresh}
use Rattle.slee_effect.specs.declared.effect.Effect.{Effect}
use Rattle.slee_effect.specs.declared.effect.Effect.TheVariants as ef
use Rattle.slee_effect.specs.declared.value.Val.{Val}
use Rattle.script_meaning.specs.Values.{int}
use Rattle.script_meaning.specs.Running.{Setting, Run, ◌>>=◌, give}
use Rattle.script_meaning.specs.Observing as read
use Rattle.script_meaning.specs.Overlay.{same_ref, is_removed, entities_by}

abbrev pub one_if : Bool → ℕ
one_if true = 1
one_if false = 0

-- how many of these no effect removes
abbrev pub staying : List Effect → List Ref → ℕ
staying es [] = 0
staying es (r ∷ rs) = one_if (not (is_removed r es)) + staying es rs

-- whether an effect creates a child of the relation
abbrev pub creates : Ref → List ℕ → Effect → Bool
creates e relation (ef.Create parent other priority) = same_ref parent e && bytes_eq other relation
creates e relation other = false

-- how many children effects create, before which so many entities were made, that neither later ones nor those behind remove
abbrev pub created : Ref → List ℕ → ℕ → List Effect → List Effect → ℕ
created e relation n [] behind = 0
created e relation n (x ∷ xs) behind = one_if (creates e relation x && not (is_removed (Fresh n) (xs ++ behind))) + created e relation (n + entities_by x) xs behind

-- how many children of the relation there are
abbrev pub count_children : Setting → List ℕ → Run Val
count_children s relation = do
  refs ← read.children s relation
  give (int (pos (length refs)))
