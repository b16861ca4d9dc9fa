-- Names as they are kept are those in byte order, and a name that gives way may be cut before.
use Rattle.std.proofs.Common.{◌≡◌, Bool, true, false, List, [], ◌∷◌, ◌++◌, length, refl, ap, ◌∙◌}
use Rattle.std.specs.Prelude.{not}
use Rattle.std.specs.List.{AllByRecursion, filter}
use Rattle.std.specs.List.Sorted.{IsPermutation}
use Rattle.std.specs.Str.{bytes_eq}
use Rattle.std.proofs.lemmas.List.{length-map}
use Rattle.std.proofs.lemmas.List.Sorted.{IsPermutation-sym, length_permutation}
use Rattle.router_state.specs.Contexts.{name_before, without_name}
use Rattle.rows_sorted.specs.Orders.{put}
use Rattle.router_state.specs.declared.rows.Named.{Named}
use Rattle.router_state.specs.Keys.{named_key}
use Rattle.rows_sorted.specs.Keys.{text_key}
use Rattle.rows_sorted.proofs.PartLemmas.{parted_by_key}
use Rattle.rows_index.proofs.RowLemmas.{filter_behind}
use Rattle.activity_context.specs.declared.numbered.NumberedName.{NumberedName}
use Rattle.activity_context.specs.Naming.{as_kept, in_byte_order}
use Rattle.activity_context.proofs.FilingLemmas.{chain, one_way}
use Rattle.rows_index.proofs.SortLemmas.{sorted_same}

-- as many names are kept
pub as_many : (rows : List NumberedName) → length (in_byte_order rows) ≡ length rows
as_many rows = length_permutation (as_kept rows) (in_byte_order rows) (sorted_same name_before one_way chain (as_kept rows)) ∙ length-map rows (λ row. row.named)

-- and the same ones
pub same_names : (rows : List NumberedName) → IsPermutation (in_byte_order rows) (as_kept rows)
same_names rows = IsPermutation-sym (as_kept rows) (in_byte_order rows) (sorted_same name_before one_way chain (as_kept rows))

goes_alone : (b : Bool) → not b ≡ false → b ≡ true
goes_alone true goes = refl
goes_alone false goes = cc

each : {X : Type 0} (P : X → Type 0) → ((x : X) → P x) → (xs : List X) → AllByRecursion P xs
each P all [] = tt
each P all (x ∷ xs) = (all x, each P all xs)

-- the name that gives way may be cut before
pub put_over : (x : Named) (rows : List Named) → put name_before x (without_name rows x.name) ≡ put name_before x rows
put_over x rows =
    let laws = parted_by_key named_key (text_key 0 x.name) in
    let stays = λ (row : Named). not (bytes_eq row.name x.name) in
    let low = λ (row : Named). name_before row x in
    let high = λ (row : Named). name_before x row in
    ap (λ front. front ++ x ∷ filter high (filter stays rows)) (filter_behind low stays rows (each (λ row. stays row ≡ false → low row ≡ false) (λ row goes. laws.mine_not_low row (goes_alone (bytes_eq row.name x.name) goes)) rows))
    ∙ ap (λ back. filter low rows ++ x ∷ back) (filter_behind high stays rows (each (λ row. stays row ≡ false → high row ≡ false) (λ row goes. laws.mine_not_behind row (goes_alone (bytes_eq row.name x.name) goes)) rows))
