-- at the end no leaf has a row of the share
use Rattle.std.proofs.Common.{◌≡◌, Option, Some, None, refl, sym, ◌∙◌}
use Rattle.std.specs.Prelude.{MatchOption}
use Rattle.std.specs.List.{find, flat_map}
use Rattle.rows_leaves.specs.Invariant.{leaf_rows}
use Rattle.rows_leaves.specs.Shares.{is_in}
use Rattle.rows_leaves.proofs.FirstLemmas.{all_left}
use Rattle.rows_leaves.proofs.cutting.cut_share.Goals as goal

no_place : {X : Type 0} (o : Option X) → ((x : X) → o ≡ Some x → ⊥) → o ≡ None
no_place None other = refl
no_place (Some x) other = absurd (other x refl)

in_none : {X : Type 0} (N : Type 0) (S : X → Type 0) (o : Option X) → o ≡ None → MatchOption o N S → N
in_none N S o is case = rw is at case

pub returns-clause-rows : goal.returns-clause-rows
returns-clause-rows g c =
    let mine = λ (row : g.row.R.Denot). is_in c.args.share (g.R.Keyed.key row) in
    let now = flat_map (leaf_rows {Row = g.row.R.Denot}) c.cuts.leaves.items in
    let case = rw c.as_slice.ensures.value at c.leaf_with.ensures in
    let none : find mine now ≡ None = in_none _ _ c.leaf_with.result (no_place c.leaf_with.result (λ place is. c.in_default.not-Some place is)) case in
    sym (all_left mine now none) ∙ c.cuts.invariant.rows
