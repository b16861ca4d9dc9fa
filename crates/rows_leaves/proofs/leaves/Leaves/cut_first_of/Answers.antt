-- one row less where one is found, and else the same
use Rattle.std.proofs.Common.{◌≡◌, true, false, None, length, sym, ap, ◌∙◌, arith}
use Rattle.std.specs.Prelude.{◌==◌, is_some}
use Rattle.std.specs.List.{find, flat_map, list_any}
use Rattle.rows_leaves.specs.Invariant.{leaf_rows}
use Rattle.rows_leaves.proofs.FirstLemmas.{any_found, none_goes, one_goes}
use Rattle.rows_leaves.proofs.leaves.Leaves.cut_first_of.Goals as goal

pub invariant_of-self : goal.invariant_of-self
invariant_of-self g c =
    let mine = λ (row : g.row.R.Denot). (g.R.Keyed.key row).first == c.args.first in
    let rows = flat_map (leaf_rows {Row = g.row.R.Denot}) c.self.inside.leaves.items in
    let none : find mine rows ≡ None = sym c.cut_first_from.ensures.row ∙ c.in_err-row.was in
    record {
      stands = c.cut_first_from.ensures.stands;
      counted = c.self.invariant.counted ∙ sym (ap length (c.cut_first_from.ensures.rows ∙ none_goes mine rows none));
      spared = omega (arith, c.self.invariant.spared, c.cut_first_from.ensures.slots);
      bounded = c.self.invariant.bounded;
    }

pub invariant_of-self-2 : goal.invariant_of-self-2
invariant_of-self-2 g c =
    let mine = λ (row : g.row.R.Denot). (g.R.Keyed.key row).first == c.args.first in
    let rows = flat_map (leaf_rows {Row = g.row.R.Denot}) c.self.inside.leaves.items in
    let one = one_goes mine rows c.in_ok-row.row (sym c.cut_first_from.ensures.row ∙ c.in_ok-row.was) in
    record {
      stands = c.cut_first_from.ensures.stands;
      counted = omega (arith, c.self.invariant.counted, one, ap length c.cut_first_from.ensures.rows);
      spared = omega (arith, c.self.invariant.spared, c.cut_first_from.ensures.slots, c.self.invariant.counted, one);
      bounded = omega (arith, c.self.invariant.bounded, c.self.invariant.counted, one);
    }

pub returns-in_err-row-clause-whole : goal.returns-in_err-row-clause-whole
returns-in_err-row-clause-whole g c =
    let mine = λ (row : g.row.R.Denot). (g.R.Keyed.key row).first == c.args.first in
    let rows = flat_map (leaf_rows {Row = g.row.R.Denot}) c.self.inside.leaves.items in
    let none : find mine rows ≡ None = sym c.cut_first_from.ensures.row ∙ c.in_err-row.was in
    let same = ap length (c.cut_first_from.ensures.rows ∙ none_goes mine rows none) in
    rw (← c.self.view_is) (omega (arith, same))

pub returns-clause-whole : goal.returns-clause-whole
returns-clause-whole g c =
    let mine = λ (row : g.row.R.Denot). (g.R.Keyed.key row).first == c.args.first in
    let rows = flat_map (leaf_rows {Row = g.row.R.Denot}) c.self.inside.leaves.items in
    let one = one_goes mine rows c.in_ok-row.row (sym c.cut_first_from.ensures.row ∙ c.in_ok-row.was) in
    let left = ap length c.cut_first_from.ensures.rows in
    rw (← c.self.view_is) (omega (arith, one, left))

pub returns-in_err-row-clause-gives : goal.returns-in_err-row-clause-gives
returns-in_err-row-clause-gives g c = λ there.
    let mine = λ (row : g.row.R.Denot). (g.R.Keyed.key row).first == c.args.first in
    let rows = flat_map (leaf_rows {Row = g.row.R.Denot}) c.self.inside.leaves.items in
    let has : list_any mine rows ≡ true = rw (← c.self.view_is) at there in
    let none : find mine rows ≡ None = sym c.cut_first_from.ensures.row ∙ c.in_err-row.was in
    let wrong : true ≡ false = sym has ∙ any_found mine rows ∙ ap is_some none in
    cc
