-- the leaves hold as before, since the keys stay
use Rattle.std.proofs.Common.{sym, ◌∙◌, arith}
use Rattle.std.specs.List.{flat_map}
use Rattle.rows_leaves.specs.Invariant.{leaf_rows}
use Rattle.rows_leaves.proofs.ChangeLemmas.{as_many, rises_as}
use Rattle.rows_leaves.proofs.leaves.Leaves.change_row.Goals as goal

pub returns-clause-rises : goal.returns-clause-rises
returns-clause-rises g c = rises_as g.R.Keyed.key _ _ c.change_in.ensures.keys c.self.invariant.stands.rises

pub invariant_of-self : goal.invariant_of-self
invariant_of-self g c =
    let same = as_many g.R.Keyed.key (flat_map (leaf_rows {Row = g.row.R.Denot}) c.change_in.new.leaves.items) (flat_map (leaf_rows {Row = g.row.R.Denot}) c.self.inside.leaves.items) c.change_in.ensures.keys in
    record {
      stands = record {
        rises = rises_as g.R.Keyed.key _ _ c.change_in.ensures.keys c.self.invariant.stands.rises;
        filled = c.change_in.ensures.filled;
        numbered = c.change_in.ensures.numbered;
        memory = c.change_in.ensures.memory;
        spare = c.self.invariant.stands.spare;
        spare_memory = c.self.invariant.stands.spare_memory;
        outer = omega (arith, c.self.invariant.stands.outer, c.change_in.ensures.len, c.change_in.ensures.capacity);
        inner = omega (arith, c.self.invariant.stands.inner, c.change_in.ensures.len);
        lengths = c.self.invariant.stands.lengths ∙ sym c.change_in.ensures.lengths;
        places = omega (arith, c.self.invariant.stands.places, c.change_in.ensures.len);
        fits = omega (arith, c.self.invariant.stands.fits, same);
      };
      counted = c.self.invariant.counted ∙ sym same;
      spared = omega (arith, c.self.invariant.spared, c.change_in.ensures.len);
      bounded = c.self.invariant.bounded;
    }

pub returns-clause-rows : goal.returns-clause-rows
returns-clause-rows g c = rw (← c.self.view_is) c.change_in.ensures.rows

pub returns-clause-whole : goal.returns-clause-whole
returns-clause-whole g c =
    let same = as_many g.R.Keyed.key (flat_map (leaf_rows {Row = g.row.R.Denot}) c.change_in.new.leaves.items) (flat_map (leaf_rows {Row = g.row.R.Denot}) c.self.inside.leaves.items) c.change_in.ensures.keys in
    rw (← c.self.view_is) (omega (arith, same))
