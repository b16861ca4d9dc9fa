-- a full leaf with no such row is split, for which there is a spare one
use Rattle.std.proofs.Common.{◌≡◌, Bool, true, false, vec_len, sym, ap, subst, ◌∙◌, arith}
use Rattle.std.specs.Prelude.{nat_lt, not, ◌||◌}
use Rattle.std.proofs.lemmas.Bool.Decides.{nat_tests}
use Rattle.rows_sorted.specs.Keys.{Rises}
use Rattle.rows_sorted.proofs.OrderLemmas.{put_rises}
use Rattle.rows_leaves.specs.Invariant.{leaf_rows}
use Rattle.rows_leaves.proofs.JoinLemmas.{any_in_leaf, leaf_rises}
use Rattle.rows_leaves.proofs.putting.put_in.Goals as goal

neither : (a b : Bool) → (a || b) ≡ false → b ≡ false
neither true b fails = cc
neither false b fails = fails

pub takes-requires : goal.takes-requires
takes-requires g c =
    let belongs = rw c.as_slice.ensures.value at c.in-Some.ensures in
    leaf_rises g.R.Keyed.key (leaf_rows {Row = g.row.R.Denot}) c.args.leaves.now.items c.in-Some.place c.index.result.now belongs.within c.index.ensures c.requires.stands.rises

pub split_at-requires-clause-room : goal.split_at-requires-clause-room
split_at-requires-clause-room g c =
    let belongs = rw c.as_slice.ensures.value at c.in-Some.ensures in
    let same = any_in_leaf g.R.Keyed.key (leaf_rows {Row = g.row.R.Denot}) (g.R.Keyed.key c.args.row) c.args.leaves.now.items c.in-Some.place c.index.result.now belongs.within c.index.ensures belongs.low belongs.high in
    let none = neither _ _ (sym c.takes.ensures ∙ c.if-takes.false) in
    let room : nat_lt 0 (vec_len c.args.spares.now) ≡ true = rw (same ∙ none) at c.requires.room in
    grind (arith, nat_tests)

pub returns-else-takes-clause-added : goal.returns-else-takes-clause-added
returns-else-takes-clause-added g c =
    let belongs = rw c.as_slice.ensures.value at c.in-Some.ensures in
    let same = any_in_leaf g.R.Keyed.key (leaf_rows {Row = g.row.R.Denot}) (g.R.Keyed.key c.args.row) c.args.leaves.now.items c.in-Some.place c.index.result.now belongs.within c.index.ensures belongs.low belongs.high in
    ap not (sym (same ∙ neither _ _ (sym c.takes.ensures ∙ c.if-takes.false)))

pub returns-then-takes-clause-stands : goal.returns-then-takes-clause-stands
returns-then-takes-clause-stands g c = record {
  rises = subst (Rises g.R.Keyed.key) (sym c.put_at.ensures.rows) (put_rises g.R.Keyed.key c.args.row _ c.requires.stands.rises);
  filled = c.put_at.ensures.filled;
  numbered = c.put_at.ensures.numbered;
  memory = c.put_at.ensures.memory;
  spare = c.requires.stands.spare;
  spare_memory = c.requires.stands.spare_memory;
  outer = omega (arith, c.requires.stands.outer, c.put_at.ensures.len, c.put_at.ensures.capacity);
  inner = omega (arith, c.requires.stands.inner, c.put_at.ensures.len);
  lengths = c.put_at.ensures.lengths;
  places = omega (arith, c.requires.stands.places, c.put_at.ensures.len, c.put_at.ensures.places);
  fits = rw c.put_at.ensures.rows c.requires.fits;
}
