-- the last row's key
use Rattle.std.proofs.Common.{sym, ap, ◌∙◌}
use Rattle.rows_sorted.specs.Keys.{Key}
use Rattle.rows_leaves.proofs.LastLemmas.{last_is}
use Rattle.rows_leaves.proofs.leaf.LeafKeyed.text.Goals as goal

pub returns-in-Some : goal.returns-in-Some
returns-in-Some g c = c.text.ensures ∙ sym (ap (λ (k : Key). k.text) (last_is g.R.Keyed.key c.args.self.now.rows.items c.in-Some.row.now (rw c.deref.ensures.value at c.in-Some.ensures.value)))
