-- one row more comes to the end
use Rattle.std.proofs.Common.{length, arith, ap, refl, sym, subst, Bool}
use Rattle.std.specs.Prelude.{IsTrue}
use Rattle.rows_sorted.specs.Keys.{key_before}
use Rattle.rows_sorted.specs.Orders.{rises_by}
use Rattle.router_state.specs.declared.rows.RootName.{RootName}
use Rattle.router_state.specs.Keys.{root_name_key}
use Rattle.snapshot_stores.proofs.FillLemmas.{turn}
use Rattle.snapshot_stores.proofs.OrderedLemmas.{root_names}
use Rattle.snapshot_stores.proofs.flat.root_names_of.Goals as goal

pub rows-preserved : goal.rows-preserved
rows-preserved c =
    let cut = c.in-Some.ensures.steps.0 in
    let count = ap length cut in
    record {
      can_next = tt;
      is_finite = tt;
      rows = turn root_name_key (λ x y. key_before (root_name_key x) (root_name_key y)) refl _ _ _ _ _ _ (subst (λ (b : RootName → RootName → Bool). IsTrue (rises_by b c.args.rows.items)) (sym root_names) c.requires) cut c.put_row.ensures.rows c.rows.invariant.rows;
      room = omega (arith, count, c.rows.invariant.room, c.put_row.ensures.room);
    }
