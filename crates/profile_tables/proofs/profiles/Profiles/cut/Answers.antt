-- the row goes with its entries
use Rattle.std.proofs.Common.{ap, arith, ◌∙◌, length}
use Rattle.std.specs.Prelude.{find, not}
use Rattle.profile_tables.specs.Keeping.{in_byte_order}
use Rattle.profile_tables.specs.declared.numbered.NumberedRow.{NumberedRow}
use Rattle.profile_tables.proofs.FilingLemmas.{filed_cut, key_of, order_cut}
use Rattle.profile_tables.proofs.PutLemmas.{filter_within, old_some, tally_cut}
use Rattle.profile_tables.proofs.UniqueLemmas.{has_key}
use Rattle.profile_tables.proofs.profiles.Profiles.cut.Goals as goal

pub invariant_of-self : goal.invariant_of-self
invariant_of-self c =
    let inside = c.self.inside in
    let k = key_of c.args.table c.args.row.now in
    let items = rw (c.number_of-number.ensures.number, c.as_bytes.ensures.bytes, c.as_bytes-2.ensures.bytes) at c.cut_row.ensures.rows in
    let counts = rw (c.number_of-number.ensures.number, c.as_bytes.ensures.bytes, c.deref.ensures.value) at c.uncount_old.ensures.rows in
    let new = ap length items in
    let most = filter_within (λ (row : NumberedRow). not (has_key k row)) inside.rows.rows in
    record {
      rises = c.cut_row.ensures.rises;
      filed = rw items (filed_cut c.args.table c.args.row.now inside.rows.rows c.self.invariant.filed);
      counted = rw (items, counts) (tally_cut inside.tables.items k inside.rows.rows inside.by_value.rows c.self.invariant.rises c.self.invariant.counted);
      some = rw counts (old_some inside.tables.items (find (has_key k) inside.rows.rows) inside.by_value.rows c.self.invariant.some);
      most = c.self.invariant.most;
      within = omega (arith, new, most, c.self.invariant.within);
      fits = c.self.invariant.fits;
      values = omega (arith, c.self.invariant.values, c.uncount_old.ensures.capacity);
    }

pub returns-clause-rows : goal.returns-clause-rows
returns-clause-rows c =
    let items = rw (c.number_of-number.ensures.number, c.as_bytes.ensures.bytes, c.as_bytes-2.ensures.bytes) at c.cut_row.ensures.rows in
    rw (← c.self.view_is) (ap in_byte_order items ∙ order_cut c.args.table c.args.row.now c.self.inside.rows.rows c.self.invariant.filed)

pub returns-clause-room : goal.returns-clause-room
returns-clause-room c =
    let k = key_of c.args.table c.args.row.now in
    let most = filter_within (λ (row : NumberedRow). not (has_key k row)) c.self.inside.rows.rows in
    let items = rw (c.number_of-number.ensures.number, c.as_bytes.ensures.bytes, c.as_bytes-2.ensures.bytes) at c.cut_row.ensures.rows in
    let new = ap length items in
    rw (← c.self.view_is) (omega (arith, new, most, c.cut_row.ensures.room, c.self.invariant.within))
