-- a row that is there makes room for the other one of its name, among the rows and among the entries
use Rattle.std.proofs.Common.{◌+◌, ◌*◌, ◌≤◌, ◌≡◌, ap, ◌∙◌, arith, length}
use Rattle.std.specs.Prelude.{◌-◌, find}
use Rattle.rows_index.specs.Tallies.{total}
use Rattle.rows_index.proofs.KeyLemmas.{all_some}
use Rattle.rows_index.proofs.LengthLemmas.{put_as_long}
use Rattle.rows_index.specs.Numbers.{number_of}
use Rattle.profile_tables.specs.Keeping.{in_byte_order, numbered_key}
use Rattle.profile_tables.specs.Unique.{most_of, row_entries, without_old}
use Rattle.profile_tables.specs.declared.numbered.NumberedRow.{NumberedRow}
use Rattle.profile_tables.proofs.FilingLemmas.{filed_put, has_own, order_put}
use Rattle.profile_tables.proofs.PutLemmas.{free_place, old_rises, old_some, put_most, put_within, room_beside, room_for, tally_put}
use Rattle.profile_tables.proofs.UniqueLemmas.{has_key}
use Rattle.profile_tables.proofs.profiles.Profiles.put.Goals as goal

pub count_row-requires-clause-rises : goal.count_row-requires-clause-rises
count_row-requires-clause-rises c =
    let x : NumberedRow = record { number = c.number_of-number.result; item = c.args.item } in
    rw (c.uncount_old.ensures.rows, c.deref.ensures.value) (old_rises c.self.inside.tables.items (find (has_key (numbered_key x)) c.self.inside.rows.rows) c.self.inside.by_value.rows c.self.invariant.counted.rises)

pub count_row-requires-clause-some : goal.count_row-requires-clause-some
count_row-requires-clause-some c =
    let x : NumberedRow = record { number = c.number_of-number.result; item = c.args.item } in
    rw (c.uncount_old.ensures.rows, c.deref.ensures.value) (old_some c.self.inside.tables.items (find (has_key (numbered_key x)) c.self.inside.rows.rows) c.self.inside.by_value.rows c.self.invariant.some)

-- there is a place for the row, and so for its values
pub count_row-requires-clause-fits : goal.count_row-requires-clause-fits
count_row-requires-clause-fits c =
    let inside = c.self.inside in
    let x : NumberedRow = record { number = c.number_of-number.result; item = c.args.item } in
    let number : x.number ≡ number_of x.item.row = c.number_of-number.ensures.number ∙ ap number_of c.as_bytes.ensures.bytes in
    let has = has_own x inside.rows.rows number c.self.invariant.filed in
    let asked = rw (← c.self.view_is, ← has) at c.requires in
    let small = rw c.self.invariant.most at c.self.invariant.fits in
    let counts = room_for inside.tables.items x inside.rows.rows inside.by_value.rows inside.places c.self.invariant.rises c.self.invariant.counted c.self.invariant.within (free_place (has_key (numbered_key x)) inside.rows.rows inside.rows.room inside.places asked) in
    rw (c.uncount_old.ensures.rows, c.unique_of-unique.ensures, c.deref.ensures.value, c.deref-2.ensures.value) (omega (arith, counts, small))

pub count_row-requires-clause-room : goal.count_row-requires-clause-room
count_row-requires-clause-room c =
    let inside = c.self.inside in
    let x : NumberedRow = record { number = c.number_of-number.result; item = c.args.item } in
    let number : x.number ≡ number_of x.item.row = c.number_of-number.ensures.number ∙ ap number_of c.as_bytes.ensures.bytes in
    let has = has_own x inside.rows.rows number c.self.invariant.filed in
    let asked = rw (← c.self.view_is, ← has) at c.requires in
    let values = rw c.self.invariant.most at c.self.invariant.values in
    let counts = room_for inside.tables.items x inside.rows.rows inside.by_value.rows inside.places c.self.invariant.rises c.self.invariant.counted c.self.invariant.within (free_place (has_key (numbered_key x)) inside.rows.rows inside.rows.room inside.places asked) in
    let counted : total c.uncount_old.new.tallies.rows + length c.unique_of-unique.result.now ≤ most_of inside.tables.items * inside.places = rw (c.uncount_old.ensures.rows, c.unique_of-unique.ensures, c.deref.ensures.value, c.deref-2.ensures.value) counts in
    omega (arith, counted, values, c.uncount_old.ensures.capacity)

pub put_row-requires : goal.put_row-requires
put_row-requires c =
    let rows = c.self.inside.rows in
    let x : NumberedRow = record { number = c.number_of-number.result; item = c.args.item } in
    let number : x.number ≡ number_of x.item.row = c.number_of-number.ensures.number ∙ ap number_of c.as_bytes.ensures.bytes in
    let has = has_own x rows.rows number c.self.invariant.filed in
    let asked = rw (← c.self.view_is, ← has) at c.requires in
    room_beside _ rows.room (c.self.inside.places - length rows.rows) asked

pub invariant_of-self : goal.invariant_of-self
invariant_of-self c =
    let inside = c.self.inside in
    let x : NumberedRow = record { number = c.number_of-number.result; item = c.args.item } in
    let number : x.number ≡ number_of x.item.row = c.number_of-number.ensures.number ∙ ap number_of c.as_bytes.ensures.bytes in
    let has = has_own x inside.rows.rows number c.self.invariant.filed in
    let asked = rw (← c.self.view_is, ← has) at c.requires in
    let long = put_within x inside.rows.rows inside.places c.self.invariant.rises c.self.invariant.within (free_place (has_key (numbered_key x)) inside.rows.rows inside.rows.room inside.places asked) in
    let new = ap length c.put_row.ensures.rows in
    let old = find (has_key (numbered_key x)) inside.rows.rows in
    record {
      rises = c.put_row.ensures.rises;
      filed = rw c.put_row.ensures.rows (filed_put x inside.rows.rows number c.self.invariant.rises c.self.invariant.filed);
      counted = rw (c.put_row.ensures.rows, c.count_row.ensures.rows, c.uncount_old.ensures.rows, c.unique_of-unique.ensures, c.as_slice.ensures.fields, c.deref.ensures.value, c.deref-2.ensures.value) (tally_put inside.tables.items x inside.rows.rows inside.by_value.rows c.self.invariant.rises c.self.invariant.counted);
      some = rw (c.count_row.ensures.rows, c.uncount_old.ensures.rows, c.unique_of-unique.ensures, c.as_slice.ensures.fields, c.deref.ensures.value, c.deref-2.ensures.value)
          (all_some (row_entries inside.tables.items x) (without_old inside.tables.items old inside.by_value.rows) (old_some inside.tables.items old inside.by_value.rows c.self.invariant.some));
      most = c.self.invariant.most;
      within = omega (arith, long, new);
      fits = c.self.invariant.fits;
      values = omega (arith, c.self.invariant.values, c.uncount_old.ensures.capacity, c.count_row.ensures.capacity);
    }

pub returns-clause-rows : goal.returns-clause-rows
returns-clause-rows c =
    let x : NumberedRow = record { number = c.number_of-number.result; item = c.args.item } in
    let number : x.number ≡ number_of x.item.row = c.number_of-number.ensures.number ∙ ap number_of c.as_bytes.ensures.bytes in
    rw (← c.self.view_is) (ap in_byte_order c.put_row.ensures.rows ∙ order_put x c.self.inside.rows.rows number c.self.invariant.rises c.self.invariant.filed)

pub returns-clause-room : goal.returns-clause-room
returns-clause-room c =
    let x : NumberedRow = record { number = c.number_of-number.result; item = c.args.item } in
    let new = ap length c.put_row.ensures.rows in
    let most = put_most x c.self.inside.rows.rows c.self.invariant.rises in
    rw (← c.self.view_is) (omega (arith, new, most, c.put_row.ensures.room, c.self.invariant.within))

pub returns-clause-replaced : goal.returns-clause-replaced
returns-clause-replaced c =
    let rows = c.self.inside.rows.rows in
    let x : NumberedRow = record { number = c.number_of-number.result; item = c.args.item } in
    let number : x.number ≡ number_of x.item.row = c.number_of-number.ensures.number ∙ ap number_of c.as_bytes.ensures.bytes in
    rw (← c.self.view_is) (λ has.
    let there = has_own x rows number c.self.invariant.filed ∙ has in
    let room = c.put_row.ensures.replaced there in
    let new = ap length c.put_row.ensures.rows in
    let same = put_as_long numbered_key x rows c.self.invariant.rises there in
    omega (arith, new, same, room, c.self.invariant.within))
