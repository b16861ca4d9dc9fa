-- a row that is looked at tells on which side the place is
use Rattle.std.proofs.Common.{arith, sym, ◌∙◌}
use Rattle.rows_sorted.specs.Keys.{Key}
use Rattle.rows_sorted.specs.Borders.{is_ahead}
use Rattle.rows_sorted.proofs.SearchLemmas.{behind_front, front_fits, in_front}
use Rattle.rows_sorted.proofs.searching.count_ahead.Goals as goal
use Rattle.rows_sorted.proofs.searching.count_ahead.Goals.{then-is_ahead, else-is_ahead}

pub parts-init : goal.parts-init
parts-init g c = record { lowest = omega arith; highest = front_fits _ c.args.rows.now; within = omega arith; from = λ _. omega arith; to = c.first_place-place.ensures }

pub parts-preserved : goal.parts-preserved
parts-preserved g c =
    let key : Key = record { first = c.args.first; second = c.args.second; text = c.args.text.now } in
    let inside = c.parts.invariant.to c.parts-test.true in
    let length_of = c.parts.invariant.within in
    elim c.if-is_ahead.branch [
      | then-is_ahead w ↦
          let more = in_front g.R.Keyed.key c.args.border key c.args.rows.now c.requires c.parts.place c.index-rows-place.result (omega (arith, inside, length_of)) (sym c.index-rows-place.is) (sym c.is_ahead.ensures ∙ w.if-is_ahead.true) in
          rw (w.low-is, w.high-is, w.place-is) (record { lowest = omega (arith, more); highest = c.parts.invariant.highest; within = c.parts.invariant.within; from = λ _. w.place_above-place.ensures.lowest; to = w.place_above-place.ensures.within })
      | else-is_ahead w ↦
          let fewer = behind_front (λ row. is_ahead c.args.border key (g.R.Keyed.key row)) c.args.rows.now c.parts.place c.index-rows-place.result (omega (arith, inside, length_of)) (sym c.index-rows-place.is) (sym c.is_ahead.ensures ∙ w.if-is_ahead.false) in
          rw (w.low-is, w.high-is, w.place-is) (record { lowest = c.parts.invariant.lowest; highest = fewer; within = omega (arith, inside, length_of); from = w.place_below-place.ensures.lowest; to = w.place_below-place.ensures.within })
    ]
