-- the ends from the place on change by as much as the number
use Rattle.std.proofs.Common.{◌≡◌, ◌+◌, get_or, ◌∙◌, arith}
use Rattle.std.proofs.lemmas.Grind.{get_or_default_zero}
use Rattle.prefix_sums.proofs.EndLemmas.{end_fits, part_of_end, replaced_ends}
use Rattle.prefix_sums.proofs.LevelLemmas.{lent_back}
use Rattle.prefix_sums.proofs.level.replace_number.Goals as goal

pub replace_ends-requires-clause-part : goal.replace_ends-requires-clause-part
replace_ends-requires-clause-part c = λ n least less.
    let end = rw c.as_slice.ensures.value at c.last_in-end.ensures in
    let was : c.index-before.result.now ≡ get_or c.args.level.now.numbers.items c.args.place 0 = c.index-before.ensures ∙ get_or_default_zero _ _ _ c.requires.within in
    rw c.as_mut_slice.ensures.value (omega (arith, was, part_of_end c.args.level.now.numbers.items c.args.level.now.ends.items c.args.place n c.requires.ends least (omega (arith, less, end)) (omega (arith, less, end))))

pub replace_ends-requires-clause-fits : goal.replace_ends-requires-clause-fits
replace_ends-requires-clause-fits c = λ n least less.
    let end = rw c.as_slice.ensures.value at c.last_in-end.ensures in
    let was : c.index-before.result.now ≡ get_or c.args.level.now.numbers.items c.args.place 0 = c.index-before.ensures ∙ get_or_default_zero _ _ _ c.requires.within in
    rw (c.as_mut_slice.ensures.value, was) (end_fits c.args.level.now.numbers.items c.args.level.now.ends.items c.args.place c.args.now n c.requires.ends least (omega (arith, less, end)) (omega (arith, less, end)) c.requires.fits)

pub returns-clause-ends : goal.returns-clause-ends
returns-clause-ends c =
    let level = c.args.level.now in
    let back = lent_back level.ends.len c.replace_ends.new.ends level.ends.items _ c.as_mut_slice.ensures.value c.replace_ends.ensures.count level.ends.ok.0 in
    let end = rw c.as_slice.ensures.value at c.last_in-end.ensures in
    let was : c.index-before.result.now ≡ get_or c.args.level.now.numbers.items c.args.place 0 = c.index-before.ensures ∙ get_or_default_zero _ _ _ c.requires.within in
    rw back (replaced_ends level.numbers.items level.ends.items c.replace_ends.new.ends c.args.place c.args.now (c.last_in-end.result + 1) c.requires.ends c.requires.within end
    (rw c.as_mut_slice.ensures.value at c.replace_ends.ensures.count)
    (rw (c.as_mut_slice.ensures.value, was) at c.replace_ends.ensures.replaced)
    (rw c.as_mut_slice.ensures.value at c.replace_ends.ensures.ahead)
    (rw c.as_mut_slice.ensures.value at c.replace_ends.ensures.behind))
