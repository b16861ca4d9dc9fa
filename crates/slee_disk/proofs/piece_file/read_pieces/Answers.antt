use Rattle.std.proofs.Common.{◌≡◌, ◌+◌, ◌-◌, ◌≤◌, length, arith, length-drop, ap, rules, ◌∙◌}
use borrow.Rule.Slice.PartMut.{put_mid}
use Rattle.std.proofs.lemmas.List.{take_rest}
use Rattle.slee_disk.proofs.PieceFiles.{read_more, read_end, put_rest, put_size, front_as}
use Rattle.slee_disk.proofs.piece_file.read_pieces.Goals as goal

pub returns-then-more-eq0-clause-read : goal.returns-then-more-eq0-clause-read
returns-then-more-eq0-clause-read g c =
    let k = c.loop-count.count in
    let into = c.loop-count.into in
    let front = front_as _ _ _ c.in-Some.place _ _ _ _ c.loop-count.invariant.still (search rules) (take_rest into k) c.in_ok-more.ensures.read in
    read_end _ c.args.at k c.in_ok-more.more c.args.into.now into c.read_piece_again.new.into _ c.loop-count.invariant.read front c.if-more-eq0.true (put_rest k into c.read_piece_again.new.into)

pub loop-count-preserved : goal.loop-count-preserved
loop-count-preserved g c =
    let k = c.loop-count.count in
    let into = c.loop-count.into in
    let piece = c.read_piece_again.new.into in
    let same : length piece ≡ length into - k = omega (arith, c.read_piece_again.auto.into, ap length (take_rest into k), length-drop k into) in
    let size = put_size k into piece c.loop-count.invariant.within same in
    let fits : k + c.in_ok-more.more ≤ length (put_mid k (length into - k) into piece) = omega (arith, size, c.in_ok-more.ensures.count, ap length (take_rest into k), length-drop k into, c.loop-count-test.true) in
    let front = front_as _ _ _ c.in-Some.place _ _ _ _ c.loop-count.invariant.still (search rules) (take_rest into k) c.in_ok-more.ensures.read in
    record {
      within = fits;
      room = size ∙ c.loop-count.invariant.room;
      still = c.in_ok-more.ensures.still ∙ c.loop-count.invariant.still;
      read = read_more _ c.args.at k c.in_ok-more.more c.args.into.now into piece _ c.loop-count.invariant.read front (put_rest k into piece);
    }
