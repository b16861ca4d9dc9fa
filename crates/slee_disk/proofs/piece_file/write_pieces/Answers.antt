use Rattle.std.proofs.Common.{length, take, arith, length-drop, ap, rules}
use Rattle.std.proofs.lemmas.List.{take_rest}
use Rattle.slee_disk.proofs.PieceFiles.{laid_more, laid_as}
use Rattle.slee_disk.proofs.piece_file.write_pieces.Goals as goal

pub loop-count-preserved : goal.loop-count-preserved
loop-count-preserved g c = record {
  within = omega (arith, c.in_ok-more.ensures.count, ap length (take_rest c.args.bytes.now c.loop-count.count), length-drop c.loop-count.count c.args.bytes.now);
  written = laid_more c.args.at c.loop-count.count c.in_ok-more.more c.args.bytes.now _ _ _ c.loop-count.invariant.within c.loop-count.invariant.written
      (laid_as _ c.in-Some.place _ _ _ _ (search rules) (ap (take c.in_ok-more.more) (take_rest c.args.bytes.now c.loop-count.count)) c.in_ok-more.ensures.written);
}
