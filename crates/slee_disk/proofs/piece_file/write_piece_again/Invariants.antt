use Rattle.std.proofs.Common.{◌≡◌}
use Rattle.slee_disk.proofs.piece_file.write_piece_again.Given as goal

-- interrupted writes wrote nothing
abbrev pub invariant-tries : goal.invariant-tries
invariant-tries g l = record {
  still : g.F.PieceFile.content l.file ≡ g.F.PieceFile.content l.fn.file;
}
