use Rattle.std.proofs.Common.{◌≡◌, length, IfSome}
use Rattle.slee_disk.proofs.piece_file.read_piece_again.Given as goal

-- interrupted reads changed nothing
abbrev pub invariant-tries : goal.invariant-tries
invariant-tries g l = record {
  room : length l.into ≡ length l.fn.into;
  still : g.F.PieceFile.content l.file ≡ g.F.PieceFile.content l.fn.file;
  kept : IfSome (g.F.PieceFile.content l.fn.file) (λ _. l.into ≡ l.fn.into);
}
