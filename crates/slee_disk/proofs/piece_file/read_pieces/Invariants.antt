use Rattle.std.proofs.Common.{◌≡◌, ◌≤◌, ◌-◌, length}
use Rattle.slee_disk.proofs.PieceFiles.{HasReadOf}
use Rattle.slee_disk.proofs.piece_file.read_pieces.Given as goal

-- so many bytes are in the buffer
abbrev pub invariant-loop-count : goal.invariant-loop-count
invariant-loop-count g l = record {
  within : l.count ≤ length l.into;
  room : length l.into ≡ length l.fn.into;
  still : g.F.PieceFile.content l.file ≡ g.F.PieceFile.content l.fn.file;
  read : HasReadOf (g.F.PieceFile.content l.fn.file) l.at l.count l.fn.into l.into;
}

abbrev pub decreases-loop-count : goal.decreases-loop-count
decreases-loop-count g l = length l.initial.into - l.count
