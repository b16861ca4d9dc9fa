use Rattle.std.proofs.Common.{◌≤◌, ◌-◌, length, take}
use Rattle.slee_disk.specs.Pieces.{IsLaid}
use Rattle.slee_disk.proofs.piece_file.write_pieces.Given as goal

-- so many bytes are written
abbrev pub invariant-loop-count : goal.invariant-loop-count
invariant-loop-count g l = record {
  within : l.count ≤ length l.bytes;
  written : IsLaid l.at (take l.count l.bytes) (g.F.PieceFile.content l.fn.file) (g.F.PieceFile.content l.file);
}

abbrev pub decreases-loop-count : goal.decreases-loop-count
decreases-loop-count g l = length l.bytes - l.count
