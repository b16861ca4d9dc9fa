-- A disk of which nothing is known.
use Rattle.std.specs.Prelude.{ℕ, false, []}
use Rattle.std.proofs.lemmas.Bool.{false≢true}
use Rattle.slee_disk.specs.Disk.{DiskState}

-- it tells nothing, a crash may leave anything, and it has failed so often
abbrev pub untold : ℕ → DiskState
untold faults = record {
  told = false;
  seen = record { a = []; b = [] };
  images = λ image. Unit {0};
  settled = λ side. false;
  moment = 0;
  since = λ t image. Unit {0};
  faults = faults;
  counts_now = λ t image le now. tt;
  only_now = λ image left. tt;
  at_rest = λ told. absurd (false≢true told);
}
