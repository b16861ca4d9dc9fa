use Rattle.std.specs.Io.KnownBytes.{Keeps}
use Rattle.slee_disk.proofs.again.write_again.Given as goal

-- interrupted writes wrote nothing
abbrev pub invariant-tries : goal.invariant-tries
invariant-tries g l = Keeps (g.W.Write.contents l.fn.writer) (g.W.Write.contents l.writer)
