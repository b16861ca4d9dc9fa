use Rattle.std.proofs.Common.{◌+◌, ◌++◌, take, rules, arith, length-append, length-take}
use Rattle.std.proofs.KnownBytes.{Consumes-trans}
use Rattle.slee_disk.proofs.reading.read_whole.Goals as goal

pub returns-in_default-extend_from_slice-clause-taken : goal.returns-in_default-extend_from_slice-clause-taken
returns-in_default-extend_from_slice-clause-taken g c =
    let piece = take c.in-Ok.count c.read.new.into in
    (c.pieces.bytes.items ++ piece, search (rules, length-append), Consumes-trans _ _ _ _ _ c.pieces.invariant.read c.in-Ok.ensures.bytes.0)

pub returns-in_default-extend_from_slice-clause-memory : goal.returns-in_default-extend_from_slice-clause-memory
returns-in_default-extend_from_slice-clause-memory g c is =
    let piece = take c.in-Ok.count c.read.new.into in
    (c.pieces.bytes.items ++ piece, omega (arith, length-append c.pieces.bytes.items piece, length-take c.in-Ok.count c.read.new.into, c.in-Ok.ensures.bound, c.if-count-eq0.false), omega (arith, length-append c.pieces.bytes.items piece, length-take c.in-Ok.count c.read.new.into, c.in-Ok.ensures.bound, c.if-count-limit.false), Consumes-trans _ _ _ _ _ c.pieces.invariant.read c.in-Ok.ensures.bytes.0)

pub returns-then-count-limit-clause-taken : goal.returns-then-count-limit-clause-taken
returns-then-count-limit-clause-taken g c =
    let piece = take c.in-Ok.count c.read.new.into in
    (c.pieces.bytes.items ++ piece, (let h = c.in-Ok.ensures.bound in let k = c.min-room.ensures in let m = c.if-count-limit.true in omega (arith, length-append c.pieces.bytes.items piece, length-take c.in-Ok.count c.read.new.into, length-take (c.min-room.result + 1) c.pieces.chunk, h, k, m)), Consumes-trans _ _ _ _ _ c.pieces.invariant.read c.in-Ok.ensures.bytes.0)

pub returns-then-count-limit-clause-stopped : goal.returns-then-count-limit-clause-stopped
returns-then-count-limit-clause-stopped g c is =
    let piece = take c.in-Ok.count c.read.new.into in
    (c.pieces.bytes.items ++ piece, (let h = c.in-Ok.ensures.bound in let k = c.min-room.ensures in let m = c.if-count-limit.true in omega (arith, length-append c.pieces.bytes.items piece, length-take c.in-Ok.count c.read.new.into, length-take (c.min-room.result + 1) c.pieces.chunk, h, k, m)), Consumes-trans _ _ _ _ _ c.pieces.invariant.read c.in-Ok.ensures.bytes.0)
