use Rattle.slee_disk.specs.Sides.{on}
use Rattle.slee_disk.proofs.Moments.{reached_look, tells, on_ok, clean_told, clean_only}
use Rattle.commit_journal.proofs.Blanks.{IsFirst, close_write, beside_look, seen_not_open, seen_closed}
use Rattle.commit_journal.proofs.Pending.{leaves_look, leaves_more, beside_write}
use Rattle.commit_journal.proofs.blank.close_side.Goals as goal

pub returns-then-first-ne-OPEN_GATE-clause-blank : goal.returns-then-first-ne-OPEN_GATE-clause-blank
returns-then-first-ne-OPEN_GATE-clause-blank g c told =
    let old = g.D.Disk.disk c.args.disk.now in
    let bytes = c.in_ok-read.ensures.bytes told in
    let look : IsFirst (on c.args.side old.seen) c.in_ok-read.field-0 c.read.new.into = record { count_is = bytes.0; first_is = bytes.1 } in
    seen_not_open c.args.side old _ c.read.ensures.looks.seen _ _ look c.if-first-ne-OPEN_GATE.true

pub returns-in_err-write_at-clause-any_moment : goal.returns-in_err-write_at-clause-any_moment
returns-in_err-write_at-clause-any_moment g c clean =
    let old = g.D.Disk.disk c.args.disk.now in
    let bytes = c.in_ok-read.ensures.bytes (clean_told old clean) in
    let look : IsFirst (on c.args.side old.seen) c.in_ok-read.field-0 c.read.new.into = record { count_is = bytes.0; first_is = bytes.1 } in
    (close_write c.args.side old (clean_only old clean) _ _ _ _ c.read.ensures.looks _ _ look c.if-first-ne-OPEN_GATE.false c.write_at.ensures.changes).leaves

pub returns-clause-any_moment : goal.returns-clause-any_moment
returns-clause-any_moment g c clean =
    let old = g.D.Disk.disk c.args.disk.now in
    let bytes = c.in_ok-read.ensures.bytes (clean_told old clean) in
    let look : IsFirst (on c.args.side old.seen) c.in_ok-read.field-0 c.read.new.into = record { count_is = bytes.0; first_is = bytes.1 } in
    let wrote = close_write c.args.side old (clean_only old clean) _ _ _ _ c.read.ensures.looks _ _ look c.if-first-ne-OPEN_GATE.false c.write_at.ensures.changes in
    (reached_look _ _ _ _ _ wrote c.sync.ensures.looks).leaves

pub returns-clause-blank : goal.returns-clause-blank
returns-clause-blank g c told =
    let old = g.D.Disk.disk c.args.disk.now in
    let told-1 = tells _ _ c.read.ensures.looks.passes.told told in
    let told-2 = tells _ _ c.write_at.ensures.changes.passes.told told-1 in
    let closed = seen_closed c.args.side old _ _ c.read.ensures.looks.seen (c.in_ok-write_at.ensures.written told-1) in
    on_ok c.sync.result _ _ (c.sync.ensures.settled.here told-2) (λ _. beside_look c.args.side _ _ _ _ closed c.sync.ensures.looks)

pub returns-in_err-read-clause-stays : goal.returns-in_err-read-clause-stays
returns-in_err-read-clause-stays g c = leaves_look c.args.side 0 _ _ _ c.read.ensures.looks

pub returns-then-first-ne-OPEN_GATE-clause-stays : goal.returns-then-first-ne-OPEN_GATE-clause-stays
returns-then-first-ne-OPEN_GATE-clause-stays g c = leaves_look c.args.side 0 _ _ _ c.read.ensures.looks

pub returns-in_err-write_at-clause-stays : goal.returns-in_err-write_at-clause-stays
returns-in_err-write_at-clause-stays g c =
    leaves_more c.args.side 0 _ _ _ (leaves_look c.args.side 0 _ _ _ c.read.ensures.looks) (beside_write c.args.side _ _ _ _ _ c.write_at.ensures.changes)

pub returns-clause-stays : goal.returns-clause-stays
returns-clause-stays g c =
    let wrote = leaves_more c.args.side 0 _ _ _ (leaves_look c.args.side 0 _ _ _ c.read.ensures.looks) (beside_write c.args.side _ _ _ _ _ c.write_at.ensures.changes) in
    leaves_more c.args.side 0 _ _ _ wrote (leaves_look c.args.side 0 _ _ _ c.sync.ensures.looks)
