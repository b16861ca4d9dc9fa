use Rattle.std.proofs.Common.{◌<◌, ◌≤◌, length, arith}
use Rattle.slee_disk.specs.Sides.{on}
use Rattle.slee_disk.proofs.Moments.{reached_look, tells, on_ok, clean_told, clean_only}
use Rattle.commit_journal.proofs.Blanks.{blank_start, blank_cut, blank_write, one_cut}
use Rattle.commit_journal.proofs.Pending.{beside_cut, beside_write, leaves_look, leaves_more}
use Rattle.commit_journal.proofs.blank.shut_gate.Goals as goal

pub returns-then-length-gt1-clause-any_moment : goal.returns-then-length-gt1-clause-any_moment
returns-then-length-gt1-clause-any_moment g c clean =
    let old = g.D.Disk.disk c.args.disk.now in
    let told = clean_told old clean in
    let only = clean_only old clean in
    let long : 1 < length (on c.args.side old.seen) = omega (arith, c.in_ok-length.ensures.length told, c.if-length-gt1.true) in
    let start = reached_look _ _ _ _ _ (blank_start c.args.side old (c.requires told) only) c.len.ensures.looks in
    (blank_cut c.args.side old (c.requires told) only _ _ _ start (λ image now. only image (c.len.ensures.looks.images image now)) long c.cut.ensures.changes).leaves

pub returns-then-length-gt1-clause-shut : goal.returns-then-length-gt1-clause-shut
returns-then-length-gt1-clause-shut g c told =
    let old = g.D.Disk.disk c.args.disk.now in
    let long : 1 < length (on c.args.side old.seen) = omega (arith, c.in_ok-length.ensures.length told, c.if-length-gt1.true) in
    on_ok c.cut.result _ _ (c.cut.ensures.cut (tells _ _ c.len.ensures.looks.passes.told told)) (λ done. one_cut c.args.side old (c.requires told) _ _ c.len.ensures.looks.seen long done)

pub returns-then-first-eq-OPEN_GATE-clause-any_moment : goal.returns-then-first-eq-OPEN_GATE-clause-any_moment
returns-then-first-eq-OPEN_GATE-clause-any_moment g c clean =
    let old = g.D.Disk.disk c.args.disk.now in
    let told = clean_told old clean in
    let only = clean_only old clean in
    let short : length (on c.args.side old.seen) ≤ 1 = omega (arith, c.in_ok-length.ensures.length told, c.if-length-gt1.false) in
    let start = reached_look _ _ _ _ _ (reached_look _ _ _ _ _ (blank_start c.args.side old (c.requires told) only) c.len.ensures.looks) c.read.ensures.looks in
    (blank_write c.args.side old (c.requires told) only _ _ _ start (λ image now. only image (c.len.ensures.looks.images image (c.read.ensures.looks.images image now))) short c.write_at.ensures.changes).leaves

pub returns-in_err-read-clause-any_moment : goal.returns-in_err-read-clause-any_moment
returns-in_err-read-clause-any_moment g c clean =
    let old = g.D.Disk.disk c.args.disk.now in
    (reached_look _ _ _ _ _ (reached_look _ _ _ _ _ (blank_start c.args.side old (c.requires (clean_told old clean)) (clean_only old clean)) c.len.ensures.looks) c.read.ensures.looks).leaves

pub returns-clause-any_moment : goal.returns-clause-any_moment
returns-clause-any_moment g c clean =
    let old = g.D.Disk.disk c.args.disk.now in
    (reached_look _ _ _ _ _ (reached_look _ _ _ _ _ (blank_start c.args.side old (c.requires (clean_told old clean)) (clean_only old clean)) c.len.ensures.looks) c.read.ensures.looks).leaves

-- ---- whatever was pending

pub returns-in_err-length-clause-stays : goal.returns-in_err-length-clause-stays
returns-in_err-length-clause-stays g c = leaves_look c.args.side 0 _ _ _ c.len.ensures.looks

pub returns-then-length-gt1-clause-stays : goal.returns-then-length-gt1-clause-stays
returns-then-length-gt1-clause-stays g c =
    leaves_more c.args.side 0 _ _ _ (leaves_look c.args.side 0 _ _ _ c.len.ensures.looks) (beside_cut c.args.side _ _ _ _ c.cut.ensures.changes)

pub returns-in_err-read-clause-stays : goal.returns-in_err-read-clause-stays
returns-in_err-read-clause-stays g c =
    leaves_more c.args.side 0 _ _ _ (leaves_look c.args.side 0 _ _ _ c.len.ensures.looks) (leaves_look c.args.side 0 _ _ _ c.read.ensures.looks)

pub returns-then-first-eq-OPEN_GATE-clause-stays : goal.returns-then-first-eq-OPEN_GATE-clause-stays
returns-then-first-eq-OPEN_GATE-clause-stays g c =
    let looked = leaves_more c.args.side 0 _ _ _ (leaves_look c.args.side 0 _ _ _ c.len.ensures.looks) (leaves_look c.args.side 0 _ _ _ c.read.ensures.looks) in
    leaves_more c.args.side 0 _ _ _ looked (beside_write c.args.side _ _ _ _ _ c.write_at.ensures.changes)

pub returns-clause-stays : goal.returns-clause-stays
returns-clause-stays g c =
    leaves_more c.args.side 0 _ _ _ (leaves_look c.args.side 0 _ _ _ c.len.ensures.looks) (leaves_look c.args.side 0 _ _ _ c.read.ensures.looks)
