use Rattle.std.proofs.Common.{◌∙◌}
use Rattle.slee_disk.proofs.Moments.{reached_look, tells, on_ok, clean_told, clean_only}
use Rattle.commit_journal.proofs.Opening.{seen_staged, seen_opened, gate_written, images_staged, gate_opening}
use Rattle.commit_journal.proofs.Pending.{beside_write, leaves_look, leaves_more}
use Rattle.commit_journal.proofs.gate.open_gate.Goals as goal

pub returns-in_err-write_at-clause-any_moment : goal.returns-in_err-write_at-clause-any_moment
returns-in_err-write_at-clause-any_moment g c clean =
    let old = g.D.Disk.disk c.args.disk.now in
    let told = clean_told old clean in
    (gate_written c.args.side c.args.at c.args.bytes.now old (c.requires.shut told) (clean_only old clean) _ _ c.write_at.ensures.changes).leaves

pub returns-in_err-sync-clause-any_moment : goal.returns-in_err-sync-clause-any_moment
returns-in_err-sync-clause-any_moment g c clean =
    let old = g.D.Disk.disk c.args.disk.now in
    let told = clean_told old clean in
    let wrote = gate_written c.args.side c.args.at c.args.bytes.now old (c.requires.shut told) (clean_only old clean) _ _ c.write_at.ensures.changes in
    (reached_look _ _ _ _ _ wrote c.sync.ensures.looks).leaves

pub returns-in_err-write_at-2-clause-any_moment : goal.returns-in_err-write_at-2-clause-any_moment
returns-in_err-write_at-2-clause-any_moment g c clean =
    let old = g.D.Disk.disk c.args.disk.now in
    let told = clean_told old clean in
    let ends = c.requires.shut told in
    let only = clean_only old clean in
    let told-1 = tells _ _ c.write_at.ensures.changes.passes.told told in
    let wrote = gate_written c.args.side c.args.at c.args.bytes.now old ends only _ _ c.write_at.ensures.changes in
    let kept = reached_look _ _ _ _ _ wrote c.sync.ensures.looks in
    let staged = images_staged c.args.side c.args.at c.args.bytes.now old ends only _ _ _ wrote (c.in_ok-write_at.ensures.written told) c.sync.ensures.looks (c.in_ok-sync.ensures.durable told-1) in
    (gate_opening c.args.side c.args.at c.args.bytes.now old ends only _ _ _ kept staged c.write_at-2.ensures.changes).leaves

pub returns-clause-any_moment : goal.returns-clause-any_moment
returns-clause-any_moment g c clean =
    let old = g.D.Disk.disk c.args.disk.now in
    let told = clean_told old clean in
    let ends = c.requires.shut told in
    let only = clean_only old clean in
    let told-1 = tells _ _ c.write_at.ensures.changes.passes.told told in
    let wrote = gate_written c.args.side c.args.at c.args.bytes.now old ends only _ _ c.write_at.ensures.changes in
    let kept = reached_look _ _ _ _ _ wrote c.sync.ensures.looks in
    let staged = images_staged c.args.side c.args.at c.args.bytes.now old ends only _ _ _ wrote (c.in_ok-write_at.ensures.written told) c.sync.ensures.looks (c.in_ok-sync.ensures.durable told-1) in
    let opening = gate_opening c.args.side c.args.at c.args.bytes.now old ends only _ _ _ kept staged c.write_at-2.ensures.changes in
    (reached_look _ _ _ _ _ opening c.sync-2.ensures.looks).leaves

pub returns-clause-opened : goal.returns-clause-opened
returns-clause-opened g c told =
    let old = g.D.Disk.disk c.args.disk.now in
    let ends = c.requires.shut told in
    let told-1 = tells _ _ c.write_at.ensures.changes.passes.told told in
    let told-2 = tells _ _ c.sync.ensures.looks.passes.told told-1 in
    let told-3 = tells _ _ c.write_at-2.ensures.changes.passes.told told-2 in
    let staged = seen_staged c.args.side c.args.at c.args.bytes.now old ends _ _ _ (c.in_ok-write_at.ensures.written told) c.sync.ensures.looks in
    let opened = seen_opened c.args.side c.args.at c.args.bytes.now old ends _ _ _ _ staged (c.in_ok-write_at-2.ensures.written told-2) c.sync-2.ensures.looks in
    on_ok c.sync-2.result _ _ (c.sync-2.ensures.settled.here told-3) (λ _. opened)

pub returns-clause-settled : goal.returns-clause-settled
returns-clause-settled g c =
    let until = c.write_at-2.ensures.changes.passes.told ∙ c.sync.ensures.looks.passes.told ∙ c.write_at.ensures.changes.passes.told in
    record {
      here = λ told. c.sync-2.ensures.settled.here (tells _ _ until told);
      there = c.sync-2.ensures.settled.there ∙ c.write_at-2.ensures.changes.settled_there ∙ c.sync.ensures.settled.there ∙ c.write_at.ensures.changes.settled_there;
    }

-- ---- whatever was pending

pub returns-in_err-write_at-clause-stays : goal.returns-in_err-write_at-clause-stays
returns-in_err-write_at-clause-stays g c = beside_write c.args.side _ _ _ _ _ c.write_at.ensures.changes

pub returns-in_err-sync-clause-stays : goal.returns-in_err-sync-clause-stays
returns-in_err-sync-clause-stays g c =
    leaves_more c.args.side 0 _ _ _ (beside_write c.args.side _ _ _ _ _ c.write_at.ensures.changes) (leaves_look c.args.side 0 _ _ _ c.sync.ensures.looks)

pub returns-in_err-write_at-2-clause-stays : goal.returns-in_err-write_at-2-clause-stays
returns-in_err-write_at-2-clause-stays g c =
    let wrote = leaves_more c.args.side 0 _ _ _ (beside_write c.args.side _ _ _ _ _ c.write_at.ensures.changes) (leaves_look c.args.side 0 _ _ _ c.sync.ensures.looks) in
    leaves_more c.args.side 0 _ _ _ wrote (beside_write c.args.side _ _ _ _ _ c.write_at-2.ensures.changes)

pub returns-clause-stays : goal.returns-clause-stays
returns-clause-stays g c =
    let wrote = leaves_more c.args.side 0 _ _ _ (beside_write c.args.side _ _ _ _ _ c.write_at.ensures.changes) (leaves_look c.args.side 0 _ _ _ c.sync.ensures.looks) in
    let opened = leaves_more c.args.side 0 _ _ _ wrote (beside_write c.args.side _ _ _ _ _ c.write_at-2.ensures.changes) in
    leaves_more c.args.side 0 _ _ _ opened (leaves_look c.args.side 0 _ _ _ c.sync-2.ensures.looks)
