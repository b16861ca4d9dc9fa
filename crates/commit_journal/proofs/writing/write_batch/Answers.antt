use Rattle.std.proofs.Common.{sym, subst, take}
use Rattle.slee_disk.specs.declared.side.Side.{Side}
use Rattle.slee_disk.specs.Sides.{on, other}
use Rattle.slee_disk.proofs.Moments.{leaves_what, on_ok, clean_told}
use Rattle.commit_journal.specs.Gate.{IsShutOrOpen, IsOpened}
use Rattle.commit_journal.specs.Kept.{KeepsOrMore}
use Rattle.commit_journal.proofs.Opening.{clean_again}
use Rattle.commit_journal.proofs.Writes.{keeps_either, stands_more, opened_here}
use Rattle.commit_journal.proofs.writing.write_batch.Goals as goal

pub returns-clause-acknowledged : goal.returns-clause-acknowledged
returns-clause-acknowledged g c kept same told stands =
    let seen = (g.D.Disk.disk c.args.disk.now).seen in
    let new = (g.D.Disk.disk c.open_gate.new.disk).seen in
    let behind = c.behind.result.now in
    on_ok c.open_gate.result _ _ (c.open_gate.ensures.opened told) (λ opened.
    stands_more kept c.args.at seen stands c.args.batch.now behind new c.behind.ensures.fits (c.behind.ensures.behind c.requires.some)
    (subst (λ (s : Side). IsOpened s (take c.args.at (on s seen)) behind (on (other s) seen) new) (sym same) opened))

pub returns-clause-any_moment : goal.returns-clause-any_moment
returns-clause-any_moment g c kept same clean stands =
    let seen = (g.D.Disk.disk c.args.disk.now).seen in
    let behind = c.behind.result.now in
    leaves_what _ _ _ (KeepsOrMore kept c.args.batch.now) (c.open_gate.ensures.any_moment clean) (λ image image_is.
    keeps_either kept c.args.at seen stands c.args.batch.now behind image c.behind.ensures.fits (c.behind.ensures.behind c.requires.some)
    (subst (λ (s : Side). IsShutOrOpen s (take c.args.at (on s seen)) behind (on (other s) seen) image) (sym same) image_is))

pub returns-clause-written : goal.returns-clause-written
returns-clause-written g c kept same told stands =
    let seen = (g.D.Disk.disk c.args.disk.now).seen in
    let new = (g.D.Disk.disk c.open_gate.new.disk).seen in
    let behind = c.behind.result.now in
    on_ok c.open_gate.result _ _ (c.open_gate.ensures.opened told) (λ opened.
    let here = subst (λ (s : Side). IsOpened s (take c.args.at (on s seen)) behind (on (other s) seen) new) (sym same) opened in
    opened_here kept c.args.at seen stands c.args.batch.now behind (on kept.side new) (c.behind.ensures.behind c.requires.some) here.here)

pub returns-clause-beside : goal.returns-clause-beside
returns-clause-beside g c told = on_ok c.open_gate.result _ _ (c.open_gate.ensures.opened told) (λ opened. opened.elsewhere)

pub returns-clause-rest : goal.returns-clause-rest
returns-clause-rest g c clean =
    let old = g.D.Disk.disk c.args.disk.now in
    let settled = c.open_gate.ensures.settled in
    on_ok c.open_gate.result _ _ (settled.here (clean_told old clean)) (λ here. clean_again c.args.side old (g.D.Disk.disk c.open_gate.new.disk) clean c.open_gate.ensures.told here settled.there)
