use Rattle.std.proofs.Common.{◌∙◌}
use Rattle.slee_disk.proofs.Moments.{reached_look, reached_by, tells, on_ok}
use Rattle.commit_journal.proofs.Blanks.{one_look}
use Rattle.commit_journal.proofs.Pending.{leaves_look, leaves_more}
use Rattle.commit_journal.proofs.blank.shut_blank.Goals as goal

pub returns-clause-any_moment : goal.returns-clause-any_moment
returns-clause-any_moment g c clean = (reached_look _ _ _ _ _ (reached_by _ _ _ (c.shut_gate.ensures.any_moment clean)) c.sync.ensures.looks).leaves

pub returns-clause-shut : goal.returns-clause-shut
returns-clause-shut g c told =
    let told-1 = tells _ _ c.shut_gate.ensures.told told in
    on_ok c.sync.result _ _ (c.sync.ensures.settled.here told-1) (λ _. one_look c.args.side _ _ _ _ (c.in_ok-shut_gate.ensures.shut told) c.sync.ensures.looks)

pub returns-clause-settled : goal.returns-clause-settled
returns-clause-settled g c = record {
  here = λ told. c.sync.ensures.settled.here (tells _ _ c.shut_gate.ensures.told told);
  there = c.sync.ensures.settled.there ∙ c.shut_gate.ensures.beside;
}

pub returns-clause-stays : goal.returns-clause-stays
returns-clause-stays g c = leaves_more c.args.side 0 _ _ _ c.shut_gate.ensures.stays (leaves_look c.args.side 0 _ _ _ c.sync.ensures.looks)
