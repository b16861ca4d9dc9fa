use Rattle.router_moves.proofs.RemovingLemmas.{lines_at, rest_at, state_at}
use Rattle.router_moves.proofs.removing.remove_all.Goals as goal

pub members-preserved : goal.members-preserved
members-preserved g c = record {
  state = state_at _ _ _ _ _ c.members-test.true c.in_ok-remove.ensures.state c.members.invariant.state;
  lines = lines_at _ _ _ _ _ _ _ c.members-test.true c.in_ok-remove.ensures.state c.in_ok-remove.ensures.lines c.members.invariant.lines;
  made = c.in_ok-remove.ensures.made;
  can = rest_at _ _ _ _ c.members-test.true c.members.invariant.can c.in_ok-remove.ensures.state;
}
