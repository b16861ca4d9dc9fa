-- each change is made in its room
use Rattle.router_stores.proofs.ChangingLemmas.{state_on, room_first, room_on, can_first, can_on}
use Rattle.router_stores.proofs.changing.change_each.Goals as goal

pub change-requires-clause-room : goal.change-requires-clause-room
change-requires-clause-room c = room_first _ _ _ _ c.in-Some.ensures.steps.0 c.each.invariant.room

pub change-requires-clause-can : goal.change-requires-clause-can
change-requires-clause-can c = can_first _ _ _ _ c.in-Some.ensures.steps.0 c.each.invariant.can

pub each-preserved : goal.each-preserved
each-preserved c =
    let cut = c.in-Some.ensures.steps.0 in record {
      can_next = tt;
      is_finite = tt;
      state = state_on _ _ _ _ _ _ cut c.change.ensures.state c.each.invariant.state;
      room = room_on _ _ _ _ _ cut c.change.ensures.room c.each.invariant.room;
      can = can_on _ _ _ _ _ cut c.change.ensures.state c.each.invariant.can;
    }
