-- each change is made in its room, in both
use Rattle.router_stores.proofs.ChangingLemmas.{state_on, room_first, room_on, can_first, can_on}
use Rattle.router_roots.proofs.BothLemmas.{added_first, added_on, roots_on}
use Rattle.router_roots.proofs.changing.change_both.Goals as goal

pub change-requires-clause-room : goal.change-requires-clause-room
change-requires-clause-room c = added_first _ _ _ _ c.in-Some.ensures.steps.0 c.each.invariant.roots_room

pub change-requires-in-each-clause-room : goal.change-requires-in-each-clause-room
change-requires-in-each-clause-room c = room_first _ _ _ _ c.in-Some.ensures.steps.0 c.each.invariant.room

pub change-requires-in-each-clause-can : goal.change-requires-in-each-clause-can
change-requires-in-each-clause-can c = can_first _ _ _ _ c.in-Some.ensures.steps.0 c.each.invariant.can

pub each-preserved : goal.each-preserved
each-preserved c =
    let cut = c.in-Some.ensures.steps.0 in record {
      can_next = tt;
      is_finite = tt;
      state = state_on _ _ _ _ _ _ cut c.change-in-each.ensures.state c.each.invariant.state;
      room = room_on _ _ _ _ _ cut c.change-in-each.ensures.room c.each.invariant.room;
      roots_room = added_on _ _ _ _ _ cut c.change.ensures.room c.each.invariant.roots_room;
      can = can_on _ _ _ _ _ cut c.change-in-each.ensures.state c.each.invariant.can;
      roots = roots_on _ _ c.change.new.self c.change-in-each.ensures.state c.change.ensures.roots;
    }
