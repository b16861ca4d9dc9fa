-- One of several changes.
use Rattle.std.proofs.Common.{◌≡◌, ◌+◌, List, ◌∷◌, subst, arith}
use Rattle.router_state.specs.State.{State}
use Rattle.router_state.specs.declared.change.Change.{Change}
use Rattle.router_state.specs.Changes.{after_change, after_changes}
use Rattle.router_stores.specs.Making.{CanMake, CanMakeAll}
use Rattle.router_stores.specs.Views.{FallsBy, HasRoom, StoresView, width, widths}
use Rattle.router_stores.proofs.RoomLemmas.{less_room}

pub state_on : (left rest : List Change) (c : Change) (s next end : State) → left ≡ c ∷ rest → next ≡ after_change c s → after_changes left s ≡ end → after_changes rest next ≡ end
state_on left rest c s next end cut is so = rw is (subst (λ (cs : List Change). after_changes cs s ≡ end) cut so)

pub room_first : (left rest : List Change) (c : Change) (s : StoresView) → left ≡ c ∷ rest → HasRoom (widths left) s → HasRoom (width c) s
room_first left rest c s cut has = less_room (width c) (width c + widths rest) s (omega arith) (subst (λ (cs : List Change). HasRoom (widths cs) s) cut has)

pub room_on : (left rest : List Change) (c : Change) (s next : StoresView) → left ≡ c ∷ rest → FallsBy (width c) s next → HasRoom (widths left) s → HasRoom (widths rest) next
room_on left rest c s next cut falls has = falls.left (widths rest) (less_room (widths rest + width c) (width c + widths rest) s (omega arith) (subst (λ (cs : List Change). HasRoom (widths cs) s) cut has))

pub can_first : (left rest : List Change) (c : Change) (s : State) → left ≡ c ∷ rest → CanMakeAll left s → CanMake c s
can_first left rest c s cut can = (subst (λ (cs : List Change). CanMakeAll cs s) cut can).0

pub can_on : (left rest : List Change) (c : Change) (s next : State) → left ≡ c ∷ rest → next ≡ after_change c s → CanMakeAll left s → CanMakeAll rest next
can_on left rest c s next cut is can = rw is (subst (λ (cs : List Change). CanMakeAll cs s) cut can).1
