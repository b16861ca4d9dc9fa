-- One of several changes, made in the roots.
use Rattle.std.proofs.Common.{◌≡◌, ℕ, ◌+◌, ◌≤◌, List, ◌∷◌, sym, subst, arith}
use Rattle.router_state.specs.State.{State}
use Rattle.router_state.specs.declared.change.Change.{Change}
use Rattle.router_roots.specs.Roots.{AreRootsOf}
use Rattle.router_roots.specs.Room.{added, all_added}
use Rattle.router_roots.specs.Views.{RootsView}

pub added_first : (left rest : List Change) (c : Change) (room : ℕ) → left ≡ c ∷ rest → all_added left ≤ room → added c ≤ room
added_first left rest c room cut has = let both : added c + all_added rest ≤ room = subst (λ (cs : List Change). all_added cs ≤ room) cut has in omega (arith, both)

pub added_on : (left rest : List Change) (c : Change) (room next : ℕ) → left ≡ c ∷ rest → room ≤ next + added c → all_added left ≤ room → all_added rest ≤ next
added_on left rest c room next cut falls has = let both : added c + all_added rest ≤ room = subst (λ (cs : List Change). all_added cs ≤ room) cut has in omega (arith, both, falls)

pub roots_on : (s next : State) (roots : RootsView) → next ≡ s → AreRootsOf s roots → AreRootsOf next roots
roots_on s next roots is listed = subst (λ (t : State). AreRootsOf t roots) (sym is) listed
