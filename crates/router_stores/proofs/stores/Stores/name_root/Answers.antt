-- the name is put in its place
use Rattle.router_state.specs.State.{State}
use Rattle.router_state.specs.declared.rows.RootName.{RootName}
use Rattle.router_state.proofs.AgreeLemmas.{root_name_put}
use Rattle.router_stores.specs.Held.{held_state}
use Rattle.router_stores.proofs.stores.Stores.name_root.Goals as goal

pub returns-clause-state : goal.returns-clause-state
returns-clause-state c =
    let row : RootName = record { entity = c.args.entity; name = c.args.name } in
    let before : State = held_state c.self.inside in
    rw (← c.self.view_is, c.put_row.ensures.rows) (λ i. record before { root_names = root_name_put row c.self.inside.root_names.rows i })
