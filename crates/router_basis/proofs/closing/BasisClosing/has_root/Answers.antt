-- the roots are those of the state
use Rattle.std.proofs.Common.{ap, ◌∙◌}
use Rattle.std.specs.Prelude.{◌&&◌, not}
use Rattle.std.specs.List.{list_any}
use Rattle.router_state.specs.State.{State}
use Rattle.router_state.specs.Trees.{is_root_of}
use Rattle.router_state.specs.declared.rows.Entity.{Entity}
use Rattle.router_laws_closing.specs.Loose.{is_member}
use Rattle.router_basis.proofs.closing.BasisClosing.has_root.Goals as goal

pub returns : goal.returns
returns c =
    c.has_root.ensures c.self.inside.stores.now.state c.self.invariant.roots
    ∙ ap (λ (s : State). list_any (λ (row : Entity). is_root_of c.args.service row.stem && not (is_member c.args.gone.now row.number.0)) s.entities) c.self.view_is
