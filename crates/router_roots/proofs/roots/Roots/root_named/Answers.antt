-- the named roots under the number of the name lead to the first that has it
use Rattle.std.proofs.Common.{ap, refl, ◌∙◌}
use Rattle.rows_index.specs.Index.{IsIndex}
use Rattle.router_roots.specs.Roots.{name_entry}
use Rattle.router_roots.specs.Views.{RootsView}
use Rattle.router_roots.proofs.FindLemmas.{first_named}
use Rattle.router_roots.proofs.roots.Roots.root_named.Goals as goal

pub returns : goal.returns
returns c =
    let s = c.args.stores.now.state in
    let index : IsIndex name_entry s.root_names c.self.inside.by_name.rows = rw (ap (λ (v : RootsView). v.by_name) c.self.view_is) c.requires.names in
    c.named_among.ensures ∙ (rw (c.rows_of-entries.ensures, c.name_number.ensures, first_named s c.args.service c.args.name.now c.self.inside.by_name.rows c.ordered.ensures.root_names index) refl)
