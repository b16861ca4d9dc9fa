-- none of the entities of the entries before this one is such a root
use Rattle.std.proofs.Common.{◌≡◌, ◌==◌, ℕ, find}
use Rattle.router_state.specs.declared.rows.RootName.{RootName}
use Rattle.rows_index.specs.Found.{first_found}
use Rattle.router_steps.specs.Selection.{is_root_named}
use Rattle.router_roots.proofs.finding.named_among.Given as goal

abbrev pub invariant-entries : goal.invariant-entries
invariant-entries l =
    let at_number = λ (n : ℕ). find (λ (row : RootName). row.entity.0 == n) l.stores.state.root_names in
    let passes = is_root_named l.stores.state l.service l.name in
    first_found at_number passes l.entry-iterator ≡ first_found at_number passes l.fn.entries
