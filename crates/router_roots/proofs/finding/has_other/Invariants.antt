-- the entries so far are all among the numbers
use Rattle.std.proofs.Common.{◌≡◌, ◌==◌}
use Rattle.std.specs.Prelude.{not}
use Rattle.std.specs.List.{list_any}
use Rattle.rows_index.specs.declared.entry.Entry.{Entry}
use Rattle.router_roots.proofs.finding.has_other.Given as goal

abbrev pub invariant-entries : goal.invariant-entries
invariant-entries l =
    let is_other = λ (entry : Entry). not (list_any (λ e. e == entry.number) l.numbers) in
    list_any is_other l.entry-iterator ≡ list_any is_other l.fn.entries
