-- What selections give.
use Rattle.std.specs.Prelude.{Option, Some, None}
use Rattle.slee_value.specs.declared.convergence.ConvName.{ConvName}
use Rattle.initial_select.specs.declared.selection.Selection.{Selection}
use Rattle.initial_select.specs.declared.selection.Selection.TheVariants as selections

-- The convergence name that a selection gives, none where the event isn't initial.
abbrev pub named_by : Selection → Option ConvName
named_by selections.NotInitial = None
named_by (selections.Named name) = Some name
