-- What comes behind a step in memory, as the meaning of scripts sees it.
use Rattle.std.specs.Prelude.{box_value}
use Rattle.script_meaning.specs.Steps.{Flow, Next, Returned}
use Rattle.script_run_steps.specs.declared.flow.Flow.{Flow as FlowInMemory}
use Rattle.script_run_steps.specs.declared.flow.Flow.TheVariants as f

abbrev pub flow_of : FlowInMemory → Flow
flow_of f.Next = Next
flow_of (f.Returned x) = Returned (box_value x)
