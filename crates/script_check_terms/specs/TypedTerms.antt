-- What expressions are made into, as values.
use Rattle.script_check_terms.specs.declared.expression.TypedTerm.{TypedTerm}
use Rattle.script_check_terms.specs.declared.expression.AskedTerm.{AskedTerm}
use Rattle.script_check_terms.specs.declared.leaf.TypedAtom.{TypedAtom}
use Rattle.script_check_terms.specs.declared.query.Asking.{Asking as AskingInMemory}
use Rattle.script_types.specs.Elaboration.{Typed, typed, Asking}
use Rattle.script_types.specs.Program.{Term}
use Rattle.script_types.specs.ProgramOf.{term_of}

abbrev pub typed_of : TypedTerm → Typed
typed_of x = record { kind = x.kind; term = term_of x.term }

abbrev pub asked_term_of : AskedTerm → Term
asked_term_of x = term_of x.term

abbrev pub typed_atom_of : TypedAtom → Typed
typed_atom_of x = typed x.kind x.atom

abbrev pub asking_in : AskingInMemory → Asking
asking_in x = record { kind = x.kind; question = x.question }
