-- What a chain of operators is as a value when it is made or grows.
use Rattle.std.proofs.Common.{◌≡◌, ◌++◌, List, [], ◌∷◌, Vec, Box, Global, refl, sym, ap, ◌∙◌}
use Rattle.script_types.specs.declared.term.Joint.{Joint}
use Rattle.script_types.specs.declared.checked_term.Term.{Term as TermInMemory, Chain}
use Rattle.script_types.specs.Program.{Term, Combine}
use Rattle.script_types.specs.ProgramOf.{term_of, combine_of, combined}
use Rattle.script_types.proofs.ProgramRows.{chain_term, combined_last}

pub pair_term : (box : Box (TermInMemory × Joint × TermInMemory) Global) (v : Vec (Joint × TermInMemory) Global) (one other : TermInMemory) (op : Joint) → box.value ≡ (one, op, other) → v.items ≡ [] → term_of (Chain box v) ≡ Combine op (term_of one) (term_of other)
pair_term box v one other op h e = chain_term box v ∙ ap (combined (combine_of box.value)) e ∙ ap combine_of h

pub chain_grown : (box : Box (TermInMemory × Joint × TermInMemory) Global) (v w : Vec (Joint × TermInMemory) Global) (other : TermInMemory) (op : Joint) → w.items ≡ v.items ++ (op, other) ∷ [] → term_of (Chain box w) ≡ Combine op (term_of (Chain box v)) (term_of other)
chain_grown box v w other op e =
    chain_term box w ∙ ap (combined (combine_of box.value)) e ∙ combined_last (combine_of box.value) v.items (op, other)
    ∙ ap (λ x. Combine op x (term_of other)) (sym (chain_term box v))
