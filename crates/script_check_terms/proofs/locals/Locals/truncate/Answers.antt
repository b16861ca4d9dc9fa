use Rattle.script_check_terms.proofs.LocalLemmas.{finds_fewer}
use Rattle.script_check_terms.proofs.locals.Locals.truncate.Goals as goal

pub invariant_of-self : goal.invariant_of-self
invariant_of-self c = rw c.truncate.ensures.items (finds_fewer c.self.inside.places c.self.inside.locals.items c.args.place c.self.invariant)
