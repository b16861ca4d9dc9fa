use Rattle.std.proofs.Common.{sym}
use Rattle.script_check_terms.proofs.LocalLemmas.{place_found}
use Rattle.script_check_terms.proofs.locals.Locals.place_of.Goals as goal

pub returns : goal.returns
returns c = rw (c.place_kept.ensures, c.kept_for.ensures, c.deref.ensures.value, ← c.self.view_is) (sym (place_found c.self.inside.places c.self.inside.locals.items c.args.name.now c.self.invariant))
