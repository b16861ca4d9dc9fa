use Rattle.std.proofs.Common.{ℕ, List, Option, sym, ap, ◌∙◌}
use Rattle.std.specs.Prelude.{◌||◌}
use Rattle.router_draft.specs.Touched.{is_it, is_listed}
use Rattle.router_draft.specs.declared.changes.Touched.{Touched}
use Rattle.router_draft.proofs.TouchLemmas.{listed_more}
use Rattle.router_draft.proofs.changes.list_number.Goals as goal

pub returns-in-Some : goal.returns-in-Some
returns-in-Some c = λ n.
    ap (λ (rows : List Touched). is_listed rows n) c.put_row.ensures.rows ∙ listed_more n c.in-Some.number c.args.rows.now.rows
    ∙ ap (λ (o : Option ℕ). is_it n o || is_listed c.args.rows.now.rows n) (sym c.in-Some.is)
