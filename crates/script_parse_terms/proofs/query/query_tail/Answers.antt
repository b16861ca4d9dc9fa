use Rattle.std.proofs.Common.{refl}
use Rattle.script_tree.specs.declared.tree.Query.TheVariants as q
use Rattle.script_tree.specs.Grammar.{Asking, AskingMasked, AskingHasProfile}
use Rattle.script_parse_terms.specs.declared.query.QueryHead.TheVariants as h
use Rattle.script_parse_terms.proofs.Queries.{tail_closes}
use Rattle.script_parse_terms.proofs.query.query_tail.Goals as goal

pub returns-in_ok-rest-in-Plain : goal.returns-in_ok-rest-in-Plain
returns-in_ok-rest-in-Plain c = rw c.in-Plain.is (tail_closes _ (h.Plain _) (Asking _) (q.Plain _) _ _ refl refl refl (λ a is. refl) (λ e. refl) c.in_ok-rest-in-Plain.ensures.read)

pub returns-in_ok-rest-in-Masked : goal.returns-in_ok-rest-in-Masked
returns-in_ok-rest-in-Masked c = rw c.in-Masked.is (tail_closes _ (h.Masked _) AskingMasked (q.Masked _) _ _ refl refl refl (λ a is. refl) (λ e. e) c.in_ok-rest-in-Masked.ensures.read)

pub returns-in_ok-rest-in-HasProfile : goal.returns-in_ok-rest-in-HasProfile
returns-in_ok-rest-in-HasProfile c = rw c.in-HasProfile.is (tail_closes _ (h.HasProfile _) AskingHasProfile (q.HasProfile _) _ _ refl refl refl (λ a is. refl) (λ e. e) c.in_ok-rest-in-HasProfile.ensures.read)
