use Rattle.std.proofs.Common.{List, ℕ}
use Rattle.std.specs.List.{list_all}
use Rattle.std.proofs.lemmas.Result.{err_from_is_err_and}
use Rattle.slee_value.specs.Name.{is_name}
use Rattle.slee_value.specs.declared.value.Value.{Value}
use Rattle.snapshot_read.proofs.HeldLemmas.{refused}
use Rattle.snapshot_read.proofs.NameLemmas.{named_more}
use Rattle.snapshot_read.proofs.TurnLemmas.{item_on, fails_on, fails_first}
use Rattle.snapshot_read.proofs.holding.named_values.Goals as goal

pub returns-in_err-field_of-clause-held : goal.returns-in_err-field_of-clause-held
returns-in_err-field_of-clause-held c =
    let p = err_from_is_err_and c.from_residual-in_err-field_of.result c.from_residual-in_err-field_of.ensures.1 in
    rw (p.1, p.2) (refused ((λ (f : List ℕ × Value). is_name f.0) c.in-Some.pair) (list_all (λ (f : List ℕ × Value). is_name f.0) c.args.pairs.items) c.in_err-field_of.field-0.0 (fails_first (λ (f : List ℕ × Value). is_name f.0) c.args.pairs.items _ _ _ c.in-Some.ensures.steps.0 c.pairs.invariant.fails) c.in_err-field_of.ensures.held)

pub pairs-preserved : goal.pairs-preserved
pairs-preserved c =
    let cut = c.in-Some.ensures.steps.0 in
    record {
      can_next = tt;
      is_finite = tt;
      named = named_more _ _ _ c.in_ok-push.ensures.items c.pairs.invariant.named c.in_ok-field_of.ensures.named;
      rows = item_on _ _ _ _ _ _ _ cut c.in_ok-field_of.ensures.held c.in_ok-push.ensures.items c.pairs.invariant.rows;
      fails = fails_on (λ (f : List ℕ × Value). is_name f.0) c.args.pairs.items _ _ _ cut c.pairs.invariant.fails;
    }
