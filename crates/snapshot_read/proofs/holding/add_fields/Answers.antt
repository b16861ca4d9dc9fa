use Rattle.std.proofs.Common.{ap, ◌∙◌, List, ℕ, ◌++◌, ◌∷◌, []}
use Rattle.std.specs.List.{list_all}
use Rattle.std.proofs.lemmas.Result.{err_from_is_err_and}
use Rattle.slee_value.specs.Name.{is_name}
use Rattle.slee_value.specs.declared.value.Value.{Value}
use Rattle.snapshot_read.proofs.HeldLemmas.{refused}
use Rattle.snapshot_read.proofs.TurnLemmas.{map_on, fails_on, fails_first}
use Rattle.snapshot_read.proofs.holding.add_fields.Invariants.{field_of}
use Rattle.snapshot_read.proofs.holding.add_fields.Goals as goal

pub returns-in_err-name : goal.returns-in_err-name
returns-in_err-name c =
    let p = err_from_is_err_and c.from_residual.result c.from_residual.ensures.1 in
    rw (p.1, p.2) (refused ((λ (f : List ℕ × Value). is_name f.0) c.in-Some.pair) (list_all (λ (f : List ℕ × Value). is_name f.0) c.args.pairs.items) c.in_err-name.field-0.0 (fails_first (λ (f : List ℕ × Value). is_name f.0) c.args.pairs.items _ _ _ c.in-Some.ensures.steps.0 c.pairs.invariant.fails) c.in_err-name.ensures.held)

pub pairs-preserved : goal.pairs-preserved
pairs-preserved c =
    let cut = c.in-Some.ensures.steps.0 in
    record {
      can_next = tt;
      is_finite = tt;
      rows = map_on (field_of c.args.entity) _ _ _ _ _ _ cut (c.in_ok-push.ensures.items ∙ ap (λ (f : List ℕ × Value). c.pairs.fields.items ++ field_of c.args.entity f ∷ []) c.in_ok-name.ensures.held) c.pairs.invariant.rows;
      fails = fails_on (λ (f : List ℕ × Value). is_name f.0) c.args.pairs.items _ _ _ cut c.pairs.invariant.fails;
    }
