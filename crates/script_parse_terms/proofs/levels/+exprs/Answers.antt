use Rattle.std.proofs.Common.{rules, ◌≡◌, ◌-◌, ℕ, arith, ◌∷◌, [], refl, sym, ap, subst, ◌∙◌}
use Rattle.script_tree.specs.declared.lexeme.Lexeme.TheVariants as t
use Rattle.script_tree.specs.declared.symbol.Symbol.TheVariants as s
use Rattle.script_tree.specs.declared.symbol.Fixed.TheVariants as x
use Rattle.script_tree.specs.Grammar.{Level, More, ATree, again}
use Rattle.script_tree.specs.Spelling.{chain_level}
use Rattle.script_parse_terms.specs.Takes.{Took, fits_at}
use Rattle.script_parse_terms.specs.Levels.{TookOperand, TookChain}
use Rattle.script_tree.specs.declared.tree.Query.{Query}
use Rattle.script_tree.specs.declared.tree.Expr.{Expr}
use Rattle.script_tree.specs.Tree.{Expression, Unary, Binary, Ask, tree_of, binary_of, joined}
use Rattle.script_parse_terms.proofs.Machine.{prim_begun}
use Rattle.script_parse_terms.proofs.Queries.{asked_took}
use Rattle.script_parse_terms.proofs.Operators.{no_prim, refuse_prim, not_five, group_took, group_deep}
use Rattle.script_parse_terms.proofs.Climbing.{plain_operand, prefixed_operand, no_chain, chain_more, chain_ends, climbed, climb_ends}
use Rattle.script_parse_terms.proofs.Chains.{one_joined, joined_last}
use Rattle.script_parse_terms.proofs.levels.+exprs.Goals as goal

pub group-returns : goal.group-returns
group-returns m c =
    let a = tree_of c.in_ok-e.e in
    let b = tree_of c.in_ok-new.field-0.value in
    group_took c.args.depth c.args.ts.now c.args.behind.now c.in_ok-e.rest.now c.in_ok-rest.rest.now a b c.requires.begins (omega arith) c.in_ok-e.ensures c.in_ok-rest.ensures.read (ap tree_of c.in_ok-new.ensures.ok)

pub query-returns : goal.query-returns
query-returns m c =
    subst (λ (x : Query × Expr). Took (Level 0) [] c.args.depth c.args.ts.now (ATree (Ask x.0 (tree_of x.1)) ∷ []) (fits_at 0 c.args.depth (Ask x.0 (tree_of x.1))) c.in_ok-query.rest.now) (sym c.in_ok-new.ensures.ok)
    (asked_took c.args.depth c.args.ts.now c.in_ok-head.inner.now c.in_ok-e.rest.now c.in_ok-query.rest.now c.in_ok-head.head c.in_ok-query.query (tree_of c.in_ok-e.e) c.in_ok-head.ensures c.in_ok-e.ensures c.in_ok-query.ensures)

pub worded-returns-in_default : goal.worded-returns-in_default
worded-returns-in_default m c =
    rw c.unexpected.ensures
    (refuse_prim c.args.depth c.args.word c.args.ts.now c.args.behind.now c.requires.begins
    (no_prim c.args.word c.in_default.not-OpenRound c.in_default.not-Own c.in_default.not-Event c.in_default.not-Masked c.in_default.not-Attr c.in_default.not-Table c.in_default.not-Profile c.in_default.not-HasProfile c.in_default.not-Count c.in_default.not-Priority))

pub worded-field-requires : goal.worded-field-requires
worded-field-requires m c = record { deep = c.requires.deep; begun = prim_begun (t.Symbol (s.Fixed x.Own)) c.args.depth c.args.ts.now c.args.behind.now (c.requires.begins ∙ ap (λ y. t.Symbol (s.Fixed y) ∷ c.args.behind.now) c.in-Own.is) refl refl }

pub worded-event_field-requires : goal.worded-event_field-requires
worded-event_field-requires m c = record { deep = c.requires.deep; begun = prim_begun (t.Symbol (s.Fixed x.Event)) c.args.depth c.args.ts.now c.args.behind.now (c.requires.begins ∙ ap (λ y. t.Symbol (s.Fixed y) ∷ c.args.behind.now) c.in-Event.is) refl refl }

pub worded-table-requires : goal.worded-table-requires
worded-table-requires m c = record { deep = c.requires.deep; begun = prim_begun (t.Symbol (s.Fixed x.Table)) c.args.depth c.args.ts.now c.args.behind.now (c.requires.begins ∙ ap (λ y. t.Symbol (s.Fixed y) ∷ c.args.behind.now) c.in-Table.is) refl refl }

pub worded-count-requires : goal.worded-count-requires
worded-count-requires m c = record { deep = c.requires.deep; begun = prim_begun (t.Symbol (s.Fixed x.Count)) c.args.depth c.args.ts.now c.args.behind.now (c.requires.begins ∙ ap (λ y. t.Symbol (s.Fixed y) ∷ c.args.behind.now) c.in-Count.is) refl refl }

pub worded-priority-requires : goal.worded-priority-requires
worded-priority-requires m c = record { deep = c.requires.deep; begun = prim_begun (t.Symbol (s.Fixed x.Priority)) c.args.depth c.args.ts.now c.args.behind.now (c.requires.begins ∙ ap (λ y. t.Symbol (s.Fixed y) ∷ c.args.behind.now) c.in-Priority.is) refl refl }

pub group-returns-then-depth-eq64 : goal.group-returns-then-depth-eq64
group-returns-then-depth-eq64 m c = rw c.too_deep.ensures (group_deep c.args.depth c.args.ts.now c.args.behind.now c.requires.begins c.if-depth-eq64.true)

pub worded-query-requires : goal.worded-query-requires
worded-query-requires m c = (search rules, (c.requires.deep, prim_begun (t.Symbol (s.Fixed x.Masked)) c.args.depth c.args.ts.now c.args.behind.now (c.requires.begins ∙ ap (λ y. t.Symbol (s.Fixed y) ∷ c.args.behind.now) c.in-Masked.is) refl refl))

pub worded-query-requires-in-Attr : goal.worded-query-requires-in-Attr
worded-query-requires-in-Attr m c = (search rules, (c.requires.deep, prim_begun (t.Symbol (s.Fixed x.Attr)) c.args.depth c.args.ts.now c.args.behind.now (c.requires.begins ∙ ap (λ y. t.Symbol (s.Fixed y) ∷ c.args.behind.now) c.in-Attr.is) refl refl))

pub worded-query-requires-in-Profile : goal.worded-query-requires-in-Profile
worded-query-requires-in-Profile m c = (search rules, (c.requires.deep, prim_begun (t.Symbol (s.Fixed x.Profile)) c.args.depth c.args.ts.now c.args.behind.now (c.requires.begins ∙ ap (λ y. t.Symbol (s.Fixed y) ∷ c.args.behind.now) c.in-Profile.is) refl refl))

pub worded-query-requires-in-HasProfile : goal.worded-query-requires-in-HasProfile
worded-query-requires-in-HasProfile m c = (search rules, (c.requires.deep, prim_begun (t.Symbol (s.Fixed x.HasProfile)) c.args.depth c.args.ts.now c.args.behind.now (c.requires.begins ∙ ap (λ y. t.Symbol (s.Fixed y) ∷ c.args.behind.now) c.in-HasProfile.is) refl refl))

pub first_operand-returns-in_default : goal.first_operand-returns-in_default
first_operand-returns-in_default m c = plain_operand c.args.highest c.args.depth c.args.ts.now c.in_ok-tree.rest.now (tree_of c.in_ok-tree.tree) c.in_default.ensures c.in_ok-tree.ensures

pub first_operand-returns : goal.first_operand-returns
first_operand-returns m c =
    let found = c.in-Some.ensures in
    let a = tree_of c.in_ok-inner.inner in
    let b = tree_of c.in_ok-new.field-0.value in
    let took = subst (λ (n : ℕ). Took (Level (n - 1)) [] c.args.depth c.in-Some.behind.now (ATree a ∷ []) (fits_at (n - 1) c.args.depth a) c.in_ok-inner.rest.now) c.level-own.ensures.level c.in_ok-inner.ensures in
    subst (λ (n : ℕ). TookOperand c.args.highest n c.args.depth c.args.ts.now (Unary c.in-Some.op b) c.in_ok-inner.rest.now) (sym c.level-own.ensures.level)
    (prefixed_operand c.args.highest c.args.depth c.args.ts.now c.in-Some.behind.now c.in_ok-inner.rest.now c.in-Some.op found.1.0 a b found.0 found.1.1 took (ap tree_of c.in_ok-new.ensures.ok))

pub level-levels-preserved : goal.level-levels-preserved
level-levels-preserved m c =
    climbed c.args.highest c.levels.done c.in-Some.next c.args.depth c.args.ts.now c.levels.rest.now c.in_ok-longer.behind.now (tree_of c.levels.tree) (tree_of c.in_ok-longer.longer) c.levels.invariant (sym c.next_level.ensures ∙ c.in-Some.is) c.in_ok-longer.ensures

pub level-returns : goal.level-returns
level-returns m c = climb_ends c.args.highest c.levels.done c.args.depth c.args.ts.now c.levels.rest.now (tree_of c.levels.tree) c.levels.invariant (sym c.next_level.ensures ∙ c.in_default.is)

pub chain-returns-in_default : goal.chain-returns-in_default
chain-returns-in_default m c =
    let n = c.args.level_now in
    let a = tree_of c.args.first in
    chain_ends n c.args.depth c.args.ts.now c.args.ts.now a a (no_chain n c.args.depth c.args.ts.now a) c.in_default.ensures

pub chain-returns-then-level_now-eq-COMPARISON : goal.chain-returns-then-level_now-eq-COMPARISON
chain-returns-then-level_now-eq-COMPARISON m c =
    let n = c.args.level_now in
    let five : n ≡ 5 = c.if-level_now-eq-COMPARISON.true in
    let a = tree_of c.args.first in
    let b = tree_of c.in_ok-right.right in
    let same : tree_of c.joined.result ≡ Binary c.in-Some.op a b = c.joined.ensures ∙ one_joined _ _ _ c.in_ok-binary.ensures.ok c.new-more.ensures.items in
    subst (λ (x : Expression). TookChain [] n n c.args.depth c.args.ts.now a x c.in_ok-right.rest.now) (sym same)
    (chain_more n n c.args.depth [] c.args.ts.now c.args.ts.now c.in-Some.behind.now c.in_ok-right.rest.now c.in-Some.op a a b (no_chain n c.args.depth c.args.ts.now a) c.in-Some.ensures.0 c.in-Some.ensures.1 c.in_ok-right.ensures refl (sym (ap again five)))

pub chain-operators-init : goal.chain-operators-init
chain-operators-init m c =
    let n = c.args.level_now in
    let far = not_five n c.if-level_now-eq-COMPARISON.false in
    let a = tree_of c.args.first in
    let b = tree_of c.in_ok-right.right in
    let same : joined (binary_of c.in_ok-binary.binary.value) c.new-more.result.items ≡ Binary c.in-Some.op a b = one_joined _ _ _ c.in_ok-binary.ensures.ok c.new-more.ensures.items in
    subst (λ (x : Expression). TookChain (More n ∷ []) n (chain_level n) c.args.depth c.args.ts.now a x c.in_ok-right.rest.now) (sym same)
    (chain_more n (chain_level n) c.args.depth (More n ∷ []) c.args.ts.now c.args.ts.now c.in-Some.behind.now c.in_ok-right.rest.now c.in-Some.op a a b (no_chain n c.args.depth c.args.ts.now a) c.in-Some.ensures.0 c.in-Some.ensures.1 c.in_ok-right.ensures far.0 far.1)

pub chain-operators-preserved : goal.chain-operators-preserved
chain-operators-preserved m c =
    let n = c.args.level_now in
    let far = not_five n c.if-level_now-eq-COMPARISON.false in
    let a = tree_of c.args.first in
    let first = binary_of c.in_ok-binary.binary.value in
    let left = joined first c.operators.more.items in
    let b = tree_of c.in_ok-right-2.right in
    let same : joined first c.push.new.self.items ≡ Binary c.in-Some-operator.op left b = ap (joined first) c.in_ok-push.ensures.items ∙ joined_last first c.operators.more.items (c.in-Some-operator.op, c.in_ok-right-2.right) in
    subst (λ (x : Expression). TookChain (More n ∷ []) n (chain_level n) c.args.depth c.args.ts.now a x c.in_ok-right-2.after.now) (sym same)
    (chain_more n (chain_level n) c.args.depth (More n ∷ []) c.args.ts.now c.operators.rest.now c.in-Some-operator.behind.now c.in_ok-right-2.after.now c.in-Some-operator.op a left b c.operators.invariant c.in-Some-operator.ensures.0 c.in-Some-operator.ensures.1 c.in_ok-right-2.ensures far.0 far.1)

pub chain-returns : goal.chain-returns
chain-returns m c =
    let n = c.args.level_now in
    let a = tree_of c.args.first in
    subst (λ (x : Expression). TookChain [] n n c.args.depth c.args.ts.now a x c.operators.rest.now) (sym c.joined-2.ensures)
    (chain_ends n c.args.depth c.args.ts.now c.operators.rest.now a (joined (binary_of c.in_ok-binary.binary.value) c.operators.more.items) c.operators.invariant c.in_default-operator.ensures)
