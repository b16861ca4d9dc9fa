use Rattle.std.proofs.Common.{◌∷◌, ap, ◌∙◌, refl}
use Rattle.script_tree.specs.declared.lexeme.Lexeme.TheVariants as t
use Rattle.script_tree.specs.declared.symbol.Symbol.TheVariants as s
use Rattle.script_tree.specs.declared.symbol.Fixed.TheVariants as x
use Rattle.script_parse_terms.proofs.Machine.{stmt_begun}
use Rattle.script_parse.proofs.Dispatch.{no_stmt, refuse_stmt}
use Rattle.script_parse.proofs.simple.worded.Goals as goal

pub new_variable-requires : goal.new_variable-requires
new_variable-requires c = record { deep = c.requires.deep; begun = stmt_begun (t.Symbol (s.Fixed x.Let)) c.args.depth c.args.ts.now c.args.behind.now (c.requires.first ∙ ap (λ y. t.Symbol (s.Fixed y) ∷ c.args.behind.now) c.in-Let.is) refl refl }

pub field-requires : goal.field-requires
field-requires c = record { deep = c.requires.deep; begun = stmt_begun (t.Symbol (s.Fixed x.Own)) c.args.depth c.args.ts.now c.args.behind.now (c.requires.first ∙ ap (λ y. t.Symbol (s.Fixed y) ∷ c.args.behind.now) c.in-Own.is) refl refl }

pub attribute-requires : goal.attribute-requires
attribute-requires c = record { deep = c.requires.deep; begun = stmt_begun (t.Symbol (s.Fixed x.Attr)) c.args.depth c.args.ts.now c.args.behind.now (c.requires.first ∙ ap (λ y. t.Symbol (s.Fixed y) ∷ c.args.behind.now) c.in-Attr.is) refl refl }

pub create-requires : goal.create-requires
create-requires c = record { deep = c.requires.deep; begun = stmt_begun (t.Symbol (s.Fixed x.Create)) c.args.depth c.args.ts.now c.args.behind.now (c.requires.first ∙ ap (λ y. t.Symbol (s.Fixed y) ∷ c.args.behind.now) c.in-Create.is) refl refl }

pub remove-requires : goal.remove-requires
remove-requires c = record { deep = c.requires.deep; begun = stmt_begun (t.Symbol (s.Fixed x.Remove)) c.args.depth c.args.ts.now c.args.behind.now (c.requires.first ∙ ap (λ y. t.Symbol (s.Fixed y) ∷ c.args.behind.now) c.in-Remove.is) refl refl }

pub priority-requires : goal.priority-requires
priority-requires c = record { deep = c.requires.deep; begun = stmt_begun (t.Symbol (s.Fixed x.Priority)) c.args.depth c.args.ts.now c.args.behind.now (c.requires.first ∙ ap (λ y. t.Symbol (s.Fixed y) ∷ c.args.behind.now) c.in-Priority.is) refl refl }

pub call-requires : goal.call-requires
call-requires c = record { deep = c.requires.deep; begun = stmt_begun (t.Symbol (s.Fixed x.Call)) c.args.depth c.args.ts.now c.args.behind.now (c.requires.first ∙ ap (λ y. t.Symbol (s.Fixed y) ∷ c.args.behind.now) c.in-Call.is) refl refl }

pub attach-requires : goal.attach-requires
attach-requires c = record { deep = c.requires.deep; begun = stmt_begun (t.Symbol (s.Fixed x.Attach)) c.args.depth c.args.ts.now c.args.behind.now (c.requires.first ∙ ap (λ y. t.Symbol (s.Fixed y) ∷ c.args.behind.now) c.in-Attach.is) refl refl }

pub detach-requires : goal.detach-requires
detach-requires c = record { deep = c.requires.deep; begun = stmt_begun (t.Symbol (s.Fixed x.Detach)) c.args.depth c.args.ts.now c.args.behind.now (c.requires.first ∙ ap (λ y. t.Symbol (s.Fixed y) ∷ c.args.behind.now) c.in-Detach.is) refl refl }

pub mask-requires : goal.mask-requires
mask-requires c = record { deep = c.requires.deep; begun = stmt_begun (t.Symbol (s.Fixed x.Mask)) c.args.depth c.args.ts.now c.args.behind.now (c.requires.first ∙ ap (λ y. t.Symbol (s.Fixed y) ∷ c.args.behind.now) c.in-Mask.is) refl refl }

pub unmask-requires : goal.unmask-requires
unmask-requires c = record { deep = c.requires.deep; begun = stmt_begun (t.Symbol (s.Fixed x.Unmask)) c.args.depth c.args.ts.now c.args.behind.now (c.requires.first ∙ ap (λ y. t.Symbol (s.Fixed y) ∷ c.args.behind.now) c.in-Unmask.is) refl refl }

pub fire-requires : goal.fire-requires
fire-requires c = record { deep = c.requires.deep; begun = stmt_begun (t.Symbol (s.Fixed x.Fire)) c.args.depth c.args.ts.now c.args.behind.now (c.requires.first ∙ ap (λ y. t.Symbol (s.Fixed y) ∷ c.args.behind.now) c.in-Fire.is) refl refl }

pub null-requires : goal.null-requires
null-requires c = record { deep = c.requires.deep; begun = stmt_begun (t.Symbol (s.Fixed x.Null)) c.args.depth c.args.ts.now c.args.behind.now (c.requires.first ∙ ap (λ y. t.Symbol (s.Fixed y) ∷ c.args.behind.now) c.in-Null.is) refl refl }

pub bind-requires : goal.bind-requires
bind-requires c = record { deep = c.requires.deep; begun = stmt_begun (t.Symbol (s.Fixed x.Bind)) c.args.depth c.args.ts.now c.args.behind.now (c.requires.first ∙ ap (λ y. t.Symbol (s.Fixed y) ∷ c.args.behind.now) c.in-Bind.is) refl refl }

pub timer-requires : goal.timer-requires
timer-requires c = record { deep = c.requires.deep; begun = stmt_begun (t.Symbol (s.Fixed x.Timer)) c.args.depth c.args.ts.now c.args.behind.now (c.requires.first ∙ ap (λ y. t.Symbol (s.Fixed y) ∷ c.args.behind.now) c.in-Timer.is) refl refl }

pub usage-requires : goal.usage-requires
usage-requires c = record { deep = c.requires.deep; begun = stmt_begun (t.Symbol (s.Fixed x.Usage)) c.args.depth c.args.ts.now c.args.behind.now (c.requires.first ∙ ap (λ y. t.Symbol (s.Fixed y) ∷ c.args.behind.now) c.in-Usage.is) refl refl }

pub rollback-requires : goal.rollback-requires
rollback-requires c = record { deep = c.requires.deep; begun = stmt_begun (t.Symbol (s.Fixed x.Rollback)) c.args.depth c.args.ts.now c.args.behind.now (c.requires.first ∙ ap (λ y. t.Symbol (s.Fixed y) ∷ c.args.behind.now) c.in-Rollback.is) refl refl }

pub returns-in_default : goal.returns-in_default
returns-in_default c =
    rw c.unexpected.ensures
    (refuse_stmt c.args.depth c.args.word c.args.ts.now c.args.behind.now c.requires.first
    (no_stmt c.args.word c.requires.simple c.in_default.not-Let c.in_default.not-Own c.in_default.not-Attr c.in_default.not-Create c.in_default.not-Remove c.in_default.not-Priority c.in_default.not-Call c.in_default.not-Attach c.in_default.not-Detach c.in_default.not-Mask c.in_default.not-Unmask c.in_default.not-Fire c.in_default.not-Null c.in_default.not-Bind c.in_default.not-Timer c.in_default.not-Usage c.in_default.not-Rollback))
