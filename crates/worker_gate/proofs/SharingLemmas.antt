-- Threads may share a deployment.
use denote.Param.Send.{IsSend, IsSync, sendable}
use Rattle.std.proofs.Crossing.{crosses}
use Rattle.deploy_model.proofs.parts.CustomRule.TheSendSync as custom_rule
use Rattle.deploy_model.proofs.parts.EventType.TheSendSync as event_type
use Rattle.deploy_model.proofs.parts.ProfileSpec.TheSendSync as profile_spec
use Rattle.deploy_model.proofs.parts.Relation.TheSendSync as relation
use Rattle.deploy_model.proofs.parts.Service.TheSendSync as service
use Rattle.deploy_model.proofs.parts.Table.TheSendSync as table
use Rattle.deploy_model.specs.contracts.parts.Block as Block
use Rattle.deploy_model.specs.contracts.parts.BlockEvent as BlockEvent
use Rattle.deploy_model.specs.contracts.parts.Method as Method
use Rattle.deploy_model.specs.contracts.parts.Parts as Parts
use Rattle.script_tree.proofs.identifier.Identifier.TheSendSync as identifier
use Rattle.script_tree.proofs.literal.Literal.TheSendSync as literal
use Rattle.script_tree.proofs.number.Number.TheSendSync as number
use Rattle.script_tree.proofs.symbol.Constant.TheSendSync as constant
use Rattle.script_tree.proofs.symbol.Function.TheSendSync as function
use Rattle.script_tree.proofs.symbol.Operator.TheSendSync as operator
use Rattle.script_tree.proofs.symbol.Verb.TheSendSync as verb
use Rattle.script_tree.proofs.tree.Expr.TheLaws.TheKnot as expr_knot
use Rattle.script_tree.proofs.tree.Leaf.TheSendSync as leaf
use Rattle.script_tree.proofs.tree.Over.TheSendSync as over
use Rattle.script_tree.proofs.tree.Prefix.TheSendSync as prefix
use Rattle.script_tree.proofs.tree.Query.TheSendSync as query
use Rattle.script_tree.proofs.tree.Stmt.TheLaws.TheKnot as stmt_knot
use Rattle.script_tree.proofs.tree.Who.TheSendSync as who
use Rattle.script_tree.specs.contracts.script.Script as Script
use Rattle.script_tree.specs.contracts.tree.ActivityStmt as ActivityStmt
use Rattle.script_tree.specs.contracts.tree.Assignment as Assignment
use Rattle.script_tree.specs.contracts.tree.EntityStmt as EntityStmt
use Rattle.script_tree.specs.contracts.tree.Expr as Expr
use Rattle.script_tree.specs.contracts.tree.FieldValue as FieldValue
use Rattle.script_tree.specs.contracts.tree.Repeat as Repeat
use Rattle.script_tree.specs.contracts.tree.Stmt as Stmt
use Rattle.script_tree.specs.contracts.tree.TimerStmt as TimerStmt
use Rattle.script_tree.specs.contracts.written.Written as Written
use Rattle.script_types.proofs.checked_step.Step.TheLaws.TheKnot as step_knot
use Rattle.script_types.proofs.checked_term.Term.TheLaws.TheKnot as term_knot
use Rattle.script_types.proofs.code_list.CodeList.TheSendSync as code_list
use Rattle.script_types.proofs.codes.AttributeCode.TheSendSync as attribute_code
use Rattle.script_types.proofs.codes.EventCode.TheSendSync as event_code
use Rattle.script_types.proofs.codes.FieldCode.TheSendSync as field_code
use Rattle.script_types.proofs.codes.RelationCode.TheSendSync as relation_code
use Rattle.script_types.proofs.codes.TableCode.TheSendSync as table_code
use Rattle.script_types.proofs.named_list.NamedList.TheSendSync as named_list
use Rattle.script_types.proofs.step.Range.TheSendSync as range
use Rattle.script_types.proofs.step.Who.TheSendSync as types_who
use Rattle.script_types.proofs.symbol.Symbol.TheSendSync as symbol
use Rattle.script_types.proofs.term.Atom.TheSendSync as atom
use Rattle.script_types.proofs.term.Joint.TheSendSync as joint
use Rattle.script_types.proofs.term.Question.TheSendSync as question
use Rattle.script_types.proofs.term.Test.TheSendSync as test
use Rattle.script_types.specs.contracts.checked_script.BlockSteps as BlockSteps
use Rattle.script_types.specs.contracts.checked_script.HandlerSteps as HandlerSteps
use Rattle.script_types.specs.contracts.checked_script.MethodSteps as MethodSteps
use Rattle.script_types.specs.contracts.checked_step.Assigning as Assigning
use Rattle.script_types.specs.contracts.checked_step.Call as Call
use Rattle.script_types.specs.contracts.checked_step.FieldTerm as FieldTerm
use Rattle.script_types.specs.contracts.checked_step.OnActivities as OnActivities
use Rattle.script_types.specs.contracts.checked_step.OnEntities as OnEntities
use Rattle.script_types.specs.contracts.checked_step.OnTimers as OnTimers
use Rattle.script_types.specs.contracts.checked_step.Rank as Rank
use Rattle.script_types.specs.contracts.checked_step.Recurrence as Recurrence
use Rattle.script_types.specs.contracts.checked_step.Saying as Saying
use Rattle.script_types.specs.contracts.checked_step.Step as Step
use Rattle.script_types.specs.contracts.checked_step.TimerStart as TimerStart
use Rattle.script_types.specs.contracts.checked_term.Term as Term
use Rattle.script_types.specs.contracts.codes.BlockCode as BlockCode
use Rattle.script_types.specs.contracts.codes.Codes as Codes
use Rattle.script_types.specs.contracts.codes.HandlerCode as HandlerCode
use Rattle.script_types.specs.contracts.codes.MethodCode as MethodCode
use Rattle.slee_descriptor.proofs.indexes.Indexes.TheSendSync as indexes
use Rattle.slee_descriptor.specs.contracts.deployment.Deployment as Deployment
use Rattle.slee_value.proofs.component.ComponentId.TheSendSync as component_id
use Rattle.slee_value.proofs.keep.Keep.TheSendSync as keep
use Rattle.slee_value.proofs.kind.Kind.TheSendSync as kind
use Rattle.slee_value.proofs.name.Name.TheSendSync as name
use Rattle.slee_value.proofs.text.Text.TheSendSync as text
use Rattle.std.proofs.alloc.Global.TheSendSync as global
use Rattle.std.proofs.option.Option.TheSendSync as option

ruleset leaves = (option.the_field_send, option.the_field_sync, global.the_field_send, global.the_field_sync, identifier.the_send, identifier.the_sync, literal.the_send, literal.the_sync, number.the_send, number.the_sync, constant.the_field_send, constant.the_field_sync, function.the_field_send, function.the_field_sync, operator.the_field_send, operator.the_field_sync, verb.the_field_send, verb.the_field_sync, leaf.the_field_send, leaf.the_field_sync, over.the_field_send, over.the_field_sync, prefix.the_field_send, prefix.the_field_sync, query.the_field_send, query.the_field_sync, who.the_field_send, who.the_field_sync, code_list.the_send, code_list.the_sync, named_list.the_send, named_list.the_sync, attribute_code.the_field_send, attribute_code.the_field_sync, event_code.the_field_send, event_code.the_field_sync, field_code.the_field_send, field_code.the_field_sync, relation_code.the_field_send, relation_code.the_field_sync, table_code.the_field_send, table_code.the_field_sync, range.the_field_send, range.the_field_sync, types_who.the_field_send, types_who.the_field_sync, symbol.the_field_send, symbol.the_field_sync, atom.the_field_send, atom.the_field_sync, joint.the_field_send, joint.the_field_sync, question.the_field_send, question.the_field_sync, test.the_field_send, test.the_field_sync, custom_rule.the_field_send, custom_rule.the_field_sync, event_type.the_field_send, event_type.the_field_sync, profile_spec.the_field_send, profile_spec.the_field_sync, relation.the_field_send, relation.the_field_sync, service.the_field_send, service.the_field_sync, table.the_field_send, table.the_field_sync, indexes.the_field_send, indexes.the_field_sync, component_id.the_field_send, component_id.the_field_sync, keep.the_field_send, keep.the_field_sync, kind.the_field_send, kind.the_field_sync, name.the_send, name.the_sync, text.the_send, text.the_sync)

expr_send : IsSend (Expr.the_field).row
expr_send = search (expr_knot.send-Expr, leaves, crosses, sendable) depth 60 fits 20000

expr_sync : IsSync (Expr.the_field).row
expr_sync = search (expr_knot.sync-Expr, leaves, crosses, sendable) depth 60 fits 20000

assignment_send : IsSend (Assignment.the_field).row
assignment_send = search (expr_send, leaves, crosses, sendable) depth 60 fits 20000

assignment_sync : IsSync (Assignment.the_field).row
assignment_sync = search (expr_sync, leaves, crosses, sendable) depth 60 fits 20000

entity_stmt_send : IsSend (EntityStmt.the_field).row
entity_stmt_send = search (expr_send, leaves, crosses, sendable) depth 60 fits 20000

entity_stmt_sync : IsSync (EntityStmt.the_field).row
entity_stmt_sync = search (expr_sync, leaves, crosses, sendable) depth 60 fits 20000

field_value_send : IsSend (FieldValue.the_field).row
field_value_send = search (expr_send, leaves, crosses, sendable) depth 60 fits 20000

field_value_sync : IsSync (FieldValue.the_field).row
field_value_sync = search (expr_sync, leaves, crosses, sendable) depth 60 fits 20000

activity_stmt_send : IsSend (ActivityStmt.the_field).row
activity_stmt_send = search (field_value_send, expr_send, leaves, crosses, sendable) depth 60 fits 20000

activity_stmt_sync : IsSync (ActivityStmt.the_field).row
activity_stmt_sync = search (field_value_sync, expr_sync, leaves, crosses, sendable) depth 60 fits 20000

repeat_send : IsSend (Repeat.the_field).row
repeat_send = search (expr_send, leaves, crosses, sendable) depth 60 fits 20000

repeat_sync : IsSync (Repeat.the_field).row
repeat_sync = search (expr_sync, leaves, crosses, sendable) depth 60 fits 20000

timer_stmt_send : IsSend (TimerStmt.the_field).row
timer_stmt_send = search (repeat_send, expr_send, leaves, crosses, sendable) depth 60 fits 20000

timer_stmt_sync : IsSync (TimerStmt.the_field).row
timer_stmt_sync = search (repeat_sync, expr_sync, leaves, crosses, sendable) depth 60 fits 20000

stmt_send : IsSend (Stmt.the_field).row
stmt_send = search (stmt_knot.send-Stmt, timer_stmt_send, activity_stmt_send, entity_stmt_send, assignment_send, expr_send, leaves, crosses, sendable) depth 60 fits 20000

stmt_sync : IsSync (Stmt.the_field).row
stmt_sync = search (stmt_knot.sync-Stmt, timer_stmt_sync, activity_stmt_sync, entity_stmt_sync, assignment_sync, expr_sync, leaves, crosses, sendable) depth 60 fits 20000

written_send : IsSend (Written.the_field).row
written_send = search (stmt_send, leaves, crosses, sendable) depth 60 fits 20000

written_sync : IsSync (Written.the_field).row
written_sync = search (stmt_sync, leaves, crosses, sendable) depth 60 fits 20000

script_sync : IsSync Script.the_row
script_sync = search (written_sync, written_send, leaves, crosses, sendable) depth 60 fits 20000

term_sync : IsSync (Term.the_field).row
term_sync = search (term_knot.sync-Term, leaves, crosses, sendable) depth 60 fits 20000

assigning_sync : IsSync (Assigning.the_field).row
assigning_sync = search (term_sync, leaves, crosses, sendable) depth 60 fits 20000

rank_sync : IsSync (Rank.the_field).row
rank_sync = search (term_sync, leaves, crosses, sendable) depth 60 fits 20000

on_entities_sync : IsSync (OnEntities.the_field).row
on_entities_sync = search (rank_sync, term_sync, leaves, crosses, sendable) depth 60 fits 20000

call_sync : IsSync (Call.the_field).row
call_sync = search (term_sync, leaves, crosses, sendable) depth 60 fits 20000

field_term_sync : IsSync (FieldTerm.the_field).row
field_term_sync = search (term_sync, leaves, crosses, sendable) depth 60 fits 20000

on_activities_sync : IsSync (OnActivities.the_field).row
on_activities_sync = search (field_term_sync, term_sync, leaves, crosses, sendable) depth 60 fits 20000

recurrence_sync : IsSync (Recurrence.the_field).row
recurrence_sync = search (term_sync, leaves, crosses, sendable) depth 60 fits 20000

timer_start_sync : IsSync (TimerStart.the_field).row
timer_start_sync = search (recurrence_sync, term_sync, leaves, crosses, sendable) depth 60 fits 20000

on_timers_sync : IsSync (OnTimers.the_field).row
on_timers_sync = search (timer_start_sync, term_sync, leaves, crosses, sendable) depth 60 fits 20000

saying_sync : IsSync (Saying.the_field).row
saying_sync = search (term_sync, leaves, crosses, sendable) depth 60 fits 20000

step_sync : IsSync (Step.the_field).row
step_sync = search (step_knot.sync-Step, saying_sync, on_timers_sync, on_activities_sync, call_sync, on_entities_sync, assigning_sync, term_sync, leaves, crosses, sendable) depth 60 fits 20000

handler_steps_sync : IsSync (HandlerSteps.the_field).row
handler_steps_sync = search (step_sync, leaves, crosses, sendable) depth 60 fits 20000

method_steps_sync : IsSync (MethodSteps.the_field).row
method_steps_sync = search (step_sync, leaves, crosses, sendable) depth 60 fits 20000

block_steps_sync : IsSync (BlockSteps.the_field).row
block_steps_sync = search (method_steps_sync, handler_steps_sync, step_sync, leaves, crosses, sendable) depth 60 fits 20000

handler_code_sync : IsSync (HandlerCode.the_field).row
handler_code_sync = search (script_sync, leaves, crosses, sendable) depth 60 fits 20000

method_code_sync : IsSync (MethodCode.the_field).row
method_code_sync = search (script_sync, leaves, crosses, sendable) depth 60 fits 20000

block_code_sync : IsSync (BlockCode.the_field).row
block_code_sync = search (method_code_sync, handler_code_sync, script_sync, leaves, crosses, sendable) depth 60 fits 20000

codes_sync : IsSync (Codes.the_field).row
codes_sync = search (block_code_sync, block_steps_sync, leaves, crosses, sendable) depth 60 fits 20000

block_event_sync : IsSync (BlockEvent.the_field).row
block_event_sync = search (script_sync, leaves, crosses, sendable) depth 60 fits 20000

method_sync : IsSync (Method.the_field).row
method_sync = search (script_sync, leaves, crosses, sendable) depth 60 fits 20000

block_sync : IsSync (Block.the_field).row
block_sync = search (method_sync, block_event_sync, script_sync, leaves, crosses, sendable) depth 60 fits 20000

parts_sync : IsSync (Parts.the_field).row
parts_sync = search (block_sync, leaves, crosses, sendable) depth 60 fits 20000

pub deployment_sync : IsSync Deployment.the_row
deployment_sync = search (parts_sync, codes_sync, leaves, crosses, sendable) depth 60 fits 20000
