-- What a text is read as, and the fault that is told of it.
use Rattle.std.proofs.Common.{◌≡◌, Option, Some, None, Result, Ok, ap}
use Rattle.script_tree.specs.Tree.{Bytes, Statements}
use Rattle.script_tree.specs.Reading.{script_read, IsFault}
use Rattle.script_tree.specs.declared.fault.SyntaxFault.{SyntaxFault}
use Rattle.deploy_json.specs.declared.parts_fault.PartsFault.{PartsFault}
use Rattle.deploy_json.specs.Sources.{Misread, Tells, misread_of, text_misread, and_then}

pub none_misread : (text : Bytes) (tree : Statements) → script_read text ≡ Ok tree → text_misread text ≡ None
unfolding text_misread
none_misread text tree h = ap misread_of h

pub told : (text : Bytes) (e : SyntaxFault) (answer : PartsFault) → ((r : Result Statements SyntaxFault) → IsFault r e → Tells (misread_of r) answer) → IsFault (script_read text) e → Tells (text_misread text) answer
unfolding text_misread
told text e answer of h = of (script_read text) h

pub none_both : (a b : Option Misread) → a ≡ None → b ≡ None → and_then a b ≡ None
none_both None b e f = f
none_both (Some m) b e f = cc
