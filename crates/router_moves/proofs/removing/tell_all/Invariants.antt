use Rattle.std.proofs.Common.{◌≡◌, ◌++◌, take}
use Rattle.router_moves.proofs.removing.tell_all.Given as goal

abbrev pub invariant-lines : goal.invariant-lines
invariant-lines l = record {
  changes : l.draft.changes ≡ l.initial.draft.changes;
  lines : l.draft.lines ≡ l.initial.draft.lines ++ take l.line-index l.lines;
}
