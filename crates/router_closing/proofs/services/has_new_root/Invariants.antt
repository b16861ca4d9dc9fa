use Rattle.std.proofs.Common.{◌≡◌, ◌+◌, ◌≤◌, drop}
use Rattle.router_draft.specs.Drafts.{laid}
use Rattle.router_closing.specs.Services.{has_new_root}
use Rattle.router_closing.proofs.services.has_new_root.Given as goal

abbrev pub invariant-changes : goal.invariant-changes
invariant-changes g l = record {
  few : l.next ≤ l.first + l.change-index;
  seen : has_new_root (laid (g.C.Base.state l.setting) l.draft).entities l.service l.next (drop l.change-index l.changes) ≡ has_new_root (laid (g.C.Base.state l.setting) l.draft).entities l.service l.first l.changes;
}
