use Rattle.std.proofs.Common.{◌≡◌, ◌++◌, drop}
use Rattle.router_draft.specs.Drafts.{laid, CanBeMade}
use Rattle.router_laws_closing.specs.TouchedRoots.{close_standings, lines_of_standings}
use Rattle.router_closing.proofs.roots.close_standings.Given as goal

abbrev pub invariant-roots : goal.invariant-roots
invariant-roots g l = record {
  state : close_standings (drop l.root-index l.roots) (laid (g.C.Base.state l.setting) l.draft) ≡ close_standings l.roots (laid (g.C.Base.state l.setting) l.initial.draft);
  lines : l.draft.lines ++ lines_of_standings (drop l.root-index l.roots) (laid (g.C.Base.state l.setting) l.draft) ≡ l.initial.draft.lines ++ lines_of_standings l.roots (laid (g.C.Base.state l.setting) l.initial.draft);
  made : CanBeMade (g.C.Base.state l.setting) l.draft;
}
