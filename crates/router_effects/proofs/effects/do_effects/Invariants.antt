use Rattle.std.proofs.Common.{◌≡◌, ◌++◌, drop}
use Rattle.router_steps.specs.Applying.{applying}
use Rattle.router_steps.specs.Effects.{after_effects, lines_of_effects}
use Rattle.router_draft.specs.Drafts.{laid, CanBeMade}
use Rattle.router_effects.proofs.effects.do_effects.Given as goal

abbrev pub invariant-effects : goal.invariant-effects
invariant-effects g l = record {
  made : CanBeMade (g.S.Base.state l.setting) l.draft;
  state : after_effects (applying l.me.0 (drop l.effect-index l.effects) (laid (g.S.Base.state l.setting) l.draft)) (laid (g.S.Base.state l.setting) l.draft)
      ≡ after_effects (applying l.me.0 l.effects (laid (g.S.Base.state l.setting) l.initial.draft)) (laid (g.S.Base.state l.setting) l.initial.draft);
  lines : l.draft.lines ++ lines_of_effects (applying l.me.0 (drop l.effect-index l.effects) (laid (g.S.Base.state l.setting) l.draft)) (laid (g.S.Base.state l.setting) l.draft)
      ≡ l.initial.draft.lines ++ lines_of_effects (applying l.me.0 l.effects (laid (g.S.Base.state l.setting) l.initial.draft)) (laid (g.S.Base.state l.setting) l.initial.draft);
}
