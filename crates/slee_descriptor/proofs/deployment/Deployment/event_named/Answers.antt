use Rattle.std.proofs.Common.{◌≡◌, ◌<◌, ◌^◌, ◌∙◌, List, ℕ, ap, length, map, position, bytes_eq, subst, sym}
use Rattle.std.specs.Prelude.{IfSome}
use Rattle.std.proofs.lemmas.List.{length-map}
use Rattle.script_types.specs.declared.codes.Codes.{Codes}
use Rattle.script_types.specs.declared.codes.EventCode.{EventCode}
use Rattle.deploy_model.specs.Resolving.{event_of}
use Rattle.slee_descriptor.proofs.Numbering.{within}
use Rattle.slee_descriptor.proofs.deployment.Deployment.event_named.Goals as goal

pub number_at-requires : goal.number_at-requires
number_at-requires c =
    let parts = c.args.self.now.parts in
    let few : length (map event_of parts.events) < 2 ^ 32 = rw (length-map parts.events event_of) c.args.self.now.numbered.events in
    let at : c.place_of.result ≡ position (λ (x : EventCode). bytes_eq x.name c.as_bytes.result.now) (map event_of parts.events) = c.place_of.ensures ∙ ap (λ (k : Codes). position (λ (x : EventCode). bytes_eq x.name c.as_bytes.result.now) k.events) c.args.self.now.coded in
    subst (λ o. IfSome o (λ i. i < 2 ^ 32)) (sym at) (within (λ (x : EventCode). bytes_eq x.name c.as_bytes.result.now) (map event_of parts.events) (2 ^ 32) few)

pub returns : goal.returns
returns c =
    let parts = c.args.self.now.parts in
    let at : c.place_of.result ≡ position (λ (x : EventCode). bytes_eq x.name c.as_bytes.result.now) (map event_of parts.events) = c.place_of.ensures ∙ ap (λ (k : Codes). position (λ (x : EventCode). bytes_eq x.name c.as_bytes.result.now) k.events) c.args.self.now.coded in
    c.number_at.ensures ∙ at ∙ ap (λ q. position (λ (x : EventCode). bytes_eq x.name q) (map event_of parts.events)) c.as_bytes.ensures.value
