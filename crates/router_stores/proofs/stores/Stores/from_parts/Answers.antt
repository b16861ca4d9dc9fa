-- what the stores hold is what they held before
use Rattle.std.proofs.Common.{refl, sym, ap, ◌∙◌}
use Rattle.deploy_model.specs.Resolving.{deployed_of}
use Rattle.slee_descriptor.specs.declared.deployment.Deployment.{Deployment}
use Rattle.router_stores.specs.TableSpecs.{specs_of}
use Rattle.router_stores.proofs.stores.Stores.from_parts.Goals as goal

pub invariant_of-result : goal.invariant_of-result
invariant_of-result c = record {
  ordered = c.requires.ordered;
  tables = c.requires.tables ∙ ap (λ (d : Deployment). specs_of (deployed_of d.parts)) (sym c.of.ensures);
  ready = c.requires.ready;
}

pub returns : goal.returns
returns c = rw c.of.ensures refl
