-- one table more, up to the last one
use Rattle.std.proofs.Common.{List, map, ap, ◌∙◌}
use Rattle.deploy_model.specs.Deployed.{Deployed}
use Rattle.deploy_model.specs.Resolving.{deployed_of, table_of}
use Rattle.deploy_model.specs.Rules.{Numbering}
use Rattle.deploy_model.specs.Tables.{key_number}
use Rattle.deploy_model.specs.declared.parts.ProfileSpec.{ProfileSpec}
use Rattle.deploy_model.specs.declared.parts.Table.{Table}
use Rattle.router_stores.specs.TableSpecs.{spec_of}
use Rattle.router_stores.proofs.PartLemmas.{made_all, made_on, specs_made}
use Rattle.router_stores.proofs.table_specs.specs_of.Goals as goal

pub loop-table-preserved : goal.loop-table-preserved
loop-table-preserved c =
    let d : Deployed = deployed_of c.args.deployment.now.parts in
    let profiles : Numbering = key_number (λ (p : ProfileSpec). p.key) c.args.deployment.now.parts.profiles in
    made_on (λ (t : Table). spec_of d (table_of profiles t)) c.tables-tables.result.now c.loop-table.specs.items c.push.new.self.items c.loop-table.table-index c.table-item.result c.in_ok-spec_of.field-0 c.loop-table-test.true c.table-item.is c.in_ok-spec_of.ensures c.in_ok-push.ensures.items c.loop-table.invariant

pub returns : goal.returns
returns c =
    let d : Deployed = deployed_of c.args.deployment.now.parts in
    let profiles : Numbering = key_number (λ (p : ProfileSpec). p.key) c.args.deployment.now.parts.profiles in
    made_all (λ (t : Table). spec_of d (table_of profiles t)) c.tables-tables.result.now c.loop-table.specs.items c.loop-table.table-index c.loop-table-test.false c.loop-table.invariant
    ∙ specs_made d profiles c.tables-tables.result.now ∙ ap (λ (tables : List Table). map (spec_of d) (map (table_of profiles) tables)) c.tables-tables.ensures.same
