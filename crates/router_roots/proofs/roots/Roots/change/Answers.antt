-- a new root comes with its entry, and other changes leave what is listed
use Rattle.std.proofs.Common.{◌≡◌, false, ap, rules}
use Rattle.router_roots.specs.Views.{RootsView}
use Rattle.router_roots.proofs.ChangeLemmas.{others_kept, touches}
use Rattle.router_roots.proofs.roots.Roots.change.Goals as goal

pub returns-in-CreateRoot-clause-roots : goal.returns-in-CreateRoot-clause-roots
returns-in-CreateRoot-clause-roots c = rw c.in-CreateRoot.is (record {
  services = c.list_root.ensures.listed c.in-CreateRoot.block c.in-CreateRoot.priority;
  names = rw (ap (λ (v : RootsView). v.by_name) c.self.view_is) c.requires.roots.names;
})

pub returns-in_default-clause-roots : goal.returns-in_default-clause-roots
returns-in_default-clause-roots c =
    let other : touches c.args.change.now ≡ false = search rules in
    others_kept c.args.change.now c.args.stores.now.state c.args.self.now other c.requires.roots
