use Rattle.std.proofs.Common.{sym, ap, ◌∙◌, ◌≡◌, ℕ, flat_map}
use Rattle.router_laws_closing.specs.Loose.{is_member}
use Rattle.router_closing.specs.Services.{has_new_root, removed_by}
use Rattle.router_draft.specs.Drafts.{laid}
use Rattle.router_closing.proofs.ServiceLemmas.{members_of, new_tree, old_tree}
use Rattle.router_closing.proofs.services.has_tree.Goals as goal

pub returns-then-has_root : goal.returns-then-has_root
returns-then-has_root g c =
    let have : (m : ℕ) → is_member c.deref.result.now m ≡ is_member (flat_map removed_by c.args.draft.now.changes) m = λ m.
    ap (λ xs. is_member xs m) c.deref.ensures.value ∙ members_of c.args.draft.now.changes c.changes-changes.result.now c.in_ok-all.all.items c.rising-gone.result.items c.changes-changes.ensures.changes c.in_ok-all.ensures c.rising-gone.ensures.members m in
    sym (old_tree (g.C.Base.state c.args.setting.now) c.args.draft.now.changes c.args.service c.deref.result.now c.ordered.ensures.ordered c.ordered.ensures.trees c.requires.made have (sym c.has_root.ensures ∙ c.if-has_root.true))

pub returns : goal.returns
returns g c =
    let have : (m : ℕ) → is_member c.deref.result.now m ≡ is_member (flat_map removed_by c.args.draft.now.changes) m = λ m.
    ap (λ xs. is_member xs m) c.deref.ensures.value ∙ members_of c.args.draft.now.changes c.changes-changes.result.now c.in_ok-all.all.items c.rising-gone.result.items c.changes-changes.ensures.changes c.in_ok-all.ensures c.rising-gone.ensures.members m in
    c.has_new_root.ensures
    ∙ ap (λ n. has_new_root (laid (g.C.Base.state c.args.setting.now) c.args.draft.now).entities c.args.service n c.changes-changes.result.now) c.next_entity.ensures
    ∙ ap (λ cs. has_new_root (laid (g.C.Base.state c.args.setting.now) c.args.draft.now).entities c.args.service (g.C.Base.state c.args.setting.now).next_entity cs) c.changes-changes.ensures.changes
    ∙ new_tree (g.C.Base.state c.args.setting.now) c.args.draft.now.changes c.args.service c.deref.result.now c.ordered.ensures.ordered c.ordered.ensures.trees c.requires.made have (sym c.has_root.ensures ∙ c.if-has_root.false)
