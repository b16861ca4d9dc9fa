use Rattle.std.proofs.Common.{◌≡◌, ◌+◌, drop}
use Rattle.router_basis.specs.Masks.{place_for}
use Rattle.router_basis.proofs.masking.place_for.Given as goal

-- the place so far, and the one among the texts that are left
abbrev pub invariant-texts : goal.invariant-texts
invariant-texts l = (l.place ≡ l.other-index) × (l.place + place_for l.text (drop l.other-index l.texts) ≡ place_for l.text l.texts)
