use Rattle.std.proofs.Common.{◌≡◌, ◌++◌, map}
use Rattle.router_basis.proofs.listing.numbers_in.Given as goal

-- the numbers so far, and those of the entries that are left
abbrev pub invariant-entries : goal.invariant-entries
invariant-entries l = l.all.items ++ map (λ entry. entry.number) l.entry-iterator ≡ map (λ entry. entry.number) l.fn.entries
