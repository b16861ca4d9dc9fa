-- An external activity stands under the number of its name.
use Rattle.std.proofs.Common.{◌≡◌, ℕ, ◌==◌, true, List, ap, ◌∙◌, arith}
use Rattle.std.proofs.lemmas.Bool.Decides.{nat_tests}
use Rattle.std.proofs.lemmas.Slice.Eq.{bytes_eq-Decides}
use Rattle.router_state.specs.Contexts.{has_name}
use Rattle.router_state.specs.declared.rows.AcKind.{AcKind}
use Rattle.router_state.specs.declared.rows.AcKind.TheVariants as kinds
use Rattle.router_state.specs.declared.rows.Activity.{Activity}
use Rattle.rows_index.specs.Numbers.{number_of}
use Rattle.activity_context.specs.Indexed.{name_number}

own_number : (n : ℕ) → (n == n) ≡ true
own_number n = grind (arith, nat_tests)

named_kind : (name : List ℕ) (kind : AcKind) → has_name kind name ≡ true → (name_number kind == number_of name) ≡ true
named_kind name (kinds.External own) is =
    let same : own ≡ name = (bytes_eq-Decides own name).0 is in
    ap (λ (text : List ℕ). number_of text == number_of name) same ∙ own_number (number_of name)
named_kind name kinds.Null is = cc
named_kind name (kinds.Service service) is = cc
named_kind name (kinds.Table table) is = cc

-- what has the name stands under its number
pub named_there : (name : List ℕ) (row : Activity) → has_name row.kind name ≡ true → (name_number row.kind == number_of name) ≡ true
named_there name row is = named_kind name row.kind is
