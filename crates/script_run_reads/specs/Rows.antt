-- What is asked of a row of a profile table, whose name is a value that has to be a text.
use Rattle.std.specs.Prelude.{◌≡◌, ℕ, List, map, Option, Some, None, is_some}
use Rattle.script_types.specs.Codes.{number_in}
use Rattle.script_run_reads.specs.declared.rows.NumberedRow.{NumberedRow}
use Rattle.slee_value.specs.declared.kind.Kind.{Kind}
use Rattle.slee_value.specs.declared.value.Value.{Value}
use Rattle.slee_effect.specs.declared.value.Val.{Val}
use Rattle.script_meaning.specs.Running.{Setting, Run, ◌>>=◌, give}
use Rattle.script_meaning.specs.Terms.{row, of_row}
use Rattle.script_meaning.specs.Values.{flag, with_text}

-- a row that is lent, and that its names have the numbers beside it
abbrev pub row_lent : Option NumberedRow → Option (List (List ℕ × Value))
row_lent None = None
row_lent (Some x) = Some x.row.now

abbrev pub AreNumberedIn : List (List ℕ) → Option NumberedRow → Type 0
AreNumberedIn names None = Unit {0}
AreNumberedIn names (Some x) = x.numbers.now ≡ map (λ f. number_in names f.0) x.row.now

-- the row itself
abbrev pub row_of : Setting → List ℕ → Val → Run (Option (List (List ℕ × Value)))
row_of s table x = with_text x (row s table)

-- the value of a row's attribute, which has to be of the kind
abbrev pub profile_value : Setting → List ℕ → Val → List ℕ → Kind → Run Val
profile_value s table x name kind = do
  found ← row_of s table x
  of_row name kind found

-- whether the row is there
abbrev pub has_profile : Setting → List ℕ → Val → Run Val
has_profile s table x = do
  found ← row_of s table x
  give (flag (is_some found))
