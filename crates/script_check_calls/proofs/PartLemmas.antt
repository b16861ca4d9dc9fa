-- Parts one behind another: what is made so far stands in front of what the rest gives.
use Rattle.std.proofs.Common.{◌≡◌, ℕ, zero, suc, List, [], ◌∷◌, ◌++◌, drop, Ok, Err, refl, sym, ap, ◌∙◌, append_assoc, append-nil}
use Rattle.std.specs.Prelude.{slice_get}
use Rattle.script_types.specs.TypingResult.{Checked, ◌>>=◌}
use Rattle.script_check_terms.specs.declared.fault.ScriptFault.{ScriptFault}
use Rattle.script_check_terms.specs.declared.fault.ScriptFault.TheVariants as answers
use Rattle.script_check_terms.specs.Answers.{Refuses}

-- a list with others in front of it
abbrev pub behind : {A : Type 0} → List A → Checked (List A) → Checked (List A)
behind done (Ok more) = Ok (done ++ more)
behind done (Err fault) = Err fault

abbrev pub put : {A : Type 0} → A → List A → Checked (List A)
put x more = Ok (x ∷ more)

-- a part, and the rest behind it
abbrev pub then_more : {A : Type 0} → Checked A → Checked (List A) → Checked (List A)
then_more (Ok x) rest = rest >>= put x
then_more (Err fault) rest = Err fault

pub behind_none : {A : Type 0} (rest : Checked (List A)) → behind [] rest ≡ rest
behind_none (Ok more) = refl
behind_none (Err fault) = refl

behind_one : {A : Type 0} (done : List A) (x : A) (rest : Checked (List A)) → behind (done ++ x ∷ []) rest ≡ behind done (then_more (Ok x) rest)
behind_one {A} done x (Ok more) = ap (λ xs. let z : Checked (List A) = Ok xs in z) (append_assoc done (x ∷ []) more)
behind_one done x (Err fault) = refl

-- a part that is made stands behind those before it
pub part_made : {A : Type 0} (done : List A) (x : A) (one : Checked A) (rest whole : Checked (List A)) → behind done (then_more one rest) ≡ whole → one ≡ Ok x → behind (done ++ x ∷ []) rest ≡ whole
part_made done x one rest whole h is = behind_one done x rest ∙ ap (λ m. behind done (then_more m rest)) (sym is) ∙ h

-- the fault of a part is that of the whole
pub part_refused : {A : Type 0} (done : List A) (one : Checked A) (rest whole : Checked (List A)) (e : ScriptFault) → behind done (then_more one rest) ≡ whole → Refuses one e → Refuses whole e
part_refused done one rest whole answers.NoMemory h is = tt
part_refused done one rest whole (answers.At fault) h is = sym h ∙ ap (λ m. behind done (then_more m rest)) is

-- behind the last part all is made
pub all_made : {A : Type 0} (done : List A) (whole : Checked (List A)) → behind done (Ok []) ≡ whole → whole ≡ Ok done
all_made {A} done whole h = sym h ∙ ap (λ xs. let z : Checked (List A) = Ok xs in z) (append-nil done)

-- the first one behind i others
pub first_behind : {A : Type 0} (xs : List A) (i : ℕ) → slice_get (drop i xs) 0 ≡ slice_get xs i
first_behind [] zero = refl
first_behind [] (suc i) = refl
first_behind (x ∷ xs) zero = refl
first_behind (x ∷ xs) (suc i) = first_behind xs i
