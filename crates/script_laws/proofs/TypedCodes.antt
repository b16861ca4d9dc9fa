-- The check of all scripts in their order finds what keeps them from being a program.
use Rattle.std.proofs.Common.{◌≡◌, ◌+◌, ℕ, suc, List, [], ◌∷◌, ◌++◌, length, map, Option, Some, None, Ok, Err, refl, sym, ap, ◌∙◌, add-one, add-zero, zero-add, arith}
use Rattle.std.proofs.lemmas.List.{map-append}
use Rattle.std.specs.Prelude.{slice_get, option_map}
use Rattle.std.specs.List.{range_with_len}
use Rattle.script_types.specs.declared.codes.CodePart.{CodePart}
use Rattle.script_types.specs.declared.codes.CodePart.TheVariants as p
use Rattle.script_types.specs.declared.codes.CodePlace.{CodePlace}
use Rattle.script_tree.specs.Tree.{Statements}
use Rattle.script_types.specs.Codes.{Codes, Block, Handler, Method}
use Rattle.script_types.specs.TypingResult.{Checked}
use Rattle.script_types.specs.TypingExpressions.{Role, Setting, OnException, OnRolledBack, OnRemove}
use Rattle.script_types.specs.TypingStatements.{check_statements}
use Rattle.script_types.specs.Typing.{Task, WellTyped, handler_task, method_task, task_for, check_task, check_part, check_of, parts_of, places_in, fault_or, first_fault, check_codes}
use Rattle.script_types.specs.ElaborationOfStatements.{MadeAll, statements_made}
use Rattle.script_types.specs.Program.{Program}
use Rattle.script_types.specs.Programs.{Built, ◌>>=◌, placed, steps_of, place_of, handlers_of, methods_of, callback_of, block_of, blocks_of, program_of}
use Rattle.script_types.proofs.TypingLaws.{check_codes-well_typed, well_typed-check_codes}
use Rattle.script_laws.specs.Forgetting.{forget}
use Rattle.script_laws.proofs.TypedAlike.{same_is}
use Rattle.script_laws.proofs.TypedExpressions.{nothing}
use Rattle.script_laws.proofs.TypedStatements.{scope_behind, statements_same}

-- whether something is built, or the fault
abbrev fault_in : {A : Type 0} → Built A → Built (Unit {0})
fault_in r = forget nothing r

forget_then : {A B : Type 0} (m : Built A) (g : A → Built B) (rest : Built (Unit {0})) → ((x : A) → fault_in (g x) ≡ rest) → fault_in (m >>= g) ≡ (fault_in m >>= λ _. rest)
forget_then (Ok x) g rest h = h x
forget_then (Err fault) g rest h = refl

fault_or_then : (place : CodePlace) (r : Checked (Unit {0})) (one : Built (Unit {0})) (other : Built (Unit {0})) → fault_or place r (one >>= λ _. other) ≡ (fault_or place r one >>= λ _. other)
fault_or_then place (Ok x) one other = refl
fault_or_then place (Err fault) one other = refl

first_fault-append : (all : Codes) (xs ys : List CodePlace) → first_fault all (xs ++ ys) ≡ (first_fault all xs >>= λ _. first_fault all ys)
first_fault-append all [] ys = refl
first_fault-append all (x ∷ xs) ys = ap (fault_or x (check_of all x)) (first_fault-append all xs ys) ∙ fault_or_then x (check_of all x) (first_fault all xs) (first_fault all ys)

-- one script
script_found : (place : CodePlace) (m : Checked MadeAll) (n : Checked _) (rest : Built (Unit {0})) → n ≡ forget scope_behind m → fault_or place (forget nothing n) rest ≡ (fault_in (placed place m) >>= λ _. rest)
script_found place (Ok made) n rest h = rw h refl
script_found place (Err fault) n rest h = rw h refl

abbrev setting_for : Codes → Block → Task → Setting
setting_for all block task = record { codes = all; block = block; role = task.role }

checked_forgets : (all : Codes) (block : Block) (task : Task) (n : Checked _) → n ≡ check_statements (setting_for all block task) task.scope 0 task.script → check_task all block (Some task) ≡ forget nothing n
checked_forgets all block task (Ok x) h = rw (← h) refl
checked_forgets all block task (Err fault) h = rw (← h) refl

task_found : (all : Codes) (block : Block) (place : CodePlace) (task : Task) (rest : Built (Unit {0})) → fault_or place (check_task all block (Some task)) rest ≡ (fault_in (steps_of all block place task) >>= λ _. rest)
task_found all block place task rest =
    let s : Setting = setting_for all block task in
    let made : Checked MadeAll = statements_made s task.scope 0 task.script in
    let found = check_statements s task.scope 0 task.script in
    ap (λ r. fault_or place r rest) (checked_forgets all block task found refl) ∙ script_found place made found rest (same_is scope_behind made found (statements_same s task.scope 0 task.script))

-- a script that a block may lack
callback_found : (all : Codes) (block : Block) (place : CodePlace) (role : Role) (o : Option Statements) (rest : Built (Unit {0})) → fault_or place (check_task all block (option_map (task_for role) o)) rest ≡ (fault_in (callback_of all block place role o) >>= λ _. rest)
callback_found all block place role None rest = refl
callback_found all block place role (Some script) rest =
    task_found all block place (task_for role script) rest ∙ sym (step_kept (steps_of all block place (task_for role script)) rest)
  where
    step_kept : {A : Type 0} (m : Built A) (rest : Built (Unit {0})) → (fault_in (m >>= λ x. (let z : Built (Option A) = Ok (Some x) in z)) >>= λ _. rest) ≡ (fault_in m >>= λ _. rest)
    step_kept (Ok x) rest = refl
    step_kept (Err fault) rest = refl

-- the scripts of a list, of which these are the ones from n on
abbrev Ends : {A : Type 0} → List A → ℕ → List A → Type 0
Ends whole n xs = (k : ℕ) → slice_get whole (n + k) ≡ slice_get xs k

ends_here : {A : Type 0} (whole : List A) (n : ℕ) (x : A) (xs : List A) → Ends whole n (x ∷ xs) → slice_get whole n ≡ Some x
ends_here whole n x xs h = ap (slice_get whole) (sym (add-zero n)) ∙ h 0

ends_next : {A : Type 0} (whole : List A) (n : ℕ) (x : A) (xs : List A) → Ends whole n (x ∷ xs) → Ends whole (n + 1) xs
ends_next whole n x xs h k = ap (slice_get whole) (let e : n + 1 + k ≡ n + suc k = omega arith in e) ∙ h (suc k)

ends_all : {A : Type 0} (whole : List A) → Ends whole 0 whole
ends_all whole k = ap (slice_get whole) (zero-add k)

list_found : {A C S : Type 0} (all : Codes) (at : CodePart → CodePlace) (part : ℕ → CodePart) (whole : List A) (make : ℕ → A → Built S) (list : ℕ → List A → Built C)
    → ((n : ℕ) → fault_in (list n []) ≡ Ok tt)
    → ((n : ℕ) (x : A) (xs : List A) → fault_in (list n (x ∷ xs)) ≡ (fault_in (make n x) >>= λ _. fault_in (list (n + 1) xs)))
    → ((n : ℕ) (x : A) (rest : Built (Unit {0})) → slice_get whole n ≡ Some x → fault_or (at (part n)) (check_of all (at (part n))) rest ≡ (fault_in (make n x) >>= λ _. rest))
    → (n : ℕ) (xs : List A) → Ends whole n xs → first_fault all (map at (map part (range_with_len n (length xs)))) ≡ fault_in (list n xs)
list_found all at part whole make list none more one n [] h = sym (none n)
list_found all at part whole make list none more one n (x ∷ xs) h =
    ap (fault_or (at (part n)) (check_of all (at (part n)))) (list_found all at part whole make list none more one (n + 1) xs (ends_next whole n x xs h))
    ∙ one n x (fault_in (list (n + 1) xs)) (ends_here whole n x xs h) ∙ sym (more n x xs)

two_forgotten : {A B C : Type 0} (m : Built A) (r : Built B) (f : A → B → C) → fault_in (m >>= λ x. r >>= λ y. (let z : Built C = Ok (f x y) in z)) ≡ (fault_in m >>= λ _. fault_in r)
two_forgotten (Ok x) (Ok y) f = refl
two_forgotten (Ok x) (Err fault) f = refl
two_forgotten (Err fault) r f = refl

handlers_found : (all : Codes) (number : ℕ) (block : Block) → slice_get all.blocks number ≡ Some block → first_fault all (map (place_of number) (map p.Handler (range_with_len 0 (length block.handlers)))) ≡ fault_in (handlers_of all block number 0 block.handlers)
handlers_found all number block e =
    list_found all (place_of number) p.Handler block.handlers (λ n h. steps_of all block (place_of number (p.Handler n)) (handler_task all h)) (handlers_of all block number)
    (λ _. refl) (λ n h hs. two_forgotten _ _ _)
    (λ n h rest f. ap (λ (o : Option Block). fault_or (place_of number (p.Handler n)) (check_part all (p.Handler n) o) rest) e
    ∙ ap (λ (o : Option Handler). fault_or (place_of number (p.Handler n)) (check_task all block (option_map (handler_task all) o)) rest) f
    ∙ task_found all block (place_of number (p.Handler n)) (handler_task all h) rest)
    0 block.handlers (ends_all block.handlers)

methods_found : (all : Codes) (number : ℕ) (block : Block) → slice_get all.blocks number ≡ Some block → first_fault all (map (place_of number) (map p.Method (range_with_len 0 (length block.methods)))) ≡ fault_in (methods_of all block number 0 block.methods)
methods_found all number block e =
    list_found all (place_of number) p.Method block.methods (λ n m. steps_of all block (place_of number (p.Method n)) (method_task m)) (methods_of all block number)
    (λ _. refl) (λ n m ms. two_forgotten _ _ _)
    (λ n m rest f. ap (λ (o : Option Block). fault_or (place_of number (p.Method n)) (check_part all (p.Method n) o) rest) e
    ∙ ap (λ (o : Option Method). fault_or (place_of number (p.Method n)) (check_task all block (option_map method_task o)) rest) f
    ∙ task_found all block (place_of number (p.Method n)) (method_task m) rest)
    0 block.methods (ends_all block.methods)

-- the three others
abbrev others : ℕ → List CodePlace
others number = place_of number p.Exception ∷ place_of number p.RolledBack ∷ place_of number p.Remove ∷ []

others_found : (all : Codes) (number : ℕ) (block : Block) → slice_get all.blocks number ≡ Some block → first_fault all (others number) ≡ (fault_in (callback_of all block (place_of number p.Exception) OnException block.exception) >>= λ _. fault_in (callback_of all block (place_of number p.RolledBack) OnRolledBack block.rolled_back) >>= λ _. fault_in (callback_of all block (place_of number p.Remove) OnRemove block.remove) >>= λ _. Ok tt)
others_found all number block e =
    let check : CodePart → Option Block → Checked (Unit {0}) = check_part all in
    ap (λ (o : Option Block). fault_or (place_of number p.Exception) (check p.Exception o) (fault_or (place_of number p.RolledBack) (check p.RolledBack o) (fault_or (place_of number p.Remove) (check p.Remove o) (Ok tt)))) e
    ∙ callback_found all block (place_of number p.Exception) OnException block.exception _
    ∙ ap (λ rest. fault_in (callback_of all block (place_of number p.Exception) OnException block.exception) >>= λ _. rest)
    (callback_found all block (place_of number p.RolledBack) OnRolledBack block.rolled_back _
    ∙ ap (λ rest. fault_in (callback_of all block (place_of number p.RolledBack) OnRolledBack block.rolled_back) >>= λ _. rest)
    (callback_found all block (place_of number p.Remove) OnRemove block.remove _))

block_found : (all : Codes) (number : ℕ) (block : Block) → slice_get all.blocks number ≡ Some block → first_fault all (map (place_of number) (parts_of block)) ≡ fault_in (block_of all number block)
block_found all number block e =
    let handlers : List CodePart = map p.Handler (range_with_len 0 (length block.handlers)) in
    let methods : List CodePart = map p.Method (range_with_len 0 (length block.methods)) in
    let three : List CodePart = p.Exception ∷ p.RolledBack ∷ p.Remove ∷ [] in
    ap (first_fault all) (map-append (place_of number) handlers (methods ++ three) ∙ ap (λ ps. map (place_of number) handlers ++ ps) (map-append (place_of number) methods three))
    ∙ first_fault-append all (map (place_of number) handlers) (map (place_of number) methods ++ others number)
    ∙ ap (λ rest. first_fault all (map (place_of number) handlers) >>= λ _. rest) (first_fault-append all (map (place_of number) methods) (others number))
    ∙ ap (λ one. one >>= λ _. first_fault all (map (place_of number) methods) >>= λ _. first_fault all (others number)) (handlers_found all number block e)
    ∙ ap (λ one. fault_in (handlers_of all block number 0 block.handlers) >>= λ _. one >>= λ _. first_fault all (others number)) (methods_found all number block e)
    ∙ ap (λ rest. fault_in (handlers_of all block number 0 block.handlers) >>= λ _. fault_in (methods_of all block number 0 block.methods) >>= λ _. rest) (others_found all number block e)
    ∙ sym (forget_then (handlers_of all block number 0 block.handlers) _ _ (λ _. forget_then (methods_of all block number 0 block.methods) _ _ (λ _.
    forget_then (callback_of all block (place_of number p.Exception) OnException block.exception) _ _ (λ _.
    forget_then (callback_of all block (place_of number p.RolledBack) OnRolledBack block.rolled_back) _ _ (λ _.
    forget_then (callback_of all block (place_of number p.Remove) OnRemove block.remove) _ _ (λ _. refl))))))

blocks_found : (all : Codes) (n : ℕ) (blocks : List Block) → Ends all.blocks n blocks → first_fault all (places_in n blocks) ≡ fault_in (blocks_of all n blocks)
blocks_found all n [] h = refl
blocks_found all n (block ∷ more) h =
    first_fault-append all (map (place_of n) (parts_of block)) (places_in (suc n) more)
    ∙ ap (λ one. one >>= λ _. first_fault all (places_in (suc n) more)) (block_found all n block (ends_here all.blocks n block more h))
    ∙ ap (λ m. fault_in (block_of all n block) >>= λ _. first_fault all (places_in m more)) (sym (add-one n))
    ∙ ap (λ rest. fault_in (block_of all n block) >>= λ _. rest) (blocks_found all (n + 1) more (ends_next all.blocks n block more h))
    ∙ sym (two_forgotten (block_of all n block) (blocks_of all (n + 1) more) _)

pub codes_found : (all : Codes) → check_codes all ≡ forget (λ (program : Program). tt) (program_of all)
codes_found all = blocks_found all 0 all.blocks (ends_all all.blocks)

pub program_typed : (all : Codes) (program : Program) → program_of all ≡ Ok program → WellTyped all
program_typed all program h = check_codes-well_typed all (codes_found all ∙ ap (forget (λ (x : Program). tt)) h)

built : {A : Type 0} (r : Built A) → fault_in r ≡ Ok tt → (x : A) × (r ≡ Ok x)
built (Ok x) h = (x, refl)
built (Err fault) h = cc

pub typed_program : (all : Codes) → WellTyped all → (program : Program) × (program_of all ≡ Ok program)
typed_program all h = built (program_of all) (sym (codes_found all) ∙ well_typed-check_codes all h)
