-- Steps that read nothing but fields do the same over any answers that have the same fields.
use Rattle.std.proofs.Common.{◌≡◌, ◌+◌, ◌∙◌, ℕ, zero, suc, Bool, true, false, cond, List, Some, refl, ap}
use Rattle.slee_value.specs.declared.ids.EntityId.{EntityId}
use Rattle.slee_value.specs.declared.value.Value.TheVariants as v
use Rattle.slee_effect.specs.declared.reference.Ref.{Ref}
use Rattle.slee_effect.specs.declared.reference.Ref.TheVariants.{Known, Fresh}
use Rattle.slee_effect.specs.declared.value.Val.{Val}
use Rattle.slee_effect.specs.declared.value.Val.TheVariants.{Plain}
use Rattle.script_types.specs.declared.term.Atom.{Atom}
use Rattle.script_types.specs.declared.term.Atom.TheVariants as a
use Rattle.script_types.specs.declared.term.Question.{Question}
use Rattle.script_types.specs.declared.term.Question.TheVariants as g
use Rattle.script_types.specs.declared.term.Joint.{Joint}
use Rattle.script_types.specs.Program as p
use Rattle.script_types.specs.Program.{Term, Single, Ask, Compare, Combine, Step, Steps, BlockProgram, Program}
use Rattle.script_meaning.specs.declared.key.Key.TheVariants as k
use Rattle.script_meaning.specs.declared.outcome.Args.{Args}
use Rattle.script_meaning.specs.Answers.{Answers}
use Rattle.script_meaning.specs.Running.{Setting, Holds, State, Ending, Gave, Broke, Needs, Stays, Run, then_run, give, tick, ticked, observe, answered, look, declare, assign, scoped}
use Rattle.script_meaning.specs.Values.{decides, with_flag}
use Rattle.script_meaning.specs.Observing.{key_of}
use Rattle.script_meaning.specs.Terms.{single, ask, combine, node, eval}
use Rattle.script_meaning.specs.Doing.{text_of}
use Rattle.script_meaning.specs.Steps.{Flow, Next, Returned, Calling, next, followed, either, choose, turns, act, act_all}
use Rattle.script_meaning.specs.Calls.{call_at}
use Rattle.script_meaning.specs.Meaning.{Before, setting_of, start, report, meaning_in}
use Rattle.script_laws.proofs.LikeTerms.{over}
use Rattle.router_basis.proofs.OwnScripts.{IsOwnAtom, IsOwnQuestion, IsOwnTerm, IsOwnStep, AreOwnSteps}

-- two runs end alike from each state
abbrev Same : {A : Type 0} → Run A → Run A → Type 0
Same {A} x y = (st : State) → x st ≡ y st

then_same : {A B : Type 0} (e r : Ending A) (f g : A → Run B) → e ≡ r → ((x : A) → Same (f x) (g x)) → then_run e f ≡ then_run r g
then_same (Gave x st) r f g same go = go x st ∙ ap (λ z. then_run z g) same
then_same (Broke kind text st) r f g same go = ap (λ z. then_run z g) same
then_same (Needs key) r f g same go = ap (λ z. then_run z g) same
then_same Stays r f g same go = ap (λ z. then_run z g) same

ticked_same : {A : Type 0} (x y : Run A) → Same x y → Same (ticked x) (ticked y)
ticked_same x y h st = then_same (tick st) (tick st) (λ _. x) (λ _. y) refl (λ _. h)

cond_same : {A : Type 0} (b : Bool) (x y z : Run A) → Same y z → Same (cond b x y) (cond b x z)
cond_same true x y z h st = refl
cond_same false x y z h st = h st

scoped_same : {A : Type 0} (x y : Run A) → Same x y → Same (scoped x) (scoped y)
scoped_same x y h st = then_same (x st) (y st) _ _ (h st) (λ v new. refl)

flag_same : {A : Type 0} (x : Val) (f g : Bool → Run A) → ((b : Bool) → Same (f b) (g b)) → Same (with_flag x f) (with_flag x g)
flag_same (Plain (v.Bool b)) f g h st = h b st
flag_same _ f g h st = refl

either_same : (b : Bool) (x y z w : Run Flow) → Same x y → Same z w → Same (either b x z) (either b y w)
either_same true x y z w h j st = h st
either_same false x y z w h j st = j st

choose_same : (b : Val) (x y z w : Run Flow) → Same x y → Same z w → Same (choose b x z) (choose b y w)
choose_same b x y z w h j = flag_same b (λ t. either t x z) (λ t. either t y w) (λ t. either_same t x y z w h j)

followed_same : (flow : Flow) (x y : Run Flow) → Same x y → Same (followed flow x) (followed flow y)
followed_same Next x y h st = h st
followed_same (Returned v) x y h st = refl

next_same : (x y : Run (Unit {0})) → Same x y → Same (next x) (next y)
next_same x y h st = then_same (x st) (y st) _ _ (h st) (λ _ mid. refl)

turns_same : (n : ℕ) (test test2 : Run Val) (body body2 : Run Flow) → Same test test2 → Same body body2 → Same (turns n test body) (turns n test2 body2)
turns_same zero test test2 body body2 h j st = refl
turns_same (suc n) test test2 body body2 h j st =
    then_same (test st) (test2 st) _ _ (h st) (λ x.
    choose_same x _ _ (give Next) (give Next) (λ mid. then_same (body mid) (body2 mid) _ _ (j mid) (λ flow. followed_same flow _ _ (turns_same n test test2 body body2 h j))) (λ mid. refl))

module _ (m : Setting) (other : Answers) (alike : (e : EntityId) (name : List ℕ) → m.answers (k.Field e name) ≡ other (k.Field e name)) where
  abbrev too : Setting
  too = over m other

  field_same : (n : ℕ) (name : List ℕ) → Same (look m (Some (k.Field (record { 0 = n }) name))) (look too (Some (k.Field (record { 0 = n }) name)))
  unfolding observe
  field_same n name st =
      let key : _ = k.Field (record { 0 = n }) name in
      then_same (observe m key st) (observe too key st) _ _ refl (λ _ mid. ap (λ o. answered o key mid) (alike (record { 0 = n }) name))

  own_same : (me : Ref) (name : List ℕ) → Same (look m (key_of (λ n. k.Field (record { 0 = n }) name) me)) (look too (key_of (λ n. k.Field (record { 0 = n }) name) me))
  own_same (Known n) name st = field_same n name st
  own_same (Fresh n) name st = refl

  single_same : (x : Atom) → IsOwnAtom x → Same (single m x) (single too x)
  single_same (a.Constant x) own st = refl
  single_same (a.Slot i) own st = refl
  single_same (a.Field x kind) own st = then_same (look m (key_of (λ n. k.Field (record { 0 = n }) x.name) m.me) st) (look too (key_of (λ n. k.Field (record { 0 = n }) x.name) m.me) st) _ _ (own_same m.me x.name st) (λ seen mid. refl)
  single_same a.Now own st = elim own [ ]
  single_same a.Activity own st = elim own [ ]
  single_same a.Failure own st = elim own [ ]
  single_same (a.EventField _ _) own st = elim own [ ]
  single_same (a.Count _) own st = elim own [ ]
  single_same (a.Priority _) own st = elim own [ ]

  ask_same : (question : Question) → IsOwnQuestion question → (x : Val) → Same (ask m question x) (ask too question x)
  ask_same g.Negative own x st = refl
  ask_same g.Not own x st = refl
  ask_same g.TextOfInt own x st = refl
  ask_same g.TextOfBool own x st = refl
  ask_same g.Len own x st = refl
  ask_same g.Active own x st = elim own [ ]
  ask_same g.Attached own x st = elim own [ ]
  ask_same (g.Masked _) own x st = elim own [ ]
  ask_same (g.Attribute _ _) own x st = elim own [ ]
  ask_same g.Bound own x st = elim own [ ]
  ask_same g.Lookup own x st = elim own [ ]
  ask_same (g.Profile _ _ _) own x st = elim own [ ]
  ask_same (g.HasProfile _) own x st = elim own [ ]
  ask_same g.HasTimer own x st = elim own [ ]

  combine_same : (joint : Joint) (x : Val) (y z : Run Val) → Same y z → Same (combine joint x y) (combine joint x z)
  combine_same joint x y z h = cond_same (decides joint x) (give x) _ _ (λ st. then_same (y st) (z st) _ _ (h st) (λ w mid. refl))

  node_same : (x : Term) → IsOwnTerm x → Same (node m x) (node too x)
  node_same (Single x) own st = single_same x own st
  node_same (Ask question x) own st =
      then_same (ticked (node m x) st) (ticked (node too x) st) _ _ (ticked_same (node m x) (node too x) (node_same x own.1) st) (λ y. ask_same question own.0 y)
  node_same (Compare test x y) own st =
      then_same (ticked (node m x) st) (ticked (node too x) st) _ _ (ticked_same (node m x) (node too x) (node_same x own.0) st) (λ one mid.
      then_same (ticked (node m y) mid) (ticked (node too y) mid) _ _ (ticked_same (node m y) (node too y) (node_same y own.1) mid) (λ two s. refl))
  node_same (Combine joint x y) own st =
      then_same (ticked (node m x) st) (ticked (node too x) st) _ _ (ticked_same (node m x) (node too x) (node_same x own.0) st) (λ one.
      combine_same joint one (ticked (node m y)) (ticked (node too y)) (ticked_same (node m y) (node too y) (node_same y own.1)))

  eval_same : (x : Term) → IsOwnTerm x → Same (eval m x) (eval too x)
  eval_same x own = ticked_same (node m x) (node too x) (node_same x own)

  text_same : (x : Term) → IsOwnTerm x → Same (text_of m x) (text_of too x)
  text_same x own st = then_same (eval m x st) (eval too x st) _ _ (eval_same x own st) (λ y mid. refl)

  assigned : (x : Term) (g : Val → Run (Unit {0})) → IsOwnTerm x → Same (next (λ st. then_run (eval m x st) g)) (next (λ st. then_run (eval too x st) g))
  assigned x g own = next_same (λ st. then_run (eval m x st) g) (λ st. then_run (eval too x st) g) (λ st. then_same (eval m x st) (eval too x st) g g (eval_same x own st) (λ y mid. refl))

  mutual
    act_same : (call call2 : Calling) (x : Step) → IsOwnStep x → Same (act m call x) (act too call2 x)
    act_same call call2 (p.Assign (p.New x)) own st = assigned x (λ y. declare (Holds y)) own st
    act_same call call2 (p.Assign (p.Variable i x)) own st = assigned x (assign i) own st
    act_same call call2 (p.Say (p.Emit x)) own st = then_same (text_of m x st) (text_of too x st) _ _ (text_same x own st) (λ t mid. refl)
    act_same call call2 (p.If x body second) own st =
        then_same (eval m x st) (eval too x st) _ _ (eval_same x own.0 st) (λ y.
        choose_same y (scoped (act_all m call body)) (scoped (act_all too call2 body)) (scoped (act_all m call second)) (scoped (act_all too call2 second))
        (scoped_same (act_all m call body) (act_all too call2 body) (act_all_same call call2 body own.1.0)) (scoped_same (act_all m call second) (act_all too call2 second) (act_all_same call call2 second own.1.1)))
    act_same call call2 (p.While x body) own st =
        turns_same (st.left + 1) (eval m x) (eval too x) (scoped (act_all m call body)) (scoped (act_all too call2 body)) (eval_same x own.0)
        (scoped_same (act_all m call body) (act_all too call2 body) (act_all_same call call2 body own.1)) st
    act_same call call2 (p.Assign (p.Field _ _)) own st = elim own [ ]
    act_same call call2 (p.Assign (p.Attribute _ _ _)) own st = elim own [ ]
    act_same call call2 (p.Say (p.Usage _ _)) own st = elim own [ ]
    act_same call call2 (p.Say (p.Return _)) own st = elim own [ ]
    act_same call call2 (p.Say (p.Throw _)) own st = elim own [ ]
    act_same call call2 (p.Say p.Rollback) own st = elim own [ ]
    act_same call call2 (p.Entity _) own st = elim own [ ]
    act_same call call2 (p.Activity _) own st = elim own [ ]
    act_same call call2 (p.Timer _) own st = elim own [ ]
    act_same call call2 (p.Invoke _) own st = elim own [ ]
    act_same call call2 (p.For _ _) own st = elim own [ ]

    act_all_same : (call call2 : Calling) (xs : Steps) → AreOwnSteps xs → Same (act_all m call xs) (act_all too call2 xs)
    act_all_same call call2 p.Nothing own st = refl
    act_all_same call call2 (p.Then x rest) own st =
        then_same (ticked (act m call x) st) (ticked (act too call2 x) st) _ _ (ticked_same (act m call x) (act too call2 x) (act_same call call2 x own.0) st) (λ flow.
        followed_same flow (act_all m call rest) (act_all too call2 rest) (act_all_same call call2 rest own.1))

-- such steps mean the same
pub meaning_same : (answers other : Answers) (program : Program) (block : BlockProgram) (steps : Steps) (e : EntityId) (arguments : Args) (before : Before)
    → ((e : EntityId) (name : List ℕ) → answers (k.Field e name) ≡ other (k.Field e name)) → AreOwnSteps steps
    → meaning_in answers program block steps e arguments before ≡ meaning_in other program block steps e arguments before
unfolding meaning_in
meaning_same answers other program block steps e arguments before alike own =
    let s : Setting = setting_of answers block e arguments before in
    ap report (act_all_same s other alike (call_at s program 8) (call_at (over s other) program 8) steps own start)
