-- A value of another type than the wanted one stays.
use Rattle.std.proofs.Common.{◌≡◌, ℤ, ℕ, Bool, List, refl}
use Rattle.slee_value.specs.declared.value.Value.TheVariants as v
use Rattle.slee_effect.specs.declared.reference.Ref.{Ref}
use Rattle.slee_effect.specs.declared.reference.Ref.TheVariants.{Known, Fresh}
use Rattle.slee_effect.specs.declared.value.Val.{Val}
use Rattle.slee_effect.specs.declared.value.Val.TheVariants.{Plain, NewActivity, NewTimer}
use Rattle.script_meaning.specs.Running.{State, Stays, Run}
use Rattle.script_meaning.specs.Values.{with_int, with_text, with_flag, with_activity, with_timer, activity_value}
use Rattle.script_run_machine.specs.Kinds.{NoInt, NoText, NoFlag, NoActivity, NoTimer, timer_value}

pub no_int_stays : {A : Type 0} (x : Val) (g : ℤ → Run A) (st : State) → NoInt x → with_int x g st ≡ Stays
no_int_stays (Plain (v.Int n)) g st other = absurd other
no_int_stays (Plain (v.Text t)) g st other = refl
no_int_stays (Plain (v.Bool b)) g st other = refl
no_int_stays (Plain (v.Activity a)) g st other = refl
no_int_stays (Plain (v.Timer t)) g st other = refl
no_int_stays (NewActivity n) g st other = refl
no_int_stays (NewTimer n) g st other = refl

pub no_text_stays : {A : Type 0} (x : Val) (g : List ℕ → Run A) (st : State) → NoText x → with_text x g st ≡ Stays
no_text_stays (Plain (v.Int n)) g st other = refl
no_text_stays (Plain (v.Text t)) g st other = absurd other
no_text_stays (Plain (v.Bool b)) g st other = refl
no_text_stays (Plain (v.Activity a)) g st other = refl
no_text_stays (Plain (v.Timer t)) g st other = refl
no_text_stays (NewActivity n) g st other = refl
no_text_stays (NewTimer n) g st other = refl

pub no_flag_stays : {A : Type 0} (x : Val) (g : Bool → Run A) (st : State) → NoFlag x → with_flag x g st ≡ Stays
no_flag_stays (Plain (v.Int n)) g st other = refl
no_flag_stays (Plain (v.Text t)) g st other = refl
no_flag_stays (Plain (v.Bool b)) g st other = absurd other
no_flag_stays (Plain (v.Activity a)) g st other = refl
no_flag_stays (Plain (v.Timer t)) g st other = refl
no_flag_stays (NewActivity n) g st other = refl
no_flag_stays (NewTimer n) g st other = refl

pub no_activity_stays : {A : Type 0} (x : Val) (g : Ref → Run A) (st : State) → NoActivity x → with_activity x g st ≡ Stays
no_activity_stays (Plain (v.Int n)) g st other = refl
no_activity_stays (Plain (v.Text t)) g st other = refl
no_activity_stays (Plain (v.Bool b)) g st other = refl
no_activity_stays (Plain (v.Activity a)) g st other = absurd other
no_activity_stays (Plain (v.Timer t)) g st other = refl
no_activity_stays (NewActivity n) g st other = absurd other
no_activity_stays (NewTimer n) g st other = refl

pub no_timer_stays : {A : Type 0} (x : Val) (g : Ref → Run A) (st : State) → NoTimer x → with_timer x g st ≡ Stays
no_timer_stays (Plain (v.Int n)) g st other = refl
no_timer_stays (Plain (v.Text t)) g st other = refl
no_timer_stays (Plain (v.Bool b)) g st other = refl
no_timer_stays (Plain (v.Activity a)) g st other = refl
no_timer_stays (Plain (v.Timer t)) g st other = absurd other
no_timer_stays (NewActivity n) g st other = refl
no_timer_stays (NewTimer n) g st other = absurd other

pub activity_given : {A : Type 0} (r : Ref) (g : Ref → Run A) (st : State) → with_activity (activity_value r) g st ≡ g r st
activity_given (Known n) g st = refl
activity_given (Fresh n) g st = refl

pub timer_given : {A : Type 0} (r : Ref) (g : Ref → Run A) (st : State) → with_timer (timer_value r) g st ≡ g r st
timer_given (Known n) g st = refl
timer_given (Fresh n) g st = refl
