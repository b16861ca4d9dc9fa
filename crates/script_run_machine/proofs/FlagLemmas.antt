-- Operators of truth values stay on values of other types.
use Rattle.std.proofs.Common.{◌≡◌, Bool, true, refl}
use Rattle.slee_effect.specs.declared.value.Val.{Val}
use Rattle.script_types.specs.declared.term.Joint.{Joint}
use Rattle.script_types.specs.declared.term.Joint.TheVariants as j
use Rattle.script_meaning.specs.Running.{State, Stays}
use Rattle.script_meaning.specs.Values.{flag, apply}
use Rattle.script_run_machine.specs.Kinds.{NoFlag, is_choice}
use Rattle.script_run_machine.proofs.KindLemmas.{no_flag_stays}

pub left_unchosen : (joint : Joint) (x y : Val) (st : State) → is_choice joint ≡ true → NoFlag x → apply joint x y st ≡ Stays
left_unchosen j.Both x y st is other = no_flag_stays x _ st other
left_unchosen j.Either x y st is other = no_flag_stays x _ st other
left_unchosen j.Add x y st is other = absurd cc
left_unchosen j.Subtract x y st is other = absurd cc
left_unchosen j.Multiply x y st is other = absurd cc
left_unchosen j.Divide x y st is other = absurd cc
left_unchosen j.Remainder x y st is other = absurd cc
left_unchosen j.Join x y st is other = absurd cc

pub right_unchosen : (joint : Joint) (b : Bool) (y : Val) (st : State) → NoFlag y → apply joint (flag b) y st ≡ Stays
right_unchosen j.Both b y st other = no_flag_stays y _ st other
right_unchosen j.Either b y st other = no_flag_stays y _ st other
right_unchosen j.Add b y st other = refl
right_unchosen j.Subtract b y st other = refl
right_unchosen j.Multiply b y st other = refl
right_unchosen j.Divide b y st other = refl
right_unchosen j.Remainder b y st other = refl
right_unchosen j.Join b y st other = refl
