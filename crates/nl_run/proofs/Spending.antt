-- Behind a text there are as many units fewer as it spent.
use Rattle.std.proofs.Common.{◌≡◌, ℕ, ◌+◌, ◌-◌, ◌≤◌, Bool, true, false, refl, arith}
use Rattle.nl_fixed.specs.Nouns.{Bytes}
use Rattle.nl_value.specs.Plain.{Plain, PlainNumber, PlainTruth, PlainWords, PlainItems, PlainTurtle, PlainPatch, PlainLink, PlainNobody, PlainSet}
use Rattle.nl_tree.specs.declared.declared.Form.{Form}
use Rattle.nl_tree.specs.declared.declared.Form.TheVariants as form
use Rattle.nl_run.specs.Course.ending
use Rattle.nl_run.specs.Course.{Ending, Finish, Standing, behind, commands_by, ending_of, first_state, outcome_of, put_back, truth_by, value_by}
use Rattle.nl_run.specs.Job.{Job, Lone}
use Rattle.nl_run.specs.Laws.{ConditionsSpend, MetricsSpend, TextsSpend, spent_by}
use Rattle.nl_run.proofs.Thrift.{text_thrifty}

-- what is left and what was spent are what there was
sum_is : (left given : ℕ) → left ≤ given → left + (given - left) ≡ given
sum_is left given some = omega (arith, some)

all_told : (j : Job) (f : Form) (l : Lone) (s : Standing) → (behind (outcome_of j f l s) s).left + spent_by j f l s ≡ s.left
all_told j f l s = sum_is (outcome_of j f l s).state.units s.left (text_thrifty j.program f l.tree (first_state s.scene s.left))

-- ---- commands

behind_commands : (j : Job) (called : Bytes) (l : Lone) (e : Ending) (s : Standing) (next other : Bool → Standing → Finish)
    → ((stopped : Bool) → next stopped s ≡ other stopped s) → commands_by j called l e s next ≡ commands_by j called l e s other
behind_commands j called l ending.Done s next other same = same false
behind_commands j called l ending.Stopped s next other same = same true
behind_commands j called l (ending.Reported v) s next other same = same false
behind_commands j called l ending.Budget s next other same = refl
behind_commands j called l (ending.Error why at body) s next other same = refl

pub texts_spend : TextsSpend
texts_spend j called l s next other same =
    let o = outcome_of j form.Commands l s in
    behind_commands j called l (ending_of form.Commands o.exit) (behind o s) next other (λ stopped. same stopped (behind o s) (all_told j form.Commands l s))

-- ---- reporters

behind_value : (j : Job) (called : Bytes) (l : Lone) (e : Ending) (s : Standing) (next other : Plain → Standing → Finish)
    → ((v : Plain) → next v s ≡ other v s) → value_by j called l e s next ≡ value_by j called l e s other
behind_value j called l (ending.Reported v) s next other same = same v
behind_value j called l ending.Done s next other same = refl
behind_value j called l ending.Stopped s next other same = refl
behind_value j called l ending.Budget s next other same = refl
behind_value j called l (ending.Error why at body) s next other same = refl

pub metrics_spend : MetricsSpend
metrics_spend j called l s next other same =
    let o = outcome_of j form.Reporter l s in
    behind_value j called l (ending_of form.Reporter o.exit) (behind o s) (λ v t. next v (put_back s.scene.stream t)) (λ v t. other v (put_back s.scene.stream t))
    (λ v. same v (put_back s.scene.stream (behind o s)) (all_told j form.Reporter l s))

behind_truth : (j : Job) (called : Bytes) (l : Lone) (v : Plain) (s : Standing) (next other : Bool → Standing → Finish)
    → ((truth : Bool) → next truth s ≡ other truth s) → truth_by j called l v s next ≡ truth_by j called l v s other
behind_truth j called l (PlainTruth truth) s next other same = same truth
behind_truth j called l (PlainNumber count) s next other same = refl
behind_truth j called l (PlainWords bytes) s next other same = refl
behind_truth j called l (PlainItems items) s next other same = refl
behind_truth j called l (PlainTurtle turtle) s next other same = refl
behind_truth j called l (PlainPatch patch) s next other same = refl
behind_truth j called l (PlainLink link) s next other same = refl
behind_truth j called l PlainNobody s next other same = refl
behind_truth j called l (PlainSet set) s next other same = refl

pub conditions_spend : ConditionsSpend
conditions_spend j called l s next other same =
    metrics_spend j called l s (λ v t. truth_by j called l v t next) (λ v t. truth_by j called l v t other)
    (λ v t sum. behind_truth j called l v t next other (λ truth. same truth t sum))
