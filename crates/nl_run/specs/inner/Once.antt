-- That what is left of a run is its course can be shown in one way only, and so can what the run is ready for. A run may keep both as facts.
use Rattle.std.specs.Prelude.{◌≡◌, ℕ, zero, suc, ◌+◌, List, refl}
use Rattle.std.specs.Coded.{Coded, Coded-set, Π_prop, Unit-prop, le_prop, code_by, coded_list, coded_ℕ, coded×}
use Rattle.nl_tree.specs.Checked.{checked_code}
use Rattle.nl_tree.specs.declared.declared.Form.{Form}
use Rattle.nl_tree.specs.declared.declared.Form.TheVariants as form
use Rattle.nl_agents.specs.declared.store.Store.{Ghosts}
use Rattle.nl_exec.specs.Machines.{form_of, program_of, spent_of}
use Rattle.nl_exec.specs.inner.Codes.{phase_code}
use Rattle.nl_exec.specs.declared.phase.Phase.TheVariants as machine
use Rattle.nl_run.specs.Course.{Finish, course_within}
use Rattle.nl_run.specs.Going.{CourseIn, ReadyIn}
use Rattle.nl_run.specs.Job.{Job}
use Rattle.nl_run.specs.Left.{IsThere, TextIsThrifty, TextStands, form_in, rest_by}
use Rattle.nl_run.specs.declared.phase.Open.{Open}
use Rattle.nl_run.specs.declared.phase.Open.TheVariants as open_
use Rattle.nl_run.specs.declared.phase.Phase as run_phase
use Rattle.nl_run.specs.declared.phase.Phase.TheVariants as phase
use Rattle.nl_run.specs.declared.progress.Progress.{Progress}
use Rattle.nl_run.specs.declared.rows.Row.{Row}
use Rattle.nl_run.specs.declared.rows.RunEnd.{RunEnd}
use Rattle.nl_run.specs.inner.Codes.{end_code, row_code}

abbrev RunPhase : Type 0
RunPhase = run_phase.Phase

abbrev pub finish_code : Coded Finish
finish_code = code_by (RunEnd × (ℕ × (List Row × ℕ))) (coded× end_code (coded× coded_ℕ (coded× (coded_list row_code) coded_ℕ)))
    (λ f. (f.how, (f.step, (f.rows, f.left))))
    (λ c. record { how = c.0; step = c.1.0; rows = c.1.1.0; left = c.1.1.1 })
    (λ _. refl)

-- ---- what a run is ready for

abbrev number_of_form : Form → ℕ
number_of_form form.Commands = 0
number_of_form form.Reporter = 1

abbrev form_at : ℕ → Form
form_at zero = form.Commands
form_at (suc number) = form.Reporter

abbrev form_again : (f : Form) → form_at (number_of_form f) ≡ f
form_again form.Commands = refl
form_again form.Reporter = refl

abbrev form_code : Coded Form
form_code = code_by ℕ coded_ℕ number_of_form form_at form_again

nothing_once : IsProp ⊥
nothing_once = λ x y. absurd x

there_once : (text : Open) (j : Job) → IsProp (IsThere text j)
there_once open_.Setup j = Unit-prop
there_once open_.Go j = Unit-prop
there_once (open_.Until l mark) j = Unit-prop
there_once (open_.When l mark) j = Unit-prop
there_once (open_.Metric at) j = le_prop

text_once : {S : Type 0} {G : Ghosts S} (p : RunPhase) (j : Job) (g : Progress S G) → IsProp (TextStands p j g)
text_once (phase.Text text) j g = λ x y i. record {
  opened = Π_prop (λ closed. nothing_once) x.opened y.opened i;
  form = Coded-set form_code (form_of g.machine) (form_in text) x.form y.form i;
  there = there_once text j x.there y.there i;
}
text_once phase.Step j g = Coded-set phase_code g.machine.phase machine.Closed
text_once phase.Wanting j g = Coded-set phase_code g.machine.phase machine.Closed
text_once (phase.Over how) j g = Unit-prop
text_once phase.Ended j g = Unit-prop
text_once phase.Failed j g = Unit-prop

thrift_once : {S : Type 0} {G : Ghosts S} (p : RunPhase) (g : Progress S G) → IsProp (TextIsThrifty p g)
thrift_once (phase.Text text) g = Π_prop (λ n. le_prop)
thrift_once phase.Step g = Unit-prop
thrift_once phase.Wanting g = Unit-prop
thrift_once (phase.Over how) g = Unit-prop
thrift_once phase.Ended g = Unit-prop
thrift_once phase.Failed g = Unit-prop

pub ready_once : {S : Type 0} {G : Ghosts S} (p : RunPhase) (j : Job) (g : Progress S G) → IsProp (ReadyIn p j g)
ready_once p j g = Π_prop (λ going. λ x y i. record {
  program = Coded-set checked_code (program_of g.machine) j.program x.program y.program i;
  text = text_once p j g x.text y.text i;
  counted = le_prop x.counted y.counted i;
  begun = le_prop x.begun y.begun i;
  thrifty = thrift_once p g x.thrifty y.thrifty i;
})

-- ---- what it comes to

pub course_once : {S : Type 0} {G : Ghosts S} (p : RunPhase) (j : Job) (g : Progress S G) → IsProp (CourseIn p j g)
course_once p j g = Π_prop (λ going. Π_prop (λ n. Coded-set finish_code (rest_by p j g n) (course_within j (spent_of g.machine + n))))
