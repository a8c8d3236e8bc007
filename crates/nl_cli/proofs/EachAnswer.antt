-- Words over a folder have an answer, since each step of it leads to one.
use Rattle.std.proofs.Common.{◌≡◌, inl, inr, ℕ, ◌+◌, List, [], ◌∷◌, ◌++◌, Option, Some, None, Result, Ok, Err, length, refl}
use Rattle.nl_fixed.specs.Nouns.{Bytes, Names}
use Rattle.nl_scan.specs.CodePart.{code_of}
use Rattle.nl_tree.specs.Checked.{Checked}
use Rattle.nl_tree.specs.Tree.{Node}
use Rattle.nl_experiment_fields.specs.declared.fields.Fields.{Fields}
use Rattle.nl_experiment.specs.Laws.{HaveTrees}
use Rattle.nl_experiment.specs.Plan.{experiment_says}
use Rattle.nl_experiment.specs.Texts.{LoneText, metrics_from, texts_of, until_texts, when_texts}
use Rattle.nl_experiment.specs.Widgets.{widgets_of}
use Rattle.nl_experiment.proofs.OneThing.{texts_have_trees_or_faults}
use Rattle.nl_check_model.specs.Verdict.{IsVerdict, Verdict}
use Rattle.nl_check_model.proofs.EachVerdict.{files_have_verdicts}
use Rattle.nl_check_model.proofs.OneVerdict.{programs_have_their_bodies}
use Rattle.nl_run.specs.Job.{Trees}
use Rattle.nl_cli.specs.Steps.{◌>>=◌, with_fault}
use Rattle.nl_cli.specs.declared.words.Role.{Role}
use Rattle.nl_cli.specs.declared.ends.End.{End}
use Rattle.nl_cli.specs.Words.{Command, command_of, paths_for}
use Rattle.nl_cli.specs.Inputs.{AreTreesOf, Found, InputsSay, IsJob, Job, MaybeTree, MetricTrees, ModelSays, TextsSay, end_of_key, found_in, read}
use Rattle.nl_cli.specs.Answer.{Answer, AnswersTo, answer_to, made_by, usage_answer}
use Rattle.nl_cli.specs.Laws.{WordsHaveAnswers}
use Rattle.nl_cli.proofs.InputSteps.{experiment_read, goes}

-- ---- texts

metrics_there : (p : Checked) (number : ℕ) (texts : Names) → HaveTrees p (metrics_from number texts) → (trees : List Node) × MetricTrees p texts trees
metrics_there p number [] have = ([], tt)
metrics_there p number (text ∷ texts) have =
    let (trees, are) = metrics_there p (number + 1) texts have.1 in
    (have.0.0 ∷ trees, (have.0.1, are))

until_there : (p : Checked) (text : Option Bytes) (behind : List LoneText) → HaveTrees p (until_texts text ++ behind)
    → ((tree : Option Node) × MaybeTree p text tree) × HaveTrees p behind
until_there p None behind have = ((None, tt), have)
until_there p (Some text) behind have = ((Some have.0.0, have.0.1), have.1)

when_there : (p : Checked) (text : Option Bytes) (texts : Names) → HaveTrees p (when_texts text ++ metrics_from 1 texts)
    → ((tree : Option Node) × MaybeTree p text tree) × HaveTrees p (metrics_from 1 texts)
when_there p None texts have = ((None, tt), have)
when_there p (Some text) texts have = ((Some have.0.0, have.0.1), have.1)

trees_there : (f : Fields) (p : Checked) → HaveTrees p (texts_of f) → (trees : Trees) × AreTreesOf f p trees
trees_there f p have =
    let ((until, is), later) = until_there p f.until (when_texts f.measure_when ++ metrics_from 1 f.metrics) have.1.1 in
    let ((when, so), others) = when_there p f.measure_when f.metrics later in
    let (metrics, are) = metrics_there p 1 f.metrics others in (
      record { setup = have.0.0; go = have.1.0.0; until = until; when = when; metrics = metrics },
      record { setup = have.0.1; go = have.1.0.1; until = is; when = so; metrics = are },
    )

texts_say : (f : Fields) (p : Checked) (source : Bytes) → length p.bodies ≡ length p.declared.procedures → (job : Result Job End) × TextsSay f p source job
texts_say f p source many = elim (texts_have_trees_or_faults p f many) [
  | inl have ↦ let (trees, are) = trees_there f p have in (Ok (record { fields = f; program = p; source = source; texts = trees }), inl (trees, (are, refl)))
  | inr (fault, bad) ↦ (Err (End.Plan fault), inr (fault, (bad, refl)))
]

by_verdict : (f : Fields) (model : Bytes) (verdict : Verdict) → IsVerdict (widgets_of f) model verdict → (job : Result Job End) × ModelSays f model job
by_verdict f model (Ok p) said = let (job, says) = texts_say f p (code_of model) (programs_have_their_bodies (widgets_of f) model p said) in (job, (Ok p, (said, says)))
by_verdict f model (Err fault) said = (Err (End.Model fault), (Err fault, (said, refl)))

inputs_say : (model experiment : Bytes) → (job : Result Job End) × InputsSay model experiment job
unfolding InputsSay
inputs_say model experiment =
    goes (with_fault end_of_key (experiment_says experiment)) (λ job fields. ModelSays fields model job)
    (λ fields. let (verdict, said) = files_have_verdicts (widgets_of fields) model in by_verdict fields model verdict said)

-- ---- answers

jobs_are_there : (found : Found) → (job : Result Job End) × IsJob found job
unfolding IsJob
jobs_are_there found =
    goes (read Role.Model found) (λ job. experiment_read found job) (λ model.
    goes (read Role.Experiment found) (λ job experiment. InputsSay model experiment job) (λ experiment. inputs_say model experiment))

answers_to : (found : Command → Found) (command : Option Command) → (answer : Answer) × AnswersTo command found answer
answers_to found None = (usage_answer, refl)
answers_to found (Some command) =
    let (job, is) = jobs_are_there (found command) in
    let result = job >>= made_by command in
    (answer_to (paths_for command) result, (result, ((job, (is, refl)), refl)))

pub words_have_answers : WordsHaveAnswers
words_have_answers words folder = answers_to (λ command. found_in command folder) (command_of words)
