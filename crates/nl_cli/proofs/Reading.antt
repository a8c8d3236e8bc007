-- The first bytes of files say what the whole files say.
use Rattle.std.proofs.Common.{◌≡◌, ℕ, ◌+◌, ◌≤◌, [], length, take, nat_lt, true, false, Bool, Option, Some, None, Result, Ok, Err, refl, sym, ap, ◌∙◌, subst, arith, cond, take_all}
use Rattle.std.specs.Option.{option_map}
use Rattle.std.proofs.lemmas.Bool.Decides.{nat_tests}
use Rattle.std.proofs.lemmas.List.{length-take}
use Rattle.nl_fixed.specs.Nouns.{Bytes, Names}
use Rattle.nl_outer.specs.Folder.{Folder, read_of, content_of}
use Rattle.nl_tree.specs.Checked.{Checked}
use Rattle.nl_experiment_keys.specs.Document.{document, document_or_fault, file_holds}
use Rattle.nl_experiment_keys.specs.Reading.{◌>>=◌, fault_at}
use Rattle.nl_experiment_keys.specs.declared.faults.PlanKind.TheVariants.{TooLong}
use Rattle.nl_experiment_fields.specs.File.{fields_in}
use Rattle.nl_experiment_fields.specs.declared.fields.Fields.{Fields}
use Rattle.nl_experiment.specs.Plan.{experiment_says, judged}
use Rattle.nl_experiment.specs.Widgets.{widgets_of}
use Rattle.nl_check_model.specs.Verdict.{FileSays, IsVerdict}
use Rattle.nl_check_model.proofs.FirstBytes.{first_bytes_say_all}
use Rattle.nl_cli.specs.Limits.{file_limit}
use Rattle.nl_cli.specs.Steps.{Goes, with_fault}
use Rattle.nl_cli.specs.declared.ends.End.{End}
use Rattle.nl_cli.specs.Inputs.{InputsSay, Job, ModelSays, end_of_key}
use Rattle.nl_cli.proofs.InputSteps.{goes_with}

-- a file of which a read gave these bytes
pub record IsRead (path : Bytes) (most : ℕ) (folder : Folder) (bytes : Bytes) : Type 0 where
  pub whole : Bytes
  pub there : content_of path folder ≡ Some whole
  pub first : bytes ≡ take (most + 1) whole

first_of : (o : Option Bytes) (n : ℕ) (bytes : Bytes) → option_map (take n) o ≡ Some bytes
    → (whole : Bytes) × (o ≡ Some whole) × (bytes ≡ take n whole)
first_of None n bytes e = cc
first_of (Some whole) n bytes e = (whole, refl, cc)

pub IsRead-read_of : (path : Bytes) (most : ℕ) (folder : Folder) (bytes : Bytes) → read_of path most folder ≡ Some bytes → IsRead path most folder bytes
unfolding read_of
IsRead-read_of path most folder bytes e =
    let (whole, there, first) = first_of (content_of path folder) (most + 1) bytes e in
    record { whole = whole; there = there; first = first }

-- ---- experiments

same_test : (limit : ℕ) (text : Bytes) → nat_lt limit (length (take (limit + 1) text)) ≡ nat_lt limit (length text)
same_test limit text = rw (length-take (limit + 1) text) (grind (arith, nat_tests))

short_take : {X : Type 0} (limit : ℕ) (text : Bytes) (b : Bool) (x : X) (f : Bytes → X) → nat_lt limit (length text) ≡ b → cond b x (f (take (limit + 1) text)) ≡ cond b x (f text)
short_take limit text true x f e = refl
short_take limit text false x f e =
    let short : length text ≤ limit + 1 = grind (arith, nat_tests) in
    ap f (take_all (limit + 1) text short)

within-take : {X : Type 0} (limit : ℕ) (x : X) (f : Bytes → X) (text : Bytes)
    → cond (nat_lt limit (length (take (limit + 1) text))) x (f (take (limit + 1) text)) ≡ cond (nat_lt limit (length text)) x (f text)
within-take limit x f text = rw (same_test limit text) (short_take limit text (nat_lt limit (length text)) x f refl)

file_holds-take : (text : Bytes) → file_holds (take (file_limit + 1) text) ≡ file_holds text
unfolding file_holds
file_holds-take text = within-take file_limit (Err (fault_at [] TooLong)) (λ text. document_or_fault (document text)) text

experiment_says-take : (text : Bytes) → experiment_says (take (file_limit + 1) text) ≡ experiment_says text
experiment_says-take text = ap (λ held. (held >>= fields_in) >>= judged) (file_holds-take text)

-- ---- models

not_long : (limit : ℕ) (long : Bool) (widgets : Names) (file : Bytes) (program : Checked) → FileSays limit long widgets file (Ok program) → long ≡ false
not_long limit true widgets file program said = cc
not_long limit false widgets file program said = refl

-- a file that is a program is one whole
whole_file : (limit : ℕ) (text : Bytes) → nat_lt limit (length (take (limit + 1) text)) ≡ false → take (limit + 1) text ≡ text
whole_file limit text within =
    let short : nat_lt limit (length text) ≡ false = sym (same_test limit text) ∙ within in
    let few : length text ≤ limit + 1 = grind (arith, nat_tests) in
    take_all (limit + 1) text few

program_whole : (widgets : Names) (text : Bytes) (program : Checked) → IsVerdict widgets (take (file_limit + 1) text) (Ok program) → take (file_limit + 1) text ≡ text
unfolding IsVerdict
program_whole widgets text program said =
    whole_file file_limit text (not_long file_limit (nat_lt file_limit (length (take (file_limit + 1) text))) widgets (take (file_limit + 1) text) program said)

model_says-take : (fields : Fields) (text : Bytes) (job : Result Job End) → ModelSays fields (take (file_limit + 1) text) job → ModelSays fields text job
model_says-take fields text job (Ok program, (said, goes)) =
    subst (λ bytes. ModelSays fields bytes job) (program_whole (widgets_of fields) text program said) (Ok program, (said, goes))
model_says-take fields text job (Err fault, (said, goes)) = (Err fault, (first_bytes_say_all (widgets_of fields) text (Err fault) said, goes))

-- ---- both

pub inputs_say-take : (model experiment : Bytes) (job : Result Job End) → InputsSay (take (file_limit + 1) model) (take (file_limit + 1) experiment) job → InputsSay model experiment job
unfolding InputsSay
inputs_say-take model experiment job says =
    let first = take (file_limit + 1) model in
    let here = subst (λ said. Goes (with_fault end_of_key said) job (λ fields. ModelSays fields first job)) (experiment_says-take experiment) says in
    goes_with (with_fault end_of_key (experiment_says experiment)) job (λ fields. ModelSays fields first job) (λ fields. ModelSays fields model job)
    (λ fields said. model_says-take fields model job said) here
