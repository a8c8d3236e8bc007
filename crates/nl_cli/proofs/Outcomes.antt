-- From the course of a command and the line that was told to the outcome of the call.
use Rattle.std.proofs.Common.{◌≡◌, ◌⊎◌, [], Option, Some, None, Result, Ok, Err, refl, sym, ap, ◌∙◌, inl, inr, subst}
use Rattle.std.specs.Option.{ForSome, option_and_then}
use Rattle.nl_fixed.specs.Nouns.{Bytes}
use Rattle.nl_outer.specs.Bytes.{Appended}
use Rattle.nl_outer.specs.Folder.{Folder}
use Rattle.nl_outer.specs.Nouns.{Path, Words}
use Rattle.nl_cli.specs.declared.words.Role.{Role}
use Rattle.nl_cli.specs.declared.ends.End.{End}
use Rattle.nl_cli.specs.declared.ends.Status.{Status}
use Rattle.nl_cli.specs.Words.{Command, command_of, named_by, paths_for}
use Rattle.nl_cli.specs.Inputs.{Found, found_in, without}
use Rattle.nl_cli.specs.Answer.{Answer, AnswersTo, ComesTo, IsAnswer, IsAnswerWithout, answer_to, read_answer, cannot_read, line_of, status_of, memory_line, write_line}
use Rattle.nl_cli.specs.Outcome.{AllRead, Asked, Given, Gets, Answered, Begun, Complete, FailedInTurn, ReadFailed, MemoryWanted, Outcome, WriteFailed, told_over}
use Rattle.nl_cli.specs.inner.Stages.{NothingPut, PartPut, Runs, StopsAt, Tells}
use Rattle.nl_cli.proofs.OneAnswer.{answers_have_one_status}

-- the answer where the words are a form
answers_named : (found : Command → Found) (words : Words) (command : Command) (result : Result Bytes End) (answer : Answer) → command_of words ≡ Some command
    → ComesTo command (found command) result → answer ≡ answer_to (paths_for command) result → AnswersTo (command_of words) found answer
answers_named found words command result answer form comes is = subst (λ (o : Option Command). AnswersTo o found answer) (sym form) (result, (comes, is))

is_answer : (words : Words) (command : Command) (folder : Folder) (result : Result Bytes End) → command_of words ≡ Some command
    → ComesTo command (found_in command folder) result → IsAnswer words folder (answer_to (paths_for command) result)
is_answer words command folder result form comes =
    answers_named (λ c. found_in c folder) words command result (answer_to (paths_for command) result) form comes refl

-- what holds over the folder of a command holds over that of the words that ask for it
over_words : (P : Folder → Type 0) (words : Words) (command : Command) (files : Asked) → command_of words ≡ Some command
    → ForSome (told_over (Some command) files.folder) P → ForSome (told_over (command_of words) files.folder) P
over_words P words command files form holds = subst (λ (o : Option Command). ForSome (told_over o files.folder) P) (sym form) holds

-- a part of the answer's bytes was put
begun : (words : Words) (command : Command) (folder : Folder) (out : Given) → command_of words ≡ Some command → PartPut command (found_in command folder) out → Begun words folder out
begun words command folder out form part = record {
  answer = answer_to (paths_for command) (Ok part.bytes);
  is_answer = is_answer words command folder (Ok part.bytes) form part.comes;
  is_done = refl;
  part = part.part;
}

-- memory was refused for the line of an end before which nothing was put
wanted_for_line : (words : Words) (files : Asked) (out err : Given) → AllRead files ⊎ FailedInTurn words files
    → NothingPut out → Gets memory_line err → MemoryWanted words files out err
wanted_for_line words files out err read nothing line =
    record { read = read; put = nothing.sound; bytes = λ folder is. inl nothing.nothing; line = line }

-- memory was refused in the course
wanted_in_course : (words : Words) (command : Command) (files : Asked) (out err : Given) → command_of words ≡ Some command
    → Runs command files out (Err End.Memory) → Gets memory_line err → MemoryWanted words files out err
wanted_in_course words command files out err form runs line = record {
  read = inl runs.0;
  put = runs.1;
  bytes = over_words (λ folder. Appended out.before out.after [] ⊎ Begun words folder out) words command files form (λ folder is.
      elim (runs.2 folder is) [ inl nothing ↦ inl nothing | inr part ↦ inr (begun words command folder out form part) ]);
  line = line;
}

-- a put failed in the course
write_failed : (words : Words) (command : Command) (files : Asked) (out err : Given) → command_of words ≡ Some command
    → Runs command files out (Err End.Write) → Gets write_line err → WriteFailed words files out err
write_failed words command files out err form runs line = record {
  read = runs.0;
  rose = runs.1;
  bytes = over_words (λ folder. Begun words folder out) words command files form (λ folder is. begun words command folder out form (runs.2 folder is));
  line = line;
}

-- an end that is defined is the answer
answered : (words : Words) (command : Command) (files : Asked) (out err : Given) (end : End) → command_of words ≡ Some command
    → ForSome (told_over (Some command) files.folder) (λ folder. ComesTo command (found_in command folder) (Err end))
    → Appended out.before out.after [] → Gets (line_of (paths_for command) end) err
    → ForSome (told_over (command_of words) files.folder) (λ folder. Answered words folder out err (status_of end))
answered words command files out err end form ends nothing line =
    over_words (λ folder. Answered words folder out err (status_of end)) words command files form (λ folder is. record {
      answer = answer_to (paths_for command) (Err end);
      is_answer = is_answer words command folder (Err end) form (ends folder is);
      same_status = refl;
      bytes = nothing;
      line = line;
    })

-- a read that failed
failed_in_turn : (words : Words) (command : Command) (files : Asked) (role : Role) → command_of words ≡ Some command → StopsAt command files role → FailedInTurn words files
failed_in_turn words command files role form stops = record {
  rose = stops.rose;
  role = role;
  named = ap (option_and_then (λ (c : Command). named_by c role)) form ∙ stops.named;
  turn = over_words (λ folder. IsAnswerWithout role words folder (read_answer files.last_fault)) words command files form (λ folder is.
      answers_named (λ c. without role (found_in c folder)) words command (Err (End.Read role)) (read_answer files.last_fault) form (stops.turn folder is) (ap read_answer (sym stops.told)));
}

read_failed : (words : Words) (command : Command) (files : Asked) (out err : Given) (role : Role) → command_of words ≡ Some command
    → StopsAt command files role → NothingPut out → Gets (line_of (paths_for command) (End.Read role)) err → ReadFailed words files out err
read_failed words command files out err role form stops nothing line =
    let P : Path → Type 0 = λ path. Gets (cannot_read path) err in
    record { read = failed_in_turn words command files role form stops; put = nothing.sound; nothing = nothing.nothing; line = subst P stops.told line }

-- the outcome of an end that was told
module _ (words : Words) (command : Command) (files : Asked) (out err : Given) where
  outcome_of : (end : End) → command_of words ≡ Some command → Runs command files out (Err end) → Gets (line_of (paths_for command) end) err → Outcome words files out err (status_of end)
  outcome_of (End.Read role) form runs line = read_failed words command files out err role form runs.0 runs.1 line
  outcome_of End.Write form runs line = write_failed words command files out err form runs line
  outcome_of End.Memory form runs line = wanted_in_course words command files out err form runs line
  outcome_of (End.Model fault) form runs line =
      (runs.0, runs.1.sound, runs.1.nothing, answered words command files out err (End.Model fault) form runs.2 runs.1.nothing line)
  outcome_of (End.Plan fault) form runs line =
      (runs.0, runs.1.sound, runs.1.nothing, answered words command files out err (End.Plan fault) form runs.2 runs.1.nothing line)

  by_status : (a b : Status) → b ≡ a → Outcome words files out err a → Outcome words files out err b
  by_status a b same outcome = subst (λ s. Outcome words files out err s) (sym same) outcome

  outcome_by : (end : End) (status : Status) → command_of words ≡ Some command → Runs command files out (Err end) → Tells (paths_for command) end err status → Outcome words files out err status
  outcome_by end status form runs (inl told) = by_status (status_of end) status told.0 (outcome_of end form runs told.1)
  outcome_by End.Write status form runs (inr told) = absurd told.0
  outcome_by End.Memory status form runs (inr told) = absurd told.0
  outcome_by (End.Read role) status form runs (inr told) =
      by_status Status.Memory status told.1 (wanted_for_line words files out err (inr (failed_in_turn words command files role form runs.0)) runs.1 told.2)
  outcome_by (End.Model fault) status form runs (inr told) = by_status Status.Memory status told.1 (wanted_for_line words files out err (inl runs.0) runs.1 told.2)
  outcome_by (End.Plan fault) status form runs (inr told) = by_status Status.Memory status told.1 (wanted_for_line words files out err (inl runs.0) runs.1 told.2)

pub outcome_told : (words : Words) (command : Command) (files : Asked) (out err : Given) (end : End) (status : Status) → command_of words ≡ Some command
    → Runs command files out (Err end) → Tells (paths_for command) end err status → Outcome words files out err status
outcome_told words command files out err end status form runs told = outcome_by words command files out err end status form runs told

-- the outcome where all is put
pub outcome_done : (words : Words) (command : Command) (files : Asked) (out err : Given) → command_of words ≡ Some command
    → Runs command files out (Ok tt) → NothingPut err → Outcome words files out err Status.Done
outcome_done words command files out err form runs nothing =
    let over = over_words (λ folder. Answered words folder out err Status.Done) words command files form (λ folder is.
    let ran = runs.2 folder is in
    record {
      answer = answer_to (paths_for command) (Ok ran.0);
      is_answer = is_answer words command folder (Ok ran.0) form ran.1;
      same_status = refl;
      bytes = ran.2;
      line = inl nothing.nothing;
    }) in
    (runs.0, runs.1, nothing.sound, over)

-- where another answer is known, the status isn't that of this one
not_done : (words : Words) (folder : Folder) (out err : Given) (status : Status) (answer : Answer) → Answered words folder out err status → IsAnswer words folder answer → answer.status ≡ Status.Done → status ≡ Status.Done
not_done words folder out err status answer said is done =
    said.same_status ∙ answers_have_one_status words folder said.answer answer said.is_answer is ∙ done

no_form : (found : Command → Found) (o : Option Command) (answer : Answer) → o ≡ None → AnswersTo o found answer → answer.status ≡ Status.Done → ⊥
no_form found None answer none is done =
    let usage = ap (λ (a : Answer). a.status) is in cc
no_form found (Some command) answer none is done = cc

-- a call doesn't give up by itself
pub complete_of : (words : Words) (files : Asked) (out err : Given) (status : Status) → Outcome words files out err status → Complete words files out status
complete_of words files out err Status.Done outcome = λ folder is answer said done sound written. inl refl
complete_of words files out err Status.Memory outcome = λ folder is answer said done sound written. inr refl
complete_of words files out err Status.Read outcome = λ folder is answer said done sound written. absurd (sound outcome.read.rose)
complete_of words files out err Status.Write outcome = λ folder is answer said done sound written. absurd (written outcome.rose)
complete_of words files out err Status.Usage outcome = λ folder is answer said done sound written. absurd (no_form (λ c. found_in c folder) (command_of words) answer outcome.2 said done)
complete_of words files out err Status.Model outcome = λ folder is answer said done sound written. inl (not_done words folder out err Status.Model answer (outcome.3 folder is) said done)
complete_of words files out err Status.Plan outcome = λ folder is answer said done sound written. inl (not_done words folder out err Status.Plan answer (outcome.3 folder is) said done)
complete_of words files out err Status.NotPartial outcome = absurd outcome
