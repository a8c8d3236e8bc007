-- What the definition of answers means.
use Rattle.std.specs.Prelude.{◌≡◌, ◌↔◌, ℕ, ◌≤◌, [], ◌∷◌, ◌++◌, codes, map}
use Rattle.std.specs.Fmt.{decimal}
use Rattle.std.specs.List.{range_with_len}
use Rattle.nl_fixed.specs.Nouns.{Bytes}
use Rattle.nl_outer.specs.Folder.{Folder}
use Rattle.nl_outer.specs.Nouns.{Path, Words}
use Rattle.nl_table.specs.Lines.{lines_text}
use Rattle.nl_cli.specs.declared.ends.Status.{Status}
use Rattle.nl_cli.specs.Answer.{Answer, IsAnswer}
use Rattle.nl_cli.specs.Inputs.{Job}
use Rattle.nl_cli.specs.Table.{joined_text, table_lines, table_text}

-- ---- one answer

-- words over a folder have an answer
abbrev pub WordsHaveAnswers : Type 0
WordsHaveAnswers = (words : Words) (folder : Folder) → (answer : Answer) × IsAnswer words folder answer

-- with one status, and one answer at most where nothing is put
abbrev pub AnswersAreAlike : Type 0
AnswersAreAlike =
    (words : Words) (folder : Folder) (a b : Answer) → IsAnswer words folder a → IsAnswer words folder b
    → (a.status ≡ b.status) × ((a.status ≡ Status.Done → ⊥) → a ≡ b)

-- so one answer at most, whatever is put
abbrev pub AnswersAreUnique : Type 0
AnswersAreUnique = (words : Words) (folder : Folder) (a b : Answer) → IsAnswer words folder a → IsAnswer words folder b → a ≡ b

-- ---- a sweep in parts

abbrev pub table_words : Path → Path → Words
table_words model experiment = codes "table" ∷ model ∷ experiment ∷ []

abbrev pub rerun_words : Path → Path → ℕ → Words
rerun_words model experiment number = codes "rerun" ∷ model ∷ experiment ∷ decimal number ∷ []

abbrev pub check_words : Path → Path → Words
check_words model experiment = codes "check" ∷ model ∷ experiment ∷ []

-- the answer that puts these bytes and tells nothing
abbrev pub puts_alone : Bytes → Answer
puts_alone bytes = record { status = Status.Done; bytes = bytes; line = [] }

-- A table is a header and what `rerun` answers for 1, 2 and so on, one after another; for other numbers `rerun` has no answer that is Done.
-- So a sweep may be spread over machines.
pub record IsInParts (model experiment : Path) (folder : Folder) (table : Bytes) : Type 0 where
  pub header : Bytes
  pub runs : ℕ
  pub rows : ℕ → Bytes
  pub whole : table ≡ header ++ joined_text (map rows (range_with_len 1 runs))
  pub each : (number : ℕ) → 1 ≤ number → number ≤ runs → IsAnswer (rerun_words model experiment number) folder (puts_alone (rows number))
  pub count : IsAnswer (check_words model experiment) folder (puts_alone (codes "ok " ++ decimal runs ++ codes "\n"))

abbrev pub TablesAreInParts : Type 0
TablesAreInParts =
    (model experiment : Path) (folder : Folder) (table : Bytes) → IsAnswer (table_words model experiment) folder (puts_alone table)
    → IsInParts model experiment folder table

-- ---- tables and checks

-- `check` is Done where `table` is, and nowhere else, and else they answer the same
abbrev pub ChecksTellOfTables : Type 0
ChecksTellOfTables =
    (model experiment : Path) (folder : Folder)
    → (((bytes : Bytes) × IsAnswer (table_words model experiment) folder (puts_alone bytes))
    ↔ ((bytes : Bytes) × IsAnswer (check_words model experiment) folder (puts_alone bytes)))
    × ((answer : Answer) → (answer.status ≡ Status.Done → ⊥)
    → (IsAnswer (table_words model experiment) folder answer ↔ IsAnswer (check_words model experiment) folder answer))

-- ---- tables

-- a table is its lines, of which the measure tells the last
abbrev pub TablesAreLines : Type 0
TablesAreLines = (model : Bytes) (job : Job) → table_text model job ≡ lines_text (table_lines model job)
