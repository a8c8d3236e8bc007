-- What a call of the program did, by the status that it ended with.
use Rattle.std.specs.Prelude.{◌≡◌, ◌⊎◌, ℕ, [], Option, Some, None}
use Rattle.std.specs.Option.{ForSome, option_and_then}
use Rattle.nl_outer.specs.Bytes.{Appended, PartAppended}
use Rattle.nl_outer.specs.Faults.{Rose}
use Rattle.nl_fixed.specs.Nouns.{Bytes}
use Rattle.nl_outer.specs.Folder.{Folder}
use Rattle.nl_outer.specs.Nouns.{Path, Words}
use Rattle.nl_cli.specs.declared.words.Role.{Role}
use Rattle.nl_cli.specs.declared.ends.Status.{Status}
use Rattle.nl_cli.specs.Words.{Command, bench, command_of, named_by}
use Rattle.nl_cli.specs.Answer.{Answer, IsAnswer, IsAnswerWithout, read_answer, cannot_read, usage_line, memory_line, write_line}

-- what a call left of the files that it was handed
pub record Asked : Type 0 where
  pub faults_before : ℕ
  pub faults_after : ℕ
  pub last_before : Path
  pub last_fault : Path
  pub folder : Option Folder

abbrev pub asked : {F : Type 0} → (F → ℕ) → (F → Path) → (F → Option Folder) → F → F → Asked
asked faults last_fault folder old new =
    record {
      faults_before = faults old;
      faults_after = faults new;
      last_before = last_fault old;
      last_fault = last_fault new;
      folder = folder old;
    }

-- no read failed
pub record AllRead (files : Asked) : Type 0 where
  pub faults : files.faults_after ≡ files.faults_before
  pub last : files.last_fault ≡ files.last_before

-- the folder that an answer is told over: what the files tell, or any, as one without files, where the command names none
abbrev pub told_over : Option Command → Option Folder → Option Folder
told_over (Some (bench size)) folder = Some []
told_over other folder = folder

-- what a call left of a sink that it was handed
pub record Given : Type 0 where
  pub faults_before : ℕ
  pub faults_after : ℕ
  pub before : Option Bytes
  pub after : Option Bytes

abbrev pub given : {S : Type 0} → (S → ℕ) → (S → Option Bytes) → S → S → Given
given faults written old new =
    record { faults_before = faults old; faults_after = faults new; before = written old; after = written new }

-- no put failed
abbrev pub AllPut : Given → Type 0
AllPut sink = sink.faults_after ≡ sink.faults_before

-- the sink was given these bytes, or a prefix of them where its count of faults rose
abbrev pub Gets : Bytes → Given → Type 0
Gets line sink = Appended sink.before sink.after line
    ⊎ (Rose sink.faults_before sink.faults_after × PartAppended sink.before sink.after line)

-- the status, the bytes and the line are those of the answer
pub record Answered (words : Words) (folder : Folder) (out err : Given) (status : Status) : Type 0 where
  pub answer : Answer
  pub is_answer : IsAnswer words folder answer
  pub same_status : status ≡ answer.status
  pub bytes : Appended out.before out.after answer.bytes
  pub line : Gets answer.line err

-- a read failed of the file of a role whose turn had come: were that read to fail, the answer would be this one
pub record FailedInTurn (words : Words) (files : Asked) : Type 0 where
  pub rose : Rose files.faults_before files.faults_after
  pub role : Role
  pub named : option_and_then (λ command. named_by command role) (command_of words) ≡ Some files.last_fault
  pub turn : ForSome (told_over (command_of words) files.folder) (λ folder. IsAnswerWithout role words folder (read_answer files.last_fault))

-- such a read ended the call
pub record ReadFailed (words : Words) (files : Asked) (out err : Given) : Type 0 where
  pub read : FailedInTurn words files
  pub put : AllPut out
  pub nothing : Appended out.before out.after []
  pub line : Gets (cannot_read files.last_fault) err

-- a part of the answer's bytes was put
pub record Begun (words : Words) (folder : Folder) (out : Given) : Type 0 where
  pub answer : Answer
  pub is_answer : IsAnswer words folder answer
  pub is_done : answer.status ≡ Status.Done
  pub part : PartAppended out.before out.after answer.bytes

-- a write failed, where the bytes are defined
pub record WriteFailed (words : Words) (files : Asked) (out err : Given) : Type 0 where
  pub read : AllRead files
  pub rose : Rose out.faults_before out.faults_after
  pub bytes : ForSome (told_over (command_of words) files.folder) (λ folder. Begun words folder out)
  pub line : Gets write_line err

-- Memory was refused, before anything was put or behind a part of the bytes that are defined. No put had failed, and no read, but where it was
-- refused for the line that tells of one.
pub record MemoryWanted (words : Words) (files : Asked) (out err : Given) : Type 0 where
  pub read : AllRead files ⊎ FailedInTurn words files
  pub put : AllPut out
  pub bytes : ForSome (told_over (command_of words) files.folder) (λ folder. Appended out.before out.after [] ⊎ Begun words folder out)
  pub line : Gets memory_line err

-- What the call did, by its status. No command has a partial table yet, so that none ends as NotPartial.
abbrev pub Outcome : Words → Asked → Given → Given → Status → Type 0
Outcome words files out err Status.Read = ReadFailed words files out err
Outcome words files out err Status.Write = WriteFailed words files out err
Outcome words files out err Status.Memory = MemoryWanted words files out err
Outcome words files out err Status.NotPartial = ⊥
Outcome words files out err Status.Usage =
    AllRead files × AllPut out × (command_of words ≡ None) × Appended out.before out.after [] × Gets usage_line err
Outcome words files out err Status.Done =
    AllRead files × AllPut out × AllPut err
    × ForSome (told_over (command_of words) files.folder) (λ folder. Answered words folder out err Status.Done)
Outcome words files out err status =
    AllRead files × AllPut out × Appended out.before out.after []
    × ForSome (told_over (command_of words) files.folder) (λ folder. Answered words folder out err status)

-- where an answer over that folder is Done and neither reads nor writes fail, the status is Done, or memory was refused
abbrev pub Complete : Words → Asked → Given → Status → Type 0
Complete words files out status = ForSome (told_over (command_of words) files.folder) (λ folder.
    (answer : Answer) → IsAnswer words folder answer → answer.status ≡ Status.Done
    → ¬ Rose files.faults_before files.faults_after → ¬ Rose out.faults_before out.faults_after
    → (status ≡ Status.Done) ⊎ (status ≡ Status.Memory))
