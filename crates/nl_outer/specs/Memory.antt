-- Files and a sink in memory, with the faults that they were asked for.
use Rattle.std.specs.Prelude.{ℕ, ◌-◌, ◌==◌, List, [], ◌∷◌, ◌++◌, length, take, min, Option, Bool, ◌||◌, nat_lt, find, unwrap_or, is_some, is_none, if◌then◌else◌}
use Rattle.std.specs.Option.{option_map}
use Rattle.std.specs.List.{list_any}
use Rattle.nl_fixed.specs.Nouns.{Bytes}
use Rattle.nl_outer.specs.Nouns.{Calls, Path}
use Rattle.nl_outer.specs.Faults.{counted}
use Rattle.nl_outer.specs.Folder.{Folder, content_of}
use Rattle.nl_outer.specs.declared.memory_sink.FailingPut.{FailingPut}

-- files in memory: what is there, the numbers of the reads that are to fail (the first is 1), how many reads
-- there were, how many faults, and the path of the last one, empty before any
pub record FilesState : Type 0 where
  pub files : Folder
  pub failing : Calls
  pub calls : ℕ
  pub faults : ℕ
  pub last_fault : Path

abbrev pub no_files : FilesState
no_files = record { files = []; failing = []; calls = 0; faults = 0; last_fault = [] }

-- one more file, behind the others
abbrev pub with_file : FilesState → Path → Bytes → FilesState
with_file s path bytes = record s { files = s.files ++ (record { path = path; bytes = bytes }) ∷ [] }

-- one more read that is to fail
abbrev pub with_failing_read : FilesState → ℕ → FilesState
with_failing_read s call = record s { failing = s.failing ++ call ∷ [] }

-- the next read of this path is a fault: its number is listed, or no file has the path
abbrev pub read_fails : FilesState → Path → Bool
read_fails s path = list_any (λ call. call == counted s.calls) s.failing || is_none (content_of path s.files)

-- what a read leaves that is no fault
abbrev pub after_read : FilesState → FilesState
after_read s = record s { calls = counted s.calls }

-- what a read leaves that is a fault
abbrev pub after_failed_read : FilesState → Path → FilesState
after_failed_read s path = record s { calls = counted s.calls; faults = counted s.faults; last_fault = path }

-- a sink in memory: its bytes, how many there may be, the puts that are to fail (the first is 1), how many puts
-- there were, and how many faults
pub record SinkState : Type 0 where
  pub bytes : Bytes
  pub room : ℕ
  pub failing : List FailingPut
  pub calls : ℕ
  pub faults : ℕ

abbrev pub empty_sink : ℕ → SinkState
empty_sink room = record { bytes = []; room = room; failing = []; calls = 0; faults = 0 }

-- one more put that is to fail
abbrev pub with_failing_put : SinkState → ℕ → ℕ → SinkState
with_failing_put s call kept = record s { failing = s.failing ++ (record { call = call; kept = kept }) ∷ [] }

-- how many bytes a put of this number keeps at most, where it is listed; the first listing counts
abbrev pub listed_kept : List FailingPut → ℕ → Option ℕ
listed_kept failing call = option_map (λ put. put.kept) (find (λ put. put.call == call) failing)

-- how many more bytes the sink has room for
abbrev pub room_left : SinkState → ℕ
room_left s = s.room - length s.bytes

-- the next put of this piece is a fault: its number is listed, or the piece passes the room
abbrev pub put_fails : SinkState → Bytes → Bool
put_fails s piece = is_some (listed_kept s.failing (counted s.calls)) || nat_lt (room_left s) (length piece)

-- how many bytes of this piece the next put appends: what fits, and at most what a listed put keeps
abbrev pub put_len : SinkState → Bytes → ℕ
put_len s piece =
    min (unwrap_or (listed_kept s.failing (counted s.calls)) (length piece)) (min (length piece) (room_left s))

-- what the next put of this piece leaves
abbrev pub after_put : SinkState → Bytes → SinkState
after_put s piece =
    record s {
      bytes = s.bytes ++ take (put_len s piece) piece;
      calls = counted s.calls;
      faults = if put_fails s piece then counted s.faults else s.faults;
    }
