-- A folder: the files that are there, of which the first of a path counts.
use Rattle.std.specs.Prelude.{◌+◌, ℕ, List, [], ◌∷◌, Option, Some, None, Bool, nat_eq, take, if◌then◌else◌}
use Rattle.std.specs.Option.{option_map}
use lib.Pointwise.{pointwise}
use Rattle.nl_fixed.specs.Nouns.{Bytes}
use Rattle.nl_outer.specs.Nouns.{Path}
use Rattle.nl_outer.specs.declared.files.StoredFile.{StoredFile}

abbrev pub Folder : Type 0
Folder = List StoredFile

-- the two texts have the same bytes
abbrev pub same_bytes : Bytes → Bytes → Bool
same_bytes a b = pointwise nat_eq a b

-- the bytes of the file at a path
abbrev pub content_of : Path → Folder → Option Bytes
content_of path [] = None
content_of path (file ∷ files) =
    if same_bytes path file.path then Some file.bytes else content_of path files

-- what a read of a path gives: all bytes of the file, or one more than `most` where there are more than that
unfoldable pub read_of : Path → ℕ → Folder → Option Bytes
read_of path most folder = option_map (take (most + 1)) (content_of path folder)
