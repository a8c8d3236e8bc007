use Rattle.std.proofs.Common.{◌≡◌, drop}
use Rattle.nl_outer.specs.Folder.{content_of}
use Rattle.nl_outer.proofs.folder.content.Given as goal

-- none of the files so far is at the path
abbrev pub invariant-search : goal.invariant-search
invariant-search l = content_of l.path (drop l.file-index l.files) ≡ content_of l.path l.files
