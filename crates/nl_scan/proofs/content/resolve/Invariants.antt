use Rattle.std.proofs.Common.{◌≡◌, ◌++◌, drop, false}
use Rattle.nl_scan.specs.Contents.{resolved}
use Rattle.nl_scan.proofs.content.resolve.Given as goal

-- what the bytes so far say, with what the rest says, is the whole
abbrev pub invariant-bytes : goal.invariant-bytes
invariant-bytes l = l.content.items ++ resolved l.behind (drop l.byte-index l.written) ≡ resolved false l.written
