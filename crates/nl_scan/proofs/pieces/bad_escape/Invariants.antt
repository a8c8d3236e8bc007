use Rattle.std.proofs.Common.{◌≡◌, drop, false}
use Rattle.nl_scan.specs.Forms.{first_bad_escape}
use Rattle.nl_scan.proofs.Runs.{plus}
use Rattle.nl_scan.proofs.pieces.bad_escape.Given as goal

-- each backslash so far has its escape
abbrev pub invariant-bytes : goal.invariant-bytes
invariant-bytes l = plus l.at (first_bad_escape l.escaped (drop l.at l.behind_quote)) ≡ first_bad_escape false l.behind_quote
