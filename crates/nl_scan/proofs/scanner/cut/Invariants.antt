use Rattle.std.proofs.Common.{◌≡◌, ◌≤◌, ◌-◌, length, drop}
use Rattle.nl_scan.specs.Faults.{text_limit}
use Rattle.nl_scan.specs.inner.Pieces.{cut_from}
use Rattle.nl_scan.proofs.Cutting.{tokens_first}
use Rattle.nl_scan.proofs.scanner.cut.Given as goal

-- the tokens so far and those of the rest are all tokens
abbrev pub invariant-pieces : goal.invariant-pieces
invariant-pieces l = (l.at ≤ length l.text) × (length l.text ≤ text_limit) × (tokens_first l.tokens (cut_from (length l.text - l.at) l.at (drop l.at l.text)) ≡ cut_from (length l.text) 0 l.text)

abbrev pub decreases-pieces : goal.decreases-pieces
decreases-pieces l = length l.text - l.at
