use Rattle.std.proofs.Common.{◌≡◌, ◌+◌, drop}
use Rattle.std.specs.List.{prefix_len}
use Rattle.nl_scan.specs.Forms.{is_in_line}
use Rattle.nl_scan.proofs.pieces.line_len.Given as goal

-- the bytes so far are of one line
abbrev pub invariant-bytes : goal.invariant-bytes
invariant-bytes l = l.at + prefix_len is_in_line (drop l.at l.text) ≡ prefix_len is_in_line l.text
