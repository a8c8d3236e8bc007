use Rattle.std.proofs.Common.{◌≡◌, ◌≤◌, ◌-◌, ◌++◌, length, drop, take}
use Rattle.nl_scan.specs.CodePart.{code_of}
use Rattle.nl_scan.proofs.code.code_part.Given as goal

-- the lines so far are code
abbrev pub invariant-lines : goal.invariant-lines
invariant-lines l = (l.at ≤ length l.file) × (take l.at l.file ++ code_of (drop l.at l.file) ≡ code_of l.file)

abbrev pub decreases-lines : goal.decreases-lines
decreases-lines l = length l.file - l.at
