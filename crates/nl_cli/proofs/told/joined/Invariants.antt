use Rattle.std.proofs.Common.{◌≡◌, ◌++◌, drop, map}
use Rattle.nl_cli.specs.Table.{joined_text}
use Rattle.nl_cli.proofs.told.joined.Given as goal

-- the pieces so far, and those that are left
abbrev pub invariant-pieces : goal.invariant-pieces
invariant-pieces l = l.text ++ joined_text (map (λ piece. piece.now) (drop l.piece-index l.pieces)) ≡ joined_text (map (λ piece. piece.now) l.pieces)
