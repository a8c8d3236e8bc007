use Rattle.std.proofs.Common.{◌≡◌, ◌+◌, ◌<◌, ◌^◌, ◌++◌, drop}
use Rattle.nl_decl_outline.specs.Lengths.{total_length}
use Rattle.nl_decl.specs.Gathered.{procedures_from, procedures_in}
use Rattle.nl_decl.proofs.gathering.procedures_of.Given as goal

-- the procedures so far, and those that are left
abbrev pub invariant-declarations : goal.invariant-declarations
invariant-declarations l =
    (l.list ++ procedures_from l.place (drop l.declaration-index l.declarations) ≡ procedures_in l.declarations)
    × (l.place + total_length (drop l.declaration-index l.declarations) < 2 ^ 62)
