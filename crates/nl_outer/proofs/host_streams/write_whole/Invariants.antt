use Rattle.std.proofs.Common.{◌≤◌, length, take}
use Rattle.std.specs.Io.KnownBytes.{Appends}
use Rattle.nl_outer.proofs.host_streams.write_whole.Given as goal

-- where the writer tells its bytes, it has gained those that are done
abbrev pub invariant-pieces : goal.invariant-pieces
invariant-pieces g l = record {
  within : l.done ≤ length l.bytes;
  given : Appends (g.W.Write.contents l.initial.to) (g.W.Write.contents l.to) (take l.done l.bytes);
}
