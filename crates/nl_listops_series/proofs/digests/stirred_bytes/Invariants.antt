use Rattle.std.proofs.Common.{◌≡◌, take}
use Rattle.std.specs.Prelude.{fold}
use Rattle.nl_listops_series.specs.inner.Digests.{stirred}
use Rattle.nl_listops_series.proofs.digests.stirred_bytes.Given as goal

abbrev pub invariant-loop-byte : goal.invariant-loop-byte
invariant-loop-byte l = l.all ≡ fold stirred l.digest (take l.byte-index l.bytes)
