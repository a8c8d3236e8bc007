use Rattle.std.proofs.Common.{arith, ◌-◌, length, drop, length-take}
use Rattle.nl_outer.proofs.KnownBytes.{Appends-more, Appends-kept}
use Rattle.nl_outer.proofs.host_streams.write_whole.Goals as goal
use Rattle.nl_outer.proofs.host_streams.write_whole.Goals.{in-Ok, in-Err}

pub pieces-preserved : goal.pieces-preserved
pieces-preserved g c =
    let before = c.pieces.invariant in
    let piece = c.args.bytes.now in
    let most = length-take (length piece - c.pieces.done) (drop c.pieces.done piece) in
    elim c.match-write.branch [
      | in-Ok w ↦ let bound = w.in-Ok.ensures.bound in record {
        within = omega arith;
        given = rw w.done-is (Appends-more _ _ _ _ _ _ (omega arith) before.given w.in-Ok.ensures.bytes);
      }
      | in-Err w ↦ record {
        within = omega arith;
        given = rw w.done-is (Appends-kept _ _ _ _ before.given w.in-Err.ensures.bytes);
      }
    ]
