use Rattle.std.proofs.Common.{◌≡◌, take, subst, rules}
use Rattle.std.specs.List.{Contains}
use Rattle.nl_motion.specs.Climbing.{ring_of}
use Rattle.nl_motion.proofs.Rings.{ring_of_world}
use Rattle.nl_motion.proofs.ring.Ring.around.Goals as goal
use Rattle.nl_motion.proofs.ring.Ring.around.Goals.{then-four, else-four}

pub returns-clause-world : goal.returns-clause-world
returns-clause-world c =
    let e : take c.if-four.count c.if-four.patches ≡ ring_of c.args.four c.args.shape.now c.args.patch =
    elim c.if-four.branch [ then-four w ↦ search rules | else-four w ↦ search rules ] in
    λ patch h. ring_of_world c.args.four c.args.shape.now c.args.patch patch (subst (λ xs. Contains xs patch) e h)
