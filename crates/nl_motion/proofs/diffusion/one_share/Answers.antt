use Rattle.std.proofs.Common.{◌≡◌, ◌*◌, pos, ap, sym, ◌∙◌}
use Rattle.nl_fixed.specs.Numbers.{one}
use Rattle.nl_motion.specs.Diffusion.{parts_of}
use Rattle.nl_motion.proofs.Shares.{share_cast}
use Rattle.nl_motion.proofs.diffusion.one_share.Goals as goal
use Rattle.nl_motion.proofs.diffusion.one_share.Goals.{then-four, else-four}

pub overflow_cast-result : goal.overflow_cast-result
overflow_cast-result c =
    let parts : c.if-four.parts ≡ pos (parts_of c.args.four * one) =
    elim c.if-four.branch [
      | then-four w ↦ sym c.if-four.parts-is ∙ w.parts-is ∙ ap (λ b. pos (parts_of b * one)) (sym w.if-four.true)
      | else-four w ↦ sym c.if-four.parts-is ∙ w.parts-is ∙ ap (λ b. pos (parts_of b * one)) (sym w.if-four.false)
    ] in
    (share_cast c.args.four c.args.count c.args.part c.div_euclid.result c.from.result c.from-2.result _ c.ranges.count c.ranges.part c.requires.low c.requires.high
    (record { sfits = c.div_euclid.type_inv }) c.from.ensures c.from-2.ensures (c.if-four.parts-is ∙ parts) c.div_euclid.ensures).0

pub returns : goal.returns
returns c =
    let parts : c.if-four.parts ≡ pos (parts_of c.args.four * one) =
    elim c.if-four.branch [
      | then-four w ↦ sym c.if-four.parts-is ∙ w.parts-is ∙ ap (λ b. pos (parts_of b * one)) (sym w.if-four.true)
      | else-four w ↦ sym c.if-four.parts-is ∙ w.parts-is ∙ ap (λ b. pos (parts_of b * one)) (sym w.if-four.false)
    ] in
    (share_cast c.args.four c.args.count c.args.part c.div_euclid.result c.from.result c.from-2.result _ c.ranges.count c.ranges.part c.requires.low c.requires.high
    (record { sfits = c.div_euclid.type_inv }) c.from.ensures c.from-2.ensures (c.if-four.parts-is ∙ parts) c.div_euclid.ensures).1
