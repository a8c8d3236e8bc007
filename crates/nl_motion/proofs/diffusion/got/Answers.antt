use Rattle.std.proofs.Common.{◌<◌, length, pos, get_or, sym, ap, ◌∙◌, rules, arith, ◌+ℤ◌}
use Rattle.std.specs.Prelude.{FitsSigned}
use Rattle.std.specs.Int.{w64}
use Rattle.std.proofs.lemmas.List.Elements.{Contains-get_or}
use Rattle.nl_motion.specs.Diffusion.{count_at}
use Rattle.nl_motion.proofs.Shares.{got_cast}
use Rattle.nl_motion.proofs.Totals.{total_more}
use Rattle.nl_motion.proofs.diffusion.got.Goals as goal

pub bounds-shares-other : goal.bounds-shares-other
bounds-shares-other c = c.requires.shares _ (Contains-get_or c.args.neighbors.now c.loop-other.other-index 0 (omega arith))

pub loop-other-preserved : goal.loop-other-preserved
loop-other-preserved c =
    let within : c.loop-other.other-index < length c.args.neighbors.now = omega arith in
    let share : FitsSigned w64 (get_or c.args.shares.now (get_or c.args.neighbors.now c.loop-other.other-index 0) (pos 0)) = search rules in
    let cast = got_cast c.loop-other.other-index _ _ c.from-sum.result (omega (arith, c.requires.few)) c.loop-other.invariant.small share c.from-sum.ensures in
    let more = total_more (count_at c.args.shares.now) c.args.neighbors.now c.loop-other.other-index 0 within in
    record {
      value = cast.0 ∙ ap (λ z. z +ℤ get_or c.args.shares.now (get_or c.args.neighbors.now c.loop-other.other-index 0) (pos 0)) c.loop-other.invariant.value ∙ sym more;
      small = cast.1;
    }
