use Rattle.std.proofs.Common.{pos, get_or, rules}
use Rattle.std.specs.Prelude.{FitsSigned}
use Rattle.std.specs.Int.{w64}
use Rattle.nl_motion.proofs.Shares.{kept_cast}
use Rattle.nl_motion.proofs.diffusion.kept.Goals as goal

pub overflow_sub-result : goal.overflow_sub-result
overflow_sub-result c =
    let had : FitsSigned w64 (get_or c.args.field.now c.args.patch (pos 0)) = search rules in
    let share : FitsSigned w64 (get_or c.args.shares.now c.args.patch (pos 0)) = search rules in
    (kept_cast c.args.neighbors _ _ c.from-2.result c.from.result c.requires.few had share c.from-2.ensures c.from.ensures).0

pub returns-clause-value : goal.returns-clause-value
returns-clause-value c =
    let had : FitsSigned w64 (get_or c.args.field.now c.args.patch (pos 0)) = search rules in
    let share : FitsSigned w64 (get_or c.args.shares.now c.args.patch (pos 0)) = search rules in
    (kept_cast c.args.neighbors _ _ c.from-2.result c.from.result c.requires.few had share c.from-2.ensures c.from.ensures).1

pub returns-clause-small : goal.returns-clause-small
returns-clause-small c =
    let had : FitsSigned w64 (get_or c.args.field.now c.args.patch (pos 0)) = search rules in
    let share : FitsSigned w64 (get_or c.args.shares.now c.args.patch (pos 0)) = search rules in
    (kept_cast c.args.neighbors _ _ c.from-2.result c.from.result c.requires.few had share c.from-2.ensures c.from.ensures).2
