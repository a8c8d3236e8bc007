use Rattle.std.proofs.Common.{ℕ, List, ◌<◌, length, map, ap, sym, ◌∙◌, subst, ◌+ℤ◌}
use Rattle.std.specs.List.{Contains}
use Rattle.nl_fixed.specs.Numbers.{number_at}
use Rattle.nl_motion.specs.Diffusion.{count_after, kept_by, total, count_at}
use Rattle.nl_motion.proofs.Shares.{sum_cast}
use Rattle.nl_motion.proofs.diffusion.count_after.Goals as goal

pub got-requires-clause-shares : goal.got-requires-clause-shares
got-requires-clause-shares c = λ patch held.
    subst (λ n. patch < n) (sym c.requires.shares)
    (c.around-ring.ensures.world patch (subst (λ xs. Contains xs patch) c.as_slice-neighbors.ensures.value held))

pub returns : goal.returns
unfolding count_after
returns c =
    let sum = sum_cast c.kept-kept.result c.got.result c.kept-kept.ensures.small c.got.ensures.small in
    let field = c.args.field.now in
    let shares = c.args.shares.now in
    let parts = ap (λ z. z +ℤ c.got.result) c.kept-kept.ensures.value ∙ ap (λ z. kept_by (length c.as_slice-neighbors.result.now) field shares c.args.patch +ℤ z) c.got.ensures.value in
    let around = c.as_slice-neighbors.ensures.value ∙ c.around-ring.ensures.patches in
    let count = ap (λ (ring : List ℕ). kept_by (length ring) field shares c.args.patch +ℤ total (map (count_at shares) ring)) around in
    c.number_at.ensures ∙ ap number_at (sum ∙ parts ∙ count)
