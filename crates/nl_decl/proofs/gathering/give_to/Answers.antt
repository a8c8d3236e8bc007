use Rattle.std.proofs.Common.{◌∙◌, slice_set, sym, ap, arith}
use Rattle.std.proofs.lemmas.Grind.{common_steps}
use Rattle.nl_decl.specs.inner.Gathering.{with_owned}
use Rattle.nl_decl.proofs.Spread.{given_none, given_some, given_past}
use Rattle.nl_decl.proofs.gathering.give_to.Goals as goal

pub returns-in_default : goal.returns-in_default
returns-in_default c ds = given_none c.args.owner c.args.names.now ds c.args.breeds.now.items (sym c.in_default.ensures)

pub returns-in_ok-give : goal.returns-in_ok-give
returns-in_ok-give c ds =
    let bs = c.args.breeds.now.items in
    let k = c.in-Some.place in
    let old = c.index_mut.result.now in
    let given = given_some c.args.owner k c.args.names.now ds bs old (sym c.in-Some.ensures) (grind (arith, common_steps)) in
    given ∙ ap (λ b. with_owned 0 ds (slice_set bs k b)) (grind (arith, common_steps))

pub returns-else-place-as_slice : goal.returns-else-place-as_slice
returns-else-place-as_slice c ds = given_past c.args.owner c.in-Some.place c.args.names.now ds c.args.breeds.now.items (sym c.in-Some.ensures) (grind (arith, common_steps))
