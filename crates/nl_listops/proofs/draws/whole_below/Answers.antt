use Rattle.std.proofs.Common.{arith, subst, sym, ◌≤◌, ◌≡◌, pos}
use Rattle.std.proofs.lemmas.Int.{ints}
use Rattle.nl_listops.proofs.Drawing.{some_whole}
use Rattle.nl_listops.proofs.draws.whole_below.Goals as goal

pub draw-whole-requires : goal.draw-whole-requires
draw-whole-requires c =
    let value = c.millionths.ensures.value in
    let some = λ (e : c.args.number ≡ pos 0). c.if-millionths-eq0.false (omega (arith, ints)) in
    subst (λ n. 1 ≤ n) (sym c.whole_size.ensures.value) (some_whole c.args.number some)
