use Rattle.std.proofs.Common.{ℕ, List, refl, ap, sym, ◌∙◌, arith}
use Rattle.nl_draw.specs.Stream.{shuffled}
use Rattle.nl_draw.proofs.Shuffles.{shuffled_from-first, shuffled_from-more, shuffled-permutes}
use Rattle.nl_draw.proofs.stream.Stream.shuffle.Goals as goal

pub loop-i-init : goal.loop-i-init
unfolding shuffled
loop-i-init g c = refl

pub loop-i-preserved : goal.loop-i-preserved
loop-i-preserved g c =
    let drawn_other = c.draw-other.ensures in
    rw c.swap.ensures.after
    (shuffled_from-more c.loop-i.i c.draw-other.result c.loop-i.self c.draw-other.new.self c.loop-i.list
    c.loop-i-test.true drawn_other.value drawn_other.state
    ∙ c.loop-i.invariant)

pub returns-clause-order : goal.returns-clause-order
returns-clause-order g c =
    ap (λ (after : List g.row.T.Denot × ℕ). after.0)
    (sym (shuffled_from-first _ c.loop-i.list c.loop-i.self (omega arith)) ∙ c.loop-i.invariant)

pub returns-clause-state : goal.returns-clause-state
returns-clause-state g c =
    ap (λ (after : List g.row.T.Denot × ℕ). after.1)
    (sym (shuffled_from-first _ c.loop-i.list c.loop-i.self (omega arith)) ∙ c.loop-i.invariant)

pub returns-clause-permutation : goal.returns-clause-permutation
returns-clause-permutation g c =
    rw (returns-clause-order g c) (shuffled-permutes c.args.list.now c.args.self.now)
