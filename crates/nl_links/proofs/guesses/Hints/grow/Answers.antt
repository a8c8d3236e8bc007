use Rattle.std.proofs.Common.{rules, ◌≡◌, ◌<◌, ◌++◌, length, sym, subst, inr}
use Rattle.nl_links.specs.Hints.{AreHints, SameHints}
use Rattle.nl_links.proofs.Doubled.{hints_twice, same_twice, stand_again}
use Rattle.nl_links.proofs.guesses.Hints.grow.Goals as goal

-- src/guesses.rt:61:13
pub invariant_of-self-then-is_empty : goal.invariant_of-self-then-is_empty
invariant_of-self-then-is_empty c =
    let many : length c.resize.new.self.items ≡ 64 = search rules in
    inr (6, many)

-- src/guesses.rt:55:5
pub invariant_of-self-2 : goal.invariant_of-self-2
invariant_of-self-2 c =
    let hints = c.self.inside.indices.items in
    let twice : c.extend_from_within.new.self.items ≡ hints ++ hints =
    stand_again _ hints _ (search rules) c.in_ok-extend_from_within.ensures.items in
    subst AreHints (sym twice) (hints_twice hints (search rules))

-- src/guesses.rt:55:5
pub returns-clause-same : goal.returns-clause-same
returns-clause-same c =
    let hints = c.self.inside.indices.items in
    let twice : c.extend_from_within.new.self.items ≡ hints ++ hints =
    stand_again _ hints _ (search rules) c.in_ok-extend_from_within.ensures.items in
    let some : 0 < length hints = search rules in
    let same : SameHints c.extend_from_within.new.self.items hints =
    subst (λ new. SameHints new hints) (sym twice) (same_twice hints some) in
    subst (SameHints c.extend_from_within.new.self.items) c.self.view_is same
