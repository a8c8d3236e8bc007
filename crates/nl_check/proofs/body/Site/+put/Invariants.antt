use Rattle.std.proofs.Common.{◌≡◌, ◌++◌, ◌+◌, ◌*◌}
use Rattle.nl_tree.specs.Views.{plain}
use Rattle.nl_tree.specs.Tree.{size, parts}
use Rattle.nl_tree.specs.Vocabulary.{terms}
use Rattle.nl_tree.specs.Index.{named}
use Rattle.nl_check.specs.inner.Steps.{steps_of}
use Rattle.nl_check.specs.inner.Bodies.{first_of, pieces_from, flat_from}
use Rattle.nl_check.proofs.body.Site.+put.Given as goal

-- each call is on less of the tree, or a step further in the treatment of one node
abbrev pub decreases-put : goal.decreases-put
decreases-put l = 5 * size (plain l.tree.now) + 3

abbrev pub decreases-put_plain : goal.decreases-put_plain
decreases-put_plain l = 5 * size (plain l.tree.now) + 1

abbrev pub decreases-put_word : goal.decreases-put_word
decreases-put_word l = 5 * size (plain l.node.now.tree.now) + 2

abbrev pub decreases-put_parts : goal.decreases-put_parts
decreases-put_parts l = 5 * size (plain l.node.now.tree.now) + 1

abbrev pub decreases-put_part : goal.decreases-put_part
decreases-put_part l = 5 * size (plain l.part.now) + 5

abbrev pub decreases-put_inner : goal.decreases-put_inner
decreases-put_inner l = 5 * size (plain l.part.now) + 4

-- what is appended so far, and what the parts that are left append, is what all append
abbrev pub invariant-put_parts-loop-at : goal.invariant-put_parts-loop-at
invariant-put_parts-loop-at l =
    let table = terms l.self.declared.now in
    let t = named l.node.name.now l.node.word in
    let ts = parts (plain l.node.tree.now) in
    l.steps.items ++ steps_of table l.self.inner (pieces_from table t (first_of table t ts) l.at ts) ≡ l.initial.steps.items ++ steps_of table l.self.inner (pieces_from table t (first_of table t ts) l.from ts)

abbrev pub invariant-put_plain-loop-at : goal.invariant-put_plain-loop-at
invariant-put_plain-loop-at l =
    let table = terms l.self.declared.now in
    let ts = parts (plain l.tree) in
    l.steps.items ++ steps_of table l.self.inner (flat_from table l.at ts) ≡ l.initial.steps.items ++ steps_of table l.self.inner (flat_from table 0 ts)
