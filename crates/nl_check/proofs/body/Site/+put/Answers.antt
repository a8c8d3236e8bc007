use Rattle.std.proofs.Common.{[], ◌++◌, ◌+◌, arith, sym, ◌∙◌, refl}
use Rattle.std.specs.Prelude.{slice_get}
use Rattle.nl_tree.specs.Views.{plain}
use Rattle.nl_tree.specs.Tree.{span, parts}
use Rattle.nl_tree.specs.Vocabulary.{terms}
use Rattle.nl_tree.specs.Tokens.{inputs_of}
use Rattle.nl_tree.specs.Context.{pieces, part_pieces}
use Rattle.nl_tree.specs.Index.{named}
use Rattle.std.proofs.lemmas.List.{drop_all}
use Rattle.std.proofs.lemmas.Grind.{common_steps}
use Rattle.nl_check.specs.inner.Steps.{steps_of}
use Rattle.nl_check.specs.inner.Bodies.{or_value, sub_of, first_of, pieces_from, flat_from}
use Rattle.nl_check.proofs.Pieces.{put_more, put_end, word_first, word_alone, word_between, word_node, plain_node, told_again, then_ok, pieces_step, pieces_end, flat_step, flat_end}
use Rattle.nl_check.proofs.body.Site.+put.Goals as goal

pub put_plain-loop-at-init : goal.put_plain-loop-at-init
put_plain-loop-at-init t c = refl

pub put_plain-loop-at-preserved : goal.put_plain-loop-at-preserved
put_plain-loop-at-preserved t c =
    let table = terms c.args.self.now.declared.now in
    let ts = parts (plain c.args.tree.now) in
    put_more table c.args.self.now.inner c.loop-at.steps.items c.put.new.steps.items (c.args.steps.now.items ++ steps_of table c.args.self.now.inner (flat_from table 0 ts))
    (pieces table (plain c.in-Some.part.now)) (flat_from table (c.loop-at.at + 1) ts) (flat_from table c.loop-at.at ts)
    c.in_ok-put.ensures (flat_step table c.loop-at.at ts (plain c.in-Some.part.now) c.in-Some.ensures.rest) c.loop-at.invariant

pub put_plain-returns : goal.put_plain-returns
put_plain-returns t c =
    let table = terms c.args.self.now.declared.now in
    let ts = parts (plain c.args.tree.now) in
    put_end table c.args.self.now.inner c.loop-at.steps.items (c.args.steps.now.items ++ steps_of table c.args.self.now.inner (flat_from table 0 ts)) (flat_from table c.loop-at.at ts)
    (flat_end table c.loop-at.at ts (drop_all c.loop-at.at ts (omega (arith, c.len-at-end.ensures)))) c.loop-at.invariant

pub put_parts-loop-at-init : goal.put_parts-loop-at-init
put_parts-loop-at-init t c = refl

pub put_parts-loop-at-preserved : goal.put_parts-loop-at-preserved
put_parts-loop-at-preserved t c =
    let table = terms c.args.self.now.declared.now in
    let ts = parts (plain c.args.node.now.tree.now) in
    let w = named c.args.node.now.name.now c.args.node.now.word in
    let k = first_of table w ts in
    put_more table c.args.self.now.inner c.loop-at.steps.items c.put_part.new.steps.items (c.args.steps.now.items ++ steps_of table c.args.self.now.inner (pieces_from table w k c.args.from ts))
    (part_pieces w k (or_value (slice_get (inputs_of w) c.loop-at.at)) (sub_of table (plain c.in-Some.part.now))) (pieces_from table w k (c.loop-at.at + 1) ts) (pieces_from table w k c.loop-at.at ts)
    c.in_ok-put_part.ensures (pieces_step table w k c.loop-at.at ts (plain c.in-Some.part.now) c.in-Some.ensures.rest) c.loop-at.invariant

pub put_parts-returns : goal.put_parts-returns
put_parts-returns t c =
    let table = terms c.args.self.now.declared.now in
    let ts = parts (plain c.args.node.now.tree.now) in
    let w = named c.args.node.now.name.now c.args.node.now.word in
    let k = first_of table w ts in
    put_end table c.args.self.now.inner c.loop-at.steps.items (c.args.steps.now.items ++ steps_of table c.args.self.now.inner (pieces_from table w k c.args.from ts)) (pieces_from table w k c.loop-at.at ts)
    (pieces_end table w k c.loop-at.at ts (drop_all c.loop-at.at ts (omega (arith, c.len-at-end.ensures)))) c.loop-at.invariant

pub put-returns-in-Some : goal.put-returns-in-Some
put-returns-in-Some t c =
    let table = terms c.args.self.now.declared.now in
    let tree = c.args.tree.now in
    told_again table c.args.self.now.inner c.put_word.result c.args.steps.now.items c.put_word.new.steps.items _ _
    (word_node table tree.label tree.span tree.parts c.in-Named.name c.as_bytes.result.now c.as_bytes-in-Some.result.now c.in-Some.word (sym c.label.ensures ∙ c.in-Named.is) c.as_bytes.ensures c.as_bytes-in-Some.ensures c.in-Some.ensures) c.put_word.ensures

pub put-returns-in-None : goal.put-returns-in-None
put-returns-in-None t c = grind (arith, common_steps, c.use_of.ensures [])

pub put-returns-in_default : goal.put-returns-in_default
put-returns-in_default t c =
    let table = terms c.args.self.now.declared.now in
    let tree = c.args.tree.now in
    told_again table c.args.self.now.inner c.put_plain.result c.args.steps.now.items c.put_plain.new.steps.items _ _
    (plain_node table tree.label tree.span tree.parts (λ x is. c.in_default.not-Named x (c.label.ensures ∙ is))) c.put_plain.ensures

pub put_word-returns-then-not-is_operator : goal.put_word-returns-then-not-is_operator
put_word-returns-then-not-is_operator t c =
    let table = terms c.args.self.now.declared.now in
    let tree = plain c.args.node.now.tree.now in
    let w = named c.args.node.now.name.now c.args.node.now.word in
    let put = c.in_ok-put_name.ensures in
    then_ok c.put_parts.result (word_first table c.args.self.now.inner w c.args.node.now.name.now (span tree) (parts tree) c.requires.row c.args.steps.now.items c.put_name.new.steps.items c.put_parts.new.steps.items
    (sym c.is_operator.ensures ∙ c.if-not-is_operator.true) put) c.put_parts.ensures

pub put_word-returns-in_default : goal.put_word-returns-in_default
put_word-returns-in_default t c =
    let table = terms c.args.self.now.declared.now in
    let tree = plain c.args.node.now.tree.now in
    let w = named c.args.node.now.name.now c.args.node.now.word in
    then_ok c.put_name-in_default.result
    (λ put. word_alone table c.args.self.now.inner w c.args.node.now.name.now (span tree) (parts tree) c.requires.row c.args.steps.now.items c.put_name-in_default.new.steps.items (sym c.is_operator.ensures ∙ c.if-not-is_operator.false) c.in_default.ensures.rest put)
    c.put_name-in_default.ensures

pub put_word-returns : goal.put_word-returns
put_word-returns t c =
    let table = terms c.args.self.now.declared.now in
    let tree = plain c.args.node.now.tree.now in
    let w = named c.args.node.now.name.now c.args.node.now.word in
    let put = c.in_ok-put_name-2.ensures in
    then_ok c.put_parts-2.result
    (word_between table c.args.self.now.inner w c.args.node.now.name.now (span tree) (parts tree) c.requires.row (plain c.in-Some.part.now) (sym c.is_operator.ensures ∙ c.if-not-is_operator.false) c.in-Some.ensures.rest c.args.steps.now.items c.put_part.new.steps.items c.put_name-2.new.steps.items c.put_parts-2.new.steps.items
    c.in_ok-put_part.ensures put)
    c.put_parts-2.ensures
