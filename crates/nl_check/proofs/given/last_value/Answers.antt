use Rattle.std.proofs.Common.{[], arith, Some, cond, ap, ◌∙◌}
use Rattle.std.specs.Option.{option_copied, option_map}
use Rattle.std.proofs.lemmas.List.{drop_all}
use Rattle.nl_words.specs.Kinds.{agents}
use Rattle.nl_tree.specs.Views.{plain}
use Rattle.nl_tree.specs.Tree.{size, parts, nodes}
use Rattle.nl_tree.specs.Tokens.{inputs_of}
use Rattle.nl_tree.specs.Context.{givens, last_value}
use Rattle.nl_check.specs.inner.Given.{given_by, is_value}
use Rattle.nl_tree.specs.Index.{named}
use Rattle.nl_check.proofs.Agents.{agents_step, agents_end}
use Rattle.nl_check.proofs.given.last_value.Goals as goal

pub loop-at-preserved : goal.loop-at-preserved
loop-at-preserved c =
    let t = c.args.tree.now in
    let is = inputs_of (named [] c.args.word.now) in
    let part = plain c.in-Some.part.now in
    let found = option_map plain (option_copied c.loop-at.found) in
    let chose = c.chosen-found.ensures.is ∙ ap (λ b. cond b (Some part) found) (c.is_value.ensures ∙ ap is_value c.input_at.ensures) in
    record {
      smaller = c.chosen-found.ensures.smaller (size (plain t)) c.in-Some.ensures.smaller c.loop-at.invariant.smaller;
      value = λ table. agents_step table is c.loop-at.at (parts (plain t)) part found (option_map plain (option_copied c.chosen-found.result)) (last_value agents is (givens table (nodes (parts (plain t))))) c.in-Some.ensures.rest chose (c.loop-at.invariant.value table);
    }

pub returns-clause-value : goal.returns-clause-value
returns-clause-value c = λ table.
    let t = c.args.tree.now in
    let is = inputs_of (named [] c.args.word.now) in
    agents_end table is c.loop-at.at (parts (plain t)) (given_by table (option_map plain (option_copied c.loop-at.found))) (last_value agents is (givens table (nodes (parts (plain t))))) (drop_all c.loop-at.at (parts (plain t)) (omega (arith, c.len-at-end.ensures))) (c.loop-at.invariant.value table)
