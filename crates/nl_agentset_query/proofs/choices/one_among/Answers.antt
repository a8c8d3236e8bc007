use Rattle.std.proofs.Common.{List, subst, sym, ◌∙◌}
use Rattle.nl_draw.specs.Stream.{chosen}
use Rattle.nl_value.specs.Plain.{Plain}
use Rattle.nl_value.specs.Views.{plain}
use Rattle.nl_value.specs.declared.values.Value.{Value}
use Rattle.nl_agentset_query.specs.Choices.{item_or_few, one_among}
use Rattle.nl_agentset_query.specs.Outcomes.{Answers}
use Rattle.nl_agentset_query.proofs.Fitting.{items_of_plains}
use Rattle.nl_agentset_query.proofs.choices.one_among.Goals as goal

pub returns-in-Items-clause-answer : goal.returns-in-Items-clause-answer
returns-in-Items-clause-answer g c =
    let r = (g.S.Store.world c.args.store.now).rest in
    subst (λ (v : Value). Answers c.one_item.result c.one_item.new.stream (one_among r (plain v) c.args.stream.now)) (sym c.in-Items.is)
    (subst (λ (l : List Plain). Answers c.one_item.result c.one_item.new.stream (item_or_few (chosen l c.args.stream.now))) (c.deref.ensures ∙ sym (items_of_plains c.in-Items.items.value)) c.one_item.ensures.answer)
