use Rattle.std.proofs.Common.{List, take, map, ap, ◌∙◌, sym}
use Rattle.std.proofs.lemmas.List.{take-map}
use Rattle.nl_value.specs.declared.values.Value.{Value}
use Rattle.nl_value.specs.Plain.{Plain}
use Rattle.nl_value.specs.Views.{plain}
use Rattle.nl_value.proofs.values.Items.truncate.Goals as goal

pub returns : goal.returns
returns c =
    ap (λ (vs : List Value). map plain vs) c.truncate.ensures.items
    ∙ sym (take-map plain c.args.most c.self.inside.list.items)
    ∙ ap (λ (ps : List Plain). take c.args.most ps) c.self.view_is
