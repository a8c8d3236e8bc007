use Rattle.std.proofs.Common.{◌∙◌, sym, ap, is_some}
use Rattle.nl_words.specs.Row.{row_named}
use Rattle.nl_words.specs.Rows.{rows}
use Rattle.nl_experiment_fields.proofs.Forms.{found_among, found_is}
use Rattle.nl_experiment_fields.proofs.names.is_built_in.Goals as goal

pub returns : goal.returns
returns c =
    c.is_some.ensures ∙ sym (found_is c.find.result) ∙ ap is_some (c.find.ensures.row ∙ ap (λ rs. row_named rs c.args.name.now) c.base_words.ensures.rows)
    ∙ found_among rows c.args.name.now
