use Rattle.std.proofs.Common.{◌≡◌, ap, ◌∙◌, map}
use Rattle.toml.specs.View.{table_view}
use Rattle.nl_experiment_fields.specs.Keys.{keys_of, known_in}
use Rattle.nl_experiment_fields.proofs.fields.known_in.Goals as goal

pub returns : goal.returns
returns c =
    let named : map (λ name. name.now) c.as_slice.result.now ≡ known_in (table_view c.args.table.now) =
    ap (λ names. map (λ name. name.now) names) c.as_slice.ensures.value ∙ c.in_ok-known.ensures ∙ ap keys_of c.in_ok-format.ensures in
    rw named at c.all_known.ensures
