use Rattle.std.proofs.Common.{◌++◌, ap, sym, ◌∙◌}
use Rattle.std.specs.Prelude.{option_to_list}
use Rattle.csv.specs.Records.{field_at, fields_of}
use Rattle.nl_table.proofs.Readings.{field_take}
use Rattle.nl_table.proofs.reading.cells_of.Goals as goal

pub loop-place-preserved : goal.loop-place-preserved
loop-place-preserved c =
    c.in_ok-push_field.ensures
    ∙ ap (λ l. l ++ option_to_list (field_at (fields_of c.args.row.now) c.loop-place.place)) c.loop-place.invariant
    ∙ sym (field_take (fields_of c.args.row.now) c.loop-place.place)
