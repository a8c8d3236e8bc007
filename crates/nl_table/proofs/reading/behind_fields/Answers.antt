use Rattle.std.proofs.Common.{ap, sym, ◌∙◌, arith}
use Rattle.std.specs.Prelude.{option_map}
use Rattle.csv.specs.Records.{fields_of}
use Rattle.nl_table.proofs.Readings.{no_fields, first_stops, first_goes, field_there, comma_stops, field_stops, field_goes}
use Rattle.nl_table.proofs.reading.behind_fields.Goals as goal

pub returns-in_err-first : goal.returns-in_err-first
returns-in_err-first c =
    ap (option_map (λ left. left.now)) c.from_residual.ensures
    ∙ sym (no_fields (fields_of c.args.row.now) c.args.bytes.now (sym c.in_err-first.ensures.value))

pub returns-in_err-left : goal.returns-in_err-left
returns-in_err-left c =
    ap (option_map (λ left. left.now)) c.from_residual-in_err-left.ensures
    ∙ sym (first_stops (fields_of c.args.row.now) _ c.args.bytes.now (sym c.in_ok-first.ensures.value) (sym c.in_err-left.ensures))

pub loop-place-init : goal.loop-place-init
loop-place-init c = first_goes (fields_of c.args.row.now) _ c.args.bytes.now _ (sym c.in_ok-first.ensures.value) (sym c.in_ok-left.ensures)

pub returns-in_err-cell : goal.returns-in_err-cell
returns-in_err-cell c =
    absurd
    (field_there (fields_of c.args.row.now) c.loop-place.place (omega (arith, c.loop-place-test.true, c.len-place-end.ensures))
    (sym c.in_err-cell.ensures.value))

pub returns-in_err-left-2 : goal.returns-in_err-left-2
returns-in_err-left-2 c =
    ap (option_map (λ left. left.now)) c.from_residual-in_err-left-2.ensures
    ∙ sym
    (c.loop-place.invariant
    ∙ comma_stops (fields_of c.args.row.now) c.loop-place.place _ _ (sym c.in_ok-cell.ensures.value) (sym c.in_err-left-2.ensures))

pub returns-in_err-left-3 : goal.returns-in_err-left-3
returns-in_err-left-3 c =
    ap (option_map (λ left. left.now)) c.from_residual-in_err-left-3.ensures
    ∙ sym
    (c.loop-place.invariant
    ∙ field_stops (fields_of c.args.row.now) c.loop-place.place _ _ _ (sym c.in_ok-cell.ensures.value) (sym c.in_ok-left-2.ensures) (sym c.in_err-left-3.ensures))

pub loop-place-preserved : goal.loop-place-preserved
loop-place-preserved c =
    c.loop-place.invariant
    ∙ field_goes (fields_of c.args.row.now) c.loop-place.place _ _ _ _ (sym c.in_ok-cell.ensures.value) (sym c.in_ok-left-2.ensures) (sym c.in_ok-left-3.ensures)
