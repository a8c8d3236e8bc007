use Rattle.std.proofs.Common.{[], sym, subst}
use Rattle.nl_table.specs.Reading.{IsLineOf}
use Rattle.nl_table.proofs.Readings.{stands_alone, told_not, told_yes}
use Rattle.nl_table.proofs.reading.cells.Goals as goal

pub returns-then-not-is_line : goal.returns-then-not-is_line
returns-then-not-is_line c =
    told_not c.in_ok-is_line.is_line _ _
    (c.in_ok-is_line.ensures [] (stands_alone c.reader_of-reader.result c.args.piece.now c.reader_of-reader.ensures))
    c.if-not-is_line.true

pub returns : goal.returns
returns c =
    let told = told_yes c.in_ok-is_line.is_line _ _
    (c.in_ok-is_line.ensures [] (stands_alone c.reader_of-reader.result c.args.piece.now c.reader_of-reader.ensures))
    c.if-not-is_line.false in
    subst (λ cells. IsLineOf cells c.args.piece.now) (sym c.in_ok-cells.ensures) told.0
