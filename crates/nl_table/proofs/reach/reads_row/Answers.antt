use Rattle.csv.specs.Records.{fields_of}
use Rattle.nl_table.proofs.Reaching.{row_told, no_line_told}
use Rattle.nl_table.proofs.reach.reads_row.Goals as goal

pub returns-then-not-is_line : goal.returns-then-not-is_line
returns-then-not-is_line c = λ behind stands.
    no_line_told c.in_ok-is_line.is_line c.reads_line.new.reader behind (fields_of c.reads_line.new.row) c.args.piece.now c.args.columns c.args.number.now
    (c.in_ok-is_line.ensures behind stands) c.if-not-is_line.true

pub returns : goal.returns
returns c = λ behind stands.
    row_told c.in_ok-is_line.is_line c.is_numbered-is_row.result c.reads_line.new.reader behind (fields_of c.reads_line.new.row) c.args.piece.now c.args.columns c.args.number.now
    (c.in_ok-is_line.ensures behind stands) c.if-not-is_line.false c.is_numbered-is_row.ensures.0 c.is_numbered-is_row.ensures.1
