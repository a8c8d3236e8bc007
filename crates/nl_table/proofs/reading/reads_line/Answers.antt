use Rattle.csv.specs.Records.{fields_of}
use Rattle.nl_table.proofs.Readings.{line_told, nothing_told}
use Rattle.nl_table.proofs.reading.reads_line.Goals as goal

pub returns-then-not-found : goal.returns-then-not-found
returns-then-not-found c = λ rest stands.
    nothing_told c.args.reader.now c.next_record.new.reader c.in_ok-found.found (fields_of c.next_record.new.row) c.args.piece.now rest stands
    (c.in_ok-found.ensures.reads stands.1 stands.3) (c.in_ok-found.ensures.first stands.1) c.if-not-found.true

pub returns : goal.returns
returns c = λ rest stands.
    line_told c.args.reader.now c.next_record.new.reader c.in_ok-found.found c.is_line_of-is_line.result (fields_of c.next_record.new.row) c.args.piece.now rest
    stands (c.in_ok-found.ensures.reads stands.1 stands.3) (c.in_ok-found.ensures.first stands.1)
    c.is_line_of-is_line.ensures.0 c.is_line_of-is_line.ensures.1
