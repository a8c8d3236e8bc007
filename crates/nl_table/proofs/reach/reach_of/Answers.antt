use Rattle.std.proofs.Common.{◌<◌, sym, ◌∙◌, subst, arith}
use Rattle.csv.specs.Records.{fields_of}
use Rattle.nl_table.specs.Reading.{StandsBefore}
use Rattle.nl_table.proofs.Reaching.{past_last, no_row, end_passed, open_passed, reached_all, judged_yes, judged_no}
use Rattle.nl_table.proofs.reach.reach_of.Goals as goal

pub returns-then-ended-runs : goal.returns-then-ended-runs
returns-then-ended-runs c =
    let (stands, passed, number, fits) = c.pieces.invariant in
    past_last c.args.columns c.args.runs c.pieces.ended c.pieces.begin c.pieces.behind c.args.rest.now c.pieces.left.now c.in-Some.piece.now c.in-Some.further.now
    passed c.in-Some.ensures.0 c.in-Some.ensures.1 (λ less. omega (arith, less, c.if-ended-runs.true))

pub returns-then-not-is_due : goal.returns-then-not-is_due
returns-then-not-is_due c =
    let (stands, passed, number, fits) = c.pieces.invariant in
    let less : c.pieces.ended < c.args.runs = omega (arith, fits, c.if-ended-runs.false) in
    no_row c.args.columns c.args.runs c.pieces.ended c.pieces.begin c.pieces.behind c.args.rest.now c.pieces.left.now c.in-Some.piece.now c.in-Some.further.now c.as_bytes.result.now
    passed c.in-Some.ensures.0 c.in-Some.ensures.1 (c.as_bytes.ensures ∙ number (omega (arith, less, c.ranges.runs.fits)))
    (judged_no c.in_ok-is_due.is_due c.reads_row.new.reader c.in-Some.further.now (fields_of c.reads_row.new.row) c.in-Some.piece.now c.args.columns c.as_bytes.result.now
    (c.in_ok-is_due.ensures c.in-Some.further.now (subst (StandsBefore c.pieces.reader) c.in-Some.ensures.0 stands)) c.if-not-is_due.true)

pub pieces-preserved-then-has_end : goal.pieces-preserved-then-has_end
pieces-preserved-then-has_end c =
    let (stands, passed, number, fits) = c.pieces.invariant in
    let judged = judged_yes c.in_ok-is_due.is_due c.reads_row.new.reader c.in-Some.further.now (fields_of c.reads_row.new.row) c.in-Some.piece.now c.args.columns c.as_bytes.result.now
    (c.in_ok-is_due.ensures c.in-Some.further.now (subst (StandsBefore c.pieces.reader) c.in-Some.ensures.0 stands)) c.if-not-is_due.false in
    let less : c.pieces.ended < c.args.runs = omega (arith, fits, c.if-ended-runs.false) in (
      judged.2,
      end_passed c.args.columns c.args.runs c.pieces.ended c.pieces.begin c.pieces.behind c.args.rest.now c.pieces.left.now c.in-Some.piece.now c.in-Some.further.now c.as_bytes.result.now
          (fields_of c.reads_row.new.row) passed less (c.as_bytes.ensures ∙ number (omega (arith, less, c.ranges.runs.fits))) c.in-Some.ensures.0 judged.0 judged.1 (sym c.has_end.ensures ∙ c.if-has_end.true),
      c.in_ok-number-2.ensures,
      omega (arith, less),
    )

pub pieces-preserved : goal.pieces-preserved
pieces-preserved c =
    let (stands, passed, number, fits) = c.pieces.invariant in
    let judged = judged_yes c.in_ok-is_due.is_due c.reads_row.new.reader c.in-Some.further.now (fields_of c.reads_row.new.row) c.in-Some.piece.now c.args.columns c.as_bytes.result.now
    (c.in_ok-is_due.ensures c.in-Some.further.now (subst (StandsBefore c.pieces.reader) c.in-Some.ensures.0 stands)) c.if-not-is_due.false in
    let less : c.pieces.ended < c.args.runs = omega (arith, fits, c.if-ended-runs.false) in (
      judged.2,
      open_passed c.args.columns c.args.runs c.pieces.ended c.pieces.begin c.pieces.behind c.args.rest.now c.pieces.left.now c.in-Some.piece.now c.in-Some.further.now c.as_bytes.result.now
          (fields_of c.reads_row.new.row) passed less (c.as_bytes.ensures ∙ number (omega (arith, less, c.ranges.runs.fits))) c.in-Some.ensures.0 judged.0 judged.1 (sym c.has_end.ensures ∙ c.if-has_end.false),
      number,
      fits,
    )

pub returns : goal.returns
returns c =
    let (stands, passed, number, fits) = c.pieces.invariant in
    reached_all c.args.columns c.args.runs c.pieces.ended c.pieces.begin c.pieces.behind c.args.rest.now c.pieces.left.now passed c.in_default.ensures
