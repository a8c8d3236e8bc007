use Rattle.std.proofs.Common.{◌∙◌, sym}
use Rattle.nl_grid.proofs.BandLemmas.{RowIsDone, first_in_row, done_by_row, done_by_columns, first_in_later_row, none_by_rows, if_none, if_refused, in_any_case}
use Rattle.nl_grid.proofs.patch_box.first_from.Goals as goal
use Rattle.nl_grid.proofs.patch_box.first_from.Goals.{then-contains+in_default, else-contains}

pub returns-in-Some-clause-found : goal.returns-in-Some-clause-found
returns-in-Some-clause-found c =
    first_in_row c.args.columns c.args.rows c.args.patch c.in-Some.column c.requires (sym c.contains.ensures ∙ c.if-contains.true) c.in-Some.ensures.found

pub returns-in_err-row-clause-none : goal.returns-in_err-row-clause-none
returns-in_err-row-clause-none c =
    let done : RowIsDone c.args.columns c.args.rows c.args.patch =
    elim c.if-contains.branch [
      | then-contains+in_default w ↦ done_by_columns c.args.columns c.args.rows c.args.patch (if_refused w.from_index.result w.in_default.not-Some w.from_index.ensures.none)
      | else-contains w ↦ done_by_row c.args.columns c.args.rows c.args.patch (sym c.contains.ensures ∙ w.if-contains.false)
    ] in
    in_any_case c.from_residual.result (none_by_rows c.args.columns c.args.rows c.args.patch c.requires done (if_none c.after.result c.in_err-row.was c.after.ensures.none))

pub returns-clause-found : goal.returns-clause-found
returns-clause-found c =
    let done : RowIsDone c.args.columns c.args.rows c.args.patch =
    elim c.if-contains.branch [
      | then-contains+in_default w ↦ done_by_columns c.args.columns c.args.rows c.args.patch (if_refused w.from_index.result w.in_default.not-Some w.from_index.ensures.none)
      | else-contains w ↦ done_by_row c.args.columns c.args.rows c.args.patch (sym c.contains.ensures ∙ w.if-contains.false)
    ] in
    first_in_later_row c.args.columns c.args.rows c.args.patch c.in_ok-row.row c.in_ok-column.column c.requires done c.in_ok-row.ensures.found c.in_ok-column.ensures.found
