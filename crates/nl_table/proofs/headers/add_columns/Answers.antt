use Rattle.std.proofs.Common.{◌++◌, ap, ◌∙◌}
use Rattle.std.proofs.lemmas.Result.{on_ok_weaker}
use Rattle.nl_table.specs.Lines.{line_text}
use Rattle.nl_table.proofs.LineText.{columns_made}
use Rattle.nl_table.proofs.headers.add_columns.Goals as goal

pub returns : goal.returns
returns c =
    let made = columns_made _ _ _ _ _ _ _ _ _ _ _ c.empty-record.ensures c.in_ok-push.ensures c.in_ok-extend.ensures c.in_ok-push-2.ensures c.in_ok-extend-2.ensures c.in_ok-push-3.ensures in
    on_ok_weaker c.append.result (λ e. e ∙ ap (λ bytes. c.args.text.now ++ bytes) (c.as_bytes.ensures ∙ c.in_ok-bytes.ensures ∙ ap line_text made)) c.append.ensures.ok
