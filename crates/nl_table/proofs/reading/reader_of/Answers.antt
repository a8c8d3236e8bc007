use Rattle.std.proofs.Common.{true, ap, ◌∙◌, inr}
use Rattle.csv.specs.Reading.{builder_config, builder_names_headers, builder_trim, with_flexible}
use Rattle.std.specs.Prelude.{Some}
use Rattle.nl_table.proofs.Readings.{quoted_is_unmarked}
use Rattle.nl_table.proofs.reading.reader_of.Goals as goal

pub returns : goal.returns
returns c =
    let e = c.from_reader.ensures in
    let set = c.flexible.ensures ∙ ap (λ b. with_flexible b true) c.has_headers.ensures in (
      e.config ∙ ap builder_config set ∙ c.new.ensures.config,
      e.trim ∙ ap builder_trim set ∙ c.new.ensures.trim,
      e.state,
      inr (inr (e.has_headers ∙ ap builder_names_headers set, e.headers)),
      λ quoted. e.source ∙ ap (λ bytes. Some bytes) (quoted_is_unmarked c.args.bytes.now quoted),
    )
