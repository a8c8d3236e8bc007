use Rattle.nl_experiment_keys.proofs.Texts.{document-parse_document}
use Rattle.nl_experiment_keys.proofs.document.document_of.Goals as goal

pub returns-in-Ok-table_from_str : goal.returns-in-Ok-table_from_str
returns-in-Ok-table_from_str c = rw (document-parse_document c.args.text.now c.in-Ok.ensures.cases.1, ← c.in-Ok.ensures.cases.0, c.in-Ok-table_from_str.ensures.ok)
