use Rattle.nl_parse_grammar.proofs.Meant.{tokens_are_plain}
use Rattle.nl_parse_grammar.specs.Texts.{plain_tokens}
use Rattle.nl_check_model.specs.LoneText.{end_of}
use Rattle.nl_check_model.proofs.lone.check_tree.Goals as goal

pub check_text-requires : goal.check_text-requires
check_text-requires c =
    let text = c.args.source.now.text.now in
    let tokens = c.args.source.now.tokens.now in
    (plain_tokens text tokens, end_of text, (tokens_are_plain text tokens c.args.source.now.scanned, c.requires))
