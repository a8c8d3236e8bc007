use Rattle.std.proofs.Common.{◌∙◌}
use Rattle.nl_check_model.proofs.Programs.{says_of_tokens}
use Rattle.nl_check_model.proofs.model.read_code.Goals as goal

pub returns-in-Ok : goal.returns-in-Ok
returns-in-Ok c =
    says_of_tokens c.args.widgets c.args.code.now c.new.result.text.now c.in-Ok.tokens c.new.result.tokens.now c.read_program.result c.in-Ok.ensures.tokens
    c.new.ensures.text (c.new.ensures.tokens ∙ c.as_slice.ensures) c.read_program.ensures
