-- What stands around an expression that is over.
use Rattle.std.specs.Prelude.{List}
use Rattle.nl_fixed.specs.Nouns.{Names}
use Rattle.nl_tree.specs.Tree.{Node}
use Rattle.nl_tree.specs.Tokens.{Tok}
use Rattle.nl_parse_grammar.specs.declared.pending.Shape.{Shape}
use Rattle.nl_parse_grammar.specs.Machine.{Frame, Step, stop, feed_paren, feed_minus, feed_reporter, feed_no_head, feed_arrow_reporter, feed_bracket, feed_whole}
use Rattle.nl_parse_stack.specs.declared.around.Around.{Around}

-- a token behind it, on what is open outside
abbrev pub shut_in : Around → Shape → Node → Names → List Frame → Tok → Step
shut_in (Around.Paren p) x t e K tok = feed_paren x t p e K tok
shut_in (Around.Minus p s) x t e K tok = feed_minus t p s e K tok
shut_in (Around.Reporter s) x t e K tok = feed_reporter t s e K tok
shut_in (Around.NoHead s) x t e K tok = feed_no_head t s e K tok
shut_in (Around.ArrowReporter s ns) x t e K tok = feed_arrow_reporter t s e ns K tok
shut_in (Around.Bracket s) x t e K tok = feed_bracket x t s e K tok
shut_in Around.Nothing x t e K tok = feed_whole t e tok
shut_in Around.Else x t e K tok = stop
