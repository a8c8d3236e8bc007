-- Steps of the machine apart, and what they ask of a token.
use Rattle.std.specs.Prelude.{Bool, true, false, List, [], ◌∷◌}
use Rattle.nl_fixed.specs.Nouns.{Names}
use Rattle.nl_fixed.specs.declared.span.Span.{Span}
use Rattle.nl_tree.specs.Tree.{Node, node, none}
use Rattle.nl_tree.specs.declared.tree.Label.TheVariants as label
use Rattle.nl_tree.specs.declared.needs.Content.TheVariants as contents
use Rattle.nl_tree.specs.Vocabulary.{among}
use Rattle.nl_tree.specs.Tokens.{Tok, Unknown, Constant, Plain, Named, Prefix, Many, Closing, Command, Let, Arrow, number, text, word, open_bracket, close_bracket, open_paren}
use Rattle.nl_parse_grammar.specs.declared.pending.Shape.{Shape}
use Rattle.nl_parse_grammar.specs.declared.pending.Shape.TheVariants.{Growing}
use Rattle.nl_parse_grammar.specs.Machine.{Frame, InCall, InItems, next, without_maybes, Step, go, stop, begin_content, feed_begin, feed_plain}

-- the token may stand behind an item of a literal list
abbrev pub may_follow_item : Tok → Bool
may_follow_item (number n s) = true
may_follow_item (text bytes s) = true
may_follow_item (word w Constant s) = true
may_follow_item (open_bracket s) = true
may_follow_item (close_bracket s) = true
may_follow_item tok = false

-- a token that opens no block, where one may be missing
abbrev pub feed_missing : Names → List Frame → Tok → Step
feed_missing e (InCall w s ts i is last ∷ K) tok = feed_plain (next w s ts (without_maybes is) last e K) tok
feed_missing e K tok = stop

-- the token is the arrow
abbrev pub is_arrow : Tok → Bool
is_arrow (word w Arrow s) = true
is_arrow tok = false

-- an expression begins with the token, where these names are known
abbrev pub starts : Names → Tok → Bool
starts e (number n s) = true
starts e (text bytes s) = true
starts e (word w Unknown s) = among w e
starts e (word w Constant s) = true
starts e (word w Plain s) = true
starts e (word w Named s) = true
starts e (word w (Prefix is) s) = true
starts e (word w (Many n) s) = true
starts e (word w (Closing is b) s) = true
starts e (open_bracket s) = true
starts e (open_paren s) = true
starts e tok = false

-- the token begins a statement of an arrow block, or closes that
abbrev pub states : Tok → Bool
states (word w (Command is) s) = true
states (word w Let s) = true
states (open_paren s) = true
states (close_bracket s) = true
states tok = false

-- the arrow behind an expression that began an arrow block: a head without names, if that is an empty list
abbrev pub feed_no_names : Node → Span → Names → List Frame → Step
feed_no_names (node label.List r none) s e K = go (begin_content contents.Reporter s e [] e K)
feed_no_names t s e K = stop

-- behind an expression in parentheses, where the token does not close them
abbrev pub feed_more : Shape → Node → Span → Names → List Frame → Tok → Step
feed_more Growing (node l s ts) p e K tok = feed_begin e (InItems p l s ts ∷ K) tok
feed_more x t p e K tok = stop
