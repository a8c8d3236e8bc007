-- What a refusal says.
use Rattle.std.specs.Prelude.{List}
use Rattle.nl_fixed.specs.Nouns.{Names}
use Rattle.nl_tree.specs.declared.declared.Form.{Form}
use Rattle.nl_tree.specs.Term.{Term}
use Rattle.nl_tree.specs.Tokens.{Token}
use Rattle.nl_tree.specs.BodyFault.{IsTextFault}
use Rattle.nl_parse.specs.declared.body.BodyRefusal.{BodyRefusal}

-- a fault is the first one of the tokens, of its kind
abbrev pub Refuses : Form → Names → List Term → List Token → BodyRefusal → Type 0
Refuses form names table ts (BodyRefusal.Fault kind place) = IsTextFault form names table ts place kind
Refuses form names table ts BodyRefusal.NoMemory = Unit {0}
