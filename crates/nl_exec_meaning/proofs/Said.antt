-- What words say, by what they are.
use Rattle.std.proofs.Common.{◌≡◌, None, Some, Result, Ok, Err, IfOk}
use Rattle.nl_fixed.specs.Nouns.{Names}
use Rattle.nl_words.specs.Row.{Code}
use Rattle.nl_tree.specs.Term.{Term}
use Rattle.nl_tree.specs.declared.declared.What.{What}
use Rattle.nl_tree.specs.declared.declared.What.TheVariants as what
use Rattle.nl_tree.specs.declared.tree.Label.TheVariants as label
use Rattle.nl_agents_layout.specs.Nouns.{BreedNumber}
use Rattle.nl_exec_meaning.specs.Cases.{Case, built_case, case_of_what}
use Rattle.nl_exec_meaning.specs.declared.item.Op.{Op}
use Rattle.nl_exec_meaning.specs.inner.Arena.{IsNumbered, Says}

pub said_base : (t : Term) (w : What) (it : Op) (code : Code) → w ≡ what.Base code → Says it (built_case t None code) → Says it (case_of_what t w)
said_base t w it code e h = rw e h

pub said_made : (t : Term) (w : What) (it : Op) (breed : BreedNumber) (code : Code) → w ≡ what.Made breed code → Says it (built_case t (Some breed) code) → Says it (case_of_what t w)
said_made t w it breed code e h = rw e h

-- what says a case whatever the names are has no number without a name
pub said_numbered : {E : Type 0} (r : Result Op E) (c : Case) (names : Names) → IfOk r (λ it. Says it c) → IfOk r (λ it. IsNumbered names it)
said_numbered (Ok it) c names h = (h names label.List).1
said_numbered (Err e) c names h = h
