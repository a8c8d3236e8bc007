-- A text that was read and checked has whatever its meaning looks for.
use Rattle.std.proofs.Common.{◌⊎◌, inl, inr, Bool, List, [], ◌++◌, ◌∷◌}
use Rattle.nl_fixed.specs.Nouns.{Names}
use Rattle.nl_tree.specs.declared.declared.Declared.{Declared}
use Rattle.nl_tree.specs.declared.declared.Form.{Form}
use Rattle.nl_tree.specs.declared.declared.Form.TheVariants as form
use Rattle.nl_tree.specs.BodyFault.{ends_at}
use Rattle.nl_tree.specs.Context.{IsRightBody, IsRightText}
use Rattle.nl_tree.specs.Grammar.{IsText}
use Rattle.nl_tree.specs.Tokens.{Token, marked}
use Rattle.nl_tree.specs.Tree.{Node}
use Rattle.nl_tree.specs.Vocabulary.{terms}
use Rattle.nl_exec_whole.specs.Texts.{HasAll, LoneTextsHaveAll, ProgramsHaveAll}
use Rattle.nl_exec_whole.proofs.Finding.{nodes_are_whole}
use Rattle.nl_exec_whole.proofs.Scoping.{names_are_known}
use Rattle.nl_exec_whole.proofs.Settling.{texts_set_what_they_may}

pub all_there : (d : Declared) (bodies : List Node) (f : Form) (inputs : Names) (ts : List Token) (t : Node) → IsText f inputs (marked (terms d) ts) t
    → ((reporter : Bool) × IsRightBody (terms d) bodies reporter t) ⊎ IsRightText (terms d) bodies t → HasAll d inputs t
all_there d bodies f inputs ts t r right =
    record { nodes = nodes_are_whole d f inputs ts t r; names = names_are_known d f inputs ts t r; settings = texts_set_what_they_may d bodies f inputs ts t r right }

pub programs_have_all : ProgramsHaveAll
programs_have_all p checked i procedure t here there =
    let (ts, s, (words, (r, low))) = checked.2 i procedure t here there in
    all_there p.declared p.bodies form.Commands procedure.inputs (ts ++ ends_at s ∷ []) t r (inl (procedure.reporter, checked.3 i procedure t here there))

pub lone_texts_have_all : LoneTextsHaveAll
lone_texts_have_all p f ts t r right = all_there p.declared p.bodies f [] ts t r (inr right)
