use Rattle.std.proofs.Common.{◌≡◌, List, [], ◌∷◌, Some, None, sym, ap, ◌∙◌, refl}
use Rattle.std.specs.Prelude.{slice_get}
use Rattle.nl_words.specs.Kinds.{agents}
use Rattle.nl_tree.specs.Tree.{Node, nodes, listed}
use Rattle.nl_tree.specs.Term.{Term}
use Rattle.nl_tree.specs.Views.{plain}
use Rattle.nl_tree.specs.Vocabulary.{terms, term_named}
use Rattle.nl_tree.specs.Context.{given, givens, given_as, first_kinds, told, told_by}
use Rattle.nl_tree.proofs.Parts.{listed_nodes}
use Rattle.nl_tree.specs.Index.{named}
use Rattle.nl_check.proofs.given.+given.Goals as goal

first_there : (table : List Term) (parts : List Node) (t : Node) → Some t ≡ slice_get (listed (nodes parts)) 0 → given table t ≡ first_kinds (givens table (nodes parts))
first_there table [] t here = cc
first_there table (u ∷ us) t here = let same : t ≡ u = cc in ap (given table) same

first_missing : (table : List Term) (parts : List Node) → None ≡ slice_get (listed (nodes parts)) 0 → agents ≡ first_kinds (givens table (nodes parts))
first_missing table [] here = refl
first_missing table (u ∷ us) here = cc

pub given-returns-in-Some : goal.given-returns-in-Some
given-returns-in-Some t c =
    let table = terms c.args.declared.now in
    let tree = c.args.tree.now in
    let ks = givens table (nodes tree.parts) in
    let at = sym c.label.ensures ∙ c.in-Named.is in
    c.told.ensures ∙ ap (λ ts. told (named [] c.in-Some.word) (givens table (nodes ts))) (listed_nodes tree.parts) ∙ ap (λ o. told_by o ks) c.in-Some.ensures ∙ ap (λ w. told_by (term_named table w) ks) c.as_bytes.ensures ∙ sym (ap (λ l. given_as table l ks) at)

pub given-returns-in-Some-part : goal.given-returns-in-Some-part
given-returns-in-Some-part t c =
    let table = terms c.args.declared.now in
    let tree = c.args.tree.now in
    let at = sym c.label.ensures ∙ c.in-Paren.is in
    c.given.ensures ∙ first_there table tree.parts (plain c.in-Some-part.part.now) c.in-Some-part.ensures.value ∙ sym (ap (λ l. given_as table l (givens table (nodes tree.parts))) at)

pub given-returns-in-None-part : goal.given-returns-in-None-part
given-returns-in-None-part t c =
    let table = terms c.args.declared.now in
    let tree = c.args.tree.now in
    let at = sym c.label.ensures ∙ c.in-Paren.is in
    c.agents-in-None-part.ensures ∙ first_missing table tree.parts c.in-None-part.ensures.value ∙ sym (ap (λ l. given_as table l (givens table (nodes tree.parts))) at)
