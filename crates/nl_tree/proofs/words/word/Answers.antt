use Rattle.std.proofs.Common.{◌≡◌, sym, ap, subst, ◌∙◌, Some}
use Rattle.nl_words.specs.Row.{row_of}
use Rattle.nl_tree.specs.Index.{named}
use Rattle.nl_tree.specs.Vocabulary.{base_term}
use Rattle.nl_tree.proofs.Lookup.{base_row, own_row}
use Rattle.nl_tree.proofs.words.word.Goals as goal

pub returns-in-Some : goal.returns-in-Some
returns-in-Some c =
    let here = sym (rw c.base_words-words.ensures.rows at c.in-Some.ensures.row) in
    let found = base_row c.args.declared.now c.requires c.args.name.now (row_of c.in-Some.entry.now) here in
    let it = subst (λ n. named n c.base_word.result ≡ base_term (row_of c.in-Some.entry.now)) c.in-Some.ensures.name c.base_word.ensures in
    ap Some it ∙ sym found

pub returns-in-None : goal.returns-in-None
returns-in-None c =
    let none = sym (rw c.base_words-words.ensures.rows at c.in-None.ensures.row) in
    c.own_word.ensures ∙ sym (own_row c.args.declared.now c.requires c.args.name.now none)
