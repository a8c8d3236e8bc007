use Rattle.std.proofs.Common.{◌≡◌, ◌∙◌, ap, subst, Some, ◌++◌, ℕ, if◌then◌else◌, List, map}
use Rattle.std.specs.Prelude.{OnOk}
use Rattle.nl_words.specs.Row.{row_of, row_named}
use Rattle.nl_words.specs.Rows.{rows}
use Rattle.nl_tree.specs.Index.{term_of}
use Rattle.nl_tree.specs.Term.{Term}
use Rattle.nl_tree.specs.Vocabulary.{made_as, made_name}
use Rattle.nl_decl.specs.Made.{pattern_of}
use Rattle.nl_decl.proofs.index.add_made_word.Goals as goal

pub returns-in_ok-name-in-Some : goal.returns-in_ok-name-in-Some
returns-in_ok-name-in-Some c =
    let here = rw c.base_words-words.ensures.rows at c.in-Some.ensures.row in
    let name : c.in_ok-name-in-Some.name ≡ made_name c.args.breed.now (pattern_of c.args.word.now) =
    c.in_ok-name-in-Some.ensures
    ∙ ap (λ (p : List ℕ). c.args.word.now.before.now ++ (if c.args.word.now.plural then p else c.as_bytes-in-Some-2.result.now) ++ c.args.word.now.after.now) c.as_bytes-in-Some.ensures
    ∙ ap (λ (s : List ℕ). c.args.word.now.before.now ++ (if c.args.word.now.plural then c.args.breed.now.plural else s) ++ c.args.word.now.after.now) c.as_bytes-in-Some-2.ensures in
    let row : Some (row_of c.in-Some.entry.now) ≡ row_named rows c.args.word.now.base.now = here ∙ ap (row_named rows) c.as_bytes.ensures.value in
    subst (λ (ts : List Term). OnOk c.add.result (map term_of c.add.new.list.items ≡ map term_of c.args.list.now.items ++ ts))
    (c.made_word.ensures c.in_ok-name-in-Some.name ∙ ap (λ n. made_as c.args.number n (Some (row_of c.in-Some.entry.now))) name ∙ ap (made_as c.args.number (made_name c.args.breed.now (pattern_of c.args.word.now))) row)
    c.add.ensures
