use Rattle.std.proofs.Common.{◌≡◌, map, true, ◌∙◌}
use Rattle.nl_words.specs.Row.{row_of}
use Rattle.nl_words.specs.Table.{is_table}
use Rattle.nl_words.proofs.Finding.{coded, named, named_only, table_ascends}
use Rattle.nl_words.proofs.words.Words.find.Goals as goal

pub search-requires : goal.search-requires
search-requires g c = table_ascends (map row_of c.self.inside.rows.now) c.self.invariant.1

pub returns-clause-row : goal.returns-clause-row
returns-clause-row g c = rw (← c.self.view_is) c.search.ensures

pub returns-clause-only : goal.returns-clause-only
returns-clause-only g c = λ k d within same.
    let table : is_table c.args.self.now ≡ true = rw c.self.view_is at c.self.invariant.1 in
    returns-clause-row g c ∙ named_only c.args.self.now c.args.name.now (table_ascends c.args.self.now table) k d within same

pub returns-clause-name : goal.returns-clause-name
returns-clause-name g c = named c.args.self.now c.args.name.now c.search.result (returns-clause-row g c)

pub returns-clause-place : goal.returns-clause-place
returns-clause-place g c =
    let table : is_table c.args.self.now ≡ true = rw c.self.view_is at c.self.invariant.1 in
    coded c.args.self.now c.args.name.now c.search.result table (returns-clause-row g c)
