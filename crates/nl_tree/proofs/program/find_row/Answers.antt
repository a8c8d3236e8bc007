use Rattle.std.proofs.Common.{rules, of_calls, ap, sym, ◌∙◌}
use Rattle.std.specs.Ordering.{nat_cmp}
use Rattle.std.specs.Cmp.Lexicographic.{slice_cmp}
use Rattle.std.proofs.lemmas.Fn.{always_returns_same}
use Rattle.nl_tree.specs.declared.declared.NamedWhat.{NamedWhat}
use Rattle.nl_tree.proofs.Finding.{hit, miss}
use Rattle.nl_tree.proofs.program.find_row.Goals as goal

-- the closure compares a row's name with the name that is sought
pub returns-in-Ok : goal.returns-in-Ok
returns-in-Ok c =
    let key = λ (row : NamedWhat). slice_cmp nat_cmp row.name c.args.name.now in
    let by_key = c.in-Ok.ensures.position key (always_returns_same _ _ _ (λ a r f called. search (rules, of_calls))) in
    let here = c.index-rows-at.is in
    (ap (λ (r : NamedWhat). r.name) here ∙ hit (λ (r : NamedWhat). r.name) c.args.rows.now c.args.name.now c.requires c.in-Ok.at by_key c.index-rows-at.result, (c.in-Ok.at, c.in-Ok.ensures.bound, sym here))

pub returns-in-Err : goal.returns-in-Err
returns-in-Err c =
    let key = λ (row : NamedWhat). slice_cmp nat_cmp row.name c.args.name.now in
    let by_key = c.in-Err.ensures.position key (always_returns_same _ _ _ (λ a r f called. search (rules, of_calls))) in
    miss (λ (r : NamedWhat). r.name) c.args.rows.now c.args.name.now c.requires c.in-Err.field-0 by_key
