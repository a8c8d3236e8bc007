use Rattle.std.proofs.Common.{rules, of_calls, Ok, Err}
use Rattle.std.specs.Ordering.{nat_cmp}
use Rattle.std.specs.Cmp.Lexicographic.{slice_cmp}
use Rattle.std.proofs.lemmas.Fn.{always_returns_same}
use Rattle.nl_words.specs.declared.entry.Entry.{Entry}
use Rattle.nl_words.proofs.Finding.{answers}
use Rattle.nl_words.proofs.words.search.Goals as goal

-- the closure compares a row's name with the name that is sought
pub returns-in-Ok : goal.returns-in-Ok
returns-in-Ok c =
    let key = λ (entry : Entry). slice_cmp nat_cmp entry.name.now c.args.name.now in
    let by_key = c.in-Ok.ensures.position key (always_returns_same _ _ _ (λ a r f called. search (rules, of_calls))) in
    answers c.args.rows.now c.args.name.now c.requires (Ok c.in-Ok.at) c.in-Ok.ensures.bound by_key _

pub returns-in-Err : goal.returns-in-Err
returns-in-Err c =
    let key = λ (entry : Entry). slice_cmp nat_cmp entry.name.now c.args.name.now in
    let by_key = c.in-Err.ensures.position key (always_returns_same _ _ _ (λ a r f called. search (rules, of_calls))) in
    answers c.args.rows.now c.args.name.now c.requires (Err c.in-Err.field-0) c.in-Err.ensures.bound by_key
