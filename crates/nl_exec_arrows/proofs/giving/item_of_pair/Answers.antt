-- The two items.
use Rattle.std.proofs.Common.{ℕ, ◌<◌, ◌++◌, length, take, drop, slice_get, ap, ◌∙◌, sym, arith}
use Rattle.std.proofs.lemmas.Bool.{leb-false}
use Rattle.nl_exec_meaning.specs.Rounds.{items_in}
use Rattle.nl_exec_arrows.proofs.Given.{first_of_two, first_taken, second_taken}
use Rattle.nl_exec_arrows.proofs.giving.item_of_pair.Goals as goal

pub returns-in-0 : goal.returns-in-0
returns-in-0 c =
    let r = c.args.rounds.now in
    let items = items_in r in
    let other = take 1 (drop r.place items) in
    let places = c.requires.stand.1 (leb-false r.many r.place c.requires.left) in
    let full = c.requires.stand.0 in
    let less : r.at < length items = let h = places.0 in omega (arith, h, full) in
    c.item_at.ensures ∙ sym (first_of_two items other r.at less) ∙ ap (λ (n : ℕ). slice_get (take 1 (drop r.at items) ++ other) n) (sym c.in-0.is)

pub returns-in-1 : goal.returns-in-1
returns-in-1 c =
    let r = c.args.rounds.now in
    let items = items_in r in
    let other = take 1 (drop r.place items) in
    let places = c.requires.stand.1 (leb-false r.many r.place c.requires.left) in
    let full = c.requires.stand.0 in
    let less : r.at < length items = let h = places.0 in omega (arith, h, full) in
    c.item_at-in-1.ensures ∙ sym (second_taken items other r.at less ∙ first_taken items r.place) ∙ ap (λ (n : ℕ). slice_get (take 1 (drop r.at items) ++ other) n) (sym c.in-1.is)
