-- One has another length.
use Rattle.std.proofs.Common.{ap, ◌≡◌, ◌==◌, ◌∙◌, sym, length, List, map, ℕ}
use Rattle.std.proofs.lemmas.List.Folds.{list_all-map, list_all_at}
use Rattle.std.proofs.lemmas.Bool.{ne_eqb}
use Rattle.nl_value.specs.Plain.{Plain}
use Rattle.nl_value.specs.Views.{plain}
use Rattle.nl_value.specs.declared.values.Value.{Value}
use Rattle.nl_exec_meaning.specs.Rounds.{listed}
use Rattle.nl_exec_arrows.proofs.lists.all_have_length.Goals as goal

pub returns-then-length_of-many : goal.returns-then-length_of-many
returns-then-length_of-many c =
    let many = c.args.many in
    let values = c.args.values.now in
    let not_so = ap (λ (y : Value). length (listed (plain y)) == many) (sym c.value-item.is) ∙ ap (λ (n : ℕ). n == many) (sym c.length_of.ensures) ∙ ne_eqb c.length_of.result many c.if-length_of-many.true in
    sym (list_all-map (λ (xs : List Plain). length xs == many) listed (map plain values)
    ∙ list_all-map (λ (v : Plain). length (listed v) == many) plain values
    ∙ list_all_at (λ (y : Value). length (listed (plain y)) == many) values c.loop-value.value-index c.value-item.result c.loop-value-test.true not_so)
