-- The item stands behind the value.
use Rattle.std.proofs.Common.{ℕ, ◌∷◌, take, drop, slice_get, ap, ◌∙◌, sym}
use Rattle.std.proofs.lemmas.Result.{IfOk-weaker}
use Rattle.nl_exec_meaning.specs.Rounds.{first_of, items_in}
use Rattle.nl_exec_arrows.proofs.Given.{first_taken}
use Rattle.nl_exec_arrows.proofs.giving.value_or_item.Goals as goal

pub returns-in-1 : goal.returns-in-1
returns-in-1 c =
    let r = c.args.rounds.now in
    let rest = take 1 (drop r.at (items_in r)) in
    let which = c.item_at.ensures ∙ sym (first_taken (items_in r) r.at) ∙ ap (λ (n : ℕ). slice_get (first_of r.made ∷ rest) n) (sym c.in-1.is) in
    IfOk-weaker c.copied.result _ _ (λ value again. again ∙ which) c.copied.ensures
