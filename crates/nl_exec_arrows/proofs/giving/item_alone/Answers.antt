-- The one item.
use Rattle.std.proofs.Common.{ℕ, take, drop, slice_get, ap, ◌∙◌, sym}
use Rattle.nl_exec_meaning.specs.Rounds.{items_in}
use Rattle.nl_exec_arrows.proofs.Given.{first_taken}
use Rattle.nl_exec_arrows.proofs.giving.item_alone.Goals as goal

pub returns-then-which-eq0 : goal.returns-then-which-eq0
returns-then-which-eq0 c =
    let r = c.args.rounds.now in
    c.item_at.ensures ∙ sym (first_taken (items_in r) r.at) ∙ ap (λ (n : ℕ). slice_get (take 1 (drop r.at (items_in r))) n) (sym c.if-which-eq0.true)
