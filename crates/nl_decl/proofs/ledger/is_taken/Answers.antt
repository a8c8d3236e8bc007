use Rattle.std.proofs.Common.{◌≡◌, ◌∙◌, ap, sym, ◌||◌, false}
use Rattle.std.specs.List.{list_any}
use Rattle.std.specs.Option.{is_some}
use Rattle.nl_words.specs.Row.{row_named}
use Rattle.nl_words.specs.Rows.{rows}
use Rattle.nl_decl.specs.Claims.{clashes}
use Rattle.nl_decl.proofs.Clashing.{as_there}
use Rattle.nl_decl.proofs.ledger.is_taken.Goals as goal

pub returns : goal.returns
returns c seen place holds =
    let here = rw c.base_words-words.ensures.rows at c.find.ensures.row in
    let none : false ≡ is_some (row_named rows c.args.name.now) =
    c.if-is_some.ensures ∙ sym (as_there c.find.result) ∙ ap is_some here in
    c.in_ok-barred.ensures seen place holds ∙ ap (λ b. b || list_any (λ e. clashes e (record { name = c.args.name.now; claim = c.args.claim; place = place })) seen) none
