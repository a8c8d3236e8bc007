use Rattle.std.proofs.Common.{◌≡◌, ◌∙◌, ℕ, ◌+◌, ◌≤◌, List, ◌∷◌, length, false, map, take, drop, sym, ap, subst, refl}
use Rattle.std.proofs.lemmas.List.{take_all}
use Rattle.std.specs.HashSet.{contains}
use Rattle.nl_decl.specs.Claims.{is_taken, first_clash, widget_claim}
use Rattle.nl_decl.specs.inner.Ledger.{same_marked, Notes, Holds}
use Rattle.nl_decl.proofs.Clashing.{held_before, goes_on}
use Rattle.nl_decl.proofs.Rows.{next_of}
use Rattle.nl_decl.proofs.ledger.first_duplicate.Goals as goal

pub claims-init : goal.claims-init
claims-init c =
    let all : take c.widgets.name-index c.args.widgets.now ≡ c.args.widgets.now = take_all c.widgets.name-index c.args.widgets.now (subst (λ (ns : List (List ℕ)). length ns ≤ c.widgets.name-index) c.widgets.invariant.0 c.widgets-test.false) in
    (map widget_claim c.args.widgets.now, (subst (λ ns. Holds (map widget_claim ns) (contains same_marked c.widgets.marks)) all c.widgets.invariant.1, refl))

pub claims-preserved : goal.claims-preserved
claims-preserved c =
    let (seen, (holds, same)) = c.claims.invariant in
    let it = c.claimed-item.result in
    let free = subst (λ n. is_taken seen (record { name = n; claim = it.claim; place = it.place }) ≡ false) c.as_bytes-name.ensures (sym (c.in_ok-is_taken.ensures seen it.place holds) ∙ c.if-branch.false) in
    let notes = subst (λ n. Notes n it.claim (contains same_marked c.claims.marks) (contains same_marked c.note-in-claims.new.marks)) c.as_bytes-name.ensures c.in_ok-note-2.ensures in
    let split : drop c.claims.claimed-index c.args.claims.now ≡ it ∷ drop (c.claims.claimed-index + 1) c.args.claims.now = next_of c.args.claims.now c.claims.claimed-index it c.claims-test.true ∙ ap (λ x. x ∷ drop (c.claims.claimed-index + 1) c.args.claims.now) (sym c.claimed-item.is) in
    (it ∷ seen, (held_before seen _ _ it.name it.claim it.place holds notes, sym (goes_on seen (drop (c.claims.claimed-index + 1) c.args.claims.now) it free) ∙ ap (first_clash seen) (sym split) ∙ same))
