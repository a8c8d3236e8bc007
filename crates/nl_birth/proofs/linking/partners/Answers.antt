use Rattle.std.proofs.Common.{◌≡◌, ℕ, Option, Some, [], ◌∷◌, ◌++◌, get_or, refl, sym, ◌∙◌, subst, All}
use Rattle.std.specs.Option.{option_and_then}
use Rattle.std.proofs.lemmas.List.{get_or_default}
use Rattle.nl_agents.specs.Changes.{LinkLives, has_end, link_of}
use Rattle.nl_birth.specs.inner.Partners.{partner, collected}
use Rattle.nl_birth.proofs.Partners.{all_live, one_collected, none_collected, none_given, items_alike, joined_of, all_taken}
use Rattle.nl_birth.proofs.linking.partners.Goals as goal
use Rattle.nl_birth.proofs.linking.partners.Goals.{in-Some+in_ok-push, in_default}

pub partner-requires : goal.partner-requires
partner-requires g c =
    let w = g.S.Store.world c.args.store.now in
    subst (All (λ s. LinkLives s w)) (sym (c.as_slice-link-items.ensures.value ∙ c.in_ok-links_of.ensures.list)) (all_live (has_end c.args.caller) w c.shape-shape.ensures.stands) c.loop-link.link-index 0 c.loop-link-test.true

pub loop-link-preserved : goal.loop-link-preserved
loop-link-preserved g c =
    let w = g.S.Store.world c.args.store.now in
    let give : ℕ → Option ℕ = λ s. option_and_then (partner c.args.way c.args.breed c.args.caller) (link_of s w.rest) in
    let serials = c.as_slice-link-items.result.now in
    let i = c.loop-link.link-index in
    let serial = get_or serials i 0 in
    let before = c.loop-link.others.items in
    let there : get_or serials i serial ≡ serial = get_or_default serials i serial 0 c.loop-link-test.true in
    elim c.match-partner.branch [
      | in-Some+in_ok-push w ↦ one_collected give serials i serial (Some w.in-Some.other) before c.match-partner.others.items there c.loop-link-test.true w.in-Some.ensures c.loop-link.invariant
          (items_alike c.match-partner.others w.push.new.self (before ++ w.in-Some.other ∷ []) w.others-is w.in_ok-push.ensures.items)
      | in_default w ↦ none_collected give serials i serial before c.match-partner.others.items there c.loop-link-test.true (none_given c.partner.result (give serial) c.partner.ensures w.in_default.not-Some) c.loop-link.invariant (items_alike c.match-partner.others c.loop-link.others before w.others-is refl)
    ]

pub returns : goal.returns
returns g c =
    let w = g.S.Store.world c.args.store.now in
    let serials = c.as_slice-link-items.result.now in
    joined_of c.args.way c.args.breed c.args.caller w serials c.loop-link.others.items c.in_order.result c.shape-shape.ensures.stands (c.as_slice-link-items.ensures.value ∙ c.in_ok-links_of.ensures.list)
    (all_taken c.loop-link.others.items (λ xs. collected (λ s. option_and_then (partner c.args.way c.args.breed c.args.caller) (link_of s w.rest)) xs) serials c.loop-link.link-index c.loop-link.invariant c.loop-link-test.false) c.in_order.ensures
