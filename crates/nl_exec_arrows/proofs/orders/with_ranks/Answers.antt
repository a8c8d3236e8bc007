-- The items with their ranks, one after another.
use Rattle.std.proofs.Common.{◌≡◌, ℕ, ◌+◌, ◌++◌, [], ◌∷◌, List, Some, None, map, take, slice_get, ap, ◌∙◌, sym, subst}
use Rattle.std.specs.List.{take-map}
use Rattle.std.specs.Option.{option_map}
use Rattle.std.proofs.lemmas.List.{map-append}
use Rattle.std.proofs.lemmas.Option.{slice_get-get_or, slice_get-map}
use Rattle.nl_value.specs.Plain.{Plain}
use Rattle.nl_value.specs.Views.{plain}
use Rattle.nl_exec_meaning.specs.Arrows as arrows
use Rattle.nl_exec_meaning.specs.Arrows.{ranked}
use Rattle.nl_exec_arrows.specs.Orders.{ranked_seen}
use Rattle.nl_exec_arrows.proofs.Fewest.{ranked_next, ranked_out, with_rank}
use Rattle.nl_exec_arrows.proofs.orders.with_ranks.Goals as goal

pub returns-in_default : goal.returns-in_default
returns-in_default c =
    let items = c.args.items.now in
    let ranks = c.args.ranks.now in
    let k = c.loop-item.item-index in
    let xs = c.as_slice-item-items.result.now in
    let out = subst (λ n. slice_get ranks n ≡ None) (c.len.ensures ∙ c.loop-item.invariant.1) (sym c.in_default.ensures) in
    c.loop-item.invariant.0
    ∙ ap (λ (ys : List Plain). ranked ys ranks) (sym (take-map plain k xs))
    ∙ ap (λ (ys : List Plain). ranked (take k ys) ranks) c.as_slice-item-items.ensures
    ∙ ranked_out items ranks k out

pub loop-item-preserved : goal.loop-item-preserved
loop-item-preserved c =
    let items = c.args.items.now in
    let ranks = c.args.ranks.now in
    let k = c.loop-item.item-index in
    let xs = c.as_slice-item-items.result.now in
    let item = plain c.item-item.result in
    let rank = c.in-Some.rank in
    let here : slice_get items k ≡ Some item =
    ap (λ (ys : List Plain). slice_get ys k) (sym c.as_slice-item-items.ensures) ∙ slice_get-map plain xs k
    ∙ ap (option_map plain) (slice_get-get_or xs k c.item-item.result c.loop-item-test.true ∙ ap Some (sym c.item-item.is)) in
    let has : slice_get ranks k ≡ Some rank = subst (λ n. slice_get ranks n ≡ Some rank) (c.len.ensures ∙ c.loop-item.invariant.1) (sym c.in-Some.ensures) in (
      ap (map ranked_seen) c.in_ok-push.ensures.items
          ∙ map-append ranked_seen c.loop-item.all.items _
          ∙ ap (λ (rs : List arrows.Ranked). rs ++ with_rank (plain c.in_ok-value.value) rank ∷ [])
          (c.loop-item.invariant.0 ∙ ap (λ (ys : List Plain). ranked ys ranks) (sym (take-map plain k xs)) ∙ ap (λ (ys : List Plain). ranked (take k ys) ranks) c.as_slice-item-items.ensures)
          ∙ ap (λ (y : Plain). ranked (take k items) ranks ++ with_rank y rank ∷ []) c.in_ok-value.ensures.value
          ∙ sym (ranked_next items ranks k item rank here has)
          ∙ sym (ap (λ (ys : List Plain). ranked (take (k + 1) ys) ranks) c.as_slice-item-items.ensures)
          ∙ ap (λ (ys : List Plain). ranked ys ranks) (take-map plain (k + 1) xs),
      c.in_ok-push.ensures.len ∙ ap (λ (n : ℕ). n + 1) c.loop-item.invariant.1,
    )
