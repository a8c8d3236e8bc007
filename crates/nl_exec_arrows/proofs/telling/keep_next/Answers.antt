-- The item at the place stands behind those that were kept.
use Rattle.std.proofs.Common.{◌≡◌, ◌++◌, [], ◌∷◌, List, Some, None, drop, take, slice_get, refl, ap, ◌∙◌, sym, subst}
use Rattle.std.specs.Prelude.{OnOk}
use Rattle.nl_value.specs.Plain.{Plain}
use Rattle.nl_value.specs.Views.{plain}
use Rattle.nl_exec_meaning.specs.declared.rounds.Rounds.{Rounds}
use Rattle.nl_exec_meaning.specs.Rounds.{items_in}
use Rattle.nl_exec_arrows.proofs.Given.{taken_some, taken_none, and_nothing}
use Rattle.nl_exec_arrows.proofs.telling.keep_next.Goals as goal

-- with these values
abbrev made_as : Rounds → List Plain → Rounds
made_as r xs = record r { made = xs }

pub returns-in-None : goal.returns-in-None
returns-in-None c =
    let r = c.args.rounds.now in
    let out = taken_none (items_in r) r.at (subst (λ (x : Rounds). slice_get (items_in x) x.at ≡ None) c.get-all.ensures (sym c.in-None.ensures)) in
    sym (ap (λ (xs : List Plain). made_as r (r.made ++ xs)) out ∙ ap (made_as r) (and_nothing r.made))

pub returns : goal.returns
returns c =
    let r = c.args.rounds.now in
    let x = plain c.in-Some.item.now in
    let here = taken_some (items_in r) r.at x (subst (λ (y : Rounds). slice_get (items_in y) y.at ≡ Some x) c.get-all.ensures (sym c.in-Some.ensures)) in
    subst (λ (xs : List Plain). OnOk c.keep.result (c.keep.new.self ≡ made_as r (r.made ++ xs))) (ap (λ (y : Plain). y ∷ []) c.in_ok-item-in-Some.ensures.value ∙ sym here) c.keep.ensures
