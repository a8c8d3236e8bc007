-- The numbers among the items of a list.
use Rattle.std.proofs.Common.{◌≡◌, ℕ, ◌+◌, ◌<◌, List, [], ◌∷◌, ◌++◌, length, map, take, get_or, sym, ap, ◌∙◌}
use Rattle.std.specs.List.{cons_option}
use Rattle.std.proofs.lemmas.List.{take_more, map-append}
use Rattle.std.proofs.lemmas.List.Elements.{filter_map-append}
use Rattle.nl_value.specs.declared.values.Value.{Value}
use Rattle.nl_value.specs.Views.{plain}
use Rattle.nl_listops_series.specs.Statistics.{number_of_item, numbers_among}

pub among_more : (values : List Value) (i : ℕ) (v : Value) → i < length values → v ≡ get_or values i v →
    numbers_among (map plain (take (i + 1) values)) ≡ numbers_among (map plain (take i values)) ++ cons_option (number_of_item (plain v)) []
among_more values i v h is =
    ap (λ vs. numbers_among (map plain vs)) (take_more values i v h)
    ∙ (ap numbers_among (map-append plain (take i values) (get_or values i v ∷ []))
    ∙ (filter_map-append number_of_item (map plain (take i values)) (plain (get_or values i v) ∷ []) ∙ ap (λ u. numbers_among (map plain (take i values)) ++ cons_option (number_of_item (plain u)) []) (sym is)))
