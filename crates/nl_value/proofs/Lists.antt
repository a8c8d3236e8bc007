-- A list as a value, by its items.
use Rattle.std.specs.Prelude.{◌≡◌, ◌+◌, max, true, ◌&&◌, List, [], ◌∷◌, ◌++◌, map, refl}
use Rattle.std.proofs.Common.{ap, arith}
use Rattle.std.specs.List.{sum_by, join_with_byte}
use Rattle.std.specs.Cmp.Lexicographic.{pointwise}
use Rattle.std.proofs.lemmas.List.Sums.{sum_by-cons}
use Rattle.nl_fixed.specs.Nouns.{Bytes}
use Rattle.nl_value.specs.Plain.{Plain, Plains, no_items, item_then, plains, items_of}
use Rattle.nl_value.specs.Living.{Living}
use Rattle.nl_value.specs.Equality.{same_values, same_lists}
use Rattle.nl_value.specs.Laws.{IsListed}
use Rattle.nl_value.specs.Measures.{size_of, sizes_of, depth_of, deepest_of, greatest}
use Rattle.nl_value.specs.Text.{text_of, texts_of, open_bracket, space, close_bracket}
use Rattle.nl_value.proofs.Fitting.{values_fit-plains}

pub items_of-plains : (ps : List Plain) → items_of (plains ps) ≡ ps
items_of-plains [] = refl
items_of-plains (p ∷ ps) = ap (λ (qs : List Plain). p ∷ qs) (items_of-plains ps)

pub plains-items_of : (items : Plains) → plains (items_of items) ≡ items
plains-items_of no_items = refl
plains-items_of (item_then p ps) = ap (item_then p) (plains-items_of ps)

pub sizes_of-plains : (ps : List Plain) → sizes_of (plains ps) ≡ sum_by size_of ps
sizes_of-plains [] = refl
sizes_of-plains (p ∷ ps) = omega (arith, sum_by-cons size_of p ps, sizes_of-plains ps)

pub deepest_of-plains : (ps : List Plain) → deepest_of (plains ps) ≡ greatest (map depth_of ps)
deepest_of-plains [] = refl
deepest_of-plains (p ∷ ps) = ap (max (depth_of p)) (deepest_of-plains ps)

pub same_lists-plains : (w : Living) (ps qs : List Plain) → same_lists w (plains ps) (plains qs) ≡ pointwise (same_values w) ps qs
same_lists-plains w [] [] = refl
same_lists-plains w [] (q ∷ qs) = refl
same_lists-plains w (p ∷ ps) [] = refl
same_lists-plains w (p ∷ ps) (q ∷ qs) = ap (λ b. same_values w p q && b) (same_lists-plains w ps qs)

pub texts_of-plains : (w : Living) (ps : List Plain) → texts_of w (plains ps) ≡ map (text_of w true) ps
texts_of-plains w [] = refl
texts_of-plains w (p ∷ ps) = ap (λ (ts : List Bytes). text_of w true p ∷ ts) (texts_of-plains w ps)

pub is_listed : (w : Living) → IsListed w
is_listed w = record {
  back = items_of-plains;
  forth = plains-items_of;
  size = λ ps. ap (λ n. 1 + n) (sizes_of-plains ps);
  depth = λ ps. ap (λ n. 1 + n) (deepest_of-plains ps);
  fit = values_fit-plains w.patch_fits w.set_fits;
  same = same_lists-plains w;
  text = λ quoted ps. ap (λ (ts : List Bytes). open_bracket ∷ (join_with_byte space ts ++ close_bracket ∷ [])) (texts_of-plains w ps);
}
