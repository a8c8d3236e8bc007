-- The widgets that are gathered are those of a model: they differ, and each has a right name.
use Rattle.std.proofs.Common.{◌≡◌, Bool, true, false, not, ◌&&◌, ◌||◌, [], ◌∷◌, ◌++◌, map, if◌then◌else◌, length, bytes_eq, refl, sym, ap, subst, ◌∙◌, arith}
use Rattle.std.specs.List.{list_all}
use Rattle.std.specs.Cmp.{first_so, second_so}
use Rattle.std.specs.Cmp.Derive.{both_true}
use Rattle.std.specs.Cmp.Lexicographic.{nat_list_eq_equiv}
use Rattle.std.proofs.lemmas.Bool.{not-true}
use Rattle.std.proofs.lemmas.List.Folds.{list_all-append, list_any-append}
use Rattle.nl_fixed.specs.Nouns.{Name, Names}
use Rattle.nl_words.specs.Rows.{rows}
use Rattle.nl_words.specs.Table.{is_name}
use Rattle.nl_tree.specs.Names.{are_distinct, are_apart}
use Rattle.nl_tree.specs.Vocabulary.{among}
use Rattle.nl_experiment_fields.specs.Names.{can_be_widget, is_built_in}
use Rattle.nl_experiment.specs.Widgets.{are_right, gathered}

abbrev built_in : Names
built_in = map (λ r. r.name) rows

neither : (a b : Bool) → (a || b) ≡ false → (a ≡ false) × (b ≡ false)
neither true b h = cc
neither false b h = (refl, h)

distinct_more : (names : Names) (n : Name) → are_distinct names ≡ true → among n names ≡ false → are_distinct (names ++ n ∷ []) ≡ true
distinct_more [] n differ out = refl
distinct_more (m ∷ ms) n differ out =
    let apart = neither (bytes_eq m n) (among n ms) out in
    let fresh : among m ms ≡ false = not-true (among m ms) (first_so (not (among m ms)) (are_distinct ms) differ) in
    let other : bytes_eq n m ≡ false = nat_list_eq_equiv.symm n m ∙ apart.0 in
    let none : among m (ms ++ n ∷ []) ≡ false = list_any-append (λ x. bytes_eq x m) ms (n ∷ []) ∙ rw (fresh, other) refl in
    both_true (ap not none) (distinct_more ms n (second_so (not (among m ms)) (are_distinct ms) differ) apart.1)

right_more : (others : Names) (name : Name) → are_right others ≡ true → can_be_widget others name ≡ true → are_right (others ++ name ∷ []) ≡ true
right_more others name right can =
    let differ_and_apart = first_so (are_distinct others && are_apart others built_in) (list_all is_name others) right in
    let named = second_so (are_distinct others && are_apart others built_in) (list_all is_name others) right in
    let name_and_free = first_so (is_name name && not (is_built_in name)) (not (among name others)) can in
    let fresh = second_so (is_name name && not (is_built_in name)) (not (among name others)) can in
    let differ = distinct_more others name (first_so (are_distinct others) (are_apart others built_in) differ_and_apart) (not-true (among name others) fresh) in
    let apart : are_apart (others ++ name ∷ []) built_in ≡ true =
    list_all-append (λ x. not (among x built_in)) others (name ∷ [])
    ∙ both_true (second_so (are_distinct others) (are_apart others built_in) differ_and_apart) (both_true (second_so (is_name name) (not (is_built_in name)) name_and_free) refl) in
    let all_named : list_all is_name (others ++ name ∷ []) ≡ true =
    list_all-append is_name others (name ∷ []) ∙ both_true named (both_true (first_so (is_name name) (not (is_built_in name)) name_and_free) refl) in
    both_true (both_true differ apart) all_named

gathered_right : (others names : Names) → are_right others ≡ true → are_right (gathered others names) ≡ true
gathered_right others [] right = right
gathered_right others (name ∷ names) right = by (can_be_widget others name) refl (gathered_right (others ++ name ∷ []) names) (gathered_right others names right)
  where
    by : (can : Bool) → can_be_widget others name ≡ can → (are_right (others ++ name ∷ []) ≡ true → are_right (gathered (others ++ name ∷ []) names) ≡ true)
        → are_right (gathered others names) ≡ true → are_right (gathered (if can then others ++ name ∷ [] else others) names) ≡ true
    by true is one others' = one (right_more others name right is)
    by false is one others' = others'

left_none : (known left : Names) → length left ≡ 0 → known ≡ gathered known left
left_none known [] none = refl
left_none known (name ∷ left) none = absurd (omega (arith, none))

-- where no name is left, the widgets so far are all, and right
pub all_right : (names known widgets left : Names) → length left ≡ 0 → widgets ≡ known → gathered known left ≡ gathered [] names → are_right widgets ≡ true
all_right names known widgets left none same is =
    subst (λ ws. are_right ws ≡ true) (sym (same ∙ left_none known left none ∙ is)) (gathered_right [] names refl)
