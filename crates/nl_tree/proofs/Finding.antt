-- What a look-up by name gives among a model's words.
use Rattle.std.proofs.Common.{◌≡◌, ℕ, zero, suc, ◌<◌, Bool, true, false, not, List, [], ◌∷◌, map, length, get_or, Some, None, Ok, Err, All, bytes_eq, Ordering, sym, ap, subst, ◌∙◌, refl, arith, inl, inr, ◌&&◌, ◌||◌, find}
use Rattle.std.specs.List.{list_all, Contains}
use Rattle.std.specs.List.Sorted.{IsBinarySearchResult, IsNonDecreasingBy, IsSortedBy, IsPermutation}
use Rattle.std.specs.declared.cmp.Ordering.TheVariants.{Less, Greater}
use Rattle.std.specs.Ordering.{is_eq, nat_cmp, ordering_index}
use Rattle.std.specs.Cmp.{first_so, second_so}
use Rattle.std.specs.Cmp.Lexicographic.{slice_cmp}
use Rattle.std.specs.FinMap.{slice_cmp-IsAntisymmetric, nat_cmp-IsAntisymmetric}
use Rattle.std.proofs.lemmas.Cmp.{nat_list_cmp_total}
use Rattle.std.proofs.lemmas.Map.Text.{is_eq-slice_cmp}
use Rattle.std.proofs.lemmas.Slice.Eq.{bytes_eq-Decides}
use Rattle.std.proofs.lemmas.Bool.{cases_lt}
use Rattle.std.proofs.lemmas.List.Sorted.{searchable_from_sorted, Contains-permutation, All-permutation, IsPermutation-sym}
use Rattle.nl_tree.specs.declared.declared.NamedWhat.{NamedWhat}
use Rattle.nl_words.specs.Table.{is_before, is_name}
use Rattle.nl_tree.specs.declared.declared.Declared.{Declared}
use Rattle.nl_tree.specs.declared.declared.Procedure.{Procedure}
use Rattle.nl_tree.specs.Term.{Term}
use Rattle.nl_tree.specs.Vocabulary.{among, terms, whats, named_what, what_of, what_named}
use Rattle.nl_tree.specs.Names.{are_distinct, has_no_duplicate, owners_fit, inputs_fit, all_names, directions_fit, IsDeclared}

abbrev order : List ℕ → List ℕ → Ordering
order = slice_cmp nat_cmp

-- the test for the same name, from the order of the two
tested : (xs ys : List ℕ) (o : Ordering) → order xs ys ≡ o → bytes_eq xs ys ≡ is_eq o
tested xs ys o is = sym (is_eq-slice_cmp xs ys) ∙ ap is_eq is

-- among rows in the order of their names
module _ {Row : Type 0} (key : Row → List ℕ) (rows : List Row) (name : List ℕ) (sorted : IsSortedBy (λ a b. is_before (key a) (key b)) rows) where
  rise : IsNonDecreasingBy (λ r. ordering_index (order (key r) name)) rows
  rise = searchable_from_sorted nat_list_cmp_total key rows name sorted

  pub hit : (at : ℕ) → IsBinarySearchResult (λ r. order (key r) name) rows (Ok at) → (d : Row) → key (get_or rows at d) ≡ name
  hit at same d = slice_cmp-IsAntisymmetric nat_cmp-IsAntisymmetric (key (get_or rows at d)) name (same d)

  pub miss : (at : ℕ) → IsBinarySearchResult (λ r. order (key r) name) rows (Err at) → All (λ r. bytes_eq (key r) name ≡ false) rows
  miss at parted k d inside =
      let sides = parted rise in
      elim (cases_lt k at) [
        | inl lt ↦ tested _ name Less (sides.0 k d (omega arith) lt)
        | inr le ↦ tested _ name Greater (sides.1 k d le inside)
      ]

or_later : (a b : Bool) → b ≡ true → (a || b) ≡ true
or_later true b h = refl
or_later false b h = h

apart : (b : Bool) → not b ≡ true → b ≡ false
apart true h = sym h
apart false h = refl

same_or_not : (b : Bool) → (b ≡ true → false ≡ true) → b ≡ false
same_or_not true h = sym (h refl)
same_or_not false h = refl

module _ {Row : Type 0} (key : Row → List ℕ) where
  -- where no row has the name, none is found
  pub absent : (ws : List Row) (name : List ℕ) → All (λ w. bytes_eq (key w) name ≡ false) ws → find (λ w. bytes_eq (key w) name) ws ≡ None
  absent [] name none = refl
  absent (w ∷ ws) name none = rw (none 0 w (omega arith)) (absent ws name (λ k d within. none (suc k) d (omega arith)))

  -- a name that stands later is among the names
  pub later_among : (ws : List Row) (k : ℕ) (d : Row) → k < length ws → among (key (get_or ws k d)) (map key ws) ≡ true
  later_among [] k d within = absurd (omega arith)
  later_among (w ∷ ws) zero d within = rw ((bytes_eq-Decides (key w) (key w)).1 refl) refl
  later_among (w ∷ ws) (suc k) d within = or_later (bytes_eq (key w) (key (get_or ws k d))) (among (key (get_or ws k d)) (map key ws)) (later_among ws k d (omega arith))

  -- among names that differ, a row is found by its name
  pub found : (ws : List Row) → are_distinct (map key ws) ≡ true → (k : ℕ) (d : Row) → k < length ws → find (λ w. bytes_eq (key w) (key (get_or ws k d))) ws ≡ Some (get_or ws k d)
  found [] distinct k d within = absurd (omega arith)
  found (w ∷ ws) distinct zero d within = rw ((bytes_eq-Decides (key w) (key w)).1 refl) refl
  found (w ∷ ws) distinct (suc k) d within =
      let rest = second_so (not (among (key w) (map key ws))) (are_distinct (map key ws)) distinct in
      let alone = apart (among (key w) (map key ws)) (first_so (not (among (key w) (map key ws))) (are_distinct (map key ws)) distinct) in
      let it = key (get_or ws k d) in
      let other : bytes_eq (key w) it ≡ false = same_or_not (bytes_eq (key w) it) (λ same. sym alone ∙ subst (λ n. among n (map key ws) ≡ true) (sym ((bytes_eq-Decides (key w) it).0 same)) (later_among ws k d (omega arith))) in
      rw other (found ws rest k d (omega arith))

abbrev names : List NamedWhat → List (List ℕ)
names ws = map (λ (w : NamedWhat). w.name) ws

same_names : (ts : List Term) → names (map named_what ts) ≡ map (λ (t : Term). t.name) ts
same_names [] = refl
same_names (t ∷ ts) = ap (λ ns. t.name ∷ ns) (same_names ts)

-- the names of a model's words differ
pub distinct_terms : (d : Declared) → IsDeclared d → are_distinct (map (λ (t : Term). t.name) (terms d)) ≡ true
distinct_terms d fit =
    let all = first_so (has_no_duplicate d && list_all is_name (all_names d)) (directions_fit d) fit.0 in
    let once = first_so (has_no_duplicate d) (list_all is_name (all_names d)) all in
    let differ = are_distinct (map (λ (t : Term). t.name) (terms d)) in
    let apart_globals = are_distinct d.globals in
    let first_three = first_so (differ && apart_globals && owners_fit d) (list_all (λ (p : Procedure). inputs_fit (terms d) p.inputs) d.procedures) once in
    let first_two = first_so (differ && apart_globals) (owners_fit d) first_three in
    first_so differ apart_globals first_two

distinct : (d : Declared) → IsDeclared d → are_distinct (names (whats d)) ≡ true
distinct d fit = rw (same_names (terms d)) (distinct_terms d fit)

module _ (d : Declared) (rows : List NamedWhat) (name : List ℕ) (moved : IsPermutation (whats d) rows) where
  -- a row that has the name says what the word is
  pub looked_up : IsDeclared d → (r : NamedWhat) → r.name ≡ name → Contains rows r → Some r.what ≡ what_named d name
  looked_up fit r named within =
      let (k, inside, is) = Contains-permutation rows (whats d) r (IsPermutation-sym (whats d) rows moved) within in
      let here : find (λ w. bytes_eq w.name r.name) (whats d) ≡ Some r = subst (λ x. find (λ w. bytes_eq w.name x.name) (whats d) ≡ Some x) is (found (λ (w : NamedWhat). w.name) (whats d) (distinct d fit) k r inside) in
      subst (λ n. Some r.what ≡ what_of (find (λ w. bytes_eq w.name n) (whats d))) named (sym (ap what_of here))

  -- where no row has it, there is none
  pub nothing : All (λ r. bytes_eq r.name name ≡ false) rows → None ≡ what_named d name
  nothing none = sym (ap what_of (absent (λ (w : NamedWhat). w.name) (whats d) name (All-permutation (λ r. bytes_eq r.name name ≡ false) rows (whats d) (IsPermutation-sym (whats d) rows moved) none)))
