-- A widget has a slot among the global variables of its program.
use Rattle.std.proofs.Common.{◌≡◌, ℕ, ◌+◌, ◌<◌, Bool, true, false, not, ◌||◌, cond, List, [], ◌∷◌, ◌++◌, map, filter, length, find, Option, Some, bytes_eq, refl, ap, subst, ◌∙◌, arith}
use Rattle.std.specs.Prelude.{if◌then◌else◌}
use Rattle.std.specs.Cmp.{first_so, second_so}
use Rattle.std.proofs.lemmas.Slice.Eq.{bytes_eq-Decides}
use Rattle.nl_fixed.specs.Nouns.{Name, Names}
use Rattle.nl_words.specs.Row.{Row}
use Rattle.nl_words.specs.Rows.{rows}
use Rattle.nl_tree.specs.declared.declared.Declared.{Declared}
use Rattle.nl_tree.specs.declared.declared.NamedWhat.{NamedWhat}
use Rattle.nl_tree.specs.declared.declared.What.TheVariants as what
use Rattle.nl_tree.specs.Names.{are_apart}
use Rattle.nl_tree.specs.Slots.{slot_of, run_number, experiment_name, global_slot, globals_count}
use Rattle.nl_tree.specs.Term.{Term}
use Rattle.nl_tree.specs.Vocabulary.{among, base_term, counted, global_names, global_term, owned_names, owned_term, breed_terms, procedure_term, own_terms, term_named, terms, named_what, what_of, what_named}

abbrev built_in : Names
built_in = map (λ r. r.name) rows

module _ (name : Name) where
  -- built-in words of other names are passed over
  skip : (rs : List Row) (us : List Term) → among name (map (λ r. r.name) rs) ≡ false → term_named (map base_term rs ++ us) name ≡ term_named us name
  skip [] us h = refl
  skip (r ∷ rs) us h = by (bytes_eq r.name name) h (skip rs us)
    where
      by : (same : Bool) → (same || among name (map (λ (x : Row). x.name) rs)) ≡ false
          → (among name (map (λ (x : Row). x.name) rs) ≡ false → term_named (map base_term rs ++ us) name ≡ term_named us name)
          → cond same (Some (base_term r)) (term_named (map base_term rs ++ us) name) ≡ term_named us name
      by true out later = cc
      by false out later = later out

  -- a global variable's row is found
  hit : (k : ℕ) (xs : Names) → among name xs ≡ true → (n : ℕ) × ((term_named (counted global_term k xs) name ≡ Some (global_term n name)) × (n < k + length xs))
  hit k [] h = cc
  hit k (x ∷ xs) h = by (bytes_eq x name) refl h (hit (k + 1) xs)
    where
      by : (same : Bool) → bytes_eq x name ≡ same → (same || among name xs) ≡ true
          → (among name xs ≡ true → (n : ℕ) × ((term_named (counted global_term (k + 1) xs) name ≡ Some (global_term n name)) × (n < k + 1 + length xs)))
          → (n : ℕ) × ((cond same (Some (global_term k x)) (term_named (counted global_term (k + 1) xs) name) ≡ Some (global_term n name)) × (n < k + length (x ∷ xs)))
      by true is here later = (k, (ap (λ y. Some (global_term k y)) ((bytes_eq-Decides x name).0 is), omega arith))
      by false is here later = let (n, (found, within)) = later here in (n, (found, omega (arith, within)))

  -- what is found stays found before others
  stays : (xs ys : List Term) (t : Term) → term_named xs name ≡ Some t → term_named (xs ++ ys) name ≡ Some t
  stays [] ys t h = cc
  stays (x ∷ xs) ys t h = by (bytes_eq x.name name) h (stays xs ys t)
    where
      by : (same : Bool) → cond same (Some x) (term_named xs name) ≡ Some t → (term_named xs name ≡ Some t → term_named (xs ++ ys) name ≡ Some t)
          → cond same (Some x) (term_named (xs ++ ys) name) ≡ Some t
      by true found later = found
      by false found later = later found

  -- and is what the word is
  told : (ts : List Term) (t : Term) → term_named ts name ≡ Some t → find (λ (r : NamedWhat). bytes_eq r.name name) (map named_what ts) ≡ Some (named_what t)
  told [] t h = cc
  told (u ∷ us) t h = by (bytes_eq u.name name) h (told us t)
    where
      by : (same : Bool) → cond same (Some u) (term_named us name) ≡ Some t
          → (term_named us name ≡ Some t → find (λ (r : NamedWhat). bytes_eq r.name name) (map named_what us) ≡ Some (named_what t))
          → cond same (Some (named_what u)) (find (λ (r : NamedWhat). bytes_eq r.name name) (map named_what us)) ≡ Some (named_what t)
      by true found later = let it : u ≡ t = cc in ap (λ x. Some (named_what x)) it
      by false found later = later found

  among_first : (xs ys : Names) → among name xs ≡ true → among name (xs ++ ys) ≡ true
  among_first [] ys h = cc
  among_first (x ∷ xs) ys h = by (bytes_eq x name) h (among_first xs ys)
    where
      by : (same : Bool) → (same || among name xs) ≡ true → (among name xs ≡ true → among name (xs ++ ys) ≡ true) → (same || among name (xs ++ ys)) ≡ true
      by true here later = refl
      by false here later = later here

  -- names that are apart from others have none of theirs
  none_of_them : (xs ys : Names) → are_apart xs ys ≡ true → among name xs ≡ true → among name ys ≡ false
  none_of_them [] ys apart h = cc
  none_of_them (x ∷ xs) ys apart h =
      by (bytes_eq x name) refl h (first_so (not (among x ys)) (are_apart xs ys) apart) (none_of_them xs ys (second_so (not (among x ys)) (are_apart xs ys) apart))
    where
      not_true : (b : Bool) → not b ≡ true → b ≡ false
      not_true true k = cc
      not_true false k = refl

      by : (same : Bool) → bytes_eq x name ≡ same → (same || among name xs) ≡ true → not (among x ys) ≡ true → (among name xs ≡ true → among name ys ≡ false) → among name ys ≡ false
      by true is here out later = subst (λ y. among y ys ≡ false) ((bytes_eq-Decides x name).0 is) (not_true (among x ys) out)
      by false is here out later = later here

abbrev HasSlotIn : Declared → Option ℕ → Type 0
HasSlotIn d o = (slot : ℕ) × ((o ≡ Some slot) × (slot < globals_count d))

widget_row : (d : Declared) (name : Name) → are_apart d.widgets built_in ≡ true → among name d.widgets ≡ true
    → (n : ℕ) × ((what_named d name ≡ Some (what.Global n)) × (n < length (global_names d)))
widget_row d name apart here =
    let g = counted global_term 0 (global_names d) in
    let o = counted (owned_term d) 0 (owned_names d) in
    let b = breed_terms 1 d.breeds in
    let p = counted procedure_term 0 d.procedures in
    let (n, (found, within)) = hit name 0 (global_names d) (among_first name d.widgets (filter (λ y. not (among y d.widgets)) d.globals) here) in
    let row = global_term n name in
    let own : term_named (own_terms d) name ≡ Some row = stays name (g ++ o ++ b) p row (stays name (g ++ o) b row (stays name g o row found)) in
    let all : term_named (terms d) name ≡ Some row = skip name rows (own_terms d) (none_of_them name d.widgets built_in apart here) ∙ own in
    (n, (ap what_of (told name (terms d) row all), omega (arith, within)))

pub widget_has_slot : (d : Declared) (name : Name) → are_apart d.widgets built_in ≡ true → among name d.widgets ≡ true → HasSlotIn d (global_slot d name)
widget_has_slot d name apart here = by (bytes_eq name run_number) (bytes_eq name experiment_name) (widget_row d name apart here)
  where
    by : (r e : Bool) → ((n : ℕ) × ((what_named d name ≡ Some (what.Global n)) × (n < length (global_names d))))
        → HasSlotIn d (if r then Some (length (global_names d)) else (if e then Some (length (global_names d) + 1) else slot_of (what_named d name)))
    by true e found = (length (global_names d), (refl, omega arith))
    by false true found = (length (global_names d) + 1, (refl, omega arith))
    by false false (n, (is, within)) = (n, (ap slot_of is, omega (arith, within)))
