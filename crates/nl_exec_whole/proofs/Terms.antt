-- What holds of every row of a model's word table, from the built-in rows and from what is declared.
use Rattle.std.proofs.Common.{◌≡◌, ℕ, suc, ◌+◌, Bool, true, false, cond, List, [], ◌∷◌, ◌++◌, map, Option, Some, None, bytes_eq, slice_get, refl, subst, arith}
use Rattle.std.specs.Prelude.{if◌then◌else◌}
use Rattle.std.specs.List.{list_all}
use Rattle.std.specs.Cmp.{first_so, second_so}
use Rattle.nl_fixed.specs.Nouns.{Name}
use Rattle.nl_words.specs.Row.{Row, row_named}
use Rattle.nl_words.specs.Rows.{rows}
use Rattle.nl_tree.specs.declared.declared.Breed.{Breed}
use Rattle.nl_tree.specs.declared.declared.Procedure.{Procedure}
use Rattle.nl_tree.specs.declared.declared.Declared.{Declared}
use Rattle.nl_tree.specs.declared.declared.What.TheVariants as what
use Rattle.nl_tree.specs.Term.{Term}
use Rattle.nl_tree.specs.Vocabulary.{Pattern, base_term, counted, global_names, global_term, owned_names, owned_term, made_as, made_name, made_terms, turtle_patterns, undirected_patterns, directed_patterns, patterns, breed_terms, procedure_term, terms, term_named}

-- the row of a breed's word
abbrev pub made_term : ℕ → Name → Row → Term
made_term n name r = record { name = name; role = r.role; inputs = r.inputs; values = 0; many = r.many; turns = r.turns; runs = r.runs; gives = r.gives; what = what.Made n r.code }

-- the row that a breed's word is made from passes
abbrev pub found_by : (Row → Bool) → Option Row → Bool
found_by passes None = true
found_by passes (Some r) = passes r

abbrev pub pattern_by : (Row → Bool) → Pattern → Bool
pattern_by passes p = found_by passes (row_named rows p.base)

pub of_each_breed : (passes : Row → Bool) → list_all (pattern_by passes) turtle_patterns ≡ true → list_all (pattern_by passes) undirected_patterns ≡ true
    → list_all (pattern_by passes) directed_patterns ≡ true → (b : Breed) → list_all (pattern_by passes) (patterns b) ≡ true
of_each_breed passes turtles undirected directed b = by b.link b.directed
  where
    by : (link way : Bool) → list_all (pattern_by passes) (if link then (if way then directed_patterns else undirected_patterns) else turtle_patterns) ≡ true
    by true true = directed
    by true false = undirected
    by false way = turtles

module _ (P : Term → Type 0) where
  abbrev AllOf : List Term → Type 0
  AllOf [] = Unit {0}
  AllOf (t ∷ ts) = P t × AllOf ts

  append_all : (ts us : List Term) → AllOf ts → AllOf us → AllOf (ts ++ us)
  append_all [] us h k = k
  append_all (t ∷ ts) us h k = (h.0, append_all ts us h.1 k)

  counted_all : {A : Type 0} (f : ℕ → A → Term) (k : ℕ) (xs : List A) → ((i : ℕ) (x : A) → slice_get xs i ≡ Some x → P (f (k + i) x)) → AllOf (counted f k xs)
  counted_all f k [] each = tt
  counted_all f k (x ∷ xs) each =
      let here : k + 0 ≡ k = omega arith in (
        subst (λ i. P (f i x)) here (each 0 x refl),
        counted_all f (k + 1) xs (λ i y at. let there : k + suc i ≡ k + 1 + i = omega arith in subst (λ j. P (f j y)) there (each (suc i) y at)),
      )

  found_all : (name : Name) (t : Term) (ts : List Term) → AllOf ts → term_named ts name ≡ Some t → P t
  found_all name t [] all here = cc
  found_all name t (u ∷ us) all here = by (bytes_eq u.name name) here (found_all name t us all.1)
    where
      by : (same : Bool) → cond same (Some u) (term_named us name) ≡ Some t → (term_named us name ≡ Some t → P t) → P t
      by true found later = let it : u ≡ t = cc in subst P it all.0
      by false found later = later found

  module _ (passes : Row → Bool) (of_made : (n : ℕ) (name : Name) (r : Row) → passes r ≡ true → P (made_term n name r)) where
    made_all : (n : ℕ) (name : Name) (o : Option Row) → found_by passes o ≡ true → AllOf (made_as n name o)
    made_all n name None pass = tt
    made_all n name (Some r) pass = (of_made n name r pass, tt)

    patterns_all : (n : ℕ) (b : Breed) (ps : List Pattern) → list_all (pattern_by passes) ps ≡ true → AllOf (made_terms n b ps)
    patterns_all n b [] h = tt
    patterns_all n b (p ∷ ps) h =
        append_all (made_as n (made_name b p) (row_named rows p.base)) (made_terms n b ps)
        (made_all n (made_name b p) (row_named rows p.base) (first_so (pattern_by passes p) (list_all (pattern_by passes) ps) h))
        (patterns_all n b ps (second_so (pattern_by passes p) (list_all (pattern_by passes) ps) h))

    breeds_all : (n : ℕ) (bs : List Breed) → ((b : Breed) → list_all (pattern_by passes) (patterns b) ≡ true) → AllOf (breed_terms n bs)
    breeds_all n [] each = tt
    breeds_all n (b ∷ bs) each =
        append_all (made_terms n b (patterns b)) (breed_terms (n + 1) bs) (patterns_all n b (patterns b) (each b)) (breeds_all (n + 1) bs each)

  base_all : (passes : Row → Bool) → ((r : Row) → passes r ≡ true → P (base_term r)) → (rs : List Row) → list_all passes rs ≡ true → AllOf (map base_term rs)
  base_all passes of_base [] h = tt
  base_all passes of_base (r ∷ rs) h = (of_base r (first_so (passes r) (list_all passes rs) h), base_all passes of_base rs (second_so (passes r) (list_all passes rs) h))

  pub each_row : (d : Declared) (passes of_breed : Row → Bool) → list_all passes rows ≡ true → ((b : Breed) → list_all (pattern_by of_breed) (patterns b) ≡ true)
      → ((r : Row) → passes r ≡ true → P (base_term r))
      → ((n : ℕ) (name : Name) (r : Row) → of_breed r ≡ true → P (made_term n name r))
      → ((n : ℕ) (name : Name) → slice_get (global_names d) n ≡ Some name → P (global_term n name))
      → ((n : ℕ) (name : Name) → slice_get (owned_names d) n ≡ Some name → P (owned_term d n name))
      → ((n : ℕ) (p : Procedure) → slice_get d.procedures n ≡ Some p → P (procedure_term n p))
      → (name : Name) (t : Term) → term_named (terms d) name ≡ Some t → P t
  each_row d passes of_breed all_pass breeds_pass of_base of_made of_global of_owned of_procedure name t here =
      let all : AllOf (terms d) =
      append_all _ _ (base_all passes of_base rows all_pass)
      (append_all _ _
      (append_all _ _
      (append_all _ _
      (counted_all global_term 0 (global_names d) (λ i x at. let same : i ≡ 0 + i = omega arith in subst (λ j. P (global_term j x)) same (of_global i x at)))
      (counted_all (owned_term d) 0 (owned_names d) (λ i x at. let same : i ≡ 0 + i = omega arith in subst (λ j. P (owned_term d j x)) same (of_owned i x at))))
      (breeds_all of_breed of_made 1 d.breeds breeds_pass))
      (counted_all procedure_term 0 d.procedures (λ i x at. let same : i ≡ 0 + i = omega arith in subst (λ j. P (procedure_term j x)) same (of_procedure i x at))))
      in
      found_all name t (terms d) all here
