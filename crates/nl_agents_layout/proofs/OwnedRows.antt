-- The rows of a model's word table that are those of variables of agents: how many there are, and that each name is the one of its number.
use Rattle.std.proofs.Common.{◌≡◌, ℕ, zero, suc, ◌+◌, ◌<◌, ◌≤◌, ◌^◌, ◌==◌, Bool, true, false, not, cond, if◌then◌else◌, List, [], ◌∷◌, ◌++◌, map, length, find, filter, Option, Some, None, bytes_eq, slice_get, refl, sym, ap, subst, ◌∙◌, arith, length-append, option_map}
use Rattle.std.specs.List.{Contains, count_by}
use Rattle.std.proofs.Common.{get_or}
use Rattle.std.proofs.lemmas.Bool.{and_parts, eqb-true}
use Rattle.std.proofs.lemmas.Option.{slice_get_within}
use Rattle.std.proofs.lemmas.List.{get_or-map, length-map}
use Rattle.std.proofs.lemmas.List.Elements.{Contains-append_left, Contains-append_right}
use Rattle.std.proofs.lemmas.List.Sorted.{IsPermutation-refl, sum_by-IsPermutation}
use Rattle.std.proofs.lemmas.List.Sums.{sum_by-cons, length-filter, count_by-le-length}
use Rattle.std.proofs.lemmas.Slice.Eq.{bytes_eq-Decides}
use Rattle.nl_fixed.specs.Nouns.{Name, Names}
use Rattle.nl_words.specs.Row.{Row, row_named}
use Rattle.nl_words.specs.Rows.{rows}
use Rattle.nl_words.specs.Table.{counts_from}
use Rattle.nl_tree.specs.declared.declared.Declared.{Declared}
use Rattle.nl_tree.specs.declared.declared.Breed.{Breed}
use Rattle.nl_tree.specs.declared.declared.NamedWhat.{NamedWhat}
use Rattle.nl_tree.specs.declared.declared.What.{What}
use Rattle.nl_tree.specs.declared.declared.What.TheVariants as what
use Rattle.nl_tree.specs.declared.index.NamedWord.{NamedWord}
use Rattle.nl_tree.specs.Index.{term_of}
use Rattle.nl_tree.specs.Term.{Term}
use Rattle.nl_tree.specs.Names.{IsDeclared, breeds_names, procedures_names}
use Rattle.nl_tree.specs.Vocabulary.{Pattern, among, joined, base_term, counted, global_names, global_term, owned_names, breed_names, owned_term, made_as, made_name, made_terms, patterns, breed_terms, procedure_term, own_terms, terms, named_what, whats, what_of, what_named}
use Rattle.nl_tree.proofs.Finding.{looked_up}
use Rattle.nl_agents_layout.specs.inner.Numbering.{is_own}

-- ---- how many rows there are

abbrev weight : Term → ℕ
weight t = cond (is_own t) 1 0

count_append : (ts us : List Term) → count_by is_own (ts ++ us) ≡ count_by is_own ts + count_by is_own us
count_append [] us = omega arith
count_append (t ∷ ts) us = omega (arith, sum_by-cons weight t (ts ++ us), sum_by-cons weight t ts, count_append ts us)

count_ones : {A : Type 0} (f : ℕ → A → Term) → ((n : ℕ) (x : A) → is_own (f n x) ≡ true) → (n : ℕ) (xs : List A) → count_by is_own (counted f n xs) ≡ length xs
count_ones f each n [] = refl
count_ones f each n (x ∷ xs) =
    let one : weight (f n x) ≡ 1 = ap (λ b. cond b 1 0) (each n x) in
    omega (arith, sum_by-cons weight (f n x) (counted f (n + 1) xs), one, count_ones f each (n + 1) xs)

count_none : {A : Type 0} (f : ℕ → A → Term) → ((n : ℕ) (x : A) → is_own (f n x) ≡ false) → (n : ℕ) (xs : List A) → count_by is_own (counted f n xs) ≡ 0
count_none f each n [] = refl
count_none f each n (x ∷ xs) =
    let one : weight (f n x) ≡ 0 = ap (λ b. cond b 1 0) (each n x) in
    omega (arith, sum_by-cons weight (f n x) (counted f (n + 1) xs), one, count_none f each (n + 1) xs)

count_made_as : (n : ℕ) (name : Name) (o : Option Row) → count_by is_own (made_as n name o) ≡ 0
count_made_as n name None = refl
count_made_as n name (Some r) = refl

count_made : (n : ℕ) (b : Breed) (ps : List Pattern) → count_by is_own (made_terms n b ps) ≡ 0
count_made n b [] = refl
count_made n b (p ∷ ps) =
    let here = made_as n (made_name b p) (row_named rows p.base) in
    omega (arith, count_append here (made_terms n b ps), count_made_as n (made_name b p) (row_named rows p.base), count_made n b ps)

count_breeds : (n : ℕ) (bs : List Breed) → count_by is_own (breed_terms n bs) ≡ 0
count_breeds n [] = refl
count_breeds n (b ∷ bs) = omega (arith, count_append (made_terms n b (patterns b)) (breed_terms (n + 1) bs), count_made n b (patterns b), count_breeds (n + 1) bs)

count_terms : (d : Declared) → count_by is_own (own_terms d) ≡ length (owned_names d)
count_terms d =
    let g = counted global_term 0 (global_names d) in
    let o = counted (owned_term d) 0 (owned_names d) in
    let b = breed_terms 1 d.breeds in
    let p = counted procedure_term 0 d.procedures in
    omega (
      arith,
      count_append (g ++ o ++ b) p,
      count_append (g ++ o) b,
      count_append g o,
      count_none global_term (λ n x. refl) 0 (global_names d),
      count_ones (owned_term d) (λ n x. refl) 0 (owned_names d),
      count_breeds 1 d.breeds,
      count_none procedure_term (λ n x. refl) 0 d.procedures,
    )

count_words : (ws : List NamedWord) → count_by (λ w. is_own (term_of w)) ws ≡ count_by is_own (map term_of ws)
count_words [] = refl
count_words (w ∷ ws) =
    let here = sum_by-cons (λ (v : NamedWord). cond (is_own (term_of v)) 1 0) w ws in
    let there = sum_by-cons weight (term_of w) (map term_of ws) in
    here ∙ ap (λ n. cond (is_own (term_of w)) 1 0 + n) (count_words ws) ∙ sym there

-- of the rows of an index, in their order
pub count_index : (d : Declared) (ws : List NamedWord) → IsDeclared d → map term_of ws ≡ d.index → count_by (λ w. is_own (term_of w)) ws ≡ length (owned_names d)
count_index d ws fit is =
    count_words ws ∙ ap (λ ts. count_by is_own ts) is ∙ sum_by-IsPermutation weight (own_terms d) d.index fit.2 ∙ count_terms d

length_joined : (xs ys : Names) → length (joined xs ys) ≤ length xs + length ys
length_joined xs ys =
    let new = filter (λ y. not (among y xs)) ys in
    omega (arith, length-append xs new, length-filter (λ y. not (among y xs)) ys, count_by-le-length (λ y. not (among y xs)) ys)

length_breeds : (bs : List Breed) → length (breed_names bs) ≤ length (breeds_names bs)
length_breeds [] = omega arith
length_breeds (b ∷ bs) = omega (arith, length_joined b.own (breed_names bs), length-append b.own (breeds_names bs), length_breeds bs)

pub few_owned : (d : Declared) → IsDeclared d → length (owned_names d) < 2 ^ 31
few_owned d fit =
    let all = length-append (d.widgets ++ d.globals ++ d.turtles_own ++ d.patches_own ++ d.links_own ++ breeds_names d.breeds) (procedures_names d.procedures) in
    let five = length-append (d.widgets ++ d.globals ++ d.turtles_own ++ d.patches_own ++ d.links_own) (breeds_names d.breeds) in
    let four = length-append (d.widgets ++ d.globals ++ d.turtles_own ++ d.patches_own) d.links_own in
    let three = length-append (d.widgets ++ d.globals ++ d.turtles_own) d.patches_own in
    let two = length-append (d.widgets ++ d.globals) d.turtles_own in
    let links = length_joined d.links_own (breed_names d.breeds) in
    let patches = length_joined d.patches_own (joined d.links_own (breed_names d.breeds)) in
    let turtles = length_joined d.turtles_own (joined d.patches_own (joined d.links_own (breed_names d.breeds))) in
    omega (arith, links, patches, turtles, length_breeds d.breeds, all, five, four, three, two, fit.1)

-- ---- the name of a number

module _ (d : Declared) where
  -- a row of a built-in word has the name at its code, and one of a variable of agents the name at its number
  abbrev IsNamed : What → Name → Type 0
  IsNamed (what.Base code) name = option_map (λ (r : Row). r.name) (slice_get rows code) ≡ Some name
  IsNamed (what.Own n) name = slice_get (owned_names d) n ≡ Some name
  IsNamed (what.Global n) name = Unit {0}
  IsNamed (what.Made n code) name = Unit {0}
  IsNamed (what.Procedure n) name = Unit {0}

  abbrev AreNamed : List Term → Type 0
  AreNamed [] = Unit {0}
  AreNamed (t ∷ ts) = IsNamed t.what t.name × AreNamed ts

  named-append : (ts us : List Term) → AreNamed ts → AreNamed us → AreNamed (ts ++ us)
  named-append [] us h k = k
  named-append (t ∷ ts) us h k = (h.0, named-append ts us h.1 k)

  named_base : (k : ℕ) (rs : List Row) → counts_from k rs ≡ true → ((i : ℕ) (r : Row) → slice_get rs i ≡ Some r → slice_get rows (k + i) ≡ Some r) → AreNamed (map base_term rs)
  named_base k [] count here = tt
  named_base k (r ∷ rs) count here =
      let parts = and_parts (r.code == k) (counts_from (k + 1) rs) count in
      let at : k + 0 ≡ r.code = omega (arith, eqb-true r.code k parts.0) in (
        ap (option_map (λ (x : Row). x.name)) (subst (λ i. slice_get rows i ≡ Some r) at (here 0 r refl)),
        named_base (k + 1) rs parts.1 (λ i x there. subst (λ j. slice_get rows j ≡ Some x) (omega arith) (here (suc i) x there)),
      )

  -- rows of which none is that of a built-in word or of a variable of agents
  named_others : {A : Type 0} (f : ℕ → A → Term) → ((n : ℕ) (x : A) → IsNamed (f n x).what (f n x).name) → (n : ℕ) (xs : List A) → AreNamed (counted f n xs)
  named_others f each n [] = tt
  named_others f each n (x ∷ xs) = (each n x, named_others f each (n + 1) xs)

  named_owned : (k : ℕ) (xs : Names) → ((i : ℕ) (x : Name) → slice_get xs i ≡ Some x → slice_get (owned_names d) (k + i) ≡ Some x) → AreNamed (counted (owned_term d) k xs)
  named_owned k [] here = tt
  named_owned k (x ∷ xs) here = (
    subst (λ i. slice_get (owned_names d) i ≡ Some x) (omega arith) (here 0 x refl),
    named_owned (k + 1) xs (λ i y at. subst (λ j. slice_get (owned_names d) j ≡ Some y) (omega arith) (here (suc i) y at)),
  )

  named_made_as : (n : ℕ) (name : Name) (o : Option Row) → AreNamed (made_as n name o)
  named_made_as n name None = tt
  named_made_as n name (Some r) = (tt, tt)

  named_made : (n : ℕ) (b : Breed) (ps : List Pattern) → AreNamed (made_terms n b ps)
  named_made n b [] = tt
  named_made n b (p ∷ ps) =
      named-append (made_as n (made_name b p) (row_named rows p.base)) (made_terms n b ps)
      (named_made_as n (made_name b p) (row_named rows p.base)) (named_made n b ps)

  named_breeds : (n : ℕ) (bs : List Breed) → AreNamed (breed_terms n bs)
  named_breeds n [] = tt
  named_breeds n (b ∷ bs) = named-append (made_terms n b (patterns b)) (breed_terms (n + 1) bs) (named_made n b (patterns b)) (named_breeds (n + 1) bs)

  codes_count : counts_from 0 rows ≡ true
  unfolding rows
  codes_count = refl

  named_terms : AreNamed (terms d)
  named_terms =
      named-append _ _ (named_base 0 rows codes_count (λ i x at. subst (λ j. slice_get rows j ≡ Some x) (omega arith) at))
      (named-append _ _
      (named-append _ _
      (named-append _ _
      (named_others global_term (λ n x. tt) 0 (global_names d))
      (named_owned 0 (owned_names d) (λ i x at. subst (λ j. slice_get (owned_names d) j ≡ Some x) (omega arith) at)))
      (named_breeds 1 d.breeds))
      (named_others procedure_term (λ n x. tt) 0 d.procedures))

  -- what is found under a name
  by_name : (name : Name) (w : What) (ts : List Term) → AreNamed ts → what_of (find (λ r. bytes_eq r.name name) (map named_what ts)) ≡ Some w → IsNamed w name
  by_name name w [] all here = cc
  by_name name w (t ∷ ts) all here = at (bytes_eq t.name name) refl here (by_name name w ts all.1)
    where
      at : (b : Bool) → bytes_eq t.name name ≡ b
          → what_of (if b then Some (named_what t) else find (λ (r : NamedWhat). bytes_eq r.name name) (map named_what ts)) ≡ Some w
          → (what_of (find (λ (r : NamedWhat). bytes_eq r.name name) (map named_what ts)) ≡ Some w → IsNamed w name)
          → IsNamed w name
      at true same found later =
          let it : t.what ≡ w = cc in
          subst (λ m. IsNamed w m) ((bytes_eq-Decides t.name name).0 same) (subst (λ v. IsNamed v t.name) it all.0)
      at false other found later = later found

  pub is_named : (name : Name) (w : What) → what_named d name ≡ Some w → IsNamed w name
  is_named name w here = by_name name w (terms d) named_terms here

  pub name_of_number : (name : Name) (n : ℕ) → what_named d name ≡ Some (what.Own n) → slice_get (owned_names d) n ≡ Some name
  name_of_number name n here = is_named name (what.Own n) here

  pub name_of_code : (name : Name) (code : ℕ) → what_named d name ≡ Some (what.Base code) → option_map (λ (r : Row). r.name) (slice_get rows code) ≡ Some name
  name_of_code name code here = is_named name (what.Base code) here

-- ---- and back

contains_counted : {A : Type 0} (f : ℕ → A → Term) (k : ℕ) (xs : List A) (i : ℕ) (x : A) → slice_get xs i ≡ Some x → Contains (counted f k xs) (f (k + i) x)
contains_counted f k [] i x at = absurd (omega (arith, slice_get_within [] i x at))
contains_counted f k (y ∷ ys) zero x at =
    let same : y ≡ x = cc in
    let here : k ≡ k + 0 = omega arith in
    (0, omega arith, subst (λ m. f k y ≡ f m x) here (ap (f k) same))
contains_counted f k (y ∷ ys) (suc i) x at =
    let (j, inside, is) = contains_counted f (k + 1) ys i x at in
    let here : k + 1 + i ≡ k + suc i = omega arith in
    (suc j, omega (arith, inside), subst (λ m. get_or (counted f (k + 1) ys) j (f m x) ≡ f m x) here is)

contains_whats : (ts : List Term) (t : Term) → Contains ts t → Contains (map named_what ts) (named_what t)
contains_whats ts t (k, within, is) =
    (k, subst (λ n. k < n) (sym (length-map ts named_what)) within, get_or-map named_what ts k t (named_what t) within ∙ ap named_what is)

pub number_of_name : (d : Declared) → IsDeclared d → (name : Name) (n : ℕ) → slice_get (owned_names d) n ≡ Some name → what_named d name ≡ Some (what.Own n)
number_of_name d fit name n at =
    let g = counted global_term 0 (global_names d) in
    let o = counted (owned_term d) 0 (owned_names d) in
    let b = breed_terms 1 d.breeds in
    let p = counted procedure_term 0 d.procedures in
    let t = owned_term d n name in
    let here : 0 + n ≡ n = omega arith in
    let counted_there : Contains o t = subst (λ m. Contains o (owned_term d m name)) here (contains_counted (owned_term d) 0 (owned_names d) n name at) in
    let there = Contains-append_right (map base_term rows) (g ++ o ++ b ++ p) t (Contains-append_left (g ++ o ++ b) p t (Contains-append_left (g ++ o) b t (Contains-append_right g o t counted_there))) in
    sym (looked_up d (whats d) name (IsPermutation-refl (whats d)) fit (named_what t) refl (contains_whats (terms d) t there))
