-- A checked program and its layout are sound. Words: each row of the table of words passes a test that computes, by its own kinds of agents
-- and its code alone; so does each word that a breed makes, where breeds of turtles make none that speaks of links, and the other way round.
use Rattle.std.proofs.Common.{◌≡◌, ℕ, ℤ, suc, ◌+◌, ◌<◌, ◌≤◌, ◌&&◌, Bool, true, false, not, cond, if◌then◌else◌, IsTrue, ◌⊎◌, inl, inr, List, [], ◌∷◌, ◌++◌, map, length, get_or, Option, Some, None, bytes_eq, slice_get, option_map, refl, ap, subst, ◌∙◌, arith}
use Rattle.std.specs.List.{list_all}
use Rattle.std.proofs.lemmas.Bool.{and_parts}
use Rattle.std.proofs.lemmas.Option.{slice_get_cases, slice_get_within, slice_get-map}
use Rattle.nl_fixed.specs.Nouns.{Name}
use Rattle.nl_value.specs.Colors.{color_named}
use Rattle.nl_words.specs.Row.{Row, Code, row_named}
use Rattle.nl_words.specs.Rows.{rows}
use Rattle.nl_words.specs.declared.entry.Kinds.{Kinds}
use Rattle.nl_tree.specs.Tree as tree
use Rattle.nl_tree.specs.Tree.{Node}
use Rattle.nl_tree.specs.declared.tree.Label.{Label}
use Rattle.nl_tree.specs.declared.tree.Label.TheVariants as label
use Rattle.nl_tree.specs.declared.declared.Breed.{Breed}
use Rattle.nl_tree.specs.declared.declared.Procedure.{Procedure}
use Rattle.nl_tree.specs.declared.declared.Declared.{Declared}
use Rattle.nl_tree.specs.declared.declared.What.TheVariants as what
use Rattle.nl_tree.specs.Term.{Term}
use Rattle.nl_tree.specs.Vocabulary.{Pattern, base_term, counted, global_names, global_term, owned_names, owned_term, made_as, made_name, made_terms, turtle_patterns, undirected_patterns, directed_patterns, patterns, breed_terms, procedure_term, terms, term_named}
use Rattle.nl_tree.specs.Checked.{Checked, IsProgram}
use Rattle.nl_agents_layout.specs.Nouns.{BreedNumber, Slot}
use Rattle.nl_agents_layout.specs.BuiltIn.{slot_of_code}
use Rattle.nl_agents_layout.specs.Layouts.{layout_of, breed_layout, is_turtle_breed, is_link_breed, is_breed_of}
use Rattle.nl_agents_layout.specs.declared.layout.Layout.{Layout}
use Rattle.nl_agentset_query.specs.declared.words.QueryWord.{QueryWord}
use Rattle.nl_agentset_query.specs.declared.words.QueryWord.TheVariants as word
use Rattle.nl_agentset_query.specs.declared.words.Whole.TheVariants as whole
use Rattle.nl_exec_meaning.specs.Acting.{is_breed_or_none, word_breed_fits}
use Rattle.nl_exec_acts.specs.declared.words.Act.{Act}
use Rattle.nl_exec_acts.specs.declared.words.Act.TheVariants as act
use Rattle.nl_exec_meaning.specs.declared.words.Apart.{Apart}
use Rattle.nl_exec_meaning.specs.declared.words.Making.{Making}
use Rattle.nl_exec_meaning.specs.declared.words.Making.TheVariants as making
use Rattle.nl_exec_meaning.specs.declared.words.Built.{Built}
use Rattle.nl_exec_meaning.specs.declared.words.Built.TheVariants as built
use Rattle.nl_exec_meaning.specs.declared.words.Control.TheVariants as control
use Rattle.nl_exec_meaning.specs.declared.words.Spread.TheVariants as spread
use Rattle.nl_exec_meaning.specs.Words.{apart_word, built_word}
use Rattle.nl_exec_meaning.specs.Cases.{word_case, color_case, apart_case, slot_case, built_case, case_of_what, case_of_term, case_of}
use Rattle.nl_exec_meaning.specs.Sound.{ActStands, MakingStands, WordStands, CaseStands, IsSound}

-- ---- bodies

pub bodies_are_statements : (p : Checked) → IsProgram p → (i : ℕ) (t : Node) → slice_get p.bodies i ≡ Some t → tree.label t ≡ label.Commands
bodies_are_statements p checked i t here = by (slice_get_cases p.declared.procedures i).1
  where
    by : ((q : Procedure) × (i < length p.declared.procedures) × (slice_get p.declared.procedures i ≡ Some q) × (get_or p.declared.procedures i q ≡ q))
        ⊎ ((length p.declared.procedures ≤ i) × (slice_get p.declared.procedures i ≡ None))
        → tree.label t ≡ label.Commands
    by (inl there) = ap tree.label (checked.2 i there.0 t there.2 here).2.1.0.1
    by (inr past) = absurd (omega (arith, past.0, checked.1.0, slice_get_within p.bodies i t here))

-- ---- the tests, by whether the breed of the word is one of turtles and whether it is one of links

abbrev query_passes : Bool → Bool → QueryWord → Bool
query_passes turtle link (word.Whole whole.Turtles) = turtle
query_passes turtle link (word.Whole whole.Links) = link
query_passes turtle link which = true

abbrev act_passes : Bool → Bool → Act → Bool
act_passes turtle link (act.Query which) = query_passes turtle link which
act_passes turtle link other = true

abbrev making_passes : Bool → Bool → Kinds → Making → Bool
making_passes turtle link runs (making.Create ordered) = turtle
making_passes turtle link runs making.Hatch = not runs.observer && turtle
making_passes turtle link runs making.Sprout = not runs.observer && turtle
making_passes turtle link runs (making.Link way one) = not runs.observer && link

abbrev word_passes : Bool → Bool → Kinds → Built → Bool
word_passes turtle link runs (built.Control control.Die) = not runs.observer
word_passes turtle link runs (built.Spread (spread.Climb up four)) = not runs.observer
word_passes turtle link runs (built.Making which) = making_passes turtle link runs which
word_passes turtle link runs (built.Act which) = act_passes turtle link which
word_passes turtle link runs other = true

abbrev built_passes : Bool → Bool → Kinds → Option Built → Bool
built_passes turtle link runs None = true
built_passes turtle link runs (Some which) = word_passes turtle link runs which

-- a variable of agents, where the code is that of one
abbrev own_passes : {A : Type 0} → Kinds → Option A → Bool
own_passes runs None = true
own_passes runs (Some it) = not runs.observer

abbrev code_passes : Bool → Bool → Kinds → Code → Bool
code_passes turtle link runs n = own_passes runs (slot_of_code n) && own_passes runs (apart_word n) && built_passes turtle link runs (built_word n)

abbrev row_passes : Bool → Bool → Row → Bool
row_passes turtle link r = code_passes turtle link r.runs r.code

rows_pass : list_all (row_passes true true) rows ≡ true
unfolding rows
rows_pass = refl

-- the word that a pattern is made from
abbrev found_passes : Bool → Bool → Option Row → Bool
found_passes turtle link None = true
found_passes turtle link (Some r) = row_passes turtle link r

abbrev pattern_passes : Bool → Bool → Pattern → Bool
pattern_passes turtle link p = found_passes turtle link (row_named rows p.base)

turtle_patterns_pass : list_all (pattern_passes true false) turtle_patterns ≡ true
unfolding rows
turtle_patterns_pass = refl

undirected_patterns_pass : list_all (pattern_passes false true) undirected_patterns ≡ true
unfolding rows
undirected_patterns_pass = refl

directed_patterns_pass : list_all (pattern_passes false true) directed_patterns ≡ true
unfolding rows
directed_patterns_pass = refl

patterns_pass : (b : Breed) → list_all (pattern_passes (not b.link) b.link) (patterns b) ≡ true
patterns_pass b = by b.link b.directed
  where
    by : (link directed : Bool) → list_all (pattern_passes (not link) link) (if link then (if directed then directed_patterns else undirected_patterns) else turtle_patterns) ≡ true
    by true true = directed_patterns_pass
    by true false = undirected_patterns_pass
    by false directed = turtle_patterns_pass

-- ---- what passes stands

module _ (layout : Layout) (breed : Option BreedNumber) (turtle link : Bool)
    (of_turtles : is_breed_or_none (is_turtle_breed layout) breed ≡ turtle) (of_links : is_breed_or_none (is_link_breed layout) breed ≡ link) where
  query_stands : (which : QueryWord) → query_passes turtle link which ≡ true → IsTrue (word_breed_fits layout which breed)
  query_stands (word.Whole whole.Turtles) pass = of_turtles ∙ pass
  query_stands (word.Whole whole.Links) pass = of_links ∙ pass
  query_stands which pass = refl

  act_stands : (which : Act) → act_passes turtle link which ≡ true → ActStands layout which breed
  act_stands (act.Query which) pass = query_stands which pass
  act_stands other pass = tt

  making_stands : (runs : Kinds) (which : Making) → making_passes turtle link runs which ≡ true → MakingStands layout runs breed which
  making_stands runs (making.Create ordered) pass = of_turtles ∙ pass
  making_stands runs making.Hatch pass = let parts = and_parts (not runs.observer) turtle pass in (parts.0, of_turtles ∙ parts.1)
  making_stands runs making.Sprout pass = let parts = and_parts (not runs.observer) turtle pass in (parts.0, of_turtles ∙ parts.1)
  making_stands runs (making.Link way one) pass = let parts = and_parts (not runs.observer) link pass in (parts.0, of_links ∙ parts.1)

  word_stands : (runs : Kinds) (which : Built) → word_passes turtle link runs which ≡ true → WordStands layout runs breed which
  word_stands runs (built.Control control.Die) pass = pass
  word_stands runs (built.Spread (spread.Climb up four)) pass = pass
  word_stands runs (built.Making which) pass = making_stands runs which pass
  word_stands runs (built.Act which) pass = act_stands which pass
  word_stands runs other pass = tt

  built_stands : (runs : Kinds) (found : Option Built) → built_passes turtle link runs found ≡ true → CaseStands layout (word_case runs breed found)
  built_stands runs None pass = tt
  built_stands runs (Some which) pass = word_stands runs which pass

  color_stands : (t : Term) (n : Code) (color : Option ℤ) → built_passes turtle link t.runs (built_word n) ≡ true → CaseStands layout (color_case t breed n color)
  color_stands t n (Some count) pass = tt
  color_stands t n None pass = built_stands t.runs (built_word n) pass

  apart_stands : (t : Term) (n : Code) (found : Option Apart) → own_passes t.runs found ≡ true → built_passes turtle link t.runs (built_word n) ≡ true
      → CaseStands layout (apart_case t breed n found)
  apart_stands t n (Some which) own pass = own
  apart_stands t n None own pass = color_stands t n (color_named t.name) pass

  slot_stands : (t : Term) (n : Code) (found : Option Slot) → own_passes t.runs found ≡ true → own_passes t.runs (apart_word n) ≡ true
      → built_passes turtle link t.runs (built_word n) ≡ true → CaseStands layout (slot_case t breed n found)
  slot_stands t n (Some slot) own apart pass = own
  slot_stands t n None own apart pass = apart_stands t n (apart_word n) apart pass

  code_stands : (t : Term) (n : Code) → code_passes turtle link t.runs n ≡ true → CaseStands layout (built_case t breed n)
  code_stands t n pass =
      let slot = own_passes t.runs (slot_of_code n) in
      let apart = own_passes t.runs (apart_word n) in
      let built = built_passes turtle link t.runs (built_word n) in
      let (variable, said) = and_parts (slot && apart) built pass in
      let (kept, aside) = and_parts slot apart variable in
      slot_stands t n (slot_of_code n) kept aside said

-- ---- the rows of a model

module _ (d : Declared) where
  abbrev Fit : List Term → Type 0
  Fit [] = Unit {0}
  Fit (t ∷ ts) = CaseStands (layout_of d) (case_of_what t t.what) × Fit ts

  fit_append : (ts us : List Term) → Fit ts → Fit us → Fit (ts ++ us)
  fit_append [] us first rest = rest
  fit_append (t ∷ ts) us first rest = (first.0, fit_append ts us first.1 rest)

  fit_base : (rs : List Row) → list_all (row_passes true true) rs ≡ true → Fit (map base_term rs)
  fit_base [] pass = tt
  fit_base (r ∷ rs) pass =
      let (here, rest) = and_parts (row_passes true true r) (list_all (row_passes true true) rs) pass in
      (code_stands (layout_of d) None true true refl refl (base_term r) r.code here, fit_base rs rest)

  fit_counted : {A : Type 0} (f : ℕ → A → Term) → ((n : ℕ) (x : A) → CaseStands (layout_of d) (case_of_what (f n x) (f n x).what)) → (n : ℕ) (xs : List A) → Fit (counted f n xs)
  fit_counted f each n [] = tt
  fit_counted f each n (x ∷ xs) = (each n x, fit_counted f each (n + 1) xs)

  -- the number is that of the breed
  abbrev IsOf : ℕ → Breed → Type 0
  IsOf n b = (is_turtle_breed (layout_of d) n ≡ not b.link) × (is_link_breed (layout_of d) n ≡ b.link)

  kind_of_breed : (b : Breed) → (is_breed_of false (Some (breed_layout d b)) ≡ not b.link) × (is_breed_of true (Some (breed_layout d b)) ≡ b.link)
  kind_of_breed b = by b.link
    where
      by : (link : Bool) → ((if link then false else not false) ≡ not link) × ((if link then true else not true) ≡ link)
      by true = (refl, refl)
      by false = (refl, refl)

  numbered : (n : ℕ) (b : Breed) → slice_get d.breeds n ≡ Some b → IsOf (suc n) b
  unfolding layout_of
  numbered n b here =
      let at : slice_get (map (breed_layout d) d.breeds) n ≡ Some (breed_layout d b) = slice_get-map (breed_layout d) d.breeds n ∙ ap (option_map (breed_layout d)) here in
      (ap (is_breed_of false) at ∙ (kind_of_breed b).0, ap (is_breed_of true) at ∙ (kind_of_breed b).1)

  fit_made_as : (n : ℕ) (b : Breed) (name : Name) (found : Option Row) → IsOf n b → found_passes (not b.link) b.link found ≡ true → Fit (made_as n name found)
  fit_made_as n b name None is pass = tt
  fit_made_as n b name (Some r) is pass =
      let row : Term = record { name = name; role = r.role; inputs = r.inputs; values = 0; many = r.many; turns = r.turns; runs = r.runs; gives = r.gives; what = what.Made n r.code } in
      (code_stands (layout_of d) (Some n) (not b.link) b.link is.0 is.1 row r.code pass, tt)

  fit_made : (n : ℕ) (b : Breed) (ps : List Pattern) → IsOf n b → list_all (pattern_passes (not b.link) b.link) ps ≡ true → Fit (made_terms n b ps)
  fit_made n b [] is pass = tt
  fit_made n b (p ∷ ps) is pass =
      let (here, rest) = and_parts (pattern_passes (not b.link) b.link p) (list_all (pattern_passes (not b.link) b.link) ps) pass in
      fit_append (made_as n (made_name b p) (row_named rows p.base)) (made_terms n b ps)
      (fit_made_as n b (made_name b p) (row_named rows p.base) is here) (fit_made n b ps is rest)

  fit_breeds : (n : ℕ) (bs : List Breed) → ((i : ℕ) (b : Breed) → slice_get bs i ≡ Some b → IsOf (n + i) b) → Fit (breed_terms n bs)
  fit_breeds n [] are = tt
  fit_breeds n (b ∷ bs) are =
      let is : IsOf n b = subst (λ m. IsOf m b) (omega arith) (are 0 b refl) in
      fit_append (made_terms n b (patterns b)) (breed_terms (n + 1) bs)
      (fit_made n b (patterns b) is (patterns_pass b))
      (fit_breeds (n + 1) bs (λ i c here. subst (λ m. IsOf m c) (omega arith) (are (suc i) c here)))

  fit_terms : Fit (terms d)
  fit_terms =
      let base = fit_base rows rows_pass in
      let globals = fit_counted global_term (λ n x. tt) 0 (global_names d) in
      let owned = fit_counted (owned_term d) (λ n x. refl) 0 (owned_names d) in
      let breeds = fit_breeds 1 d.breeds (λ i b here. let next : suc i ≡ 1 + i = omega arith in subst (λ m. IsOf m b) next (numbered i b here)) in
      let procedures = fit_counted procedure_term (λ n x. tt) 0 d.procedures in
      fit_append _ _ base (fit_append _ _ (fit_append _ _ (fit_append _ _ globals owned) breeds) procedures)

  found_stands : (name : Name) (u : Term) (ts : List Term) (same : Bool) → Fit (u ∷ ts) → CaseStands (layout_of d) (case_of_term name (term_named ts name))
      → CaseStands (layout_of d) (case_of_term name (cond same (Some u) (term_named ts name)))
  found_stands name u ts true fit later = fit.0
  found_stands name u ts false fit later = later

  named_stands : (name : Name) (ts : List Term) → Fit ts → CaseStands (layout_of d) (case_of_term name (term_named ts name))
  named_stands name [] fit = tt
  named_stands name (u ∷ ts) fit = found_stands name u ts (bytes_eq u.name name) fit (named_stands name ts fit.1)

  pub words_stand : (l : Label) → CaseStands (layout_of d) (case_of d l)
  words_stand (label.Named name) = named_stands name (terms d) fit_terms
  words_stand other = tt

pub sound : (p : Checked) → IsProgram p → IsSound p (layout_of p.declared)
sound p checked = record { bodies = bodies_are_statements p checked; words = words_stand p.declared }
