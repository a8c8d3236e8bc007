-- Each node of a text is a construct that finds what it looks for.
use Rattle.std.proofs.Common.{◌≡◌, ℕ, zero, suc, ◌<◌, ℤ, Bool, true, false, not, ◌||◌, ◌&&◌, IsTrue, IsSome, List, [], ◌∷◌, length, Option, Some, None, slice_get, refl, sym, subst, ◌∙◌, arith}
use Rattle.std.specs.Prelude.{if◌then◌else◌, nat_lt}
use Rattle.std.specs.List.{list_all}
use Rattle.std.specs.Cmp.{first_so, second_so}
use Rattle.std.proofs.lemmas.Bool.{ltb-true}
use Rattle.std.proofs.lemmas.Option.{slice_get_within}
use Rattle.nl_fixed.specs.Nouns.{Name}
use Rattle.nl_words.specs.Row.{Row}
use Rattle.nl_words.specs.Rows.{rows}
use Rattle.nl_words.specs.declared.entry.Kinds.{Kinds}
use Rattle.nl_words.specs.declared.entry.Role.TheVariants as role
use Rattle.nl_words.specs.declared.entry.Input.{Input}
use Rattle.nl_words.specs.declared.entry.Input.TheVariants as input
use Rattle.nl_value.specs.Colors.{color_named}
use Rattle.nl_tree.specs.declared.declared.Declared.{Declared}
use Rattle.nl_tree.specs.declared.declared.Procedure.{Procedure}
use Rattle.nl_tree.specs.declared.tree.Label.{Label}
use Rattle.nl_tree.specs.declared.tree.Label.TheVariants as label
use Rattle.nl_tree.specs.Context.{Kind, Observer, Turtle, Patch, Link, allows, is_variable}
use Rattle.nl_tree.specs.Term.{Term}
use Rattle.nl_tree.specs.Tokens.{inputs_of, names_of, repeated}
use Rattle.nl_tree.specs.Tree as tree
use Rattle.nl_tree.specs.Tree.{Node, node, Nodes, none, more}
use Rattle.nl_tree.specs.Vocabulary.{base_term, directed_patterns, global_names, global_term, owned_names, owned_term, procedure_term, term_named, terms, turtle_patterns, undirected_patterns}
use Rattle.nl_agents_layout.specs.BuiltIn.{built_in_count, slot_of_code}
use Rattle.nl_agents_layout.specs.Layouts.{slots_count}
use Rattle.nl_exec_meaning.specs.declared.words.Apart.{Apart}
use Rattle.nl_exec_meaning.specs.declared.words.Built.{Built}
use Rattle.nl_exec_meaning.specs.Cases.{Case, built_case, slot_case, apart_case, color_case, word_case, case_of, case_of_term, case_of_what}
use Rattle.nl_exec_meaning.specs.Cases as case
use Rattle.nl_exec_meaning.specs.Meaning.{name_in}
use Rattle.nl_exec_meaning.specs.Words.{apart_word, built_word}
use Rattle.nl_exec_whole.specs.Parts.{Each, EachIn, is_local, is_settable, is_reserved, takes_any, IsInput, AreInputs, AreTaken, AreOfWord, IsOne, AreOf}
use Rattle.nl_exec_whole.specs.Looks.{Look, Part, NewName, Variable, looks_of_built, looks_of, is_variable_case, IsFound, AreFound, has_apart, IsThere, is_nothing, IsWhole, NodesAreWhole}
use Rattle.nl_exec_whole.proofs.Terms.{each_row, made_term, of_each_breed, pattern_by}
use Rattle.nl_exec_whole.proofs.TextParts.{nodes_have_their_parts}

-- ---- inputs that are looked at

abbrev meets : Look → Input → Bool
meets Part input.MaybeCommands = false
meets Part i = true
meets NewName input.Fresh = true
meets NewName i = false
meets Variable input.Variable = true
meets Variable i = false

abbrev covers : List Look → Bool → List Input → Bool
covers [] any is = true
covers (l ∷ ls) true is = false
covers (l ∷ ls) false [] = false
covers (l ∷ ls) false (i ∷ is) = meets l i && covers ls false is

-- ---- tests of rows

abbrev or_not : Bool → Bool → Bool
or_not premise holds = not premise || holds

-- every agent that may run the word has the variable
abbrev all_have : Kinds → Apart → Bool
all_have runs which =
    or_not runs.observer (has_apart Observer which) && or_not runs.turtle (has_apart Turtle which)
    && or_not runs.patch (has_apart Patch which) && or_not runs.link (has_apart Link which)

-- what a built-in word is by itself is there in every program
abbrev is_there : Case → Bool
is_there (case.Owned runs slot) = nat_lt slot built_in_count
is_there (case.Aside runs which) = all_have runs which
is_there (case.Procedure index) = false
is_there (case.Global slot) = false
is_there other = true

abbrev row_passes : Row → Bool
row_passes r =
    let it = built_case (base_term r) None r.code in
    or_not (not (is_reserved r.role)) (not (is_nothing it) && covers (looks_of it) (takes_any (base_term r)) (inputs_of (base_term r)))
    && or_not (is_variable r.role) (is_variable_case it) && is_there it

rows_pass : list_all row_passes rows ≡ true
unfolding rows
rows_pass = refl

-- a breed's word is no variable
abbrev is_none : {A : Type 0} → Option A → Bool
is_none None = true
is_none (Some x) = false

abbrev word_covers : Option Built → Row → Bool
word_covers None r = is_reserved r.role
word_covers (Some word) r = covers (looks_of_built word) (takes_any (base_term r)) (inputs_of (base_term r))

abbrev breed_passes : Row → Bool
breed_passes r = is_none (slot_of_code r.code) && is_none (apart_word r.code) && not (is_variable r.role) && word_covers (built_word r.code) r

turtles_pass : list_all (pattern_by breed_passes) turtle_patterns ≡ true
unfolding rows
turtles_pass = refl

undirected_pass : list_all (pattern_by breed_passes) undirected_patterns ≡ true
unfolding rows
undirected_pass = refl

directed_pass : list_all (pattern_by breed_passes) directed_patterns ≡ true
unfolding rows
directed_pass = refl

-- ---- what the row of a word says of its case

-- as many parts as the inputs have
abbrev IsThereFor : Declared → Case → Term → Type 0
IsThereFor d (case.Procedure index) r = (p : Procedure) × ((slice_get d.procedures index ≡ Some p) × (takes_any r ≡ false) × (inputs_of r ≡ repeated (length p.inputs)))
IsThereFor d (case.Global slot) r = slot < length (global_names d)
IsThereFor d (case.Owned runs slot) r = slot < slots_count d
IsThereFor d (case.Aside runs which) r = (kind : Kind) → IsTrue (allows runs kind) → IsTrue (has_apart kind which)
IsThereFor d other r = Unit {0}

pub record IsMet (d : Declared) (it : Case) (r : Term) : Type 0 where
  pub something : is_reserved r.role ≡ false → is_nothing it ≡ false
  pub looks : is_reserved r.role ≡ false → covers (looks_of it) (takes_any r) (inputs_of r) ≡ true
  pub variable : is_variable r.role ≡ true → is_variable_case it ≡ true
  pub program : IsThereFor d it r

none_there : {A : Type 0} (o : Option A) → is_none o ≡ true → o ≡ None
none_there None h = refl
none_there (Some x) h = cc

follows : (a b : Bool) → or_not a b ≡ true → a ≡ true → b ≡ true
follows true b h is = h
follows false b h is = cc

not_false : (b : Bool) → not b ≡ true → b ≡ false
not_false true h = cc
not_false false h = refl

kind_has : (runs : Kinds) (which : Apart) → all_have runs which ≡ true → (kind : Kind) → IsTrue (allows runs kind) → IsTrue (has_apart kind which)
kind_has runs which h kind is =
    let o = or_not runs.observer (has_apart Observer which) in
    let t = or_not runs.turtle (has_apart Turtle which) in
    let p = or_not runs.patch (has_apart Patch which) in
    let l = or_not runs.link (has_apart Link which) in
    let three = first_so (o && t && p) l h in
    let two = first_so (o && t) p three in
    by (first_so o t two) (second_so o t two) (second_so (o && t) p three) (second_so (o && t && p) l h) kind is
  where
    by : or_not runs.observer (has_apart Observer which) ≡ true → or_not runs.turtle (has_apart Turtle which) ≡ true
        → or_not runs.patch (has_apart Patch which) ≡ true → or_not runs.link (has_apart Link which) ≡ true
        → (kind : Kind) → IsTrue (allows runs kind) → IsTrue (has_apart kind which)
    by o t p l Observer is = follows runs.observer (has_apart Observer which) o is
    by o t p l Turtle is = follows runs.turtle (has_apart Turtle which) t is
    by o t p l Patch is = follows runs.patch (has_apart Patch which) p is
    by o t p l Link is = follows runs.link (has_apart Link which) l is

there_by : (d : Declared) (it : Case) (r : Term) → is_there it ≡ true → IsThereFor d it r
there_by d (case.Owned runs slot) r h = let low = ltb-true slot built_in_count h in omega (arith, low)
there_by d (case.Aside runs which) r h = kind_has runs which h
there_by d (case.Procedure index) r h = cc
there_by d (case.Global slot) r h = cc
there_by d other r h = tt

not_to : (b : Bool) → b ≡ false → not b ≡ true
not_to true h = cc
not_to false h = refl

module _ (d : Declared) where
  abbrev Met : Term → Type 0
  Met r = IsMet d (case_of_what r r.what) r

  met_base : (r : Row) → row_passes r ≡ true → Met (base_term r)
  met_base r h =
      let it = built_case (base_term r) None r.code in
      let x = not (is_nothing it) in
      let b = covers (looks_of it) (takes_any (base_term r)) (inputs_of (base_term r)) in
      let a = or_not (not (is_reserved r.role)) (x && b) in
      let c = or_not (is_variable r.role) (is_variable_case it) in
      let e = is_there it in
      let two = first_so (a && c) e h in
      let both = λ (here : is_reserved r.role ≡ false). follows (not (is_reserved r.role)) (x && b) (first_so a c two) (not_to (is_reserved r.role) here) in
      record {
        something = λ here. not_false (is_nothing it) (first_so x b (both here));
        looks = λ here. second_so x b (both here);
        variable = follows (is_variable r.role) (is_variable_case it) (second_so a c two);
        program = there_by d it (base_term r) (second_so (a && c) e h);
      }

  met_word : (n : ℕ) (name : Name) (r : Row) (word : Option Built) → is_variable r.role ≡ false → word_covers word r ≡ true
      → IsMet d (word_case r.runs (Some n) word) (made_term n name r)
  met_word n name r None plain h =
      record { something = λ here. let bad : true ≡ false = sym h ∙ here in cc; looks = λ here. refl; variable = λ is. let bad : true ≡ false = sym is ∙ plain in cc; program = tt }
  met_word n name r (Some word) plain h =
      record { something = λ here. refl; looks = λ here. h; variable = λ is. let bad : true ≡ false = sym is ∙ plain in cc; program = tt }

  met_color : (n : ℕ) (name : Name) (r : Row) (color : Option ℤ) → is_variable r.role ≡ false → word_covers (built_word r.code) r ≡ true
      → IsMet d (color_case (made_term n name r) (Some n) r.code color) (made_term n name r)
  met_color n name r (Some count) plain h =
      record { something = λ here. refl; looks = λ here. refl; variable = λ is. let bad : true ≡ false = sym is ∙ plain in cc; program = tt }
  met_color n name r None plain h = met_word n name r (built_word r.code) plain h

  met_made : (n : ℕ) (name : Name) (r : Row) → breed_passes r ≡ true → Met (made_term n name r)
  met_made n name r h =
      let t = made_term n name r in
      let a = is_none (slot_of_code r.code) in
      let b = is_none (apart_word r.code) in
      let c = not (is_variable r.role) in
      let e = word_covers (built_word r.code) r in
      let three = first_so (a && b && c) e h in
      let two = first_so (a && b) c three in
      let no_slot = none_there (slot_of_code r.code) (first_so a b two) in
      let no_place = none_there (apart_word r.code) (second_so a b two) in
      subst (λ o. IsMet d (slot_case t (Some n) r.code o) t) (sym no_slot)
      (subst (λ o. IsMet d (apart_case t (Some n) r.code o) t) (sym no_place)
      (met_color n name r (color_named name) (not_false (is_variable r.role) (second_so (a && b) c three)) (second_so (a && b && c) e h)))

  met_global : (n : ℕ) (name : Name) → slice_get (global_names d) n ≡ Some name → Met (global_term n name)
  met_global n name at = record { something = λ here. refl; looks = λ here. refl; variable = λ is. refl; program = slice_get_within (global_names d) n name at }

  met_owned : (n : ℕ) (name : Name) → slice_get (owned_names d) n ≡ Some name → Met (owned_term d n name)
  met_owned n name at =
      let within = slice_get_within (owned_names d) n name at in
      record { something = λ here. refl; looks = λ here. refl; variable = λ is. refl; program = omega (arith, within) }

  met_procedure : (n : ℕ) (p : Procedure) → slice_get d.procedures n ≡ Some p → Met (procedure_term n p)
  met_procedure n p at = record { something = λ here. refl; looks = λ here. refl; variable = by p.reporter; program = (p, (at, refl, refl)) }
    where
      by : (b : Bool) → is_variable (if b then role.Reporter else role.Command) ≡ true → false ≡ true
      by true is = is
      by false is = is

  met : (name : Name) (r : Term) → term_named (terms d) name ≡ Some r → Met r
  met name r here =
      each_row Met d row_passes breed_passes rows_pass (of_each_breed breed_passes turtles_pass undirected_pass directed_pass)
      met_base met_made met_global met_owned met_procedure name r here

  -- ---- what a node finds

  new_name : (name : Name) (o : Option Term) → IsTrue (is_local o) → IsSome (name_in (case_of_term name o))
  new_name name None h = refl
  new_name name (Some r) h = cc

  variable_there : (name : Name) (o : Option Term) → ((r : Term) → o ≡ Some r → Met r) → IsTrue (is_settable o) → IsTrue (is_variable_case (case_of_term name o))
  variable_there name None each h = refl
  variable_there name (Some r) each h = (each r refl).variable h

  found_one : (l : Look) (n : ℕ) (i : Input) (t : Node) → meets l i ≡ true → IsInput (terms d) n i t → IsFound d l t
  found_one Part n i t m h = tt
  found_one NewName n input.Fresh t m (name, s, (is, passes)) =
      subst (λ u. IsSome (name_in (case_of d (tree.label u)))) (sym is) (new_name name (term_named (terms d) name) passes)
  found_one Variable n input.Variable t m (name, s, (is, passes)) =
      subst (λ u. IsTrue (is_variable_case (case_of d (tree.label u)))) (sym is) (variable_there name (term_named (terms d) name) (met name) passes)
  found_one NewName n i t m h = cc
  found_one Variable n i t m h = cc

  no_maybe : (l : Look) (ls : List Look) (is : List Input) → (meets l input.MaybeCommands && covers ls false is) ≡ true → ⊥
  no_maybe Part ls is h = cc
  no_maybe NewName ls is h = cc
  no_maybe Variable ls is h = cc

  found_all : (ls : List Look) (n : ℕ) (any : Bool) (is : List Input) (ts : List Node) → covers ls any is ≡ true → AreTaken (terms d) n any is ts → AreFound d ls ts
  found_all [] n any is ts h k = tt
  found_all (l ∷ ls) n true is ts h k = cc
  found_all (l ∷ ls) n false [] ts h k = cc
  found_all (l ∷ ls) n false (input.MaybeCommands ∷ is) ts h k = absurd (no_maybe l ls is h)
  found_all (l ∷ ls) n false (i ∷ is) [] h k = absurd k
  found_all (l ∷ ls) n false (i ∷ is) (t ∷ ts) h k =
      (found_one l n i t (first_so (meets l i) (covers ls false is) h) k.0, found_all ls n false is ts (second_so (meets l i) (covers ls false is) h) k.1)

  count_values : (n count : ℕ) (ts : List Node) → AreInputs (terms d) n (repeated count) ts → length ts ≡ count
  count_values n zero [] h = refl
  count_values n zero (t ∷ ts) h = absurd h
  count_values n (suc count) [] h = absurd h
  count_values n (suc count) (t ∷ ts) h = omega (arith, count_values n count ts h.1)

  there_with : (it : Case) (r : Term) (ts : List Node) → IsThereFor d it r → AreTaken (terms d) (names_of r.turns) (takes_any r) (inputs_of r) ts → IsThere d it (length ts)
  there_with (case.Procedure index) r ts (p, (at, few, these)) h =
      let n = names_of r.turns in
      let values = subst (λ is. AreTaken (terms d) n false is ts) these (subst (λ b. AreTaken (terms d) n b (inputs_of r) ts) few h) in
      (p, (at, count_values n (length p.inputs) ts values))
  there_with (case.Global slot) r ts there h = there
  there_with (case.Owned runs slot) r ts there h = there
  there_with (case.Aside runs which) r ts there h = there
  there_with other r ts there h = tt

  abbrev Whole : Case → List Node → Type 0
  Whole it ts = (is_nothing it ≡ false) × AreFound d (looks_of it) ts × IsThere d it (length ts)

  word_whole : (name : Name) (o : Option Term) (ts : List Node) → ((r : Term) → o ≡ Some r → Met r) → AreOfWord (terms d) o ts → Whole (case_of_term name o) ts
  word_whole name None ts each h = (refl, tt, tt)
  word_whole name (Some r) ts each h =
      let m = each r refl in
      (m.something h.0, found_all (looks_of (case_of_what r r.what)) (names_of r.turns) (takes_any r) (inputs_of r) ts (m.looks h.0) h.1, there_with (case_of_what r r.what) r ts m.program h.1)

  one_found : (ts : List Node) → IsOne ts → AreFound d (Part ∷ []) ts
  one_found ts (t, is) = subst (AreFound d (Part ∷ [])) (sym is) (tt, tt)

  whole_by : (l : Label) (ts : List Node) → AreOf (terms d) l ts → Whole (case_of d l) ts
  whole_by (label.Named name) ts h = word_whole name (term_named (terms d) name) ts (met name) h
  whole_by (label.Number count) ts h = (refl, tt, tt)
  whole_by (label.Text bytes) ts h = (refl, tt, tt)
  whole_by label.List ts h = (refl, tt, tt)
  whole_by label.Negate ts h = (refl, one_found ts h, tt)
  whole_by label.Paren ts h = (refl, one_found ts h, tt)
  whole_by label.Commands ts h = (refl, tt, tt)
  whole_by label.Reporter ts h = (refl, one_found ts h, tt)
  whole_by (label.Arrow names) ts h = (refl, one_found ts h, tt)

  whole : (t : Node) → AreOf (terms d) (tree.label t) (tree.parts t) → IsWhole d t
  whole t h = let x = whole_by (tree.label t) (tree.parts t) h in record { something = x.0; parts = x.1; program = x.2 }

module _ (P Q : Node → Type 0) (step : (t : Node) → P t → Q t) where
  mutual
    pub each_more : (t : Node) → Each P t → Each Q t
    each_more (node l s ts) h = (step (node l s ts) h.0, each_more_in ts h.1)

    pub each_more_in : (ts : Nodes) → EachIn P ts → EachIn Q ts
    each_more_in none h = tt
    each_more_in (more t ts) h = (each_more t h.0, each_more_in ts h.1)

pub nodes_are_whole : NodesAreWhole
nodes_are_whole d form names ts t r =
    each_more (λ u. AreOf (terms d) (tree.label u) (tree.parts u)) (IsWhole d) (whole d) t (nodes_have_their_parts d form names ts t r)
