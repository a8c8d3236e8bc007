-- No name is declared twice where what declarations declare in all has no duplicate.
use Rattle.std.proofs.Common.{◌≡◌, ℕ, zero, suc, ◌+◌, ◌<◌, ◌≤◌, ◌==◌, ◌&&◌, Bool, true, false, not, List, [], ◌∷◌, map, Some, None, bytes_eq, slice_get, sym, ap, subst, ◌∙◌, refl, arith, if◌then◌else◌, is_some, inl, inr}
use Rattle.std.specs.List.{list_all}
use Rattle.std.specs.Cmp.{first_so, second_so}
use Rattle.std.proofs.lemmas.Bool.{cases_lt, eqb-true, ne_eqb}
use Rattle.std.proofs.lemmas.Option.{slice_get_past}
use Rattle.nl_words.specs.Row.{Row, row_named}
use Rattle.nl_words.specs.Rows.{rows}
use Rattle.nl_tree.specs.declared.declared.Breed.{Breed}
use Rattle.nl_tree.specs.declared.declared.Procedure.{Procedure}
use Rattle.nl_tree.specs.declared.declared.Declared.{Declared}
use Rattle.nl_tree.specs.Tokens.{Lexeme}
use Rattle.nl_tree.specs.Vocabulary.{breed_names, breed_terms, counted, global_names, joined, owned_names, procedure_term, terms}
use Rattle.nl_tree.specs.Names.{are_distinct, are_apart, own_once, owners_fit, inputs_fit, has_no_duplicate}
use Rattle.nl_decl_outline.specs.declared.declaration.Owner.TheVariants as owner
use Rattle.nl_decl_outline.specs.declared.declaration.Declaration.{Declaration}
use Rattle.nl_decl_outline.specs.declared.declaration.Declaration.TheVariants as declaration
use Rattle.nl_decl_outline.specs.Declarations.{AreDeclarations}
use Rattle.nl_decl.specs.declared.claims.Claim.{Claim}
use Rattle.nl_decl.specs.declared.claims.Claim.TheVariants as claim
use Rattle.nl_decl.specs.Claims.{may_share, claims, breed_with, is_of_links, widget_claim, duplicate_in}
use Rattle.nl_decl.specs.Gathered.{owned_in, breeds_from, Gathers}
use Rattle.nl_decl.specs.Accepted.{NoneIsTwiceWhereAccepted}
use Rattle.nl_decl.proofs.Often.{tick, often, often_distinct, often_apart, joined_first, joined_second}
use Rattle.nl_decl.proofs.Clashes.{same_claim, claimed, widgets_claimed, no_widgets}
use Rattle.nl_decl.proofs.Linked.{when, agrees, is_there, sorts_in, own_claim, own_claimed, globals_claimed, turtles_claimed, patches_claimed, links_claimed, widgets_unclaimed, input_often, input_claimed}
use Rattle.nl_decl.proofs.MadeWords.{names_of, terms_often, words_claimed}
use Rattle.nl_decl.proofs.Once.{built_in, own_is_no_widget}
use Rattle.nl_decl.proofs.Untaken.{none_taken}

-- a name that has a row stands among the names of the rows
base_step : (r : Row) (rs : List Row) (n : List ℕ) (b : Bool) → bytes_eq r.name n ≡ b → (is_some (row_named rs n) ≡ true → 0 < often n (map (λ (x : Row). x.name) rs)) → is_some (if b then Some r else row_named rs n) ≡ true → 0 < tick b + often n (map (λ (x : Row). x.name) rs)
base_step r rs n true same later h = omega arith
base_step r rs n false same later h = omega (arith, later h)

base_stands : (n : List ℕ) (rs : List Row) → is_some (row_named rs n) ≡ true → 0 < often n (map (λ (r : Row). r.name) rs)
base_stands n [] h = cc
base_stands n (r ∷ rs) h = base_step r rs n (bytes_eq r.name n) refl (base_stands n rs) h

-- where one number leaves none of another, neither does the other of it
turned : (x y : ℕ) → (0 < x → y ≡ 0) → 0 < y → x ≡ 0
turned x y h some = elim (cases_lt 0 x) [ inl more ↦ let none = h more in absurd (omega (arith, none, some)) | inr none ↦ omega (arith, none) ]

-- which of a model's rows a declaration has a part in
data Part : Type 0 where
  OfWords : Part
  OfGlobals : Part
  OfOwned : Part
  OfInputs : Part

abbrev same_part : Part → Part → Bool
same_part OfWords OfWords = true
same_part OfGlobals OfGlobals = true
same_part OfOwned OfOwned = true
same_part OfInputs OfInputs = true
same_part p q = false

abbrev part_of : Claim → Part
part_of claim.Word = OfWords
part_of claim.Widget = OfGlobals
part_of claim.Global = OfGlobals
part_of claim.Turtles = OfOwned
part_of claim.Patches = OfOwned
part_of claim.Links = OfOwned
part_of (claim.TurtleBreed j) = OfOwned
part_of (claim.LinkBreed j) = OfOwned
part_of (claim.Input i) = OfInputs

module _ (d : Declared) where
  -- the variables of all agents of a breed's kind
  abbrev of_kind : Bool → List (List ℕ)
  of_kind link = if link then d.links_own else d.turtles_own

  -- so often a breed of this kind, among these, declares a name
  record OwnsOnce (bs : List Breed) (link : Bool) (n : List ℕ) (x : ℕ) : Type 0 where
    once : x ≤ 1
    kind : 0 < x → often n (of_kind link) ≡ 0
    patches : 0 < x → often n d.patches_own ≡ 0
    named : 0 < x → 0 < often n (breed_names bs)

  agrees-is : (a b : Bool) → agrees a b ≡ true → b ≡ a
  agrees-is true b h = h
  agrees-is false true h = cc
  agrees-is false false h = refl

  one_breed : (b : Breed) (bs : List Breed) (link : Bool) (n : List ℕ) → own_once d b ≡ true → b.link ≡ link → OwnsOnce (b ∷ bs) link n (often n b.own)
  one_breed b bs link n fit is =
      let first = are_distinct b.own in
      let second = are_apart b.own (of_kind b.link) in
      let third = are_apart b.own d.patches_own in
      record {
        once = often_distinct b.own (first_so first second (first_so (first && second) third fit)) n;
        kind = λ some. ap (λ l. often n (of_kind l)) (sym is) ∙ often_apart b.own (of_kind b.link) (second_so first second (first_so (first && second) third fit)) n some;
        patches = often_apart b.own d.patches_own (second_so (first && second) third fit) n;
        named = λ some. omega (arith, joined_first n b.own (breed_names bs), some);
      }

  later_breed : (b : Breed) (bs : List Breed) (link : Bool) (n : List ℕ) (x : ℕ) → OwnsOnce bs link n x → OwnsOnce (b ∷ bs) link n x
  later_breed b bs link n x h = record { once = h.once; kind = h.kind; patches = h.patches; named = λ some. joined_second n b.own (breed_names bs) (h.named some) }

  breed_fits : (all es : List Declaration) (m i j : ℕ) (link : Bool) (n : List ℕ) → i ≡ m + j → is_there link (slice_get (sorts_in es) j) ≡ true → list_all (own_once d) (breeds_from m all es) ≡ true → OwnsOnce (breeds_from m all es) link n (often n (owned_in (owner.BreedAt i) all))
  breed_fits all [] m i j link n at there fit = let none = slice_get_past (sorts_in []) j (omega arith) in let it : false ≡ true = ap (is_there link) (sym none) ∙ there in cc
  breed_fits all (declaration.Breed s plural singular ∷ es) m i zero link n at there fit =
      let here : m ≡ i = omega (arith, at) in
      let bs = breeds_from (m + 1) all es in
      let b = breed_with s plural singular (owned_in (owner.BreedAt m) all) in
      subst (λ k. OwnsOnce (b ∷ bs) link n (often n (owned_in (owner.BreedAt k) all))) here (one_breed b bs link n (first_so (own_once d b) (list_all (own_once d) bs) fit) (agrees-is link (is_of_links s) there))
  breed_fits all (declaration.Breed s plural singular ∷ es) m i (suc j) link n at there fit =
      let bs = breeds_from (m + 1) all es in
      let b = breed_with s plural singular (owned_in (owner.BreedAt m) all) in
      later_breed b bs link n (often n (owned_in (owner.BreedAt i) all)) (breed_fits all es (m + 1) i j link n (omega (arith, at)) there (second_so (own_once d b) (list_all (own_once d) bs) fit))
  breed_fits all (declaration.Globals names ∷ es) m i j link n at there fit = breed_fits all es m i j link n at there fit
  breed_fits all (declaration.Own o names ∷ es) m i j link n at there fit = breed_fits all es m i j link n at there fit
  breed_fits all (declaration.Procedure r name inputs tokens ∷ es) m i j link n at there fit = breed_fits all es m i j link n at there fit

  -- so often a procedure declares an input, which is no word
  abbrev IsInputOnce : List ℕ → ℕ → Type 0
  IsInputOnce n x = (x ≤ 1) × (0 < x → often n (names_of (terms d)) ≡ 0)

  no_later_input : (i : ℕ) (n : List ℕ) (k : ℕ) (ps : List Procedure) → i < k → input_often i n k ps ≡ 0
  no_later_input i n k [] h = refl
  no_later_input i n k (p ∷ ps) h =
      let other : (i == k) ≡ false = ne_eqb i k (λ same. omega (arith, h, same)) in
      omega (arith, ap (λ b. when b (often n p.inputs)) other, no_later_input i n (k + 1) ps (omega (arith, h)))

  input_step : (i k : ℕ) (n : List ℕ) (b : Bool) (p : Procedure) (ps : List Procedure) → (i == k) ≡ b → inputs_fit (terms d) p.inputs ≡ true → IsInputOnce n (input_often i n (k + 1) ps) → IsInputOnce n (when b (often n p.inputs) + input_often i n (k + 1) ps)
  input_step i k n true p ps same fit later =
      let none = no_later_input i n (k + 1) ps (omega (arith, eqb-true i k same)) in
      let differ = are_distinct p.inputs in
      let apart = are_apart p.inputs (names_of (terms d)) in (
        omega (arith, none, often_distinct p.inputs (first_so differ apart fit) n),
        λ some. often_apart p.inputs (names_of (terms d)) (second_so differ apart fit) n (omega (arith, none, some)),
      )
  input_step i k n false p ps other fit later = (omega (arith, later.0), λ some. later.1 (omega (arith, some)))

  inputs_once : (i : ℕ) (n : List ℕ) (k : ℕ) (ps : List Procedure) → list_all (λ (p : Procedure). inputs_fit (terms d) p.inputs) ps ≡ true → IsInputOnce n (input_often i n k ps)
  inputs_once i n k [] fit = (omega arith, λ some. absurd (omega (arith, some)))
  inputs_once i n k (p ∷ ps) fit =
      let rest = list_all (λ (q : Procedure). inputs_fit (terms d) q.inputs) ps in
      input_step i k n (i == k) p ps refl (first_so (inputs_fit (terms d) p.inputs) rest fit) (inputs_once i n (k + 1) ps (second_so (inputs_fit (terms d) p.inputs) rest fit))

  abbrev words : List ℕ → ℕ
  words n = often n (names_of (breed_terms 1 d.breeds)) + often n (names_of (counted procedure_term 0 d.procedures))

  -- the name stands in a part of the rows; an input stands in none
  abbrev Stands : Part → List ℕ → Type 0
  Stands OfWords n = 0 < words n
  Stands OfGlobals n = 0 < often n (global_names d)
  Stands OfOwned n = 0 < often n (owned_names d)
  Stands OfInputs n = often n (names_of (terms d)) ≡ 0

  -- What the test of a model's names says.
  record IsFree : Type 0 where
    rows_once : (n : List ℕ) → often n (names_of (terms d)) ≤ 1
    globals : (n : List ℕ) → often n d.globals ≤ 1
    turtles : (n : List ℕ) → often n d.turtles_own ≤ 1
    patches : (n : List ℕ) → often n d.patches_own ≤ 1
    links : (n : List ℕ) → often n d.links_own ≤ 1
    no_turtles : (n : List ℕ) → 0 < often n d.patches_own → often n d.turtles_own ≡ 0
    no_links : (n : List ℕ) → 0 < often n d.patches_own → often n d.links_own ≡ 0
    breeds : list_all (own_once d) d.breeds ≡ true
    inputs : list_all (λ (p : Procedure). inputs_fit (terms d) p.inputs) d.procedures ≡ true

  is_free : has_no_duplicate d ≡ true → IsFree
  is_free fit =
      let names = are_distinct (names_of (terms d)) in
      let globals = are_distinct d.globals in
      let inputs = list_all (λ (p : Procedure). inputs_fit (terms d) p.inputs) d.procedures in
      let three = first_so (names && globals && owners_fit d) inputs fit in
      let two = first_so (names && globals) (owners_fit d) three in
      let owners = second_so (names && globals) (owners_fit d) three in
      let t = are_distinct d.turtles_own in
      let p = are_distinct d.patches_own in
      let l = are_distinct d.links_own in
      let pt = are_apart d.patches_own d.turtles_own in
      let pl = are_apart d.patches_own d.links_own in
      let five = first_so (t && p && l && pt && pl) (list_all (own_once d) d.breeds) owners in
      let four = first_so (t && p && l && pt) pl five in
      let own = first_so (t && p && l) pt four in
      record {
        rows_once = often_distinct (names_of (terms d)) (first_so names globals two);
        globals = often_distinct d.globals (second_so names globals two);
        turtles = often_distinct d.turtles_own (first_so t p (first_so (t && p) l own));
        patches = often_distinct d.patches_own (second_so t p (first_so (t && p) l own));
        links = often_distinct d.links_own (second_so (t && p) l own);
        no_turtles = often_apart d.patches_own d.turtles_own (second_so (t && p && l) pt four);
        no_links = often_apart d.patches_own d.links_own (second_so (t && p && l && pt) pl five);
        breeds = second_so (t && p && l && pt && pl) (list_all (own_once d) d.breeds) owners;
        inputs = second_so (names && globals && owners_fit d) inputs fit;
      }

module _ (ls : List Lexeme) (ds : List Declaration) (d : Declared) (spelt : AreDeclarations ls ds) (g : Gathers d.widgets ds d) (free : IsFree d) where
  -- how often a name is declared in each way, by widgets and declarations
  abbrev total : Claim → List ℕ → ℕ
  total c n = claimed c n (map widget_claim d.widgets) + claimed c n (claims ds)

  word_total : (n : List ℕ) → total claim.Word n ≡ words d n
  word_total n = omega (arith, no_widgets claim.Word n d.widgets refl, ap (λ (bs : List Breed). often n (names_of (breed_terms 1 bs))) g.5, ap (λ (ps : List Procedure). often n (names_of (counted procedure_term 0 ps))) g.6, words_claimed n ds 1 0 0 [] 0 0 ds)

  widget_total : (n : List ℕ) → total claim.Widget n ≡ often n d.widgets
  widget_total n = omega (arith, widgets_claimed n d.widgets, widgets_unclaimed ds ls n spelt)

  global_total : (n : List ℕ) → total claim.Global n ≡ often n d.globals
  global_total n = omega (arith, no_widgets claim.Global n d.widgets refl, ap (often n) g.1, globals_claimed n [] 0 0 ds)

  turtles_total : (n : List ℕ) → total claim.Turtles n ≡ often n d.turtles_own
  turtles_total n = omega (arith, no_widgets claim.Turtles n d.widgets refl, ap (often n) g.2, turtles_claimed ds ls n spelt)

  patches_total : (n : List ℕ) → total claim.Patches n ≡ often n d.patches_own
  patches_total n = omega (arith, no_widgets claim.Patches n d.widgets refl, ap (often n) g.3, patches_claimed ds ls n spelt)

  links_total : (n : List ℕ) → total claim.Links n ≡ often n d.links_own
  links_total n = omega (arith, no_widgets claim.Links n d.widgets refl, ap (often n) g.4, links_claimed ds ls n spelt)

  input_total : (i : ℕ) (n : List ℕ) → total (claim.Input i) n ≡ input_often i n 0 d.procedures
  input_total i n = omega (arith, no_widgets (claim.Input i) n d.widgets refl, ap (input_often i n 0) g.6, input_claimed i n [] 0 0 ds)

  own_step : (link : Bool) (j : ℕ) (n : List ℕ) (b : Bool) → is_there link (slice_get (sorts_in ds) j) ≡ b → OwnsOnce d d.breeds link n (when b (often n (owned_in (owner.BreedAt j) ds)))
  own_step link j n true there =
      subst (λ bs. OwnsOnce d bs link n (often n (owned_in (owner.BreedAt j) ds))) (sym g.5)
      (breed_fits d ds ds 0 j j link n (omega arith) there (subst (λ bs. list_all (own_once d) bs ≡ true) g.5 free.breeds))
  own_step link j n false there = record { once = omega arith; kind = λ some. absurd (omega (arith, some)); patches = λ some. absurd (omega (arith, some)); named = λ some. absurd (omega (arith, some)) }

  owns_once : (link : Bool) (j : ℕ) (n : List ℕ) → OwnsOnce d d.breeds link n (total (own_claim link j) n)
  owns_once link j n =
      let there = is_there link (slice_get (sorts_in ds) j) in
      let same : when there (often n (owned_in (owner.BreedAt j) ds)) ≡ total (own_claim link j) n = omega (arith, no_widgets (own_claim link j) n d.widgets (own_is_no_widget link j), own_claimed ds ls link j n spelt) in
      subst (OwnsOnce d d.breeds link n) same (own_step link j n there refl)

  input_once : (i : ℕ) (n : List ℕ) → IsInputOnce d n (total (claim.Input i) n)
  input_once i n = subst (IsInputOnce d n) (sym (input_total i n)) (inputs_once d i n 0 d.procedures free.inputs)

  -- no name is declared twice in one way
  once : (e : Claim) (n : List ℕ) → same_claim claim.Widget e ≡ false → total e n ≤ 1
  once claim.Word n widget = omega (arith, word_total n, terms_often d n, free.rows_once n)
  once claim.Widget n widget = cc
  once claim.Global n widget = omega (arith, global_total n, free.globals n)
  once claim.Turtles n widget = omega (arith, turtles_total n, free.turtles n)
  once claim.Patches n widget = omega (arith, patches_total n, free.patches n)
  once claim.Links n widget = omega (arith, links_total n, free.links n)
  once (claim.TurtleBreed j) n widget = (owns_once false j n).once
  once (claim.LinkBreed j) n widget = (owns_once true j n).once
  once (claim.Input i) n widget = (input_once i n).0

  -- a name that is declared stands in its part of the rows
  abbrev beside_turtles : List (List ℕ)
  beside_turtles = joined d.patches_own (joined d.links_own (breed_names d.breeds))

  breed_stands : (n : List ℕ) → 0 < often n (breed_names d.breeds) → 0 < often n (owned_names d)
  breed_stands n some = joined_second n d.turtles_own beside_turtles (joined_second n d.patches_own (joined d.links_own (breed_names d.breeds)) (joined_second n d.links_own (breed_names d.breeds) some))

  stands : (c : Claim) (n : List ℕ) → 0 < total c n → Stands d (part_of c) n
  stands claim.Word n some = omega (arith, word_total n, some)
  stands claim.Widget n some = omega (arith, widget_total n, joined_first n d.widgets d.globals, some)
  stands claim.Global n some = joined_second n d.widgets d.globals (omega (arith, global_total n, some))
  stands claim.Turtles n some = omega (arith, turtles_total n, joined_first n d.turtles_own beside_turtles, some)
  stands claim.Patches n some = joined_second n d.turtles_own beside_turtles (omega (arith, patches_total n, joined_first n d.patches_own (joined d.links_own (breed_names d.breeds)), some))
  stands claim.Links n some =
      joined_second n d.turtles_own beside_turtles (joined_second n d.patches_own (joined d.links_own (breed_names d.breeds))
      (omega (arith, links_total n, joined_first n d.links_own (breed_names d.breeds), some)))
  stands (claim.TurtleBreed j) n some = breed_stands n ((owns_once false j n).named some)
  stands (claim.LinkBreed j) n some = breed_stands n ((owns_once true j n).named some)
  stands (claim.Input i) n some = (input_once i n).1 some

  -- and in no other part
  two_parts : (p q : Part) (n : List ℕ) → same_part p q ≡ false → Stands d p n → Stands d q n → ⊥
  two_parts OfWords OfWords n other a b = cc
  two_parts OfGlobals OfGlobals n other a b = cc
  two_parts OfOwned OfOwned n other a b = cc
  two_parts OfInputs OfInputs n other a b = cc
  two_parts p q n other a b = omega (arith, terms_often d n, free.rows_once n, a, b)

  -- nor is it a built-in word
  no_base : (p : Part) (n : List ℕ) → Stands d p n → 0 < often n built_in → ⊥
  no_base OfInputs n a base = omega (arith, terms_often d n, a, base)
  no_base p n a base = omega (arith, terms_often d n, free.rows_once n, a, base)

  foreign_step : (e : Claim) (n : List ℕ) (b : Bool) → is_some (row_named rows n) ≡ b → 0 < total e n → b ≡ false
  foreign_step e n true base some = absurd (no_base (part_of e) n (stands e n some) (base_stands n rows base))
  foreign_step e n false base some = refl

  -- two owners that may not share a variable, and two inputs of one procedure
  twice_not : (b : Bool) → b ≡ false → not b ≡ false → ⊥
  twice_not true h k = cc
  twice_not false h k = cc

  no_turtles : (n : List ℕ) → 0 < total claim.Patches n → total claim.Turtles n ≡ 0
  no_turtles n some = omega (arith, turtles_total n, free.no_turtles n (omega (arith, patches_total n, some)))

  no_links : (n : List ℕ) → 0 < total claim.Patches n → total claim.Links n ≡ 0
  no_links n some = omega (arith, links_total n, free.no_links n (omega (arith, patches_total n, some)))

  no_patches : (link : Bool) (j : ℕ) (n : List ℕ) → 0 < total (own_claim link j) n → total claim.Patches n ≡ 0
  no_patches link j n some = omega (arith, patches_total n, (owns_once link j n).patches some)

  no_all_turtles : (j : ℕ) (n : List ℕ) → 0 < total (claim.TurtleBreed j) n → total claim.Turtles n ≡ 0
  no_all_turtles j n some = omega (arith, turtles_total n, (owns_once false j n).kind some)

  no_all_links : (j : ℕ) (n : List ℕ) → 0 < total (claim.LinkBreed j) n → total claim.Links n ≡ 0
  no_all_links j n some = omega (arith, links_total n, (owns_once true j n).kind some)

  within : (c e : Claim) (n : List ℕ) → same_part (part_of c) (part_of e) ≡ true → same_claim claim.Widget e ≡ false → same_claim c e ≡ false → may_share c e ≡ false → 0 < total e n → total c n ≡ 0
  within claim.Turtles claim.Patches n part widget other share some = no_turtles n some
  within claim.Links claim.Patches n part widget other share some = no_links n some
  within claim.Patches claim.Turtles n part widget other share some = turned (total claim.Patches n) (total claim.Turtles n) (no_turtles n) some
  within claim.Patches claim.Links n part widget other share some = turned (total claim.Patches n) (total claim.Links n) (no_links n) some
  within claim.Patches (claim.TurtleBreed j) n part widget other share some = no_patches false j n some
  within claim.Patches (claim.LinkBreed j) n part widget other share some = no_patches true j n some
  within (claim.TurtleBreed j) claim.Patches n part widget other share some = turned (total (claim.TurtleBreed j) n) (total claim.Patches n) (no_patches false j n) some
  within (claim.LinkBreed j) claim.Patches n part widget other share some = turned (total (claim.LinkBreed j) n) (total claim.Patches n) (no_patches true j n) some
  within claim.Turtles (claim.TurtleBreed j) n part widget other share some = no_all_turtles j n some
  within (claim.TurtleBreed j) claim.Turtles n part widget other share some = turned (total (claim.TurtleBreed j) n) (total claim.Turtles n) (no_all_turtles j n) some
  within claim.Links (claim.LinkBreed j) n part widget other share some = no_all_links j n some
  within (claim.LinkBreed j) claim.Links n part widget other share some = turned (total (claim.LinkBreed j) n) (total claim.Links n) (no_all_links j n) some
  within (claim.TurtleBreed i) (claim.TurtleBreed j) n part widget other share some = absurd (twice_not (i == j) other share)
  within (claim.LinkBreed i) (claim.LinkBreed j) n part widget other share some = absurd (twice_not (i == j) other share)
  within (claim.Input i) (claim.Input j) n part widget other share some = absurd (twice_not (i == j) other share)
  within claim.Word claim.Word n part widget other share some = cc
  within claim.Widget claim.Widget n part widget other share some = cc
  within claim.Global claim.Global n part widget other share some = cc
  within c e n part widget other share some = cc

  apart_step : (c e : Claim) (n : List ℕ) (b : Bool) → same_part (part_of c) (part_of e) ≡ b → same_claim claim.Widget e ≡ false → same_claim c e ≡ false → may_share c e ≡ false → 0 < total e n → total c n ≡ 0
  apart_step c e n true part widget other share some = within c e n part widget other share some
  apart_step c e n false part widget other share some = elim (cases_lt 0 (total c n)) [
    | inl more ↦ absurd (two_parts (part_of c) (part_of e) n part (stands c n more) (stands e n some))
    | inr none ↦ omega (arith, none)
  ]

  free_claims : duplicate_in d.widgets ds ≡ None
  free_claims =
      none_taken total once (λ c e n. apart_step c e n (same_part (part_of c) (part_of e)) refl) (λ e n some. foreign_step e n (is_some (row_named rows n)) refl some)
      (map widget_claim d.widgets) (claims ds) (λ c n. omega arith) (λ n. widgets_unclaimed ds ls n spelt)

pub none_twice : NoneIsTwiceWhereAccepted
none_twice ls ds widgets d spelt g fit =
    let own : Gathers d.widgets ds d = (refl, g.1, g.2, g.3, g.4, g.5, g.6) in
    subst (λ ws. duplicate_in ws ds ≡ None) g.0 (free_claims ls ds d spelt own (is_free d fit))
