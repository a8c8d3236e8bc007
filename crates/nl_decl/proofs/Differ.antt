-- Where no name is declared twice, the declarations in all meet the test of a model's names.
use Rattle.std.proofs.Common.{◌≡◌, ℕ, ◌+◌, ◌<◌, ◌≤◌, Bool, true, false, not, List, [], ◌∷◌, None, ap, refl, arith, if◌then◌else◌, inl, inr}
use Rattle.std.specs.List.{list_all}
use Rattle.std.specs.Cmp.Derive.{both_true}
use Rattle.std.proofs.lemmas.Bool.{eq-eqb, cases_lt}
use Rattle.nl_tree.specs.declared.declared.Breed.{Breed}
use Rattle.nl_tree.specs.declared.declared.Procedure.{Procedure}
use Rattle.nl_tree.specs.declared.declared.Declared.{Declared}
use Rattle.nl_tree.specs.Vocabulary.{breed_names, breed_terms, counted, owned_names, procedure_term, terms}
use Rattle.nl_tree.specs.Names.{own_once, owners_fit, inputs_fit, has_no_duplicate, AreWidgets}
use Rattle.nl_decl_outline.specs.declared.declaration.Declaration.{Declaration}
use Rattle.nl_decl.specs.declared.claims.Claim.{Claim}
use Rattle.nl_decl.specs.declared.claims.Claim.TheVariants as claim
use Rattle.nl_decl.specs.declared.claims.Claimed.{Claimed}
use Rattle.nl_decl.specs.Claims.{claims, duplicate_in}
use Rattle.nl_decl.proofs.Often.{often, distinct_by_often, apart_by_often, joined_once, joined_none}
use Rattle.nl_decl.proofs.Clashes.{claimed}
use Rattle.nl_decl.proofs.Linked.{own_claim, EachBreed, EachProcedure}
use Rattle.nl_decl.proofs.MadeWords.{names_of, terms_often}
use Rattle.nl_decl.proofs.Once.{built_in, built_in_once, Beside, once, aside, aside_widget, foreign, no_widget, not_built_in, widget_once, widget_apart, own_is_no_widget, own_not_twice, own_beside_word, own_beside_widget, own_beside_global, own_beside_input, kind_claim, own_beside_kind, own_beside_patches}

-- all that is declared is among these claims
pub record IsClaimed (d : Declared) (cs : List Claimed) : Type 0 where
  pub globals : (n : List ℕ) → often n d.globals ≤ claimed claim.Global n cs
  pub turtles : (n : List ℕ) → often n d.turtles_own ≤ claimed claim.Turtles n cs
  pub patches : (n : List ℕ) → often n d.patches_own ≤ claimed claim.Patches n cs
  pub links : (n : List ℕ) → often n d.links_own ≤ claimed claim.Links n cs
  pub breeds : EachBreed cs d.breeds
  pub procedures : EachProcedure cs d.procedures
  pub words : (n : List ℕ) → often n (names_of (breed_terms 1 d.breeds)) + often n (names_of (counted procedure_term 0 d.procedures)) ≤ claimed claim.Word n cs

module _ (d : Declared) (ds : List Declaration) (all : IsClaimed d (claims ds)) (fit : AreWidgets d.widgets) (free : duplicate_in d.widgets ds ≡ None) where
  -- no agents own a variable of this name
  record NoneOwned (n : List ℕ) : Type 0 where
    pub turtles : claimed claim.Turtles n (claims ds) ≡ 0
    pub patches : claimed claim.Patches n (claims ds) ≡ 0
    pub links : claimed claim.Links n (claims ds) ≡ 0
    pub breeds : (link : Bool) (j : ℕ) → claimed (own_claim link j) n (claims ds) ≡ 0

  breeds_none : (n : List ℕ) → ((link : Bool) (j : ℕ) → claimed (own_claim link j) n (claims ds) ≡ 0) → (bs : List Breed) → EachBreed (claims ds) bs → often n (breed_names bs) ≡ 0
  breeds_none n none [] each = refl
  breeds_none n none (b ∷ bs) each = joined_none n b.own (breed_names bs) (omega (arith, (each.0).1 n, none b.link (each.0).0)) (breeds_none n none bs each.1)

  owned_none : (n : List ℕ) → NoneOwned n → often n (owned_names d) ≡ 0
  owned_none n none =
      joined_none n d.turtles_own _ (omega (arith, all.turtles n, none.turtles))
      (joined_none n d.patches_own _ (omega (arith, all.patches n, none.patches))
      (joined_none n d.links_own (breed_names d.breeds) (omega (arith, all.links n, none.links)) (breeds_none n none.breeds d.breeds all.breeds)))

  own_most_once : (link : Bool) (j : ℕ) (n : List ℕ) → claimed (own_claim link j) n (claims ds) ≤ 1
  own_most_once link j = once d.widgets ds free (own_claim link j) (own_is_no_widget link j) (own_not_twice link j)

  breeds_once : (n : List ℕ) (bs : List Breed) → EachBreed (claims ds) bs → often n (breed_names bs) ≤ 1
  breeds_once n [] each = omega arith
  breeds_once n (b ∷ bs) each = joined_once n b.own (breed_names bs) (omega (arith, (each.0).1 n, own_most_once b.link (each.0).0 n)) (breeds_once n bs each.1)

  turtles_once : (n : List ℕ) → often n d.turtles_own ≤ 1
  turtles_once n = omega (arith, all.turtles n, once d.widgets ds free claim.Turtles refl refl n)

  patches_once : (n : List ℕ) → often n d.patches_own ≤ 1
  patches_once n = omega (arith, all.patches n, once d.widgets ds free claim.Patches refl refl n)

  links_once : (n : List ℕ) → often n d.links_own ≤ 1
  links_once n = omega (arith, all.links n, once d.widgets ds free claim.Links refl refl n)

  globals_once : (n : List ℕ) → often n d.globals ≤ 1
  globals_once n = omega (arith, all.globals n, once d.widgets ds free claim.Global refl refl n)

  owned_most_once : (n : List ℕ) → often n (owned_names d) ≤ 1
  owned_most_once n = joined_once n d.turtles_own _ (turtles_once n) (joined_once n d.patches_own _ (patches_once n) (joined_once n d.links_own (breed_names d.breeds) (links_once n) (breeds_once n d.breeds all.breeds)))

  none_beside : (c : Claim) (n : List ℕ) → 0 < claimed c n (claims ds) → ((e : Claim) → Beside c e → claimed e n (claims ds) ≡ 0) → Beside c claim.Turtles → Beside c claim.Patches → Beside c claim.Links → ((link : Bool) (j : ℕ) → Beside c (own_claim link j)) → NoneOwned n
  none_beside c n some apart t p l o = record { turtles = apart claim.Turtles t; patches = apart claim.Patches p; links = apart claim.Links l; breeds = λ link j. apart (own_claim link j) (o link j) }

  beside_word : (n : List ℕ) → 0 < claimed claim.Word n (claims ds) → NoneOwned n
  beside_word n some = none_beside claim.Word n some (λ e b. aside d.widgets ds free claim.Word e refl b n some) (refl, refl, refl) (refl, refl, refl) (refl, refl, refl) own_beside_word

  beside_global : (n : List ℕ) → 0 < claimed claim.Global n (claims ds) → NoneOwned n
  beside_global n some = none_beside claim.Global n some (λ e b. aside d.widgets ds free claim.Global e refl b n some) (refl, refl, refl) (refl, refl, refl) (refl, refl, refl) own_beside_global

  beside_input : (i : ℕ) (n : List ℕ) → 0 < claimed (claim.Input i) n (claims ds) → NoneOwned n
  beside_input i n some = none_beside (claim.Input i) n some (λ e b. aside d.widgets ds free (claim.Input i) e refl b n some) (refl, refl, refl) (refl, refl, refl) (refl, refl, refl) (own_beside_input i)

  beside_widget : (n : List ℕ) → 0 < often n d.widgets → NoneOwned n
  beside_widget n some = record {
    turtles = aside_widget d.widgets ds free claim.Turtles refl (refl, refl, refl) n some;
    patches = aside_widget d.widgets ds free claim.Patches refl (refl, refl, refl) n some;
    links = aside_widget d.widgets ds free claim.Links refl (refl, refl, refl) n some;
    breeds = λ link j. aside_widget d.widgets ds free (own_claim link j) (own_is_no_widget link j) (own_beside_widget link j) n some;
  }

  beside_built_in : (n : List ℕ) → 0 < often n built_in → NoneOwned n
  beside_built_in n some = record { turtles = foreign d.widgets ds free claim.Turtles n some; patches = foreign d.widgets ds free claim.Patches n some; links = foreign d.widgets ds free claim.Links n some; breeds = λ link j. foreign d.widgets ds free (own_claim link j) n some }

  abbrev word_count : List ℕ → ℕ
  word_count n = claimed claim.Word n (claims ds)

  -- a built-in word is no other word
  once_built_in : (n : List ℕ) → 0 < often n built_in → often n (names_of (terms d)) ≤ 1
  once_built_in n some =
      let widget : often n d.widgets ≡ 0 = elim (cases_lt 0 (often n d.widgets)) [ inl more ↦ let none = widget_apart d.widgets fit n more in absurd (omega (arith, some, none)) | inr none ↦ omega (arith, none) ] in
      let global : often n d.globals ≡ 0 = omega (arith, all.globals n, foreign d.widgets ds free claim.Global n some) in
      omega (arith, terms_often d n, built_in_once n, joined_none n d.widgets d.globals widget global, owned_none n (beside_built_in n some), all.words n, foreign d.widgets ds free claim.Word n some)

  -- a word of a breed or a procedure is no variable
  once_word : (n : List ℕ) → 0 < word_count n → often n (names_of (terms d)) ≤ 1
  once_word n some =
      let widget = no_widget d.widgets ds free claim.Word refl (refl, refl, refl) n some in
      let global : often n d.globals ≡ 0 = omega (arith, all.globals n, aside d.widgets ds free claim.Word claim.Global refl (refl, refl, refl) n some) in
      omega (arith, terms_often d n, not_built_in d.widgets ds free claim.Word n some, joined_none n d.widgets d.globals widget global, owned_none n (beside_word n some), all.words n, once d.widgets ds free claim.Word refl refl n)

  -- a global variable is owned by nobody
  once_variable : (n : List ℕ) → often n built_in ≤ 0 → word_count n ≤ 0 → often n (names_of (terms d)) ≤ 1
  once_variable n base word =
      let global = joined_once n d.widgets d.globals (widget_once d.widgets fit n) (globals_once n) in
      elim (cases_lt 0 (often n d.widgets)) [
        | inl some ↦ omega (arith, terms_often d n, base, word, all.words n, global, owned_none n (beside_widget n some))
        | inr none ↦ elim (cases_lt 0 (claimed claim.Global n (claims ds))) [
          | inl some ↦ omega (arith, terms_often d n, base, word, all.words n, global, owned_none n (beside_global n some))
          | inr nowhere ↦
              let no_global = joined_none n d.widgets d.globals (omega (arith, none)) (omega (arith, nowhere, all.globals n)) in
              omega (arith, terms_often d n, base, word, all.words n, no_global, owned_most_once n)
        ]
      ]

  words_once : (n : List ℕ) → often n (names_of (terms d)) ≤ 1
  words_once n = elim (cases_lt 0 (often n built_in)) [
    | inl some ↦ once_built_in n some
    | inr base ↦ elim (cases_lt 0 (word_count n)) [ inl some ↦ once_word n some | inr word ↦ once_variable n base word ]
  ]

  -- an input is no word
  no_word : (i : ℕ) (n : List ℕ) → 0 < claimed (claim.Input i) n (claims ds) → often n (names_of (terms d)) ≡ 0
  no_word i n some =
      let widget = no_widget d.widgets ds free (claim.Input i) refl (refl, refl, refl) n some in
      let global : often n d.globals ≡ 0 = omega (arith, all.globals n, aside d.widgets ds free (claim.Input i) claim.Global refl (refl, refl, refl) n some) in
      omega (arith, terms_often d n, not_built_in d.widgets ds free (claim.Input i) n some, joined_none n d.widgets d.globals widget global, owned_none n (beside_input i n some), all.words n, aside d.widgets ds free (claim.Input i) claim.Word refl (refl, refl, refl) n some)

  inputs_are_fit : (ps : List Procedure) → EachProcedure (claims ds) ps → list_all (λ (p : Procedure). inputs_fit (terms d) p.inputs) ps ≡ true
  inputs_are_fit [] each = refl
  inputs_are_fit (p ∷ ps) each =
      let (i, count) = each.0 in
      both_true
      (both_true
      (distinct_by_often p.inputs (λ n. omega (arith, count n, once d.widgets ds free (claim.Input i) refl (ap not (eq-eqb i i refl)) n)))
      (apart_by_often p.inputs (names_of (terms d)) (λ n some. no_word i n (omega (arith, count n, some)))))
      (inputs_are_fit ps each.1)

  -- the variables of all turtles, or of all links
  kind_often : (link : Bool) (n : List ℕ) → often n (if link then d.links_own else d.turtles_own) ≤ claimed (kind_claim link) n (claims ds)
  kind_often true n = all.links n
  kind_often false n = all.turtles n

  owns_are_fit : (bs : List Breed) → EachBreed (claims ds) bs → list_all (own_once d) bs ≡ true
  owns_are_fit [] each = refl
  owns_are_fit (b ∷ bs) each =
      let (j, count) = each.0 in
      let mine = own_claim b.link j in
      both_true
      (both_true (both_true
      (distinct_by_often b.own (λ n. omega (arith, count n, own_most_once b.link j n)))
      (apart_by_often b.own (if b.link then d.links_own else d.turtles_own) (λ n some.
      omega (arith, kind_often b.link n, aside d.widgets ds free mine (kind_claim b.link) (own_is_no_widget b.link j) (own_beside_kind b.link j) n (omega (arith, count n, some))))))
      (apart_by_often b.own d.patches_own (λ n some.
      omega (arith, all.patches n, aside d.widgets ds free mine claim.Patches (own_is_no_widget b.link j) (own_beside_patches b.link j) n (omega (arith, count n, some))))))
      (owns_are_fit bs each.1)

  owners_are_fit : owners_fit d ≡ true
  owners_are_fit =
      let patches_apart : (e : Claim) → Beside claim.Patches e → (n : List ℕ) → 0 < often n d.patches_own → claimed e n (claims ds) ≡ 0 = λ e b n some. aside d.widgets ds free claim.Patches e refl b n (omega (arith, all.patches n, some)) in
      both_true (both_true (both_true (both_true (both_true
      (distinct_by_often d.turtles_own turtles_once)
      (distinct_by_often d.patches_own patches_once))
      (distinct_by_often d.links_own links_once))
      (apart_by_often d.patches_own d.turtles_own (λ n some. omega (arith, all.turtles n, patches_apart claim.Turtles (refl, refl, refl) n some))))
      (apart_by_often d.patches_own d.links_own (λ n some. omega (arith, all.links n, patches_apart claim.Links (refl, refl, refl) n some))))
      (owns_are_fit d.breeds all.breeds)

  pub no_duplicate : has_no_duplicate d ≡ true
  no_duplicate =
      both_true (both_true (both_true
      (distinct_by_often (names_of (terms d)) words_once)
      (distinct_by_often d.globals globals_once))
      owners_are_fit)
      (inputs_are_fit d.procedures all.procedures)
