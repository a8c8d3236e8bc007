-- Where no name is declared twice, how often a name is declared in each way.
use Rattle.std.proofs.Common.{◌≡◌, ℕ, ◌+◌, ◌<◌, ◌≤◌, Bool, true, false, not, ◌&&◌, List, [], ◌∷◌, map, Some, None, bytes_eq, ap, refl, arith, if◌then◌else◌, is_some, inl, inr}
use Rattle.std.specs.Cmp.{first_so, second_so}
use Rattle.std.specs.List.{list_all}
use Rattle.std.proofs.lemmas.Bool.{eq-eqb, cases_lt}
use Rattle.nl_words.specs.Row.{Row, row_named}
use Rattle.nl_words.specs.Rows.{rows}
use Rattle.nl_words.specs.Table.{is_name}
use Rattle.nl_tree.specs.Names.{are_distinct, are_apart, AreWidgets}
use Rattle.nl_decl_outline.specs.declared.declaration.Declaration.{Declaration}
use Rattle.nl_decl.specs.declared.claims.Claim.{Claim}
use Rattle.nl_decl.specs.declared.claims.Claim.TheVariants as claim
use Rattle.nl_decl.specs.Claims.{may_share, claims, widget_claim, duplicate_in}
use Rattle.nl_decl.proofs.Often.{tick, often, often_distinct, often_apart}
use Rattle.nl_decl.proofs.Clashes.{same_claim, claimed, once_in, aside_in, foreign_in, widgets_claimed, no_widgets}
use Rattle.nl_decl.proofs.Linked.{own_claim}

abbrev pub built_in : List (List ℕ)
built_in = map (λ (r : Row). r.name) rows

-- the built-in words differ
built_in_differ : are_distinct built_in ≡ true
unfolding rows
built_in_differ = refl

pub built_in_once : (n : List ℕ) → often n built_in ≤ 1
built_in_once n = often_distinct built_in built_in_differ n

row_step : (r : Row) (rs : List Row) (n : List ℕ) (b : Bool) → bytes_eq r.name n ≡ b → (0 < often n (map (λ (x : Row). x.name) rs) → is_some (row_named rs n) ≡ true) → 0 < tick b + often n (map (λ (x : Row). x.name) rs) → is_some (if b then Some r else row_named rs n) ≡ true
row_step r rs n true same later some = refl
row_step r rs n false same later some = later (omega (arith, some))

-- a name that stands among theirs has a row
has_row : (n : List ℕ) (rs : List Row) → 0 < often n (map (λ (x : Row). x.name) rs) → is_some (row_named rs n) ≡ true
has_row n [] some = absurd (omega (arith, some))
has_row n (r ∷ rs) some = row_step r rs n (bytes_eq r.name n) refl (has_row n rs) some

-- two ways to declare a name that may not stand beside each other
abbrev pub Beside : Claim → Claim → Type 0
Beside c e = (same_claim e c ≡ false) × (may_share c e ≡ false) × (may_share e c ≡ false)

module _ (widgets : List (List ℕ)) (ds : List Declaration) (free : duplicate_in widgets ds ≡ None) where
  pub once : (c : Claim) → same_claim c claim.Widget ≡ false → may_share c c ≡ false → (n : List ℕ) → claimed c n (claims ds) ≤ 1
  once c other apart n =
      let none = no_widgets c n widgets other in
      omega (arith, once_in c n (map widget_claim widgets) (claims ds) apart free (omega (arith, none)), none)

  pub aside : (c e : Claim) → same_claim c claim.Widget ≡ false → Beside c e → (n : List ℕ) → 0 < claimed c n (claims ds) → claimed e n (claims ds) ≡ 0
  aside c e other apart n some =
      let none = no_widgets c n widgets other in
      omega (arith, aside_in c e n (map widget_claim widgets) (claims ds) apart.0 apart.1 apart.2 free (λ more. absurd (omega (arith, more, none))) (omega (arith, some)))

  pub aside_widget : (e : Claim) → same_claim e claim.Widget ≡ false → Beside claim.Widget e → (n : List ℕ) → 0 < often n widgets → claimed e n (claims ds) ≡ 0
  aside_widget e other apart n some =
      let none = no_widgets e n widgets other in
      omega (arith, aside_in claim.Widget e n (map widget_claim widgets) (claims ds) apart.0 apart.1 apart.2 free (λ more. none) (omega (arith, widgets_claimed n widgets, some)))

  pub foreign : (c : Claim) (n : List ℕ) → 0 < often n built_in → claimed c n (claims ds) ≡ 0
  foreign c n some = foreign_in c n (map widget_claim widgets) (claims ds) free (has_row n rows some)

  -- and the other way round
  pub no_widget : (e : Claim) → same_claim e claim.Widget ≡ false → Beside claim.Widget e → (n : List ℕ) → 0 < claimed e n (claims ds) → often n widgets ≡ 0
  no_widget e other apart n some = elim (cases_lt 0 (often n widgets)) [
    | inl more ↦ let none = aside_widget e other apart n more in absurd (omega (arith, some, none))
    | inr none ↦ omega (arith, none)
  ]

  pub not_built_in : (e : Claim) (n : List ℕ) → 0 < claimed e n (claims ds) → often n built_in ≡ 0
  not_built_in e n some = elim (cases_lt 0 (often n built_in)) [
    | inl more ↦ let none = foreign e n more in absurd (omega (arith, some, none))
    | inr none ↦ omega (arith, none)
  ]

-- what widgets are: each name once, and no built-in word
pub widget_once : (widgets : List (List ℕ)) → AreWidgets widgets → (n : List ℕ) → often n widgets ≤ 1
widget_once widgets fit n =
    often_distinct widgets (first_so (are_distinct widgets) (are_apart widgets built_in) (first_so (are_distinct widgets && are_apart widgets built_in) (list_all is_name widgets) fit.0)) n

pub widget_apart : (widgets : List (List ℕ)) → AreWidgets widgets → (n : List ℕ) → 0 < often n widgets → often n built_in ≡ 0
widget_apart widgets fit n some =
    often_apart widgets built_in (second_so (are_distinct widgets) (are_apart widgets built_in) (first_so (are_distinct widgets && are_apart widgets built_in) (list_all is_name widgets) fit.0)) n some

-- variables of a breed
pub own_is_no_widget : (link : Bool) (j : ℕ) → same_claim (own_claim link j) claim.Widget ≡ false
own_is_no_widget true j = refl
own_is_no_widget false j = refl

pub own_not_twice : (link : Bool) (j : ℕ) → may_share (own_claim link j) (own_claim link j) ≡ false
own_not_twice true j = ap not (eq-eqb j j refl)
own_not_twice false j = ap not (eq-eqb j j refl)

pub own_beside_word : (link : Bool) (j : ℕ) → Beside claim.Word (own_claim link j)
own_beside_word true j = (refl, refl, refl)
own_beside_word false j = (refl, refl, refl)

pub own_beside_widget : (link : Bool) (j : ℕ) → Beside claim.Widget (own_claim link j)
own_beside_widget true j = (refl, refl, refl)
own_beside_widget false j = (refl, refl, refl)

pub own_beside_global : (link : Bool) (j : ℕ) → Beside claim.Global (own_claim link j)
own_beside_global true j = (refl, refl, refl)
own_beside_global false j = (refl, refl, refl)

pub own_beside_input : (i : ℕ) (link : Bool) (j : ℕ) → Beside (claim.Input i) (own_claim link j)
own_beside_input i true j = (refl, refl, refl)
own_beside_input i false j = (refl, refl, refl)

-- the variables of all agents of the breed's kind, and of patches
abbrev pub kind_claim : Bool → Claim
kind_claim link = if link then claim.Links else claim.Turtles

pub own_beside_kind : (link : Bool) (j : ℕ) → Beside (own_claim link j) (kind_claim link)
own_beside_kind true j = (refl, refl, refl)
own_beside_kind false j = (refl, refl, refl)

pub own_beside_patches : (link : Bool) (j : ℕ) → Beside (own_claim link j) claim.Patches
own_beside_patches true j = (refl, refl, refl)
own_beside_patches false j = (refl, refl, refl)
