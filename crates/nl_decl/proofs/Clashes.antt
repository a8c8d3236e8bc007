-- How often a name is declared in one way, where no declaration clashes with an earlier one.
use Rattle.std.proofs.Common.{◌≡◌, ℕ, ◌+◌, ◌<◌, ◌≤◌, ◌==◌, Bool, true, false, not, ◌||◌, ◌&&◌, List, [], ◌∷◌, ◌++◌, map, Option, Some, None, bytes_eq, sym, ap, subst, refl, arith, if◌then◌else◌, is_some}
use Rattle.std.specs.List.{list_any}
use Rattle.std.specs.Cmp.{first_so, second_so}
use Rattle.std.proofs.lemmas.Bool.{eqb-true}
use Rattle.std.proofs.lemmas.Slice.Eq.{bytes_eq-Decides}
use Rattle.nl_words.specs.Row.{row_named}
use Rattle.nl_words.specs.Rows.{rows}
use Rattle.nl_decl.specs.declared.claims.Claim.{Claim}
use Rattle.nl_decl.specs.declared.claims.Claim.TheVariants as claim
use Rattle.nl_decl.specs.declared.claims.Claimed.{Claimed}
use Rattle.nl_decl.specs.Claims.{may_share, clashes, is_taken, first_clash, widget_claim}
use Rattle.nl_decl.proofs.Often.{tick, often}

abbrev pub same_claim : Claim → Claim → Bool
same_claim claim.Word claim.Word = true
same_claim claim.Widget claim.Widget = true
same_claim claim.Global claim.Global = true
same_claim claim.Turtles claim.Turtles = true
same_claim claim.Patches claim.Patches = true
same_claim claim.Links claim.Links = true
same_claim (claim.TurtleBreed i) (claim.TurtleBreed j) = i == j
same_claim (claim.LinkBreed i) (claim.LinkBreed j) = i == j
same_claim (claim.Input i) (claim.Input j) = i == j
same_claim c e = false

pub same_claim-is : (c e : Claim) → same_claim c e ≡ true → c ≡ e
same_claim-is claim.Word claim.Word h = refl
same_claim-is claim.Widget claim.Widget h = refl
same_claim-is claim.Global claim.Global h = refl
same_claim-is claim.Turtles claim.Turtles h = refl
same_claim-is claim.Patches claim.Patches h = refl
same_claim-is claim.Links claim.Links h = refl
same_claim-is (claim.TurtleBreed i) (claim.TurtleBreed j) h = ap claim.TurtleBreed (eqb-true i j h)
same_claim-is (claim.LinkBreed i) (claim.LinkBreed j) h = ap claim.LinkBreed (eqb-true i j h)
same_claim-is (claim.Input i) (claim.Input j) h = ap claim.Input (eqb-true i j h)
same_claim-is c e h = cc

-- how often the name is declared in this way
abbrev pub claimed : Claim → List ℕ → List Claimed → ℕ
claimed c n [] = 0
claimed c n (e ∷ es) = tick (same_claim c e.claim && bytes_eq e.name n) + claimed c n es

pub claimed-append : (c : Claim) (n : List ℕ) (es fs : List Claimed) → claimed c n (es ++ fs) ≡ claimed c n es + claimed c n fs
claimed-append c n [] fs = omega arith
claimed-append c n (e ∷ es) fs = omega (arith, claimed-append c n es fs)

-- where a later declaration clashes with none of these, its name is declared by none of them in a way that may not stand beside it
none_step : (q b s l : Bool) (k : ℕ) → ((b && not s) || l) ≡ false → (q ≡ true → s ≡ false) → (l ≡ false → k ≡ 0) → tick (q && b) + k ≡ 0
none_step true true true l k h out later = let it = out refl in cc
none_step true true false l k h out later = cc
none_step true false s l k h out later = omega (arith, later h)
none_step false true true l k h out later = omega (arith, later h)
none_step false true false l k h out later = cc
none_step false false s l k h out later = omega (arith, later h)

none_clashing : (c : Claim) (later : Claimed) (es : List Claimed) → list_any (λ e. clashes e later) es ≡ false → may_share c later.claim ≡ false → claimed c later.name es ≡ 0
none_clashing c later [] free apart = refl
none_clashing c later (e ∷ es) free apart =
    none_step (same_claim c e.claim) (bytes_eq e.name later.name) (may_share e.claim later.claim) (list_any (λ x. clashes x later) es) (claimed c later.name es) free
    (λ same. subst (λ x. may_share x later.claim ≡ false) (same_claim-is c e.claim same) apart)
    (λ rest. none_clashing c later es rest apart)

neither : (a b : Bool) → (a || b) ≡ false → (a ≡ false) × (b ≡ false)
neither true b h = cc
neither false b h = (refl, h)

untaken : {A : Type 0} (t : Bool) (p : A) (rest : Option A) → (if t then Some p else rest) ≡ None → (t ≡ false) × (rest ≡ None)
untaken true p rest h = cc
untaken false p rest h = (refl, h)

-- what it says that the first of more declarations is not taken
first_free : (es : List Claimed) (c : Claimed) (cs : List Claimed) → first_clash es (c ∷ cs) ≡ None → (is_some (row_named rows c.name) ≡ false) × (list_any (λ e. clashes e c) es ≡ false) × (first_clash (c ∷ es) cs ≡ None)
first_free es c cs h =
    let (free, rest) = untaken (is_taken es c) c.place (first_clash (c ∷ es) cs) h in
    let (row, none) = neither (is_some (row_named rows c.name)) (list_any (λ e. clashes e c) es) free in
    (row, none, rest)

-- a declaration of this name, in this way, is behind none that may not stand beside it
behind_none : (c e : Claim) (n : List ℕ) (later : Claimed) (es : List Claimed) → list_any (λ x. clashes x later) es ≡ false → may_share c e ≡ false → (same_claim e later.claim && bytes_eq later.name n) ≡ true → claimed c n es ≡ 0
behind_none c e n later es free apart here =
    let is = same_claim-is e later.claim (first_so (same_claim e later.claim) (bytes_eq later.name n) here) in
    let named = (bytes_eq-Decides later.name n).0 (second_so (same_claim e later.claim) (bytes_eq later.name n) here) in
    subst (λ m. claimed c m es ≡ 0) named (none_clashing c later es free (subst (λ x. may_share c x ≡ false) is apart))

-- declared once in a way that may not stand beside itself
once_step : (b : Bool) (k : ℕ) → (b ≡ true → k ≡ 0) → k ≤ 1 → tick b + k ≤ 1
once_step true k out h = let it = out refl in omega (arith, it)
once_step false k out h = omega (arith, h)

pub once_in : (c : Claim) (n : List ℕ) (es cs : List Claimed) → may_share c c ≡ false → first_clash es cs ≡ None → claimed c n es ≤ 1 → claimed c n es + claimed c n cs ≤ 1
once_in c n es [] apart free h = omega (arith, h)
once_in c n es (e ∷ cs) apart free h =
    let (row, none, rest) = first_free es e cs free in
    let here = same_claim c e.claim && bytes_eq e.name n in
    let more = once_in c n (e ∷ es) cs apart rest (once_step here (claimed c n es) (behind_none c c n e es none apart) h) in
    omega (arith, more)

-- not declared in two ways that may not stand beside each other
aside_step : (a b : Bool) (j k : ℕ) → (a ≡ true → k ≡ 0) → (b ≡ true → j ≡ 0) → (a ≡ true → b ≡ false) → (0 < j → k ≡ 0) → 0 < tick a + j → tick b + k ≡ 0
aside_step true true j k out off either h some = let it = either refl in cc
aside_step true false j k out off either h some = omega (arith, out refl)
aside_step false true j k out off either h some = let it = off refl in absurd (omega (arith, it, some))
aside_step false false j k out off either h some = omega (arith, h (omega (arith, some)))

other_way : (p q b : Bool) → (p ≡ true → q ≡ false) → (p && b) ≡ true → (q && b) ≡ false
other_way true q b h k = let it : q ≡ false = h refl in subst (λ x. (x && b) ≡ false) (sym it) refl
other_way false q b h k = cc

pub aside_in : (c e : Claim) (n : List ℕ) (es cs : List Claimed) → same_claim e c ≡ false → may_share c e ≡ false → may_share e c ≡ false → first_clash es cs ≡ None → (0 < claimed c n es → claimed e n es ≡ 0) → 0 < claimed c n es + claimed c n cs → claimed e n es + claimed e n cs ≡ 0
aside_in c e n es [] other apart apart2 free h some = omega (arith, h (omega (arith, some)))
aside_in c e n es (x ∷ cs) other apart apart2 free h some =
    let (row, none, rest) = first_free es x cs free in
    let mine = same_claim c x.claim in
    let its = same_claim e x.claim in
    let named = bytes_eq x.name n in
    let not_both : mine ≡ true → its ≡ false = λ is. subst (λ y. same_claim e y ≡ false) (same_claim-is c x.claim is) other in
    let grown = aside_step (mine && named) (its && named) (claimed c n es) (claimed e n es) (behind_none e c n x es none apart2) (behind_none c e n x es none apart) (other_way mine its named not_both) h in
    let more = aside_in c e n (x ∷ es) cs other apart apart2 rest grown (omega (arith, some)) in
    omega (arith, more)

-- a built-in word is not declared
foreign_step : (c : Claim) (n : List ℕ) (e : Claimed) (b : Bool) → bytes_eq e.name n ≡ b → is_some (row_named rows n) ≡ true → is_some (row_named rows e.name) ≡ false → tick (same_claim c e.claim && b) ≡ 0
foreign_step c n e true same built free = let it : is_some (row_named rows n) ≡ false = subst (λ m. is_some (row_named rows m) ≡ false) ((bytes_eq-Decides e.name n).0 same) free in cc
foreign_step c n e false same built free = not_here (same_claim c e.claim)
  where
    not_here : (b : Bool) → tick (b && false) ≡ 0
    not_here true = refl
    not_here false = refl

pub foreign_in : (c : Claim) (n : List ℕ) (es cs : List Claimed) → first_clash es cs ≡ None → is_some (row_named rows n) ≡ true → claimed c n cs ≡ 0
foreign_in c n es [] free built = refl
foreign_in c n es (e ∷ cs) free built =
    let (row, none, rest) = first_free es e cs free in
    let here = foreign_step c n e (bytes_eq e.name n) refl built row in
    omega (arith, here, foreign_in c n (e ∷ es) cs rest built)

-- widgets are declared as widgets alone
pub widgets_claimed : (n : List ℕ) (ws : List (List ℕ)) → claimed claim.Widget n (map widget_claim ws) ≡ often n ws
widgets_claimed n [] = refl
widgets_claimed n (w ∷ ws) = omega (arith, widgets_claimed n ws)

pub other_claim : (b c : Bool) → b ≡ false → tick (b && c) ≡ 0
other_claim true c h = cc
other_claim false c h = refl

pub no_widgets : (c : Claim) (n : List ℕ) (ws : List (List ℕ)) → same_claim c claim.Widget ≡ false → claimed c n (map widget_claim ws) ≡ 0
no_widgets c n [] h = refl
no_widgets c n (w ∷ ws) h = omega (arith, other_claim (same_claim c claim.Widget) (bytes_eq w n) h, no_widgets c n ws h)
