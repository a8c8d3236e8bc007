-- What the marks of the names so far tell of a further name.
use Rattle.std.proofs.Common.{◌≡◌, ℕ, ◌==◌, Bool, true, false, not, ◌&&◌, ◌||◌, List, [], ◌∷◌, ◌++◌, sym, ap, ◌∙◌, refl}
use Rattle.std.specs.Str.{bytes_eq}
use Rattle.std.specs.List.{list_any}
use Rattle.std.proofs.lemmas.List.Folds.{list_any-append}
use Rattle.nl_decl.specs.declared.claims.Claim.{Claim}
use Rattle.nl_decl.specs.declared.claims.Claim.TheVariants as claim
use Rattle.nl_decl.specs.declared.claims.Claimed.{Claimed}
use Rattle.nl_decl.specs.declared.marks.Mark.{Mark}
use Rattle.nl_decl.specs.declared.marks.Marked.{Marked}
use Rattle.nl_decl.specs.Claims.{may_share, clashes}
use Rattle.nl_decl.specs.inner.Marks.{own_mark, own_marks, barring_marks}
use Rattle.nl_decl.specs.inner.Ledger.{leaves, leaves_on, Holds, TellsBarred}

abbrev pub asked : Claim → List Mark
asked c = barring_marks c ++ own_marks (own_mark c)

twice_not : (b : Bool) → not (not b) ≡ (b || false)
twice_not true = refl
twice_not false = refl

-- two declarations of a name may not stand together exactly where the first leaves a mark that the second asks for
table : (e c : Claim) → not (may_share e c) ≡ list_any (leaves e) (asked c)
table claim.Word claim.Word = refl
table claim.Word claim.Widget = refl
table claim.Word claim.Global = refl
table claim.Word claim.Turtles = refl
table claim.Word claim.Patches = refl
table claim.Word claim.Links = refl
table claim.Word (claim.TurtleBreed j) = refl
table claim.Word (claim.LinkBreed j) = refl
table claim.Word (claim.Input j) = refl
table claim.Widget claim.Word = refl
table claim.Widget claim.Widget = refl
table claim.Widget claim.Global = refl
table claim.Widget claim.Turtles = refl
table claim.Widget claim.Patches = refl
table claim.Widget claim.Links = refl
table claim.Widget (claim.TurtleBreed j) = refl
table claim.Widget (claim.LinkBreed j) = refl
table claim.Widget (claim.Input j) = refl
table claim.Global claim.Word = refl
table claim.Global claim.Widget = refl
table claim.Global claim.Global = refl
table claim.Global claim.Turtles = refl
table claim.Global claim.Patches = refl
table claim.Global claim.Links = refl
table claim.Global (claim.TurtleBreed j) = refl
table claim.Global (claim.LinkBreed j) = refl
table claim.Global (claim.Input j) = refl
table claim.Turtles claim.Word = refl
table claim.Turtles claim.Widget = refl
table claim.Turtles claim.Global = refl
table claim.Turtles claim.Turtles = refl
table claim.Turtles claim.Patches = refl
table claim.Turtles claim.Links = refl
table claim.Turtles (claim.TurtleBreed j) = refl
table claim.Turtles (claim.LinkBreed j) = refl
table claim.Turtles (claim.Input j) = refl
table claim.Patches claim.Word = refl
table claim.Patches claim.Widget = refl
table claim.Patches claim.Global = refl
table claim.Patches claim.Turtles = refl
table claim.Patches claim.Patches = refl
table claim.Patches claim.Links = refl
table claim.Patches (claim.TurtleBreed j) = refl
table claim.Patches (claim.LinkBreed j) = refl
table claim.Patches (claim.Input j) = refl
table claim.Links claim.Word = refl
table claim.Links claim.Widget = refl
table claim.Links claim.Global = refl
table claim.Links claim.Turtles = refl
table claim.Links claim.Patches = refl
table claim.Links claim.Links = refl
table claim.Links (claim.TurtleBreed j) = refl
table claim.Links (claim.LinkBreed j) = refl
table claim.Links (claim.Input j) = refl
table (claim.TurtleBreed i) claim.Word = refl
table (claim.TurtleBreed i) claim.Widget = refl
table (claim.TurtleBreed i) claim.Global = refl
table (claim.TurtleBreed i) claim.Turtles = refl
table (claim.TurtleBreed i) claim.Patches = refl
table (claim.TurtleBreed i) claim.Links = refl
table (claim.TurtleBreed i) (claim.TurtleBreed j) = twice_not (i == j)
table (claim.TurtleBreed i) (claim.LinkBreed j) = refl
table (claim.TurtleBreed i) (claim.Input j) = refl
table (claim.LinkBreed i) claim.Word = refl
table (claim.LinkBreed i) claim.Widget = refl
table (claim.LinkBreed i) claim.Global = refl
table (claim.LinkBreed i) claim.Turtles = refl
table (claim.LinkBreed i) claim.Patches = refl
table (claim.LinkBreed i) claim.Links = refl
table (claim.LinkBreed i) (claim.TurtleBreed j) = refl
table (claim.LinkBreed i) (claim.LinkBreed j) = twice_not (i == j)
table (claim.LinkBreed i) (claim.Input j) = refl
table (claim.Input i) claim.Word = refl
table (claim.Input i) claim.Widget = refl
table (claim.Input i) claim.Global = refl
table (claim.Input i) claim.Turtles = refl
table (claim.Input i) claim.Patches = refl
table (claim.Input i) claim.Links = refl
table (claim.Input i) (claim.TurtleBreed j) = refl
table (claim.Input i) (claim.LinkBreed j) = refl
table (claim.Input i) (claim.Input j) = twice_not (i == j)

none_of : {A : Type 0} (xs : List A) → list_any (λ x. false) xs ≡ false
none_of [] = refl
none_of (x ∷ xs) = none_of xs

either : (a b c d : Bool) → ((a || b) || (c || d)) ≡ ((a || c) || (b || d))
either true b c d = refl
either false true true d = refl
either false true false d = refl
either false false c d = refl

any_either : {A : Type 0} (p q : A → Bool) (xs : List A) → (list_any p xs || list_any q xs) ≡ list_any (λ x. p x || q x) xs
any_either p q [] = refl
any_either p q (x ∷ xs) = either (p x) (list_any p xs) (q x) (list_any q xs) ∙ ap (λ b. (p x || q x) || b) (any_either p q xs)

exchanged : {A B : Type 0} (p : A → B → Bool) (xs : List A) (ys : List B) → list_any (λ x. list_any (λ y. p x y) ys) xs ≡ list_any (λ y. list_any (λ x. p x y) xs) ys
exchanged p [] ys = sym (none_of ys)
exchanged p (x ∷ xs) ys = ap (λ b. list_any (λ y. p x y) ys || b) (exchanged p xs ys) ∙ any_either (λ y. p x y) (λ y. list_any (λ x'. p x' y) xs) ys

both : {A : Type 0} (b : Bool) (p : A → Bool) (xs : List A) → list_any (λ x. b && p x) xs ≡ (b && list_any p xs)
both true p xs = refl
both false p xs = none_of xs

any_same : {A : Type 0} (p q : A → Bool) (xs : List A) → ((x : A) → p x ≡ q x) → list_any p xs ≡ list_any q xs
any_same p q [] h = refl
any_same p q (x ∷ xs) h = ap (λ b. b || list_any p xs) (h x) ∙ ap (λ b. q x || b) (any_same p q xs h)

module _ (seen : List Claimed) (has : Marked → Bool) (holds : Holds seen has) (key : Marked) (c : Claim) (place : ℕ) where
  one : (e : Claimed) → list_any (λ m. leaves_on e.name e.claim (record { name = key.name; mark = m })) (asked c) ≡ clashes e (record { name = key.name.items; claim = c; place = place })
  one e = both (bytes_eq e.name key.name.items) (leaves e.claim) (asked c) ∙ ap (λ b. bytes_eq e.name key.name.items && b) (sym (table e.claim c))

  -- the name bears a mark that is asked for exactly where an earlier declaration clashes with it
  pub asked_or_not : list_any (λ m. has (record { name = key.name; mark = m })) (asked c) ≡ list_any (λ e. clashes e (record { name = key.name.items; claim = c; place = place })) seen
  asked_or_not =
      any_same (λ m. has (record { name = key.name; mark = m })) (λ m. list_any (λ e. leaves_on e.name e.claim (record { name = key.name; mark = m })) seen) (asked c) (λ m. holds (record { name = key.name; mark = m }))
      ∙ exchanged (λ m (e : Claimed). leaves_on e.name e.claim (record { name = key.name; mark = m })) (asked c) seen
      ∙ any_same (λ e. list_any (λ m. leaves_on e.name e.claim (record { name = key.name; mark = m })) (asked c)) (λ e. clashes e (record { name = key.name.items; claim = c; place = place })) seen one

pub tells : (has : Marked → Bool) (name : List ℕ) (key : Marked) (c : Claim) → key.name.items ≡ name
    → TellsBarred has name c (list_any (λ m. has (record { name = key.name; mark = m })) (barring_marks c) || list_any (λ m. has (record { name = key.name; mark = m })) (own_marks (own_mark c)))
tells has name key c named seen place holds =
    sym (list_any-append (λ m. has (record { name = key.name; mark = m })) (barring_marks c) (own_marks (own_mark c)))
    ∙ asked_or_not seen has holds key c place
    ∙ ap (λ n. list_any (λ e. clashes e (record { name = n; claim = c; place = place })) seen) named
