-- The rows of the built-in words, one after another.
use Rattle.std.proofs.Common.{◌≡◌, ℕ, zero, suc, ◌+◌, subst, arith, lit<, List, [], ◌∷◌, ◌++◌, take, Some, slice_get, option_map, refl, ap, ◌∙◌, sym}
use Rattle.std.proofs.lemmas.List.{take_more}
use Rattle.std.proofs.lemmas.List.Sorted.{IsPermutation-refl}
use Rattle.std.proofs.lemmas.Option.{slice_get-map, slice_get_within, get_or_from_slice_get}
use Rattle.nl_words.specs.Row.{Row}
use Rattle.nl_words.specs.Rows.{rows}
use Rattle.nl_tree.specs.declared.declared.NamedWhat.{NamedWhat}
use Rattle.nl_words.specs.Kinds.{everyone}
use Rattle.nl_tree.specs.declared.declared.Declared.{Declared}
use Rattle.nl_tree.specs.declared.declared.Form.TheVariants as form
use Rattle.nl_tree.specs.declared.declared.What.TheVariants as what
use Rattle.nl_tree.specs.Tree.{none}
use Rattle.nl_tree.specs.Vocabulary.{base_term, named_what, own_terms, terms, whats}
use Rattle.nl_tree.specs.Names.{IsDeclared}
use Rattle.nl_tree.specs.Grammar.{at_end}
use Rattle.nl_tree.specs.BodyFault.{Fits}
use Rattle.nl_tree.specs.Context.{Kind, Observer, Turtle, Patch, Link, Leads, at_word, by_call, IsRightBody, AreLeft}
use Rattle.nl_tree.specs.Checked.{BodiesFit, BodiesAreRight, KindsAreLeft}
use Rattle.nl_tree.specs.inner.Samples.{declaring, going, going_body, base_whats}

abbrev base_what : Row → NamedWhat
base_what r = named_what (base_term r)

pub next_row : (rs : List Row) (k : ℕ) (r : Row) → slice_get rs k ≡ Some r → take k (base_whats rs) ++ base_what r ∷ [] ≡ take (k + 1) (base_whats rs)
next_row rs k r here =
    let there : slice_get (base_whats rs) k ≡ Some (base_what r) = slice_get-map base_what rs k ∙ ap (option_map base_what) here in
    let more = take_more (base_whats rs) k (base_what r) (slice_get_within (base_whats rs) k (base_what r) there) in
    ap (λ x. take k (base_whats rs) ++ x ∷ []) (sym (get_or_from_slice_get (base_whats rs) k (base_what r) (base_what r) there)) ∙ sym more

pub all_taken : take 341 (base_whats rows) ≡ base_whats rows
unfolding rows
all_taken = refl

-- A model that declares nothing.

pub bare_names : IsDeclared (declaring [])
unfolding rows
bare_names = (refl, lit< tt, IsPermutation-refl [])

pub bare_rows : whats (declaring []) ≡ base_whats rows
unfolding rows
bare_rows = refl

-- A model of one procedure, `to go end`.

abbrev one : Declared
one = declaring (going ∷ [])

pub going_names : IsDeclared one
unfolding rows
going_names = (refl, lit< tt, IsPermutation-refl (own_terms one))

pub going_rows : whats one ≡ base_whats rows ++ (record { name = going.name; what = what.Procedure 0 }) ∷ []
unfolding rows
going_rows = refl

-- its body is that of no tokens before the word `end`
body_fits : Fits form.Commands [] (terms one) going_body
body_fits = ([], record { start = 6; len = 3 }, ((λ k d h. absurd (omega (arith, h))), ((none, refl, at_end), omega arith)))

pub going_fits : BodiesFit one (going_body ∷ [])
going_fits zero p t is here = let same : going ≡ p = cc in let tree : going_body ≡ t = cc in subst (λ x. Fits form.Commands x.inputs (terms one) t) same (subst (λ y. Fits form.Commands [] (terms one) y) tree body_fits)
going_fits (suc i) p t is here = cc

pub going_right : BodiesAreRight one (going_body ∷ [])
going_right zero p t is here = let tree : going_body ≡ t = cc in subst (λ y. IsRightBody (terms one) (going_body ∷ []) p.reporter y) tree (λ k d h. absurd (omega (arith, h)))
going_right (suc i) p t is here = cc

-- it has no word, so no chain of calls begins there
no_word : (kind : Kind) → Leads (terms one) (going_body ∷ []) kind 0 → ⊥
no_word kind (at_word within here bars) = absurd (omega (arith, within.1))
no_word kind (by_call within here calls later) = absurd (omega (arith, within.1))

all_left : AreLeft (terms one) (going_body ∷ []) 0 everyone
all_left Observer = ((λ h. no_word Observer), (λ h. refl))
all_left Turtle = ((λ h. no_word Turtle), (λ h. refl))
all_left Patch = ((λ h. no_word Patch), (λ h. refl))
all_left Link = ((λ h. no_word Link), (λ h. refl))

pub going_left : KindsAreLeft one (going_body ∷ []) (everyone ∷ [])
going_left zero k is = let same : everyone ≡ k = cc in subst (λ ks. AreLeft (terms one) (going_body ∷ []) 0 ks) same all_left
going_left (suc i) k is = cc
