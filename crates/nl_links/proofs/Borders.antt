-- Lemmas on a border of one turtle's chain that is written.
use Rattle.std.proofs.Common.{◌≡◌, ℕ, true, false, Option, Some, None, IsSome, is_some, eqb, cond, refl, sym, ap, ◌∙◌, inl, inr, arith, subst}
use Rattle.std.specs.Option.{option_map}
use Rattle.std.proofs.lemmas.Bool.{cases_eq}
use Rattle.nl_store_records.specs.declared.places.Border.{Border}
use Rattle.nl_links.specs.declared.sides.Side.{Side}
use Rattle.nl_links.specs.declared.sides.Side.TheVariants.{First, Second}
use Rattle.nl_links.specs.declared.sides.Sides.{Sides}
use Rattle.nl_links.specs.declared.ends.Ends.{Ends}
use Rattle.nl_links.specs.Sides.{border_in, border_of, borders_of, other_side, sides_at, with_border, with_first, with_last, KeepsBeside, SetsSides}

first-here : (side : Side) (to : Option ℕ) (o : Option Sides) → IsSome o → border_in side (option_map (with_first side to) o) ≡ record { first = to; last = (border_in side o).last }
first-here side to None h = absurd (cc)
first-here First to (Some s) h = refl
first-here Second to (Some s) h = refl

last-here : (side : Side) (to : Option ℕ) (o : Option Sides) → IsSome o → border_in side (option_map (with_last side to) o) ≡ record { first = (border_in side o).first; last = to }
last-here side to None h = absurd (cc)
last-here First to (Some s) h = refl
last-here Second to (Some s) h = refl

-- the other chains of the turtle
beside-here : (side : Side) (border : Sides → Border) (o : Option Sides) → border_in (other_side side) (option_map (λ s. with_border side (border s) s) o) ≡ border_in (other_side side) o
beside-here side border None = refl
beside-here First border (Some s) = refl
beside-here Second border (Some s) = refl

held-here : (change : Sides → Sides) (o : Option Sides) → is_some (option_map change o) ≡ is_some o
held-here change None = refl
held-here change (Some s) = refl

-- the entry of each turtle, by cases
pub sides-each : (old new : ℕ → Option Sides) (turtle : ℕ) (slot : Option Sides) (P : ℕ → Option Sides → Type 0) → SetsSides old new turtle slot → P turtle slot → ((t : ℕ) → (t ≡ turtle → ⊥) → P t (old t)) → (t : ℕ) → P t (new t)
sides-each old new turtle slot P sets here other t = elim (cases_eq t turtle) [
  | inl q ↦ (let e : eqb t turtle ≡ true = grind arith in subst (P t) (sym (sets t ∙ ap (λ b. cond b slot (old t)) e)) (subst (λ i. P i slot) (sym q) here))
  | inr ne ↦ (let e : eqb t turtle ≡ false = grind arith in subst (P t) (sym (sets t ∙ ap (λ b. cond b slot (old t)) e)) (other t ne))
]

module _ (side : Side) (to : Option ℕ) (old new : Ends) (turtle : ℕ) (held : IsSome (sides_at old turtle)) where
  abbrev first_now : ℕ → Border
  first_now t = cond (eqb t turtle) (record { first = to; last = (borders_of side old t).last }) (borders_of side old t)

  abbrev last_now : ℕ → Border
  last_now t = cond (eqb t turtle) (record { first = (borders_of side old t).first; last = to }) (borders_of side old t)

  -- at the turtle itself, and elsewhere
  first-at : first_now turtle ≡ record { first = to; last = (borders_of side old turtle).last }
  first-at = let e : eqb turtle turtle ≡ true = grind arith in ap (λ b. cond b (record { first = to; last = (borders_of side old turtle).last }) (borders_of side old turtle)) e

  first-off : (t : ℕ) → (t ≡ turtle → ⊥) → first_now t ≡ borders_of side old t
  first-off t ne = let e : eqb t turtle ≡ false = grind arith in ap (λ b. cond b (record { first = to; last = (borders_of side old t).last }) (borders_of side old t)) e

  last-at : last_now turtle ≡ record { first = (borders_of side old turtle).first; last = to }
  last-at = let e : eqb turtle turtle ≡ true = grind arith in ap (λ b. cond b (record { first = (borders_of side old turtle).first; last = to }) (borders_of side old turtle)) e

  last-off : (t : ℕ) → (t ≡ turtle → ⊥) → last_now t ≡ borders_of side old t
  last-off t ne = let e : eqb t turtle ≡ false = grind arith in ap (λ b. cond b (record { first = (borders_of side old t).first; last = to }) (borders_of side old t)) e

  pub first-set : SetsSides (sides_at old) (sides_at new) turtle (option_map (with_first side to) (sides_at old turtle)) → (t : ℕ) → borders_of side new t ≡ first_now t
  first-set sets = sides-each (sides_at old) (sides_at new) turtle _ (λ t o. border_in side o ≡ first_now t) sets
      (first-here side to (sides_at old turtle) held ∙ sym first-at) (λ t ne. sym (first-off t ne))

  pub last-set : SetsSides (sides_at old) (sides_at new) turtle (option_map (with_last side to) (sides_at old turtle)) → (t : ℕ) → borders_of side new t ≡ last_now t
  last-set sets = sides-each (sides_at old) (sides_at new) turtle _ (λ t o. border_in side o ≡ last_now t) sets
      (last-here side to (sides_at old turtle) held ∙ sym last-at) (λ t ne. sym (last-off t ne))

-- the other chains stay
pub keeps-set : (side : Side) (border : Sides → Border) (old new : Ends) (turtle : ℕ) → SetsSides (sides_at old) (sides_at new) turtle (option_map (λ s. with_border side (border s) s) (sides_at old turtle)) → KeepsBeside side old new
keeps-set side border old new turtle sets = record {
  held = sides-each (sides_at old) (sides_at new) turtle _ (λ t o. is_some o ≡ is_some (sides_at old t)) sets (held-here (λ s. with_border side (border s) s) (sides_at old turtle)) (λ t ne. refl);
  beside = sides-each (sides_at old) (sides_at new) turtle _ (λ t o. border_in (other_side side) o ≡ borders_of (other_side side) old t) sets (beside-here side border (sides_at old turtle)) (λ t ne. refl);
}

pub keeps-first : (side : Side) (to : Option ℕ) (old new : Ends) (turtle : ℕ) → SetsSides (sides_at old) (sides_at new) turtle (option_map (with_first side to) (sides_at old turtle)) → KeepsBeside side old new
keeps-first side to old new turtle sets = keeps-set side (λ s. record { first = to; last = (border_of side s).last }) old new turtle sets

pub keeps-last : (side : Side) (to : Option ℕ) (old new : Ends) (turtle : ℕ) → SetsSides (sides_at old) (sides_at new) turtle (option_map (with_last side to) (sides_at old turtle)) → KeepsBeside side old new
keeps-last side to old new turtle sets = keeps-set side (λ s. record { first = (border_of side s).first; last = to }) old new turtle sets

pub keeps-none : (side : Side) (ends : Ends) → KeepsBeside side ends ends
keeps-none side ends = record { held = λ t. refl; beside = λ t. refl }

pub keeps-then : (side : Side) (one two three : Ends) → KeepsBeside side one two → KeepsBeside side two three → KeepsBeside side one three
keeps-then side one two three p q = record { held = λ t. q.held t ∙ p.held t; beside = λ t. q.beside t ∙ p.beside t }
