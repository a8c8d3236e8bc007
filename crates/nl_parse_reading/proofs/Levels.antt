-- What operators of each level are.
use Rattle.std.proofs.Common.{◌≡◌, ℕ, ◌-◌, ◌==◌, ◌<◌, ◌≤◌, Bool, true, false, ◌&&◌, if◌then◌else◌, nat_le, List, refl, sym, ap, ◌∙◌}
use Rattle.std.proofs.lemmas.Bool.{ne_eqb, le-leb, lt-leb}
use Rattle.nl_words.specs.declared.entry.Input.{Input}
use Rattle.nl_tree.specs.Tokens.{Class, Of, Binary, Nowhere, near_class, operator_class}

-- the class by what is told of the level
class_told : Bool → Bool → Bool → Bool → ℕ → Bool → List Input → Class
class_told a b c d l m is = if a then near_class is else (if b then Of else (if c && d then Binary (l - 4) m else Nowhere))

told : (l : ℕ) (m : Bool) (is : List Input) → operator_class l m is ≡ class_told (l == 1) (l == 2) (nat_le 4 l) (nat_le l 9) l m is
unfolding class_told
told l m is = refl

by_told : (a b c d p q r s : Bool) (l : ℕ) (m : Bool) (is : List Input) → a ≡ p → b ≡ q → c ≡ r → d ≡ s → class_told a b c d l m is ≡ class_told p q r s l m is
by_told a b c d p q r s l m is h i j k = ap (λ x. class_told x b c d l m is) h ∙ ap (λ x. class_told p x c d l m is) i ∙ ap (λ x. class_told p q x d l m is) j ∙ ap (λ x. class_told p q r x l m is) k

pub level_one : (l : ℕ) (m : Bool) (is : List Input) → l ≡ 1 → near_class is ≡ operator_class l m is
level_one l m is h = sym (ap (λ k. operator_class k m is) h)

pub level_two : (l : ℕ) (m : Bool) (is : List Input) → l ≡ 2 → Of ≡ operator_class l m is
level_two l m is h = sym (ap (λ k. operator_class k m is) h)

pub level_low : (l : ℕ) (m : Bool) (is : List Input) → (l ≡ 1 → ⊥) → (l ≡ 2 → ⊥) → l < 4 → Nowhere ≡ operator_class l m is
unfolding class_told
level_low l m is one two low = sym (told l m is ∙ by_told (l == 1) (l == 2) (nat_le 4 l) (nat_le l 9) false false false (nat_le l 9) l m is (ne_eqb l 1 one) (ne_eqb l 2 two) (lt-leb 4 l low) refl)

pub level_high : (l : ℕ) (m : Bool) (is : List Input) → (l ≡ 1 → ⊥) → (l ≡ 2 → ⊥) → 4 ≤ l → 9 < l → Nowhere ≡ operator_class l m is
unfolding class_told
level_high l m is one two low high = sym (told l m is ∙ by_told (l == 1) (l == 2) (nat_le 4 l) (nat_le l 9) false false true false l m is (ne_eqb l 1 one) (ne_eqb l 2 two) (le-leb 4 l low) (lt-leb l 9 high))

pub level_binary : (l : ℕ) (m : Bool) (is : List Input) → (l ≡ 1 → ⊥) → (l ≡ 2 → ⊥) → 4 ≤ l → l ≤ 9 → Binary (l - 4) m ≡ operator_class l m is
unfolding class_told
level_binary l m is one two low high = sym (told l m is ∙ by_told (l == 1) (l == 2) (nat_le 4 l) (nat_le l 9) false false true true l m is (ne_eqb l 1 one) (ne_eqb l 2 two) (le-leb 4 l low) (le-leb l 9 high))
