-- How many items of a list pass a test, after one was added, taken away or changed.
use Rattle.std.specs.Prelude.{◌≡◌, ℕ, suc, ◌+◌, ◌^◌, ◌<◌, ◌≤◌, Bool, true, false, cond, if◌then◌else◌, List, [], ◌∷◌, ◌++◌, map, filter, length, remove}
use Rattle.std.proofs.Common.{arith, ap, ap₂, ◌∙◌, sym, refl, subst, get_or}
use Rattle.std.proofs.lemmas.List.Sums.{length-filter, count_by-le-length, sum_by_push, sum_by-remove}
use Rattle.nl_value.specs.Plain.{Plain}
use Rattle.nl_agents_layout.specs.Nouns.{Slot, Slots}
use Rattle.nl_agents.specs.Nouns.{Vars}
use Rattle.nl_agents.specs.Changes.{is_link, value_set}
use Rattle.nl_agents.specs.Members.{is_unbreeded}
use Rattle.nl_agents.specs.declared.agents.Link.{Link}
use Rattle.nl_plain.specs.Lists.{unbreeded, links_set}

module _ {X : Type 0} (p : X → Bool) where
  pub one_more : (xs : List X) (x : X) → length (filter p (xs ++ x ∷ [])) ≡ length (filter p xs) + cond (p x) 1 0
  one_more xs x =
      length-filter p (xs ++ x ∷ []) ∙ sum_by_push (λ y. cond (p y) 1 0) xs x
      ∙ ap (λ (n : ℕ). n + cond (p x) 1 0) (sym (length-filter p xs))

  pub one_less : (xs : List X) (at : ℕ) (x : X) → at < length xs → length (filter p (remove xs at)) + cond (p (get_or xs at x)) 1 0 ≡ length (filter p xs)
  one_less xs at x inside =
      ap (λ (n : ℕ). n + cond (p (get_or xs at x)) 1 0) (length-filter p (remove xs at))
      ∙ sum_by-remove (λ y. cond (p y) 1 0) xs at x inside ∙ sym (length-filter p xs)

  pub at_most_all : (xs : List X) → length (filter p xs) ≤ length xs
  at_most_all xs = subst (λ (n : ℕ). n ≤ length xs) (sym (length-filter p xs)) (count_by-le-length p xs)

  -- the count after a push
  pub pushed : (xs ys : List X) (x : X) (is : Bool) (count new : ℕ) → count ≡ length (filter p xs) → is ≡ p x → ys ≡ xs ++ x ∷ []
      → new ≡ count + cond is 1 0 → new ≡ length (filter p ys)
  pushed xs ys x is count new counted said all e =
      e ∙ ap₂ (λ (n : ℕ) (b : Bool). n + cond b 1 0) counted said ∙ sym (one_more xs x) ∙ ap (λ (zs : List X). length (filter p zs)) (sym all)

  -- there is room for one more
  pub room : (xs : List X) (count : ℕ) → count ≡ length (filter p xs) → length xs < 400_000 → count < 2 ^ 63
  room xs count counted few = omega (arith, counted, at_most_all xs, few)

  one_of : (xs : List X) (at : ℕ) (x : X) (is : Bool) → at < length xs → x ≡ get_or xs at x → is ≡ p x
      → length (filter p (remove xs at)) + cond is 1 0 ≡ length (filter p xs)
  one_of xs at x is inside there said =
      ap (λ (b : Bool). length (filter p (remove xs at)) + cond b 1 0) (said ∙ ap p there) ∙ one_less xs at x inside

  -- the one that is to be taken away is counted
  pub counted_one : (xs : List X) (at : ℕ) (x : X) (is : Bool) (count : ℕ) → count ≡ length (filter p xs) → at < length xs → x ≡ get_or xs at x → is ≡ p x
      → cond is 1 0 ≤ count
  counted_one xs at x is count counted inside there said = omega (arith, counted, one_of xs at x is inside there said)

  -- the count after a removal
  pub removed : (xs ys : List X) (at : ℕ) (x : X) (is : Bool) (count new : ℕ) → count ≡ length (filter p xs) → at < length xs → x ≡ get_or xs at x → is ≡ p x
      → ys ≡ remove xs at → new + cond is 1 0 ≡ count → new ≡ length (filter p ys)
  removed xs ys at x is count new counted inside there said left e =
      let here : new ≡ length (filter p (remove xs at)) = omega (arith, counted, e, one_of xs at x is inside there said) in
      here ∙ ap (λ (zs : List X). length (filter p zs)) (sym left)

  kept_length : (f : X → X) (x : X) (ys zs : List X) → p (f x) ≡ p x → length ys ≡ length zs
      → length (if p (f x) then f x ∷ ys else ys) ≡ length (if p x then x ∷ zs else zs)
  kept_length f x ys zs same e = by (p x) same
    where
      by : (b : Bool) → p (f x) ≡ b → length (if p (f x) then f x ∷ ys else ys) ≡ length (if b then x ∷ zs else zs)
      by true is = rw is (ap (λ (n : ℕ). suc n) e)
      by false is = rw is e

  -- a change of items that the test doesn't see
  pub changed : (f : X → X) → ((x : X) → p (f x) ≡ p x) → (xs : List X) → length (filter p (map f xs)) ≡ length (filter p xs)
  changed f same [] = refl
  changed f same (x ∷ xs) = kept_length f x (filter p (map f xs)) (filter p xs) (same x) (changed f same xs)

-- what a variable holds makes no difference
same_kind : (directed is : Bool) (l : Link) (vars : Vars) → is_unbreeded directed (if is then record l { vars = vars } else l) ≡ is_unbreeded directed l
same_kind directed true l vars = refl
same_kind directed false l vars = refl

pub set_unbreeded : (directed : Bool) (slots : Slots) (slot : Slot) (value : Plain) (serial : ℕ) (links : List Link)
    → unbreeded directed (links_set slots slot value serial links) ≡ unbreeded directed links
set_unbreeded directed slots slot value serial links =
    changed (is_unbreeded directed) (λ l. if is_link serial l then record l { vars = value_set slots l.vars slot value } else l)
    (λ l. same_kind directed (is_link serial l) l (value_set slots l.vars slot value)) links
