-- A variable that isn't owned is set: nothing is changed.
use Rattle.std.specs.Prelude.{◌≡◌, ℕ, ◌<◌, ◌==◌, Bool, true, false, if◌then◌else◌, List, [], ◌∷◌, map, find, Option, Some, None, All, option_map}
use Rattle.std.specs.List.Sorted.{IsStrictlyIncreasing}
use Rattle.std.proofs.Common.{arith, ap, ap₂, ◌∙◌, sym, refl, subst}
use Rattle.std.proofs.lemmas.Bool.{cond-true, cond-false, eqb-true, ne_eqb, or_from}
use Rattle.std.proofs.lemmas.List.Elements.{All-head, All-tail}
use Rattle.nl_value.specs.Plain.{Plain}
use Rattle.nl_agents_layout.specs.Nouns.{Slot, Slots}
use Rattle.nl_agents_layout.specs.Layouts.{has_slot}
use Rattle.nl_agents.specs.Nouns.{Vars}
use Rattle.nl_agents.specs.Changes.{set_entry, value_in, value_set}
use Rattle.nl_agents.specs.declared.agents.Link.{Link}
use Rattle.nl_agents.specs.declared.agents.Turtle.{Turtle}
use Rattle.nl_agents.proofs.Entries.{set_nowhere}
use Rattle.nl_agents.proofs.Keyed.{Ascend, ascend_head, ascend_tail, before, map_none, not_found}
use Rattle.nl_store_files.specs.Agents.{entry_of, link_entry, link_serial, links_filled, turtle_entry, turtle_serial, turtles_filled}

-- ---- what an agent keeps

absent : (s : Slot) (ss : Slots) → All (λ m. s < m) ss → has_slot ss s ≡ false
absent s [] h = refl
absent s (r ∷ rs) h =
    let l = All-head (λ m. s < m) r rs h in
    or_from (r == s) (has_slot rs s) (ne_eqb r s (λ q. omega (arith, l, q))) (absent s rs (All-tail (λ m. s < m) r rs h))

none-set : (value : Plain) (o : Option Plain) → o ≡ None → set_entry value o ≡ o
none-set value None e = refl
none-set value (Some old) e = absurd (cc)

pub unowned : (slots : Slots) (vars : Vars) (slot : Slot) (value : Plain) → IsStrictlyIncreasing slots → value_in slots vars slot ≡ None → value_set slots vars slot value ≡ vars
unowned [] vars slot value up e = refl
unowned (s ∷ ss) [] slot value up e = refl
unowned (s ∷ ss) (v ∷ vs) slot value up e = go (s == slot) refl (unowned ss vs slot value (ascend_tail s ss up))
  where
    go : (b : Bool) → (s == slot) ≡ b → (value_in ss vs slot ≡ None → value_set ss vs slot value ≡ vs) → value_set (s ∷ ss) (v ∷ vs) slot value ≡ v ∷ vs
    go true t ih =
        let none : v ≡ None = sym (cond-true (s == slot) v (value_in ss vs slot) t) ∙ e in
        ap₂ (λ w ws. w ∷ ws)
        (cond-true (s == slot) (set_entry value v) v t ∙ none-set value v none)
        (set_nowhere ss vs slot value (subst (λ (n : Slot). has_slot ss n ≡ false) (eqb-true s slot t) (absent s ss (ascend_head s ss up))))
    go false t ih =
        ap₂ (λ w ws. w ∷ ws)
        (cond-false (s == slot) (set_entry value v) v t)
        (ih (sym (cond-false (s == slot) v (value_in ss vs slot) t) ∙ e))

-- ---- agents by serial

module _ {X : Type 0} (key : X → ℕ) (change : X → X) where
  none-behind : (y : X) (ys : List X) (k : ℕ) → Ascend key (y ∷ ys) → key y ≡ k → find (λ z. key z == k) ys ≡ None
  none-behind y ys k up h = not_found key ys k (λ i x e q. let l = before key y ys i x up e in omega (arith, l, h, q))

  -- where the one that is found stays, all do
  one-kept : (xs : List X) (k : ℕ) → Ascend key xs → ((x : X) → find (λ y. key y == k) xs ≡ Some x → change x ≡ x) → map (λ y. if key y == k then change y else y) xs ≡ xs
  one-kept [] k up h = refl
  one-kept (y ∷ ys) k up h = go (key y == k) refl (one-kept ys k (ascend_tail (key y) (map key ys) up))
    where
      go : (b : Bool) → (key y == k) ≡ b → (((x : X) → find (λ z. key z == k) ys ≡ Some x → change x ≡ x) → map (λ z. if key z == k then change z else z) ys ≡ ys)
          → map (λ z. if key z == k then change z else z) (y ∷ ys) ≡ y ∷ ys
      go true t ih =
          ap₂ (λ z zs. z ∷ zs)
          (cond-true (key y == k) (change y) y t ∙ h y (cond-true (key y == k) (Some y) (find (λ z. key z == k) ys) t))
          (map_none key change ys k (none-behind y ys k up (eqb-true (key y) k t)))
      go false t ih =
          ap₂ (λ z zs. z ∷ zs)
          (cond-false (key y == k) (change y) y t)
          (ih (λ x e. h x (cond-false (key y == k) (Some y) (find (λ z. key z == k) ys) t ∙ e)))

module _ (slots : Slots) (slot : Slot) (value : Plain) (serial : ℕ) (up : IsStrictlyIncreasing slots) where
  pub turtles-kept : (ts : List Turtle) → Ascend turtle_serial ts → turtle_entry slots slot serial ts ≡ None → turtles_filled (λ vars. value_set slots vars slot value) serial ts ≡ ts
  turtles-kept ts order e =
      one-kept turtle_serial (λ (t : Turtle). record t { vars = value_set slots t.vars slot value }) ts serial order
      (λ t found. ap (λ (vs : Vars). record t { vars = vs }) (unowned slots t.vars slot value up
      (sym (ap (λ o. entry_of slots slot (option_map (λ (x : Turtle). x.vars) o)) found) ∙ e)))

  pub links-kept : (ls : List Link) → Ascend link_serial ls → link_entry slots slot serial ls ≡ None → links_filled (λ vars. value_set slots vars slot value) serial ls ≡ ls
  links-kept ls order e =
      one-kept link_serial (λ (l : Link). record l { vars = value_set slots l.vars slot value }) ls serial order
      (λ l found. ap (λ (vs : Vars). record l { vars = vs }) (unowned slots l.vars slot value up
      (sym (ap (λ o. entry_of slots slot (option_map (λ (x : Link). x.vars) o)) found) ∙ e)))
