-- The locals that a block made are forgotten behind it.
use Rattle.std.proofs.Common.{◌≡◌, ℕ, List, take, refl, ap, ◌∙◌, sym, subst}
use Rattle.nl_fixed.specs.Nouns.{Names}
use Rattle.nl_agents.specs.declared.store.Store.{Ghosts}
use Rattle.nl_exec_meaning.specs.State.{Held, with_locals}
use Rattle.nl_exec_meaning.specs.Blocks.{cut_to}
use Rattle.nl_exec_meaning.specs.Ground.{fits}
use Rattle.nl_exec_meaning.specs.Kept.{Kept, all_held}
use Rattle.nl_exec_meaning.specs.Means.{Stands}
use Rattle.nl_exec_meaning.specs.Seen.{ground, state_of}
use Rattle.nl_exec_meaning.specs.Standing.{LocalsFit}
use Rattle.nl_exec_meaning.specs.declared.hands.Hands.{Hands}
use Rattle.nl_exec_meaning.proofs.Grounds.{pass_take}
use Rattle.nl_exec_meaning.proofs.Newest.{held_take}
use Rattle.nl_exec_meaning.proofs.Standing.{stands_on}
use Rattle.nl_exec_walks.proofs.Turns.{stands_through}

module _ {S : Type 0} {G : Ghosts S} (h : Hands S G) (kept : ℕ) (locals : List Kept) (are : locals ≡ take kept h.locals) where
  pub cut_state : (names : Names) (n : ℕ) → cut_to kept (state_of names h n) ≡ state_of names (record h { locals = locals }) n
  cut_state names n =
      ap (λ (ls : List Held). with_locals ls (state_of names h n)) (held_take names h.locals kept ∙ sym (ap (all_held names) are))

  pub cut_stands : (before : Hands S G) → Stands h before → Stands (record h { locals = locals }) before
  cut_stands before stands =
      let now = ground h in
      stands_through (record h { locals = locals }) h before
      (stands_on (record h { locals = locals }) h
      (subst (λ (ks : List Kept). LocalsFit now ks) (sym are) (pass_take (λ (k : Kept). fits now k.value) kept h.locals stands.fit.locals))
      stands.fit.site refl)
      stands
