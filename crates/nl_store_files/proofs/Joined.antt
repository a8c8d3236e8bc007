-- Both chains of a turtle's links.
use Rattle.std.proofs.Common.{◌≡◌, ℕ, Bool, true, false, ◌++◌, Option, Some, None, eqb, ◌||◌, refl, sym, ap₂, ◌∙◌, arith}
use Rattle.nl_agents.specs.Changes.{has_end}
use Rattle.nl_agents.specs.declared.agents.Link as tie
use Rattle.nl_store_lists.specs.Chained.{has, IsOnce}
use Rattle.nl_store_records.specs.declared.record.Record.{Record}
use Rattle.nl_index.specs.declared.chains.Chains.{Chains}
use Rattle.nl_links.specs.declared.ends.Ends.{Ends}
use Rattle.nl_store_lists.specs.Rolls.{passes}
use Rattle.nl_store_files.specs.Agents.{link_at}
use Rattle.nl_store_files.specs.Standing.{IsFiles}
use Rattle.nl_store_files.proofs.Members.{begins_with, ends_with, first-members, first-once, second-members, second-once}
use Rattle.nl_store_files.proofs.Listed.{has-both, once-both}

either-passes : (p q : tie.Link → Bool) (o : Option tie.Link) → (passes p o || passes q o) ≡ passes (λ l. p l || q l) o
either-passes p q None = refl
either-passes p q (Some l) = refl

module _ (chains : Chains) (ends : Ends) (at : ℕ → Option Record) (tkey lkey : ℕ → Option ℕ) (tg lg : ℕ) (d : IsFiles chains ends at tkey lkey tg lg) where
  pub both-members : (turtle k : ℕ) → has (d.joined.first turtle ++ d.joined.second turtle) k ≡ passes (has_end turtle) (link_at at k)
  both-members turtle k =
      has-both (d.joined.first turtle) (d.joined.second turtle) k
      ∙ ap₂ (λ a b. a || b) (first-members chains ends at tkey lkey tg lg d turtle k) (second-members chains ends at tkey lkey tg lg d turtle k)
      ∙ either-passes (begins_with turtle) (ends_with turtle) (link_at at k)

  -- a link that begins at the turtle doesn't end there
  one-end : (turtle k : ℕ) (o : Option tie.Link) → link_at at k ≡ o → passes (begins_with turtle) o ≡ true → passes (ends_with turtle) o ≡ false
  one-end turtle k None e h = refl
  one-end turtle k (Some l) e h =
      let differ = d.apart k l e in
      let h' : eqb l.end1 turtle ≡ true = h in
      let differ' : eqb l.end1 l.end2 ≡ false = differ in
      let goal : eqb l.end2 turtle ≡ false = grind arith in
      goal

  both-apart : (turtle k : ℕ) → has (d.joined.first turtle) k ≡ true → has (d.joined.second turtle) k ≡ false
  both-apart turtle k h =
      second-members chains ends at tkey lkey tg lg d turtle k
      ∙ one-end turtle k (link_at at k) refl (sym (first-members chains ends at tkey lkey tg lg d turtle k) ∙ h)

  pub both-once : (turtle : ℕ) → IsOnce (d.joined.first turtle ++ d.joined.second turtle)
  both-once turtle = once-both (d.joined.first turtle) (d.joined.second turtle) (first-once chains ends at tkey lkey tg lg d turtle) (second-once chains ends at tkey lkey tg lg d turtle) (both-apart turtle)
