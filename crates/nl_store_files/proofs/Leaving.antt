-- A turtle that goes.
use Rattle.std.proofs.Common.{◌≡◌, ◌≢◌, ℕ, ◌+◌, Bool, true, false, not, [], filter, length, Option, Some, None, IsSome, is_some, eqb, cond, ◌||◌, refl, sym, ap, ◌∙◌, inl, inr, subst}
use Rattle.std.specs.List.{list_any}
use Rattle.std.proofs.lemmas.Bool.{cases_eq}
use Rattle.nl_agents.specs.Changes.{has_end}
use Rattle.nl_agents.specs.declared.agents.Turtle as living
use Rattle.nl_agents.specs.declared.agents.Link as tie
use Rattle.nl_store_lists.specs.Chained.{at_number, has}
use Rattle.nl_store_lists.proofs.Places.{at-here, at-other}
use Rattle.nl_store_records.specs.Records.{fields_at, Sets}
use Rattle.nl_store_records.specs.declared.fields.Fields.{Fields}
use Rattle.nl_store_records.specs.declared.record.Record.{Record}
use Rattle.nl_index.specs.Index.{lists_removed, IsIndex, IsListed, Lists, SameBare}
use Rattle.nl_index.specs.declared.chains.Chains.{Chains}
use Rattle.nl_index.proofs.Indexes.{index-tests}
use Rattle.nl_links.specs.Sides.{sides_at}
use Rattle.nl_links.specs.Ends.{Holds, IsEnded, IsFree, LinkLists}
use Rattle.nl_links.specs.declared.ends.Ends.{Ends}
use Rattle.nl_links.proofs.Joins.{ended-tests}
use Rattle.nl_store_lists.specs.Rolls.{roll, passes}
use Rattle.nl_store_lists.proofs.Collecting.{is_at}
use Rattle.nl_store_lists.proofs.Rolls.{is_roll-less, is_roll-same, roll-count-less, roll-less, roll-same, roll-shorter}
use Rattle.nl_store_files.specs.Agents.{link_at, link_in, link_serial, turtle_at, turtle_in, turtle_serial}
use Rattle.nl_store_files.specs.Standing.{held, is_link, IsFiles}
use Rattle.nl_store_files.proofs.Parts.{end-of-bare, end_part, ended-alike, fields-of-bare, fields_in, held-of-bare, index-alike, index_part, set-here, set-other}
use Rattle.nl_store_files.proofs.Counting.{has-fields, told-by, turtle-held, turtle-or-link}
use Rattle.nl_store_files.proofs.Members.{first-members, has-none, roll-any, second-members}

no-link : (o : Option Fields) (t : living.Turtle) → turtle_in o ≡ Some t → link_in o ≡ None
no-link o t e = go (link_in o) refl
  where
    go : (l : Option tie.Link) → link_in o ≡ l → link_in o ≡ None
    go None q = q
    go (Some l) q = absurd (turtle-or-link o t l e q)

module _ (chains : Chains) (ends : Ends) (at : ℕ → Option Record) (tkey lkey : ℕ → Option ℕ) (tg lg : ℕ) (d : IsFiles chains ends at tkey lkey tg lg) where
  -- ---- a turtle that no link has as an end

  module _ (turtle key : ℕ) (kt : tkey turtle ≡ Some key) (free : list_any (has_end turtle) (roll (link_at at) lkey lg) ≡ false) where
    abbrev gone_turtle : living.Turtle
    gone_turtle = (d.turtles.right turtle key kt).item

    here-turtle : turtle_at at key ≡ Some gone_turtle
    here-turtle = (d.turtles.right turtle key kt).is

    pub turtle-is-held : IsSome (at key)
    turtle-is-held = turtle-held at key gone_turtle here-turtle

    pub turtle-entered : IsSome (sides_at ends turtle)
    turtle-entered = d.entered turtle ∙ ap is_some kt

    no-end : (k : ℕ) (l : tie.Link) → link_at at k ≡ Some l → has_end turtle l ≡ true → ⊥
    no-end k l e h = (let z = roll-any (has_end turtle) link_serial (link_at at) lkey lg d.links k l e h in absurd (cc))

    first-none : (k : ℕ) → has (d.joined.first turtle) k ≡ true → ⊥
    first-none k h = go (link_at at k) refl (sym (first-members chains ends at tkey lkey tg lg d turtle k) ∙ h)
      where
        go : (o : Option tie.Link) → link_at at k ≡ o → passes (λ (l : tie.Link). eqb l.end1 turtle) (link_at at k) ≡ true → ⊥
        go None e p = (let z = sym (ap (passes (λ (l : tie.Link). eqb l.end1 turtle)) e) ∙ p in absurd (cc))
        go (Some l) e p =
            let z : eqb l.end1 turtle ≡ true = sym (ap (passes (λ (l : tie.Link). eqb l.end1 turtle)) e) ∙ p in
            no-end k l e (ap (λ b. b || eqb l.end2 turtle) z)

    second-none : (k : ℕ) → has (d.joined.second turtle) k ≡ true → ⊥
    second-none k h = go (link_at at k) refl (sym (second-members chains ends at tkey lkey tg lg d turtle k) ∙ h)
      where
        or-true : (b : Bool) → (b || true) ≡ true
        or-true true = refl
        or-true false = refl

        go : (o : Option tie.Link) → link_at at k ≡ o → passes (λ (l : tie.Link). eqb l.end2 turtle) (link_at at k) ≡ true → ⊥
        go None e p = (let z = sym (ap (passes (λ (l : tie.Link). eqb l.end2 turtle)) e) ∙ p in absurd (cc))
        go (Some l) e p =
            let z : eqb l.end2 turtle ≡ true = sym (ap (passes (λ (l : tie.Link). eqb l.end2 turtle)) e) ∙ p in
            no-end k l e (ap (λ b. eqb l.end1 turtle || b) z ∙ or-true (eqb l.end1 turtle))

    pub is-free : IsFree ends turtle
    is-free = record {
      at = at;
      filed = is_link at;
      lists = d.joined;
      ended = d.ended;
      first = has-none (d.joined.first turtle) first-none;
      second = has-none (d.joined.second turtle) second-none;
    }

    pub turtle-is-listed : IsListed chains at key
    turtle-is-listed = record { filed = held at; lists = d.lists; index = d.index; here = turtle-is-held }

    module _ (ends1 : Ends) (chains2 : Chains) (at2 at3 : ℕ → Option Record) (tkey' : ℕ → Option ℕ)
        (leaves : (r : ℕ → Option Record) (filed : ℕ → Bool) (lists : LinkLists) → IsEnded ends r filed lists → lists.first turtle ≡ [] → lists.second turtle ≡ [] → IsEnded ends1 r filed lists)
        (holds : Holds ends ends1 turtle false)
        (removed : (filed : ℕ → Bool) (lists : Lists) (f : Fields) → IsIndex chains at filed lists → filed key ≡ true → fields_at at key ≡ Some f → IsIndex chains2 at2 (at_number filed key false) (lists_removed chains.shape f key lists))
        (bares : SameBare at at2) (taken : Sets at2 at3 key None) (keys : (s : ℕ) → tkey' s ≡ at_number tkey turtle None s) where
      abbrev entry : Record
      entry = (has-fields (at key) turtle-is-held).entry

      fields-key : fields_at at key ≡ Some entry.fields
      fields-key = ap fields_in (has-fields (at key) turtle-is-held).is

      gone : at3 key ≡ None
      gone = set-here at2 at3 key None taken

      other : (k : ℕ) → k ≢ key → at3 k ≡ at2 k
      other = set-other at2 at3 key None taken

      fields-left : (k : ℕ) → fields_at at3 k ≡ at_number (fields_at at) key None k
      fields-left k = elim (cases_eq k key) [
        | inl e ↦ ap (fields_at at3) e ∙ ap fields_in gone ∙ sym (ap (at_number (fields_at at) key None) e ∙ at-here (fields_at at) key None)
        | inr ne ↦ ap fields_in (other k ne) ∙ fields-of-bare at at2 bares k ∙ sym (at-other (fields_at at) key None k ne)
      ]

      held-left : (k : ℕ) → at_number (held at) key false k ≡ held at3 k
      held-left k = elim (cases_eq k key) [
        | inl e ↦ ap (at_number (held at) key false) e ∙ at-here (held at) key false ∙ sym (ap (held at3) e ∙ ap is_some gone)
        | inr ne ↦ at-other (held at) key false k ne ∙ sym (ap is_some (other k ne) ∙ held-of-bare at at2 bares k)
      ]

      turtles-left : (k : ℕ) → turtle_at at3 k ≡ at_number (turtle_at at) key None k
      turtles-left k = told-by turtle_in at at3 key None fields-left k

      links-stay : (k : ℕ) → link_at at3 k ≡ link_at at k
      links-stay k = told-by link_in at at3 key None fields-left k ∙ elim (cases_eq k key) [
        | inl e ↦ ap (at_number (link_at at) key None) e ∙ at-here (link_at at) key None ∙ sym (ap (link_at at) e ∙ no-link (fields_at at key) gone_turtle here-turtle)
        | inr ne ↦ at-other (link_at at) key None k ne
      ]

      -- a link isn't under this key
      link-apart : (k : ℕ) → is_link at k ≡ true → k ≢ key
      link-apart k h e = (let z = subst (λ i. is_link at i ≡ true) e h in let y = ap is_some (no-link (fields_at at key) gone_turtle here-turtle) in absurd (cc))

      apart-key : (k : ℕ) → at_number (held at) key false k ≡ true → k ≢ key
      apart-key k h e = (let z = subst (λ i. at_number (held at) key false i ≡ true) e h in let y = at-here (held at) key false in absurd (cc))

      number : gone_turtle.serial ≡ turtle
      number = (d.turtles.right turtle key kt).number_is

      pub turtle-files : IsFiles chains2 ends1 at3 tkey' lkey tg lg
      turtle-files = record {
        lists = lists_removed chains.shape entry.fields key d.lists;
        joined = d.joined;
        index = index-tests chains2 at3 _ (held at3) _ held-left
            (index-alike chains2 at2 at3 _ _ (λ k h. ap index_part (other k (apart-key k h))) (removed (held at) d.lists entry.fields d.index turtle-is-held fields-key));
        ended = ended-tests ends1 at3 (is_link at) (is_link at3) d.joined (λ k. ap is_some (sym (links-stay k)))
            (ended-alike ends1 at at3 (is_link at) d.joined (λ k h. ap end_part (other k (link-apart k h)) ∙ end-of-bare (at2 k) (at k) (bares k))
            (leaves at (is_link at) d.joined d.ended (has-none (d.joined.first turtle) first-none) (has-none (d.joined.second turtle) second-none)));
        turtles = is_roll-less turtle_serial (turtle_at at) tkey tg d.turtles (turtle_at at3) tkey' key turtle gone_turtle here-turtle number turtles-left keys;
        links = is_roll-same link_serial (link_at at) lkey lg d.links (link_at at3) lkey links-stay (λ m. refl);
        entered = λ s. holds s ∙ elim (cases_eq s turtle) [
          | inl e ↦ ap (at_number (λ i. is_some (sides_at ends i)) turtle false) e ∙ at-here (λ i. is_some (sides_at ends i)) turtle false ∙ sym (ap is_some (keys s ∙ ap (at_number tkey turtle None) e ∙ at-here tkey turtle None))
          | inr ne ↦ at-other (λ i. is_some (sides_at ends i)) turtle false s ne ∙ d.entered s ∙ sym (ap is_some (keys s ∙ at-other tkey turtle None s ne))
        ];
        apart = λ k l e. d.apart k l (sym (links-stay k) ∙ e);
      }

      pub turtle-roll : roll (turtle_at at3) tkey' tg ≡ filter (λ t. not (is_at turtle_serial turtle t)) (roll (turtle_at at) tkey tg)
      turtle-roll = roll-less turtle_serial (turtle_at at) tkey tg d.turtles (turtle_at at3) tkey' key turtle gone_turtle here-turtle number turtles-left keys

      pub turtle-links : roll (link_at at3) lkey lg ≡ roll (link_at at) lkey lg
      turtle-links = roll-same link_serial (link_at at) lkey lg d.links (link_at at3) lkey links-stay (λ m. refl)

      -- there is one less, and one less of those that pass a test that it passes
      pub turtle-shorter : length (roll (turtle_at at3) tkey' tg) + 1 ≡ length (roll (turtle_at at) tkey tg)
      turtle-shorter = roll-shorter turtle_serial (turtle_at at) tkey tg d.turtles (turtle_at at3) tkey' key turtle gone_turtle here-turtle number turtles-left keys

      pub turtle-counts : (p : living.Turtle → Bool) → length (filter p (roll (turtle_at at3) tkey' tg)) + cond (p gone_turtle) 1 0 ≡ length (filter p (roll (turtle_at at) tkey tg))
      turtle-counts p = roll-count-less turtle_serial (turtle_at at) tkey tg d.turtles (turtle_at at3) tkey' key turtle gone_turtle here-turtle number turtles-left keys p
