-- A link that goes.
use Rattle.std.proofs.Common.{◌≡◌, ◌≢◌, ℕ, ◌+◌, Bool, true, false, not, filter, length, Option, Some, None, IsSome, is_some, cond, refl, sym, ap, ◌∙◌, inl, inr, subst}
use Rattle.std.proofs.lemmas.Bool.{cases_eq}
use Rattle.nl_agents.specs.declared.agents.Turtle as living
use Rattle.nl_agents.specs.declared.agents.Link as tie
use Rattle.nl_store_lists.specs.Chained.{at_number}
use Rattle.nl_store_lists.proofs.Places.{at-here, at-other}
use Rattle.nl_store_records.specs.Records.{fields_at, Sets}
use Rattle.nl_store_records.specs.declared.fields.Fields.{Fields}
use Rattle.nl_store_records.specs.declared.record.Record.{Record}
use Rattle.nl_index.specs.Index.{lists_removed, IsIndex, IsListed, Lists, SameBare}
use Rattle.nl_index.specs.declared.chains.Chains.{Chains}
use Rattle.nl_index.proofs.Indexes.{index-tests}
use Rattle.nl_links.specs.Sides.{HoldsSame}
use Rattle.nl_links.specs.Ends.{lists_parted, IsEnded, IsJoined, LinkLists, SameUnjoined}
use Rattle.nl_links.specs.declared.ends.Ends.{Ends}
use Rattle.nl_links.proofs.Joins.{ended-tests}
use Rattle.nl_store_lists.specs.Rolls.{roll}
use Rattle.nl_store_lists.proofs.Collecting.{is_at}
use Rattle.nl_store_lists.proofs.Rolls.{is_roll-less, is_roll-same, roll-count-less, roll-less, roll-same, roll-shorter}
use Rattle.nl_store_files.specs.Agents.{link_at, link_in, link_serial, turtle_at, turtle_in, turtle_serial}
use Rattle.nl_store_files.specs.Standing.{held, is_link, IsFiles}
use Rattle.nl_store_files.proofs.Parts.{end-of-bare, end_part, ended-alike, fields-of-bare, fields-of-unjoined, fields_in, held-of-bare, held-of-unjoined, index-alike, index-of-unjoined, index_part, set-here, set-other}
use Rattle.nl_store_files.proofs.Counting.{has-fields, link-held, told-by, turtle-or-link}

no-turtle : (o : Option Fields) (l : tie.Link) → link_in o ≡ Some l → turtle_in o ≡ None
no-turtle o l e = go (turtle_in o) refl
  where
    go : (t : Option living.Turtle) → turtle_in o ≡ t → turtle_in o ≡ None
    go None q = q
    go (Some t) q = absurd (turtle-or-link o t l q e)

module _ (chains : Chains) (ends : Ends) (at : ℕ → Option Record) (tkey lkey : ℕ → Option ℕ) (tg lg : ℕ) (d : IsFiles chains ends at tkey lkey tg lg) where
  -- ---- a link

  module _ (link key : ℕ) (kl : lkey link ≡ Some key) where
    abbrev gone_link : tie.Link
    gone_link = (d.links.right link key kl).item

    here-link : link_at at key ≡ Some gone_link
    here-link = (d.links.right link key kl).is

    pub link-is-held : IsSome (at key)
    link-is-held = link-held at key gone_link here-link

    pub is-joined : IsJoined ends at key
    is-joined = record { filed = is_link at; lists = d.joined; ended = d.ended; here = ap is_some here-link }

    module _ (ends1 : Ends) (at1 : ℕ → Option Record)
        (parted : (filed : ℕ → Bool) (lists : LinkLists) (f : Fields) → IsEnded ends at filed lists → filed key ≡ true → fields_at at key ≡ Some f → IsEnded ends1 at1 (at_number filed key false) (lists_parted f key lists))
        (unjoins : SameUnjoined at at1) (holds : HoldsSame ends ends1) where
      held-then : (k : ℕ) → is_some (at1 k) ≡ is_some (at k)
      held-then k = held-of-unjoined at at1 unjoins k

      index-then : IsIndex chains at1 (held at) d.lists
      index-then = index-alike chains at at1 (held at) d.lists (λ k h. index-of-unjoined at at1 unjoins k) d.index

      pub link-held-then : IsSome (at1 key)
      link-held-then = held-then key ∙ link-is-held

      pub link-is-listed : IsListed chains at1 key
      link-is-listed = record { filed = held at; lists = d.lists; index = index-then; here = link-is-held }

      module _ (chains2 : Chains) (at2 at3 : ℕ → Option Record) (lkey' : ℕ → Option ℕ)
          (removed : (filed : ℕ → Bool) (lists : Lists) (f : Fields) → IsIndex chains at1 filed lists → filed key ≡ true → fields_at at1 key ≡ Some f → IsIndex chains2 at2 (at_number filed key false) (lists_removed chains.shape f key lists))
          (bares : SameBare at1 at2) (taken : Sets at2 at3 key None) (keys : (s : ℕ) → lkey' s ≡ at_number lkey link None s) where
        abbrev entry : Record
        entry = (has-fields (at key) link-is-held).entry

        fields-key : fields_at at key ≡ Some entry.fields
        fields-key = ap fields_in (has-fields (at key) link-is-held).is

        gone : at3 key ≡ None
        gone = set-here at2 at3 key None taken

        other : (k : ℕ) → k ≢ key → at3 k ≡ at2 k
        other = set-other at2 at3 key None taken

        fields-left : (k : ℕ) → fields_at at3 k ≡ at_number (fields_at at) key None k
        fields-left k = elim (cases_eq k key) [
          | inl e ↦ ap (fields_at at3) e ∙ ap fields_in gone ∙ sym (ap (at_number (fields_at at) key None) e ∙ at-here (fields_at at) key None)
          | inr ne ↦ ap fields_in (other k ne) ∙ fields-of-bare at1 at2 bares k ∙ fields-of-unjoined at at1 unjoins k ∙ sym (at-other (fields_at at) key None k ne)
        ]

        held-left : (k : ℕ) → at_number (held at) key false k ≡ held at3 k
        held-left k = elim (cases_eq k key) [
          | inl e ↦ ap (at_number (held at) key false) e ∙ at-here (held at) key false ∙ sym (ap (held at3) e ∙ ap is_some gone)
          | inr ne ↦ at-other (held at) key false k ne ∙ sym (ap is_some (other k ne) ∙ held-of-bare at1 at2 bares k ∙ held-then k)
        ]

        links-left : (k : ℕ) → link_at at3 k ≡ at_number (link_at at) key None k
        links-left k = told-by link_in at at3 key None fields-left k

        turtles-stay : (k : ℕ) → turtle_at at3 k ≡ turtle_at at k
        turtles-stay k = told-by turtle_in at at3 key None fields-left k ∙ elim (cases_eq k key) [
          | inl e ↦ ap (at_number (turtle_at at) key None) e ∙ at-here (turtle_at at) key None ∙ sym (ap (turtle_at at) e ∙ no-turtle (fields_at at key) gone_link here-link)
          | inr ne ↦ at-other (turtle_at at) key None k ne
        ]

        filed-left : (k : ℕ) → at_number (is_link at) key false k ≡ is_link at3 k
        filed-left k = elim (cases_eq k key) [
          | inl e ↦ ap (at_number (is_link at) key false) e ∙ at-here (is_link at) key false ∙ sym (ap is_some (links-left k ∙ ap (at_number (link_at at) key None) e ∙ at-here (link_at at) key None))
          | inr ne ↦ at-other (is_link at) key false k ne ∙ sym (ap is_some (links-left k ∙ at-other (link_at at) key None k ne))
        ]

        -- a key that is still filed isn't this one
        apart-key : (filed : ℕ → Bool) (k : ℕ) → at_number filed key false k ≡ true → k ≢ key
        apart-key filed k h e = (let z = subst (λ i. at_number filed key false i ≡ true) e h in let y = at-here filed key false in absurd (cc))

        index-left : IsIndex chains2 at3 (held at3) (lists_removed chains.shape entry.fields key d.lists)
        index-left = index-tests chains2 at3 _ (held at3) _ held-left
            (index-alike chains2 at2 at3 _ _ (λ k h. ap index_part (other k (apart-key (held at) k h)))
            (removed (held at) d.lists entry.fields index-then link-is-held (fields-of-unjoined at at1 unjoins key ∙ fields-key)))

        ended-left : IsEnded ends1 at3 (is_link at3) (lists_parted entry.fields key d.joined)
        ended-left = ended-tests ends1 at3 _ (is_link at3) _ filed-left
            (ended-alike ends1 at1 at3 _ _ (λ k h. ap end_part (other k (apart-key (is_link at) k h)) ∙ end-of-bare (at2 k) (at1 k) (bares k))
            (parted (is_link at) d.joined entry.fields d.ended (ap is_some here-link) fields-key))

        number : gone_link.serial ≡ link
        number = (d.links.right link key kl).number_is

        pub link-files : IsFiles chains2 ends1 at3 tkey lkey' tg lg
        link-files = record {
          lists = lists_removed chains.shape entry.fields key d.lists;
          joined = lists_parted entry.fields key d.joined;
          index = index-left;
          ended = ended-left;
          turtles = is_roll-same turtle_serial (turtle_at at) tkey tg d.turtles (turtle_at at3) tkey turtles-stay (λ m. refl);
          links = is_roll-less link_serial (link_at at) lkey lg d.links (link_at at3) lkey' key link gone_link here-link number links-left keys;
          entered = λ s. holds s ∙ d.entered s;
          apart = λ k l e. elim (cases_eq k key) [
            | inl q ↦ (let z = sym (links-left k ∙ ap (at_number (link_at at) key None) q ∙ at-here (link_at at) key None) ∙ e in absurd (cc))
            | inr ne ↦ d.apart k l (sym (links-left k ∙ at-other (link_at at) key None k ne) ∙ e)
          ];
        }

        pub link-roll : roll (link_at at3) lkey' lg ≡ filter (λ l. not (is_at link_serial link l)) (roll (link_at at) lkey lg)
        link-roll = roll-less link_serial (link_at at) lkey lg d.links (link_at at3) lkey' key link gone_link here-link number links-left keys

        pub link-turtles : roll (turtle_at at3) tkey tg ≡ roll (turtle_at at) tkey tg
        link-turtles = roll-same turtle_serial (turtle_at at) tkey tg d.turtles (turtle_at at3) tkey turtles-stay (λ m. refl)

        -- there is one less, and one less of those that pass a test that it passes
        pub link-shorter : length (roll (link_at at3) lkey' lg) + 1 ≡ length (roll (link_at at) lkey lg)
        link-shorter = roll-shorter link_serial (link_at at) lkey lg d.links (link_at at3) lkey' key link gone_link here-link number links-left keys

        pub link-counts : (p : tie.Link → Bool) → length (filter p (roll (link_at at3) lkey' lg)) + cond (p gone_link) 1 0 ≡ length (filter p (roll (link_at at) lkey lg))
        link-counts p = roll-count-less link_serial (link_at at) lkey lg d.links (link_at at3) lkey' key link gone_link here-link number links-left keys p
