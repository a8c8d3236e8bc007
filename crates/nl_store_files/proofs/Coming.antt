-- An agent that comes.
use Rattle.std.proofs.Common.{◌≡◌, ◌≢◌, ℕ, ◌+◌, ◌<◌, Bool, true, false, [], ◌∷◌, ◌++◌, Option, Some, None, IsSome, IsSomeAnd, is_some, eqb, refl, sym, ap, ◌∙◌, inl, inr, subst}
use Rattle.std.proofs.lemmas.Bool.{cases_eq}
use Rattle.nl_grid.specs.declared.point.Point.{Point}
use Rattle.nl_agents.specs.Nouns.{Vars}
use Rattle.nl_agents.specs.declared.agents.Turtle as living
use Rattle.nl_agents.specs.declared.agents.Link as tie
use Rattle.nl_store_lists.specs.Chained.{at_number}
use Rattle.nl_store_lists.proofs.Places.{at-here, at-other}
use Rattle.nl_store_records.specs.Records.{fields_at, Sets}
use Rattle.nl_store_records.specs.declared.fields.Body.TheVariants.{Turtle, Link}
use Rattle.nl_store_records.specs.declared.fields.Fields.{Fields}
use Rattle.nl_store_records.specs.declared.record.Record.{Record}
use Rattle.nl_index.specs.Index.{by_birth, chain_of, lists_added, serial_at, serial_in, IsAbove, IsIndex, Lists, MayAdd, SameBare}
use Rattle.nl_index.specs.declared.chains.Chains.{Chains}
use Rattle.nl_index.proofs.Indexes.{index-tests}
use Rattle.nl_links.specs.Sides.{sides_at, HoldsSame}
use Rattle.nl_links.specs.Ends.{lists_joined, HasEnds, Holds, IsEnded, LinkLists, MayJoin, SameUnjoined}
use Rattle.nl_links.specs.declared.ends.Ends.{Ends}
use Rattle.nl_links.proofs.Joins.{ended-sides, ended-tests}
use Rattle.nl_store_lists.specs.Rolls.{roll}
use Rattle.nl_store_lists.proofs.Rolls.{is_roll-more, is_roll-same, roll-more, roll-same}
use Rattle.nl_store_files.specs.Agents.{link_at, link_in, link_serial, turtle_at, turtle_in, turtle_serial}
use Rattle.nl_store_files.specs.Standing.{held, is_link, IsFiles}
use Rattle.nl_store_files.proofs.Parts.{end-of-bare, end_part, ended-alike, fields-of-bare, fields-of-unjoined, fields_in, held-of-bare, held-of-unjoined, index-alike, index-of-unjoined, index_part, set-here, set-other}
use Rattle.nl_store_files.proofs.Counting.{link-by-birth, told-by, turtle-by-birth}

module _ (chains : Chains) (ends : Ends) (at : ℕ → Option Record) (tkey lkey : ℕ → Option ℕ) (tg lg : ℕ) (d : IsFiles chains ends at tkey lkey tg lg) where
  -- all turtles have lesser serials than the next one, and all links
  pub turtles-below : (k : ℕ) → chain_of by_birth (fields_at at k) ≡ Some 0 → serial_at at k < tg
  turtles-below k e =
      let t = turtle-by-birth (fields_at at k) e in
      let l = d.turtles.below t.turtle.serial k (d.turtles.found k t.turtle t.is) in
      rw t.serial_is l

  pub links-below : (k : ℕ) → chain_of by_birth (fields_at at k) ≡ Some 1 → serial_at at k < lg
  links-below k e =
      let l = link-by-birth (fields_at at k) e in
      let b = d.links.below l.link.serial k (d.links.found k l.link l.is) in
      rw l.serial_is b

  module _ (at2 : ℕ → Option Record) (key : ℕ) (entry : Record) (vacant : at key ≡ None) (sets : Sets at at2 key (Some entry)) where
    here : at2 key ≡ Some entry
    here = set-here at at2 key (Some entry) sets

    other : (k : ℕ) → k ≢ key → at2 k ≡ at k
    other = set-other at at2 key (Some entry) sets

    not-key : (k : ℕ) → held at k ≡ true → k ≢ key
    not-key k h e = (let z = subst (λ i. held at i ≡ true) e h in let y = ap is_some vacant in absurd (cc))

    kept-index : IsIndex chains at2 (held at) d.lists
    kept-index = index-alike chains at at2 (held at) d.lists (λ k h. ap index_part (other k (not-key k h))) d.index

    above : ((k : ℕ) → chain_of by_birth (fields_at at k) ≡ chain_of by_birth (Some entry.fields) → serial_at at k < entry.fields.serial) → IsAbove at2 (held at) key
    above less k h e =
        let was : fields_at at2 k ≡ fields_at at k = ap fields_in (other k (not-key k h)) in
        let l = less k (sym (ap (chain_of by_birth) was) ∙ e ∙ ap (λ r. chain_of by_birth (fields_in r)) here) in
        let a : serial_at at2 k ≡ serial_at at k = ap serial_in was in
        let b : serial_at at2 key ≡ entry.fields.serial = ap (λ r. serial_in (fields_in r)) here in
        rw (a, b) l

    pub may-add : ((k : ℕ) → chain_of by_birth (fields_at at k) ≡ chain_of by_birth (Some entry.fields) → serial_at at k < entry.fields.serial) → MayAdd chains at2 key
    may-add less = record { filed = held at; lists = d.lists; index = kept-index; away = ap is_some vacant; above = above less }

    -- ---- chains take it in

    module _ (chains' : Chains) (at3 : ℕ → Option Record)
        (added : (filed : ℕ → Bool) (lists : Lists) (f : Fields) → IsIndex chains at2 filed lists → filed key ≡ false → IsAbove at2 filed key → fields_at at2 key ≡ Some f → IsIndex chains' at3 (at_number filed key true) (lists_added chains.shape f key lists))
        (bares : SameBare at2 at3) (less : (k : ℕ) → chain_of by_birth (fields_at at k) ≡ chain_of by_birth (Some entry.fields) → serial_at at k < entry.fields.serial) where
      index-added : IsIndex chains' at3 (at_number (held at) key true) (lists_added chains.shape entry.fields key d.lists)
      index-added = added (held at) d.lists entry.fields kept-index (ap is_some vacant) (above less) (ap fields_in here)

      held-added : (k : ℕ) → at_number (held at) key true k ≡ held at3 k
      held-added k = elim (cases_eq k key) [
        | inl e ↦ ap (at_number (held at) key true) e ∙ at-here (held at) key true ∙ sym (held-of-bare at2 at3 bares k ∙ ap (λ i. is_some (at2 i)) e ∙ ap is_some here)
        | inr ne ↦ at-other (held at) key true k ne ∙ sym (held-of-bare at2 at3 bares k ∙ ap is_some (other k ne))
      ]

      pub fields-added : (k : ℕ) → fields_at at3 k ≡ at_number (fields_at at) key (Some entry.fields) k
      fields-added k = elim (cases_eq k key) [
        | inl e ↦ fields-of-bare at2 at3 bares k ∙ ap (λ i. fields_at at2 i) e ∙ ap fields_in here ∙ sym (ap (at_number (fields_at at) key (Some entry.fields)) e ∙ at-here (fields_at at) key (Some entry.fields))
        | inr ne ↦ fields-of-bare at2 at3 bares k ∙ ap fields_in (other k ne) ∙ sym (at-other (fields_at at) key (Some entry.fields) k ne)
      ]

      -- what was there before
      ends-added : (k : ℕ) → held at k ≡ true → end_part (at3 k) ≡ end_part (at k)
      ends-added k h = end-of-bare (at3 k) (at2 k) (bares k) ∙ ap end_part (other k (not-key k h))

      link-is-held : (k : ℕ) → is_link at k ≡ true → held at k ≡ true
      link-is-held k h = go (at k) h
        where
          go : (r : Option Record) → is_some (link_in (fields_in r)) ≡ true → is_some r ≡ true
          go None e = absurd (cc)
          go (Some r) e = refl

      -- ---- a turtle

      module _ (ends' : Ends) (tkey' : ℕ → Option ℕ) (p : Point) (breed : ℕ) (vars : Vars)
          (is_f : entry.fields ≡ record { serial = tg; body = Turtle p; breed = breed; vars = vars })
          (enters : Holds ends ends' tg true) (stay : (r : ℕ → Option Record) (filed : ℕ → Bool) (lists : LinkLists) → IsEnded ends r filed lists → IsEnded ends' r filed lists)
          (keys : (s : ℕ) → tkey' s ≡ at_number tkey tg (Some key) s) where
        abbrev new_turtle : living.Turtle
        new_turtle = record { serial = tg; breed = breed; at = p; vars = vars }

        turtles-now : (k : ℕ) → turtle_at at3 k ≡ at_number (turtle_at at) key (Some new_turtle) k
        turtles-now k = told-by turtle_in at at3 key (Some entry.fields) fields-added k ∙ ap (λ o. at_number (turtle_at at) key o k) (ap (λ f. turtle_in (Some f)) is_f)

        links-stay : (k : ℕ) → link_at at3 k ≡ link_at at k
        links-stay k = told-by link_in at at3 key (Some entry.fields) fields-added k ∙ ap (λ o. at_number (link_at at) key o k) (ap (λ f. link_in (Some f)) is_f) ∙ elim (cases_eq k key) [
          | inl e ↦ ap (at_number (link_at at) key None) e ∙ at-here (link_at at) key None ∙ sym (ap (link_at at) e ∙ ap (λ r. link_in (fields_in r)) vacant)
          | inr ne ↦ at-other (link_at at) key None k ne
        ]

        free-turtle : turtle_at at key ≡ None
        free-turtle = ap (λ r. turtle_in (fields_in r)) vacant

        pub turtle-files : IsFiles chains' ends' at3 tkey' lkey (tg + 1) lg
        turtle-files = record {
          lists = lists_added chains.shape entry.fields key d.lists;
          joined = d.joined;
          index = index-tests chains' at3 _ (held at3) _ held-added index-added;
          ended = ended-tests ends' at3 (is_link at) (is_link at3) d.joined (λ k. ap is_some (sym (links-stay k)))
              (ended-alike ends' at at3 (is_link at) d.joined (λ k h. ends-added k (link-is-held k h)) (stay at (is_link at) d.joined d.ended));
          turtles = is_roll-more turtle_serial (turtle_at at) tkey tg d.turtles (turtle_at at3) tkey' key new_turtle free-turtle refl turtles-now keys;
          links = is_roll-same link_serial (link_at at) lkey lg d.links (link_at at3) lkey links-stay (λ m. refl);
          entered = λ s. enters s ∙ elim (cases_eq s tg) [
            | inl e ↦ ap (at_number (λ i. is_some (sides_at ends i)) tg true) e ∙ at-here (λ i. is_some (sides_at ends i)) tg true ∙ sym (ap is_some (keys s ∙ ap (at_number tkey tg (Some key)) e ∙ at-here tkey tg (Some key)))
            | inr ne ↦ at-other (λ i. is_some (sides_at ends i)) tg true s ne ∙ d.entered s ∙ sym (ap is_some (keys s ∙ at-other tkey tg (Some key) s ne))
          ];
          apart = λ k l e. d.apart k l (sym (links-stay k) ∙ e);
        }

        pub turtle-roll : roll (turtle_at at3) tkey' (tg + 1) ≡ roll (turtle_at at) tkey tg ++ new_turtle ∷ []
        turtle-roll = roll-more turtle_serial (turtle_at at) tkey tg d.turtles (turtle_at at3) tkey' key new_turtle free-turtle refl turtles-now keys

        pub turtle-links : roll (link_at at3) lkey lg ≡ roll (link_at at) lkey lg
        turtle-links = roll-same link_serial (link_at at) lkey lg d.links (link_at at3) lkey links-stay (λ m. refl)

      -- ---- a link

      module _ (directed : Bool) (end1 end2 breed : ℕ) (vars : Vars)
          (is_f : entry.fields ≡ record { serial = lg; body = Link directed end1 end2; breed = breed; vars = vars })
          (one : IsSome (tkey end1)) (two : IsSome (tkey end2)) where
        free-link : link_at at key ≡ None
        free-link = ap (λ r. link_in (fields_in r)) vacant

        ended-now : IsEnded ends at3 (is_link at) d.joined
        ended-now = ended-alike ends at at3 (is_link at) d.joined (λ k h. ends-added k (link-is-held k h)) d.ended

        pub may-join : MayJoin ends at3 key
        may-join = record { filed = is_link at; lists = d.joined; ended = ended-now; away = ap is_some free-link }

        fields-key : fields_at at3 key ≡ Some entry.fields
        fields-key = fields-added key ∙ at-here (fields_at at) key (Some entry.fields)

        pub ends-held : IsSomeAnd (fields_at at3 key) (HasEnds ends)
        ends-held = subst (λ o. IsSomeAnd o (HasEnds ends)) (sym (fields-key ∙ ap Some is_f)) (d.entered end1 ∙ one, d.entered end2 ∙ two)

        module _ (ends' : Ends) (at4 : ℕ → Option Record) (lkey' : ℕ → Option ℕ)
            (joins : (filed : ℕ → Bool) (lists : LinkLists) (f : Fields) → IsEnded ends at3 filed lists → filed key ≡ false → fields_at at3 key ≡ Some f → IsEnded ends' at4 (at_number filed key true) (lists_joined f key lists))
            (unjoins : SameUnjoined at3 at4) (holds : HoldsSame ends ends') (differ : eqb end1 end2 ≡ false)
            (keys : (s : ℕ) → lkey' s ≡ at_number lkey lg (Some key) s) where
          abbrev new_link : tie.Link
          new_link = record { serial = lg; breed = breed; directed = directed; end1 = end1; end2 = end2; vars = vars }

          fields-joined : (k : ℕ) → fields_at at4 k ≡ at_number (fields_at at) key (Some entry.fields) k
          fields-joined k = fields-of-unjoined at3 at4 unjoins k ∙ fields-added k

          links-now : (k : ℕ) → link_at at4 k ≡ at_number (link_at at) key (Some new_link) k
          links-now k = told-by link_in at at4 key (Some entry.fields) fields-joined k ∙ ap (λ o. at_number (link_at at) key o k) (ap (λ f. link_in (Some f)) is_f)

          turtles-stay : (k : ℕ) → turtle_at at4 k ≡ turtle_at at k
          turtles-stay k = told-by turtle_in at at4 key (Some entry.fields) fields-joined k ∙ ap (λ o. at_number (turtle_at at) key o k) (ap (λ f. turtle_in (Some f)) is_f) ∙ elim (cases_eq k key) [
            | inl e ↦ ap (at_number (turtle_at at) key None) e ∙ at-here (turtle_at at) key None ∙ sym (ap (turtle_at at) e ∙ ap (λ r. turtle_in (fields_in r)) vacant)
            | inr ne ↦ at-other (turtle_at at) key None k ne
          ]

          links-filed : (k : ℕ) → at_number (is_link at) key true k ≡ is_link at4 k
          links-filed k = elim (cases_eq k key) [
            | inl e ↦ ap (at_number (is_link at) key true) e ∙ at-here (is_link at) key true ∙ sym (ap is_some (links-now k ∙ ap (at_number (link_at at) key (Some new_link)) e ∙ at-here (link_at at) key (Some new_link)))
            | inr ne ↦ at-other (is_link at) key true k ne ∙ sym (ap is_some (links-now k ∙ at-other (link_at at) key (Some new_link) k ne))
          ]

          pub link-files : IsFiles chains' ends' at4 tkey lkey' tg (lg + 1)
          link-files = record {
            lists = lists_added chains.shape entry.fields key d.lists;
            joined = lists_joined entry.fields key d.joined;
            index = index-tests chains' at4 _ (held at4) _ (λ k. held-added k ∙ sym (held-of-unjoined at3 at4 unjoins k))
                (index-alike chains' at3 at4 _ _ (λ k h. index-of-unjoined at3 at4 unjoins k) index-added);
            ended = ended-tests ends' at4 _ (is_link at4) _ links-filed (joins (is_link at) d.joined entry.fields ended-now (ap is_some free-link) fields-key);
            turtles = is_roll-same turtle_serial (turtle_at at) tkey tg d.turtles (turtle_at at4) tkey turtles-stay (λ m. refl);
            links = is_roll-more link_serial (link_at at) lkey lg d.links (link_at at4) lkey' key new_link free-link refl links-now keys;
            entered = λ s. holds s ∙ d.entered s;
            apart = λ k l e. elim (cases_eq k key) [
              | inl q ↦ (
                  let z = sym (links-now k ∙ ap (at_number (link_at at) key (Some new_link)) q ∙ at-here (link_at at) key (Some new_link)) ∙ e in
                  let s : new_link ≡ l = cc in
                  subst (λ (x : tie.Link). eqb x.end1 x.end2 ≡ false) s differ)
              | inr ne ↦ d.apart k l (sym (links-now k ∙ at-other (link_at at) key (Some new_link) k ne) ∙ e)
            ];
          }

          pub link-roll : roll (link_at at4) lkey' (lg + 1) ≡ roll (link_at at) lkey lg ++ new_link ∷ []
          link-roll = roll-more link_serial (link_at at) lkey lg d.links (link_at at4) lkey' key new_link free-link refl links-now keys

          pub link-turtles : roll (turtle_at at4) tkey tg ≡ roll (turtle_at at) tkey tg
          link-turtles = roll-same turtle_serial (turtle_at at) tkey tg d.turtles (turtle_at at4) tkey turtles-stay (λ m. refl)

  -- ---- the same records, keys and ends

  module _ (ends' : Ends) (at' : ℕ → Option Record) (tkey' lkey' : ℕ → Option ℕ)
      (sides : (t : ℕ) → sides_at ends' t ≡ sides_at ends t) (records : (k : ℕ) → at' k ≡ at k) (turtle_keys : (s : ℕ) → tkey' s ≡ tkey s) (link_keys : (s : ℕ) → lkey' s ≡ lkey s) where
    pub same-files : IsFiles chains ends' at' tkey' lkey' tg lg
    same-files = record {
      lists = d.lists;
      joined = d.joined;
      index = index-tests chains at' (held at) (held at') d.lists (λ k. ap is_some (sym (records k))) (index-alike chains at at' (held at) d.lists (λ k _. ap index_part (records k)) d.index);
      ended = ended-tests ends' at' (is_link at) (is_link at') d.joined (λ k. ap (λ r. is_some (link_in (fields_in r))) (sym (records k)))
          (ended-alike ends' at at' (is_link at) d.joined (λ k _. ap end_part (records k)) (ended-sides ends ends' at (is_link at) d.joined sides d.ended));
      turtles = is_roll-same turtle_serial (turtle_at at) tkey tg d.turtles (turtle_at at') tkey' (λ k. ap (λ r. turtle_in (fields_in r)) (records k)) turtle_keys;
      links = is_roll-same link_serial (link_at at) lkey lg d.links (link_at at') lkey' (λ k. ap (λ r. link_in (fields_in r)) (records k)) link_keys;
      entered = λ s. ap is_some (sides s) ∙ d.entered s ∙ sym (ap is_some (turtle_keys s));
      apart = λ k l e. d.apart k l (sym (ap (λ r. link_in (fields_in r)) (records k)) ∙ e);
    }

    pub same-turtles : roll (turtle_at at') tkey' tg ≡ roll (turtle_at at) tkey tg
    same-turtles = roll-same turtle_serial (turtle_at at) tkey tg d.turtles (turtle_at at') tkey' (λ k. ap (λ r. turtle_in (fields_in r)) (records k)) turtle_keys

    pub same-links : roll (link_at at') lkey' lg ≡ roll (link_at at) lkey lg
    same-links = roll-same link_serial (link_at at) lkey lg d.links (link_at at') lkey' (λ k. ap (λ r. link_in (fields_in r)) (records k)) link_keys
