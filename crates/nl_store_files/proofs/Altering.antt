-- An agent that moves, is of another breed, or has other variables.
use Rattle.std.proofs.Common.{◌≡◌, ◌≢◌, ℕ, Bool, true, false, map, Option, Some, None, IsSome, is_some, eqb, cond, refl, sym, ap, ◌∙◌, inl, inr, arith, subst}
use Rattle.std.specs.Option.{option_map}
use Rattle.std.proofs.lemmas.Bool.{cases_eq}
use Rattle.nl_grid.specs.declared.point.Point.{Point}
use Rattle.nl_agents.specs.Nouns.{Vars}
use Rattle.nl_agents.specs.declared.agents.Turtle as living
use Rattle.nl_agents.specs.declared.agents.Link as tie
use Rattle.nl_store_lists.specs.Chained.{at_number}
use Rattle.nl_store_lists.proofs.Places.{at-here, at-other}
use Rattle.nl_store_records.specs.Records.{fields_at, settled}
use Rattle.nl_store_records.specs.declared.fields.Body.{Body}
use Rattle.nl_store_records.specs.declared.fields.Body.TheVariants.{Turtle, Link}
use Rattle.nl_store_records.specs.declared.fields.Fields.{Fields}
use Rattle.nl_store_records.specs.declared.record.Record.{Record}
use Rattle.nl_index.specs.Index.{bare, birth_chain, lists_refiled, IsIndex, IsListed, IsTurtle, Lists, MovesBare}
use Rattle.nl_index.specs.declared.chains.Chains.{Chains}
use Rattle.nl_index.proofs.Indexes.{index-tests}
use Rattle.nl_links.specs.declared.ends.Ends.{Ends}
use Rattle.nl_links.proofs.Joins.{ended-tests}
use Rattle.nl_store_lists.specs.Rolls.{roll}
use Rattle.nl_store_lists.proofs.Collecting.{altered}
use Rattle.nl_store_lists.proofs.Rolls.{is_roll-changed, is_roll-same, roll-changed, roll-same}
use Rattle.nl_store_files.specs.Agents.{link_at, link_in, link_serial, turtle_at, turtle_in, turtle_serial}
use Rattle.nl_store_files.specs.Standing.{held, is_link, with_vars, ChangesVars, IsFiles}
use Rattle.nl_store_files.proofs.Parts.{by-part, end-of-bare, end_part, ended-alike, fields_in, index-alike, index_part, set-here}
use Rattle.nl_store_files.proofs.Counting.{has-fields, told-by, turtle-held, turtle-or-link}

no-turtle : (o : Option Fields) (l : tie.Link) → link_in o ≡ Some l → turtle_in o ≡ None
no-turtle o l e = go (turtle_in o) refl
  where
    go : (t : Option living.Turtle) → turtle_in o ≡ t → turtle_in o ≡ None
    go None q = q
    go (Some t) q = absurd (turtle-or-link o t l q e)

no-link : (o : Option Fields) (t : living.Turtle) → turtle_in o ≡ Some t → link_in o ≡ None
no-link o t e = go (link_in o) refl
  where
    go : (l : Option tie.Link) → link_in o ≡ l → link_in o ≡ None
    go None q = q
    go (Some l) q = absurd (turtle-or-link o t l e q)

-- the turtle of fields, elsewhere and of another breed
turned : (f : Fields) (t : living.Turtle) (to : Point) (breed : ℕ) → turtle_in (Some f) ≡ Some t → turtle_in (Some (record f { body = Turtle to; breed = breed })) ≡ Some (record t { at = to; breed = breed })
turned f t to breed e = go f.body refl
  where
    go : (b : Body) → f.body ≡ b → turtle_in (Some (record f { body = Turtle to; breed = breed })) ≡ Some (record t { at = to; breed = breed })
    go (Turtle at) q =
        let z = sym (ap (λ b. turtle_in (Some (record f { body = b }))) q) ∙ e in
        let s : record { serial = f.serial; breed = f.breed; at = at; vars = f.vars } ≡ t = cc in
        ap (λ (x : living.Turtle). Some (record x { at = to; breed = breed })) s
    go (Link directed end1 end2) q = (let z = sym (ap (λ b. turtle_in (Some (record f { body = b }))) q) ∙ e in absurd (cc))

pub is-turtle : (o : Option Fields) (t : living.Turtle) → turtle_in o ≡ Some t → IsTurtle o
is-turtle None t e = absurd (cc)
is-turtle (Some f) t e = go f.body refl
  where
    go : (b : Body) → f.body ≡ b → birth_chain f.body ≡ 0
    go (Turtle at) q = ap birth_chain q
    go (Link directed end1 end2) q = (let z = sym (ap (λ b. turtle_in (Some (record f { body = b }))) q) ∙ e in absurd (cc))

-- other variables of a turtle, and of a link
revalued-turtle : (change : Vars → Vars) (o : Option Fields) (t : living.Turtle) → turtle_in o ≡ Some t → turtle_in (option_map (λ (f : Fields). record f { vars = change f.vars }) o) ≡ Some (record t { vars = change t.vars })
revalued-turtle change None t e = absurd (cc)
revalued-turtle change (Some f) t e = go f.body refl
  where
    go : (b : Body) → f.body ≡ b → turtle_in (Some (record f { vars = change f.vars })) ≡ Some (record t { vars = change t.vars })
    go (Turtle at) q =
        let z = sym (ap (λ b. turtle_in (Some (record f { body = b }))) q) ∙ e in
        let s : record { serial = f.serial; breed = f.breed; at = at; vars = f.vars } ≡ t = cc in
        ap (λ b. turtle_in (Some (record f { body = b; vars = change f.vars }))) q ∙ ap (λ (x : living.Turtle). Some (record x { vars = change x.vars })) s
    go (Link directed end1 end2) q = (let z = sym (ap (λ b. turtle_in (Some (record f { body = b }))) q) ∙ e in absurd (cc))

revalued-link : (change : Vars → Vars) (o : Option Fields) (l : tie.Link) → link_in o ≡ Some l → link_in (option_map (λ (f : Fields). record f { vars = change f.vars }) o) ≡ Some (record l { vars = change l.vars })
revalued-link change None l e = absurd (cc)
revalued-link change (Some f) l e = go f.body refl
  where
    go : (b : Body) → f.body ≡ b → link_in (Some (record f { vars = change f.vars })) ≡ Some (record l { vars = change l.vars })
    go (Link directed end1 end2) q =
        let z = sym (ap (λ b. link_in (Some (record f { body = b }))) q) ∙ e in
        let s : record { serial = f.serial; breed = f.breed; directed = directed; end1 = end1; end2 = end2; vars = f.vars } ≡ l = cc in
        ap (λ b. link_in (Some (record f { body = b; vars = change f.vars }))) q ∙ ap (λ (x : tie.Link). Some (record x { vars = change x.vars })) s
    go (Turtle at) q = (let z = sym (ap (λ b. link_in (Some (record f { body = b }))) q) ∙ e in absurd (cc))

-- what is none stays none
no-revalued-link : (change : Vars → Vars) (o : Option Fields) → link_in o ≡ None → link_in (option_map (λ (f : Fields). record f { vars = change f.vars }) o) ≡ None
no-revalued-link change None e = refl
no-revalued-link change (Some f) e = go f.body refl
  where
    go : (b : Body) → f.body ≡ b → link_in (Some (record f { vars = change f.vars })) ≡ None
    go (Turtle at) q = ap (λ b. link_in (Some (record f { body = b; vars = change f.vars }))) q
    go (Link directed end1 end2) q = (let z = sym (ap (λ b. link_in (Some (record f { body = b }))) q) ∙ e in absurd (cc))

no-revalued-turtle : (change : Vars → Vars) (o : Option Fields) → turtle_in o ≡ None → turtle_in (option_map (λ (f : Fields). record f { vars = change f.vars }) o) ≡ None
no-revalued-turtle change None e = refl
no-revalued-turtle change (Some f) e = go f.body refl
  where
    go : (b : Body) → f.body ≡ b → turtle_in (Some (record f { vars = change f.vars })) ≡ None
    go (Link directed end1 end2) q = ap (λ b. turtle_in (Some (record f { body = b; vars = change f.vars }))) q
    go (Turtle at) q = (let z = sym (ap (λ b. turtle_in (Some (record f { body = b }))) q) ∙ e in absurd (cc))

module _ (chains : Chains) (ends : Ends) (at : ℕ → Option Record) (tkey lkey : ℕ → Option ℕ) (tg lg : ℕ) (d : IsFiles chains ends at tkey lkey tg lg) where
  -- ---- a turtle moves

  module _ (turtle key : ℕ) (kt : tkey turtle ≡ Some key) where
    abbrev pub there : living.Turtle
    there = (d.turtles.right turtle key kt).item

    pub there-is : turtle_at at key ≡ Some there
    there-is = (d.turtles.right turtle key kt).is

    number : there.serial ≡ turtle
    number = (d.turtles.right turtle key kt).number_is

    pub key-held : IsSome (at key)
    key-held = turtle-held at key there there-is

    pub key-listed : IsListed chains at key
    key-listed = record { filed = held at; lists = d.lists; index = d.index; here = key-held }

    pub key-turtle : IsTurtle (fields_at at key)
    key-turtle = is-turtle (fields_at at key) there there-is

    module _ (chains' : Chains) (at' : ℕ → Option Record) (to : Point) (breed : ℕ)
        (refiled : (filed : ℕ → Bool) (lists : Lists) (f : Fields) → IsIndex chains at filed lists → filed key ≡ true → fields_at at key ≡ Some f → IsIndex chains' at' filed (lists_refiled chains.shape f to breed key lists))
        (moves : MovesBare key to breed at at') where
      abbrev entry : Record
      entry = (has-fields (at key) key-held).entry

      fields-key : fields_at at key ≡ Some entry.fields
      fields-key = ap fields_in (has-fields (at key) key-held).is

      abbrev moved_fields : Fields
      moved_fields = record entry.fields { body = Turtle to; breed = breed }

      bare-fields : (r : Option Record) → fields_in (bare r) ≡ fields_in r
      bare-fields None = refl
      bare-fields (Some r) = refl

      bare-held : (r : Option Record) → is_some (bare r) ≡ is_some r
      bare-held None = refl
      bare-held (Some r) = refl

      bare-here : bare (at' key) ≡ option_map (settled (Turtle to) breed) (bare (at key))
      bare-here = set-here (λ k. bare (at k)) (λ k. bare (at' k)) key _ (λ k. moves k ∙ at-moved k)
        where
          at-moved : (k : ℕ) → cond (eqb k key) (option_map (settled (Turtle to) breed) (bare (at k))) (bare (at k)) ≡ cond (eqb k key) (option_map (settled (Turtle to) breed) (bare (at key))) (bare (at k))
          at-moved k = elim (cases_eq k key) [
            | inl e ↦ ap (λ i. cond (eqb k key) (option_map (settled (Turtle to) breed) (bare (at i))) (bare (at k))) e
            | inr ne ↦ (let e : eqb k key ≡ false = grind arith in ap (λ b. cond b (option_map (settled (Turtle to) breed) (bare (at k))) (bare (at k))) e ∙ sym (ap (λ b. cond b (option_map (settled (Turtle to) breed) (bare (at key))) (bare (at k))) e))
          ]

      bare-other : (k : ℕ) → k ≢ key → bare (at' k) ≡ bare (at k)
      bare-other k ne = moves k ∙ (let e : eqb k key ≡ false = grind arith in ap (λ b. cond b (option_map (settled (Turtle to) breed) (bare (at k))) (bare (at k))) e)

      settled-fields : (r : Option Record) (f : Fields) → fields_in r ≡ Some f → fields_in (option_map (settled (Turtle to) breed) r) ≡ Some (record f { body = Turtle to; breed = breed })
      settled-fields None f e = absurd (cc)
      settled-fields (Some r) f e = let s : r.fields ≡ f = cc in ap (λ (x : Fields). Some (record x { body = Turtle to; breed = breed })) s

      fields-moved : (k : ℕ) → fields_at at' k ≡ at_number (fields_at at) key (Some moved_fields) k
      fields-moved k = elim (cases_eq k key) [
        | inl e ↦
            ap (fields_at at') e ∙ sym (bare-fields (at' key)) ∙ ap fields_in bare-here ∙ settled-fields (bare (at key)) entry.fields (bare-fields (at key) ∙ fields-key)
            ∙ sym (ap (at_number (fields_at at) key (Some moved_fields)) e ∙ at-here (fields_at at) key (Some moved_fields))
        | inr ne ↦ by-part bare fields_in bare-fields (at' k) (at k) (bare-other k ne) ∙ sym (at-other (fields_at at) key (Some moved_fields) k ne)
      ]

      settled-held : (r : Option Record) → is_some (option_map (settled (Turtle to) breed) r) ≡ is_some r
      settled-held None = refl
      settled-held (Some r) = refl

      held-moved : (k : ℕ) → held at k ≡ held at' k
      held-moved k = elim (cases_eq k key) [
        | inl e ↦ ap (held at) e ∙ sym (sym (bare-held (at' key)) ∙ ap is_some bare-here ∙ settled-held (bare (at key)) ∙ bare-held (at key)) ∙ sym (ap (held at') e)
        | inr ne ↦ sym (by-part bare is_some bare-held (at' k) (at k) (bare-other k ne))
      ]

      turtles-moved : (k : ℕ) → turtle_at at' k ≡ at_number (turtle_at at) key (Some (record there { at = to; breed = breed })) k
      turtles-moved k = told-by turtle_in at at' key (Some moved_fields) fields-moved k
          ∙ ap (λ o. at_number (turtle_at at) key o k) (turned entry.fields there to breed (ap turtle_in (sym fields-key) ∙ there-is))

      links-stay : (k : ℕ) → link_at at' k ≡ link_at at k
      links-stay k = told-by link_in at at' key (Some moved_fields) fields-moved k ∙ elim (cases_eq k key) [
        | inl e ↦ ap (at_number (link_at at) key None) e ∙ at-here (link_at at) key None ∙ sym (ap (link_at at) e ∙ no-link (fields_at at key) there there-is)
        | inr ne ↦ at-other (link_at at) key None k ne
      ]

      link-apart : (k : ℕ) → is_link at k ≡ true → k ≢ key
      link-apart k h e = (let z = subst (λ i. is_link at i ≡ true) e h in let y = ap is_some (no-link (fields_at at key) there there-is) in absurd (cc))

      pub moved-files : IsFiles chains' ends at' tkey lkey tg lg
      moved-files = record {
        lists = lists_refiled chains.shape entry.fields to breed key d.lists;
        joined = d.joined;
        index = index-tests chains' at' (held at) (held at') _ held-moved (refiled (held at) d.lists entry.fields d.index key-held fields-key);
        ended = ended-tests ends at' (is_link at) (is_link at') d.joined (λ k. ap is_some (sym (links-stay k)))
            (ended-alike ends at at' (is_link at) d.joined (λ k h. end-of-bare (at' k) (at k) (bare-other k (link-apart k h))) d.ended);
        turtles = is_roll-changed turtle_serial (turtle_at at) tkey tg d.turtles (turtle_at at') tkey (λ t. record t { at = to; breed = breed }) key turtle there there-is number refl turtles-moved (λ m. refl);
        links = is_roll-same link_serial (link_at at) lkey lg d.links (link_at at') lkey links-stay (λ m. refl);
        entered = d.entered;
        apart = λ k l e. d.apart k l (sym (links-stay k) ∙ e);
      }

      pub moved-roll : roll (turtle_at at') tkey tg ≡ map (altered turtle_serial (λ t. record t { at = to; breed = breed }) turtle) (roll (turtle_at at) tkey tg)
      moved-roll = roll-changed turtle_serial (turtle_at at) tkey tg d.turtles (turtle_at at') tkey (λ t. record t { at = to; breed = breed }) key turtle there there-is number refl turtles-moved (λ m. refl)

      -- the same by another change that does this to the turtle
      pub moved-roll-by : (change : living.Turtle → living.Turtle) → change there ≡ record there { at = to; breed = breed } → (change there).serial ≡ there.serial → roll (turtle_at at') tkey tg ≡ map (altered turtle_serial change turtle) (roll (turtle_at at) tkey tg)
      moved-roll-by change e stays = roll-changed turtle_serial (turtle_at at) tkey tg d.turtles (turtle_at at') tkey change key turtle there there-is number stays (λ j. turtles-moved j ∙ ap (λ x. at_number (turtle_at at) key (Some x) j) (sym e)) (λ m. refl)

      pub moved-links : roll (link_at at') lkey lg ≡ roll (link_at at) lkey lg
      moved-links = roll-same link_serial (link_at at) lkey lg d.links (link_at at') lkey links-stay (λ m. refl)

  -- ---- other variables

  module _ (at' : ℕ → Option Record) (key : ℕ) (change : Vars → Vars) (sets : ChangesVars at at' key change) where
    abbrev refilled : Option Fields → Option Fields
    refilled o = option_map (λ (f : Fields). record f { vars = change f.vars }) o

    vars-fields : (r : Option Record) → fields_in (option_map (with_vars change) r) ≡ refilled (fields_in r)
    vars-fields None = refl
    vars-fields (Some r) = refl

    vars-held : (r : Option Record) → is_some (option_map (with_vars change) r) ≡ is_some r
    vars-held None = refl
    vars-held (Some r) = refl

    vars-index : (r : Option Record) → index_part (option_map (with_vars change) r) ≡ index_part r
    vars-index None = refl
    vars-index (Some r) = refl

    vars-end : (r : Option Record) → end_part (option_map (with_vars change) r) ≡ end_part r
    vars-end None = refl
    vars-end (Some r) = refl

    vars-same : {A : Type 0} (h : Option Record → A) → ((r : Option Record) → h (option_map (with_vars change) r) ≡ h r) → (k : ℕ) → h (at' k) ≡ h (at k)
    vars-same h same k = ap h (sets k) ∙ go (eqb k key)
      where
        go : (b : Bool) → h (cond b (option_map (with_vars change) (at k)) (at k)) ≡ h (at k)
        go true = same (at k)
        go false = refl

    fields-set : (k : ℕ) → fields_at at' k ≡ at_number (fields_at at) key (refilled (fields_at at key)) k
    fields-set k = elim (cases_eq k key) [
      | inl e ↦
          (let b : eqb k key ≡ true = grind arith in ap fields_in (sets k ∙ ap (λ c. cond c (option_map (with_vars change) (at k)) (at k)) b))
          ∙ vars-fields (at k) ∙ ap (λ i. refilled (fields_at at i)) e ∙ sym (ap (at_number (fields_at at) key (refilled (fields_at at key))) e ∙ at-here (fields_at at) key (refilled (fields_at at key)))
      | inr ne ↦
          (let b : eqb k key ≡ false = grind arith in ap fields_in (sets k ∙ ap (λ c. cond c (option_map (with_vars change) (at k)) (at k)) b))
          ∙ sym (at-other (fields_at at) key (refilled (fields_at at key)) k ne)
    ]

    index-set : IsIndex chains at' (held at') d.lists
    index-set = index-tests chains at' (held at) (held at') d.lists (λ k. sym (vars-same is_some vars-held k)) (index-alike chains at at' (held at) d.lists (λ k _. vars-same index_part vars-index k) d.index)

    -- of a turtle
    module _ (turtle : ℕ) (kt : tkey turtle ≡ Some key) where
      abbrev mine : living.Turtle
      mine = (d.turtles.right turtle key kt).item

      mine-is : turtle_at at key ≡ Some mine
      mine-is = (d.turtles.right turtle key kt).is

      mine-number : mine.serial ≡ turtle
      mine-number = (d.turtles.right turtle key kt).number_is

      turtles-set : (k : ℕ) → turtle_at at' k ≡ at_number (turtle_at at) key (Some (record mine { vars = change mine.vars })) k
      turtles-set k = told-by turtle_in at at' key (refilled (fields_at at key)) fields-set k ∙ ap (λ o. at_number (turtle_at at) key o k) (revalued-turtle change (fields_at at key) mine mine-is)

      links-kept : (k : ℕ) → link_at at' k ≡ link_at at k
      links-kept k = told-by link_in at at' key (refilled (fields_at at key)) fields-set k ∙ ap (λ o. at_number (link_at at) key o k) (no-revalued-link change (fields_at at key) (no-link (fields_at at key) mine mine-is)) ∙ elim (cases_eq k key) [
        | inl e ↦ ap (at_number (link_at at) key None) e ∙ at-here (link_at at) key None ∙ sym (ap (link_at at) e ∙ no-link (fields_at at key) mine mine-is)
        | inr ne ↦ at-other (link_at at) key None k ne
      ]

      pub set-turtle-files : IsFiles chains ends at' tkey lkey tg lg
      set-turtle-files = record {
        lists = d.lists;
        joined = d.joined;
        index = index-set;
        ended = ended-tests ends at' (is_link at) (is_link at') d.joined (λ k. ap is_some (sym (links-kept k))) (ended-alike ends at at' (is_link at) d.joined (λ k _. vars-same end_part vars-end k) d.ended);
        turtles = is_roll-changed turtle_serial (turtle_at at) tkey tg d.turtles (turtle_at at') tkey (λ t. record t { vars = change t.vars }) key turtle mine mine-is mine-number refl turtles-set (λ m. refl);
        links = is_roll-same link_serial (link_at at) lkey lg d.links (link_at at') lkey links-kept (λ m. refl);
        entered = d.entered;
        apart = λ k l e. d.apart k l (sym (links-kept k) ∙ e);
      }

      pub set-turtle-roll : roll (turtle_at at') tkey tg ≡ map (altered turtle_serial (λ t. record t { vars = change t.vars }) turtle) (roll (turtle_at at) tkey tg)
      set-turtle-roll = roll-changed turtle_serial (turtle_at at) tkey tg d.turtles (turtle_at at') tkey (λ t. record t { vars = change t.vars }) key turtle mine mine-is mine-number refl turtles-set (λ m. refl)

      pub set-turtle-links : roll (link_at at') lkey lg ≡ roll (link_at at) lkey lg
      set-turtle-links = roll-same link_serial (link_at at) lkey lg d.links (link_at at') lkey links-kept (λ m. refl)

    -- of a link
    module _ (link : ℕ) (kl : lkey link ≡ Some key) where
      abbrev own : tie.Link
      own = (d.links.right link key kl).item

      own-is : link_at at key ≡ Some own
      own-is = (d.links.right link key kl).is

      own-number : own.serial ≡ link
      own-number = (d.links.right link key kl).number_is

      links-set : (k : ℕ) → link_at at' k ≡ at_number (link_at at) key (Some (record own { vars = change own.vars })) k
      links-set k = told-by link_in at at' key (refilled (fields_at at key)) fields-set k ∙ ap (λ o. at_number (link_at at) key o k) (revalued-link change (fields_at at key) own own-is)

      turtles-kept : (k : ℕ) → turtle_at at' k ≡ turtle_at at k
      turtles-kept k = told-by turtle_in at at' key (refilled (fields_at at key)) fields-set k ∙ ap (λ o. at_number (turtle_at at) key o k) (no-revalued-turtle change (fields_at at key) (no-turtle (fields_at at key) own own-is)) ∙ elim (cases_eq k key) [
        | inl e ↦ ap (at_number (turtle_at at) key None) e ∙ at-here (turtle_at at) key None ∙ sym (ap (turtle_at at) e ∙ no-turtle (fields_at at key) own own-is)
        | inr ne ↦ at-other (turtle_at at) key None k ne
      ]

      filed-set : (k : ℕ) → is_link at k ≡ is_link at' k
      filed-set k = elim (cases_eq k key) [
        | inl e ↦ ap (is_link at) e ∙ ap is_some own-is ∙ sym (ap is_some (links-set k ∙ ap (at_number (link_at at) key (Some (record own { vars = change own.vars }))) e ∙ at-here (link_at at) key (Some (record own { vars = change own.vars }))))
        | inr ne ↦ sym (ap is_some (links-set k ∙ at-other (link_at at) key (Some (record own { vars = change own.vars })) k ne))
      ]

      pub set-link-files : IsFiles chains ends at' tkey lkey tg lg
      set-link-files = record {
        lists = d.lists;
        joined = d.joined;
        index = index-set;
        ended = ended-tests ends at' (is_link at) (is_link at') d.joined filed-set (ended-alike ends at at' (is_link at) d.joined (λ k _. vars-same end_part vars-end k) d.ended);
        turtles = is_roll-same turtle_serial (turtle_at at) tkey tg d.turtles (turtle_at at') tkey turtles-kept (λ m. refl);
        links = is_roll-changed link_serial (link_at at) lkey lg d.links (link_at at') lkey (λ l. record l { vars = change l.vars }) key link own own-is own-number refl links-set (λ m. refl);
        entered = d.entered;
        apart = λ k l e. elim (cases_eq k key) [
          | inl q ↦ (
              let z = sym (links-set k ∙ ap (at_number (link_at at) key (Some (record own { vars = change own.vars }))) q ∙ at-here (link_at at) key (Some (record own { vars = change own.vars }))) ∙ e in
              let s : record own { vars = change own.vars } ≡ l = cc in
              subst (λ (x : tie.Link). eqb x.end1 x.end2 ≡ false) s (d.apart key own own-is))
          | inr ne ↦ d.apart k l (sym (links-set k ∙ at-other (link_at at) key (Some (record own { vars = change own.vars })) k ne) ∙ e)
        ];
      }

      pub set-link-roll : roll (link_at at') lkey lg ≡ map (altered link_serial (λ l. record l { vars = change l.vars }) link) (roll (link_at at) lkey lg)
      set-link-roll = roll-changed link_serial (link_at at) lkey lg d.links (link_at at') lkey (λ l. record l { vars = change l.vars }) key link own own-is own-number refl links-set (λ m. refl)

      pub set-link-turtles : roll (turtle_at at') tkey tg ≡ roll (turtle_at at) tkey tg
      set-link-turtles = roll-same turtle_serial (turtle_at at) tkey tg d.turtles (turtle_at at') tkey turtles-kept (λ m. refl)
