-- What the steps of calls on links come to.
use Rattle.std.proofs.Common.{◌≡◌, ℕ, ◌+◌, ◌<◌, Bool, true, false, [], ◌∷◌, ◌++◌, length, Option, Some, None, IsSome, IsSomeAnd, eqb, sym, ap, ◌∙◌, arith, subst, length-append}
use Rattle.nl_agents.specs.Nouns.{Vars}
use Rattle.nl_store_lists.specs.Chained.{at_number}
use Rattle.nl_store_records.specs.Records.{fields_at, SameRecords, Sets}
use Rattle.nl_store_records.specs.declared.fields.Body.TheVariants.{Link}
use Rattle.nl_store_records.specs.declared.fields.Fields.{Fields}
use Rattle.nl_store_records.specs.declared.record.Record.{Record}
use Rattle.nl_index.specs.Index.{breeds_in, by_birth, chain_of, lists_added, serial_at, Fits, IsAbove, IsIndex, IsSized, Lists, MayAdd, SameBare}
use Rattle.nl_index.specs.declared.chains.Chains.{Chains}
use Rattle.nl_links.specs.Sides.{HoldsSame}
use Rattle.nl_links.specs.Ends.{lists_joined, HasEnds, IsEnded, LinkLists, MayJoin, SameUnjoined}
use Rattle.nl_links.specs.declared.ends.Ends.{Ends}
use Rattle.nl_store_lists.specs.Rolls.{roll}
use Rattle.nl_store_lists.proofs.Rolls.{next-free}
use Rattle.nl_store_files.specs.Agents.{link_at, link_serial, turtle_at}
use Rattle.nl_store_files.specs.Keys.{key_count, key_in, SameKeys, SetsKey}
use Rattle.nl_store_files.specs.declared.keys.Keys.{Keys}
use Rattle.nl_store_files.specs.Standing.{agents_of, AreCounted, IsFiles, PutsNew}
use Rattle.nl_store_files.proofs.Parts.{fields_in, set-behind, set-here}
use Rattle.nl_store_files.proofs.Coming.{ends-held, link-files, link-roll, link-turtles, links-below, may-add, may-join}
use Rattle.nl_store_files.proofs.Filed.{made}

module _ (chains : Chains) (ends : Ends) (at : ℕ → Option Record) (tk lk : Keys) (tg lg : ℕ)
    (d : IsFiles chains ends at (key_in tk) (key_in lk) tg lg) (n : AreCounted at tk lk tg lg) where
  pub link-key-next : (lk' : Keys) → SameKeys lk lk' → key_in lk' lg ≡ None
  link-key-next lk' same = same.keys lg ∙ next-free link_serial (link_at at) (key_in lk) lg d.links

  module _ (at1 at2 : ℕ → Option Record) (key : ℕ) (rooms : SameRecords at at1) (vacant : at1 key ≡ None)
      (directed : Bool) (end1 end2 breed : ℕ) (vars : Vars) (puts : PutsNew at1 at2 key (record { serial = lg; body = Link directed end1 end2; breed = breed; vars = vars })) where
    link-vacant : at key ≡ None
    link-vacant = sym (rooms key) ∙ vacant

    link-sets : Sets at at2 key (Some puts.entry)
    link-sets = set-behind at at1 at2 key (Some puts.entry) rooms puts.sets

    link-less : (k : ℕ) → chain_of by_birth (fields_at at k) ≡ chain_of by_birth (Some puts.entry.fields) → serial_at at k < puts.entry.fields.serial
    link-less k e = subst (λ (f : Fields). serial_at at k < f.serial) (sym puts.fields_are) (links-below chains ends at (key_in tk) (key_in lk) tg lg d k (e ∙ ap (λ f. chain_of by_birth (Some f)) puts.fields_are))

    pub link-may-add : MayAdd chains at2 key
    link-may-add = may-add chains ends at (key_in tk) (key_in lk) tg lg d at2 key puts.entry link-vacant link-sets link-less

    pub link-fits : IsSomeAnd (fields_at at2 key) (Fits chains)
    link-fits = subst (λ o. IsSomeAnd o (Fits chains)) (sym (ap fields_in (set-here at1 at2 key (Some puts.entry) puts.sets) ∙ ap Some puts.fields_are)) (tt, tt)

    module _ (chains' : Chains) (at3 : ℕ → Option Record)
        (added : (filed : ℕ → Bool) (lists : Lists) (f : Fields) → IsIndex chains at2 filed lists → filed key ≡ false → IsAbove at2 filed key → fields_at at2 key ≡ Some f → IsIndex chains' at3 (at_number filed key true) (lists_added chains.shape f key lists))
        (bares : SameBare at2 at3) (size : IsSized chains.shape (breeds_in chains) chains') (one : IsSome (key_in tk end1)) (two : IsSome (key_in tk end2)) where
      pub link-may-join : MayJoin ends at3 key
      link-may-join = may-join chains ends at (key_in tk) (key_in lk) tg lg d at2 key puts.entry link-vacant link-sets chains' at3 added bares link-less directed end1 end2 breed vars puts.fields_are one two

      pub link-ends-held : IsSomeAnd (fields_at at3 key) (HasEnds ends)
      link-ends-held = ends-held chains ends at (key_in tk) (key_in lk) tg lg d at2 key puts.entry link-vacant link-sets chains' at3 added bares link-less directed end1 end2 breed vars puts.fields_are one two

      module _ (ends' : Ends) (at4 : ℕ → Option Record) (lk1 lk2 : Keys)
          (joins : (filed : ℕ → Bool) (lists : LinkLists) (f : Fields) → IsEnded ends at3 filed lists → filed key ≡ false → fields_at at3 key ≡ Some f → IsEnded ends' at4 (at_number filed key true) (lists_joined f key lists))
          (unjoins : SameUnjoined at3 at4) (holds : HoldsSame ends ends') (differ : eqb end1 end2 ≡ false)
          (same : SameKeys lk lk1) (put : SetsKey lk1 lk2 lg (Some key)) (count : key_count lk2 ≡ key_count lk1 + 1) where
        link-keys : (s : ℕ) → key_in lk2 s ≡ at_number (key_in lk) lg (Some key) s
        link-keys = set-behind (key_in lk) (key_in lk1) (key_in lk2) lg (Some key) same.keys put

        pub link-added : IsFiles chains' ends' at4 (key_in tk) (key_in lk2) tg (lg + 1)
        link-added = link-files chains ends at (key_in tk) (key_in lk) tg lg d at2 key puts.entry link-vacant link-sets chains' at3 added bares link-less directed end1 end2 breed vars puts.fields_are one two ends' at4 (key_in lk2) joins unjoins holds differ link-keys

        link-rolls : roll (link_at at4) (key_in lk2) (lg + 1) ≡ roll (link_at at) (key_in lk) lg ++ (record { serial = lg; breed = breed; directed = directed; end1 = end1; end2 = end2; vars = vars }) ∷ []
        link-rolls = link-roll chains ends at (key_in tk) (key_in lk) tg lg d at2 key puts.entry link-vacant link-sets chains' at3 added bares link-less directed end1 end2 breed vars puts.fields_are one two ends' at4 (key_in lk2) joins unjoins holds differ link-keys

        link-turtle-rolls : roll (turtle_at at4) (key_in tk) tg ≡ roll (turtle_at at) (key_in tk) tg
        link-turtle-rolls = link-turtles chains ends at (key_in tk) (key_in lk) tg lg d at2 key puts.entry link-vacant link-sets chains' at3 added bares link-less directed end1 end2 breed vars puts.fields_are one two ends' at4 (key_in lk2) joins unjoins holds differ link-keys

        pub link-counted : AreCounted at4 tk lk2 tg (lg + 1)
        link-counted = record {
          turtles = n.turtles ∙ sym (ap length link-turtle-rolls);
          links = (let a = n.links in let b = same.count in let e = ap length link-rolls in let l = length-append (roll (link_at at) (key_in lk) lg) ((record { serial = lg; breed = breed; directed = directed; end1 = end1; end2 = end2; vars = vars }) ∷ []) in omega (arith, count, a, b, e, l));
        }

        pub link-agents : agents_of chains' at4 tk lk2 tg (lg + 1)
            ≡ record (agents_of chains at tk lk tg lg) { links = roll (link_at at) (key_in lk) lg ++ (record { serial = lg; breed = breed; directed = directed; end1 = end1; end2 = end2; vars = vars }) ∷ []; links_given = lg + 1 }
        link-agents = made chains.shape chains'.shape (breeds_in chains) (breeds_in chains') _ _ _ _ tg (lg + 1) size.shape_is size.breeds_are link-turtle-rolls link-rolls
