-- What the steps of removals come to.
use Rattle.std.proofs.Common.{◌≡◌, ℕ, ◌+◌, Bool, true, false, not, [], length, filter, Option, Some, None, sym, ap, ◌∙◌, arith}
use Rattle.std.specs.List.{list_any}
use Rattle.nl_agents.specs.Changes.{has_end}
use Rattle.nl_store_lists.specs.Chained.{at_number}
use Rattle.nl_store_records.specs.Records.{fields_at, Sets}
use Rattle.nl_store_records.specs.declared.fields.Fields.{Fields}
use Rattle.nl_store_records.specs.declared.record.Record.{Record}
use Rattle.nl_index.specs.Index.{breeds_in, lists_removed, IsIndex, IsSized, Lists, SameBare}
use Rattle.nl_index.specs.declared.chains.Chains.{Chains}
use Rattle.nl_links.specs.Sides.{HoldsSame}
use Rattle.nl_links.specs.Ends.{lists_parted, Holds, IsEnded, LinkLists, SameUnjoined}
use Rattle.nl_links.specs.declared.ends.Ends.{Ends}
use Rattle.nl_store_lists.specs.Rolls.{roll}
use Rattle.nl_store_lists.proofs.Collecting.{is_at}
use Rattle.nl_store_files.specs.Agents.{link_at, link_serial, turtle_at, turtle_serial}
use Rattle.nl_store_files.specs.Keys.{key_count, key_in, SetsKey}
use Rattle.nl_store_files.specs.declared.keys.Keys.{Keys}
use Rattle.nl_store_files.specs.Standing.{agents_of, AreCounted, IsFiles}
use Rattle.nl_store_files.proofs.Going.{link-files, link-roll, link-shorter, link-turtles}
use Rattle.nl_store_files.proofs.Leaving.{turtle-files, turtle-links, turtle-roll, turtle-shorter}
use Rattle.nl_store_files.proofs.Filed.{made}

module _ (chains : Chains) (ends : Ends) (at : ℕ → Option Record) (tk lk : Keys) (tg lg : ℕ)
    (d : IsFiles chains ends at (key_in tk) (key_in lk) tg lg) (n : AreCounted at tk lk tg lg) where
  -- ---- a link goes

  module _ (link key : ℕ) (kl : key_in lk link ≡ Some key) (ends1 : Ends) (at1 : ℕ → Option Record)
      (parted : (filed : ℕ → Bool) (lists : LinkLists) (f : Fields) → IsEnded ends at filed lists → filed key ≡ true → fields_at at key ≡ Some f → IsEnded ends1 at1 (at_number filed key false) (lists_parted f key lists))
      (unjoins : SameUnjoined at at1) (holds : HoldsSame ends ends1) (chains2 : Chains) (at2 at3 : ℕ → Option Record) (lk' : Keys)
      (removed : (filed : ℕ → Bool) (lists : Lists) (f : Fields) → IsIndex chains at1 filed lists → filed key ≡ true → fields_at at1 key ≡ Some f → IsIndex chains2 at2 (at_number filed key false) (lists_removed chains.shape f key lists))
      (bares : SameBare at1 at2) (size : IsSized chains.shape (breeds_in chains) chains2) (taken : Sets at2 at3 key None) (keys : SetsKey lk lk' link None) (count : key_count lk' + 1 ≡ key_count lk) where
    pub link-removed : IsFiles chains2 ends1 at3 (key_in tk) (key_in lk') tg lg
    link-removed = link-files chains ends at (key_in tk) (key_in lk) tg lg d link key kl ends1 at1 parted unjoins holds chains2 at2 at3 (key_in lk') removed bares taken keys

    link-rolls : roll (link_at at3) (key_in lk') lg ≡ filter (λ l. not (is_at link_serial link l)) (roll (link_at at) (key_in lk) lg)
    link-rolls = link-roll chains ends at (key_in tk) (key_in lk) tg lg d link key kl ends1 at1 parted unjoins holds chains2 at2 at3 (key_in lk') removed bares taken keys

    link-turtle-rolls : roll (turtle_at at3) (key_in tk) tg ≡ roll (turtle_at at) (key_in tk) tg
    link-turtle-rolls = link-turtles chains ends at (key_in tk) (key_in lk) tg lg d link key kl ends1 at1 parted unjoins holds chains2 at2 at3 (key_in lk') removed bares taken keys

    pub link-counted : AreCounted at3 tk lk' tg lg
    link-counted = record {
      turtles = n.turtles ∙ sym (ap length link-turtle-rolls);
      links = (let a = n.links in let b = link-shorter chains ends at (key_in tk) (key_in lk) tg lg d link key kl ends1 at1 parted unjoins holds chains2 at2 at3 (key_in lk') removed bares taken keys in omega (arith, count, a, b));
    }

    pub link-agents : agents_of chains2 at3 tk lk' tg lg ≡ record (agents_of chains at tk lk tg lg) { links = filter (λ l. not (is_at link_serial link l)) (roll (link_at at) (key_in lk) lg) }
    link-agents = made chains.shape chains2.shape (breeds_in chains) (breeds_in chains2) _ _ _ _ tg lg size.shape_is size.breeds_are link-turtle-rolls link-rolls

  -- ---- a turtle goes

  module _ (turtle key : ℕ) (kt : key_in tk turtle ≡ Some key) (free : list_any (has_end turtle) (roll (link_at at) (key_in lk) lg) ≡ false) (ends1 : Ends) (chains2 : Chains) (at2 at3 : ℕ → Option Record) (tk' : Keys)
      (leaves : (r : ℕ → Option Record) (filed : ℕ → Bool) (lists : LinkLists) → IsEnded ends r filed lists → lists.first turtle ≡ [] → lists.second turtle ≡ [] → IsEnded ends1 r filed lists)
      (holds : Holds ends ends1 turtle false)
      (removed : (filed : ℕ → Bool) (lists : Lists) (f : Fields) → IsIndex chains at filed lists → filed key ≡ true → fields_at at key ≡ Some f → IsIndex chains2 at2 (at_number filed key false) (lists_removed chains.shape f key lists))
      (bares : SameBare at at2) (size : IsSized chains.shape (breeds_in chains) chains2) (taken : Sets at2 at3 key None) (keys : SetsKey tk tk' turtle None) (count : key_count tk' + 1 ≡ key_count tk) where
    pub turtle-removed : IsFiles chains2 ends1 at3 (key_in tk') (key_in lk) tg lg
    turtle-removed = turtle-files chains ends at (key_in tk) (key_in lk) tg lg d turtle key kt free ends1 chains2 at2 at3 (key_in tk') leaves holds removed bares taken keys

    turtle-rolls : roll (turtle_at at3) (key_in tk') tg ≡ filter (λ t. not (is_at turtle_serial turtle t)) (roll (turtle_at at) (key_in tk) tg)
    turtle-rolls = turtle-roll chains ends at (key_in tk) (key_in lk) tg lg d turtle key kt free ends1 chains2 at2 at3 (key_in tk') leaves holds removed bares taken keys

    turtle-link-rolls : roll (link_at at3) (key_in lk) lg ≡ roll (link_at at) (key_in lk) lg
    turtle-link-rolls = turtle-links chains ends at (key_in tk) (key_in lk) tg lg d turtle key kt free ends1 chains2 at2 at3 (key_in tk') leaves holds removed bares taken keys

    pub turtle-counted : AreCounted at3 tk' lk tg lg
    turtle-counted = record {
      turtles = (let a = n.turtles in let b = turtle-shorter chains ends at (key_in tk) (key_in lk) tg lg d turtle key kt free ends1 chains2 at2 at3 (key_in tk') leaves holds removed bares taken keys in omega (arith, count, a, b));
      links = n.links ∙ sym (ap length turtle-link-rolls);
    }

    pub turtle-agents : agents_of chains2 at3 tk' lk tg lg ≡ record (agents_of chains at tk lk tg lg) { turtles = filter (λ t. not (is_at turtle_serial turtle t)) (roll (turtle_at at) (key_in tk) tg) }
    turtle-agents = made chains.shape chains2.shape (breeds_in chains) (breeds_in chains2) _ _ _ _ tg lg size.shape_is size.breeds_are turtle-rolls turtle-link-rolls
