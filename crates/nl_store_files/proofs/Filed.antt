-- What the steps of a call on the files come to.
use Rattle.std.proofs.Common.{◌≡◌, ℕ, ◌+◌, ◌<◌, Bool, true, false, List, [], ◌∷◌, ◌++◌, length, find, Option, Some, None, IsSome, IsSomeAnd, is_some, refl, sym, ap, ◌∙◌, arith, subst, length-append}
use Rattle.std.specs.Prelude.{Result, Ok, Err, OnErr}
use Rattle.nl_grid.specs.Geometry.{Plane, IsPointOf}
use Rattle.nl_grid.specs.declared.point.Point.{Point}
use Rattle.nl_agents.specs.Nouns.{Vars}
use Rattle.nl_agents.specs.declared.agents.Turtle as living
use Rattle.nl_agents.specs.declared.agents.Link as tie
use Rattle.nl_store_lists.specs.Chained.{at_number}
use Rattle.nl_store_records.specs.Records.{fields_at, SameRecords, Sets}
use Rattle.nl_store_records.specs.declared.fields.Body.TheVariants.{Turtle}
use Rattle.nl_store_records.specs.declared.fields.Fields.{Fields}
use Rattle.nl_store_records.specs.declared.record.Record.{Record}
use Rattle.nl_index.specs.Index.{breeds_in, by_birth, chain_of, lists_added, no_lists, serial_at, Fits, IsAbove, IsIndex, IsSized, Lists, MayAdd, SameBare}
use Rattle.nl_index.specs.declared.chains.Chains.{Chains}
use Rattle.nl_index.proofs.Indexes.{index-tests}
use Rattle.nl_links.specs.Sides.{sides_at, SameSides}
use Rattle.nl_links.specs.Ends.{no_link_lists, Holds, IsEnded, LinkLists}
use Rattle.nl_links.specs.declared.ends.Ends.{Ends}
use Rattle.nl_links.proofs.Joins.{ended-tests}
use Rattle.nl_store_lists.specs.Rolls.{roll, under, IsRoll}
use Rattle.nl_store_lists.proofs.Collecting.{is_at}
use Rattle.nl_store_lists.proofs.Rolls.{next-free, roll-found}
use Rattle.nl_store_files.specs.Agents.{link_at, link_in, link_serial, turtle_at, turtle_in, turtle_serial, Agents}
use Rattle.nl_store_files.specs.Keys.{key_count, key_in, SameKeys, SetsKey}
use Rattle.nl_store_files.specs.declared.keys.Keys.{Keys}
use Rattle.nl_store_files.specs.Standing.{agents_of, held, is_link, AreCounted, IsFiles, PutsNew}
use Rattle.nl_store_files.proofs.Parts.{fields_in, set-behind, set-here}
use Rattle.nl_store_files.proofs.Coming.{may-add, same-files, same-links, same-turtles, turtle-files, turtle-links, turtle-roll, turtles-below}

-- ---- what files stand for

abbrev agents : Plane → ℕ → List living.Turtle → List tie.Link → ℕ → ℕ → Agents
agents shape breeds turtles links tg lg = record { shape = shape; breeds = breeds; turtles = turtles; links = links; turtles_given = tg; links_given = lg }

pub made : (shape shape' : Plane) (b b' : ℕ) (ts ts' : List living.Turtle) (ls ls' : List tie.Link) (tg lg : ℕ) → shape' ≡ shape → b' ≡ b → ts' ≡ ts → ls' ≡ ls → agents shape' b' ts' ls' tg lg ≡ agents shape b ts ls tg lg
made shape shape' b b' ts ts' ls ls' tg lg e1 e2 e3 e4 = rw e1 (rw e2 (rw e3 (rw e4 refl)))

none-by : {A : Type 0} (o : Option A) → is_some o ≡ false → o ≡ None
none-by None e = refl
none-by (Some x) e = absurd (cc)

-- ---- no agents

pub files-new : (chains : Chains) (ends : Ends) (at : ℕ → Option Record) (tk lk : Keys) → ((k : ℕ) → at k ≡ None) → IsIndex chains at (λ _. false) no_lists → IsEnded ends at (λ _. false) no_link_lists →
    ((t : ℕ) → sides_at ends t ≡ None) → ((s : ℕ) → key_in tk s ≡ None) → ((s : ℕ) → key_in lk s ≡ None) → IsFiles chains ends at (key_in tk) (key_in lk) 0 0
files-new chains ends at tk lk none index ended sides tkeys lkeys = record {
  lists = no_lists;
  joined = no_link_lists;
  index = index-tests chains at (λ _. false) (held at) no_lists (λ k. sym (ap is_some (none k))) index;
  ended = ended-tests ends at (λ _. false) (is_link at) no_link_lists (λ k. sym (ap is_some (no-link k))) ended;
  turtles = record {
    right = λ m k e. (let z = tkeys m in absurd (cc));
    found = λ k x e. (let z = no-turtle k in absurd (cc));
    below = λ m k e. (let z = tkeys m in absurd (cc));
  };
  links = record {
    right = λ m k e. (let z = lkeys m in absurd (cc));
    found = λ k x e. (let z = no-link k in absurd (cc));
    below = λ m k e. (let z = lkeys m in absurd (cc));
  };
  entered = λ s. ap is_some (sides s) ∙ sym (ap is_some (tkeys s));
  apart = λ k l e. (let z = no-link k in absurd (cc));
}
  where
    no-turtle : (k : ℕ) → turtle_at at k ≡ None
    no-turtle k = ap (λ r. turtle_in (fields_in r)) (none k)

    no-link : (k : ℕ) → link_at at k ≡ None
    no-link k = ap (λ r. link_in (fields_in r)) (none k)

module _ (chains : Chains) (ends : Ends) (at : ℕ → Option Record) (tk lk : Keys) (tg lg : ℕ)
    (d : IsFiles chains ends at (key_in tk) (key_in lk) tg lg) (n : AreCounted at tk lk tg lg) where
  -- ---- who lives

  under-some : {X : Type 0} (item : ℕ → Option X) (o : Option ℕ) → IsSome (under item o) → IsSome o
  under-some item None h = h
  under-some item (Some k) h = refl

  pub turtle-key : (turtle : ℕ) → IsSome (find (is_at turtle_serial turtle) (roll (turtle_at at) (key_in tk) tg)) → IsSome (key_in tk turtle)
  turtle-key turtle h = under-some (turtle_at at) (key_in tk turtle) (sym (ap is_some (roll-found turtle_serial (turtle_at at) (key_in tk) tg d.turtles turtle)) ∙ h)

  pub link-key : (link : ℕ) → IsSome (find (is_at link_serial link) (roll (link_at at) (key_in lk) lg)) → IsSome (key_in lk link)
  link-key link h = under-some (link_at at) (key_in lk link) (sym (ap is_some (roll-found link_serial (link_at at) (key_in lk) lg d.links link)) ∙ h)

  -- the turtle, or the link, of a serial that has a key
  pub turtle-there : (turtle key : ℕ) → key_in tk turtle ≡ Some key → find (is_at turtle_serial turtle) (roll (turtle_at at) (key_in tk) tg) ≡ turtle_at at key
  turtle-there turtle key e = roll-found turtle_serial (turtle_at at) (key_in tk) tg d.turtles turtle ∙ ap (under (turtle_at at)) e

  pub link-there : (link key : ℕ) → key_in lk link ≡ Some key → find (is_at link_serial link) (roll (link_at at) (key_in lk) lg) ≡ link_at at key
  link-there link key e = roll-found link_serial (link_at at) (key_in lk) lg d.links link ∙ ap (under (link_at at)) e

  -- whether one lives is whether it has a key
  some-under : {X : Type 0} (number_of : X → ℕ) (item : ℕ → Option X) (key_of : ℕ → Option ℕ) (given : ℕ) → IsRoll number_of item key_of given → (m : ℕ) (o : Option ℕ) → key_of m ≡ o → is_some (under item o) ≡ is_some o
  some-under number_of item key_of given r m None e = refl
  some-under number_of item key_of given r m (Some k) e = ap is_some (r.right m k e).is

  pub turtle-lives : (turtle : ℕ) → is_some (key_in tk turtle) ≡ is_some (find (is_at turtle_serial turtle) (roll (turtle_at at) (key_in tk) tg))
  turtle-lives turtle = sym (ap is_some (roll-found turtle_serial (turtle_at at) (key_in tk) tg d.turtles turtle) ∙ some-under turtle_serial (turtle_at at) (key_in tk) tg d.turtles turtle (key_in tk turtle) refl)

  pub link-lives : (link : ℕ) → is_some (key_in lk link) ≡ is_some (find (is_at link_serial link) (roll (link_at at) (key_in lk) lg))
  link-lives link = sym (ap is_some (roll-found link_serial (link_at at) (key_in lk) lg d.links link) ∙ some-under link_serial (link_at at) (key_in lk) lg d.links link (key_in lk link) refl)

  -- ---- nothing is changed but room

  pub files-same : (ends' : Ends) (at' : ℕ → Option Record) (tk' lk' : Keys) → SameSides (sides_at ends) (sides_at ends') → SameRecords at at' → SameKeys tk tk' → SameKeys lk lk' → IsFiles chains ends' at' (key_in tk') (key_in lk') tg lg
  files-same ends' at' tk' lk' sides records turtles links = same-files chains ends at (key_in tk) (key_in lk) tg lg d ends' at' (key_in tk') (key_in lk') sides records turtles.keys links.keys

  pub counted-same : (ends' : Ends) (at' : ℕ → Option Record) (tk' lk' : Keys) → SameSides (sides_at ends) (sides_at ends') → SameRecords at at' → SameKeys tk tk' → SameKeys lk lk' → AreCounted at' tk' lk' tg lg
  counted-same ends' at' tk' lk' sides records turtles links = record {
    turtles = turtles.count ∙ n.turtles ∙ sym (ap length (same-turtles chains ends at (key_in tk) (key_in lk) tg lg d ends' at' (key_in tk') (key_in lk') sides records turtles.keys links.keys));
    links = links.count ∙ n.links ∙ sym (ap length (same-links chains ends at (key_in tk) (key_in lk) tg lg d ends' at' (key_in tk') (key_in lk') sides records turtles.keys links.keys));
  }

  pub agents-same : (ends' : Ends) (at' : ℕ → Option Record) (tk' lk' : Keys) → SameSides (sides_at ends) (sides_at ends') → SameRecords at at' → SameKeys tk tk' → SameKeys lk lk' → agents_of chains at' tk' lk' tg lg ≡ agents_of chains at tk lk tg lg
  agents-same ends' at' tk' lk' sides records turtles links = made chains.shape chains.shape (breeds_in chains) (breeds_in chains) _ _ _ _ tg lg refl refl
      (same-turtles chains ends at (key_in tk) (key_in lk) tg lg d ends' at' (key_in tk') (key_in lk') sides records turtles.keys links.keys)
      (same-links chains ends at (key_in tk) (key_in lk) tg lg d ends' at' (key_in tk') (key_in lk') sides records turtles.keys links.keys)

  -- ---- a turtle comes

  pub turtle-next : (ends' : Ends) → SameSides (sides_at ends) (sides_at ends') → sides_at ends' tg ≡ None
  turtle-next ends' same = same tg ∙ none-by (sides_at ends tg) (d.entered tg ∙ ap is_some (next-free turtle_serial (turtle_at at) (key_in tk) tg d.turtles))

  pub turtle-key-next : (tk' : Keys) → SameKeys tk tk' → key_in tk' tg ≡ None
  turtle-key-next tk' same = same.keys tg ∙ next-free turtle_serial (turtle_at at) (key_in tk) tg d.turtles

  module _ (at1 at2 : ℕ → Option Record) (key : ℕ) (rooms : SameRecords at at1) (vacant : at1 key ≡ None)
      (p : Point) (breed : ℕ) (vars : Vars) (puts : PutsNew at1 at2 key (record { serial = tg; body = Turtle p; breed = breed; vars = vars })) where
    turtle-vacant : at key ≡ None
    turtle-vacant = sym (rooms key) ∙ vacant

    turtle-sets : Sets at at2 key (Some puts.entry)
    turtle-sets = set-behind at at1 at2 key (Some puts.entry) rooms puts.sets

    turtle-less : (k : ℕ) → chain_of by_birth (fields_at at k) ≡ chain_of by_birth (Some puts.entry.fields) → serial_at at k < puts.entry.fields.serial
    turtle-less k e = subst (λ (f : Fields). serial_at at k < f.serial) (sym puts.fields_are) (turtles-below chains ends at (key_in tk) (key_in lk) tg lg d k (e ∙ ap (λ f. chain_of by_birth (Some f)) puts.fields_are))

    pub turtle-may-add : MayAdd chains at2 key
    turtle-may-add = may-add chains ends at (key_in tk) (key_in lk) tg lg d at2 key puts.entry turtle-vacant turtle-sets turtle-less

    pub turtle-fits : IsPointOf chains.shape p → breed < breeds_in chains → IsSomeAnd (fields_at at2 key) (Fits chains)
    turtle-fits point few = subst (λ o. IsSomeAnd o (Fits chains)) (sym (ap fields_in (set-here at1 at2 key (Some puts.entry) puts.sets) ∙ ap Some puts.fields_are)) (point, few)

    module _ (chains' : Chains) (ends' : Ends) (at3 : ℕ → Option Record) (tk1 tk2 : Keys)
        (added : (filed : ℕ → Bool) (lists : Lists) (f : Fields) → IsIndex chains at2 filed lists → filed key ≡ false → IsAbove at2 filed key → fields_at at2 key ≡ Some f → IsIndex chains' at3 (at_number filed key true) (lists_added chains.shape f key lists))
        (bares : SameBare at2 at3) (size : IsSized chains.shape (breeds_in chains) chains')
        (enters : Holds ends ends' tg true) (stay : (r : ℕ → Option Record) (filed : ℕ → Bool) (lists : LinkLists) → IsEnded ends r filed lists → IsEnded ends' r filed lists)
        (same : SameKeys tk tk1) (put : SetsKey tk1 tk2 tg (Some key)) (count : key_count tk2 ≡ key_count tk1 + 1) where
      turtle-keys : (s : ℕ) → key_in tk2 s ≡ at_number (key_in tk) tg (Some key) s
      turtle-keys = set-behind (key_in tk) (key_in tk1) (key_in tk2) tg (Some key) same.keys put

      pub turtle-added : IsFiles chains' ends' at3 (key_in tk2) (key_in lk) (tg + 1) lg
      turtle-added = turtle-files chains ends at (key_in tk) (key_in lk) tg lg d at2 key puts.entry turtle-vacant turtle-sets chains' at3 added bares turtle-less ends' (key_in tk2) p breed vars puts.fields_are enters stay turtle-keys

      turtle-rolls : roll (turtle_at at3) (key_in tk2) (tg + 1) ≡ roll (turtle_at at) (key_in tk) tg ++ (record { serial = tg; breed = breed; at = p; vars = vars }) ∷ []
      turtle-rolls = turtle-roll chains ends at (key_in tk) (key_in lk) tg lg d at2 key puts.entry turtle-vacant turtle-sets chains' at3 added bares turtle-less ends' (key_in tk2) p breed vars puts.fields_are enters stay turtle-keys

      turtle-link-rolls : roll (link_at at3) (key_in lk) lg ≡ roll (link_at at) (key_in lk) lg
      turtle-link-rolls = turtle-links chains ends at (key_in tk) (key_in lk) tg lg d at2 key puts.entry turtle-vacant turtle-sets chains' at3 added bares turtle-less ends' (key_in tk2) p breed vars puts.fields_are enters stay turtle-keys

      pub turtle-counted : AreCounted at3 tk2 lk (tg + 1) lg
      turtle-counted = record {
        turtles = (let a = n.turtles in let b = same.count in let e = ap length turtle-rolls in let l = length-append (roll (turtle_at at) (key_in tk) tg) ((record { serial = tg; breed = breed; at = p; vars = vars }) ∷ []) in omega (arith, count, a, b, e, l));
        links = n.links ∙ sym (ap length turtle-link-rolls);
      }

      pub turtle-agents : agents_of chains' at3 tk2 lk (tg + 1) lg
          ≡ record (agents_of chains at tk lk tg lg) { turtles = roll (turtle_at at) (key_in tk) tg ++ (record { serial = tg; breed = breed; at = p; vars = vars }) ∷ []; turtles_given = tg + 1 }
      turtle-agents = made chains.shape chains'.shape (breeds_in chains) (breeds_in chains') _ _ _ _ (tg + 1) lg size.shape_is size.breeds_are turtle-rolls turtle-link-rolls

-- what holds, holds where an error is answered
pub on-err : {A E P : Type 0} (r : Result A E) → P → OnErr r P
on-err (Ok x) p = tt
on-err (Err e) p = p

pub same-sides : (ends : Ends) → SameSides (sides_at ends) (sides_at ends)
same-sides ends t = refl

pub same-keys : (keys : Keys) → SameKeys keys keys
same-keys keys = record { keys = λ s. refl; count = refl }
