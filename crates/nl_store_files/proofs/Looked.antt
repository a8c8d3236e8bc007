-- What is told of one agent.
use Rattle.std.proofs.Common.{◌≡◌, ◌<◌, Option, Some, None, IsSome, IsSomeAnd, is_some, length, refl, sym, ap, ◌∙◌, subst}
use Rattle.std.specs.Option.{option_map}
use Rattle.std.proofs.lemmas.Option.{same_Some}
use Rattle.nl_grid.specs.Geometry.{IsPointOf}
use Rattle.nl_agents_layout.specs.declared.layout.Layout.{Layout}
use Rattle.nl_agents.specs.declared.agents.Turtle as living
use Rattle.nl_agents.specs.declared.agents.Link as tie
use Rattle.nl_store_records.specs.declared.fields.Body.{Body}
use Rattle.nl_store_records.specs.declared.fields.Body.TheVariants.{Turtle, Link}
use Rattle.nl_store_records.specs.declared.fields.Fields.{Fields}
use Rattle.nl_store_records.specs.declared.record.Record.{Record}
use Rattle.nl_index.specs.Index.{breeds_in, serial_in, Fits}
use Rattle.nl_index.specs.declared.chains.Chains.{Chains}
use Rattle.nl_store_files.specs.Agents.{link_in, turtle_in, HasMany}
use Rattle.nl_store_files.proofs.Parts.{fields_in}

-- a record is held under the key of what is found
pub turtle-record : (r : Option Record) → IsSome (turtle_in (fields_in r)) → IsSome r
turtle-record None h = h
turtle-record (Some r) h = refl

pub link-record : (r : Option Record) → IsSome (link_in (fields_in r)) → IsSome r
link-record None h = h
link-record (Some r) h = refl

-- the turtle of fields has their breed, variables and serial
turtle-told : {A : Type 0} (of : living.Turtle → A) (known : Fields → A) → ((f : Fields) (b : Body) → IsSome (turtle_in (Some (record f { body = b }))) → option_map of (turtle_in (Some (record f { body = b }))) ≡ Some (known f)) →
    (o : Option Fields) (f : Fields) → o ≡ Some f → IsSome (turtle_in o) → option_map of (turtle_in o) ≡ Some (known f)
turtle-told of known each None f e h = absurd (cc)
turtle-told of known each (Some g) f e h = let s : g ≡ f = cc in each g g.body h ∙ ap (λ (x : Fields). Some (known x)) s

turtle-breed-each : (f : Fields) (b : Body) → IsSome (turtle_in (Some (record f { body = b }))) → option_map (λ (t : living.Turtle). t.breed) (turtle_in (Some (record f { body = b }))) ≡ Some f.breed
turtle-breed-each f (Turtle at) h = refl
turtle-breed-each f (Link directed end1 end2) h = absurd (cc)

turtle-vars-each : (f : Fields) (b : Body) → IsSome (turtle_in (Some (record f { body = b }))) → option_map (λ (t : living.Turtle). t.vars) (turtle_in (Some (record f { body = b }))) ≡ Some f.vars
turtle-vars-each f (Turtle at) h = refl
turtle-vars-each f (Link directed end1 end2) h = absurd (cc)

pub turtle-breed : (o : Option Fields) (f : Fields) → o ≡ Some f → IsSome (turtle_in o) → option_map (λ (t : living.Turtle). t.breed) (turtle_in o) ≡ Some f.breed
turtle-breed = turtle-told (λ (t : living.Turtle). t.breed) (λ f. f.breed) turtle-breed-each

pub turtle-vars : (o : Option Fields) (f : Fields) → o ≡ Some f → IsSome (turtle_in o) → option_map (λ (t : living.Turtle). t.vars) (turtle_in o) ≡ Some f.vars
turtle-vars = turtle-told (λ (t : living.Turtle). t.vars) (λ f. f.vars) turtle-vars-each

link-told : {A : Type 0} (of : tie.Link → A) (known : Fields → A) → ((f : Fields) (b : Body) → IsSome (link_in (Some (record f { body = b }))) → option_map of (link_in (Some (record f { body = b }))) ≡ Some (known f)) →
    (o : Option Fields) (f : Fields) → o ≡ Some f → IsSome (link_in o) → option_map of (link_in o) ≡ Some (known f)
link-told of known each None f e h = absurd (cc)
link-told of known each (Some g) f e h = let s : g ≡ f = cc in each g g.body h ∙ ap (λ (x : Fields). Some (known x)) s

link-breed-each : (f : Fields) (b : Body) → IsSome (link_in (Some (record f { body = b }))) → option_map (λ (l : tie.Link). l.breed) (link_in (Some (record f { body = b }))) ≡ Some f.breed
link-breed-each f (Turtle at) h = absurd (cc)
link-breed-each f (Link directed end1 end2) h = refl

link-vars-each : (f : Fields) (b : Body) → IsSome (link_in (Some (record f { body = b }))) → option_map (λ (l : tie.Link). l.vars) (link_in (Some (record f { body = b }))) ≡ Some f.vars
link-vars-each f (Turtle at) h = absurd (cc)
link-vars-each f (Link directed end1 end2) h = refl

pub link-breed : (o : Option Fields) (f : Fields) → o ≡ Some f → IsSome (link_in o) → option_map (λ (l : tie.Link). l.breed) (link_in o) ≡ Some f.breed
link-breed = link-told (λ (l : tie.Link). l.breed) (λ f. f.breed) link-breed-each

pub link-vars : (o : Option Fields) (f : Fields) → o ≡ Some f → IsSome (link_in o) → option_map (λ (l : tie.Link). l.vars) (link_in o) ≡ Some f.vars
link-vars = link-told (λ (l : tie.Link). l.vars) (λ f. f.vars) link-vars-each

-- serials
pub turtle-number : (o : Option Fields) (t : living.Turtle) → turtle_in o ≡ Some t → serial_in o ≡ t.serial
turtle-number None t e = absurd (cc)
turtle-number (Some f) t e = go f.body e
  where
    go : (b : Body) → turtle_in (Some (record f { body = b })) ≡ Some t → f.serial ≡ t.serial
    go (Turtle at) q = let s : record { serial = f.serial; breed = f.breed; at = at; vars = f.vars } ≡ t = cc in ap (λ (x : living.Turtle). x.serial) s
    go (Link directed end1 end2) q = absurd (cc)

pub link-number : (o : Option Fields) (l : tie.Link) → link_in o ≡ Some l → serial_in o ≡ l.serial
link-number None l e = absurd (cc)
link-number (Some f) l e = go f.body e
  where
    go : (b : Body) → link_in (Some (record f { body = b })) ≡ Some l → f.serial ≡ l.serial
    go (Turtle at) q = absurd (cc)
    go (Link directed end1 end2) q = let s : record { serial = f.serial; breed = f.breed; directed = directed; end1 = end1; end2 = end2; vars = f.vars } ≡ l = cc in ap (λ (x : tie.Link). x.serial) s

-- a filed turtle's breed has a chain
pub breed-fits : (chains : Chains) (o : Option Fields) (f : Fields) → o ≡ Some f → IsSome (turtle_in o) → IsSomeAnd o (Fits chains) → f.breed < breeds_in chains
breed-fits chains None f e h fits = absurd (cc)
breed-fits chains (Some g) f e h fits = let s : g ≡ f = cc in subst (λ (x : Fields). x.breed < breeds_in chains) s (go g.body h fits)
  where
    go : (b : Body) → IsSome (turtle_in (Some (record g { body = b }))) → Fits chains (record g { body = b }) → g.breed < breeds_in chains
    go (Turtle at) q fit = fit.1
    go (Link directed end1 end2) q fit = absurd (cc)

-- a filed turtle's point is one of the shape
pub point-fits : (chains : Chains) (o : Option Fields) (t : living.Turtle) → turtle_in o ≡ Some t → IsSomeAnd o (Fits chains) → IsPointOf chains.shape t.at
point-fits chains None t e fits = absurd (cc)
point-fits chains (Some g) t e fits = go g.body e fits
  where
    go : (b : Body) → turtle_in (Some (record g { body = b })) ≡ Some t → Fits chains (record g { body = b }) → IsPointOf chains.shape t.at
    go (Turtle at) q fit = let s : record { serial = g.serial; breed = g.breed; at = at; vars = g.vars } ≡ t = cc in subst (λ (x : living.Turtle). IsPointOf chains.shape x.at) s fit.0
    go (Link directed end1 end2) q fit = absurd (cc)

-- what a turtle, or a link, keeps is what its fields have
pub turtle-entries : (o : Option Fields) → IsSome (turtle_in o) → option_map (λ (t : living.Turtle). t.vars) (turtle_in o) ≡ option_map (λ (f : Fields). f.vars) o
turtle-entries None h = absurd (cc)
turtle-entries (Some f) h = turtle-vars (Some f) f refl h

pub link-entries : (o : Option Fields) → IsSome (link_in o) → option_map (λ (l : tie.Link). l.vars) (link_in o) ≡ option_map (λ (f : Fields). f.vars) o
link-entries None h = absurd (cc)
link-entries (Some f) h = link-vars (Some f) f refl h

pub has-many : (layout : Layout) (o : Option Fields) (t : living.Turtle) → turtle_in o ≡ Some t → length t.vars ≡ length layout.some_turtle → HasMany layout o
has-many layout None t e h = absurd (cc)
has-many layout (Some f) t e h =
    let z = turtle-vars (Some f) f refl (ap is_some e) in
    let y : Some t.vars ≡ Some f.vars = sym (ap (option_map (λ (x : living.Turtle). x.vars)) e) ∙ z in
    subst (λ vs. length vs ≡ length layout.some_turtle) (same_Some t.vars f.vars y) h
