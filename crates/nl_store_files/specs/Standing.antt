-- When records, chains and keys hold together.
use Rattle.std.specs.Prelude.{◌≡◌, ℕ, ◌==◌, Bool, false, length, Option, Some, is_some, if◌then◌else◌}
use Rattle.std.specs.Option.{option_map}
use Rattle.nl_agents.specs.Nouns.{Vars}
use Rattle.nl_agents.specs.declared.agents.Link as tie
use Rattle.nl_store_records.specs.Records.{Sets}
use Rattle.nl_store_records.specs.declared.fields.Fields.{Fields}
use Rattle.nl_store_records.specs.declared.record.Record.{Record}
use Rattle.nl_index.specs.Index.{IsIndex, Lists, breeds_in}
use Rattle.nl_index.specs.declared.chains.Chains.{Chains}
use Rattle.nl_links.specs.Sides.{sides_at}
use Rattle.nl_links.specs.Ends.{IsEnded, LinkLists}
use Rattle.nl_links.specs.declared.ends.Ends.{Ends}
use Rattle.nl_store_lists.specs.Rolls.{IsRoll, roll}
use Rattle.nl_store_files.specs.Keys.{key_count, key_in}
use Rattle.nl_store_files.specs.declared.keys.Keys.{Keys}
use Rattle.nl_store_files.specs.Agents.{Agents, link_at, link_serial, turtle_at, turtle_serial}

-- a record is held under the key
abbrev pub held : (ℕ → Option Record) → ℕ → Bool
held at key = is_some (at key)

-- a link is held under it
abbrev pub is_link : (ℕ → Option Record) → ℕ → Bool
is_link at key = is_some (link_at at key)

-- Every record is in its chains, and every link in those of its two ends, which are turtles and differ; the serials of turtles and of links
-- lead to their keys; and each turtle has chains of its links.
pub record IsFiles (chains : Chains) (ends : Ends) (at : ℕ → Option Record) (turtle_key link_key : ℕ → Option ℕ)
    (turtles_given links_given : ℕ) : Type 0 where
  pub lists : Lists
  pub joined : LinkLists
  pub index : IsIndex chains at (held at) lists
  pub ended : IsEnded ends at (is_link at) joined
  pub turtles : IsRoll turtle_serial (turtle_at at) turtle_key turtles_given
  pub links : IsRoll link_serial (link_at at) link_key links_given
  pub entered : (serial : ℕ) → is_some (sides_at ends serial) ≡ is_some (turtle_key serial)
  pub apart : (key : ℕ) (l : tie.Link) → link_at at key ≡ Some l → (l.end1 == l.end2) ≡ false

-- the turtles, and the links, that they stand for
abbrev pub agents_of : Chains → (ℕ → Option Record) → Keys → Keys → (turtles_given links_given : ℕ) → Agents
agents_of chains at turtle_keys link_keys turtles_given links_given = record {
  shape = chains.shape;
  breeds = breeds_in chains;
  turtles = roll (turtle_at at) (key_in turtle_keys) turtles_given;
  links = roll (link_at at) (key_in link_keys) links_given;
  turtles_given = turtles_given;
  links_given = links_given;
}

-- there are as many keys as turtles, and as links
pub record AreCounted (at : ℕ → Option Record) (turtle_keys link_keys : Keys) (turtles_given links_given : ℕ) : Type 0 where
  pub turtles : key_count turtle_keys ≡ length (roll (turtle_at at) (key_in turtle_keys) turtles_given)
  pub links : key_count link_keys ≡ length (roll (link_at at) (key_in link_keys) links_given)

-- the key has a new record of these fields, and every other key has what it had
pub record PutsNew (old new : ℕ → Option Record) (key : ℕ) (fields : Fields) : Type 0 where
  pub entry : Record
  pub fields_are : entry.fields ≡ fields
  pub sets : Sets old new key (Some entry)

-- the record with other variables
abbrev pub with_vars : (Vars → Vars) → Record → Record
with_vars change r = record r { fields = record r.fields { vars = change r.fields.vars } }

-- one key's record has other variables, and every other key what it had
abbrev pub ChangesVars : (old new : ℕ → Option Record) → ℕ → (Vars → Vars) → Type 0
ChangesVars old new key change = (k : ℕ) → new k ≡ (if k == key then option_map (with_vars change) (old k) else old k)
