-- What contracts see of the keys of agents.
use Rattle.std.specs.Prelude.{◌≡◌, ℕ, ◌<◌, ◌==◌, Option, nat_eq, if◌then◌else◌}
use Rattle.indexmap.specs.IndexMap.{get, index_map_len, spare}
use Rattle.nl_store_files.specs.declared.keys.Keys.{Keys}

-- the key of a serial
abbrev pub key_in : Keys → ℕ → Option ℕ
key_in keys serial = get nat_eq keys.map serial

-- how many there are
abbrev pub key_count : Keys → ℕ
key_count keys = index_map_len keys.map

-- the next `put` takes no memory
abbrev pub HasPlace : Keys → Type 0
HasPlace keys = 0 < spare keys.map

-- each serial has the key that it had, and there are as many
pub record SameKeys (old new : Keys) : Type 0 where
  pub keys : (serial : ℕ) → key_in new serial ≡ key_in old serial
  pub count : key_count new ≡ key_count old

-- one serial has this, and each other one the key that it had
abbrev pub SetsKey : (old new : Keys) → ℕ → Option ℕ → Type 0
SetsKey old new serial slot = (s : ℕ) → key_in new s ≡ (if s == serial then slot else key_in old s)
