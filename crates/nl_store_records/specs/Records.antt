-- What contracts see of records.
use Rattle.std.specs.Prelude.{◌≡◌, ◌<◌, ℕ, ◌==◌, Option, None, if◌then◌else◌}
use Rattle.std.specs.Option.{option_map}
use Rattle.slab.specs.Slab.{get, HasRoomFor}
use Rattle.nl_store_records.specs.Packed.{small_keys}
use Rattle.nl_store_records.specs.declared.fields.Body.{Body}
use Rattle.nl_store_records.specs.declared.fields.Fields.{Fields}
use Rattle.nl_store_records.specs.declared.record.Place.{Place}
use Rattle.nl_store_records.specs.declared.record.Record.{Record}
use Rattle.nl_store_records.specs.declared.records.Records.{Records}

-- the record under each key
abbrev pub record_at : Records → ℕ → Option Record
record_at records key = get records key

-- what is known of the agent under each key
abbrev pub fields_at : (ℕ → Option Record) → ℕ → Option Fields
fields_at at key = option_map (λ (r : Record). r.fields) (at key)

-- the next `put` can't be refused
abbrev pub HasRoom : Records → Type 0
HasRoom records = HasRoomFor records 1 × (records.vacant_key < small_keys)

-- each key has the record that it had
abbrev pub SameRecords : (old new : ℕ → Option Record) → Type 0
SameRecords old new = (key : ℕ) → new key ≡ old key

-- the key has this, and every other key has what it had
abbrev pub Sets : (old new : ℕ → Option Record) → ℕ → Option Record → Type 0
Sets old new key slot = (k : ℕ) → new k ≡ (if k == key then slot else old k)

abbrev pub with_fields : Fields → Record → Record
with_fields fields r = record r { fields = fields }

-- the record with the agent as this, and of this breed
abbrev pub settled : Body → ℕ → Record → Record
settled body breed r = record r { fields = record r.fields { body = body; breed = breed } }

-- the first of its chain and the last, or in no chain
abbrev pub no_place : Place
no_place = record { previous = None; next = None }

-- the place in a chain of that kind: 0 births, 1 patch, 2 breed, 3 first end, and else second end
abbrev pub record_place : ℕ → Record → Place
record_place chain r =
    if chain == 0 then r.births else if chain == 1 then r.patch else if chain == 2 then r.breed else if chain == 3 then r.end1 else r.end2

abbrev pub with_place : ℕ → Place → Record → Record
with_place chain place r =
    if chain == 0 then record r { births = place } else
    if chain == 1 then record r { patch = place } else
    if chain == 2 then record r { breed = place } else
    if chain == 3 then record r { end1 = place } else record r { end2 = place }

-- the record with these keys before and after it in its chain of that kind
abbrev pub linked : ℕ → (previous next : Option ℕ) → Record → Record
linked chain previous next = with_place chain (record { previous = previous; next = next })
