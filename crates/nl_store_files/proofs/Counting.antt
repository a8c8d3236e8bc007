-- Lemmas on what is under a key: a turtle or a link, and the same under other records.
use Rattle.std.proofs.Common.{◌≡◌, ℕ, Bool, true, false, Option, Some, None, is_some, eqb, cond, refl, sym, ap, ◌∙◌, arith}
use Rattle.std.proofs.lemmas.Option.{same_Some}
use Rattle.nl_agents.specs.declared.agents.Turtle as living
use Rattle.nl_agents.specs.declared.agents.Link as tie
use Rattle.nl_store_lists.specs.Chained.{at_number}
use Rattle.nl_store_records.specs.Records.{fields_at}
use Rattle.nl_store_records.specs.declared.fields.Body.{Body}
use Rattle.nl_store_records.specs.declared.fields.Body.TheVariants.{Turtle, Link}
use Rattle.nl_store_records.specs.declared.fields.Fields.{Fields}
use Rattle.nl_store_records.specs.declared.record.Record.{Record}
use Rattle.nl_index.specs.Index.{by_birth, chain_of, serial_in}
use Rattle.nl_store_files.specs.Agents.{link_at, link_in, turtle_at, turtle_in}
use Rattle.nl_store_files.specs.Standing.{held}
use Rattle.nl_store_files.proofs.Parts.{fields_in}

-- ---- what a record is

-- a turtle is in the first chain of births, and a link in the second
pub record IsTurtleIn (o : Option Fields) : Type 0 where
  pub turtle : living.Turtle
  pub is : turtle_in o ≡ Some turtle
  pub serial_is : serial_in o ≡ turtle.serial

pub record IsLinkIn (o : Option Fields) : Type 0 where
  pub link : tie.Link
  pub is : link_in o ≡ Some link
  pub serial_is : serial_in o ≡ link.serial

pub turtle-by-birth : (o : Option Fields) → chain_of by_birth o ≡ Some 0 → IsTurtleIn o
turtle-by-birth None e = absurd (cc)
turtle-by-birth (Some f) e = go f.body refl e
  where
    go : (b : Body) → f.body ≡ b → chain_of by_birth (Some f) ≡ Some 0 → IsTurtleIn (Some f)
    go (Turtle at) q e = record {
      turtle = record { serial = f.serial; breed = f.breed; at = at; vars = f.vars };
      is = ap (λ b. turtle_in (Some (record f { body = b }))) q;
      serial_is = refl;
    }
    go (Link directed end1 end2) q e = (let z = sym (ap (λ b. chain_of by_birth (Some (record f { body = b }))) q) ∙ e in (let y = same_Some 1 0 z in absurd (omega (arith, y))))

pub link-by-birth : (o : Option Fields) → chain_of by_birth o ≡ Some 1 → IsLinkIn o
link-by-birth None e = absurd (cc)
link-by-birth (Some f) e = go f.body refl e
  where
    go : (b : Body) → f.body ≡ b → chain_of by_birth (Some f) ≡ Some 1 → IsLinkIn (Some f)
    go (Turtle at) q e = (let z = sym (ap (λ b. chain_of by_birth (Some (record f { body = b }))) q) ∙ e in (let y = same_Some 0 1 z in absurd (omega (arith, y))))
    go (Link directed end1 end2) q e = record {
      link = record { serial = f.serial; breed = f.breed; directed = directed; end1 = end1; end2 = end2; vars = f.vars };
      is = ap (λ b. link_in (Some (record f { body = b }))) q;
      serial_is = refl;
    }

-- what is a turtle is no link
pub turtle-or-link : (o : Option Fields) (t : living.Turtle) (l : tie.Link) → turtle_in o ≡ Some t → link_in o ≡ Some l → ⊥
turtle-or-link None t l e h = absurd (cc)
turtle-or-link (Some f) t l e h = go f.body refl
  where
    go : (b : Body) → f.body ≡ b → ⊥
    go (Turtle at) q = (let z = sym (ap (λ b. link_in (Some (record f { body = b }))) q) ∙ h in absurd (cc))
    go (Link directed end1 end2) q = (let z = sym (ap (λ b. turtle_in (Some (record f { body = b }))) q) ∙ e in absurd (cc))

held-in : (r : Option Record) (t : living.Turtle) → turtle_in (fields_in r) ≡ Some t → is_some r ≡ true
held-in None t e = absurd (cc)
held-in (Some r) t e = refl

linked-in : (r : Option Record) (l : tie.Link) → link_in (fields_in r) ≡ Some l → is_some r ≡ true
linked-in None l e = absurd (cc)
linked-in (Some r) l e = refl

-- they are held
pub turtle-held : (at : ℕ → Option Record) (key : ℕ) (t : living.Turtle) → turtle_at at key ≡ Some t → held at key ≡ true
turtle-held at key t e = held-in (at key) t e

pub link-held : (at : ℕ → Option Record) (key : ℕ) (l : tie.Link) → link_at at key ≡ Some l → held at key ≡ true
link-held at key l e = linked-in (at key) l e

-- ---- fields that are known

pub record HasFields (r : Option Record) : Type 0 where
  pub entry : Record
  pub is : r ≡ Some entry

pub has-fields : (r : Option Record) → is_some r ≡ true → HasFields r
has-fields None e = absurd (cc)
has-fields (Some r) e = record { entry = r; is = refl }

-- ---- other fields of one key

module _ {A : Type 0} (of : Option Fields → A) (old new : ℕ → Option Record) (key : ℕ) (slot : Option Fields)
    (fields : (k : ℕ) → fields_at new k ≡ at_number (fields_at old) key slot k) where
  pub told-by : (k : ℕ) → of (fields_at new k) ≡ at_number (λ i. of (fields_at old i)) key (of slot) k
  told-by k = ap of (fields k) ∙ go (eqb k key)
    where
      go : (b : Bool) → of (cond b slot (fields_at old k)) ≡ cond b (of slot) (of (fields_at old k))
      go true = refl
      go false = refl
