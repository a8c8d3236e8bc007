-- Steps of reading: what those before a whole reading, or before its fault, have read.
use Rattle.std.proofs.Common.{◌≡◌, Bool, true, false, Result, Ok, Err, refl, ap}
use Rattle.nl_fixed.specs.Nouns.{Bytes}
use Rattle.nl_experiment_keys.specs.Reading.{◌>>=◌, only_if, told_at}
use Rattle.nl_experiment_keys.specs.declared.faults.KeyFault.{KeyFault}
use Rattle.nl_experiment_keys.specs.declared.faults.PlanKind.{PlanKind}

module _ {A B E : Type 0} where
  -- what a step and the next one read
  pub from_bind : (m : Result A E) (f : A → Result B E) (x : B) (C : Type 0) → ((y : A) → m ≡ Ok y → f y ≡ Ok x → C) → (m >>= f) ≡ Ok x → C
  from_bind (Ok y) f x C next is = next y refl is
  from_bind (Err e) f x C next is = let bad : Err e ≡ Ok x = is in absurd (cc)

  -- a fault is that of a step or of the next one
  pub from_fault : (m : Result A E) (f : A → Result B E) (e : E) (C : Type 0) → (m ≡ Err e → C) → ((y : A) → m ≡ Ok y → f y ≡ Err e → C) → (m >>= f) ≡ Err e → C
  from_fault (Ok y) f e C here next is = next y refl is
  from_fault (Err other) f e C here next is = let same : other ≡ e = cc in here (ap Err same)

pub told_ok : {X : Type 0} (key : Bytes) (m : Result X PlanKind) (x : X) → told_at key m ≡ Ok x → m ≡ Ok x
told_ok key (Ok y) x is = let same : y ≡ x = cc in ap Ok same
told_ok key (Err kind) x is = absurd (cc)

-- what is told at a key
abbrev key_of : {X : Type 0} → Result X KeyFault → Bytes → Bytes
key_of (Ok x) usual = usual
key_of (Err fault) usual = fault.key

abbrev kind_of : {X : Type 0} → Result X KeyFault → PlanKind → PlanKind
kind_of (Ok x) usual = usual
kind_of (Err fault) usual = fault.kind

pub told_there : {X : Type 0} (key : Bytes) (m : Result X PlanKind) (fault : KeyFault) → told_at key m ≡ Err fault → (m ≡ Err fault.kind) × (key ≡ fault.key)
told_there key (Ok x) fault is = absurd (cc)
told_there {X} key (Err kind) fault is =
    (ap Err (ap (λ (r : Result X KeyFault). kind_of r kind) is), ap (λ (r : Result X KeyFault). key_of r key) is)

-- a test that was passed
pub passed : {E : Type 0} (b : Bool) (e : E) (x : Unit {0}) → only_if b e ≡ Ok x → b ≡ true
passed true e x is = refl
passed false e x is = let bad : Err e ≡ Ok x = is in absurd (cc)

-- or not
pub failed : {E : Type 0} (b : Bool) (e f : E) → only_if b e ≡ Err f → b ≡ false
failed true e f is = let bad : Ok tt ≡ Err f = is in absurd (cc)
failed false e f is = refl

pub failed_as : {E : Type 0} (b : Bool) (e f : E) → only_if b e ≡ Err f → e ≡ f
failed_as true e f is = let bad : Ok tt ≡ Err f = is in absurd (cc)
failed_as false e f is = cc
