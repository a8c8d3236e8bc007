-- Why nothing is given, case by case.
use Rattle.std.proofs.Common.{◌≡◌, ℤ, pos, ◌≤ℤ◌, Bool, true, false, Some, None, inl, inr, ◌⊎◌, refl, sym, ap, ◌∙◌, arith}
use Rattle.std.specs.Prelude.{int_le}
use Rattle.std.proofs.lemmas.Int.{ints}
use Rattle.nl_grid.proofs.TallyLemmas.{and_first, and_second}
use Rattle.nl_fixed.specs.Numbers.{one}
use Rattle.nl_agents_layout.specs.Nouns.{Slot}
use Rattle.nl_agents.specs.World.{World}
use Rattle.nl_motion.specs.Diffusion.{is_part, are_numbers, are_in_range, field_of, diffused_field, diffuse_fault}
use Rattle.nl_motion.specs.declared.faults.MoveFault.{MoveFault}
use Rattle.nl_motion.specs.declared.faults.MoveFault.TheVariants as fault

module _ (slot : Slot) (part : ℤ) (four : Bool) (w : World) where
  pub no_part : is_part part ≡ false → diffuse_fault slot part four w ≡ Some fault.Domain
  unfolding diffuse_fault
  no_part a = rw a refl

  pub no_number : is_part part ≡ true → are_numbers slot w ≡ false → diffuse_fault slot part four w ≡ Some fault.WrongType
  unfolding diffuse_fault
  no_number a b = rw (a, b) refl

  pub no_room : is_part part ≡ true → are_numbers slot w ≡ true → are_in_range (diffused_field four w.rest.shape part (field_of slot w)) ≡ false
      → diffuse_fault slot part four w ≡ Some fault.Overflow
  unfolding diffuse_fault
  no_room a b c = rw (a, b, c) refl

  pub no_fault : is_part part ≡ true → are_numbers slot w ≡ true → are_in_range (diffused_field four w.rest.shape part (field_of slot w)) ≡ true
      → diffuse_fault slot part four w ≡ None
  unfolding diffuse_fault
  no_fault a b c = rw (a, b, c) refl

pub is_part_low : (part : ℤ) → is_part part ≡ true → pos 0 ≤ℤ part
is_part_low part h = let e = and_first (int_le (pos 0) part) (int_le part (pos one)) h in grind (arith, ints)

pub is_part_high : (part : ℤ) → is_part part ≡ true → part ≤ℤ pos one
is_part_high part h = let e = and_second (int_le (pos 0) part) (int_le part (pos one)) h in grind (arith, ints)

-- why the field isn't read, and why it isn't worked out
pub cause_of_field : (slot : Slot) (part : ℤ) (four : Bool) (w : World) (why : MoveFault) → is_part part ≡ true
    → (why ≡ fault.NoMemory) ⊎ ((why ≡ fault.WrongType) × (are_numbers slot w ≡ false))
    → (why ≡ fault.NoMemory) ⊎ (diffuse_fault slot part four w ≡ Some why)
cause_of_field slot part four w why is (inl memory) = inl memory
cause_of_field slot part four w why is (inr found) = inr (no_number slot part four w is found.1 ∙ ap Some (sym found.0))

pub cause_of_counts : (slot : Slot) (part : ℤ) (four : Bool) (w : World) (why : MoveFault) → is_part part ≡ true → are_numbers slot w ≡ true
    → (why ≡ fault.NoMemory) ⊎ ((why ≡ fault.Overflow) × (are_in_range (diffused_field four w.rest.shape part (field_of slot w)) ≡ false))
    → (why ≡ fault.NoMemory) ⊎ (diffuse_fault slot part four w ≡ Some why)
cause_of_counts slot part four w why is all (inl memory) = inl memory
cause_of_counts slot part four w why is all (inr found) = inr (no_room slot part four w is all found.1 ∙ ap Some (sym found.0))
