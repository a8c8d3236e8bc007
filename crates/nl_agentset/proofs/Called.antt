-- Turtles by what they are called: a turtle's serial is the number of its name above that of the turtle that is called 0.
use Rattle.std.specs.Prelude.{◌≡◌, ℕ, ◌+◌, ◌≤◌, ◌==◌, ◌||◌, ◌%◌, not, int_lt, ℤ, pos, ◌*ℤ◌, ◌<ℤ◌, unsigned_abs, Bool, true, false, if◌then◌else◌, List, [], ◌∷◌, map, find, Option, Some, None, is_some, option_map, Ok, Err, All, refl}
use Rattle.std.specs.List.Sorted.{IsStrictlyIncreasing}
use Rattle.std.proofs.Common.{ap, sym, ◌∙◌, arith}
use Rattle.std.proofs.lemmas.Int.{ints, by_lt_z}
use Rattle.nl_grid.proofs.AxisLemmas.{lt_true, true_lt}
use Rattle.nl_agentset.specs.inner.Walks.{whole_from_zero}
use Rattle.std.proofs.lemmas.Bool.{eq-eqb, eqb-true, ne_eqb, or_left, or_right}
use Rattle.std.proofs.lemmas.Bool.Decides.{Decides-int_eq, Decides-eqb, same_from_decides}
use Rattle.std.proofs.lemmas.List.Elements.{All-head, All-tail}
use Rattle.nl_fixed.specs.Numbers.{one, whole_part, is_whole}
use Rattle.nl_value.specs.Plain.{PlainTurtle}
use Rattle.nl_agents_layout.specs.Nouns.{BreedNumber}
use Rattle.nl_agents.specs.World.{Rest, World}
use Rattle.nl_agents.specs.Changes.{is_turtle, turtle_of, turtle_lives}
use Rattle.nl_agents.specs.Members.{is_listed}
use Rattle.nl_agents.specs.Names.{who_of}
use Rattle.nl_agents.specs.Standing.{IsWorld}
use Rattle.nl_agents.specs.declared.agents.Turtle.{Turtle}
use Rattle.nl_agents_layout.proofs.Ascending.{rest_ascends, first_is_below}
use Rattle.nl_agents.proofs.LivingMembers.{turtle_found}
use Rattle.nl_agentset_query.specs.declared.fail.QueryFail.TheVariants.{WrongType}
use Rattle.nl_agentset_query.specs.Outcomes.{and_then}
use Rattle.nl_agentset_query.specs.Agents.{is_of}
use Rattle.nl_agentset.specs.Sets.{is_called, turtle_named, bred_or_wrong, turtle_called}

module _ (r : Rest) (number : ℤ) where
  abbrev called : Turtle → Bool
  called t = is_called r number t.serial

  -- a number that isn't one of a whole number from 0 on is nobody's name
  none_among : ((n : ℕ) → pos n *ℤ pos one ≡ number → ⊥) → (ts : List Turtle) → find called ts ≡ None
  none_among never [] = refl
  none_among never (t ∷ ts) = by (called t) refl (none_among never ts)
    where
      by : (b : Bool) → called t ≡ b → find called ts ≡ None → (if b then Some t else find called ts) ≡ None
      by true is later = absurd (never (who_of r t.serial) ((Decides-int_eq (pos (who_of r t.serial) *ℤ pos one) number).0 is))
      by false is later = later

  pub none_called : ((n : ℕ) → pos n *ℤ pos one ≡ number → ⊥) → turtle_named r number ≡ None
  none_called never = none_among never r.turtles

  -- the test of a name is that of a serial
  same_test : (who serial : ℕ) → number ≡ pos who *ℤ pos one → r.base ≤ serial → is_called r number serial ≡ (serial == r.base + who)
  same_test who serial is above =
      let int = Decides-int_eq (pos (who_of r serial) *ℤ pos one) number in
      same_from_decides {P = serial ≡ r.base + who} (is_called r number serial) (serial == r.base + who)
      ((λ h. let same = int.0 h in omega (arith, ints, same, is, above)), (λ same. int.1 (omega (arith, ints, same, is))))
      (Decides-eqb serial (r.base + who))

  found_by : (who : ℕ) → number ≡ pos who *ℤ pos one → (ts : List Turtle) → All (λ (t : Turtle). r.base ≤ t.serial) ts → find called ts ≡ find (is_turtle (r.base + who)) ts
  found_by who is [] all = refl
  found_by who is (t ∷ ts) all =
      let above = All-head (λ (x : Turtle). r.base ≤ x.serial) t ts all in
      by (called t) (is_turtle (r.base + who) t) (same_test who t.serial is above)
      (found_by who is ts (All-tail (λ (x : Turtle). r.base ≤ x.serial) t ts all))
    where
      by : (a b : Bool) → a ≡ b → find called ts ≡ find (is_turtle (r.base + who)) ts → (if a then Some t else find called ts) ≡ (if b then Some t else find (is_turtle (r.base + who)) ts)
      by true true same later = refl
      by false false same later = later
      by true false same later = cc
      by false true same later = cc

pub one_called : (w : World) (number : ℤ) (who : ℕ) → IsWorld w → number ≡ pos who *ℤ pos one → turtle_named w.rest number ≡ turtle_of (w.rest.base + who) w.rest
one_called w number who world is = found_by w.rest number who is w.rest.turtles (λ k x inside. (world.agents.turtles k x inside).called)

-- what is whole and not below 0 is so many ones
rest_of_whole : (count n : ℤ) → count ≡ n *ℤ pos one → unsigned_abs count % one ≡ 0
rest_of_whole count n is = omega (arith, ints)

whole_of_rest : (count : ℤ) → unsigned_abs count % one ≡ 0 → count ≡ whole_part count *ℤ pos one
whole_of_rest count rest = omega (arith, ints)

above_zero : (n : ℤ) → (n <ℤ pos 0 → ⊥) → n ≡ pos (unsigned_abs n)
above_zero n high = by_lt_z n (pos 0) (λ low. absurd (high low)) (λ not_low. omega (arith, ints))

whole_rest : (number : ℤ) → is_whole number ≡ true → unsigned_abs number % one ≡ 0
whole_rest number is = eqb-true (unsigned_abs number % one) 0 is

rest_whole : (number : ℤ) → unsigned_abs number % one ≡ 0 → is_whole number ≡ true
rest_whole number is = eq-eqb (unsigned_abs number % one) 0 is

pub ones_of : (number : ℤ) (who : ℕ) → Some who ≡ whole_from_zero number → number ≡ pos who *ℤ pos one
ones_of number who is = by (int_lt (whole_part number) (pos 0)) (is_whole number) refl refl is
  where
    by : (a b : Bool) → int_lt (whole_part number) (pos 0) ≡ a → is_whole number ≡ b → Some who ≡ (if a || not b then None else Some (unsigned_abs (whole_part number))) → number ≡ pos who *ℤ pos one
    by true b low whole given = cc
    by false false low whole given = cc
    by false true low whole given =
        let same : who ≡ unsigned_abs (whole_part number) = cc in
        let part = above_zero (whole_part number) (λ below. absurd (let yes = lt_true (whole_part number) (pos 0) below in cc)) in
        whole_of_rest number (whole_rest number whole) ∙ ap (λ n. n *ℤ pos one) part ∙ ap (λ m. pos m *ℤ pos one) (sym same)

-- a number that is no whole one from 0 on is nobody's name
part_of_ones : (number : ℤ) (m : ℕ) → pos m *ℤ pos one ≡ number → whole_part number <ℤ pos 0 → ⊥
part_of_ones number m is low = omega (arith, ints)

pub no_ones : (number : ℤ) → None ≡ whole_from_zero number → (m : ℕ) → pos m *ℤ pos one ≡ number → ⊥
no_ones number is m ones = by (int_lt (whole_part number) (pos 0)) (is_whole number) refl refl is
  where
    by : (a b : Bool) → int_lt (whole_part number) (pos 0) ≡ a → is_whole number ≡ b → None ≡ (if a || not b then None else Some (unsigned_abs (whole_part number))) → ⊥
    by true b low whole given = part_of_ones number m ones (true_lt (whole_part number) (pos 0) low)
    by false false low whole given = absurd (let yes = rest_whole number (rest_of_whole number (pos m) (sym ones)) in cc)
    by false true low whole given = cc

serial_is : (w : World) (serial : ℕ) (o : Option Turtle) → IsWorld w → turtle_of serial w.rest ≡ o → is_some o ≡ true → Some serial ≡ option_map (λ (t : Turtle). t.serial) o
serial_is w serial None world is some = cc
serial_is w serial (Some t) world is some = ap Some (sym (turtle_found w serial t world is).0)

none_is : (o : Option Turtle) → is_some o ≡ false → None ≡ option_map (λ (t : Turtle). t.serial) o
none_is None is = refl
none_is (Some t) is = cc

-- the turtle that lives under the serial has the name, and where none lives nobody has it
pub named_lives : (w : World) (number : ℤ) (who : ℕ) → IsWorld w → number ≡ pos who *ℤ pos one → turtle_lives w.rest (w.rest.base + who) ≡ true
    → Some (w.rest.base + who) ≡ option_map (λ (t : Turtle). t.serial) (turtle_named w.rest number)
named_lives w number who world is lives =
    serial_is w (w.rest.base + who) (turtle_of (w.rest.base + who) w.rest) world refl lives
    ∙ ap (option_map (λ (t : Turtle). t.serial)) (sym (one_called w number who world is))

pub named_dead : (w : World) (number : ℤ) (who : ℕ) → IsWorld w → number ≡ pos who *ℤ pos one → turtle_lives w.rest (w.rest.base + who) ≡ false
    → None ≡ option_map (λ (t : Turtle). t.serial) (turtle_named w.rest number)
named_dead w number who world is dead =
    none_is (turtle_of (w.rest.base + who) w.rest) dead ∙ ap (option_map (λ (t : Turtle). t.serial)) (sym (one_called w number who world is))

-- ---- the turtle of a name and its breed

same_some : (a b : ℕ) → Some a ≡ Some b → a ≡ b
same_some a b is = cc

named_is : (o : Option Turtle) (serial : ℕ) → Some serial ≡ option_map (λ (t : Turtle). t.serial) o → (t : Turtle) × ((o ≡ Some t) × (serial ≡ t.serial))
named_is None serial is = cc
named_is (Some t) serial is = (t, (refl, same_some serial t.serial is))

among : (r : Rest) (number : ℤ) (ys : List Turtle) (t : Turtle) → find (called r number) ys ≡ Some t → is_listed (map (λ (y : Turtle). y.serial) ys) t.serial ≡ true
among r number [] t h = cc
among r number (y ∷ ys) t h = step (called r number y) h (among r number ys t)
  where
    serials : List ℕ
    serials = map (λ (z : Turtle). z.serial) ys

    step : (b : Bool) → (if b then Some y else find (called r number) ys) ≡ Some t → (find (called r number) ys ≡ Some t → is_listed serials t.serial ≡ true) → ((y.serial == t.serial) || is_listed serials t.serial) ≡ true
    step true here later = let same : y ≡ t = cc in or_left (y.serial == t.serial) (is_listed serials t.serial) (eq-eqb y.serial t.serial (ap (λ (z : Turtle). z.serial) same))
    step false there later = or_right (y.serial == t.serial) (is_listed serials t.serial) (later there)

in_named : (r : Rest) (number : ℤ) (ts : List Turtle) (t : Turtle) → IsStrictlyIncreasing (map (λ (x : Turtle). x.serial) ts) → find (called r number) ts ≡ Some t → find (is_turtle t.serial) ts ≡ Some t
in_named r number [] t rise is = cc
in_named r number (x ∷ xs) t rise is = by (called r number x) is (λ later. in_named r number xs t (rest_ascends x.serial (map (λ (y : Turtle). y.serial) xs) rise) later)
  where
    by : (b : Bool) → (if b then Some x else find (called r number) xs) ≡ Some t → (find (called r number) xs ≡ Some t → find (is_turtle t.serial) xs ≡ Some t)
        → (if x.serial == t.serial then Some x else find (is_turtle t.serial) xs) ≡ Some t
    by true here rest = let same : x ≡ t = cc in let it = eq-eqb x.serial t.serial (ap (λ (z : Turtle). z.serial) same) in rw it (ap Some same)
    by false later rest =
        let below = first_is_below x.serial (map (λ (y : Turtle). y.serial) xs) rise t.serial (among r number xs t later) in
        let apart = ne_eqb x.serial t.serial (λ same. omega (arith, below, same)) in
        rw apart (rest later)

-- the breed of the turtle of a name decides
pub breed_decides : (w : World) (breed : Option BreedNumber) (number : ℤ) (serial own : ℕ) (b : Bool) → IsWorld w → is_whole number ≡ true
    → Some serial ≡ option_map (λ (t : Turtle). t.serial) (turtle_named w.rest number) → option_map (λ (t : Turtle). t.breed) (turtle_of serial w.rest) ≡ Some own → is_of breed own ≡ b
    → turtle_called w.rest breed number ≡ (if b then Ok (PlainTurtle serial) else Err WrongType)
breed_decides w breed number serial own b world whole named bred test =
    let (t, parts) = named_is (turtle_named w.rest number) serial named in
    let same = parts.1 in
    let found : turtle_of serial w.rest ≡ Some t = ap (λ s. turtle_of s w.rest) same ∙ in_named w.rest number w.rest.turtles t world.agents.turtles_ascend parts.0 in
    let own_is : t.breed ≡ own = same_some t.breed own (ap (option_map (λ (x : Turtle). x.breed)) (sym found) ∙ bred) in
    ap (λ a. and_then (if a then Ok number else Err WrongType) (λ n. bred_or_wrong breed (turtle_named w.rest n))) whole
    ∙ ap (bred_or_wrong breed) parts.0
    ∙ ap (λ a. if is_of breed a then Ok (PlainTurtle t.serial) else Err WrongType) own_is
    ∙ ap (λ a. if a then Ok (PlainTurtle t.serial) else Err WrongType) test
    ∙ ap (λ s. if b then Ok (PlainTurtle s) else Err WrongType) (sym same)
