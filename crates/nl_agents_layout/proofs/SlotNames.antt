-- Each variable of agents has a slot of its own.
use Rattle.std.proofs.Common.{◌≡◌, ℕ, zero, suc, ◌+◌, ◌<◌, ◌==◌, ◌&&◌, ◌||◌, Bool, true, false, not, if◌then◌else◌, List, [], ◌∷◌, map, length, filter, find, Option, Some, None, bytes_eq, slice_get, nat_lt, refl, sym, ap, subst, ◌∙◌, arith, option_map, ⊎_elim, get_or, All}
use Rattle.std.specs.List.{range_with_len, list_any}
use Rattle.std.proofs.lemmas.Bool.{eqb-true, lt-ltb, ltb-true, and_parts, or_cases, or_left, or_right, and_from, false_from_ne_true}
use Rattle.std.proofs.lemmas.Option.{slice_get_within, slice_get-map}
use Rattle.std.proofs.lemmas.List.Folds.{list_any_at}
use Rattle.std.proofs.lemmas.Bool.{eq-eqb}
use Rattle.std.proofs.lemmas.Bool.Decides.{same_from_decides}
use Rattle.std.proofs.lemmas.Slice.Eq.{bytes_eq-Decides}
use Rattle.nl_fixed.specs.Nouns.{Name, Names}
use Rattle.nl_words.specs.Row.{Row, Code}
use Rattle.nl_words.specs.Rows.{rows}
use Rattle.nl_tree.specs.declared.declared.Breed.{Breed}
use Rattle.nl_tree.specs.declared.declared.Declared.{Declared}
use Rattle.nl_tree.specs.declared.declared.What.{What}
use Rattle.nl_tree.specs.declared.declared.What.TheVariants as what
use Rattle.nl_tree.specs.Vocabulary.{among, global_names, owned_names, terms, term_named, named_what, what_of, what_named}
use Rattle.nl_tree.specs.Slots.{is_global_what, slot_of, run_number, experiment_name}
use Rattle.nl_tree.specs.Checked.{IsInRange}
use Rattle.nl_tree.specs.Term.{Term}
use Rattle.nl_tree.specs.declared.declared.NamedWhat.{NamedWhat}
use Rattle.nl_tree.proofs.Range.{named_in_range}
use Rattle.nl_agents_layout.specs.Nouns.{Slot, Slots}
use Rattle.nl_agents_layout.specs.BuiltIn.{BuiltIn, built_in, built_in_count, slot_from, slot_of_code, is_of_turtles, is_of_links}
use Rattle.nl_agents_layout.specs.Layouts.{has_slot, is_slot_of, slots_count, slots_where, slot_of_what, layout_of, breed_layout, owns_by_breed, is_breed_of, own_in}
use Rattle.nl_agents_layout.specs.SlotLaws.{agents_slot, OwnedHaveSlots, SlotsAreApart, GlobalsKeepTheirSlots, LayoutsTellSlots, ColorAndHeadingAreFirst, SlotsAreBelow, OwnersAreSome}
use Rattle.nl_agents_layout.proofs.Ascending.{has_filter, has_range}
use Rattle.nl_agents_layout.proofs.OwnedRows.{name_of_number, name_of_code, number_of_name}

-- ---- names that are declared

-- a name that is among names stands at a place there
at_place : (xs : Names) (x : Name) → among x xs ≡ true → (i : ℕ) × (slice_get xs i ≡ Some x)
at_place [] x h = cc
at_place (y ∷ ys) x h = by (bytes_eq y x) refl h (at_place ys x)
  where
    by : (b : Bool) → bytes_eq y x ≡ b → (b || among x ys) ≡ true → (among x ys ≡ true → (i : ℕ) × (slice_get ys i ≡ Some x)) → (i : ℕ) × (slice_get (y ∷ ys) i ≡ Some x)
    by true same here later = (0, ap Some ((bytes_eq-Decides y x).0 same))
    by false other here later = let (i, at) = later here in (suc i, at)

pub owned_have_slots : OwnedHaveSlots
owned_have_slots d name fit named =
    let (n, at) = at_place (owned_names d) name named in
    let inside = slice_get_within (owned_names d) n name at in
    let slot : slot_of_what d (what.Own n) ≡ Some (built_in_count + n) = ap (λ b. if b then Some (built_in_count + n) else None) (lt-ltb n (length (owned_names d)) inside) in
    (what.Own n, built_in_count + n, (number_of_name d fit name n at, slot, omega arith, omega (arith, inside)))

-- ---- slots that are one

code_at : (k : ℕ) (bs : List BuiltIn) (code : Code) (slot : Slot) → slot_from k bs code ≡ Some slot → (i : ℕ) × ((slot ≡ k + i) × (option_map (λ (b : BuiltIn). b.code) (slice_get bs i) ≡ Some code))
code_at k [] code slot h = cc
code_at k (b ∷ bs) code slot h = by (b.code == code) refl h (code_at (k + 1) bs code slot)
  where
    by : (same : Bool) → (b.code == code) ≡ same → (if same then Some k else slot_from (k + 1) bs code) ≡ Some slot
        → (slot_from (k + 1) bs code ≡ Some slot → (i : ℕ) × ((slot ≡ k + 1 + i) × (option_map (λ (x : BuiltIn). x.code) (slice_get bs i) ≡ Some code)))
        → (i : ℕ) × ((slot ≡ k + i) × (option_map (λ (x : BuiltIn). x.code) (slice_get (b ∷ bs) i) ≡ Some code))
    by true is here later = let at : k ≡ slot = cc in (0, (omega (arith, at), ap Some (eqb-true b.code code is)))
    by false is here later = let (i, (at, there)) = later here in (suc i, (omega (arith, at), there))

same_code : (a b : Code) (slot : Slot) → slot_of_code a ≡ Some slot → slot_of_code b ≡ Some slot → a ≡ b
same_code a b slot h k =
    let (i, (at, here)) = code_at 0 built_in a slot h in
    let (j, (to, there)) = code_at 0 built_in b slot k in
    let same : j ≡ i = omega (arith, at, to) in
    let both : Some a ≡ Some b = sym here ∙ subst (λ n. option_map (λ (x : BuiltIn). x.code) (slice_get built_in n) ≡ Some b) same there in
    cc

code_below : (code : Code) (slot : Slot) → slot_of_code code ≡ Some slot → slot < built_in_count
code_below code slot h =
    let (i, (at, here)) = code_at 0 built_in code slot h in
    let inside : i < 14 = slice_get_within (map (λ (b : BuiltIn). b.code) built_in) i code (slice_get-map (λ (b : BuiltIn). b.code) built_in i ∙ here) in
    omega (arith, at, inside)

-- the variable of agents that a name is, by its slot
data Slotted (d : Declared) (name : Name) (slot : Slot) : Type 0 where
  as_built_in : (code : Code) → slot_of_code code ≡ Some slot → option_map (λ (r : Row). r.name) (slice_get rows code) ≡ Some name → Slotted d name slot
  as_owned : (n : ℕ) → built_in_count + n ≡ slot → slice_get (owned_names d) n ≡ Some name → Slotted d name slot

slotted : (d : Declared) (name : Name) (it : What) (slot : Slot) → what_named d name ≡ Some it → agents_slot d it ≡ Some slot → Slotted d name slot
slotted d name (what.Base code) slot is h = as_built_in code h (name_of_code d name code is)
slotted d name (what.Own n) slot is h = as_owned n (by (nat_lt n (length (owned_names d))) h) (name_of_number d name n is)
  where
    by : (low : Bool) → (if low then Some (built_in_count + n) else None) ≡ Some slot → built_in_count + n ≡ slot
    by true here = cc
    by false here = cc
slotted d name (what.Global n) slot is h = cc
slotted d name (what.Made n code) slot is h = cc
slotted d name (what.Procedure n) slot is h = cc

one_name : (d : Declared) (name other : Name) (slot : Slot) → Slotted d name slot → Slotted d other slot → name ≡ other
one_name d name other slot (as_built_in a h here) (as_built_in b k there) =
    let same : b ≡ a = sym (same_code a b slot h k) in
    let both : Some name ≡ Some other = sym here ∙ subst (λ code. option_map (λ (r : Row). r.name) (slice_get rows code) ≡ Some other) same there in
    cc
one_name d name other slot (as_built_in a h here) (as_owned m k there) = absurd (omega (arith, code_below a slot h, k))
one_name d name other slot (as_owned n h here) (as_built_in b k there) = absurd (omega (arith, code_below b slot k, h))
one_name d name other slot (as_owned n h here) (as_owned m k there) =
    let same : m ≡ n = omega (arith, h, k) in
    let both : Some name ≡ Some other = sym here ∙ subst (λ i. slice_get (owned_names d) i ≡ Some other) same there in
    cc

pub slots_are_apart : SlotsAreApart
slots_are_apart d name other it that slot named known h k = one_name d name other slot (slotted d name it slot named h) (slotted d other that slot known k)

-- ---- global variables

what_found : (name : Name) (ts : List Term) → what_of (find (λ r. bytes_eq r.name name) (map named_what ts)) ≡ option_map (λ (t : Term). t.what) (term_named ts name)
what_found name [] = refl
what_found name (t ∷ ts) = by (bytes_eq t.name name) (what_found name ts)
  where
    by : (b : Bool) → what_of (find (λ (r : NamedWhat). bytes_eq r.name name) (map named_what ts)) ≡ option_map (λ (u : Term). u.what) (term_named ts name)
        → what_of (if b then Some (named_what t) else find (λ (r : NamedWhat). bytes_eq r.name name) (map named_what ts)) ≡ option_map (λ (u : Term). u.what) (if b then Some t else term_named ts name)
    by true later = refl
    by false later = later

-- the number of a global variable is a place in the model
number_below : (d : Declared) (name : Name) (n : ℕ) → what_named d name ≡ Some (what.Global n) → n < length (global_names d)
number_below d name n is = by (term_named (terms d) name) refl (sym (what_found name (terms d)) ∙ is)
  where
    by : (o : Option Term) → term_named (terms d) name ≡ o → option_map (λ (t : Term). t.what) o ≡ Some (what.Global n) → n < length (global_names d)
    by None found here = cc
    by (Some t) found here = let it : t.what ≡ what.Global n = cc in subst (λ w. IsInRange d w) it (named_in_range d name t found)

-- the two words that say what a run is are built-in ones
not_global : (d : Declared) (name : Name) (n : ℕ) → option_map (λ (w : What). is_global_what w) (what_named d name) ≡ Some false → what_named d name ≡ Some (what.Global n) → ⊥
not_global d name n plain is = cc

number_is_built_in : (d : Declared) → option_map (λ (w : What). is_global_what w) (what_named d run_number) ≡ Some false
unfolding rows
number_is_built_in d = refl

experiment_is_built_in : (d : Declared) → option_map (λ (w : What). is_global_what w) (what_named d experiment_name) ≡ Some false
unfolding rows
experiment_is_built_in d = refl

apart_from : (d : Declared) (name known : Name) (n : ℕ) → option_map (λ (w : What). is_global_what w) (what_named d known) ≡ Some false → what_named d name ≡ Some (what.Global n) → bytes_eq name known ≡ false
apart_from d name known n plain is =
    false_from_ne_true (bytes_eq name known) (λ same. not_global d known n plain (subst (λ x. what_named d x ≡ Some (what.Global n)) ((bytes_eq-Decides name known).0 same) is))

pub globals_keep_their_slots : GlobalsKeepTheirSlots
globals_keep_their_slots d name (what.Global n) is global =
    let low = lt-ltb n (length (global_names d)) (number_below d name n is) in
    let number = apart_from d name run_number n (number_is_built_in d) is in
    let experiment = apart_from d name experiment_name n (experiment_is_built_in d) is in
    ap (λ b. if b then Some n else None) low ∙ sym (rw (number, experiment) (ap slot_of is))
globals_keep_their_slots d name (what.Base code) is global = cc
globals_keep_their_slots d name (what.Own n) is global = cc
globals_keep_their_slots d name (what.Made n code) is global = cc
globals_keep_their_slots d name (what.Procedure n) is global = cc

-- ---- what a layout tells

pub layouts_tell_slots : LayoutsTellSlots
unfolding layout_of
layouts_tell_slots d (what.Base code) = refl
layouts_tell_slots d (what.Global n) = refl
layouts_tell_slots d (what.Own n) =
    ap (λ b. if b then Some (built_in_count + n) else None)
    (same_from_decides {P = n < length (owned_names d)} (nat_lt (built_in_count + n) (slots_count d)) (nat_lt n (length (owned_names d)))
    ((λ h. omega (arith, ltb-true (built_in_count + n) (slots_count d) h)), (λ h. lt-ltb (built_in_count + n) (slots_count d) (omega (arith, h))))
    ((λ h. ltb-true n (length (owned_names d)) h), (λ h. lt-ltb n (length (owned_names d)) h)))
layouts_tell_slots d (what.Made n code) = refl
layouts_tell_slots d (what.Procedure n) = refl

pub color_and_heading_are_first : ColorAndHeadingAreFirst
color_and_heading_are_first layout = (refl, refl)

-- ---- what a layout lists

has_where : (d : Declared) (test : Slot → Bool) (slot : Slot) → has_slot (slots_where d test) slot ≡ (nat_lt slot (slots_count d) && test slot)
has_where d test slot = has_filter test (range_with_len 0 (slots_count d)) slot ∙ ap (λ b. b && test slot) (has_range (slots_count d) slot)

all_below : (d : Declared) (test : Slot → Bool) → All (λ slot. slot < slots_count d) (slots_where d test)
all_below d test k slot inside =
    let at = get_or (slots_where d test) k slot in
    let here = list_any_at (λ other. other == at) (slots_where d test) k slot inside (eq-eqb at at refl) in
    ltb-true at (slots_count d) (and_parts (nat_lt at (slots_count d)) (test at) (sym (has_where d test at) ∙ here)).0

below_bound : (bound : ℕ) (test : Slot → Bool) → All (λ slot. slot < bound) (filter test (range_with_len 0 bound))
below_bound bound test k slot inside =
    let slots = filter test (range_with_len 0 bound) in
    let at = get_or slots k slot in
    let here = list_any_at (λ other. other == at) slots k slot inside (eq-eqb at at refl) in
    let kept = has_filter test (range_with_len 0 bound) at ∙ ap (λ b. b && test at) (has_range bound at) in
    ltb-true at bound (and_parts (nat_lt at bound) (test at) (sym kept ∙ here)).0

pub slots_are_below : SlotsAreBelow
unfolding layout_of
slots_are_below d = (all_below d _, all_below d _, all_below d _, all_below d _, all_below d _, below_bound (length (global_names d)) _)

-- a breed's own slots are among those of its kind
breed_is_some : (d : Declared) (link : Bool) (bs : List Breed) (n : ℕ) (slot : Slot)
    → is_breed_of link (slice_get (map (breed_layout d) bs) n) ≡ true
    → has_slot (own_in (slice_get (map (breed_layout d) bs) n)) slot ≡ true
    → (nat_lt slot (slots_count d) ≡ true) × (list_any (λ b. (if b.link then link else not link) && is_slot_of d b.own slot) bs ≡ true)
breed_is_some d link [] n slot kind owns = cc
breed_is_some d link (b ∷ bs) zero slot kind owns =
    let parts = and_parts (nat_lt slot (slots_count d)) (is_slot_of d b.own slot) (sym (has_where d (is_slot_of d b.own) slot) ∙ owns) in
    (parts.0, or_left _ _ (and_from (if b.link then link else not link) (is_slot_of d b.own slot) kind parts.1))
breed_is_some d link (b ∷ bs) (suc n) slot kind owns =
    let later = breed_is_some d link bs n slot kind owns in
    (later.0, or_right ((if b.link then link else not link) && is_slot_of d b.own slot) _ later.1)

-- what all own, or those of a breed, is among what some own
some_has : (d : Declared) (test : Slot → Bool) (link : Bool) (slot : Slot) (own : Slots)
    → (has_slot own slot ≡ true → (nat_lt slot (slots_count d) ≡ true) × (owns_by_breed d link slot ≡ true))
    → (has_slot (slots_where d test) slot || has_slot own slot) ≡ true
    → has_slot (slots_where d (λ s. test s || owns_by_breed d link s)) slot ≡ true
some_has d test link slot own bred owns =
    let some = has_where d (λ s. test s || owns_by_breed d link s) slot in
    ⊎_elim
    (λ all.
    let parts = and_parts (nat_lt slot (slots_count d)) (test slot) (sym (has_where d test slot) ∙ all) in
    some ∙ and_from (nat_lt slot (slots_count d)) (test slot || owns_by_breed d link slot) parts.0 (or_left (test slot) (owns_by_breed d link slot) parts.1))
    (λ here.
    let parts = bred here in
    some ∙ and_from (nat_lt slot (slots_count d)) (test slot || owns_by_breed d link slot) parts.0 (or_right (test slot) (owns_by_breed d link slot) parts.1))
    (or_cases (has_slot (slots_where d test) slot) (has_slot own slot) owns)

of_no_breed : (d : Declared) (link : Bool) (slot : Slot) → has_slot [] slot ≡ true → (nat_lt slot (slots_count d) ≡ true) × (owns_by_breed d link slot ≡ true)
of_no_breed d link slot h = cc

pub owners_are_some : OwnersAreSome
unfolding layout_of
owners_are_some d zero slot = (
  (λ breed owns. some_has d (λ s. is_of_turtles s || is_slot_of d d.turtles_own s) false slot [] (of_no_breed d false slot) owns),
  (λ breed owns. some_has d (λ s. is_of_links s || is_slot_of d d.links_own s) true slot [] (of_no_breed d true slot) owns),
)
owners_are_some d (suc n) slot = (
  (λ breed owns. some_has d (λ s. is_of_turtles s || is_slot_of d d.turtles_own s) false slot _ (breed_is_some d false d.breeds n slot breed) owns),
  (λ breed owns. some_has d (λ s. is_of_links s || is_slot_of d d.links_own s) true slot _ (breed_is_some d true d.breeds n slot breed) owns),
)
