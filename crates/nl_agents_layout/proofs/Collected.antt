-- The slots that a layout collects, name by name, are those that pass its test.
use Rattle.std.specs.Prelude.{◌≡◌, ℕ, ◌+◌, ◌<◌, ◌≤◌, ◌==◌, ◌&&◌, ◌||◌, Bool, true, false, not, if◌then◌else◌, List, [], ◌∷◌, ◌++◌, Option, Some, None, length, map, filter, nat_lt, refl}
use Rattle.std.proofs.Common.{ap, sym, ◌∙◌, subst, get_or, take, arith, ⊎_elim, append_assoc}
use Rattle.std.specs.Bool.{beq}
use Rattle.std.specs.List.{list_any, list_all, filter_map, cons_option, dedup, Contains, range_with_len}
use Rattle.std.specs.List.Sorted.{IsStrictlyIncreasing, IsPermutation}
use Rattle.std.proofs.lemmas.Bool.{eq-eqb, eqb-true, or_cases, false_from_ne_true, and_parts, and_right, lt-ltb, ltb-true, cases_Bool, cases_lt, agree_below_at}
use Rattle.std.proofs.lemmas.Bool.Decides.{same_from_decides}
use Rattle.std.proofs.lemmas.Option.{slice_get_past, slice_get_within}
use Rattle.std.proofs.lemmas.List.{take_more, get_or_default, append-nil, flat_map_more}
use Rattle.std.proofs.lemmas.List.Elements.{filter_map-append, filter_agree}
use Rattle.std.proofs.lemmas.List.Folds.{Any-from_list_any, list_any_at, list_any-append}
use Rattle.std.proofs.lemmas.List.Kept.{Contains-dedup_nat, Contains-from_dedup}
use Rattle.std.proofs.lemmas.List.Sorted.{Contains-permutation, IsPermutation-sym}
use Rattle.nl_fixed.specs.Nouns.{Name, Names}
use Rattle.nl_tree.specs.declared.declared.Breed.{Breed}
use Rattle.nl_tree.specs.declared.declared.Declared.{Declared}
use Rattle.nl_tree.specs.declared.declared.What.{What}
use Rattle.nl_tree.specs.declared.declared.What.TheVariants as what
use Rattle.nl_tree.specs.Vocabulary.{global_names, owned_names, what_named}
use Rattle.nl_tree.specs.Slots.{global_slot}
use Rattle.nl_agents_layout.specs.Nouns.{Slot, Slots}
use Rattle.nl_agents_layout.specs.BuiltIn.{built_in, built_in_count, is_of_turtles, is_of_patches, is_of_links}
use Rattle.nl_agents_layout.specs.Layouts.{has_slot, is_slot, is_slot_of, slot_named, own_slot, slots_count, slots_where, owns_by_breed, is_coded, breed_layout, layout_of}
use Rattle.nl_agents_layout.specs.declared.layout.Layout.{Layout}
use Rattle.nl_agents_layout.specs.declared.layout.BreedLayout.{BreedLayout}
use Rattle.nl_agents_layout.specs.inner.Numbering.{slots_named, slots_of_breed, slots_of_breeds, below, coded_named}
use Rattle.nl_agents_layout.proofs.Ascending.{ranged}
use Rattle.nl_agents_layout.proofs.OwnedRows.{name_of_number}

-- ---- one more item of a loop

module _ {X : Type 0} (h : X → Option Slot) (start done : List Slot) (xs : List X) (i : ℕ) (x : X) (inside : i < length xs) (at : x ≡ get_or xs i x) where
  more : filter_map h (take (i + 1) xs) ≡ filter_map h (take i xs) ++ cons_option (h x) []
  more =
      ap (filter_map h) (take_more xs i x inside) ∙ filter_map-append h (take i xs) (get_or xs i x ∷ [])
      ∙ ap (λ y. filter_map h (take i xs) ++ cons_option (h y) []) (sym at)

  pub collected_one : (new : List Slot) (slot : Slot) → done ≡ start ++ filter_map h (take i xs) → h x ≡ Some slot → new ≡ done ++ slot ∷ []
      → new ≡ start ++ filter_map h (take (i + 1) xs)
  collected_one new slot so_far is pushed =
      pushed ∙ ap (λ l. l ++ slot ∷ []) so_far ∙ append_assoc start (filter_map h (take i xs)) (slot ∷ [])
      ∙ ap (λ o. start ++ (filter_map h (take i xs) ++ cons_option o [])) (sym is) ∙ ap (λ l. start ++ l) (sym more)

  pub collected_none : (new : List Slot) → done ≡ start ++ filter_map h (take i xs) → h x ≡ None → new ≡ done → new ≡ start ++ filter_map h (take (i + 1) xs)
  collected_none new so_far is kept =
      kept ∙ so_far ∙ ap (λ l. start ++ l) (sym (append-nil (filter_map h (take i xs))))
      ∙ ap (λ o. start ++ (filter_map h (take i xs) ++ cons_option o [])) (sym is) ∙ ap (λ l. start ++ l) (sym more)

same_kind : (a link : Bool) → (if a then link else not link) ≡ beq a link
same_kind true true = refl
same_kind true false = refl
same_kind false true = refl
same_kind false false = refl

module _ (d : Declared) (link : Bool) (start done : List Slot) (bs : List Breed) (i : ℕ) (b : Breed) (inside : i < length bs) (at : b ≡ get_or bs i b) (so_far : done ≡ start ++ slots_of_breeds d link (take i bs)) where
  bred_more : (new : List Slot) → new ≡ done ++ slots_of_breed d link b → new ≡ start ++ slots_of_breeds d link (take (i + 1) bs)
  bred_more new is =
      is ∙ ap (λ l. l ++ slots_of_breed d link b) so_far ∙ flat_map_more (slots_of_breed d link) start (take i bs) b
      ∙ ap (λ x. start ++ slots_of_breeds d link (take i bs ++ x ∷ [])) at
      ∙ ap (λ l. start ++ slots_of_breeds d link l) (sym (take_more bs i b inside))

  pub bred_one : (new : List Slot) → beq b.link link ≡ true → new ≡ done ++ slots_named d b.own → new ≡ start ++ slots_of_breeds d link (take (i + 1) bs)
  bred_one new same is =
      bred_more new (is ∙ ap (λ t. done ++ (if t then slots_named d b.own else [])) (sym (same_kind b.link link ∙ same)))

  pub bred_none : (new : List Slot) → beq b.link link ≡ false → new ≡ done → new ≡ start ++ slots_of_breeds d link (take (i + 1) bs)
  bred_none new other is =
      bred_more new (is ∙ sym (append-nil done) ∙ ap (λ t. done ++ (if t then slots_named d b.own else [])) (sym (same_kind b.link link ∙ other)))

-- ---- sorted, and once each

has_from : (xs : Slots) (z : Slot) → Contains xs z → has_slot xs z ≡ true
has_from xs z (k, inside, at) = list_any_at (λ y. y == z) xs k z inside (eq-eqb (get_or xs k z) z at)

contains_from : (xs : Slots) (z : Slot) → has_slot xs z ≡ true → Contains xs z
contains_from xs z h =
    let (k, y, inside, at, same) = Any-from_list_any (λ other. other == z) xs h in
    (k, inside, get_or_default xs k z y inside ∙ at ∙ eqb-true y z same)

pub same_once : (xs ys zs : Slots) → IsPermutation xs ys → zs ≡ dedup (λ a b. a == b) ys → (z : Slot) → has_slot zs z ≡ has_slot xs z
same_once xs ys zs moved is z =
    same_from_decides {P = Contains xs z} (has_slot zs z) (has_slot xs z) (
      (λ h. Contains-permutation ys xs z (IsPermutation-sym xs ys moved) (Contains-from_dedup (λ a b. a == b) ys z (subst (λ l. Contains l z) is (contains_from zs z h)))),
      (λ h. has_from zs z (subst (λ l. Contains l z) (sym is) (Contains-dedup_nat ys z (Contains-permutation xs ys z moved h)))),
    )
    ((λ h. contains_from xs z h), (λ h. has_from xs z h))

-- ---- what is among them

has_option : (o : Option Slot) (ys : Slots) (z : Slot) → has_slot (cons_option o ys) z ≡ (is_slot z o || has_slot ys z)
has_option None ys z = refl
has_option (Some y) ys z = refl

has_collected : {X : Type 0} (h : X → Option Slot) (xs : List X) (z : Slot) → has_slot (filter_map h xs) z ≡ list_any (λ x. is_slot z (h x)) xs
has_collected h [] z = refl
has_collected h (x ∷ xs) z = has_option (h x) (filter_map h xs) z ∙ ap (λ b. is_slot z (h x) || b) (has_collected h xs z)

has_of_breed : (d : Declared) (link : Bool) (b : Breed) (z : Slot) (same : Bool) → has_slot (if same then slots_named d b.own else []) z ≡ (same && is_slot_of d b.own z)
has_of_breed d link b z true = has_collected (slot_named d) b.own z
has_of_breed d link b z false = refl

has_of_breeds : (d : Declared) (link : Bool) (bs : List Breed) (z : Slot)
    → has_slot (slots_of_breeds d link bs) z ≡ list_any (λ b. (if b.link then link else not link) && is_slot_of d b.own z) bs
has_of_breeds d link [] z = refl
has_of_breeds d link (b ∷ bs) z =
    list_any-append (λ other. other == z) (slots_of_breed d link b) (slots_of_breeds d link bs)
    ∙ ap (λ a. a || has_slot (slots_of_breeds d link bs) z) (has_of_breed d link b z (if b.link then link else not link))
    ∙ ap (λ a. ((if b.link then link else not link) && is_slot_of d b.own z) || a) (has_of_breeds d link bs z)

-- ---- slots are below their count

is_below : (d : Declared) (name : Name) (o : Option What) (z : Slot) → what_named d name ≡ o → is_slot z (own_slot o) ≡ true → z < slots_count d
is_below d name None z is h = cc
is_below d name (Some (what.Own n)) z is h =
    omega (arith, eqb-true (built_in_count + n) z h, slice_get_within (owned_names d) n name (name_of_number d name n is))
is_below d name (Some (what.Base code)) z is h = cc
is_below d name (Some (what.Global n)) z is h = cc
is_below d name (Some (what.Made n code)) z is h = cc
is_below d name (Some (what.Procedure n)) z is h = cc

named_below : (d : Declared) (names : Names) (z : Slot) → is_slot_of d names z ≡ true → z < slots_count d
named_below d [] z h = cc
named_below d (name ∷ names) z h =
    ⊎_elim (λ here. is_below d name (what_named d name) z refl here) (λ later. named_below d names z later)
    (or_cases (is_slot z (slot_named d name)) (is_slot_of d names z) h)

bred_below : (d : Declared) (link : Bool) (bs : List Breed) (z : Slot)
    → list_any (λ b. (if b.link then link else not link) && is_slot_of d b.own z) bs ≡ true → z < slots_count d
bred_below d link [] z h = cc
bred_below d link (b ∷ bs) z h =
    ⊎_elim
    (λ here. named_below d b.own z (and_parts (if b.link then link else not link) (is_slot_of d b.own z) here).1)
    (λ later. bred_below d link bs z later)
    (or_cases ((if b.link then link else not link) && is_slot_of d b.own z) (list_any (λ c. (if c.link then link else not link) && is_slot_of d c.own z) bs) h)

start_below : (bound : ℕ) (start : Slots) (z : Slot) → list_all (λ slot. nat_lt slot bound) start ≡ true → has_slot start z ≡ true → z < bound
start_below bound [] z all h = cc
start_below bound (s ∷ ss) z all h =
    let parts = and_parts (nat_lt s bound) (list_all (λ slot. nat_lt slot bound) ss) all in
    ⊎_elim (λ here. omega (arith, ltb-true s bound parts.0, eqb-true s z here)) (λ later. start_below bound ss z parts.1 later) (or_cases (s == z) (has_slot ss z) h)

-- what passes only below a bound
within : (b : Bool) (z bound : ℕ) → (b ≡ true → z < bound) → b ≡ (nat_lt z bound && b)
within true z bound h = ap (λ a. a && true) (sym (lt-ltb z bound (h refl)))
within false z bound h = sym (and_right (nat_lt z bound) false refl)

-- ---- the parts of a layout

pub all_keep : (d : Declared) (start : Slots) (names : Names) (slots : Slots) → list_all (λ slot. nat_lt slot built_in_count) start ≡ true
    → IsStrictlyIncreasing slots → ((z : Slot) → has_slot slots z ≡ has_slot (start ++ slots_named d names) z)
    → slots ≡ slots_where d (λ slot. has_slot start slot || is_slot_of d names slot)
all_keep d start names slots low up same =
    let test : Slot → Bool = λ slot. has_slot start slot || is_slot_of d names slot in
    let passes : (z : Slot) → has_slot slots z ≡ test z = λ z.
    same z ∙ list_any-append (λ other. other == z) start (slots_named d names) ∙ ap (λ b. has_slot start z || b) (has_collected (slot_named d) names z) in
    let few : (z : Slot) → test z ≡ true → z < slots_count d = λ z h.
    ⊎_elim (λ here. omega (arith, start_below built_in_count start z low here)) (λ later. named_below d names z later) (or_cases (has_slot start z) (is_slot_of d names z) h) in
    ranged test (slots_count d) slots up (λ z. passes z ∙ within (test z) z (slots_count d) (few z))

pub some_keep : (d : Declared) (start : Slots) (names : Names) (link : Bool) (slots : Slots) → list_all (λ slot. nat_lt slot built_in_count) start ≡ true
    → IsStrictlyIncreasing slots → ((z : Slot) → has_slot slots z ≡ has_slot (start ++ slots_named d names ++ slots_of_breeds d link d.breeds) z)
    → slots ≡ slots_where d (λ slot. has_slot start slot || is_slot_of d names slot || owns_by_breed d link slot)
some_keep d start names link slots low up same =
    let test : Slot → Bool = λ slot. has_slot start slot || is_slot_of d names slot || owns_by_breed d link slot in
    let passes : (z : Slot) → has_slot slots z ≡ test z = λ z.
    same z
    ∙ list_any-append (λ other. other == z) (start ++ slots_named d names) (slots_of_breeds d link d.breeds)
    ∙ ap (λ b. b || has_slot (slots_of_breeds d link d.breeds) z) (list_any-append (λ other. other == z) start (slots_named d names))
    ∙ ap (λ b. (has_slot start z || b) || has_slot (slots_of_breeds d link d.breeds) z) (has_collected (slot_named d) names z)
    ∙ ap (λ b. (has_slot start z || is_slot_of d names z) || b) (has_of_breeds d link d.breeds z) in
    let few : (z : Slot) → test z ≡ true → z < slots_count d = λ z h.
    ⊎_elim
    (λ front. ⊎_elim (λ here. omega (arith, start_below built_in_count start z low here)) (λ later. named_below d names z later) (or_cases (has_slot start z) (is_slot_of d names z) front))
    (λ bred. bred_below d link d.breeds z bred)
    (or_cases (has_slot start z || is_slot_of d names z) (owns_by_breed d link z) h) in
    ranged test (slots_count d) slots up (λ z. passes z ∙ within (test z) z (slots_count d) (few z))

-- ---- the slots of global variables

below_passes : (bound : ℕ) (o : Option Slot) (z : Slot) → is_slot z (below bound o) ≡ (nat_lt z bound && is_slot z o)
below_passes bound None z = sym (and_right (nat_lt z bound) false refl)
below_passes bound (Some slot) z = by (nat_lt slot bound) refl
  where
    by : (low : Bool) → nat_lt slot bound ≡ low → is_slot z (if low then Some slot else None) ≡ (nat_lt z bound && (slot == z))
    by true is = within (slot == z) z bound (λ same. omega (arith, ltb-true slot bound is, eqb-true slot z same))
    by false is =
        sym (⊎_elim
        (λ same. let there = subst (λ n. nat_lt n bound ≡ false) (eqb-true slot z same) is in rw there refl)
        (λ apart. and_right (nat_lt z bound) (slot == z) apart)
        (cases_Bool (slot == z)))

any_below : (d : Declared) (bound : ℕ) (names : Names) (z : Slot)
    → list_any (λ name. is_slot z (coded_named d bound name)) names ≡ (nat_lt z bound && list_any (λ name. is_slot z (global_slot d name)) names)
any_below d bound [] z = sym (and_right (nat_lt z bound) false refl)
any_below d bound (name ∷ names) z =
    ap (λ b. b || list_any (λ n. is_slot z (coded_named d bound n)) names) (below_passes bound (global_slot d name) z)
    ∙ ap (λ b. (nat_lt z bound && is_slot z (global_slot d name)) || b) (any_below d bound names z)
    ∙ both (nat_lt z bound) (is_slot z (global_slot d name)) (list_any (λ n. is_slot z (global_slot d n)) names)
  where
    both : (a b c : Bool) → ((a && b) || (a && c)) ≡ (a && (b || c))
    both true b c = refl
    both false b c = refl

pub coded_are : (d : Declared) (bound : ℕ) (slots : Slots) → IsStrictlyIncreasing slots
    → ((z : Slot) → has_slot slots z ≡ has_slot (filter_map (coded_named d bound) d.globals) z)
    → slots ≡ filter (is_coded d) (range_with_len 0 bound)
coded_are d bound slots up same =
    ranged (is_coded d) bound slots up (λ z. same z ∙ has_collected (coded_named d bound) d.globals z ∙ any_below d bound d.globals z)

-- ---- breeds

pub bred : (d : Declared) (b : Breed) (plural singular : Name) (own : Slots) → plural ≡ b.plural → singular ≡ b.singular → own ≡ slots_where d (is_slot_of d b.own)
    → ◌≡◌ {A = BreedLayout} (record { plural = plural; singular = singular; link = b.link; directed = b.directed; own = own }) (breed_layout d b)
bred d b plural singular own p s o =
    let made : Name → Name → Slots → BreedLayout = λ x y z. record { plural = x; singular = y; link = b.link; directed = b.directed; own = z } in
    ap (λ x. made x singular own) p ∙ ap (λ y. made b.plural y own) s ∙ ap (λ z. made b.plural b.singular z) o

-- ---- what agents have from the start

agrees : (start : Slots) (test : Slot → Bool) → list_all (λ slot. nat_lt slot built_in_count) start ≡ true
    → ((z : Slot) → z < built_in_count → has_slot start z ≡ test z) → ((z : Slot) → built_in_count ≤ z → test z ≡ false)
    → (z : Slot) → has_slot start z ≡ test z
agrees start test low inside past z =
    ⊎_elim
    (λ lt. inside z lt)
    (λ le. false_from_ne_true (has_slot start z) (λ h. absurd (omega (arith, start_below built_in_count start z low h))) ∙ sym (past z le))
    (cases_lt z built_in_count)

abbrev pub turtles_start : Slots
turtles_start = 0 ∷ 1 ∷ 2 ∷ 3 ∷ 4 ∷ 5 ∷ 6 ∷ 7 ∷ 8 ∷ []

pub of_turtles : (z : Slot) → has_slot turtles_start z ≡ is_of_turtles z
of_turtles z =
    agrees turtles_start is_of_turtles refl (λ n lt. agree_below_at (has_slot turtles_start) is_of_turtles 14 n refl lt) (λ n le. rw (slice_get_past built_in n le) refl) z

abbrev pub patches_start : Slots
patches_start = 9 ∷ 10 ∷ 11 ∷ []

pub of_patches : (z : Slot) → has_slot patches_start z ≡ is_of_patches z
of_patches z =
    agrees patches_start is_of_patches refl (λ n lt. agree_below_at (has_slot patches_start) is_of_patches 14 n refl lt) (λ n le. rw (slice_get_past built_in n le) refl) z

abbrev pub links_start : Slots
links_start = 0 ∷ 2 ∷ 3 ∷ 4 ∷ 5 ∷ 12 ∷ 13 ∷ []

pub of_links : (z : Slot) → has_slot links_start z ≡ is_of_links z
of_links z =
    agrees links_start is_of_links refl (λ n lt. agree_below_at (has_slot links_start) is_of_links 14 n refl lt) (λ n le. rw (slice_get_past built_in n le) refl) z

-- ---- the whole

module _ (d : Declared) where
  -- by the tests of the table in place of the lists of slots
  pub by_test : (start : Slots) (test : Slot → Bool) (names known : Names) (slots : Slots) → ((z : Slot) → has_slot start z ≡ test z) → names ≡ known
      → slots ≡ slots_where d (λ slot. has_slot start slot || is_slot_of d names slot)
      → slots ≡ slots_where d (λ slot. test slot || is_slot_of d known slot)
  by_test start test names known slots same named is =
      is ∙ ap (λ ns. slots_where d (λ slot. has_slot start slot || is_slot_of d ns slot)) named
      ∙ filter_agree (λ slot. has_slot start slot || is_slot_of d known slot) (λ slot. test slot || is_slot_of d known slot)
      (λ z. ap (λ b. b || is_slot_of d known z) (same z)) (range_with_len 0 (slots_count d))

  pub by_test_bred : (start : Slots) (test : Slot → Bool) (names known : Names) (link : Bool) (slots : Slots) → ((z : Slot) → has_slot start z ≡ test z) → names ≡ known
      → slots ≡ slots_where d (λ slot. has_slot start slot || is_slot_of d names slot || owns_by_breed d link slot)
      → slots ≡ slots_where d (λ slot. test slot || is_slot_of d known slot || owns_by_breed d link slot)
  by_test_bred start test names known link slots same named is =
      is ∙ ap (λ ns. slots_where d (λ slot. has_slot start slot || is_slot_of d ns slot || owns_by_breed d link slot)) named
      ∙ filter_agree (λ slot. has_slot start slot || is_slot_of d known slot || owns_by_breed d link slot) (λ slot. test slot || is_slot_of d known slot || owns_by_breed d link slot)
      (λ z. ap (λ b. b || is_slot_of d known z || owns_by_breed d link z) (same z)) (range_with_len 0 (slots_count d))

  pub laid_out : (globals : ℕ) (coded : Slots) (slots : ℕ) (every_turtle every_patch every_link some_turtle some_link : Slots) (breeds : List BreedLayout)
      → globals ≡ length (global_names d)
      → coded ≡ filter (is_coded d) (range_with_len 0 globals)
      → slots ≡ slots_count d
      → every_turtle ≡ slots_where d (λ slot. is_of_turtles slot || is_slot_of d d.turtles_own slot)
      → every_patch ≡ slots_where d (λ slot. is_of_patches slot || is_slot_of d d.patches_own slot)
      → every_link ≡ slots_where d (λ slot. is_of_links slot || is_slot_of d d.links_own slot)
      → some_turtle ≡ slots_where d (λ slot. is_of_turtles slot || is_slot_of d d.turtles_own slot || owns_by_breed d false slot)
      → some_link ≡ slots_where d (λ slot. is_of_links slot || is_slot_of d d.links_own slot || owns_by_breed d true slot)
      → breeds ≡ map (breed_layout d) d.breeds
      → ◌≡◌ {A = Layout} (record {
        globals = globals;
        coded = coded;
        slots = slots;
        every_turtle = every_turtle;
        every_patch = every_patch;
        every_link = every_link;
        some_turtle = some_turtle;
        some_link = some_link;
        breeds = breeds;
      }) (layout_of d)
  unfolding layout_of
  laid_out globals coded slots every_turtle every_patch every_link some_turtle some_link breeds g c n et ep el st sl b =
      let coded_is : coded ≡ filter (is_coded d) (range_with_len 0 (length (global_names d))) = c ∙ ap (λ k. filter (is_coded d) (range_with_len 0 k)) g in
      cc
