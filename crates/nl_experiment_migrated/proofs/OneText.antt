-- A plain document has one text.
use Rattle.std.proofs.Common.{◌≡◌, ℕ, Bool, true, false, List, [], ◌∷◌, ◌++◌, refl, sym, ap, ◌∙◌, inl, inr}
use Rattle.std.specs.Prelude.{◌&&◌, codes, ⊤}
use Rattle.std.proofs.lemmas.Bool.{cases_Bool}
use Rattle.toml.specs.Data.{Data, string, integer, float, boolean, datetime, array, table, Items, no_items, item, Members, no_members, member}
use Rattle.toml.specs.Tables.{Definition, Expression, key_value, std_table, array_table}
use Rattle.toml.specs.Text.{IsDocumentText, IsItemsText, IsLineText, IsLinesText, IsMembersText, IsValueText, are_tables, breaks_lines, elements, is_section, needs_header, pairs, section, sections}
use Rattle.nl_experiment_migrated.specs.Plain.{is_plain, items_are_plain, members_are_plain}

first_of : (a b : Bool) → (a && b) ≡ true → a ≡ true
first_of true b is = refl
first_of false b is = absurd (cc)

second_of : (a b : Bool) → (a && b) ≡ true → b ≡ true
second_of true b is = is
second_of false b is = absurd (cc)

mutual
  pub one_value : (d : Data) (x y : List ℕ) → is_plain d ≡ true → IsValueText false d x → IsValueText false d y → x ≡ y
  one_value (string s) x y plain a b = a ∙ sym b
  one_value (integer z) x y plain a b = a.0 ∙ sym b.0
  one_value (float v) x y plain a b = absurd (cc)
  one_value (boolean t) x y plain a b = a ∙ sym b
  one_value (datetime t) x y plain a b = absurd (cc)
  one_value (array ds) x y plain a b =
      a.1 ∙ ap (λ t. codes "[" ++ t) (one_items (breaks_lines false ds) true ds a.0 b.0 plain a.2 b.2) ∙ sym b.1
  one_value (table ms) x y plain a b = a.1 ∙ ap (λ t. codes "{" ++ t) (one_members true ms a.0 b.0 plain a.2 b.2) ∙ sym b.1

  one_items : (lines is_first : Bool) (ds : Items) (x y : List ℕ) → items_are_plain ds ≡ true → IsItemsText false lines is_first ds x → IsItemsText false lines is_first ds y → x ≡ y
  one_items lines is_first no_items x y plain a b = a ∙ sym b
  one_items lines is_first (item d ds) x y plain a b =
      let this : a.0 ≡ b.0 = one_value d a.0 b.0 (first_of (is_plain d) (items_are_plain ds) plain) a.3 b.3 in
      let rest : a.1 ≡ b.1 = one_items lines false ds a.1 b.1 (second_of (is_plain d) (items_are_plain ds) plain) a.4 b.4 in
      a.2 ∙ rw (this, rest) (sym b.2)

  one_members : (is_first : Bool) (ms : Members) (x y : List ℕ) → members_are_plain ms ≡ true → IsMembersText false is_first ms x → IsMembersText false is_first ms y → x ≡ y
  one_members is_first no_members x y plain a b = a ∙ sym b
  one_members is_first (member k d ms) x y plain a b =
      let this : a.0 ≡ b.0 = one_value d a.0 b.0 (first_of (is_plain d) (members_are_plain ms) plain) a.3 b.3 in
      let rest : a.1 ≡ b.1 = one_members false ms a.1 b.1 (second_of (is_plain d) (members_are_plain ms) plain) a.4 b.4 in
      a.2 ∙ rw (this, rest) (sym b.2)

-- ---- lines

abbrev PlainLine : Definition → Type 0
PlainLine (key_value d) = is_plain d ≡ true
PlainLine std_table = ⊤
PlainLine array_table = ⊤

abbrev PlainLines : List Expression → Type 0
PlainLines [] = ⊤
PlainLines (e ∷ es) = PlainLine e.1 × PlainLines es

one_line : (started : Bool) (e : Expression) (w : Definition) (x y : List ℕ) → PlainLine w → IsLineText false started e.0 w x → IsLineText false started e.0 w y → x ≡ y
one_line started e (key_value d) x y plain a b =
    let this : a.0 ≡ b.0 = one_value d a.0 b.0 plain a.2 b.2 in
    a.1 ∙ rw this (sym b.1)
one_line started e std_table x y plain a b = a ∙ sym b
one_line started e array_table x y plain a b = a ∙ sym b

one_lines : (started : Bool) (es : List Expression) (x y : List ℕ) → PlainLines es → IsLinesText false started es x → IsLinesText false started es y → x ≡ y
one_lines started [] x y plain a b = a ∙ sym b
one_lines started (e ∷ es) x y plain a b =
    let this : a.0 ≡ b.0 = one_line started e e.1 a.0 b.0 plain.0 a.3 b.3 in
    let rest : a.1 ≡ b.1 = one_lines true es a.1 b.1 plain.1 a.4 b.4 in
    a.2 ∙ rw (this, rest) (sym b.2)

lines_on : (es fs : List Expression) → PlainLines es → PlainLines fs → PlainLines (es ++ fs)
lines_on [] fs a b = b
lines_on (e ∷ es) fs a b = (a.0, lines_on es fs a.1 b)

plain_pairs : (ms : Members) → members_are_plain ms ≡ true → PlainLines (pairs ms)
plain_pairs no_members plain = tt
plain_pairs (member k d ms) plain =
    let more : PlainLines (pairs ms) = plain_pairs ms (second_of (is_plain d) (members_are_plain ms) plain) in
    elim (cases_Bool (is_section d)) [
      | inl in_section ↦ rw in_section more
      | inr pair ↦ rw pair (first_of (is_plain d) (members_are_plain ms) plain, more)
    ]

mutual
  plain_sections : (path : List (List ℕ)) (ms : Members) → members_are_plain ms ≡ true → PlainLines (sections path ms)
  plain_sections path no_members plain = tt
  plain_sections path (member k d ms) plain =
      lines_on _ _ (plain_section path k d (first_of (is_plain d) (members_are_plain ms) plain))
      (plain_sections path ms (second_of (is_plain d) (members_are_plain ms) plain))

  plain_section : (path : List (List ℕ)) (k : List ℕ) (d : Data) → is_plain d ≡ true → PlainLines (section (path, k) d)
  plain_section path k (string x) plain = tt
  plain_section path k (integer x) plain = tt
  plain_section path k (float x) plain = tt
  plain_section path k (boolean x) plain = tt
  plain_section path k (datetime x) plain = tt
  plain_section path k (array ds) plain =
      elim (cases_Bool (are_tables ds)) [
        | inl all ↦ rw all (plain_elements path k ds plain)
        | inr other ↦ rw other tt
      ]
  plain_section path k (table ms) plain =
      let below : PlainLines (pairs ms ++ sections (path ++ k ∷ []) ms) = lines_on _ _ (plain_pairs ms plain) (plain_sections (path ++ k ∷ []) ms plain) in
      elim (cases_Bool (needs_header ms)) [
        | inl needed ↦ rw needed (tt, below)
        | inr none ↦ rw none below
      ]

  plain_elements : (path : List (List ℕ)) (k : List ℕ) (ds : Items) → items_are_plain ds ≡ true → PlainLines (elements (path, k) ds)
  plain_elements path k no_items plain = tt
  plain_elements path k (item (string x) ds) plain = plain_elements path k ds plain
  plain_elements path k (item (integer x) ds) plain = plain_elements path k ds plain
  plain_elements path k (item (float x) ds) plain = absurd (cc)
  plain_elements path k (item (boolean x) ds) plain = plain_elements path k ds plain
  plain_elements path k (item (datetime x) ds) plain = absurd (cc)
  plain_elements path k (item (array x) ds) plain = plain_elements path k ds (second_of (items_are_plain x) (items_are_plain ds) plain)
  plain_elements path k (item (table ms) ds) plain =
      let inside : members_are_plain ms ≡ true = first_of (members_are_plain ms) (items_are_plain ds) plain in
      (tt, lines_on _ _ (lines_on _ _ (plain_pairs ms inside) (plain_sections (path ++ k ∷ []) ms inside)) (plain_elements path k ds (second_of (members_are_plain ms) (items_are_plain ds) plain)))

pub one_text : (ms : Members) (x y : List ℕ) → members_are_plain ms ≡ true → IsDocumentText false ms x → IsDocumentText false ms y → x ≡ y
one_text ms x y plain a b = one_lines false _ x y (lines_on _ _ (plain_pairs ms plain) (plain_sections [] ms plain)) a b
