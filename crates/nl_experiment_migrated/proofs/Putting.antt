-- The members of a table into which a value was put, or from which a key was taken.
use Rattle.std.proofs.Common.{◌≡◌, Bool, true, false, Ordering, Less, Equal, Greater, List, [], ◌∷◌, String, Global, cond, refl, ap, ◌∙◌}
use Rattle.std.specs.BTreeMap.{insert_entry}
use Rattle.std.specs.Cmp.Lexicographic.{slice_cmp}
use Rattle.std.specs.List.{AllByRecursion}
use Rattle.std.specs.List.Sorted.{IsStrictlySortedBy}
use Rattle.std.specs.Map.{keys_of, remove_entry}
use Rattle.std.specs.Ordering.{is_eq, match_ordering, nat_cmp}
use Rattle.std.specs.String.{string_bytes, string_cmp}
use Rattle.toml.specs.Data.{member, same_key}
use Rattle.toml.specs.View.{members_view, view}
use Rattle.toml.specs.declared.value.Value.{Value}
use Rattle.toml.proofs.Views.{Entry}
use Rattle.nl_fixed.specs.Nouns.{Name}
use Rattle.nl_experiment_migrated.specs.Migrated.{with_member, without}
use Rattle.nl_experiment_migrated.proofs.Members.{key_is}

by_order : (o : Ordering) (x y z : List Entry) → members_view (match_ordering o x y z) ≡ match_ordering o (members_view x) (members_view y) (members_view z)
by_order Less x y z = refl
by_order Equal x y z = refl
by_order Greater x y z = refl

pub put_in : (es : List Entry) (k : String Global) (v : Value) → members_view (insert_entry string_cmp es k v) ≡ with_member (string_bytes k) (view v) (members_view es)
put_in [] k v = refl
put_in (e ∷ es) k v = by_order (string_cmp k e.0) ((k, v) ∷ e ∷ es) ((e.0, v) ∷ es) (e ∷ insert_entry string_cmp es k v) ∙ rw (put_in es k v)

-- a key below all others isn't there
none_left : (key : Name) (es : List Entry) → AllByRecursion (λ y. slice_cmp nat_cmp key (string_bytes y) ≡ Less) (keys_of es)
    → members_view es ≡ without key (members_view es)
none_left key [] below = refl
none_left key (e ∷ es) below = rw (below.0) (ap (member (string_bytes e.0) (view e.1)) (none_left key es below.1))

abbrev at_key : Name → String Global → Bool
at_key key x = is_eq (slice_cmp nat_cmp key (string_bytes x))

taken_by : (b : Bool) (key : Name) (e : Entry) (es : List Entry) → same_key key (string_bytes e.0) ≡ b
    → AllByRecursion (λ y. string_cmp e.0 y ≡ Less) (keys_of es)
    → members_view (remove_entry (at_key key) es) ≡ without key (members_view es)
    → members_view (cond b es (e ∷ remove_entry (at_key key) es)) ≡ cond b (without key (members_view es)) (member (string_bytes e.0) (view e.1) (without key (members_view es)))
taken_by true key e es is below more = rw (key_is key (string_bytes e.0) is) (none_left (string_bytes e.0) es below)
taken_by false key e es is below more = ap (member (string_bytes e.0) (view e.1)) more

pub taken_from : (key : Name) (es : List Entry) → IsStrictlySortedBy string_cmp (keys_of es)
    → members_view (remove_entry (at_key key) es) ≡ without key (members_view es)
unfolding IsStrictlySortedBy
taken_from key [] sorted = refl
taken_from key (e ∷ es) sorted = taken_by (same_key key (string_bytes e.0)) key e es refl sorted.0 (taken_from key es sorted.1)
