-- What stands at a key where a value was put at one, or a key was taken away.
use Rattle.std.proofs.Common.{◌≡◌, Bool, true, false, Ordering, Less, Equal, Greater, Option, Some, None, cond, refl, sym, ap, ◌∙◌, bytes_eq, arith}
use Rattle.std.specs.Cmp.{tied_itself}
use Rattle.std.specs.Cmp.Lexicographic.{slice_cmp}
use Rattle.std.specs.Ordering.{is_eq, match_ordering, nat_cmp}
use Rattle.std.proofs.lemmas.Cmp.{nat_list_cmp_total}
use Rattle.std.proofs.lemmas.Map.Text.{is_eq-slice_cmp}
use Rattle.std.proofs.lemmas.Slice.Eq.{bytes_eq-Decides}
use Rattle.toml.specs.Data.{Data, Members, no_members, member, get_member, same_key}
use Rattle.nl_fixed.specs.Nouns.{Name}
use Rattle.nl_experiment_migrated.specs.Migrated.{with_member, without}

-- ---- keys

pub itself : (key : Name) → slice_cmp nat_cmp key key ≡ Equal
itself key = tied_itself nat_list_cmp_total key

pub is_same : (x y : Name) → bytes_eq x y ≡ true → x ≡ y
is_same x y h = grind (arith, bytes_eq-Decides x y)

pub key_is : (x y : Name) → same_key x y ≡ true → x ≡ y
key_is x y h = is_same x y (sym (is_eq-slice_cmp x y) ∙ h)

from_equal : (o : Ordering) → o ≡ Equal → is_eq o ≡ true
from_equal o is = ap is_eq is

-- a key that isn't there is passed
passed : (o : Ordering) (found : Option Data) (d : Data) → is_eq o ≡ false → match_ordering o found (Some d) found ≡ found
passed Less found d is = refl
passed Equal found d is = absurd (cc)
passed Greater found d is = refl

pub past : (j k : Name) (d : Data) (rest : Members) → same_key j k ≡ false → get_member j (member k d rest) ≡ get_member j rest
past j k d rest other = passed (slice_cmp nat_cmp j k) (get_member j rest) d other

pub here : (k : Name) (d : Data) (rest : Members) → get_member k (member k d rest) ≡ Some d
here k d rest = rw (itself k)

-- ---- a value that was put

put_by : (o : Ordering) (key k : Name) (value d : Data) (rest : Members) → slice_cmp nat_cmp key k ≡ o → get_member key (with_member key value rest) ≡ Some value
    → get_member key (match_ordering o (member key value (member k d rest)) (member k value rest) (member k d (with_member key value rest))) ≡ Some value
put_by Less key k value d rest is more = here key value (member k d rest)
put_by Equal key k value d rest is more = rw is
put_by Greater key k value d rest is more = rw is more

pub with_here : (key : Name) (value : Data) (members : Members) → get_member key (with_member key value members) ≡ Some value
with_here key value no_members = here key value no_members
with_here key value (member k d rest) = put_by (slice_cmp nat_cmp key k) key k value d rest refl (with_here key value rest)

-- what stands at a key by what stands behind
pub get_ahead : (j k : Name) (d : Data) (x y : Members) → get_member j x ≡ get_member j y → get_member j (member k d x) ≡ get_member j (member k d y)
get_ahead j k d x y same = ap (λ o. match_ordering (slice_cmp nat_cmp j k) o (Some d) o) same

apart_by : (o : Ordering) (j key k : Name) (value d : Data) (rest : Members) → slice_cmp nat_cmp key k ≡ o → same_key j key ≡ false
    → get_member j (with_member key value rest) ≡ get_member j rest
    → get_member j (match_ordering o (member key value (member k d rest)) (member k value rest) (member k d (with_member key value rest))) ≡ get_member j (member k d rest)
apart_by Less j key k value d rest is other more = past j key value (member k d rest) other
apart_by Equal j key k value d rest is other more =
    let same : key ≡ k = key_is key k (from_equal (slice_cmp nat_cmp key k) is) in
    let far : same_key j k ≡ false = rw (← same) other in
    past j k value rest far ∙ sym (past j k d rest far)
apart_by Greater j key k value d rest is other more = get_ahead j k d (with_member key value rest) rest more

pub with_apart : (j key : Name) (value : Data) (members : Members) → same_key j key ≡ false → get_member j (with_member key value members) ≡ get_member j members
with_apart j key value no_members other = past j key value no_members other
with_apart j key value (member k d rest) other = apart_by (slice_cmp nat_cmp key k) j key k value d rest refl other (with_apart j key value rest other)

-- ---- a key that was taken away

none_by : (b : Bool) (key k : Name) (d : Data) (rest : Members) → same_key key k ≡ b → get_member key rest ≡ None → get_member key (cond b rest (member k d rest)) ≡ None
none_by true key k d rest is gone = gone
none_by false key k d rest is gone = past key k d rest is ∙ gone

pub without_here : (key : Name) (members : Members) → get_member key (without key members) ≡ None
without_here key no_members = refl
without_here key (member k d rest) = none_by (same_key key k) key k d (without key rest) refl (without_here key rest)

left_by : (b : Bool) (j key k : Name) (d : Data) (x y : Members) → same_key key k ≡ b → same_key j key ≡ false → get_member j x ≡ get_member j y
    → get_member j (cond b x (member k d x)) ≡ get_member j (member k d y)
left_by true j key k d x y is other more =
    let same : key ≡ k = key_is key k is in
    let far : same_key j k ≡ false = rw (← same) other in
    more ∙ sym (past j k d y far)
left_by false j key k d x y is other more = get_ahead j k d x y more

pub without_apart : (j key : Name) (members : Members) → same_key j key ≡ false → get_member j (without key members) ≡ get_member j members
without_apart j key no_members other = refl
without_apart j key (member k d rest) other = left_by (same_key key k) j key k d (without key rest) rest refl other (without_apart j key rest other)
