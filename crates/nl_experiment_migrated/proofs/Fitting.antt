-- What an experiment's document holds is plain and at most three deep: of each reading that a key has, what is read so is.
use Rattle.std.proofs.Common.{◌≡◌, ◌≤◌, ℕ, suc, ℤ, Bool, true, false, List, [], ◌∷◌, Option, Some, None, Result, Ok, Err, Ordering, Less, Equal, Greater, refl, sym, ap, subst, ◌∙◌, bytes_eq, arith}
use Rattle.std.specs.Prelude.{◌||◌, ◌&&◌, if◌then◌else◌}
use Rattle.std.specs.Cmp.Lexicographic.{slice_cmp}
use Rattle.std.specs.List.{AllByRecursion}
use Rattle.std.specs.Ordering.{is_lt, match_ordering, nat_cmp}
use Rattle.std.proofs.lemmas.Cmp.{nat_list_cmp_total}
use Rattle.toml.specs.Data.{Data, string, integer, float, boolean, datetime, array, table, Items, no_items, item, items_depth, Members, no_members, member, members_depth, depth, get_member, is_before, is_sorted, members_are_sorted, same_key}
use Rattle.nl_fixed.specs.Nouns.{Bytes, Name, Names}
use Rattle.nl_experiment_fields.proofs.Binds.{from_bind, told_ok}
use Rattle.nl_experiment_fields.specs.Entries.{right_number, values_in}
use Rattle.nl_experiment_fields.specs.Reading.{kind_of_literal, kinds_in, number_in}
use Rattle.nl_experiment_keys.specs.Reading.{each_item, has_float, is_among, items_in, members_in, required, text_in, texts_in, told_at, truth_in, usual_or, whole_in}
use Rattle.nl_experiment_keys.specs.Rows.{some_text_in}
use Rattle.nl_experiment_keys.specs.declared.faults.PlanKind.{PlanKind}
use Rattle.nl_experiment_keys.specs.declared.faults.PlanKind.TheVariants.{FloatValue}
use Rattle.nl_experiment_migrated.specs.Plain.{is_plain, items_are_plain, members_are_plain}
use Rattle.nl_experiment_migrated.proofs.Members.{here, is_same, key_is, past}
use Rattle.nl_experiment_migrated.proofs.Saying.{all_among, first_of_both, second_of_both}

-- ---- plain, and at most so deep

abbrev pub Fit : ℕ → Data → Type 0
Fit n d = (is_plain d ≡ true) × (depth d ≤ n)

abbrev pub ItemsFit : ℕ → Items → Type 0
ItemsFit n ds = (items_are_plain ds ≡ true) × (items_depth ds ≤ n)

abbrev pub MembersFit : ℕ → Members → Type 0
MembersFit n ms = (members_are_plain ms ≡ true) × (members_depth ms ≤ n)

both : (a b : Bool) → a ≡ true → b ≡ true → (a && b) ≡ true
both true b one two = two
both false b one two = one

pub item_fits : (n : ℕ) (d : Data) (ds : Items) → Fit n d → ItemsFit n ds → ItemsFit n (item d ds)
item_fits n d ds one more =
    let this : depth d ≤ n = one.1 in
    let rest : items_depth ds ≤ n = more.1 in
    (both (is_plain d) (items_are_plain ds) one.0 more.0, omega arith)

pub member_fits : (n : ℕ) (k : Name) (d : Data) (ms : Members) → Fit n d → MembersFit n ms → MembersFit n (member k d ms)
member_fits n k d ms one more =
    let this : depth d ≤ n = one.1 in
    let rest : members_depth ms ≤ n = more.1 in
    (both (is_plain d) (members_are_plain ms) one.0 more.0, omega arith)

pub array_fits : (n : ℕ) (ds : Items) → ItemsFit n ds → Fit (suc n) (array ds)
array_fits n ds all =
    let inside : items_depth ds ≤ n = all.1 in
    (all.0, omega arith)

pub table_fits : (n : ℕ) (ms : Members) → MembersFit n ms → Fit (suc n) (table ms)
table_fits n ms all =
    let inside : members_depth ms ≤ n = all.1 in
    (all.0, omega arith)

pub looser : (n m : ℕ) (d : Data) → n ≤ m → Fit n d → Fit m d
looser n m d more one =
    let this : depth d ≤ n = one.1 in
    (one.0, omega arith)

-- ---- one value

-- what is read so is plain, and at most so deep
abbrev pub FitsBy : {X : Type 0} → ℕ → (Data → Result X PlanKind) → Type 0
FitsBy {X} n read = (d : Data) (x : X) → read d ≡ Ok x → Fit n d

pub whole_fits : (least most : ℤ) → FitsBy 0 (whole_in least most)
whole_fits least most (integer n) x is = (refl, omega arith)
whole_fits least most (boolean t) x is = absurd (cc)
whole_fits least most (string s) x is = absurd (cc)
whole_fits least most (float v) x is = absurd (cc)
whole_fits least most (datetime t) x is = absurd (cc)
whole_fits least most (array ds) x is = absurd (cc)
whole_fits least most (table ms) x is = absurd (cc)

pub truth_fits : FitsBy 0 truth_in
truth_fits (boolean t) x is = (refl, omega arith)
truth_fits (integer n) x is = absurd (cc)
truth_fits (string s) x is = absurd (cc)
truth_fits (float v) x is = absurd (cc)
truth_fits (datetime t) x is = absurd (cc)
truth_fits (array ds) x is = absurd (cc)
truth_fits (table ms) x is = absurd (cc)

pub text_fits : FitsBy 0 text_in
text_fits (string s) x is = (refl, omega arith)
text_fits (boolean t) x is = absurd (cc)
text_fits (integer n) x is = absurd (cc)
text_fits (float v) x is = absurd (cc)
text_fits (datetime t) x is = absurd (cc)
text_fits (array ds) x is = absurd (cc)
text_fits (table ms) x is = absurd (cc)

number_fits : FitsBy 0 number_in
number_fits (integer n) x is = (refl, omega arith)
number_fits (string s) x is = (refl, omega arith)
number_fits (boolean t) x is = absurd (cc)
number_fits (float v) x is = absurd (cc)
number_fits (datetime t) x is = absurd (cc)
number_fits (array ds) x is = absurd (cc)
number_fits (table ms) x is = absurd (cc)

pub kind_fits : FitsBy 0 kind_of_literal
kind_fits (integer n) x is = (refl, omega arith)
kind_fits (string s) x is = (refl, omega arith)
kind_fits (boolean t) x is = (refl, omega arith)
kind_fits (float v) x is = absurd (cc)
kind_fits (datetime t) x is = absurd (cc)
kind_fits (array ds) x is = absurd (cc)
kind_fits (table ms) x is = absurd (cc)

pub some_text_fits : FitsBy 0 some_text_in
some_text_fits d x is = from_bind (text_in d) _ x (Fit 0 d) (λ text one rest. text_fits d text one) is

pub right_number_fits : (name : Name) → FitsBy 0 (right_number name)
right_number_fits name d x is = from_bind (number_in d) _ x (Fit 0 d) (λ count one rest. number_fits d count one) is

-- ---- arrays

array_by : (b : Bool) (ds es : Items) → (if b then Err FloatValue else Ok ds) ≡ Ok es → array ds ≡ array es
array_by true ds es is = absurd (cc)
array_by false ds es is = let same : ds ≡ es = cc in ap array same

pub array_is : (d : Data) (ds : Items) → items_in d ≡ Ok ds → d ≡ array ds
array_is (array es) ds is = array_by (has_float es) es ds is
array_is (integer n) ds is = absurd (cc)
array_is (string s) ds is = absurd (cc)
array_is (boolean t) ds is = absurd (cc)
array_is (float v) ds is = absurd (cc)
array_is (datetime t) ds is = absurd (cc)
array_is (table ms) ds is = absurd (cc)

pub table_is : (d : Data) (ms : Members) → members_in d ≡ Ok ms → d ≡ table ms
table_is (table ls) ms is = let same : ls ≡ ms = cc in ap table same
table_is (integer n) ms is = absurd (cc)
table_is (string s) ms is = absurd (cc)
table_is (boolean t) ms is = absurd (cc)
table_is (float v) ms is = absurd (cc)
table_is (datetime t) ms is = absurd (cc)
table_is (array ds) ms is = absurd (cc)

each_fits : {X : Type 0} (n : ℕ) (read : Data → Result X PlanKind) → FitsBy n read → (ds : Items) (xs : List X) → each_item read ds ≡ Ok xs → ItemsFit n ds
each_fits n read fits no_items xs is = (refl, omega arith)
each_fits n read fits (item d ds) xs is =
    from_bind (read d) _ xs (ItemsFit n (item d ds)) (λ x one rest.
    from_bind (each_item read ds) _ xs (ItemsFit n (item d ds)) (λ ys two done.
    item_fits n d ds (fits d x one) (each_fits n read fits ds ys two)) rest) is

pub texts_fit : FitsBy 1 texts_in
texts_fit d xs is =
    from_bind (items_in d) _ xs (Fit 1 d) (λ ds one rest.
    subst (Fit 1) (sym (array_is d ds one)) (array_fits 0 ds (each_fits 0 text_in text_fits ds xs rest))) is

kinds_fit : (ds : Items) (x : Unit {0}) → kinds_in ds ≡ Ok x → ItemsFit 0 ds
kinds_fit no_items x is = (refl, omega arith)
kinds_fit (item d ds) x is =
    from_bind (kind_of_literal d) _ x (ItemsFit 0 (item d ds)) (λ y one rest. item_fits 0 d ds (kind_fits d y one) (kinds_fit ds x rest)) is

pub values_fit : FitsBy 1 values_in
values_fit d es is =
    from_bind (items_in d) _ es (Fit 1 d) (λ ds one rest.
    from_bind (kinds_in ds) _ es (Fit 1 d) (λ x two done.
    subst (Fit 1) (sym (array_is d ds one)) (array_fits 0 ds (kinds_fit ds x two))) rest) is

-- ---- what stands at a key

-- what stands at a key is plain, and at most so deep
abbrev pub FitsAt : ℕ → Members → Name → Type 0
FitsAt n ms key = (d : Data) → get_member key ms ≡ Some d → Fit n d

-- what was read where a usual value is, and where something has to stand
pub usual_read : {X : Type 0} (told : Bytes) (usual : X) (read : Data → Result X PlanKind) (o : Option Data) (x : X) (d : Data)
    → told_at told (usual_or usual read o) ≡ Ok x → o ≡ Some d → read d ≡ Ok x
usual_read told usual read None x d is at = absurd (cc)
usual_read {X} told usual read (Some e) x d is at =
    let same : e ≡ d = cc in
    ap read (sym same) ∙ told_ok told (read e) x is

pub usual_fits : {X : Type 0} (n : ℕ) (told : Bytes) (usual : X) (read : Data → Result X PlanKind) (o : Option Data) (x : X) (d : Data) → FitsBy n read
    → told_at told (usual_or usual read o) ≡ Ok x → o ≡ Some d → Fit n d
usual_fits n told usual read o x d fits is at = fits d x (usual_read told usual read o x d is at)

pub required_fits : {X : Type 0} (n : ℕ) (told : Bytes) (read : Data → Result X PlanKind) (o : Option Data) (x : X) (d : Data) → FitsBy n read
    → told_at told (required read o) ≡ Ok x → o ≡ Some d → Fit n d
required_fits n told read None x d fits is at = absurd (cc)
required_fits n told read (Some e) x d fits is at =
    let same : e ≡ d = cc in
    subst (Fit n) same (fits e x (told_ok told (read e) x is))

-- ---- all keys of a table

less_by : (o : Ordering) → is_lt o ≡ true → o ≡ Less
less_by Less is = refl
less_by Equal is = absurd (cc)
less_by Greater is = absurd (cc)

before_next : (k l : Name) (ms : Members) → is_lt (slice_cmp nat_cmp k l) ≡ true → is_before l ms ≡ true → is_before k ms ≡ true
before_next k l no_members first next = refl
before_next k l (member m d ms) first next =
    ap is_lt (nat_list_cmp_total.trans k l m (less_by (slice_cmp nat_cmp k l) first) (less_by (slice_cmp nat_cmp l m) next))

-- a key below all others isn't there
not_there : (k : Name) (ms : Members) → is_before k ms ≡ true → members_are_sorted ms ≡ true → get_member k ms ≡ None
not_there k no_members before sorted = refl
not_there k (member l d ms) before sorted =
    let less : slice_cmp nat_cmp k l ≡ Less = less_by (slice_cmp nat_cmp k l) before in
    let front : (is_before l ms && is_sorted d) ≡ true = first_of_both (is_before l ms && is_sorted d) (members_are_sorted ms) sorted in
    let next : is_before l ms ≡ true = first_of_both (is_before l ms) (is_sorted d) front in
    ap (λ o. match_ordering o (get_member k ms) (Some d) (get_member k ms)) less
    ∙ not_there k ms (before_next k l ms before next) (second_of_both (is_before l ms && is_sorted d) (members_are_sorted ms) sorted)

-- what stands at a key of the rest stands there in the whole
later_by : (b : Bool) (j k : Name) (d e : Data) (rest : Members) → same_key j k ≡ b → get_member k rest ≡ None → get_member j rest ≡ Some e
    → get_member j (member k d rest) ≡ Some e
later_by true j k d e rest is none there =
    let same : j ≡ k = key_is j k is in
    let other : get_member k rest ≡ Some e = ap (λ key. get_member key rest) (sym same) ∙ there in
    absurd (cc)
later_by false j k d e rest is none there = past j k d rest is ∙ there

pub members_fit : (n : ℕ) (known : Names) (ms : Members) → members_are_sorted ms ≡ true → all_among known ms ≡ true
    → ((k : Name) → is_among k known ≡ true → FitsAt n ms k) → MembersFit n ms
members_fit n known no_members sorted all fits = (refl, omega arith)
members_fit n known (member k d rest) sorted all fits =
    let front : (is_before k rest && is_sorted d) ≡ true = first_of_both (is_before k rest && is_sorted d) (members_are_sorted rest) sorted in
    let behind : members_are_sorted rest ≡ true = second_of_both (is_before k rest && is_sorted d) (members_are_sorted rest) sorted in
    let none : get_member k rest ≡ None = not_there k rest (first_of_both (is_before k rest) (is_sorted d) front) behind in
    member_fits n k d rest (fits k (first_of_both (is_among k known) (all_among known rest) all) d (here k d rest))
    (members_fit n known rest behind (second_of_both (is_among k known) (all_among known rest) all)
    (λ j one e there. fits j one e (later_by (same_key j k) j k d e rest refl none there)))

hold_by : (P : Name → Type 0) (b : Bool) (name k : Name) (names : Names) → bytes_eq name k ≡ b → P name → (is_among k names ≡ true → P k)
    → (b || is_among k names) ≡ true → P k
hold_by P true name k names same one more is = subst P (is_same name k same) one
hold_by P false name k names same one more is = more is

-- what holds of each name holds of one among them
pub one_holds : (P : Name → Type 0) (names : Names) → AllByRecursion P names → (k : Name) → is_among k names ≡ true → P k
one_holds P [] all k is = absurd (cc)
one_holds P (name ∷ names) all k is = hold_by P (bytes_eq name k) name k names refl all.0 (λ more. one_holds P names all.1 k more) is
