-- An experiment says in format 2 what it said.
use Rattle.std.proofs.Common.{◌≡◌, ℤ, Bool, true, false, [], ◌∷◌, ◌++◌, Option, Some, None, Result, Ok, Err, Ordering, Less, Equal, Greater, cond, refl, sym, ap, ◌∙◌, arith, bytes_eq}
use Rattle.std.specs.Prelude.{if◌then◌else◌, codes, pos, int_le, ◌||◌, ◌&&◌}
use Rattle.std.proofs.lemmas.Map.Text.{is_eq-slice_cmp}
use Rattle.std.specs.Cmp.Lexicographic.{slice_cmp}
use Rattle.std.specs.Ordering.{int_eq, match_ordering, nat_cmp}
use Rattle.toml.specs.Data.{Data, string, integer, float, boolean, datetime, array, table, Members, no_members, member, get_member, same_key}
use Rattle.nl_fixed.specs.Nouns.{Bytes, Name, Names}
use Rattle.nl_experiment_keys.specs.Reading.{◌>>=◌, all_known, is_among, keys_in, least_unknown, none_unknown, required, text_in, told_at, truth_in, usual_or, whole_in}
use Rattle.nl_experiment_keys.specs.declared.faults.PlanKind.TheVariants.{BadLiteral}
use Rattle.std.specs.Cmp.{signed_Decides}
use Rattle.std.proofs.lemmas.Int.{ints}
use Rattle.nl_experiment_keys.specs.Rows.{some_text_in, maybe_text_at, required_text_at, text_at, texts_at, truth_at, whole_at}
use Rattle.nl_experiment_keys.specs.Document.{document, document_or_fault, file_holds, file_limit}
use Rattle.nl_experiment.specs.Plan.{experiment_says, judged}
use Rattle.nl_experiment_fields.specs.File.{file_says}
use Rattle.std.specs.Prelude.{length, nat_lt, ◌≤◌}
use Rattle.std.proofs.lemmas.Bool.Decides.{nat_tests}
use Rattle.nl_experiment_migrated.specs.Laws.{TheSameIsSaid}
use Rattle.nl_experiment_fields.specs.Entries.{globals_at, vary_at, world_at}
use Rattle.nl_experiment_fields.specs.File.{fields_in, head_in, measures_in, scripts_in}
use Rattle.nl_experiment_fields.specs.Keys.{format_by, keys_of, budget_key, every_step_key, format_key, globals_key, go_key, known_in, measure_when_key, metrics_key, name_key, repetitions_key, seed_key, sequential_key, setup_key, steps_key, until_key, vary_key, world_key}
use Rattle.nl_experiment_fields.specs.declared.fields.Fields.{Fields}
use Rattle.nl_experiment_migrated.specs.Migrated.{from_first, is_second, is_true, migrated, with_condition, with_member, without}
use Rattle.nl_experiment_migrated.proofs.Members.{key_is, past, with_apart, with_here, without_apart, without_here}

-- ---- what stands at each key

pub condition_apart : (b : Bool) (j : Name) (members : Members) → same_key j measure_when_key ≡ false → get_member j (with_condition b members) ≡ get_member j members
condition_apart true j ms other = with_apart j measure_when_key (string (codes "true")) ms other
condition_apart false j ms other = refl

condition_here : (b : Bool) (members : Members) → get_member measure_when_key (with_condition b members) ≡ (if b then Some (string (codes "true")) else get_member measure_when_key members)
condition_here true ms = with_here measure_when_key (string (codes "true")) ms
condition_here false ms = refl

abbrev was_true : Members → Bool
was_true members = is_true (get_member every_step_key.name members)

pub others_stay : (members : Members) (j : Name) → same_key j format_key.name ≡ false → same_key j every_step_key.name ≡ false → same_key j measure_when_key ≡ false
    → get_member j (from_first members) ≡ get_member j members
others_stay members j a b c =
    with_apart j format_key.name (integer (pos 2)) (with_condition (was_true members) (without every_step_key.name members)) a
    ∙ condition_apart (was_true members) j (without every_step_key.name members) c ∙ without_apart j every_step_key.name members b

pub format_there : (members : Members) → get_member format_key.name (from_first members) ≡ Some (integer (pos 2))
format_there members = with_here format_key.name (integer (pos 2)) (with_condition (was_true members) (without every_step_key.name members))

pub every_step_gone : (members : Members) → get_member every_step_key.name (from_first members) ≡ None
every_step_gone members =
    with_apart every_step_key.name format_key.name (integer (pos 2)) (with_condition (was_true members) (without every_step_key.name members)) refl
    ∙ condition_apart (was_true members) every_step_key.name (without every_step_key.name members) refl ∙ without_here every_step_key.name members

pub condition_there : (members : Members) → get_member measure_when_key (from_first members)
    ≡ (if was_true members then Some (string (codes "true")) else get_member measure_when_key members)
condition_there members =
    with_apart measure_when_key format_key.name (integer (pos 2)) (with_condition (was_true members) (without every_step_key.name members)) refl
    ∙ condition_here (was_true members) (without every_step_key.name members)
    ∙ ap (λ o. if was_true members then Some (string (codes "true")) else o) (without_apart measure_when_key every_step_key.name members refl)

-- ---- known keys

-- each key is one of these
abbrev pub all_among : Names → Members → Bool
all_among known no_members = true
all_among known (member k d rest) = is_among k known && all_among known rest

both : (b c : Bool) → b ≡ true → c ≡ true → (b && c) ≡ true
both true c first second = second
both false c first second = first

pub first_of_both : (b c : Bool) → (b && c) ≡ true → b ≡ true
first_of_both true c all = refl
first_of_both false c all = all

pub second_of_both : (b c : Bool) → (b && c) ≡ true → c ≡ true
second_of_both true c all = all
second_of_both false c all = absurd (cc)

none_told : (found : Option Bytes) (x : Unit {0}) → none_unknown [] found ≡ Ok x → found ≡ None
none_told None x is = refl
none_told (Some key) x is = absurd (cc)

least_by : (b : Bool) (key : Bytes) (found : Option Bytes) (all : Bool) → (found ≡ None → all ≡ true) → (if b then found else Some key) ≡ None → (b && all) ≡ true
least_by true key found all more is = more is
least_by false key found all more is = absurd (cc)

from_least : (known : Names) (members : Members) → least_unknown known (keys_in members) ≡ None → all_among known members ≡ true
from_least known no_members is = refl
from_least known (member k d rest) is = least_by (is_among k known) _ (least_unknown known (keys_in rest)) (all_among known rest) (from_least known rest) is

pub from_known : (known : Names) (members : Members) (x : Unit {0}) → all_known [] known members ≡ Ok x → all_among known members ≡ true
from_known known members x is = from_least known members (none_told (least_unknown known (keys_in members)) x is)

to_least : (known : Names) (members : Members) → all_among known members ≡ true → least_unknown known (keys_in members) ≡ None
to_least known no_members all = refl
to_least known (member k d rest) all =
    rw (first_of_both (is_among k known) (all_among known rest) all) (to_least known rest (second_of_both (is_among k known) (all_among known rest) all))

to_known : (known : Names) (members : Members) → all_among known members ≡ true → all_known [] known members ≡ Ok tt
to_known known members all = ap (λ o. none_unknown [] o) (to_least known members all)

put_by : (o : Ordering) (known : Names) (key k : Name) (value d : Data) (rest : Members) → is_among key known ≡ true → all_among known (member k d rest) ≡ true
    → all_among known (with_member key value rest) ≡ true
    → all_among known (match_ordering o (member key value (member k d rest)) (member k value rest) (member k d (with_member key value rest))) ≡ true
put_by Less known key k value d rest one all more = both (is_among key known) (all_among known (member k d rest)) one all
put_by Equal known key k value d rest one all more = all
put_by Greater known key k value d rest one all more =
    both (is_among k known) (all_among known (with_member key value rest)) (first_of_both (is_among k known) (all_among known rest) all) more

put_known : (known : Names) (key : Name) (value : Data) (members : Members) → is_among key known ≡ true → all_among known members ≡ true → all_among known (with_member key value members) ≡ true
put_known known key value no_members one all = both (is_among key known) true one refl
put_known known key value (member k d rest) one all =
    put_by (slice_cmp nat_cmp key k) known key k value d rest one all (put_known known key value rest one (second_of_both (is_among k known) (all_among known rest) all))

Goes : Names → Name → Names → Type 0
Goes known key later = (k : Name) → is_among k known ≡ true → same_key key k ≡ false → is_among k later ≡ true

gone_by : (b : Bool) (later : Names) (k : Name) (d : Data) (rest : Members) → (b ≡ false → is_among k later ≡ true) → all_among later rest ≡ true
    → all_among later (cond b rest (member k d rest)) ≡ true
gone_by true later k d rest one all = all
gone_by false later k d rest one all = both (is_among k later) (all_among later rest) (one refl) all

gone_known : (known : Names) (key : Name) (later : Names) (members : Members) → Goes known key later → all_among known members ≡ true → all_among later (without key members) ≡ true
unfolding Goes
gone_known known key later no_members goes all = refl
gone_known known key later (member k d rest) goes all =
    gone_by (same_key key k) later k d (without key rest) (goes k (first_of_both (is_among k known) (all_among known rest) all))
    (gone_known known key later rest goes (second_of_both (is_among k known) (all_among known rest) all))

absent_by : (b : Bool) (key k : Name) (known : Names) (d : Data) (rest : Members) → same_key key k ≡ b → is_among key known ≡ false → is_among k known ≡ true
    → get_member key rest ≡ None → get_member key (member k d rest) ≡ None
absent_by true key k known d rest is out one more =
    let same : key ≡ k = key_is key k is in
    let in_it : is_among key known ≡ true = rw same one in
    absurd (cc)
absent_by false key k known d rest is out one more = past key k d rest is ∙ more

absent : (key : Name) (known : Names) (members : Members) → is_among key known ≡ false → all_among known members ≡ true → get_member key members ≡ None
absent key known no_members out all = refl
absent key known (member k d rest) out all =
    absent_by (same_key key k) key k known d rest refl out (first_of_both (is_among k known) (all_among known rest) all)
    (absent key known rest out (second_of_both (is_among k known) (all_among known rest) all))

either : (b c e : Bool) → (b || c) ≡ true → (c ≡ true → e ≡ true) → (b || e) ≡ true
either true c e is next = refl
either false c e is next = next is

passing : (a b c : Bool) → (a || c) ≡ true → a ≡ false → (b || c) ≡ true
passing true b c is other = absurd (cc)
passing false true c is other = refl
passing false false c is other = is

in_place : (xs ys : Names) (x y k : Name) → is_among k (xs ++ x ∷ ys) ≡ true → bytes_eq x k ≡ false → is_among k (xs ++ y ∷ ys) ≡ true
in_place [] ys x y k is other = passing (bytes_eq x k) (bytes_eq y k) (is_among k ys) is other
in_place (z ∷ zs) ys x y k is other = either (bytes_eq z k) (is_among k (zs ++ x ∷ ys)) (is_among k (zs ++ y ∷ ys)) is (λ later. in_place zs ys x y k later other)

before_it : Names
before_it =
    format_key.name ∷ name_key ∷ seed_key.name ∷ repetitions_key.name ∷ sequential_key.name ∷ setup_key.name ∷ go_key.name ∷ until_key ∷ steps_key.name ∷ []

after_it : Names
after_it = budget_key.name ∷ metrics_key ∷ world_key ∷ globals_key ∷ vary_key ∷ []

key_goes : Goes (keys_of (Some (pos 1))) every_step_key.name (keys_of (Some (pos 2)))
unfolding Goes before_it after_it
key_goes k is other = in_place before_it after_it every_step_key.name measure_when_key k is (sym (is_eq-slice_cmp every_step_key.name k) ∙ other)

known_by : (members : Members) (n : ℤ) → whole_at [] format_key members ≡ Ok n → known_in members ≡ keys_of (Some n)
known_by ms n is = ap (λ r. keys_of (format_by r)) is

condition_known : (b : Bool) (members : Members) → all_among (keys_of (Some (pos 2))) members ≡ true → all_among (keys_of (Some (pos 2))) (with_condition b members) ≡ true
condition_known true ms all = put_known (keys_of (Some (pos 2))) measure_when_key (string (codes "true")) ms refl all
condition_known false ms all = all

second_known : (members : Members) → all_among (keys_of (Some (pos 1))) members ≡ true → all_among (keys_of (Some (pos 2))) (from_first members) ≡ true
second_known members all =
    put_known (keys_of (Some (pos 2))) format_key.name (integer (pos 2)) (with_condition (was_true members) (without every_step_key.name members)) refl
    (condition_known (was_true members) (without every_step_key.name members)
    (gone_known (keys_of (Some (pos 1))) every_step_key.name (keys_of (Some (pos 2))) members key_goes all))

-- ---- what the keys say

-- steps that read the same, and those behind them
bind_same : {A B E : Type 0} (m n : Result A E) (f g : A → Result B E) → m ≡ n → ((x : A) → f x ≡ g x) → (m >>= f) ≡ (n >>= g)
bind_same (Ok x) n f g same next = next x ∙ ap (λ r. r >>= g) same
bind_same (Err e) n f g same next = ap (λ r. r >>= g) same

bind_ok : {A B E : Type 0} (m : Result A E) (f : A → Result B E) (x : A) → m ≡ Ok x → (m >>= f) ≡ f x
bind_ok m f x is = ap (λ r. r >>= f) is

pub ok_ahead : {A B E : Type 0} (m : Result A E) (f : A → Result B E) (y : B) (C : Type 0) → ((x : A) → m ≡ Ok x → f x ≡ Ok y → C) → (m >>= f) ≡ Ok y → C
ok_ahead (Ok x) f y C next is = next x refl is
ok_ahead (Err e) f y C next is = let bad : Err e ≡ Ok y = is in absurd (cc)

module _ (members : Members) where
  stays : (j : Name) → same_key j format_key.name ≡ false → same_key j every_step_key.name ≡ false → same_key j measure_when_key ≡ false
      → get_member j (from_first members) ≡ get_member j members
  stays j a b c = others_stay members j a b c

  head_same : (n m : ℤ) → whole_at [] format_key members ≡ Ok n → whole_at [] format_key (from_first members) ≡ Ok m → head_in (from_first members) ≡ head_in members
  head_same n m is new =
      bind_ok (whole_at [] format_key (from_first members)) _ m new
      ∙ bind_same (required_text_at name_key (from_first members)) (required_text_at name_key members) _ _
      (ap (λ o. told_at name_key (required text_in o)) (stays name_key refl refl refl)) (λ name.
      bind_same (whole_at [] seed_key (from_first members)) (whole_at [] seed_key members) _ _
      (ap (λ o. told_at seed_key.name (usual_or seed_key.usual (whole_in seed_key.least seed_key.most) o)) (stays seed_key.name refl refl refl)) (λ seed.
      bind_same (whole_at [] repetitions_key (from_first members)) (whole_at [] repetitions_key members) _ _
      (ap (λ o. told_at repetitions_key.name (usual_or repetitions_key.usual (whole_in repetitions_key.least repetitions_key.most) o)) (stays repetitions_key.name refl refl refl)) (λ repetitions.
      bind_same (truth_at [] sequential_key (from_first members)) (truth_at [] sequential_key members) _ _
      (ap (λ o. told_at sequential_key.name (usual_or sequential_key.usual truth_in o)) (stays sequential_key.name refl refl refl)) (λ sequential. refl))))
      ∙ sym (bind_ok (whole_at [] format_key members) _ n is)

  scripts_same : scripts_in (from_first members) ≡ scripts_in members
  scripts_same =
      bind_same (text_at setup_key (from_first members)) (text_at setup_key members) _ _
      (ap (λ o. told_at setup_key.name (usual_or setup_key.usual text_in o)) (stays setup_key.name refl refl refl)) (λ setup.
      bind_same (text_at go_key (from_first members)) (text_at go_key members) _ _
      (ap (λ o. told_at go_key.name (usual_or go_key.usual text_in o)) (stays go_key.name refl refl refl)) (λ go.
      bind_same (maybe_text_at until_key (from_first members)) (maybe_text_at until_key members) _ _
      (maybe_same until_key (stays until_key refl refl refl)) (λ until. refl)))
    where
      maybe_same : (key : Name) → get_member key (from_first members) ≡ get_member key members → maybe_text_at key (from_first members) ≡ maybe_text_at key members
      maybe_same key same = rw same

  world_same : world_at (from_first members) ≡ world_at members
  world_same = rw (stays world_key refl refl refl)

  globals_same : globals_at (from_first members) ≡ globals_at members
  globals_same = rw (stays globals_key refl refl refl)

  vary_same : vary_at (from_first members) ≡ vary_at members
  vary_same = rw (stays vary_key refl refl refl)

  by_truth : (e : Bool) → was_true members ≡ e → truth_at [] every_step_key members ≡ Ok e → get_member measure_when_key members ≡ None
      → measures_in (from_first members) ≡ measures_in members
  by_truth true was read none =
      let there : get_member measure_when_key (from_first members) ≡ Some (string (codes "true")) =
      condition_there members ∙ ap (λ b. if b then Some (string (codes "true")) else get_member measure_when_key members) was in
      bind_same (whole_at [] steps_key (from_first members)) (whole_at [] steps_key members) _ _ steps (λ count.
      bind_ok (truth_at [] every_step_key (from_first members)) _ false gone
      ∙ (bind_ok (maybe_text_at measure_when_key (from_first members)) _ (Some (codes "true")) (ap (λ o. told_at measure_when_key (usual_or None some_text_in o)) there)
      ∙ (bind_same (whole_at [] budget_key (from_first members)) (whole_at [] budget_key members) _ _ budget (λ units.
      bind_same (texts_at metrics_key (from_first members)) (texts_at metrics_key members) _ _ metrics (λ texts. refl))
      ∙ sym (bind_ok (truth_at [] every_step_key members) _ true read
      ∙ bind_ok (maybe_text_at measure_when_key members) _ None (ap (λ o. told_at measure_when_key (usual_or None some_text_in o)) none)))))
    where
      gone : truth_at [] every_step_key (from_first members) ≡ Ok false
      gone = ap (λ o. told_at every_step_key.name (usual_or false truth_in o)) (every_step_gone members)

      steps : whole_at [] steps_key (from_first members) ≡ whole_at [] steps_key members
      steps = ap (λ o. told_at steps_key.name (usual_or steps_key.usual (whole_in steps_key.least steps_key.most) o)) (stays steps_key.name refl refl refl)

      budget : whole_at [] budget_key (from_first members) ≡ whole_at [] budget_key members
      budget = ap (λ o. told_at budget_key.name (usual_or budget_key.usual (whole_in budget_key.least budget_key.most) o)) (stays budget_key.name refl refl refl)

      metrics : texts_at metrics_key (from_first members) ≡ texts_at metrics_key members
      metrics = rw (stays metrics_key refl refl refl)
  by_truth false was read none =
      let there : get_member measure_when_key (from_first members) ≡ None =
      condition_there members ∙ ap (λ b. if b then Some (string (codes "true")) else get_member measure_when_key members) was ∙ none in
      bind_same (whole_at [] steps_key (from_first members)) (whole_at [] steps_key members) _ _ steps (λ count.
      bind_ok (truth_at [] every_step_key (from_first members)) _ false gone
      ∙ (bind_ok (maybe_text_at measure_when_key (from_first members)) _ None (ap (λ o. told_at measure_when_key (usual_or None some_text_in o)) there)
      ∙ (bind_same (whole_at [] budget_key (from_first members)) (whole_at [] budget_key members) _ _ budget (λ units.
      bind_same (texts_at metrics_key (from_first members)) (texts_at metrics_key members) _ _ metrics (λ texts. refl))
      ∙ sym (bind_ok (truth_at [] every_step_key members) _ false read
      ∙ bind_ok (maybe_text_at measure_when_key members) _ None (ap (λ o. told_at measure_when_key (usual_or None some_text_in o)) none)))))
    where
      gone : truth_at [] every_step_key (from_first members) ≡ Ok false
      gone = ap (λ o. told_at every_step_key.name (usual_or false truth_in o)) (every_step_gone members)

      steps : whole_at [] steps_key (from_first members) ≡ whole_at [] steps_key members
      steps = ap (λ o. told_at steps_key.name (usual_or steps_key.usual (whole_in steps_key.least steps_key.most) o)) (stays steps_key.name refl refl refl)

      budget : whole_at [] budget_key (from_first members) ≡ whole_at [] budget_key members
      budget = ap (λ o. told_at budget_key.name (usual_or budget_key.usual (whole_in budget_key.least budget_key.most) o)) (stays budget_key.name refl refl refl)

      metrics : texts_at metrics_key (from_first members) ≡ texts_at metrics_key members
      metrics = rw (stays metrics_key refl refl refl)

-- ---- which format it is

true_by : (o : Option Data) (e : Bool) → told_at every_step_key.name (usual_or false truth_in o) ≡ Ok e → is_true o ≡ e
true_by None e is = let same : false ≡ e = cc in same
true_by (Some (boolean true)) e is = let same : true ≡ e = cc in same
true_by (Some (boolean false)) e is = let same : false ≡ e = cc in same
true_by (Some (string x)) e is = absurd (cc)
true_by (Some (integer x)) e is = absurd (cc)
true_by (Some (float x)) e is = absurd (cc)
true_by (Some (datetime x)) e is = absurd (cc)
true_by (Some (array x)) e is = absurd (cc)
true_by (Some (table x)) e is = absurd (cc)

one_left : (k : ℤ) → (int_le (pos 1) k && int_le k (pos 2)) ≡ true → int_eq k (pos 2) ≡ false → k ≡ pos 1
one_left k within other =
    let low : int_le (pos 1) k ≡ true = first_of_both (int_le (pos 1) k) (int_le k (pos 2)) within in
    let high : int_le k (pos 2) ≡ true = second_of_both (int_le (pos 1) k) (int_le k (pos 2)) within in
    grind (arith, ints, signed_Decides k (pos 2))

one_by : (b : Bool) (k n : ℤ) → (int_le (pos 1) k && int_le k (pos 2)) ≡ b → told_at format_key.name (if b then Ok k else Err BadLiteral) ≡ Ok n
    → int_eq k (pos 2) ≡ false → told_at format_key.name (if b then Ok k else Err BadLiteral) ≡ Ok (pos 1)
one_by true k n within is other = ap Ok (one_left k within other)
one_by false k n within is other = absurd (cc)

first_by : (o : Option Data) (n : ℤ) → told_at format_key.name (usual_or (pos 1) (whole_in (pos 1) (pos 2)) o) ≡ Ok n → is_second o ≡ false
    → told_at format_key.name (usual_or (pos 1) (whole_in (pos 1) (pos 2)) o) ≡ Ok (pos 1)
first_by None n is other = refl
first_by (Some (integer k)) n is other = one_by (int_le (pos 1) k && int_le k (pos 2)) k n refl is other
first_by (Some (boolean x)) n is other = absurd (cc)
first_by (Some (string x)) n is other = absurd (cc)
first_by (Some (float x)) n is other = absurd (cc)
first_by (Some (datetime x)) n is other = absurd (cc)
first_by (Some (array x)) n is other = absurd (cc)
first_by (Some (table x)) n is other = absurd (cc)

-- ---- all

second_format : (members : Members) → whole_at [] format_key (from_first members) ≡ Ok (pos 2)
second_format members = ap (λ o. told_at format_key.name (usual_or format_key.usual (whole_in format_key.least format_key.most) o)) (format_there members)

known_second : (members : Members) (n : ℤ) (x : Unit {0}) → whole_at [] format_key members ≡ Ok n → is_second (get_member format_key.name members) ≡ false
    → all_known [] (known_in members) members ≡ Ok x → (all_known [] (known_in (from_first members)) (from_first members) ≡ Ok tt) × (get_member measure_when_key members ≡ None)
known_second members n x format other known =
    let first : whole_at [] format_key members ≡ Ok (pos 1) = first_by (get_member format_key.name members) n format other in
    let all : all_among (keys_of (Some (pos 1))) members ≡ true =
    from_known (keys_of (Some (pos 1))) members x (ap (λ ks. all_known [] ks members) (sym (known_by members (pos 1) first)) ∙ known) in (
      ap (λ ks. all_known [] ks (from_first members)) (known_by (from_first members) (pos 2) (second_format members))
          ∙ to_known (keys_of (Some (pos 2))) (from_first members) (second_known members all),
      absent measure_when_key (keys_of (Some (pos 1))) members refl all,
    )

-- the format that a document has, and whether it was measured at every step
format_of : (members : Members) (f : Fields) → fields_in members ≡ Ok f → (n : ℤ) × (whole_at [] format_key members ≡ Ok n)
format_of members f is =
    ok_ahead (all_known [] (known_in members) members) _ f _ (λ known a one.
    ok_ahead (head_in members) _ f _ (λ head b two.
    ok_ahead (whole_at [] format_key members) _ head _ (λ n c three. (n, c)) b) one) is

truth_of : (members : Members) (f : Fields) → fields_in members ≡ Ok f → (e : Bool) × (truth_at [] every_step_key members ≡ Ok e)
truth_of members f is =
    ok_ahead (all_known [] (known_in members) members) _ f _ (λ known a one.
    ok_ahead (head_in members) _ f _ (λ head b two.
    ok_ahead (scripts_in members) _ f _ (λ scripts c three.
    ok_ahead (measures_in members) _ f _ (λ measures d four.
    ok_ahead (whole_at [] steps_key members) _ measures _ (λ steps g five.
    ok_ahead (truth_at [] every_step_key members) _ measures _ (λ e h six. (e, h)) five) d) three) two) one) is

pub known_of : (members : Members) (f : Fields) → fields_in members ≡ Ok f → (x : Unit {0}) × (all_known [] (known_in members) members ≡ Ok x)
known_of members f is = ok_ahead (all_known [] (known_in members) members) _ f _ (λ known a one. (known, a)) is

pub fields_same : (members : Members) (f : Fields) → fields_in members ≡ Ok f → is_second (get_member format_key.name members) ≡ false
    → fields_in (from_first members) ≡ fields_in members
fields_same members f is other =
    let (n, format) = format_of members f is in
    let (e, read) = truth_of members f is in
    let (x, known) = known_of members f is in
    let (later, none) = known_second members n x format other known in
    bind_ok (all_known [] (known_in (from_first members)) (from_first members)) _ tt later
    ∙ bind_same (head_in (from_first members)) (head_in members) _ _ (head_same members n (pos 2) format (second_format members)) (λ head.
    bind_same (scripts_in (from_first members)) (scripts_in members) _ _ (scripts_same members) (λ scripts.
    bind_same (measures_in (from_first members)) (measures_in members) _ _
    (by_truth members e (true_by (get_member every_step_key.name members) e read) read none) (λ measures.
    bind_same (world_at (from_first members)) (world_at members) _ _ (world_same members) (λ world.
    bind_same (globals_at (from_first members)) (globals_at members) _ _ (globals_same members) (λ globals.
    bind_same (vary_at (from_first members)) (vary_at members) _ _ (vary_same members) (λ vary. refl))))))
    ∙ sym (bind_ok (all_known [] (known_in members) members) _ x known)

by_format : (b : Bool) (members : Members) (f : Fields) → is_second (get_member format_key.name members) ≡ b → fields_in members ≡ Ok f
    → fields_in (if b then members else from_first members) ≡ fields_in members
by_format true ms f second is = refl
by_format false ms f second is = fields_same ms f is second

-- the same fields are in the members of format 2
pub migrated_same : (members : Members) (f : Fields) → fields_in members ≡ Ok f → fields_in (migrated members) ≡ fields_in members
migrated_same members f is = by_format (is_second (get_member format_key.name members)) members f refl is

-- ---- a text

pub text_held : (text : Bytes) (members : Members) → document text ≡ Some members → length text ≤ file_limit → file_holds text ≡ Ok members
unfolding file_holds
text_held text ms is short =
    let fits : nat_lt file_limit (length text) ≡ false = grind (arith, nat_tests) in
    rw fits (ap document_or_fault is)

pub migrated_says_the_same : TheSameIsSaid
migrated_says_the_same file text f said wrote short =
    let held : file_holds text ≡ Ok (migrated wrote.members) = text_held text (migrated wrote.members) wrote.wrote.reads short in
    ok_ahead (file_says file) judged f (experiment_says text ≡ Ok f) (λ fields says judges.
    let in_file : fields_in wrote.members ≡ Ok fields = ap (λ r. r >>= fields_in) (sym wrote.held) ∙ says in
    let in_text : file_says text ≡ Ok fields = ap (λ r. r >>= fields_in) held ∙ (migrated_same wrote.members fields in_file ∙ in_file) in
    ap (λ r. r >>= judged) in_text ∙ judges) said
