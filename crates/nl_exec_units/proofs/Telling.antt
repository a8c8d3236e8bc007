-- From what a state comes to beside the same with more units to the laws.
use Rattle.std.proofs.Common.{◌≡◌, ◌∙◌, ℕ, zero, suc, ◌+◌, ◌-◌, ◌<◌, ◌≤◌, ◌⊎◌, inl, inr, IsTrue, refl, sym, ap, arith}
use Rattle.nl_tree.specs.Checked.{Checked}
use Rattle.nl_tree.specs.Tree.{Node}
use Rattle.nl_tree.specs.declared.declared.Form.{Form}
use Rattle.nl_exec_meaning.specs.State.{State, Exit, Outcome, Gives, Stopped, Reported, Left, Budget, Error}
use Rattle.nl_exec_meaning.specs.Meaning.{evaluator, nesting_limit}
use Rattle.nl_exec_units.specs.Further.{with_units, with_left, with_budget, Further, Whole, Cut, Wants, NodesAreWholeOrCut, TextsAreWholeOrCut, TextsWantWhatTheySpend, CutTextsLeaveNotAll}
use Rattle.nl_exec_units.proofs.Beside.{Beside, whole, cut, by_itself, up, still, few-left}
use Rattle.nl_exec_units.proofs.Running.{evaluator-beside, text-beside}

pub up-is : (n k : ℕ) → up n k ≡ n + suc k
up-is zero k = omega arith
up-is (suc n) k = omega (arith, up-is n k)

itself_or_budget : (e : Exit) → IsTrue (by_itself e) ⊎ (e ≡ Budget)
itself_or_budget (Gives value) = inl refl
itself_or_budget Stopped = inl refl
itself_or_budget (Reported value) = inl refl
itself_or_budget Left = inl refl
itself_or_budget Budget = inr refl
itself_or_budget (Error kind place body) = inl refl

not-budget : {e : Exit} → IsTrue (by_itself e) → e ≡ Budget → ⊥
not-budget itself is = cc (ap by_itself is)

stays : {k n : ℕ} {o o1 : Outcome} → Beside k n o o1 → IsTrue (by_itself o.exit) → o1 ≡ with_left (up o.state.units k) o
stays (whole itself few) is = refl
stays (cut none after) is = absurd (not-budget is refl)

none-left : {k n : ℕ} {o o1 : Outcome} → Beside k n o o1 → o.exit ≡ Budget → o.state.units ≡ 0
none-left (whole itself few) is = absurd (not-budget itself is)
none-left (cut none after) is = none

at_most-left : {k n : ℕ} {o o1 : Outcome} → Beside k n o o1 → o.exit ≡ Budget → o1.state.units ≤ k
at_most-left (whole itself few) is = absurd (not-budget itself is)
at_most-left (cut none after) is = after

-- ---- whole or cut

-- what units come to beside one more and so many
abbrev pub IsBeside : (ℕ → Outcome) → ℕ → Type 0
IsBeside outcome units = (k : ℕ) → Beside k units (outcome units) (outcome (up units k))

sum-beside : (outcome : ℕ → Outcome) (units : ℕ) → IsBeside outcome units → (k : ℕ) → Beside k units (outcome units) (outcome (units + suc k))
sum-beside outcome units beside k = rw up-is at (beside k)

all-left : (outcome : ℕ → Outcome) (units : ℕ) → IsBeside outcome units → IsTrue (by_itself (outcome units).exit) → (more : ℕ) →
    outcome (units + more) ≡ with_left ((outcome units).state.units + more) (outcome units)
all-left outcome units beside itself zero = ap outcome (omega arith) ∙ ap (λ n. with_left n (outcome units)) (omega arith)
all-left outcome units beside itself (suc k) =
    stays (sum-beside outcome units beside k) itself ∙ ap (λ n. with_left n (outcome units)) (up-is (outcome units).state.units k)

pub further-of : (outcome : ℕ → Outcome) (units : ℕ) → IsBeside outcome units → Further outcome units
further-of outcome units beside = elim (itself_or_budget (outcome units).exit) as (λ w. Further outcome units) [
  | inl itself ↦ Whole (not-budget itself) (all-left outcome units beside itself)
  | inr is ↦ Cut is (none-left (beside 0) is) (λ more. at_most-left (sum-beside outcome units beside more) is)
]

pub nodes_are_whole_or_cut : NodesAreWholeOrCut
nodes_are_whole_or_cut p room t s units =
    further-of (λ n. evaluator p room t (with_units n s)) units (λ k. evaluator-beside p room k t units (with_units units s) (still units))

text-is_beside : (p : Checked) (form : Form) (t : Node) (s : State) (units : ℕ) → IsBeside (with_budget p form t s) units
text-is_beside p form t s units k = text-beside p nesting_limit form k t (with_units units s) units (still units)

pub texts_are_whole_or_cut : TextsAreWholeOrCut
texts_are_whole_or_cut p form t s units = further-of (with_budget p form t s) units (text-is_beside p form t s units)

pub leaves-not_all : (outcome : ℕ → Outcome) (units : ℕ) → Further outcome units → (outcome units).exit ≡ Budget →
    ((more : ℕ) → outcome (units + more) ≡ with_left ((outcome units).state.units + more) (outcome units)) → ⊥
leaves-not_all outcome units (Whole not_budget all) is over = not_budget is
leaves-not_all outcome units (Cut is none spends) budget over =
    let more : (outcome (units + 1)).state.units ≡ (outcome units).state.units + 1 = ap (λ o. o.state.units) (over 1) in
    absurd (omega (arith, more, spends 0))

pub cut_texts_leave_not_all : CutTextsLeaveNotAll
cut_texts_leave_not_all p form t s units = leaves-not_all (with_budget p form t s) units (texts_are_whole_or_cut p form t s units)

-- ---- what is wanted

cut-below : (outcome : ℕ → Outcome) (wanted left n : ℕ) → (outcome (wanted + left)).state.units ≡ left → n < wanted → Further outcome n →
    ((outcome n).exit ≡ Budget) × ((outcome n).state.units ≡ 0)
cut-below outcome wanted left n has few (Cut is none spends) = (is, none)
cut-below outcome wanted left n has few (Whole not_budget all) =
    let there : n + (wanted + left - n) ≡ wanted + left = omega (arith, few) in
    let same : (outcome (wanted + left)).state.units ≡ (outcome n).state.units + (wanted + left - n) =
    ap (λ m. (outcome m).state.units) (sym there) ∙ ap (λ o. o.state.units) (all (wanted + left - n)) in
    absurd (omega (arith, few, has, same))

not-cut : (outcome : ℕ → Outcome) (wanted left : ℕ) → (outcome (wanted + left)).state.units ≡ left → ((outcome (wanted + left)).exit ≡ Budget → ⊥) →
    (outcome wanted).exit ≡ Budget → ((more : ℕ) → (outcome (wanted + suc more)).state.units ≤ more) → ⊥
not-cut outcome wanted zero has ends_itself is spends =
    let there : wanted + 0 ≡ wanted = omega arith in ends_itself (ap (λ m. (outcome m).exit) there ∙ is)
not-cut outcome wanted (suc left) has ends_itself is spends = omega (arith, has, spends left)

all-over : (outcome : ℕ → Outcome) (wanted left : ℕ) → (outcome (wanted + left)).state.units ≡ left →
    ((outcome (wanted + left)).exit ≡ Budget → ⊥) → Further outcome wanted → (more : ℕ) →
    outcome (wanted + more) ≡ with_left more (outcome (wanted + left))
all-over outcome wanted left has ends_itself (Cut is none spends) more = absurd (not-cut outcome wanted left has ends_itself is spends)
all-over outcome wanted left has ends_itself (Whole not_budget all) more =
    let units : (outcome (wanted + left)).state.units ≡ (outcome wanted).state.units + left = ap (λ o. o.state.units) (all left) in
    let none : (outcome wanted).state.units + more ≡ more = omega (arith, has, units) in
    all more ∙ ap (λ n. with_left n (outcome wanted)) none ∙ ap (λ o. with_left more o) (sym (all left))

wants-at : (outcome : ℕ → Outcome) → ((units : ℕ) → Further outcome units) → (wanted left : ℕ) → (outcome (wanted + left)).state.units ≡ left →
    ((outcome (wanted + left)).exit ≡ Budget → ⊥) → Wants outcome wanted (outcome (wanted + left))
wants-at outcome further wanted left has ends_itself = record {
  fewer = λ n few. (cut-below outcome wanted left n has few (further n)).0;
  spent = λ n few. (cut-below outcome wanted left n has few (further n)).1;
  enough = all-over outcome wanted left has ends_itself (further wanted);
}

pub wants-of : (outcome : ℕ → Outcome) → ((units : ℕ) → Further outcome units) → (units : ℕ) → (outcome units).state.units ≤ units →
    ((outcome units).exit ≡ Budget → ⊥) → Wants outcome (units - (outcome units).state.units) (outcome units)
wants-of outcome further units few ends_itself =
    let left = (outcome units).state.units in
    let all : units - left + left ≡ units = omega (arith, few) in
    rw all at (wants-at outcome further (units - left) left (ap (λ n. (outcome n).state.units) all) (rw all ends_itself))

pub texts_want_what_they_spend : TextsWantWhatTheySpend
texts_want_what_they_spend p form t s units =
    wants-of (with_budget p form t s) (texts_are_whole_or_cut p form t s) units (few-left (text-is_beside p form t s units 0))
