-- Walks over the items of an array, one after another.
use Rattle.std.proofs.Common.{◌≡◌, Bool, true, false, List, [], ◌∷◌, ◌++◌, length, Result, Ok, Err, append_assoc, refl, sym, ap, ◌∙◌, arith}
use Rattle.std.specs.Option.{is_some}
use Rattle.std.proofs.lemmas.List.{append-nil}
use Rattle.toml.specs.Data.{Data, string, integer, float, boolean, datetime, array, table, as_float}
use Rattle.toml.specs.View.{items_view, view}
use Rattle.toml.specs.declared.value.Value.{Value}
use Rattle.nl_fixed.specs.Nouns.{Bytes, Texts}
use Rattle.nl_experiment_keys.specs.declared.faults.PlanKind.{PlanKind}
use Rattle.nl_experiment_keys.specs.declared.faults.KeyRefusal.{KeyRefusal}
use Rattle.nl_experiment_keys.specs.Reading.{◌>>=◌, Reads, Tells, each_item, fault_at, has_float, is_float, text_in, told_at}

-- ---- items

pub float_is : (d : Data) → is_some (as_float d) ≡ is_float d
float_is (string text) = refl
float_is (integer n) = refl
float_is (float x) = refl
float_is (boolean truth) = refl
float_is (datetime date) = refl
float_is (array _) = refl
float_is (table _) = refl

pub float_here : (left : List Value) (v : Value) (behind : List Value) (total : Bool) → left ≡ v ∷ behind → has_float (items_view left) ≡ total → is_float (view v) ≡ true → true ≡ total
float_here left v behind total same is here = let is' = rw (same, here) at is in is'

pub float_passed : (left : List Value) (v : Value) (behind : List Value) (total : Bool)
    → left ≡ v ∷ behind → has_float (items_view left) ≡ total → is_float (view v) ≡ false → has_float (items_view behind) ≡ total
float_passed left v behind total same is other = let is' = rw (same, other) at is in is'

pub float_none : (left : List Value) (total : Bool) → length left ≡ 0 → has_float (items_view left) ≡ total → false ≡ total
float_none [] total none is = is
float_none (v ∷ left) total none is = absurd (omega (arith, none))

-- ---- texts

rejoined : (texts : Texts) (text : Bytes) (rest : Result Texts PlanKind)
    → (rest >>= (λ xs. Ok (texts ++ text ∷ [] ++ xs))) ≡ ((rest >>= (λ xs. Ok (text ∷ xs))) >>= (λ xs. Ok (texts ++ xs)))
rejoined texts text (Ok xs) = ap Ok (append_assoc texts (text ∷ []) xs)
rejoined texts text (Err kind) = refl

pub text_more : (texts : Texts) (text : Bytes) (left : List Value) (v : Value) (behind : List Value) (total : Result Texts PlanKind)
    → left ≡ v ∷ behind → (each_item text_in (items_view left) >>= (λ xs. Ok (texts ++ xs))) ≡ total → Ok text ≡ text_in (view v)
    → (each_item text_in (items_view behind) >>= (λ xs. Ok (texts ++ text ∷ [] ++ xs))) ≡ total
text_more texts text left v behind total same is read =
    let is' = rw (same, ← read) at is in
    rejoined texts text (each_item text_in (items_view behind)) ∙ is'

pub text_bad : (texts : Texts) (kind : PlanKind) (left : List Value) (v : Value) (behind : List Value) (total : Result Texts PlanKind)
    → left ≡ v ∷ behind → (each_item text_in (items_view left) >>= (λ xs. Ok (texts ++ xs))) ≡ total → Err kind ≡ text_in (view v) → Err kind ≡ total
text_bad texts kind left v behind total same is read = let is' = rw (same, ← read) at is in is'

pub text_done : (texts : Texts) (left : List Value) (total : Result Texts PlanKind)
    → length left ≡ 0 → (each_item text_in (items_view left) >>= (λ xs. Ok (texts ++ xs))) ≡ total → Ok texts ≡ total
text_done texts [] total none is = ap Ok (sym (append-nil texts)) ∙ is
text_done texts (v ∷ left) total none is = absurd (omega (arith, none))

-- what ends a reading at a key
pub bad_told : (key : Bytes) (kind : PlanKind) (total : Result Texts PlanKind) (refusal : KeyRefusal)
    → Err kind ≡ total → Tells (fault_at key kind) refusal → Reads (told_at key total) (Err refusal)
bad_told key kind total (KeyRefusal.Fault told) is tells = ap (told_at key) (sym is) ∙ ap Err (sym tells)
bad_told key kind total KeyRefusal.NoMemory is tells = tt

pub text_first : (texts : Texts) (total : Result Texts PlanKind) → texts ≡ [] → (total >>= (λ xs. Ok (texts ++ xs))) ≡ total
text_first texts (Ok xs) none = ap (λ (ts : Texts). Ok (ts ++ xs)) none
text_first texts (Err kind) none = refl

pub texts_told : (key : Bytes) (texts : Texts) (total : Result Texts PlanKind) → Ok texts ≡ total → told_at key total ≡ Ok texts
texts_told key texts total is = ap (told_at key) (sym is)
