-- How far a partial table reaches: what is known of its rows so far, and what one more says.
use Rattle.std.proofs.Common.{◌≡◌, ℕ, zero, suc, ◌+◌, ◌-◌, ◌<◌, ◌≤◌, ◌==◌, Bool, true, false, not, List, [], ◌∷◌, ◌++◌, length, take, drop, map, cond, ap, sym, refl, subst, ◌∙◌, arith, append_assoc, append-nil, length-append, inl, inr, ◌⊎◌}
use Rattle.std.specs.Prelude.{IsTrue, bytes_eq, Option, Some, None, slice_get, if◌then◌else◌, option_map, MatchBool}
use Rattle.std.specs.List.{filter}
use Rattle.std.specs.Fmt.{decimal}
use Rattle.std.proofs.lemmas.List.{take-append-drop}
use Rattle.std.proofs.lemmas.Slice.Eq.{bytes_eq-Decides}
use Rattle.std.proofs.lemmas.Option.{slice_get_within}
use Rattle.csv.specs.Records.{field_at}
use Rattle.csv.proofs.RecordFacts.{field-get, field-there}
use Rattle.nl_fixed.specs.Nouns.{Bytes, Texts}
use Rattle.nl_table.specs.Lines.{line_text, lines_text}
use Rattle.nl_table.specs.Pieces.{ends, first_end, pieces}
use Rattle.nl_table.specs.PieceLaws.{AreFull}
use Rattle.nl_table.specs.Reach.{has_end, ended_in, rows_of, IsNumbered, IsDue, AreDue, Reaches}
use Rattle.nl_table.specs.Reading.{IsLineOf, IsNoLine, StandsBefore, SliceReader}
use Rattle.nl_table.specs.declared.reach.Reach.TheVariants as reach
use Rattle.nl_table.specs.inner.Passed.{Judged, Passed}
use Rattle.nl_table.proofs.Cuts.{Cut, Open, Whole, cut, line_is_piece, ends_behind_piece, pieces_behind, piece_has_end}
use Rattle.nl_table.proofs.Ends.{take_front, nothing_and}
use Rattle.nl_table.proofs.Fronts.{open_pieces, has_none, is_piece}
use Rattle.nl_table.proofs.FoundAgain.{lines_say_their_cells}
use Rattle.nl_table.proofs.Readings.{told_yes, told_not}

-- ---- the first piece

pub first_end_cut : (bytes : Bytes) (end : ℕ) → first_end bytes ≡ Some end
    → (end ≤ length bytes) × (first_end (take end bytes) ≡ Some (length (take end bytes)))
first_end_cut bytes end e = cases (cut bytes)
  where
    cases : Cut bytes → (end ≤ length bytes) × (first_end (take end bytes) ≡ Some (length (take end bytes)))
    cases (Open none) = absurd (cc (sym e ∙ ap (λ l. slice_get l 0) none))
    cases (Whole piece rest same some is) =
        let there : first_end bytes ≡ Some (length piece) = ap first_end same ∙ ap (λ l. slice_get l 0) (ends_behind_piece piece rest is) in
        let equal : end ≡ length piece = cc (sym e ∙ there) in
        let front : take end bytes ≡ piece = ap (λ n. take n bytes) equal ∙ ap (take (length piece)) same ∙ take_front piece rest in
        let size = ap length same ∙ length-append piece rest in
        (omega (arith, size, equal), subst (λ x. first_end x ≡ Some (length x)) (sym front) (piece_has_end piece is))

pub pieces_of_first : (piece behind : Bytes) → first_end piece ≡ Some (length piece) → pieces (piece ++ behind) ≡ piece ∷ pieces behind
pieces_of_first piece behind e = pieces_behind piece behind (is_piece piece e)

pub pieces_of_none : (bytes : Bytes) → first_end bytes ≡ None → pieces bytes ≡ []
pieces_of_none bytes e = (open_pieces bytes (has_none (ends bytes) e)).0

-- ---- fields

pub field_slice : (fields : Texts) (place : ℕ) → field_at fields place ≡ slice_get fields place
unfolding field_at
field_slice [] place = refl
field_slice (field ∷ fields) zero = refl
field_slice (field ∷ fields) (suc place) = field_slice fields place

-- ---- rows

pub lines_append : (rows more : List Texts) → lines_text (rows ++ more) ≡ lines_text rows ++ lines_text more
lines_append [] more = refl
lines_append (cells ∷ rows) more = ap (λ l. line_text cells ++ l) (lines_append rows more) ∙ sym (append_assoc (line_text cells) (lines_text rows) (lines_text more))

pub pieces_of_lines : (rows : List Texts) (left : Bytes) → AreFull rows → pieces (lines_text rows ++ left) ≡ map line_text rows ++ pieces left
pieces_of_lines [] left full = refl
pieces_of_lines (cells ∷ rows) left full =
    ap pieces (append_assoc (line_text cells) (lines_text rows) left)
    ∙ pieces_behind (line_text cells) (lines_text rows ++ left) (line_is_piece cells full.0)
    ∙ ap (λ l. line_text cells ∷ l) (pieces_of_lines rows left full.1)

pub full_append : (rows : List Texts) (cells : Texts) → AreFull rows → 0 < length cells → AreFull (rows ++ cells ∷ [])
full_append [] cells full some = (some, tt)
full_append (first ∷ rows) cells full some = (full.0, full_append rows cells full.1 some)

pub numbered_some : (columns : ℕ) (number : Bytes) (cells : Texts) → IsNumbered columns number cells → 0 < length cells
numbered_some columns number cells is = slice_get_within cells 0 number is.1

-- ---- runs that rows end

abbrev pub one_if : Bool → ℕ
one_if b = cond b 1 0

pub ended_first : (cells : Texts) (rows : List Texts) → ended_in (cells ∷ rows) ≡ one_if (has_end cells) + ended_in rows
ended_first cells rows = by (has_end cells)
  where
    by : (b : Bool) → length (cond b (cells ∷ filter has_end rows) (filter has_end rows)) ≡ one_if b + ended_in rows
    by true = omega arith
    by false = omega arith

ended_one_more : (rows : List Texts) (cells : Texts) → ended_in (rows ++ cells ∷ []) ≡ ended_in rows + one_if (has_end cells)
ended_one_more [] cells = omega (arith, ended_first cells [])
ended_one_more (first ∷ rows) cells = omega (arith, ended_first first (rows ++ cells ∷ []), ended_first first rows, ended_one_more rows cells)

-- the rows of some runs, where the first row ends one or leaves it open
first_ends : (runs : ℕ) (cells : Texts) (rows : List Texts) → has_end cells ≡ true → rows_of (suc runs) (cells ∷ rows) ≡ cells ∷ rows_of runs rows
first_ends runs cells rows e = ap (λ (b : Bool). cells ∷ rows_of (if b then runs else suc runs) rows) e

first_leaves : (runs : ℕ) (cells : Texts) (rows : List Texts) → has_end cells ≡ false → rows_of (suc runs) (cells ∷ rows) ≡ cells ∷ rows_of (suc runs) rows
first_leaves runs cells rows e = ap (λ (b : Bool). cells ∷ rows_of (if b then runs else suc runs) rows) e

rows_stay : (runs : ℕ) (rows more : List Texts) → runs ≤ ended_in rows → rows_of runs (rows ++ more) ≡ rows_of runs rows
rows_stay zero rows more fits = refl
rows_stay (suc runs) [] more fits = absurd (omega (arith, fits))
rows_stay (suc runs) (cells ∷ rows) more fits = by (has_end cells) refl (λ f. rows_stay runs rows more f) (λ f. rows_stay (suc runs) rows more f)
  where
    by : (b : Bool) → has_end cells ≡ b → (runs ≤ ended_in rows → rows_of runs (rows ++ more) ≡ rows_of runs rows) → (suc runs ≤ ended_in rows → rows_of (suc runs) (rows ++ more) ≡ rows_of (suc runs) rows)
        → rows_of (suc runs) ((cells ∷ rows) ++ more) ≡ rows_of (suc runs) (cells ∷ rows)
    by true e less same =
        first_ends runs cells (rows ++ more) e ∙ ap (λ l. cells ∷ l) (less (omega (arith, fits, ended_first cells rows, ap one_if e))) ∙ sym (first_ends runs cells rows e)
    by false e less same =
        first_leaves runs cells (rows ++ more) e ∙ ap (λ l. cells ∷ l) (same (omega (arith, fits, ended_first cells rows, ap one_if e))) ∙ sym (first_leaves runs cells rows e)

none_left : (n : ℕ) → rows_of n [] ≡ []
none_left zero = refl
none_left (suc n) = refl

rows_all : (rows : List Texts) (cells : Texts) → has_end cells ≡ true → rows_of (suc (ended_in rows)) (rows ++ cells ∷ []) ≡ rows ++ cells ∷ []
rows_all [] cells e = ap (λ l. cells ∷ l) (none_left (if has_end cells then 0 else 1))
rows_all (first ∷ rows) cells e = by (has_end first) refl (rows_all rows cells e)
  where
    by : (b : Bool) → has_end first ≡ b → rows_of (suc (ended_in rows)) (rows ++ cells ∷ []) ≡ rows ++ cells ∷ [] → rows_of (suc (ended_in (first ∷ rows))) ((first ∷ rows) ++ cells ∷ []) ≡ (first ∷ rows) ++ cells ∷ []
    by true q rest =
        let count : ended_in (first ∷ rows) ≡ suc (ended_in rows) = omega (arith, ended_first first rows, ap one_if q) in
        ap (λ n. rows_of (suc n) ((first ∷ rows) ++ cells ∷ [])) count
        ∙ first_ends (suc (ended_in rows)) first (rows ++ cells ∷ []) q
        ∙ ap (λ l. first ∷ l) rest
    by false q rest =
        let count : ended_in (first ∷ rows) ≡ ended_in rows = omega (arith, ended_first first rows, ap one_if q) in
        ap (λ n. rows_of (suc n) ((first ∷ rows) ++ cells ∷ [])) count
        ∙ first_leaves (ended_in rows) first (rows ++ cells ∷ []) q
        ∙ ap (λ l. first ∷ l) rest

-- ---- rows that are due

abbrev At : List Texts → Texts → ℕ → Texts → Type 0
At rows cells place found =
    ((slice_get rows place ≡ Some found) × (take place (rows ++ cells ∷ []) ≡ take place rows)) ⊎ ((found ≡ cells) × (take place (rows ++ cells ∷ []) ≡ rows))

at_place : (rows : List Texts) (cells : Texts) (place : ℕ) (found : Texts) → slice_get (rows ++ cells ∷ []) place ≡ Some found → At rows cells place found
at_place [] cells zero found e = inr (cc (sym e), refl)
at_place [] cells (suc place) found e = absurd (cc e)
at_place (first ∷ rows) cells zero found e = inl (e, refl)
at_place (first ∷ rows) cells (suc place) found e = by (at_place rows cells place found e)
  where
    by : At rows cells place found → At (first ∷ rows) cells (suc place) found
    by (inl it) = inl (it.0, ap (λ l. first ∷ l) it.1)
    by (inr it) = inr (it.0, ap (λ l. first ∷ l) it.1)

pub due_one_more : (columns runs : ℕ) (rows : List Texts) (cells : Texts) → AreDue columns runs rows → IsDue columns runs rows cells → AreDue columns runs (rows ++ cells ∷ [])
due_one_more columns runs rows cells due is place found e = by (at_place rows cells place found e)
  where
    by : At rows cells place found → IsDue columns runs (take place (rows ++ cells ∷ [])) found
    by (inl it) = subst (λ l. IsDue columns runs l found) (sym it.1) (due place found it.0)
    by (inr it) = subst (λ l. IsDue columns runs l found) (sym it.1) (subst (λ c. IsDue columns runs rows c) (sym it.0) is)

in_front : (rows more : List Texts) (place : ℕ) (found : Texts) → slice_get rows place ≡ Some found
    → (slice_get (rows ++ more) place ≡ Some found) × (take place (rows ++ more) ≡ take place rows)
in_front [] more place found e = absurd (cc e)
in_front (first ∷ rows) more zero found e = (e, refl)
in_front (first ∷ rows) more (suc place) found e = let r = in_front rows more place found e in (r.0, ap (λ l. first ∷ l) r.1)

pub due_front : (columns runs : ℕ) (rows more : List Texts) → AreDue columns runs (rows ++ more) → AreDue columns runs rows
due_front columns runs rows more due place found e =
    let it = in_front rows more place found e in
    subst (λ l. IsDue columns runs l found) it.1 (due place found it.0)

-- ---- one piece more

pub begun : (columns runs : ℕ) (bytes : Bytes) → Passed columns runs bytes bytes 0 0 0
begun columns runs bytes = ([], (refl, (λ place cells e. absurd (cc e)), refl, refl, refl), tt)

pub is_due : (columns runs ended : ℕ) (rows : List Texts) (number : Bytes) (cells : Texts) → ended ≡ ended_in rows → ended < runs → number ≡ decimal (ended + 1)
    → IsNumbered columns number cells → IsDue columns runs rows cells
is_due columns runs ended rows number cells count fits text is =
    ((is.0, is.1 ∙ ap (λ n. Some n) (text ∙ ap (λ n. decimal (n + 1)) count)), subst (λ n. n < runs) count fits)

same_left : (rows : List Texts) (cells : Texts) (piece further bytes left : Bytes) → bytes ≡ lines_text rows ++ left → left ≡ piece ++ further → piece ≡ line_text cells
    → bytes ≡ lines_text (rows ++ cells ∷ []) ++ further
same_left rows cells piece further bytes left all parts line =
    all ∙ ap (λ l. lines_text rows ++ l) (parts ∙ ap (λ l. l ++ further) line)
    ∙ sym (append_assoc (lines_text rows) (line_text cells) further)
    ∙ ap (λ l. l ++ further) (ap (λ l. lines_text rows ++ l) (sym (append-nil (line_text cells))) ∙ sym (lines_append rows (cells ∷ [])))

-- what is passed with a row that is due, which leaves its run open
pub open_passed : (columns runs ended begin behind : ℕ) (bytes left piece further number : Bytes) (cells : Texts) → Passed columns runs bytes left ended begin behind
    → ended < runs → number ≡ decimal (ended + 1) → left ≡ piece ++ further → IsLineOf cells piece → IsNumbered columns number cells → has_end cells ≡ false
    → Passed columns runs bytes further ended begin behind
open_passed columns runs ended begin behind bytes left piece further number cells (rows, passed, full) fits text parts line is stays =
    let (all, due, count, begins, ends) = passed in
    let due_here = is_due columns runs ended rows number cells count fits text is in
    let same_count : ended ≡ ended_in (rows ++ cells ∷ []) = omega (arith, count, ended_one_more rows cells, ap one_if stays) in (
      rows ++ cells ∷ [],
      (
        same_left rows cells piece further bytes left all parts line.1,
        due_one_more columns runs rows cells due due_here,
        same_count,
        begins ∙ ap (λ l. length (lines_text l)) (sym (rows_stay (ended - 1) rows (cells ∷ []) (omega (arith, count)))),
        ends ∙ ap (λ l. length (lines_text l)) (sym (rows_stay ended rows (cells ∷ []) (omega (arith, count)))),
      ),
      full_append rows cells full line.0,
    )

-- and with one that ends it
pub end_passed : (columns runs ended begin behind : ℕ) (bytes left piece further number : Bytes) (cells : Texts) → Passed columns runs bytes left ended begin behind
    → ended < runs → number ≡ decimal (ended + 1) → left ≡ piece ++ further → IsLineOf cells piece → IsNumbered columns number cells → has_end cells ≡ true
    → Passed columns runs bytes further (ended + 1) behind (length bytes - length further)
end_passed columns runs ended begin behind bytes left piece further number cells (rows, passed, full) fits text parts line is ends_here =
    let (all, due, count, begins, ends) = passed in
    let due_here = is_due columns runs ended rows number cells count fits text is in
    let now_all = same_left rows cells piece further bytes left all parts line.1 in
    let size = ap length now_all ∙ length-append (lines_text (rows ++ cells ∷ [])) further in
    let one_more : ended + 1 ≡ suc (ended_in rows) = omega (arith, count) in
    let through : rows_of (ended + 1) (rows ++ cells ∷ []) ≡ rows ++ cells ∷ [] = ap (λ n. rows_of n (rows ++ cells ∷ [])) one_more ∙ rows_all rows cells ends_here in
    let as_before : ended ≡ ended + 1 - 1 = omega arith in
    let grown : length bytes - length further ≡ length (lines_text (rows ++ cells ∷ [])) = omega (arith, size) in (
      rows ++ cells ∷ [],
      (
        now_all,
        due_one_more columns runs rows cells due due_here,
        omega (arith, count, ended_one_more rows cells, ap one_if ends_here),
        ends ∙ ap (λ l. length (lines_text l)) (sym (rows_stay ended rows (cells ∷ []) (omega (arith, count)))) ∙ ap (λ n. length (lines_text (rows_of n (rows ++ cells ∷ [])))) as_before,
        grown ∙ ap (λ l. length (lines_text l)) (sym through),
      ),
      full_append rows cells full line.0,
    )

-- ---- the answers

pub reached_all : (columns runs ended begin behind : ℕ) (bytes left : Bytes) → Passed columns runs bytes left ended begin behind → first_end left ≡ None
    → Reaches columns runs bytes (reach.Rows ended begin)
reached_all columns runs ended begin behind bytes left (rows, passed, full) none =
    let (all, due, count, begins, ends) = passed in
    (rows, (ap pieces all ∙ pieces_of_lines rows left full ∙ ap (λ l. map line_text rows ++ l) (pieces_of_none left none) ∙ append-nil (map line_text rows), due, count, begins))

misfit_there : (columns runs : ℕ) (bytes left piece further : Bytes) (rows : List Texts) → bytes ≡ lines_text rows ++ left → AreDue columns runs rows → AreFull rows
    → left ≡ piece ++ further → first_end piece ≡ Some (length piece) → ((cells : Texts) → IsLineOf cells piece → IsDue columns runs rows cells → ⊥)
    → Reaches columns runs bytes (reach.Misfit (length bytes - length left))
misfit_there columns runs bytes left piece further rows all due full parts whole none =
    let size = ap length all ∙ length-append (lines_text rows) left in (
      rows,
      piece,
      pieces further,
      (
        ap pieces all ∙ pieces_of_lines rows left full ∙ ap (λ l. map line_text rows ++ l) (ap pieces parts ∙ pieces_of_first piece further whole),
        due,
        none,
        omega (arith, size),
      ),
    )

-- the runs are at their end
pub past_last : (columns runs ended begin behind : ℕ) (bytes left piece further : Bytes) → Passed columns runs bytes left ended begin behind → left ≡ piece ++ further
    → first_end piece ≡ Some (length piece) → (ended < runs → ⊥) → Reaches columns runs bytes (reach.Misfit (length bytes - length left))
past_last columns runs ended begin behind bytes left piece further (rows, passed, full) parts whole over =
    let (all, due, count, begins, ends) = passed in
    misfit_there columns runs bytes left piece further rows all due full parts whole (λ cells line is. over (subst (λ n. n < runs) (sym count) is.1))

-- the piece isn't the row that is due
pub no_row : (columns runs ended begin behind : ℕ) (bytes left piece further number : Bytes) → Passed columns runs bytes left ended begin behind → left ≡ piece ++ further
    → first_end piece ≡ Some (length piece) → number ≡ decimal (ended + 1) → ((cells : Texts) → IsLineOf cells piece → IsNumbered columns number cells → ⊥)
    → Reaches columns runs bytes (reach.Misfit (length bytes - length left))
no_row columns runs ended begin behind bytes left piece further number (rows, passed, full) parts whole text none =
    let (all, due, count, begins, ends) = passed in
    let same : decimal (ended_in rows + 1) ≡ number = ap (λ n. decimal (n + 1)) (sym count) ∙ sym text in
    misfit_there columns runs bytes left piece further rows all due full parts whole (λ cells line is. none cells line (is.0.0, is.0.1 ∙ ap (λ n. Some n) same))

-- a piece that is the line of cells is that of no others
pub judged_not : (fields : Texts) (piece : Bytes) (columns : ℕ) (number : Bytes) → IsLineOf fields piece → (IsNumbered columns number fields → ⊥)
    → (cells : Texts) → IsLineOf cells piece → IsNumbered columns number cells → ⊥
judged_not fields piece columns number line never cells other is =
    never (subst (λ c. IsNumbered columns number c) (lines_say_their_cells cells fields other.0 line.0 (sym other.1 ∙ line.1)) is)

-- where the first piece ends
pub found_end : (bytes : Bytes) (end : ℕ) → option_map (λ n. 0 + n) (first_end (drop 0 bytes)) ≡ Some end → first_end bytes ≡ Some end
found_end bytes end e = by (first_end bytes) e
  where
    by : (o : Option ℕ) → option_map (λ n. 0 + n) o ≡ Some end → o ≡ Some end
    by None q = absurd (cc q)
    by (Some n) q = ap (λ m. Some m) (sym (nothing_and n)) ∙ q

-- ---- the last field

pub last_there : (fields : Texts) (last : Bytes) → field_at fields (length fields - 1) ≡ Some last → not (length last == 0) ≡ has_end fields
last_there fields last e = ap (λ b. not (length b == 0)) (sym (field-get fields (length fields - 1) last e))

pub found_no_end : (bytes : Bytes) → option_map (λ n. 0 + n) (first_end (drop 0 bytes)) ≡ None → first_end bytes ≡ None
found_no_end bytes e = by (first_end bytes) e
  where
    by : (o : Option ℕ) → option_map (λ n. 0 + n) o ≡ None → o ≡ None
    by None q = refl
    by (Some n) q = absurd (cc q)

pub last_missing : (fields : Texts) → field_at fields (length fields - 1) ≡ None → false ≡ has_end fields
last_missing [] e = refl
last_missing (field ∷ fields) e = absurd (field-there (field ∷ fields) (length (field ∷ fields) - 1) (omega arith) e)

pub parted : (bytes front back : Bytes) (place : ℕ) → front ≡ take place bytes → back ≡ drop place bytes → bytes ≡ front ++ back
parted bytes front back place e q = sym (take-append-drop place bytes) ∙ sym (ap (λ l. l ++ back) e ∙ ap (λ l. take place bytes ++ l) q)

-- the number of a row
pub numbered_told : (fields : Texts) (first number : Bytes) (columns : ℕ) (same : Bool) → length fields ≡ columns → field_at fields 0 ≡ Some first → same ≡ bytes_eq first number
    → (IsTrue same → IsNumbered columns number fields) × (IsNumbered columns number fields → IsTrue same)
numbered_told fields first number columns same count there e =
    let at : slice_get fields 0 ≡ Some first = sym (field_slice fields 0) ∙ there in (
      (λ told. (count, at ∙ ap (λ f. Some f) ((bytes_eq-Decides first number).0 (sym e ∙ told)))),
      (λ is. let equal : first ≡ number = cc (sym at ∙ is.1) in e ∙ (bytes_eq-Decides first number).1 equal),
    )

pub no_first : (fields : Texts) (number : Bytes) (columns : ℕ) → field_at fields 0 ≡ None
    → (IsTrue false → IsNumbered columns number fields) × (IsNumbered columns number fields → IsTrue false)
no_first fields number columns none = ((λ told. absurd (cc told)), (λ is. absurd (cc (sym none ∙ field_slice fields 0 ∙ is.1))))

-- what a record says of a piece
abbrev LineTold : Bool → SliceReader → Bytes → Texts → Bytes → Type 0
LineTold is_line reader behind fields piece = MatchBool is_line (IsLineOf fields piece × StandsBefore reader behind) (IsNoLine piece)

pub no_line_told : (is_line : Bool) (reader : SliceReader) (behind : Bytes) (fields : Texts) (piece : Bytes) (columns : ℕ) (number : Bytes) → LineTold is_line reader behind fields piece → is_line ≡ false
    → Judged reader behind fields piece columns number false
no_line_told is_line reader behind fields piece columns number told e cells line is = told_not is_line _ _ told e cells line.0 line.1

pub row_told : (is_line is_row : Bool) (reader : SliceReader) (behind : Bytes) (fields : Texts) (piece : Bytes) (columns : ℕ) (number : Bytes) → LineTold is_line reader behind fields piece → is_line ≡ true
    → (IsTrue is_row → IsNumbered columns number fields) → (IsNumbered columns number fields → IsTrue is_row) → Judged reader behind fields piece columns number is_row
row_told is_line true reader behind fields piece columns number told e just only =
    let line = told_yes is_line _ _ told e in
    (line.0, just refl, line.1)
row_told is_line false reader behind fields piece columns number told e just only =
    let line = told_yes is_line _ _ told e in
    judged_not fields piece columns number line.0 (λ is. cc (only is))

pub judged_yes : (is_row : Bool) (reader : SliceReader) (behind : Bytes) (fields : Texts) (piece : Bytes) (columns : ℕ) (number : Bytes) → Judged reader behind fields piece columns number is_row → is_row ≡ true
    → IsLineOf fields piece × IsNumbered columns number fields × StandsBefore reader behind
judged_yes is_row reader behind fields piece columns number told e = told_yes is_row _ _ told e

pub judged_no : (is_row : Bool) (reader : SliceReader) (behind : Bytes) (fields : Texts) (piece : Bytes) (columns : ℕ) (number : Bytes) → Judged reader behind fields piece columns number is_row → is_row ≡ false
    → (cells : Texts) → IsLineOf cells piece → IsNumbered columns number cells → ⊥
judged_no is_row reader behind fields piece columns number told e = told_not is_row _ _ told e
