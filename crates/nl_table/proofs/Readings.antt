-- What `csv` reads of a line, and what a piece that was read says.
use Rattle.std.proofs.Common.{◌≡◌, ℕ, ◌+◌, ◌<◌, ◌==◌, Bool, true, false, [], ◌∷◌, ◌++◌, length, take, drop, get_or, ap, sym, refl, subst, ◌∙◌, arith, append_assoc, append-nil, inl, inr, Some}
use Rattle.std.specs.Prelude.{Option, None, slice_get, option_to_list, MatchBool}
use Rattle.std.proofs.lemmas.Bool.{cases_Bool, eqb-true, eq-eqb}
use Rattle.std.proofs.lemmas.List.{drop_more}
use Rattle.std.proofs.Common.{zero, suc}
use Rattle.csv.specs.Machine.{next_record}
use Rattle.csv.specs.Records.{field_at}
use Rattle.csv.specs.Reading.{default_config, source_of, pending_of, strip_bom, took_first, ReadRecord, ReadsNext, NextIs}
use Rattle.csv.specs.Writing.{default_writer, escaped}
use Rattle.csv.specs.declared.parser.Config.{Config}
use Rattle.csv.specs.declared.parser.State.{State}
use Rattle.csv.specs.declared.parser.State.TheVariants as st
use Rattle.csv.proofs.RoundTrip.{quoted-run}
use Rattle.nl_fixed.specs.Nouns.{Bytes, Texts}
use Rattle.nl_table.specs.Lines.{quote, comma, line_feed, doubled, cell_text, further_cells, line_text}
use Rattle.nl_table.specs.Reading.{IsLineOf, IsNoLine, SliceReader, StandsBefore, behind, behind_line}

-- what is left behind a front, and behind more
pub behind_stops : (front next bytes : Bytes) → behind front bytes ≡ None → behind (front ++ next) bytes ≡ None
behind_stops [] next bytes e = absurd (cc e)
behind_stops (byte ∷ front) next [] e = refl
behind_stops (byte ∷ front) next (first ∷ bytes) e = elim (cases_Bool (first == byte)) [
  | inl q ↦ rw q (behind_stops front next bytes (rw q at e))
  | inr q ↦ rw q refl
]

pub behind_goes : (front next bytes left : Bytes) → behind front bytes ≡ Some left → behind (front ++ next) bytes ≡ behind next left
behind_goes [] next bytes left e = ap (behind next) (cc e)
behind_goes (byte ∷ front) next [] left e = absurd (cc e)
behind_goes (byte ∷ front) next (first ∷ bytes) left e = elim (cases_Bool (first == byte)) [
  | inl q ↦ rw q (behind_goes front next bytes left (rw q at e))
  | inr q ↦ absurd (cc (rw q at e))
]

pub behind_is : (front bytes left : Bytes) → behind front bytes ≡ Some left → bytes ≡ front ++ left
behind_is [] bytes left e = cc e
behind_is (byte ∷ front) [] left e = absurd (cc e)
behind_is (byte ∷ front) (first ∷ bytes) left e = elim (cases_Bool (first == byte)) [
  | inl q ↦ ap (λ b. b ∷ bytes) (eqb-true first byte q) ∙ ap (λ l. byte ∷ l) (behind_is front bytes left (rw q at e))
  | inr q ↦ absurd (cc (rw q at e))
]

pub behind_of : (front left : Bytes) → behind front (front ++ left) ≡ Some left
behind_of [] left = refl
behind_of (byte ∷ front) left = rw (eq-eqb byte byte refl) (behind_of front left)

-- the bytes between quotes
escaped-doubled : (cell : Bytes) → escaped default_writer cell ≡ doubled cell
unfolding escaped
escaped-doubled [] = refl
escaped-doubled (byte ∷ rest) = rw (escaped-doubled rest)

cell_read : (fields : Texts) (cell tail : Bytes)
    → next_record default_config st.InQuoted fields [] (doubled cell ++ quote ∷ tail) ≡ next_record default_config st.AfterQuote fields cell tail
cell_read fields cell tail =
    ap (λ text. next_record default_config st.InQuoted fields [] (text ++ quote ∷ tail)) (sym (escaped-doubled cell))
    ∙ quoted-run fields [] cell tail

further_read : (cells : Texts) (cell : Bytes) (fields : Texts) (rest : Bytes)
    → next_record default_config st.AfterQuote fields cell (further_cells cells ++ line_feed ∷ rest) ≡ Some (fields ++ cell ∷ cells, st.StartRecord, rest)
unfolding next_record
further_read [] cell fields rest = refl
further_read (next ∷ cells) cell fields rest =
    ap (next_record default_config st.InQuoted (fields ++ cell ∷ []) [])
    (append_assoc (doubled next ++ quote ∷ []) (further_cells cells) (line_feed ∷ rest)
    ∙ append_assoc (doubled next) (quote ∷ []) (further_cells cells ++ line_feed ∷ rest))
    ∙ cell_read (fields ++ cell ∷ []) next (further_cells cells ++ line_feed ∷ rest)
    ∙ further_read cells next (fields ++ cell ∷ []) rest
    ∙ ap (λ l. Some (l, st.StartRecord, rest)) (append_assoc fields (cell ∷ []) (next ∷ cells))

pub line_read : (cells : Texts) (rest : Bytes) → 0 < length cells
    → next_record default_config st.StartRecord [] [] (line_text cells ++ rest) ≡ Some (cells, st.StartRecord, rest)
unfolding next_record
line_read [] rest some = absurd (omega arith)
line_read (cell ∷ cells) rest some =
    ap (next_record default_config st.StartRecord [] [])
    (append_assoc (cell_text cell ++ further_cells cells) (line_feed ∷ []) rest ∙ append_assoc (cell_text cell) (further_cells cells) (line_feed ∷ rest))
    ∙ ap (next_record default_config st.InQuoted [] []) (append_assoc (doubled cell) (quote ∷ []) (further_cells cells ++ line_feed ∷ rest))
    ∙ cell_read [] cell (further_cells cells ++ line_feed ∷ rest)
    ∙ further_read cells cell [] rest

-- a read of bytes of which the next record is known
next_is : (config : Config) (state : State) (source pending : Option Bytes) (found : Bool) (fields : Texts) (after : State) (bytes : Bytes) (cells : Texts) (rest : Bytes)
    → config ≡ default_config → state ≡ st.StartRecord → source ≡ Some bytes
    → next_record default_config st.StartRecord [] [] bytes ≡ Some (cells, st.StartRecord, rest)
    → ReadsNext config state source pending found fields after
    → (found ≡ true) × (fields ≡ cells) × (after ≡ st.StartRecord) × (pending ≡ Some rest)
next_is config state source None found fields after bytes cells rest c s x n reads =
    absurd (subst (λ source. ReadsNext config state source None found fields after) x reads)
next_is config state source (Some left) found fields after bytes cells rest c s x n reads =
    let known = subst (λ source. ReadsNext config state source (Some left) found fields after) x reads in
    let ready = subst (λ state. NextIs (next_record default_config state [] [] bytes) found fields after left) s
    (subst (λ config. NextIs (next_record config state [] [] bytes) found fields after left) c known) in
    let r = subst (λ next. NextIs next found fields after left) n ready in
    (r.0, r.1, r.2, ap (λ l. Some l) r.3)

begins_quoted : (cells : Texts) (rest : Bytes) → 0 < length cells → slice_get (line_text cells ++ rest) 0 ≡ Some quote
begins_quoted [] rest some = absurd (omega arith)
begins_quoted (cell ∷ cells) rest some = refl

-- what a reader has left once it has read a record
left_to_read : (reader : SliceReader) → reader.bom_checked ≡ true → source_of (λ slice. Some slice.now) reader ≡ pending_of (Some reader.rdr.now) reader
left_to_read reader checked = rw checked refl

-- a reader before a line reads its cells, and then stands behind it
pub line_is_read : (old new : SliceReader) (found : Bool) (fields : Texts) (piece rest : Bytes) (cells : Texts) → StandsBefore old (piece ++ rest)
    → ReadRecord (λ slice. Some slice.now) old new found fields → took_first new ≡ true → 0 < length cells → piece ≡ line_text cells
    → (found ≡ true) × (fields ≡ cells) × StandsBefore new rest
line_is_read old new found fields piece rest cells stands read first some is =
    let same : piece ++ rest ≡ line_text cells ++ rest = ap (λ l. l ++ rest) is in
    let source = stands.4 (ap (λ l. slice_get l 0) same ∙ begins_quoted cells rest some) in
    let next = ap (next_record default_config st.StartRecord [] []) same ∙ line_read cells rest some in
    let r = next_is _ _ _ _ _ _ _ _ _ _ stands.0 stands.2 source next read.0 in (
      r.0,
      r.1,
      (
        read.2 ∙ stands.0,
        read.3 ∙ stands.1,
        r.2,
        inl first,
        λ _. left_to_read new read.1 ∙ r.3,
      ),
    )

-- one byte of a cell
doubled_more : (byte : ℕ) (rest : Bytes) → doubled (byte ∷ rest) ≡ doubled (byte ∷ []) ++ doubled rest
doubled_more byte rest = elim (cases_Bool (byte == quote)) [
  | inl q ↦ rw q refl
  | inr q ↦ rw q refl
]

pub cell_goes : (cell : Bytes) (place : ℕ) (before left : Bytes) → place < length cell → behind (doubled (get_or cell place 0 ∷ [])) before ≡ Some left
    → behind (doubled (drop place cell) ++ quote ∷ []) before ≡ behind (doubled (drop (place + 1) cell) ++ quote ∷ []) left
cell_goes cell place before left here e =
    ap (λ l. behind (doubled l ++ quote ∷ []) before) (drop_more cell place 0 here)
    ∙ ap (λ l. behind (l ++ quote ∷ []) before) (doubled_more (get_or cell place 0) (drop (place + 1) cell))
    ∙ ap (λ l. behind l before) (append_assoc (doubled (get_or cell place 0 ∷ [])) (doubled (drop (place + 1) cell)) (quote ∷ []))
    ∙ behind_goes (doubled (get_or cell place 0 ∷ [])) (doubled (drop (place + 1) cell) ++ quote ∷ []) before left e

pub cell_stops : (cell : Bytes) (place : ℕ) (before : Bytes) → place < length cell → behind (doubled (get_or cell place 0 ∷ [])) before ≡ None
    → behind (doubled (drop place cell) ++ quote ∷ []) before ≡ None
cell_stops cell place before here e =
    ap (λ l. behind (doubled l ++ quote ∷ []) before) (drop_more cell place 0 here)
    ∙ ap (λ l. behind (l ++ quote ∷ []) before) (doubled_more (get_or cell place 0) (drop (place + 1) cell))
    ∙ ap (λ l. behind l before) (append_assoc (doubled (get_or cell place 0 ∷ [])) (doubled (drop (place + 1) cell)) (quote ∷ []))
    ∙ behind_stops (doubled (get_or cell place 0 ∷ [])) (doubled (drop (place + 1) cell) ++ quote ∷ []) before e

-- one field of a record
pub field_drop : (fields : Texts) (place : ℕ) (field : Bytes) → field_at fields place ≡ Some field → drop place fields ≡ field ∷ drop (place + 1) fields
unfolding field_at
field_drop [] place field e = absurd (cc e)
field_drop (first ∷ fields) zero field e = ap (λ f. f ∷ fields) (cc e)
field_drop (first ∷ fields) (suc place) field e =
    let next : suc (place + 1) ≡ suc place + 1 = omega arith in
    field_drop fields place field e ∙ ap (λ n. field ∷ drop n (first ∷ fields)) next

take_none : (n : ℕ) (nothing : Texts) → nothing ≡ [] → take n nothing ≡ []
take_none zero nothing e = refl
take_none (suc n) [] e = refl
take_none (suc n) (first ∷ fields) e = absurd (cc e)

pub field_take : (fields : Texts) (place : ℕ) → take (place + 1) fields ≡ take place fields ++ option_to_list (field_at fields place)
unfolding field_at
field_take [] place = take_none (place + 1) [] refl ∙ sym (ap (λ l. l ++ []) (take_none place [] refl))
field_take (first ∷ fields) zero = refl
field_take (first ∷ fields) (suc place) =
    let next : suc place + 1 ≡ suc (place + 1) = omega arith in
    ap (λ n. take n (first ∷ fields)) next ∙ ap (λ l. first ∷ l) (field_take fields place)

pub field_there : (fields : Texts) (place : ℕ) → place < length fields → field_at fields place ≡ None → ⊥
unfolding field_at
field_there [] place here e = absurd (omega (arith, here))
field_there (first ∷ fields) zero here e = absurd (cc e)
field_there (first ∷ fields) (suc place) here e = field_there fields place (omega (arith, here)) e

-- bytes that begin with a quote have no byte order mark
pub quoted_is_unmarked : (bytes : Bytes) → slice_get bytes 0 ≡ Some quote → strip_bom bytes ≡ bytes
unfolding strip_bom
quoted_is_unmarked [] e = refl
quoted_is_unmarked (a ∷ []) e = refl
quoted_is_unmarked (a ∷ b ∷ []) e = refl
quoted_is_unmarked (a ∷ b ∷ c ∷ rest) e = let is : a ≡ quote = cc e in rw is refl

-- the line of fields, of which the first stands by itself
pub no_fields : (fields : Texts) (bytes : Bytes) → field_at fields 0 ≡ None → behind_line fields bytes ≡ None
unfolding field_at
no_fields [] bytes e = refl
no_fields (first ∷ fields) bytes e = absurd (cc e)

first_apart : (first : Bytes) (fields : Texts) (bytes : Bytes)
    → behind_line (first ∷ fields) bytes ≡ behind (cell_text first ++ (further_cells fields ++ line_feed ∷ [])) bytes
first_apart first fields bytes = ap (λ l. behind l bytes) (append_assoc (cell_text first) (further_cells fields) (line_feed ∷ []))

pub first_stops : (fields : Texts) (first bytes : Bytes) → field_at fields 0 ≡ Some first → behind (cell_text first) bytes ≡ None → behind_line fields bytes ≡ None
first_stops fields first bytes e stops =
    ap (λ l. behind_line l bytes) (field_drop fields 0 first e) ∙ first_apart first (drop 1 fields) bytes
    ∙ behind_stops (cell_text first) (further_cells (drop 1 fields) ++ line_feed ∷ []) bytes stops

pub first_goes : (fields : Texts) (first bytes left : Bytes) → field_at fields 0 ≡ Some first → behind (cell_text first) bytes ≡ Some left
    → behind_line fields bytes ≡ behind (further_cells (drop 1 fields) ++ line_feed ∷ []) left
first_goes fields first bytes left e goes =
    ap (λ l. behind_line l bytes) (field_drop fields 0 first e) ∙ first_apart first (drop 1 fields) bytes
    ∙ behind_goes (cell_text first) (further_cells (drop 1 fields) ++ line_feed ∷ []) bytes left goes

-- a further field, with its comma
pub comma_stops : (fields : Texts) (place : ℕ) (field left : Bytes) → field_at fields place ≡ Some field → behind (comma ∷ []) left ≡ None
    → behind (further_cells (drop place fields) ++ line_feed ∷ []) left ≡ None
comma_stops fields place field left e stops =
    ap (λ l. behind (further_cells l ++ line_feed ∷ []) left) (field_drop fields place field e)
    ∙ behind_stops (comma ∷ []) ((cell_text field ++ further_cells (drop (place + 1) fields)) ++ line_feed ∷ []) left stops

comma_goes : (fields : Texts) (place : ℕ) (field left next : Bytes) → field_at fields place ≡ Some field → behind (comma ∷ []) left ≡ Some next
    → behind (further_cells (drop place fields) ++ line_feed ∷ []) left ≡ behind (cell_text field ++ (further_cells (drop (place + 1) fields) ++ line_feed ∷ [])) next
comma_goes fields place field left next e goes =
    ap (λ l. behind (further_cells l ++ line_feed ∷ []) left) (field_drop fields place field e)
    ∙ behind_goes (comma ∷ []) ((cell_text field ++ further_cells (drop (place + 1) fields)) ++ line_feed ∷ []) left next goes
    ∙ ap (λ l. behind l next) (append_assoc (cell_text field) (further_cells (drop (place + 1) fields)) (line_feed ∷ []))

pub field_stops : (fields : Texts) (place : ℕ) (field left next : Bytes) → field_at fields place ≡ Some field → behind (comma ∷ []) left ≡ Some next
    → behind (cell_text field) next ≡ None → behind (further_cells (drop place fields) ++ line_feed ∷ []) left ≡ None
field_stops fields place field left next e goes stops =
    comma_goes fields place field left next e goes
    ∙ behind_stops (cell_text field) (further_cells (drop (place + 1) fields) ++ line_feed ∷ []) next stops

pub field_goes : (fields : Texts) (place : ℕ) (field left next last : Bytes) → field_at fields place ≡ Some field → behind (comma ∷ []) left ≡ Some next
    → behind (cell_text field) next ≡ Some last
    → behind (further_cells (drop place fields) ++ line_feed ∷ []) left ≡ behind (further_cells (drop (place + 1) fields) ++ line_feed ∷ []) last
field_goes fields place field left next last e goes more =
    comma_goes fields place field left next e goes
    ∙ behind_goes (cell_text field) (further_cells (drop (place + 1) fields) ++ line_feed ∷ []) next last more

-- what is left behind a line says whether a piece is just that line
has_none : (bytes : Bytes) → (length bytes == 0) ≡ true → bytes ≡ []
has_none bytes e = no_bytes bytes (eqb-true (length bytes) 0 e)
  where
    no_bytes : (bytes : Bytes) → length bytes ≡ 0 → bytes ≡ []
    no_bytes [] e = refl
    no_bytes (byte ∷ bytes) e = absurd (omega (arith, e))

pub ended_line : (fields : Texts) (piece left : Bytes) → behind_line fields piece ≡ Some left → (length left == 0) ≡ true → IsLineOf fields piece
ended_line [] piece left e none = absurd (cc e)
ended_line (first ∷ fields) piece left e none =
    (omega arith, behind_is (line_text (first ∷ fields)) piece left e ∙ ap (λ l. line_text (first ∷ fields) ++ l) (has_none left none) ∙ append-nil (line_text (first ∷ fields)))

line_leaves : (fields : Texts) (piece : Bytes) → IsLineOf fields piece → behind_line fields piece ≡ Some []
line_leaves [] piece is = absurd (omega (arith, is.0))
line_leaves (first ∷ fields) piece is =
    ap (behind (line_text (first ∷ fields))) (is.1 ∙ sym (append-nil (line_text (first ∷ fields))))
    ∙ behind_of (line_text (first ∷ fields)) []

pub line_ends : (fields : Texts) (piece left : Bytes) → behind_line fields piece ≡ Some left → IsLineOf fields piece → (length left == 0) ≡ true
line_ends fields piece left e is =
    let none : left ≡ [] = cc (sym e ∙ line_leaves fields piece is) in
    ap (λ l. length l == 0) none

pub no_line : (fields : Texts) (piece : Bytes) → behind_line fields piece ≡ None → IsLineOf fields piece → ⊥
no_line fields piece e is = cc (sym e ∙ line_leaves fields piece is)

-- what a read says of a piece
pub line_told : (old new : SliceReader) (found is_line : Bool) (fields : Texts) (piece rest : Bytes) → StandsBefore old (piece ++ rest)
    → ReadRecord (λ slice. Some slice.now) old new found fields → took_first new ≡ true
    → (is_line ≡ true → IsLineOf fields piece) → (IsLineOf fields piece → is_line ≡ true)
    → MatchBool is_line (IsLineOf fields piece × StandsBefore new rest) (IsNoLine piece)
line_told old new found true fields piece rest stands read first just only =
    let is = just refl in
    let r = line_is_read old new found fields piece rest fields stands read first is.0 is.1 in
    (is, r.2)
line_told old new found false fields piece rest stands read first just only = λ cells some is.
    let r = line_is_read old new found fields piece rest cells stands read first some is in
    let same : IsLineOf fields piece = subst (λ cells. IsLineOf cells piece) (sym r.1) (some, is) in
    cc (only same)

pub nothing_told : (old new : SliceReader) (found : Bool) (fields : Texts) (piece rest : Bytes) → StandsBefore old (piece ++ rest)
    → ReadRecord (λ slice. Some slice.now) old new found fields → took_first new ≡ true → found ≡ false → IsNoLine piece
nothing_told old new found fields piece rest stands read first none cells some is =
    cc (sym none ∙ (line_is_read old new found fields piece rest cells stands read first some is).0)

pub told_yes : (answer : Bool) (A B : Type 0) → MatchBool answer A B → answer ≡ true → A
told_yes true A B told e = told
told_yes false A B told e = absurd (cc e)

pub told_not : (answer : Bool) (A B : Type 0) → MatchBool answer A B → answer ≡ false → B
told_not true A B told e = absurd (cc e)
told_not false A B told e = told

-- a piece that is all that a reader has left
pub stands_alone : (reader : SliceReader) (piece : Bytes) → StandsBefore reader piece → StandsBefore reader (piece ++ [])
stands_alone reader piece stands = subst (StandsBefore reader) (sym (append-nil piece)) stands
