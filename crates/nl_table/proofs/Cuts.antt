-- How bytes are cut: the end of a line, and what a cut leaves.
use Rattle.std.proofs.Common.{◌≡◌, ℕ, ◌+◌, ◌-◌, ◌<◌, ◌≤◌, ◌==◌, ◌&&◌, Bool, true, false, not, if◌then◌else◌, List, [], ◌∷◌, ◌++◌, length, map, take, drop, get_or, ap, sym, refl, ◌∙◌, arith, length-append}
use Rattle.std.specs.Prelude.{Some, None, slice_get, option_map}
use Rattle.std.proofs.Common.{inl, inr}
use Rattle.std.proofs.lemmas.Bool.{cases_Bool}
use Rattle.std.proofs.lemmas.List.{drop-drop, drop_more}
use Rattle.std.proofs.lemmas.Grind.{common_steps}
use Rattle.nl_fixed.specs.Nouns.{Bytes, Texts}
use Rattle.nl_table.specs.Lines.{quote, line_feed, doubled, cell_text, further_cells, line_text}
use Rattle.nl_table.specs.Pieces.{ends, first_end, parts, last_end, pieces, left_over}
use Rattle.nl_table.proofs.Ends.{ends_from, after, ends_are, take_front, drop_front, nothing_and}

-- places are told from where the first byte stands
pub moved : (outside : Bool) (by at base : ℕ) (bytes : Bytes) → base ≡ by + at → ends_from outside base bytes ≡ map (λ place. by + place) (ends_from outside at bytes)
moved outside by at base [] same = refl
moved outside by at base (byte ∷ rest) same =
    let next : base + 1 ≡ by + (at + 1) = omega arith in
    elim (cases_Bool (byte == quote)) [
      | inl q ↦ rw q (moved (not outside) by (at + 1) (base + 1) rest next)
      | inr q ↦ elim (cases_Bool (outside && (byte == line_feed))) [
        | inl f ↦ rw (q, f)
            (ap (λ place. place ∷ ends_from outside (base + 1) rest) next
            ∙ ap (λ places. (by + (at + 1)) ∷ places) (moved outside by (at + 1) (base + 1) rest next))
        | inr f ↦ rw (q, f) (moved outside by (at + 1) (base + 1) rest next)
      ]
    ]

first_moved : (by : ℕ) (places : List ℕ) → option_map (λ end. by + end) (slice_get places 0) ≡ slice_get (map (λ place. by + place) places) 0
first_moved by [] = refl
first_moved by (place ∷ places) = refl

pub first_end_from : (from : ℕ) (bytes : Bytes) → option_map (λ end. from + end) (first_end bytes) ≡ slice_get (ends_from true from bytes) 0
first_end_from from bytes =
    first_moved from (ends bytes)
    ∙ ap (λ l. slice_get l 0) (ap (map (λ place. from + place)) (ends_are bytes) ∙ sym (moved true from 0 from bytes (omega arith)))

-- the places of bytes and of what follows them
joined : (outside : Bool) (at base : ℕ) (front rest : Bytes) → base ≡ at + length front
    → ends_from outside at (front ++ rest) ≡ ends_from outside at front ++ ends_from (after outside front) base rest
joined outside at base [] rest same = ap (λ n. ends_from outside n rest) (omega arith)
joined outside at base (byte ∷ front) rest same =
    let next : base ≡ at + 1 + length front = omega arith in
    elim (cases_Bool (byte == quote)) [
      | inl q ↦ rw q (joined (not outside) (at + 1) base front rest next)
      | inr q ↦ elim (cases_Bool (outside && (byte == line_feed))) [
        | inl f ↦ rw (q, f) (ap (λ places. (at + 1) ∷ places) (joined outside (at + 1) base front rest next))
        | inr f ↦ rw (q, f) (joined outside (at + 1) base front rest next)
      ]
    ]

after_joined : (outside : Bool) (front rest : Bytes) → after outside (front ++ rest) ≡ after (after outside front) rest
after_joined outside [] rest = refl
after_joined outside (byte ∷ front) rest = after_joined (if byte == quote then not outside else outside) front rest

-- bytes without an end, and where they leave what follows
abbrev Quiet : Bool → Bytes → Bool → Type 0
Quiet outside bytes behind = ((at : ℕ) → ends_from outside at bytes ≡ []) × (after outside bytes ≡ behind)

quiet_joined : (a b c : Bool) (front rest : Bytes) → Quiet a front b → Quiet b rest c → Quiet a (front ++ rest) c
quiet_joined a b c front rest f r = (places, after_joined a front rest ∙ ap (λ o. after o rest) f.1 ∙ r.1)
  where
    places : (at : ℕ) → ends_from a at (front ++ rest) ≡ []
    places at =
        joined a at (at + length front) front rest refl
        ∙ ap (λ l. l ++ ends_from (after a front) (at + length front) rest) (f.0 at)
        ∙ ap (λ o. ends_from o (at + length front) rest) f.1
        ∙ r.0 (at + length front)

-- a byte within quotes that is none, and two quotes
once_at : (byte : ℕ) (rest : Bytes) (at : ℕ) → (byte == quote) ≡ false → ends_from false at (byte ∷ rest) ≡ ends_from false (at + 1) rest
once_at byte rest at q = rw q refl

once_after : (byte : ℕ) (rest : Bytes) → (byte == quote) ≡ false → after false (byte ∷ rest) ≡ after false rest
once_after byte rest q = rw q refl

twice_at : (byte : ℕ) (rest : Bytes) (at : ℕ) → (byte == quote) ≡ true → ends_from false at (quote ∷ byte ∷ rest) ≡ ends_from false (at + 1 + 1) rest
twice_at byte rest at q = rw q refl

twice_after : (byte : ℕ) (rest : Bytes) → (byte == quote) ≡ true → after false (quote ∷ byte ∷ rest) ≡ after false rest
twice_after byte rest q = rw q refl

doubled_once : (byte : ℕ) (cell : Bytes) → (byte == quote) ≡ false → doubled (byte ∷ cell) ≡ byte ∷ doubled cell
doubled_once byte cell q = rw q refl

doubled_twice : (byte : ℕ) (cell : Bytes) → (byte == quote) ≡ true → doubled (byte ∷ cell) ≡ quote ∷ byte ∷ doubled cell
doubled_twice byte cell q = rw q refl

quiet_doubled : (cell : Bytes) → Quiet false (doubled cell) false
quiet_doubled [] = ((λ at. refl), refl)
quiet_doubled (byte ∷ cell) =
    let later = quiet_doubled cell in
    elim (cases_Bool (byte == quote)) [
      | inl q ↦ (
        (λ at. ap (ends_from false at) (doubled_twice byte cell q) ∙ twice_at byte (doubled cell) at q ∙ later.0 (at + 1 + 1)),
        ap (after false) (doubled_twice byte cell q) ∙ twice_after byte (doubled cell) q ∙ later.1,
      )
      | inr q ↦ (
        (λ at. ap (ends_from false at) (doubled_once byte cell q) ∙ once_at byte (doubled cell) at q ∙ later.0 (at + 1)),
        ap (after false) (doubled_once byte cell q) ∙ once_after byte (doubled cell) q ∙ later.1,
      )
    ]

quiet_cell : (cell : Bytes) → Quiet true (cell_text cell) true
quiet_cell cell =
    let inner = quiet_joined false false true (doubled cell) (quote ∷ []) (quiet_doubled cell) ((λ at. refl), refl) in
    ((λ at. inner.0 (at + 1)), inner.1)

quiet_further : (cells : Texts) → Quiet true (further_cells cells) true
quiet_further [] = ((λ at. refl), refl)
quiet_further (cell ∷ cells) =
    let inner = quiet_joined true true true (cell_text cell) (further_cells cells) (quiet_cell cell) (quiet_further cells) in
    ((λ at. inner.0 (at + 1)), inner.1)

-- bytes with one end, behind them
abbrev pub IsPiece : Bytes → Type 0
IsPiece bytes = ((at : ℕ) → ends_from true at bytes ≡ (at + length bytes) ∷ []) × (after true bytes ≡ true)

pub line_is_piece : (cells : Texts) → 0 < length cells → IsPiece (line_text cells)
line_is_piece [] some = absurd (omega arith)
line_is_piece (cell ∷ cells) some = (places, after_joined true (cell_text cell ++ further_cells cells) (line_feed ∷ []) ∙ ap (λ o. after o (line_feed ∷ [])) body.1)
  where
    body : Quiet true (cell_text cell ++ further_cells cells) true
    body = quiet_joined true true true (cell_text cell) (further_cells cells) (quiet_cell cell) (quiet_further cells)

    places : (at : ℕ) → ends_from true at (line_text (cell ∷ cells)) ≡ (at + length (line_text (cell ∷ cells))) ∷ []
    places at =
        joined true at (at + length (cell_text cell ++ further_cells cells)) (cell_text cell ++ further_cells cells) (line_feed ∷ []) refl
        ∙ ap (λ l. l ++ ends_from (after true (cell_text cell ++ further_cells cells)) (at + length (cell_text cell ++ further_cells cells)) (line_feed ∷ [])) (body.0 at)
        ∙ ap (λ o. ends_from o (at + length (cell_text cell ++ further_cells cells)) (line_feed ∷ [])) body.1
        ∙ ap (λ n. n ∷ []) (last (length (cell_text cell ++ further_cells cells)) _ (length-append (cell_text cell ++ further_cells cells) (line_feed ∷ [])))
      where
        last : (body whole : ℕ) → whole ≡ body + 1 → at + body + 1 ≡ at + whole
        last body whole e = omega arith

-- the first end parts bytes into a piece and what follows
record Split (outside : Bool) (at : ℕ) (bytes : Bytes) (end : ℕ) (further : List ℕ) : Type 0 where
  front : Bytes
  rest : Bytes
  same : bytes ≡ front ++ rest
  place : end ≡ at + length front
  some : 0 < length front
  one : (base : ℕ) → ends_from outside base front ≡ (base + length front) ∷ []
  behind : after outside front ≡ true
  later : further ≡ ends_from true end rest

head_of : (a b : ℕ) (xs ys : List ℕ) → a ∷ xs ≡ b ∷ ys → a ≡ b
head_of a b xs ys e = ap (λ l. get_or l 0 0) e

tail_of : (a b : ℕ) (xs ys : List ℕ) → a ∷ xs ≡ b ∷ ys → xs ≡ ys
tail_of a b xs ys e = ap (drop 1) e

-- a byte before bytes that are parted
with_byte : (outside next : Bool) (at byte : ℕ) (rest : Bytes) (end : ℕ) (further : List ℕ)
    → ((base : ℕ) (x : Bytes) → ends_from outside base (byte ∷ x) ≡ ends_from next (base + 1) x)
    → ((x : Bytes) → after outside (byte ∷ x) ≡ after next x)
    → Split next (at + 1) rest end further → Split outside at (byte ∷ rest) end further
with_byte outside next at byte rest end further step then' s = record {
  front = byte ∷ s.front;
  rest = s.rest;
  same = ap (λ l. byte ∷ l) s.same;
  place = omega (arith, s.place);
  some = omega arith;
  one = λ base. step base s.front ∙ s.one (base + 1) ∙ ap (λ n. n ∷ []) (omega arith);
  behind = then' s.front ∙ s.behind;
  later = s.later;
}

-- a byte at which there is an end
at_byte : (at byte : ℕ) (rest : Bytes) (end : ℕ) (further : List ℕ) → (byte == quote) ≡ false → (byte == line_feed) ≡ true
    → (at + 1) ∷ ends_from true (at + 1) rest ≡ end ∷ further → Split true at (byte ∷ rest) end further
at_byte at byte rest end further q f found = record {
  front = byte ∷ [];
  rest = rest;
  same = refl;
  place = sym (head_of _ _ _ _ found);
  some = omega arith;
  one = λ base. rw (q, f) refl;
  behind = rw q refl;
  later = sym (tail_of _ _ _ _ found) ∙ ap (λ n. ends_from true n rest) (head_of _ _ _ _ found);
}

split : (outside : Bool) (at : ℕ) (bytes : Bytes) (end : ℕ) (further : List ℕ) → ends_from outside at bytes ≡ end ∷ further → Split outside at bytes end further
split outside at [] end further e = absurd (cc e)
split true at (byte ∷ rest) end further e = elim (cases_Bool (byte == quote)) [
  | inl q ↦ with_byte true false at byte rest end further (λ base x. rw q refl) (λ x. rw q refl) (split false (at + 1) rest end further (rw q at e))
  | inr q ↦ elim (cases_Bool (byte == line_feed)) [
    | inl f ↦ at_byte at byte rest end further q f (rw (q, f) at e)
    | inr f ↦ with_byte true true at byte rest end further (λ base x. rw (q, f) refl) (λ x. rw q refl) (split true (at + 1) rest end further (rw (q, f) at e))
  ]
]
split false at (byte ∷ rest) end further e = elim (cases_Bool (byte == quote)) [
  | inl q ↦ with_byte false true at byte rest end further (λ base x. rw q refl) (λ x. rw q refl) (split true (at + 1) rest end further (rw q at e))
  | inr q ↦ with_byte false false at byte rest end further (λ base x. rw q refl) (λ x. rw q refl) (split false (at + 1) rest end further (rw q at e))
]

-- what a cut leaves
parts_moved : (by begin base : ℕ) (places : List ℕ) (front rest : Bytes) → by ≡ length front → base ≡ by + begin
    → parts base (map (λ place. by + place) places) (front ++ rest) ≡ parts begin places rest
parts_moved by begin base [] front rest size same = refl
parts_moved by begin base (end ∷ places) front rest size same =
    ap (λ part. part ∷ parts (by + end) (map (λ place. by + place) places) (front ++ rest)) first
    ∙ ap (λ l. take (end - begin) (drop begin rest) ∷ l) (parts_moved by end (by + end) places front rest size refl)
  where
    first : take ((by + end) - base) (drop base (front ++ rest)) ≡ take (end - begin) (drop begin rest)
    first =
        let from : base ≡ length front + begin = omega (arith, size, same) in
        let many : by + end - base ≡ end - begin = omega (arith, same) in
        ap (λ n. take n (drop base (front ++ rest))) many
        ∙ ap (λ n. take (end - begin) (drop n (front ++ rest))) from
        ∙ ap (take (end - begin)) (sym (drop-drop begin (length front) (front ++ rest)) ∙ ap (drop begin) (drop_front front rest))

last_moved : (by begin base : ℕ) (places : List ℕ) → base ≡ by + begin → last_end base (map (λ place. by + place) places) ≡ by + last_end begin places
last_moved by begin base [] same = same
last_moved by begin base (end ∷ places) same = last_moved by end (by + end) places refl

less_nothing : (n : ℕ) → n - 0 ≡ n
less_nothing n = omega arith

-- a piece before further bytes
pub ends_behind_piece : (piece rest : Bytes) → IsPiece piece → ends (piece ++ rest) ≡ length piece ∷ map (λ place. length piece + place) (ends rest)
ends_behind_piece piece rest is =
    ends_are (piece ++ rest)
    ∙ joined true 0 (length piece) piece rest (omega arith)
    ∙ ap (λ l. l ++ ends_from (after true piece) (length piece) rest) (is.0 0)
    ∙ ap (λ o. (0 + length piece) ∷ ends_from o (length piece) rest) is.1
    ∙ ap (λ n. n ∷ ends_from true (length piece) rest) (nothing_and (length piece))
    ∙ ap (λ l. length piece ∷ l) (moved true (length piece) 0 (length piece) rest (omega arith) ∙ ap (map (λ place. length piece + place)) (sym (ends_are rest)))

pub pieces_behind : (piece rest : Bytes) → IsPiece piece → pieces (piece ++ rest) ≡ piece ∷ pieces rest
pieces_behind piece rest is =
    ap (λ places. parts 0 places (piece ++ rest)) (ends_behind_piece piece rest is)
    ∙ ap (λ n. take n (piece ++ rest) ∷ parts (length piece) (map (λ place. length piece + place) (ends rest)) (piece ++ rest)) (less_nothing (length piece))
    ∙ ap (λ part. part ∷ parts (length piece) (map (λ place. length piece + place) (ends rest)) (piece ++ rest)) (take_front piece rest)
    ∙ ap (λ l. piece ∷ l) (parts_moved (length piece) 0 (length piece) (ends rest) piece rest refl (omega arith))

pub left_behind : (piece rest : Bytes) → IsPiece piece → left_over (piece ++ rest) ≡ left_over rest
left_behind piece rest is =
    ap (λ places. drop (last_end 0 places) (piece ++ rest)) (ends_behind_piece piece rest is)
    ∙ ap (λ n. drop n (piece ++ rest)) (last_moved (length piece) 0 (length piece) (ends rest) (omega arith))
    ∙ sym (drop-drop (last_end 0 (ends rest)) (length piece) (piece ++ rest))
    ∙ ap (drop (last_end 0 (ends rest))) (drop_front piece rest)

pub piece_has_end : (piece : Bytes) → IsPiece piece → first_end piece ≡ Some (length piece)
piece_has_end piece is = ap (λ l. slice_get l 0) (ends_are piece ∙ is.0 0) ∙ ap (λ n. Some n) (nothing_and (length piece))

-- where bytes have no end they are left over, else they begin with a piece
pub data Cut (bytes : Bytes) : Type 0 where
  Open : ends bytes ≡ [] → Cut bytes
  Whole : (piece rest : Bytes) → bytes ≡ piece ++ rest → 0 < length piece → IsPiece piece → Cut bytes

pub cut : (bytes : Bytes) → Cut bytes
cut bytes = cases (ends_from true 0 bytes) refl
  where
    cases : (l : List ℕ) → ends_from true 0 bytes ≡ l → Cut bytes
    cases [] e = Open (ends_are bytes ∙ e)
    cases (end ∷ further) e =
        let s = split true 0 bytes end further e in
        Whole s.front s.rest s.same s.some (s.one, s.behind)

-- a true front of a piece has no end
pub fronts_are_open : (piece front rest : Bytes) → IsPiece piece → front ++ rest ≡ piece → 0 < length rest → ends front ≡ []
fronts_are_open piece front rest is same some = cases (ends_from true 0 front) refl
  where
    cases : (l : List ℕ) → ends_from true 0 front ≡ l → ends front ≡ []
    cases [] e = ends_are front ∙ e
    cases (end ∷ further) e =
        let s = split true 0 front end further e in
        let all : ends_from true 0 piece ≡ (end ∷ further) ++ ends_from (after true front) (length front) rest =
        ap (ends_from true 0) (sym same) ∙ joined true 0 (length front) front rest (omega arith)
        ∙ ap (λ l. l ++ ends_from (after true front) (length front) rest) e in
        let place : end ≡ 0 + length piece = head_of _ _ _ _ (sym all ∙ is.0 0) in
        let whole = ap length (sym same) ∙ length-append front rest in
        let part = ap length s.same ∙ length-append s.front s.rest in
        absurd (omega (arith, place, s.place, whole, part, some))

-- a byte at which a walk finds the first end, and a walk that finds none
pub found_here : (outside : Bool) (place : ℕ) (bytes : Bytes) → place < length bytes → outside ≡ true → get_or bytes place 0 ≡ line_feed
    → slice_get (ends_from outside place (drop place bytes)) 0 ≡ Some (place + 1)
found_here outside place bytes here o f =
    ap (λ l. slice_get (ends_from outside place l) 0) (drop_more bytes place 0 here) ∙ rw (o, f) refl

pub found_nowhere : (outside : Bool) (place : ℕ) (bytes : Bytes) → length bytes ≤ place → slice_get (ends_from outside place (drop place bytes)) 0 ≡ None
found_nowhere outside place bytes past = ap (λ l. slice_get (ends_from outside place l) 0) (nothing_past place bytes past)
  where
    nothing_past : (n : ℕ) (l : Bytes) → length l ≤ n → drop n l ≡ []
    nothing_past n l fits = grind (arith, common_steps)
