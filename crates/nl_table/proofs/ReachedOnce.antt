-- The laws of how far a partial table reaches.
use Rattle.std.proofs.Common.{◌≡◌, ℕ, suc, ◌-◌, ◌<◌, ◌≤◌, List, [], ◌∷◌, ◌++◌, length, take, map, ap, sym, refl, subst, ◌∙◌, arith, append_assoc, inl, inr, ◌⊎◌}
use Rattle.std.specs.Prelude.{Some, slice_get}
use Rattle.nl_fixed.specs.Nouns.{Bytes, Texts}
use Rattle.nl_table.specs.Lines.{line_text, lines_text}
use Rattle.nl_table.specs.Pieces.{pieces}
use Rattle.nl_table.specs.PieceLaws.{AreFull}
use Rattle.nl_table.specs.Reach.{ended_in, rows_of, IsDue, AreDue}
use Rattle.nl_table.specs.ReachLaws.{FrontsOfRowsReach, MisfitsStay, ReachIsOne, RowsStay}
use Rattle.nl_table.specs.Reading.{IsLineOf}
use Rattle.nl_table.specs.declared.reach.Reach.TheVariants as reach
use Rattle.nl_table.proofs.FoundAgain.{lines_say_their_cells}
use Rattle.nl_table.proofs.Fronts.{fronts_are_cut, pieces_stay}
use Rattle.nl_table.proofs.Reaching.{due_front, ended_first, numbered_some}

-- ---- rows that are due have cells

filled : (rows : List Texts) → ((place : ℕ) (cells : Texts) → slice_get rows place ≡ Some cells → 0 < length cells) → AreFull rows
filled [] each = tt
filled (cells ∷ rows) each = (each 0 cells refl, filled rows (λ place found e. each (suc place) found e))

due_full : (columns runs : ℕ) (rows : List Texts) → AreDue columns runs rows → AreFull rows
due_full columns runs rows due = filled rows (λ place cells e. numbered_some columns _ cells (due place cells e).0)

ended_more : (rows more : List Texts) → ended_in rows ≤ ended_in (rows ++ more)
ended_more [] more = omega arith
ended_more (cells ∷ rows) more = omega (arith, ended_first cells rows, ended_first cells (rows ++ more), ended_more rows more)

-- ---- lines are told apart

abbrev Parts : List Bytes → List Texts → Type 0
Parts front rows = (first rest : List Texts) × (rows ≡ first ++ rest) × (front ≡ map line_text first)

front_rows : (front behind : List Bytes) (rows : List Texts) → front ++ behind ≡ map line_text rows → Parts front rows
front_rows [] behind rows e = ([], rows, refl, refl)
front_rows (piece ∷ front) behind [] e = absurd (cc e)
front_rows (piece ∷ front) behind (cells ∷ rows) e =
    let tails : front ++ behind ≡ map line_text rows = cc e in
    let heads : piece ≡ line_text cells = cc e in
    let (first, rest, parts, lines) = front_rows front behind rows tails in
    (cells ∷ first, rest, ap (λ l. cells ∷ l) parts, ap (λ p. p ∷ front) heads ∙ ap (λ l. line_text cells ∷ l) lines)

same_rows : (rows others : List Texts) → AreFull rows → AreFull others → map line_text rows ≡ map line_text others → rows ≡ others
same_rows [] [] full whole e = refl
same_rows [] (cells ∷ others) full whole e = absurd (cc e)
same_rows (cells ∷ rows) [] full whole e = absurd (cc e)
same_rows (cells ∷ rows) (other ∷ others) full whole e =
    let lines : line_text cells ≡ line_text other = cc e in
    let tails : map line_text rows ≡ map line_text others = cc e in
    ap (λ c. c ∷ rows) (lines_say_their_cells cells other full.0 whole.0 lines) ∙ ap (λ l. other ∷ l) (same_rows rows others full.1 whole.1 tails)

-- rows behind which a piece comes that is the line of a further row
abbrev GoesOn : List Texts → Bytes → List Texts → Type 0
GoesOn rows piece others = (cells : Texts) × (rest : List Texts) × (others ≡ rows ++ cells ∷ rest) × IsLineOf cells piece

goes_on : (rows others : List Texts) (piece : Bytes) (further : List Bytes) → AreFull rows → AreFull others → map line_text rows ++ piece ∷ further ≡ map line_text others → GoesOn rows piece others
goes_on rows [] piece further full whole e = none rows e
  where
    none : (rows : List Texts) → map line_text rows ++ piece ∷ further ≡ [] → GoesOn rows piece []
    none [] q = absurd (cc q)
    none (cells ∷ rows) q = absurd (cc q)
goes_on [] (other ∷ others) piece further full whole e =
    let line : piece ≡ line_text other = cc e in
    (other, others, refl, (whole.0, line))
goes_on (cells ∷ rows) (other ∷ others) piece further full whole e =
    let lines : line_text cells ≡ line_text other = cc e in
    let tails : map line_text rows ++ piece ∷ further ≡ map line_text others = cc e in
    let same : cells ≡ other = lines_say_their_cells cells other full.0 whole.0 lines in
    let (next, rest, parts, line) = goes_on rows others piece further full.1 whole.1 tails in
    (next, rest, ap (λ l. other ∷ l) parts ∙ ap (λ c. c ∷ rows ++ next ∷ rest) (sym same), line)

-- two lists of pieces of rows and a further one
abbrev Compared : List Texts → Bytes → List Texts → Bytes → Type 0
Compared rows piece others other = (rows ≡ others) ⊎ (GoesOn rows piece others ⊎ GoesOn others other rows)

compared : (rows others : List Texts) (piece other : Bytes) (further behind : List Bytes) → AreFull rows → AreFull others
    → map line_text rows ++ piece ∷ further ≡ map line_text others ++ other ∷ behind → Compared rows piece others other
compared [] [] piece other further behind full whole e = inl refl
compared [] (cells ∷ others) piece other further behind full whole e =
    let line : piece ≡ line_text cells = cc e in
    inr (inl (cells, others, refl, (whole.0, line)))
compared (cells ∷ rows) [] piece other further behind full whole e =
    let line : other ≡ line_text cells = cc (sym e) in
    inr (inr (cells, rows, refl, (full.0, line)))
compared (cells ∷ rows) (first ∷ others) piece other further behind full whole e =
    let lines : line_text cells ≡ line_text first = cc e in
    let tails : map line_text rows ++ piece ∷ further ≡ map line_text others ++ other ∷ behind = cc e in
    let same : cells ≡ first = lines_say_their_cells cells first full.0 whole.0 lines in
    by same (compared rows others piece other further behind full.1 whole.1 tails)
  where
    by : cells ≡ first → Compared rows piece others other → Compared (cells ∷ rows) piece (first ∷ others) other
    by same (inl e) = inl (ap (λ c. c ∷ rows) same ∙ ap (λ l. first ∷ l) e)
    by same (inr (inl (next, rest, parts, line))) = inr (inl (next, rest, ap (λ l. first ∷ l) parts ∙ ap (λ c. c ∷ rows ++ next ∷ rest) (sym same), line))
    by same (inr (inr (next, rest, parts, line))) = inr (inr (next, rest, ap (λ l. cells ∷ l) parts ∙ ap (λ c. c ∷ others ++ next ∷ rest) same, line))

-- ---- a row that is due among others

there : (rows : List Texts) (cells : Texts) (rest : List Texts) → (slice_get (rows ++ cells ∷ rest) (length rows) ≡ Some cells) × (take (length rows) (rows ++ cells ∷ rest) ≡ rows)
there [] cells rest = (refl, refl)
there (first ∷ rows) cells rest = let r = there rows cells rest in (r.0, ap (λ l. first ∷ l) r.1)

due_there : (columns runs : ℕ) (rows others rest : List Texts) (cells : Texts) → others ≡ rows ++ cells ∷ rest → AreDue columns runs others → IsDue columns runs rows cells
due_there columns runs rows others rest cells parts due =
    let at = there rows cells rest in
    subst (λ l. IsDue columns runs l cells) at.1 (subst (λ l. AreDue columns runs l) parts due (length rows) cells at.0)

-- ---- the laws

pub misfits_stay : MisfitsStay
misfits_stay columns runs bytes more place (rows, piece, further, (are, due, none, at)) =
    let (behind, all) = pieces_stay bytes more in
    (rows, piece, further ++ behind, (all ∙ ap (λ l. l ++ behind) are ∙ append_assoc (map line_text rows) (piece ∷ further) behind, due, none, at))

pub rows_stay_due : RowsStay
rows_stay_due columns runs bytes more ended begin (rows, (are, due, count, at)) =
    let (behind, all) = pieces_stay bytes more in
    let (first, rest, parts, lines) = front_rows (pieces bytes) behind rows (sym all ∙ are) in (
      ended_in first,
      length (lines_text (rows_of (ended_in first - 1) first)),
      (first, (lines, due_front columns runs first rest (subst (λ l. AreDue columns runs l) parts due), refl, refl)),
      omega (arith, count, ap ended_in parts, ended_more first rest),
    )

pub fronts_of_rows_reach : FrontsOfRowsReach
fronts_of_rows_reach columns runs rows front rest due same =
    let (whole, further, parts, cut, open_end) = fronts_are_cut rows front rest (due_full columns runs rows due) same in
    (whole, further, parts, (whole, (cut, due_front columns runs whole further (subst (λ l. AreDue columns runs l) parts due), refl, refl)))

abbrev AllRows : ℕ → ℕ → Bytes → List Texts → Type 0
AllRows columns runs bytes rows = (pieces bytes ≡ map line_text rows) × AreDue columns runs rows

pub reach_is_one : ReachIsOne
reach_is_one columns runs bytes (reach.Rows ended begin) (reach.Rows other start) (rows, (are, due, count, at)) (others, (lines, right, number, place)) =
    let same = same_rows rows others (due_full columns runs rows due) (due_full columns runs others right) (sym are ∙ lines) in
    let counts : ended ≡ other = count ∙ ap ended_in same ∙ sym number in
    let places : begin ≡ start = at ∙ ap (λ n. length (lines_text (rows_of (n - 1) rows))) counts ∙ ap (λ l. length (lines_text (rows_of (other - 1) l))) same ∙ sym place in
    ap (λ n. reach.Rows n begin) counts ∙ ap (λ n. reach.Rows other n) places
reach_is_one columns runs bytes (reach.Rows ended begin) (reach.Misfit place) (rows, (are, due, count, at)) (others, piece, further, (lines, right, none, start)) =
    let (cells, rest, parts, line) = goes_on others rows piece further (due_full columns runs others right) (due_full columns runs rows due) (sym lines ∙ are) in
    absurd (none cells line (due_there columns runs others rows rest cells parts due))
reach_is_one columns runs bytes (reach.Misfit place) (reach.Rows ended begin) (others, piece, further, (lines, right, none, start)) (rows, (are, due, count, at)) =
    let (cells, rest, parts, line) = goes_on others rows piece further (due_full columns runs others right) (due_full columns runs rows due) (sym lines ∙ are) in
    absurd (none cells line (due_there columns runs others rows rest cells parts due))
reach_is_one columns runs bytes (reach.Misfit place) (reach.Misfit start) (rows, piece, further, (are, due, none, at)) (others, other, behind, (lines, right, never, there_at)) =
    by (compared rows others piece other further behind (due_full columns runs rows due) (due_full columns runs others right) (sym are ∙ lines))
  where
    by : Compared rows piece others other → reach.Misfit place ≡ reach.Misfit start
    by (inl same) = ap (λ n. reach.Misfit n) (at ∙ ap (λ l. length (lines_text l)) same ∙ sym there_at)
    by (inr (inl (cells, rest, parts, line))) = absurd (none cells line (due_there columns runs rows others rest cells parts right))
    by (inr (inr (cells, rest, parts, line))) = absurd (never cells line (due_there columns runs others rows rest cells parts due))
