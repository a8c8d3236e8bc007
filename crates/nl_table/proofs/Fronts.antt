-- The laws of cutting.
use Rattle.std.proofs.Common.{◌≡◌, ℕ, zero, suc, ◌+◌, ◌<◌, ◌≤◌, List, [], ◌∷◌, ◌++◌, length, drop, ap, sym, refl, subst, ◌∙◌, arith, append_assoc, append-nil, length-append}
use Rattle.std.specs.Prelude.{Some, None, slice_get}
use Rattle.std.specs.List.{concat}
use Rattle.std.proofs.Common.{inl, inr}
use Rattle.std.proofs.lemmas.Bool.{cases_lt}
use Rattle.nl_fixed.specs.Nouns.{Bytes}
use Rattle.nl_table.specs.Lines.{line_text, lines_text}
use Rattle.nl_table.specs.Pieces.{ends, first_end, parts, last_end, pieces, left_over}
use Rattle.nl_table.specs.PieceLaws.{AreWhole, IsFrontOfFirst, FrontsAreCutIntoLines, FrontsHaveNoEnd, LinesHaveTheirEnd, PiecesAreTheBytes, PiecesAreTold, PiecesStay}
use Rattle.nl_table.proofs.Cuts.{Cut, Open, Whole, cut, IsPiece, line_is_piece, ends_behind_piece, pieces_behind, left_behind, piece_has_end, fronts_are_open}

pub lines_have_their_end : LinesHaveTheirEnd
lines_have_their_end cells rest some = ap (λ l. slice_get l 0) (ends_behind_piece (line_text cells) rest (line_is_piece cells some))

pub fronts_have_no_end : FrontsHaveNoEnd
fronts_have_no_end cells front rest some same more =
    ap (λ l. slice_get l 0) (fronts_are_open (line_text cells) front rest (line_is_piece cells some) same more)

-- bytes without an end are left over
pub open_pieces : (bytes : Bytes) → ends bytes ≡ [] → (pieces bytes ≡ []) × (left_over bytes ≡ bytes)
open_pieces bytes none = (ap (λ l. parts 0 l bytes) none, ap (λ l. drop (last_end 0 l) bytes) none)

abbrev IsCutRight : Bytes → Type 0
IsCutRight bytes = (concat (pieces bytes) ++ left_over bytes ≡ bytes) × AreWhole (pieces bytes) × (first_end (left_over bytes) ≡ None)

right : (bytes : Bytes) → Cut bytes → ((rest : Bytes) → length rest < length bytes → IsCutRight rest) → IsCutRight bytes
right bytes (Open none) shorter =
    let o = open_pieces bytes none in
    (rw (o.0, o.1) refl, subst AreWhole (sym o.0) tt, ap first_end o.1 ∙ ap (λ l. slice_get l 0) none)
right bytes (Whole piece rest same some is) shorter =
    let size = ap length same ∙ length-append piece rest in
    let r = shorter rest (omega (arith, size, some)) in
    let p = ap pieces same ∙ pieces_behind piece rest is in
    let l = ap left_over same ∙ left_behind piece rest is in (
      ap (λ x. concat x ++ left_over bytes) p ∙ ap (λ x. (piece ++ concat (pieces rest)) ++ x) l
          ∙ append_assoc piece (concat (pieces rest)) (left_over rest) ∙ ap (λ x. piece ++ x) r.0 ∙ sym same,
      subst AreWhole (sym p) (piece_has_end piece is, r.1),
      ap first_end l ∙ r.2,
    )

cut_right : (most : ℕ) (bytes : Bytes) → length bytes < most → IsCutRight bytes
cut_right zero bytes fits = absurd (omega (arith, fits))
cut_right (suc most) bytes fits = right bytes (cut bytes) (λ rest less. cut_right most rest (omega (arith, fits, less)))

pub pieces_are_the_bytes : PiecesAreTheBytes
pieces_are_the_bytes bytes = cut_right (length bytes + 1) bytes (omega arith)

-- bytes with the first end at their length are a piece
pub has_none : (l : List ℕ) → slice_get l 0 ≡ None → l ≡ []
has_none [] e = refl
has_none (x ∷ l) e = absurd (cc e)

pub is_piece : (bytes : Bytes) → first_end bytes ≡ Some (length bytes) → IsPiece bytes
is_piece bytes e = cases (cut bytes)
  where
    cases : Cut bytes → IsPiece bytes
    cases (Open none) = absurd (cc (sym e ∙ ap (λ l. slice_get l 0) none))
    cases (Whole piece rest same some is) = by rest same
      where
        by : (rest : Bytes) → bytes ≡ piece ++ rest → IsPiece bytes
        by [] same = subst IsPiece (sym (same ∙ append-nil piece)) is
        by (byte ∷ rest) same =
            let early : Some (length piece) ≡ Some (length bytes) =
            sym (ap (λ l. slice_get l 0) (ap ends same ∙ ends_behind_piece piece (byte ∷ rest) is)) ∙ e in
            let equal : length piece ≡ length bytes = cc early in
            let size = ap length same ∙ length-append piece (byte ∷ rest) in
            absurd (omega (arith, size, equal))

pub pieces_are_told : PiecesAreTold
pieces_are_told [] left whole none = open_pieces left (has_none (ends left) none)
pieces_are_told (piece ∷ found) left whole none =
    let is = is_piece piece whole.0 in
    let r = pieces_are_told found left whole.1 none in
    let same = append_assoc piece (concat found) left in (
      ap pieces same ∙ pieces_behind piece (concat found ++ left) is ∙ ap (λ l. piece ∷ l) r.0,
      ap left_over same ∙ left_behind piece (concat found ++ left) is ∙ r.1,
    )

abbrev Stay : Bytes → Bytes → Type 0
Stay bytes more = (further : List Bytes) × (pieces (bytes ++ more) ≡ pieces bytes ++ further)

kept : (bytes more : Bytes) → Cut bytes → ((rest : Bytes) → length rest < length bytes → Stay rest more) → Stay bytes more
kept bytes more (Open none) shorter = (pieces (bytes ++ more), ap (λ l. l ++ pieces (bytes ++ more)) (sym ((open_pieces bytes none).0)))
kept bytes more (Whole piece rest same some is) shorter =
    let size = ap length same ∙ length-append piece rest in
    let r = shorter rest (omega (arith, size, some)) in (
      r.0,
      ap (λ x. pieces (x ++ more)) same ∙ ap pieces (append_assoc piece rest more) ∙ pieces_behind piece (rest ++ more) is
          ∙ ap (λ l. piece ∷ l) r.1 ∙ ap (λ l. l ++ r.0) (sym (ap pieces same ∙ pieces_behind piece rest is)),
    )

stay : (most : ℕ) (bytes more : Bytes) → length bytes < most → Stay bytes more
stay zero bytes more fits = absurd (omega (arith, fits))
stay (suc most) bytes more fits = kept bytes more (cut bytes) (λ rest less. stay most rest more (omega (arith, fits, less)))

pub pieces_stay : PiecesStay
pieces_stay bytes more = stay (length bytes + 1) bytes more (omega arith)

-- of two ways to part bytes in two, the longer front begins with the shorter one
longer_front : (short behind front rest : Bytes) → short ++ behind ≡ front ++ rest → length short ≤ length front
    → (more : Bytes) × (front ≡ short ++ more) × (behind ≡ more ++ rest)
longer_front [] behind front rest same fits = (front, refl, same)
longer_front (byte ∷ short) behind [] rest same fits = absurd (omega (arith, fits))
longer_front (byte ∷ short) behind (other ∷ front) rest same fits =
    let tails : short ++ behind ≡ front ++ rest = ap (drop 1) same in
    let heads : byte ≡ other = cc same in
    let r = longer_front short behind front rest tails (omega (arith, fits)) in
    (r.0, ap (λ x. x ∷ front) (sym heads) ∙ ap (λ x. byte ∷ x) r.1, r.2)

pub fronts_are_cut : FrontsAreCutIntoLines
fronts_are_cut [] front rest full same =
    let none : front ≡ [] = empty front rest same in
    ([], [], refl, ap pieces none, ap left_over none)
  where
    empty : (front rest : Bytes) → front ++ rest ≡ [] → front ≡ []
    empty [] rest e = refl
    empty (byte ∷ front) rest e = absurd (cc e)
fronts_are_cut (cells ∷ lines) front rest full same = elim (cases_lt (length front) (length (line_text cells))) [
  | inr fits ↦
      let m = longer_front (line_text cells) (lines_text lines) front rest (sym same) fits in
      let r = fronts_are_cut lines m.0 rest full.1 (sym m.2) in
      let is = line_is_piece cells full.0 in (
        cells ∷ r.0,
        r.1,
        ap (λ l. cells ∷ l) r.2,
        ap pieces m.1 ∙ pieces_behind (line_text cells) m.0 is ∙ ap (λ l. line_text cells ∷ l) r.3,
        subst (λ x. IsFrontOfFirst x r.1) (sym (ap left_over m.1 ∙ left_behind (line_text cells) m.0 is)) r.4,
      )
  | inl less ↦
      let m = longer_front front rest (line_text cells) (lines_text lines) same (omega (arith, less)) in
      let size = ap length m.1 ∙ length-append front m.0 in
      let some : 0 < length m.0 = omega (arith, size, less) in
      let o = open_pieces front (fronts_are_open (line_text cells) front m.0 (line_is_piece cells full.0) (sym m.1) some) in
      ([], cells ∷ lines, refl, o.0, (m.0, some, ap (λ x. x ++ m.0) o.1 ∙ sym m.1))
]
