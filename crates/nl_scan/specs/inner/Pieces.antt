-- How the code cuts a text: what begins it, and one piece after another.
use Rattle.std.specs.Prelude.{ℕ, zero, suc, ◌+◌, ◌≤◌, ◌<◌, ◌==◌, ℤ, List, [], ◌∷◌, take, drop, Bool, true, false, if◌then◌else◌, Option, Some, None, Result, Ok, Err}
use Rattle.std.specs.List.{prefix_len}
use Rattle.std.specs.Option.{option_map}
use Rattle.nl_fixed.specs.Nouns.{Bytes}
use Rattle.nl_fixed.specs.declared.number.NumFault.{NumFault}
use Rattle.nl_fixed.specs.Spelling.{read_of}
use Rattle.nl_scan.specs.declared.token.Lexeme.{Lexeme}
use Rattle.nl_scan.specs.declared.token.Token.{Token}
use Rattle.nl_scan.specs.declared.token.ScanKind.{ScanKind}
use Rattle.nl_scan.specs.declared.pieces.Form.{Form}
use Rattle.nl_scan.specs.declared.pieces.Piece.{Piece}
use Rattle.nl_scan.specs.Forms.{is_space, is_in_line, is_word_byte, bracket_of, is_some_bracket, semicolon, quote, backslash, first_bad_escape, least_length}
use Rattle.nl_scan.specs.Faults.{ScanFault}

-- the form that begins with a byte
abbrev pub form_at : ℕ → Option Form
form_at byte =
    if is_space byte then Some Form.Space
    else (if byte == semicolon then Some Form.Comment
    else (if byte == quote then Some Form.Quoted
    else (if is_some_bracket (bracket_of byte) then Some Form.Bracket
    else (if is_word_byte byte then Some Form.Word
    else None))))

-- how many bytes a text has through its closing quote, of those behind a quote; the test says whether a backslash
-- stands before them with which the first of them goes
abbrev pub closed_length : Bool → Bytes → Option ℕ
closed_length behind [] = None
closed_length true (byte ∷ rest) = if is_in_line byte then option_map suc (closed_length false rest) else None
closed_length false (byte ∷ rest) =
    if byte == quote then Some 1
    else (if is_in_line byte then option_map suc (closed_length (byte == backslash) rest) else None)

-- a word of so many bytes, by what it reads as
abbrev pub word_piece : ℕ → Option (Result ℤ NumFault) → Piece
word_piece len None = Piece.Found Lexeme.Word len
word_piece len (Some (Ok number)) = Piece.Found (Lexeme.Number number) len
word_piece len (Some (Err fault)) = Piece.Bad ScanKind.BadNumber 0

-- the word that begins a text
abbrev pub leading_word : Bytes → Piece
leading_word text = let len = prefix_len is_word_byte text in word_piece len (read_of (take len text))

abbrev pub escaped_piece : ℕ → Option ℕ → Piece
escaped_piece len None = Piece.Found Lexeme.Text len
escaped_piece len (Some before) = Piece.Bad ScanKind.BadEscape before

-- what stands behind a quote
abbrev pub quoted_piece : Option ℕ → Bytes → Piece
quoted_piece None rest = Piece.Bad ScanKind.OpenText 0
quoted_piece (Some len) rest = escaped_piece (suc len) (first_bad_escape false (take len rest))

abbrev pub bracket_piece : Option Lexeme → Piece
bracket_piece (Some lexeme) = Piece.Found lexeme 1
bracket_piece None = Piece.Bad ScanKind.BadChar 0

-- the piece of a form that begins with a byte
abbrev pub piece_by : Option Form → ℕ → Bytes → Piece
piece_by (Some Form.Space) byte rest = Piece.Gap 1
piece_by (Some Form.Comment) byte rest = Piece.Gap (suc (prefix_len is_in_line rest))
piece_by (Some Form.Word) byte rest = leading_word (byte ∷ rest)
piece_by (Some Form.Quoted) byte rest = quoted_piece (closed_length false rest) rest
piece_by (Some Form.Bracket) byte rest = bracket_piece (bracket_of byte)
piece_by None byte rest = Piece.Bad ScanKind.BadChar 0

-- the longest gap or token that begins a text, or the fault there
abbrev pub piece_at : Bytes → Piece
piece_at [] = Piece.Gap 0
piece_at (byte ∷ rest) = piece_by (form_at byte) byte rest

abbrev pub token_first : Token → Result (List Token) ScanFault → Result (List Token) ScanFault
token_first token (Ok tokens) = Ok (token ∷ tokens)
token_first token (Err fault) = Err fault

-- what follows a piece that begins at a place, where `next` is what follows so many bytes
abbrev pub after_piece : ℕ → (ℕ → Result (List Token) ScanFault) → Piece → Result (List Token) ScanFault
after_piece at next (Piece.Gap len) = next len
after_piece at next (Piece.Found lexeme len) = token_first (record { lexeme = lexeme; span = record { start = at; len = len } }) (next len)
after_piece at next (Piece.Bad kind before) = Err (record { kind = kind; place = at + before })

-- the pieces of a text from a place on, one after another, as long as there is room for pieces
abbrev pub cut_from : ℕ → ℕ → List ℕ → Result (List Token) ScanFault
cut_from zero at text = Ok []
cut_from (suc room) at [] = Ok []
cut_from (suc room) at (byte ∷ rest) = after_piece at (λ len. cut_from room (at + len) (drop len (byte ∷ rest))) (piece_at (byte ∷ rest))

-- a piece has a byte at least, and lies in the text
abbrev pub IsPieceWithin : ℕ → Piece → Type 0
IsPieceWithin len (Piece.Gap n) = (0 < n) × (n ≤ len)
IsPieceWithin len (Piece.Found lexeme n) = (least_length lexeme ≤ n) × (n ≤ len)
IsPieceWithin len (Piece.Bad kind n) = n < len
