-- Lines and pieces, one after another.
use Rattle.std.proofs.Common.{◌≡◌, ℕ, zero, suc, ◌+◌, ◌-◌, ◌<◌, List, [], ◌∷◌, ◌++◌, map, replicate, refl, sym, ap, ◌∙◌, append_assoc, append-nil, arith}
use Rattle.std.specs.List.{flat_map, range_with_len}
use Rattle.std.proofs.lemmas.List.FromFn.{map-range_with_len_more}
use Rattle.nl_fixed.specs.Nouns.{Bytes, Texts}
use Rattle.nl_table.specs.Lines.{line_text, lines_text}
use Rattle.nl_cli.specs.Table.{joined_text, last_line}

pub joined_text-append : (xs ys : List Bytes) → joined_text (xs ++ ys) ≡ joined_text xs ++ joined_text ys
joined_text-append [] ys = refl
joined_text-append (x ∷ xs) ys = rw (joined_text-append xs ys) (sym (append_assoc x (joined_text xs) (joined_text ys)))

pub lines_text-append : (xs ys : List Texts) → lines_text (xs ++ ys) ≡ lines_text xs ++ lines_text ys
lines_text-append [] ys = refl
lines_text-append (x ∷ xs) ys = rw (lines_text-append xs ys) (sym (append_assoc (line_text x) (lines_text xs) (lines_text ys)))

pub lines_text-flat_map : (f : ℕ → List Texts) (ns : List ℕ) → lines_text (flat_map f ns) ≡ joined_text (map (λ n. lines_text (f n)) ns)
lines_text-flat_map f [] = refl
lines_text-flat_map f (n ∷ ns) = lines_text-append (f n) (flat_map f ns) ∙ ap (λ rest. lines_text (f n) ++ rest) (lines_text-flat_map f ns)

-- the last of lines behind others, where there are any
pub last_line-append : (xs : List Texts) (y : Texts) (ys : List Texts) → last_line (xs ++ y ∷ ys) ≡ last_line (y ∷ ys)
last_line-append [] y ys = refl
last_line-append (x ∷ []) y ys = refl
last_line-append (x ∷ w ∷ xs) y ys = last_line-append (w ∷ xs) y ys

-- lists, one after another
gathered : List (List Texts) → List Texts
gathered [] = []
gathered (xs ∷ xss) = xs ++ gathered xss

gathered-append : (xss yss : List (List Texts)) → gathered (xss ++ yss) ≡ gathered xss ++ gathered yss
unfolding gathered
gathered-append [] yss = refl
gathered-append (xs ∷ xss) yss = rw (gathered-append xss yss) (sym (append_assoc xs (gathered xss) (gathered yss)))

flat_map-gathered : (f : ℕ → List Texts) (ns : List ℕ) → flat_map f ns ≡ gathered (map f ns)
unfolding gathered
flat_map-gathered f [] = refl
flat_map-gathered f (n ∷ ns) = ap (λ rest. f n ++ rest) (flat_map-gathered f ns)

gathered-one : (xs : List Texts) → gathered (xs ∷ []) ≡ xs
unfolding gathered
gathered-one xs = append-nil xs

-- one number more is one list more
pub flat_map-more : (f : ℕ → List Texts) (n : ℕ) → flat_map f (range_with_len 1 (n + 1)) ≡ flat_map f (range_with_len 1 n) ++ f (n + 1)
flat_map-more f n =
    let place : 1 + n ≡ n + 1 = omega arith in
    flat_map-gathered f (range_with_len 1 (n + 1)) ∙ ap gathered (map-range_with_len_more f 1 n (n + 1) place)
    ∙ gathered-append (map f (range_with_len 1 n)) (f (n + 1) ∷ []) ∙ ap (λ xs. xs ++ gathered (f (n + 1) ∷ [])) (sym (flat_map-gathered f (range_with_len 1 n)))
    ∙ ap (λ xs. flat_map f (range_with_len 1 n) ++ xs) (gathered-one (f (n + 1)))

-- the last line, where this was the last one so far
abbrev pub last_behind : Bytes → List Texts → Bytes
last_behind last [] = last
last_behind last (cells ∷ lines) = last_line (cells ∷ lines)

pub last_behind-first : (lines : List Texts) → last_behind [] lines ≡ last_line lines
last_behind-first [] = refl
last_behind-first (cells ∷ lines) = refl

pub last_behind-more : (cells : Texts) (lines : List Texts) → last_behind (line_text cells) lines ≡ last_line (cells ∷ lines)
last_behind-more cells [] = refl
last_behind-more cells (next ∷ lines) = refl

-- one more empty cell of some
pub replicate_step : (cells : Texts) (n : ℕ) → 0 < n → (cells ++ [] ∷ []) ++ replicate (n - 1) [] ≡ cells ++ replicate n []
replicate_step cells zero some = let never : 0 < 0 → ⊥ = λ h. omega (arith, h) in absurd (never some)
replicate_step cells (suc k) some = let less : suc k - 1 ≡ k = omega arith in rw less (append_assoc cells ([] ∷ []) (replicate k []))
