-- A table in short, run by run.
use Rattle.std.proofs.Common.{◌≡◌, ℕ, ◌+◌, List, [], ◌∷◌, ◌++◌, map, length, refl, sym, ap, ◌∙◌, arith, append_assoc, append-nil, length-append}
use Rattle.std.specs.Prelude.{codes}
use Rattle.std.specs.Fmt.{decimal}
use Rattle.std.specs.List.{flat_map, range_with_len}
use Rattle.nl_fixed.specs.Nouns.{Bytes, Texts}
use Rattle.nl_run.specs.Course.{rows_of}
use Rattle.nl_run.specs.Laws.{EndsLast}
use Rattle.nl_run.specs.declared.rows.Row.{Row}
use Rattle.nl_cli.specs.Inputs.{Job, run_of, runs_in}
use Rattle.nl_cli.specs.Table.{header_of, joined_text, last_line, rows_text, run_lines, run_numbers, summary_text, table_text}
use Rattle.nl_cli.specs.inner.Stages.{columns_in, rows_among}
use Rattle.nl_cli.proofs.Pieces.{flat_map-more, last_line-append}
use Rattle.nl_cli.proofs.RowSteps.{rows_upto, rows_upto-more}

-- ---- bytes

pub count_more : (job : Job) (n bytes header count : ℕ) (text : Bytes) → bytes ≡ header + length (rows_upto job n) → text ≡ rows_text job (n + 1)
    → count ≡ bytes + length text → count ≡ header + length (rows_upto job (n + 1))
count_more job n bytes header count text so_far is one =
    let more : length (rows_upto job (n + 1)) ≡ length (rows_upto job n) + length (rows_text job (n + 1)) =
    ap length (rows_upto-more job n) ∙ length-append (rows_upto job n) (rows_text job (n + 1)) in
    let same : length text ≡ length (rows_text job (n + 1)) = ap length is in
    omega (arith, so_far, one, more, same)

-- ---- the last line

-- a run has a line
some_line : (f : Row → Texts) (rows : List Row) → EndsLast rows → (cells : Texts) × (lines : List Texts) × (map f rows ≡ cells ∷ lines)
some_line f [] ends = absurd ends
some_line f (r ∷ rows) ends = (f r, map f rows, refl)

last_of_more : (xs ys : List Texts) (cells : Texts) (lines : List Texts) → ys ≡ cells ∷ lines → last_line (xs ++ ys) ≡ last_line ys
last_of_more xs ys cells lines is = rw is (last_line-append xs cells lines)

-- the last line so far is that of the last run
pub last_more : (job : Job) (n : ℕ) → EndsLast (rows_of (run_of job (n + 1)))
    → last_line (run_lines job (n + 1)) ≡ last_line (columns_in job ∷ flat_map (run_lines job) (range_with_len 1 (n + 1)))
last_more job n ends =
    let (cells, lines, is) = some_line _ (rows_of (run_of job (n + 1))) ends in
    let so_far = columns_in job ∷ flat_map (run_lines job) (range_with_len 1 n) in
    sym (last_of_more so_far (run_lines job (n + 1)) cells lines is) ∙ ap (λ (rest : List Texts). last_line (columns_in job ∷ rest)) (sym (flat_map-more (run_lines job) n))

-- ---- the text

six : (a b c d e l : Bytes) → (a ++ (b ++ (c ++ (d ++ e)))) ++ l ≡ a ++ (b ++ (c ++ (d ++ (e ++ (l ++ [])))))
six a b c d e l =
    append_assoc a (b ++ (c ++ (d ++ e))) l ∙ ap (λ (x : Bytes). a ++ x) (append_assoc b (c ++ (d ++ e)) l
    ∙ ap (λ (x : Bytes). b ++ x) (append_assoc c (d ++ e) l ∙ ap (λ (x : Bytes). c ++ x) (append_assoc d e l ∙ ap (λ (x : Bytes). d ++ (e ++ x)) (sym (append-nil l)))))

in_short : ℕ → ℕ → Bytes → Bytes
in_short runs bytes last = joined_text (codes "runs " ∷ decimal runs ∷ codes "\nbytes " ∷ decimal bytes ∷ codes "\n" ∷ last ∷ [])

-- the pieces of the text
pub summary_is : (model : Bytes) (job : Job) (bytes : ℕ) (last text : Bytes)
    → bytes ≡ length (header_of model job) + length (rows_among job (run_numbers job)) → last ≡ last_line (columns_in job ∷ flat_map (run_lines job) (run_numbers job))
    → text ≡ (codes "runs " ++ (decimal (runs_in job) ++ (codes "\nbytes " ++ (decimal bytes ++ codes "\n")))) ++ last
    → text ≡ summary_text model job
unfolding summary_text table_text in_short
summary_is model job bytes last text count_is last_is text_is =
    let count : bytes ≡ length (header_of model job ++ rows_among job (run_numbers job)) = count_is ∙ sym (length-append (header_of model job) (rows_among job (run_numbers job))) in
    text_is ∙ six (codes "runs ") (decimal (runs_in job)) (codes "\nbytes ") (decimal bytes) (codes "\n") last
    ∙ ap (λ (b : ℕ). in_short (runs_in job) b last) count
    ∙ ap (in_short (runs_in job) (length (header_of model job ++ rows_among job (run_numbers job)))) last_is
