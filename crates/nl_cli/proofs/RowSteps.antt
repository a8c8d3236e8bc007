-- The runs so far are the first of all runs.
use Rattle.std.proofs.Common.{◌≡◌, ℕ, zero, suc, ◌+◌, ◌-◌, ◌<◌, [], ◌∷◌, ◌++◌, Option, Ok, Err, map, sym, ap, ◌∙◌, arith, append_assoc, append-nil, add-zero}
use Rattle.std.specs.List.{range_with_len}
use Rattle.std.proofs.lemmas.List.FromFn.{map-range_with_len_more}
use Rattle.nl_fixed.specs.Nouns.{Bytes}
use Rattle.nl_cli.specs.declared.ends.End.{End}
use Rattle.nl_cli.specs.Outcome.{Given}
use Rattle.nl_cli.specs.Inputs.{Job}
use Rattle.nl_cli.specs.Table.{joined_text, rows_text}
use Rattle.nl_cli.specs.inner.Stages.{Puts, rows_among}
use Rattle.nl_cli.proofs.Pieces.{joined_text-append}
use Rattle.nl_cli.proofs.PutSteps.{Puts-same, Puts-stops, Puts-then}

-- the rows of the first runs
abbrev pub rows_upto : Job → ℕ → Bytes
rows_upto job n = rows_among job (range_with_len 1 n)

pub rows_upto-more : (job : Job) (n : ℕ) → rows_upto job (n + 1) ≡ rows_upto job n ++ rows_text job (n + 1)
rows_upto-more job n =
    let place : 1 + n ≡ n + 1 = omega arith in
    ap joined_text (map-range_with_len_more (rows_text job) 1 n (n + 1) place)
    ∙ joined_text-append (map (rows_text job) (range_with_len 1 n)) (rows_text job (n + 1) ∷ [])
    ∙ ap (λ last. rows_upto job n ++ last) (append-nil (rows_text job (n + 1)))

-- all rows are the first ones and some more
rows_upto-first : (job : Job) (k d : ℕ) → (rest : Bytes) × (rows_upto job (k + d) ≡ rows_upto job k ++ rest)
rows_upto-first job k zero = ([], rw add-zero (sym (append-nil (rows_upto job k))))
rows_upto-first job k (suc d) =
    let (rest, e) = rows_upto-first job k d in
    let step : k + suc d ≡ (k + d) + 1 = omega arith in (
      rest ++ rows_text job ((k + d) + 1),
      ap (rows_upto job) step ∙ rows_upto-more job (k + d) ∙ ap (λ front. front ++ rows_text job ((k + d) + 1)) e
          ∙ append_assoc (rows_upto job k) rest (rows_text job ((k + d) + 1)),
    )

-- a run that stops stops all runs
pub runs_stop : (job : Job) (k n f g h : ℕ) (a b c : Option Bytes) (end : End) → k < n
    → Puts (rows_upto job k) (record { faults_before = f; faults_after = g; before = a; after = b }) (Ok tt)
    → Puts (rows_text job (k + 1)) (record { faults_before = g; faults_after = h; before = b; after = c }) (Err end)
    → Puts (rows_upto job n) (record { faults_before = f; faults_after = h; before = a; after = c }) (Err end)
runs_stop job k n f g h a b c end below so_far stopped =
    let (rest, first) = rows_upto-first job (k + 1) (n - (k + 1)) in
    let all : (k + 1) + (n - (k + 1)) ≡ n = omega arith in
    let both = Puts-then f g h a b c (rows_upto job k) (rows_text job (k + 1)) (Err end) so_far stopped in
    let whole : (rows_upto job k ++ rows_text job (k + 1)) ++ rest ≡ rows_upto job n =
    ap (λ rows. rows ++ rest) (sym (rows_upto-more job k)) ∙ sym first ∙ ap (rows_upto job) all in
    let sink : Given = record { faults_before = f; faults_after = h; before = a; after = c } in
    Puts-same sink _ _ (Err end) whole (Puts-stops sink (rows_upto job k ++ rows_text job (k + 1)) rest end both)

-- and one that is put is one more
pub runs_more : (job : Job) (k f g h : ℕ) (a b c : Option Bytes)
    → Puts (rows_upto job k) (record { faults_before = f; faults_after = g; before = a; after = b }) (Ok tt)
    → Puts (rows_text job (k + 1)) (record { faults_before = g; faults_after = h; before = b; after = c }) (Ok tt)
    → Puts (rows_upto job (k + 1)) (record { faults_before = f; faults_after = h; before = a; after = c }) (Ok tt)
runs_more job k f g h a b c so_far one =
    let sink : Given = record { faults_before = f; faults_after = h; before = a; after = c } in
    Puts-same sink _ _ (Ok tt) (sym (rows_upto-more job k)) (Puts-then f g h a b c (rows_upto job k) (rows_text job (k + 1)) (Ok tt) so_far one)
