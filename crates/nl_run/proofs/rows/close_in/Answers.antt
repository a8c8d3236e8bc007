-- The last row is taken off, and comes back with the end, or before the row that has it.
use Rattle.std.proofs.Common.{◌≡◌, List, [], ◌∷◌, ◌++◌, OnOk, Result, Ok, Err, refl, ap, ◌∙◌, sym}
use Rattle.std.specs.Prelude.{◌==◌}
use Rattle.nl_run.specs.Rows.{closing, with_end}
use Rattle.nl_run.specs.declared.rows.Row.{Row}
use Rattle.nl_run.proofs.rows.close_in.Goals as goal

last_more : (last : Row) (rs : List Row) (r : Row) → closing last (rs ++ r ∷ []) ≡ rs ++ with_end (r.step == last.step) last r
last_more last [] r = refl
last_more last (s ∷ []) r = refl
last_more last (s ∷ t ∷ rs) r = ap (λ xs. s ∷ xs) (last_more last (t ∷ rs) r)

on_ok : {X E P Q : Type 0} (r : Result X E) → OnOk r P → (P → Q) → OnOk r Q
on_ok (Ok x) p next = next p
on_ok (Err e) p next = tt

pub returns : goal.returns
returns c =
    let rows = c.pop.new.self.items in
    let row = c.in-Some.row in
    let was : c.args.rows.now.items ≡ rows ++ row ∷ [] = c.in-Some.ensures.items in
    on_ok c.put_with_end.result c.put_with_end.ensures (λ is. is ∙ sym (last_more c.args.last rows row) ∙ ap (closing c.args.last) (sym was))
