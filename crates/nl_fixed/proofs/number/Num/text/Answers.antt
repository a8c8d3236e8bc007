use Rattle.std.proofs.Common.{ℕ, List, ◌++◌, ◌%◌, ◌∙◌, ap, arith, Vec, Global}
use Rattle.std.proofs.lemmas.Int.{to_z-of_z}
use Rattle.nl_fixed.specs.Spelling.{fraction_text}
use Rattle.nl_fixed.proofs.Texts.{text_below, text_above}
use Rattle.nl_fixed.proofs.number.Num.text.Goals as goal
use Rattle.nl_fixed.proofs.number.Num.text.Goals.{then-self-lt0, else-self-lt0}

pub returns : goal.returns
returns c =
    let n = c.unsigned_abs-magnitude.result in
    let written = c.of_vec.ensures ∙ c.in_ok-push_fraction.ensures ∙ ap (λ (v : Vec ℕ Global). v.items ++ fraction_text (n % 1000000)) c.into_bytes-text.ensures.value
    ∙ ap (λ (bytes : List ℕ). bytes ++ fraction_text (n % 1000000)) c.in_ok-format.ensures.ok in
    elim c.if-self-lt0.branch [
      | then-self-lt0 w ↦ text_below c.args.self n c.of_vec.result (grind (arith, to_z-of_z)) (grind (arith, to_z-of_z)) (rw w.sign-is at written)
      | else-self-lt0 w ↦ text_above c.args.self n c.of_vec.result (grind (arith, to_z-of_z)) (grind (arith, to_z-of_z)) (rw w.sign-is at written)
    ]
