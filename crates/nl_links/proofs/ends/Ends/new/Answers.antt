use Rattle.std.proofs.Common.{rules, ◌≡◌, ℕ, ap, None}
use Rattle.nl_links.specs.declared.ends.Ends.{Ends}
use Rattle.nl_links.specs.declared.sides.Side.TheVariants.{First, Second}
use Rattle.nl_links.specs.Sides.{border_in, sides_at}
use Rattle.nl_links.proofs.Holding.{none-filed}
use Rattle.nl_links.proofs.ends.Ends.new.Goals as goal

pub returns-clause-empty : goal.returns-clause-empty
returns-clause-empty c at =
    let ends : Ends = record { map = c.new.result; hints = c.new-2.result } in
    let none : (turtle : ℕ) → sides_at ends turtle ≡ None = search rules in
    record {
      first = none-filed 3 _ at (λ n. ap (border_in First) (none n));
      second = none-filed 4 _ at (λ n. ap (border_in Second) (none n));
      fit = λ key e. absurd (cc);
    }
