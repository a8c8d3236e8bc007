use Rattle.std.proofs.Common.{◌≡◌, ◌∙◌, List, [], ◌∷◌, ◌++◌, ℕ, ap, sym, arith}
use Rattle.std.proofs.lemmas.Grind.{common_steps}
use Rattle.nl_tree.specs.Vocabulary.{among}
use Rattle.nl_parse_reading.proofs.Indexed.{both_pushed}
use Rattle.nl_parse_reading.proofs.known_names.KnownNames.push.Goals as goal

pub invariant_of-self-2 : goal.invariant_of-self-2
invariant_of-self-2 c = λ q.
    let names = c.self.inside.list.items in
    let copied : c.in_ok-key.key.items ≡ c.args.name = grind (arith, common_steps) in
    let pushed : c.push.new.self.items ≡ names ++ c.args.name ∷ [] = c.in-Ok.ensures.items ∙ ap (λ (ns : List (List ℕ)). ns ++ c.args.name ∷ []) c.reserve.ensures.items in
    both_pushed (λ key. key.items) names c.args.name c.in_ok-key.key c.self.inside.index.keys c.insert.new.self.keys c.in_ok-insert.field-0 copied c.in_ok-insert.ensures.added c.in_ok-insert.ensures.keys c.self.invariant q
    ∙ ap (among q) (sym pushed)
