use Rattle.std.proofs.Common.{ℕ, ◌+◌, ◌≤◌, Option, Some, None, arith, sym, subst}
use Rattle.std.specs.Prelude.{IfSome}
use Rattle.nl_parse_grammar.specs.Texts.{lexeme_of}
use Rattle.nl_decl_outline.specs.declared.mode.Mode.{Mode}
use Rattle.nl_decl_outline.specs.inner.Reading.{feed_in}
use Rattle.nl_decl_outline.specs.inner.Steps.{Reaches, counted}
use Rattle.nl_decl_outline.proofs.reading.Reader.feed.Goals as goal

-- no token of a body is no more than some
weaker : (next : Option Mode) (n : ℕ) → IfSome next (λ m. counted m ≤ 0) → IfSome next (λ m. counted m ≤ n)
weaker None n none = tt
weaker (Some m) n none = omega (arith, none)

pub returns-in-Awaiting : goal.returns-in-Awaiting
returns-in-Awaiting c =
    let goes = c.open_list.ensures c.args.text.now in
    let l = lexeme_of c.args.text.now c.args.token.now in
    subst (λ (m : Mode). Reaches (feed_in c.args.self.now.done.items m l) (counted m + 1) c.args.self.now c.open_list.result) (sym c.in-Awaiting.is)
    (record { follows = goes.follows c.args.self.now.done.items; counts = weaker c.open_list.result 1 goes.counts; kept = c.requires.ready.kept })
