use Rattle.std.proofs.Common.{List, Some, arith, ap, subst, sym}
use Rattle.nl_decl_outline.specs.declared.declaration.Declaration.{Declaration}
use Rattle.nl_decl_outline.specs.declared.mode.Mode.TheVariants.{Between}
use Rattle.nl_decl_outline.specs.Declarations.{plurals}
use Rattle.nl_decl_outline.specs.inner.Owners.{Knows}
use Rattle.nl_decl_outline.specs.inner.Reading.{in_mode}
use Rattle.nl_decl_outline.proofs.Counting.{plurals_fewer, knows_more}
use Rattle.nl_decl_outline.proofs.reading.Reader.finish.Goals as goal

pub note-requires : goal.note-requires
note-requires c = record { room = omega (arith, c.requires.count, plurals_fewer c.args.self.now.done.items, c.args.self.now.done.small, c.args.self.now.done.ok) }

pub returns : goal.returns
returns c = record {
  follows = ap (λ (ds : List Declaration). in_mode ds (Some Between)) (sym c.in_ok-push.ensures.items);
  counts = omega arith;
  kept = subst (λ (ds : List Declaration). Knows (plurals ds) c.note.new.self) (sym c.in_ok-push.ensures.items)
      (knows_more c.args.self.now.done.items c.args.declaration c.note.new.self (c.in_ok-note.ensures (plurals c.args.self.now.done.items) c.requires));
}
