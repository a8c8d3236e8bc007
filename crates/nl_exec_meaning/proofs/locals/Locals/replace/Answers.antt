-- A local that is put at a place.
use Rattle.std.proofs.Common.{◌≡◌, ◌<◌, ℕ, List, length, map, get_or, set, slice_get, Some, ap, ◌∙◌, sym, refl, arith}
use Rattle.std.specs.Option.{option_map}
use Rattle.std.proofs.lemmas.List.{map-set, length-map}
use Rattle.std.proofs.lemmas.Option.{slice_get-map, slice_get_read}
use Rattle.nl_exec_meaning.specs.Kept.{Kept}
use Rattle.nl_exec_meaning.specs.inner.Seen.{kept}
use Rattle.nl_exec_meaning.specs.declared.locals.Local.{Local}
use Rattle.nl_exec_meaning.proofs.locals.Locals.replace.Goals as goal

-- put at a place of a list, as it is kept
put : (ls : List Local) (ks : List Kept) (i : ℕ) (l m : Local) → map kept ls ≡ ks → m ≡ l → map kept (set ls i m) ≡ set ks i (kept l)
put ls ks i l m e f = map-set kept ls i m ∙ ap (λ (u : Local). set (map kept ls) i (kept u)) f ∙ ap (λ (us : List Kept). set us i (kept l)) e

-- what stood at a place of a list, as it was kept
stood : (ls : List Local) (ks : List Kept) (i : ℕ) (l m : Local) → map kept ls ≡ ks → i < length ks → m ≡ l → l ≡ get_or ls i l → slice_get ks i ≡ Some (kept m)
stood ls ks i l m e h s f =
    let n : i < length ls = omega (arith, simp length-map at (ap length e)) in
    ap (λ (us : List Kept). slice_get us i) (sym e) ∙ slice_get-map kept ls i ∙ ap (option_map kept) (slice_get_read ls (length ls) i l refl n f) ∙ ap (λ (u : Local). Some (kept u)) (sym s)

pub returns-clause-new : goal.returns-clause-new
returns-clause-new c = put c.self.inside.list.items c.args.self.now c.args.at c.args.local c.replace.new.dest c.self.view_is c.replace.ensures.after

pub returns-clause-old : goal.returns-clause-old
returns-clause-old c = stood c.self.inside.list.items c.args.self.now c.args.at c.index_mut-place.result.now c.replace.result c.self.view_is c.requires c.replace.ensures.value c.index_mut-place.ensures.value
