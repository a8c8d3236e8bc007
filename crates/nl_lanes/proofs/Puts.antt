-- The bytes of texts that are put one after another.
use Rattle.std.proofs.Common.{◌≡◌, ℕ, List, [], ◌∷◌, ◌++◌, Option, Some, None, refl, sym, ap, ◌∙◌, append_assoc, append-nil}
use Rattle.std.specs.Option.{option_map}
use Rattle.nl_fixed.specs.Nouns.{Bytes}
use Rattle.nl_outer.specs.Bytes.{Appended, PartAppended}
use Rattle.nl_lanes.specs.Runs.{LoneRuns, run_of}
use Rattle.nl_lanes.specs.Pools.{bytes_of}

pub bytes_of-append : (list : LoneRuns) (a b : List ℕ) → bytes_of list (a ++ b) ≡ bytes_of list a ++ bytes_of list b
bytes_of-append list [] b = refl
bytes_of-append list (n ∷ a) b =
    ap (λ l. (run_of list n).text ++ l) (bytes_of-append list a b)
    ∙ sym (append_assoc (run_of list n).text (bytes_of list a) (bytes_of list b))

pub Appended-nil : (held : Option Bytes) → Appended held held []
Appended-nil None = refl
Appended-nil (Some bytes) = ap Some (sym (append-nil bytes))

pub Appended-more : (old mid new : Option Bytes) (a b : Bytes) → Appended old mid a → Appended mid new b → Appended old new (a ++ b)
Appended-more None mid new a b first second = second ∙ ap (option_map (λ held. held ++ b)) first
Appended-more (Some bytes) mid new a b first second =
    second ∙ ap (option_map (λ held. held ++ b)) first ∙ ap Some (append_assoc bytes a b)

-- some pieces whole, and then a part of one, of all bytes
pub PartAppended-more : (old mid new : Option Bytes) (a b more : Bytes) → Appended old mid a → PartAppended mid new b
    → PartAppended old new (a ++ (b ++ more))
PartAppended-more old mid new a b more first second =
    record {
      kept = a ++ second.kept;
      rest = second.rest ++ more;
      whole = ap (λ l. a ++ (l ++ more)) second.whole
          ∙ ap (λ l. a ++ l) (append_assoc second.kept second.rest more)
          ∙ sym (append_assoc a second.kept (second.rest ++ more));
      appended = Appended-more old mid new a second.kept first second.appended;
    }
