-- Prefixes that were appended.
use Rattle.std.proofs.Common.{◌≡◌, ℕ, List, [], ◌++◌, take, drop, sym, refl, ap, ◌∙◌, Bool, true, false, cond, Some, append-nil}
use Rattle.std.proofs.Math.ListN.{take-append-drop}
use Rattle.nl_outer.specs.Bytes.{PartAppended}

-- whether the bytes went in or not, a prefix of the piece was appended
pub PartAppended-take : (ok : Bool) (old new piece : List ℕ) (kept : ℕ)
    → new ≡ cond ok (old ++ take kept piece) old
    → PartAppended (Some old) (Some new) piece
PartAppended-take true old new piece kept e =
    record {
      kept = take kept piece;
      rest = drop kept piece;
      whole = sym (take-append-drop kept piece);
      appended = ap Some e;
    }
PartAppended-take false old new piece kept e =
    record { kept = []; rest = piece; whole = refl; appended = ap Some (e ∙ sym (append-nil old)) }
