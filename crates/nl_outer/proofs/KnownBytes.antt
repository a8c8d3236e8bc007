-- The known bytes of a writer, as a piece goes to it in several writes.
use Rattle.std.proofs.Common.{◌≡◌, ℕ, ◌+◌, ◌-◌, ◌≤◌, List, ◌++◌, Option, Some, None, length, take, drop, sym, ap, ◌∙◌, append_assoc, take-add, take-take}
use Rattle.std.specs.Io.KnownBytes.{Appends, Keeps}

-- one more write goes on where those before it ended
pub Appends-more : (old mid new : Option (List ℕ)) (piece : List ℕ) (done count : ℕ)
    → count ≤ length piece - done
    → Appends old mid (take done piece)
    → Appends mid new (take count (take (length piece - done) (drop done piece)))
    → Appends old new (take (done + count) piece)
Appends-more None mid new piece done count fits before now = tt
Appends-more (Some xs) None new piece done count fits before now = absurd before
Appends-more (Some xs) (Some ys) None piece done count fits before now = absurd now
Appends-more (Some xs) (Some ys) (Some zs) piece done count fits before now =
    let rest = take count (take (length piece - done) (drop done piece)) in
    let joined : take done piece ++ rest ≡ take (done + count) piece =
    ap (λ l. take done piece ++ l) (take-take count (length piece - done) (drop done piece) fits)
    ∙ sym (take-add done count piece) in
    now
    ∙ ap (λ l. l ++ rest) before
    ∙ append_assoc xs (take done piece) rest
    ∙ ap (λ l. xs ++ l) joined

-- a write that took nothing
pub Appends-kept : (old mid new : Option (List ℕ)) (bytes : List ℕ)
    → Appends old mid bytes → Keeps mid new → Appends old new bytes
Appends-kept None mid new bytes before now = tt
Appends-kept (Some xs) None new bytes before now = absurd before
Appends-kept (Some xs) (Some ys) None bytes before now = absurd now
Appends-kept (Some xs) (Some ys) (Some zs) bytes before now = now ∙ before
