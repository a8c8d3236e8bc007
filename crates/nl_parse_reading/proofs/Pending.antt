-- What an operator's left side is the value of.
use Rattle.std.proofs.Common.{◌≡◌, ℕ, zero, suc, ◌+◌, ◌<◌, ◌≤◌, true, false, List, [], ◌∷◌, take, get_or, length, refl, sym, ap, ◌∙◌, arith}
use Rattle.nl_tree.specs.Tree.{Node}
use Rattle.nl_tree.specs.Grammar.{top}
use Rattle.nl_tree.specs.Vocabulary.{among}
use Rattle.nl_parse_grammar.specs.Fault.{known_got}
use Rattle.nl_parse_grammar.specs.declared.pending.Shape.{Shape}
use Rattle.nl_parse_grammar.specs.Machine as M
use Rattle.nl_parse_grammar.specs.Machine.{got, closes, build, built_shape, settle}
use Rattle.nl_parse_reading.specs.declared.frames.Frame.{Frame}
use Rattle.nl_parse_reading.specs.inner.Reading.{frame_of, frames_onto, names_onto}
use Rattle.nl_parse_reading.proofs.Capped.{frames_at}

settle_open : (l : ℕ) (x : Shape) (t : Node) (f : M.Frame) (K : List M.Frame) → closes l f ≡ false → settle l x t (f ∷ K) ≡ got x t (f ∷ K)
settle_open l x t f K h = rw (h, settle) refl

settle_closed : (l : ℕ) (x : Shape) (t : Node) (f : M.Frame) (K : List M.Frame) → closes l f ≡ true → settle l x t (f ∷ K) ≡ settle l (built_shape f) (build f t) K
settle_closed l x t f K h = rw (h, settle) refl

-- what is left of the frames where an operator has ended the newest ones
abbrev pub Left : List Frame → ℕ → Type 0
Left fs n = (e : List (List ℕ)) (x : Shape) (t : Node) → (y : Shape) × (u : Node) × (settle top x t (frames_onto fs e []) ≡ settle top y u (frames_onto (take n fs) e []))

pub one_less_left : (fs : List Frame) (n k : ℕ) (f : Frame) → n ≡ k + 1 → k < length fs → f ≡ get_or fs k f → ((e : List (List ℕ)) → true ≡ closes top (frame_of e f)) → Left fs n → Left fs k
one_less_left fs n k f j h q c left e x t =
    let (y, u, same) = left e x t in
    let F = frame_of (names_onto (take k fs) e) f in
    let K = frames_onto (take k fs) e [] in
    (built_shape F, build F u, same ∙ ap (λ i. settle top y u (frames_onto (take i fs) e [])) j ∙ ap (settle top y u) (frames_at fs k f e h q) ∙ settle_closed top y u F K (sym (c (names_onto (take k fs) e))))

-- the newest frame that is left open
pub open_left : (fs : List Frame) (n k : ℕ) (f : Frame) → n ≡ k + 1 → k < length fs → f ≡ get_or fs k f → ((e : List (List ℕ)) → false ≡ closes top (frame_of e f)) → Left fs n → (e : List (List ℕ)) (x : Shape) (t : Node) → (y : Shape) × (u : Node) × (settle top x t (frames_onto fs e []) ≡ got y u (frame_of (names_onto (take k fs) e) f ∷ frames_onto (take k fs) e []))
open_left fs n k f j h q c left e x t =
    let (y, u, same) = left e x t in
    let F = frame_of (names_onto (take k fs) e) f in
    let K = frames_onto (take k fs) e [] in
    (y, u, same ∙ ap (λ i. settle top y u (frames_onto (take i fs) e [])) j ∙ ap (settle top y u) (frames_at fs k f e h q) ∙ settle_open top y u F K (sym (c (names_onto (take k fs) e))))

pub none_left : (w : List ℕ) (fs : List Frame) (n : ℕ) (known e : List (List ℕ)) (x : Shape) (t : Node) → n ≤ 0 → (y : Shape) × (u : Node) × (settle top x t (frames_onto fs e []) ≡ settle top y u (frames_onto (take n fs) e [])) → among w (known_got known (settle top x t (frames_onto fs e []))) ≡ among w known
none_left w fs zero known e x t h (y, u, q) = ap (λ s. among w (known_got known s)) q
none_left w fs (suc n) known e x t h s = absurd (omega (arith, h))
