-- Depths up to the first one that is too great.
use Rattle.std.proofs.Common.{◌≡◌, ℕ, zero, suc, ◌+◌, ◌<◌, ◌≤◌, max, Bool, true, false, List, [], ◌∷◌, ◌++◌, map, take, get_or, length, refl, sym, ap, ◌∙◌, arith}
use Rattle.std.proofs.lemmas.List.{take_more, take_all}
use Rattle.nl_words.specs.declared.entry.Input.{Input}
use Rattle.nl_fixed.specs.declared.span.Span.{Span}
use Rattle.nl_tree.specs.Tree.{Nodes, depths}
use Rattle.nl_tree.specs.Tokens.{repeated}
use Rattle.nl_parse_grammar.specs.declared.pending.Last.{Last}
use Rattle.nl_parse_grammar.specs.Machine as M
use Rattle.nl_parse_grammar.specs.Machine.{InBinary, InWith, InNear, InOf, InCall, InLastItem, InLastBlock, InMany, InItems, InParen, InMinus, InReporter, InNoHead, InArrowReporter, InArrowCommands, InBracket, InList, InLet, InStatementParen, InStatements}
use Rattle.nl_parse_grammar.specs.Depth.{least_inputs, least_values, frame_depth, stays_literal, whole_depth, begin_depth}
use Rattle.nl_parse_reading.specs.inner.Limit.{capped}
use Rattle.nl_parse_reading.specs.inner.View.{need_by}
use Rattle.nl_parse_reading.specs.inner.Asked.{is_in_paren}
use Rattle.nl_parse_reading.specs.declared.frames.Frame.{Frame}
use Rattle.nl_parse_reading.specs.inner.Reading.{frame_of, frames_onto, names_onto}
use Rattle.nl_parse_reading.proofs.Framed.{frames_push}

-- Inputs.

pub least_of_values : (w : Bool) (m n : ℕ) (last : Last) → least_inputs (map (need_by w m) (repeated n)) last ≡ max (least_values n) (least_inputs [] last)
least_of_values w m zero last = omega arith
least_of_values true m (suc zero) last = omega arith
least_of_values false m (suc zero) last = omega arith
least_of_values true m (suc (suc n)) last = omega (arith, least_of_values true m (suc n) last)
least_of_values false m (suc (suc n)) last = omega (arith, least_of_values false m (suc n) last)

pub least_behind : (w : Bool) (m : ℕ) (is : List Input) (n : ℕ) (last : Last) → least_inputs (map (need_by w m) (repeated n)) last ≤ least_inputs (map (need_by w m) (is ++ repeated n)) last
least_behind w m [] n last = omega arith
least_behind w m (i ∷ is) n last = omega (arith, least_behind w m is n last)

-- The whole.

capped_frame : (f : M.Frame) (b : Bool) (d : ℕ) → capped (frame_depth f b (capped d)) ≡ capped (frame_depth f b d)
capped_frame (InBinary l w s t) b d = omega arith
capped_frame (InWith w s t) b d = omega arith
capped_frame (InNear w s ts n) b d = omega arith
capped_frame (InOf w s t) b d = omega arith
capped_frame (InCall w s ts i is last) b d = omega arith
capped_frame (InLastItem w s ts) b d = omega arith
capped_frame (InLastBlock w s ts k) b d = omega arith
capped_frame (InMany w s ts n) b d = omega arith
capped_frame (InItems p l s ts) b d = omega arith
capped_frame (InParen s) b d = omega arith
capped_frame (InMinus p s) b d = omega arith
capped_frame (InReporter s) b d = omega arith
capped_frame (InNoHead s n) b d = omega arith
capped_frame (InArrowReporter s before ns) b d = omega arith
capped_frame (InArrowCommands s before ns ts) b d = omega arith
capped_frame (InBracket s) true d = omega arith
capped_frame (InBracket s) false d = omega arith
capped_frame (InList s ts) b d = omega arith
capped_frame (InLet w s n r) b d = omega arith
capped_frame (InStatementParen s) b d = omega arith
capped_frame (InStatements s k before ts) b d = omega arith

capped_twice : (d : ℕ) → capped (capped d) ≡ capped d
capped_twice d = omega arith

pub capped_whole : (b : Bool) (d : ℕ) (K : List M.Frame) → capped (whole_depth b (capped d) K) ≡ capped (whole_depth b d K)
capped_whole b d [] = capped_twice d
capped_whole b d (f ∷ K) =
    let x = frame_depth f b (capped d) in
    let y = frame_depth f b d in
    let c = stays_literal f b in
    sym (capped_whole c x K) ∙ ap (λ z. capped (whole_depth c z K)) (capped_frame f b d) ∙ capped_whole c y K

-- the frame at a place is the newest of those up to it
pub frames_at : (fs : List Frame) (k : ℕ) (f : Frame) (e : List (List ℕ)) → k < length fs → f ≡ get_or fs k f → frames_onto (take (k + 1) fs) e [] ≡ frame_of (names_onto (take k fs) e) f ∷ frames_onto (take k fs) e []
frames_at fs k f e h q = ap (λ gs. frames_onto gs e []) (take_more fs k f h ∙ ap (λ g. take k fs ++ g ∷ []) (sym q)) ∙ frames_push (take k fs) f e []

-- Where an expression begins inside a call of any number of items.

pub many_in_paren : (w : List ℕ) (s : Span) (ts : Nodes) (n : ℕ) (K : List M.Frame) → is_in_paren K ≡ true → begin_depth (InMany w s ts n ∷ K) ≡ whole_depth false (suc (depths ts)) K
many_in_paren w s ts n (InParen p ∷ K) h = refl
many_in_paren w s ts n K h = cc h

pub many_elsewhere : (w : List ℕ) (s : Span) (ts : Nodes) (n : ℕ) (K : List M.Frame) → is_in_paren K ≡ false → begin_depth (InMany w s ts n ∷ K) ≡ whole_depth false (frame_depth (InMany w s ts n) true 1) K
many_elsewhere w s ts n (InParen p ∷ K) h = cc h
many_elsewhere w s ts n K h = refl

-- one frame less, with what it makes of a part
pub one_frame_less : (fs : List Frame) (n k : ℕ) (f : Frame) (b c : Bool) (d m : ℕ) (e : List (List ℕ)) → n ≡ k + 1 → k < length fs → f ≡ get_or fs k f → ((e : List (List ℕ)) → m ≡ capped (frame_depth (frame_of e f) b d)) → ((e : List (List ℕ)) → c ≡ stays_literal (frame_of e f) b) → capped (whole_depth c m (frames_onto (take k fs) e [])) ≡ capped (whole_depth b d (frames_onto (take n fs) e []))
one_frame_less fs n k f b c d m e j h q deep lit =
    let g = names_onto (take k fs) e in
    let F = frame_of g f in
    let K = frames_onto (take k fs) e [] in
    ap (λ z. capped (whole_depth c z K)) (deep g)
    ∙ ap (λ x. capped (whole_depth x (capped (frame_depth F b d)) K)) (lit g)
    ∙ capped_whole (stays_literal F b) (frame_depth F b d) K
    ∙ ap (λ L. capped (whole_depth b d L)) (sym (frames_at fs k f e h q) ∙ ap (λ i. frames_onto (take i fs) e []) (sym j))

-- the last frame of a list is the newest
pub newest_of : (fs : List Frame) (k : ℕ) (f : Frame) (e : List (List ℕ)) → length fs ≡ k + 1 → f ≡ get_or fs k f → frames_onto fs e [] ≡ frame_of (names_onto (take k fs) e) f ∷ frames_onto (take k fs) e []
newest_of fs k f e n q = ap (λ gs. frames_onto gs e []) (sym (take_all (k + 1) fs (omega (arith, n)))) ∙ frames_at fs k f e (omega (arith, n)) q

-- a part that is told as it is
pub capped_part : (b : Bool) (d n : ℕ) (K : List M.Frame) → d ≡ capped n → capped (whole_depth b d K) ≡ capped (whole_depth b n K)
capped_part b d n K h = ap (λ x. capped (whole_depth b x K)) h ∙ capped_whole b n K

-- where no frame is left
pub at_bottom : (fs : List Frame) (n : ℕ) (b : Bool) (d : ℕ) (e : List (List ℕ)) → n ≤ 0 → capped (whole_depth b d (frames_onto (take n fs) e [])) ≡ capped d
at_bottom fs zero b d e h = refl
at_bottom fs (suc n) b d e h = absurd (omega (arith, h))
