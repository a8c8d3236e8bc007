-- The nodes of the bodies stay while those of a lone text come and go.
use Rattle.std.proofs.Common.{◌+◌, ◌≡◌, ℕ, zero, suc, ◌<◌, ◌≤◌, None, List, [], ◌∷◌, ◌++◌, Some, length, take, slice_get, get_or, refl, ap, ◌∙◌, sym, arith}
use Rattle.std.specs.Borrow.{Bor}
use Rattle.std.proofs.lemmas.List.{map-append, append_assoc}
use Rattle.std.proofs.lemmas.Option.{slice_get-map, slice_get-get_or, slice_get_past, slice_get_within, get_or_from_slice_get}
use Rattle.std.specs.Option.{option_map}
use Rattle.nl_exec_meaning.specs.declared.item.Item.{Item}
use Rattle.nl_tree.specs.declared.tree.Tree.{Tree}
use Rattle.nl_tree.specs.Tree.{Node}
use Rattle.nl_tree.specs.Views.{plain}
use Rattle.nl_fixed.specs.Nouns.{Names}
use Rattle.nl_tree.specs.Checked.{Checked}
use Rattle.nl_exec_meaning.specs.inner.Arena.{AreHeads, AreItems, AreNames, AreInputs, IsArena, Grows, trees_seen}
use Rattle.nl_exec_meaning.specs.Code.{node_or, missing}
use Rattle.nl_exec_meaning.proofs.Lists.{take_next, get_last, get_take, grown_get, grown_length, take_take, grows_by, grows_same, taken_length, kept_same, kept_within}
use Rattle.nl_exec_meaning.proofs.Resolved.{items_grown}
use Rattle.nl_exec_meaning.proofs.Inputs.{inputs_grown}
use Rattle.nl_exec_meaning.proofs.Heads.{heads_grown, heads_take}

pub seen_take : (n : ℕ) (ts : List (Bor Tree)) → trees_seen (take n ts) ≡ take n (trees_seen ts)
seen_take zero ts = refl
seen_take (suc n) [] = refl
seen_take (suc n) (t ∷ ts) = ap (λ xs. plain t.now ∷ xs) (seen_take n ts)

seen_push : (ts : List (Bor Tree)) (t : Bor Tree) → trees_seen (ts ++ t ∷ []) ≡ trees_seen ts ++ plain t.now ∷ []
seen_push ts t = map-append (λ (u : Bor Tree). plain u.now) ts (t ∷ [])

pub push_grows : (ts us : List (Bor Tree)) (t : Bor Tree) → us ≡ ts ++ t ∷ [] → Grows (trees_seen ts) (trees_seen us)
push_grows ts us t is = rw (is, seen_push ts t) (grows_by (trees_seen ts) (plain t.now ∷ []))

pub pushed_tree : (ts us : List (Bor Tree)) (t : Bor Tree) → us ≡ ts ++ t ∷ [] → slice_get (trees_seen us) (length (trees_seen ts)) ≡ Some (plain t.now)
pushed_tree ts us t is = rw (is, seen_push ts t) (get_last (trees_seen ts) (plain t.now))

least_next : (p : Checked) (names more : Names) (ts us : List Node) (items next : List Item) (ids heads : List (List ℕ)) (kept : ℕ) →
    IsArena p names ts items ids heads kept → Grows names more → Grows (take kept ts) us → Grows (take kept items) next → AreItems p.declared more (take kept us) (take kept next)
least_next p names more ts us items next ids heads kept h g k q =
    let full = h.full in
    let within : kept ≤ length items = (let w = h.within in omega (arith, w, full)) in
    rw (kept_same kept ts us h.within k, kept_same kept items next within q)
    (items_grown p.declared names more (take kept ts) (take kept ts) (take kept items) g (grows_same (take kept ts))
    (let a = taken_length kept ts h.within in let b = taken_length kept items within in omega (arith, a, b)) h.least)

pub code_next : (p : Checked) (names more : Names) (ts us : List Node) (items next : List Item) (ids heads heads1 : List (List ℕ)) (kept : ℕ) →
    IsArena p names ts items ids heads kept → Grows names more → AreNames more → Grows (take kept ts) us → Grows (take kept items) next →
    AreItems p.declared more us next → length next ≡ length us → AreHeads more heads1 us → IsArena p more us next ids heads1 kept
code_next p names more ts us items next ids heads heads1 kept h g apart k q right full numbered = record {
  right = right;
  full = full;
  least = least_next p names more ts us items next ids heads kept h g k q;
  within = kept_within kept ts us h.within k;
  bodies = rw (kept_same kept ts us h.within k) h.bodies;
  many = h.many;
  inputs = inputs_grown names more g ids p.declared.procedures h.inputs;
  heads = numbered;
  apart = apart;
}

pub code_back : (p : Checked) (names more : Names) (ts us : List Node) (items next : List Item) (ids heads heads1 : List (List ℕ)) (kept : ℕ) →
    IsArena p names ts items ids heads kept → Grows names more → AreNames more → Grows (take kept ts) us → Grows (take kept items) next → Grows (take kept heads) heads1 →
    IsArena p more (take kept us) (take kept next) ids (take kept heads1) kept
code_back p names more ts us items next ids heads heads1 kept h g apart k q j =
    let full = h.full in
    let within : kept ≤ length items = (let w = h.within in omega (arith, w, full)) in
    let least = least_next p names more ts us items next ids heads kept h g k q in
    let a = taken_length kept us (kept_within kept ts us h.within k) in
    let b = taken_length kept next (kept_within kept items next within q) in
    record {
      right = least;
      full = b ∙ sym a;
      least = rw (take_take kept kept us (omega arith), take_take kept kept next (omega arith)) least;
      within = omega (arith, a);
      bodies = rw (take_take kept kept us (omega arith), kept_same kept ts us h.within k) h.bodies;
      many = h.many;
      inputs = inputs_grown names more g ids p.declared.procedures h.inputs;
      heads = rw (kept_same kept ts us h.within k, kept_same kept heads heads1 (let w = h.within in let n = h.heads.0 in omega (arith, w, n)) j)
          (heads_grown names more g (take kept heads) (take kept ts) (heads_take names kept heads ts h.heads));
      apart = apart;
    }

-- the first code of a program
pub code_first : (p : Checked) (names : Names) (bodies ts : List Node) (items : List Item) (ids heads : List (List ℕ)) (kept : ℕ) →
    AreItems p.declared names ts items → length items ≡ length ts → kept ≡ length items → bodies ≡ p.bodies → length p.bodies ≡ length p.declared.procedures → Grows bodies ts → AreNames names → AreInputs names ids p.declared.procedures → AreHeads names heads ts →
    IsArena p names ts items ids heads kept
code_first p names bodies ts items ids heads kept right full is same many g apart inputs numbered =
    let n : take kept ts ≡ ts = rw (is, full) (grows_same ts) in
    let m : take kept items ≡ items = rw is (grows_same items) in
    record {
      right = right;
      full = full;
      least = rw (n, m) right;
      within = omega (arith, is, full);
      bodies = rw (n, ← same) g;
      many = many;
      inputs = inputs;
      heads = numbered;
      apart = apart;
    }

-- the bodies stand first
pub body_right : (p : Checked) (names : Names) (ts : List Node) (items : List Item) (ids heads : List (List ℕ)) (kept i : ℕ) → IsArena p names ts items ids heads kept → i < length ids → Some (node_or (slice_get ts i)) ≡ slice_get p.bodies i
body_right p names ts items ids heads kept i h lt =
    let there : i < length p.bodies = (let a = h.many in let b = h.inputs.0 in omega (arith, lt, a, b)) in
    let le = grown_length p.bodies (take kept ts) h.bodies in
    let n = taken_length kept ts h.within in
    let same : slice_get ts i ≡ slice_get p.bodies i = sym (get_take kept ts i (omega (arith, there, le, n))) ∙ grown_get p.bodies (take kept ts) i h.bodies there in
    rw (same, slice_get-get_or p.bodies i missing there) refl

pub no_body : (p : Checked) (names : Names) (ts : List Node) (items : List Item) (ids heads : List (List ℕ)) (kept i : ℕ) → IsArena p names ts items ids heads kept → length ids ≤ i → None ≡ slice_get p.bodies i
no_body p names ts items ids heads kept i h le = sym (slice_get_past p.bodies i (let a = h.many in let b = h.inputs.0 in omega (arith, le, a, b)))

-- the node of a place is the tree there
pub seen_node : (ts : List (Bor Tree)) (i : ℕ) (t : Bor Tree) → slice_get ts i ≡ Some t → node_or (slice_get (trees_seen ts) i) ≡ plain t.now
seen_node ts i t e = ap node_or (slice_get-map (λ (u : Bor Tree). plain u.now) ts i ∙ ap (option_map (λ (u : Bor Tree). plain u.now)) e)

pub no_node : (ts : List (Bor Tree)) (i : ℕ) → slice_get ts i ≡ None → node_or (slice_get (trees_seen ts) i) ≡ missing
no_node ts i e = ap node_or (slice_get-map (λ (u : Bor Tree). plain u.now) ts i ∙ ap (option_map (λ (u : Bor Tree). plain u.now)) e)

-- one body more
pub next_body : (ts us : List (Bor Tree)) (t : Bor Tree) (first bodies : List Node) (at : ℕ) → trees_seen ts ≡ first ++ take at bodies → us ≡ ts ++ t ∷ [] → slice_get bodies at ≡ Some (plain t.now) → trees_seen us ≡ first ++ take (at + 1) bodies
next_body ts us t first bodies at old is there =
    let more : take (at + 1) bodies ≡ take at bodies ++ plain t.now ∷ [] =
    take_next bodies at (plain t.now) (slice_get_within bodies at (plain t.now) there) (sym (get_or_from_slice_get bodies at (plain t.now) (plain t.now) there)) in
    rw (is, seen_push ts t, old, more) (append_assoc first (take at bodies) (plain t.now ∷ []))

-- one tree more is seen
pub next_seen : (ts : List (Bor Tree)) (i : ℕ) (t : Bor Tree) → i < length ts → t ≡ get_or ts i t → take (i + 1) (trees_seen ts) ≡ take i (trees_seen ts) ++ plain t.now ∷ []
next_seen ts i t lt is =
    sym (seen_take (i + 1) ts) ∙ ap trees_seen (take_next ts i t lt is) ∙ seen_push (take i ts) t ∙ ap (λ xs. xs ++ plain t.now ∷ []) (seen_take i ts)
