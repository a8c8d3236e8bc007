-- Items stay right while trees, names and items grow.
use Rattle.std.proofs.Common.{length-append, get_or, ◌≡◌, ℕ, zero, suc, ◌+◌, ◌<◌, ◌≤◌, inl, inr, List, [], ◌∷◌, ◌++◌, Some, None, length, take, drop, slice_get, refl, ap, ◌∙◌, sym, arith}
use Rattle.std.proofs.lemmas.Option.{slice_get_within, slice_get_read, slice_get-map, slice_get-get_or, slice_get_cases, slice_get_past}
use Rattle.std.specs.Borrow.{Bor}
use Rattle.std.specs.Option.{option_map}
use Rattle.nl_fixed.specs.Nouns.{Names}
use Rattle.nl_tree.specs.declared.declared.Declared.{Declared}
use Rattle.nl_tree.specs.declared.tree.Label.{Label}
use Rattle.nl_tree.specs.declared.tree.Tree.{Tree}
use Rattle.nl_tree.specs.Tree.{Node, parts, label}
use Rattle.nl_tree.specs.Views.{plain}
use Rattle.nl_exec_meaning.specs.declared.item.Op.{Op}
use Rattle.nl_exec_meaning.specs.declared.item.Op.TheVariants as op
use Rattle.nl_exec_meaning.specs.declared.item.Item.{Item}
use Rattle.nl_exec_meaning.specs.Cases.{Local}
use Rattle.nl_exec_meaning.specs.Code.{case_of_op, name_or, node_or, missing}
use Rattle.nl_exec_meaning.specs.inner.Arena.{IsNumbered, IsItem, AreItems, Grows, trees_seen}
use Rattle.nl_exec_meaning.proofs.Lists.{get_snoc, grown_length, grown_get, get_take, get_drop, drop_at, drop_past, take_take, taken_length}

-- so many elements from a place on
ranged : {A : Type 0} (f c : ℕ) (xs : List A) → f + c ≤ length xs → length (take c (drop f xs)) ≡ c
ranged zero c xs h = taken_length c xs (omega (arith, h))
ranged (suc f) c [] h = let e : c ≡ 0 = absurd (omega (arith, h)) in rw e refl
ranged (suc f) c (x ∷ xs) h = ranged f c xs (omega (arith, h))

range_take : {A : Type 0} (n f c : ℕ) (xs : List A) → f + c ≤ n → take c (drop f (take n xs)) ≡ take c (drop f xs)
range_take n zero c xs h = take_take n c xs (omega (arith, h))
range_take zero (suc f) c xs h = absurd (omega (arith, h))
range_take (suc n) (suc f) c [] h = refl
range_take (suc n) (suc f) c (x ∷ xs) h = range_take n f c xs (omega (arith, h))

pub range_grown : {A : Type 0} (old new : List A) (f c : ℕ) → Grows old new → f + c ≤ length old → take c (drop f new) ≡ take c (drop f old)
range_grown old new f c g h = sym (range_take (length old) f c new h) ∙ ap (λ xs. take c (drop f xs)) g

pub case_grown : (names more : Names) → Grows names more → (it : Op) → IsNumbered names it → (l : Label) → case_of_op more l it ≡ case_of_op names l it
case_grown names more g (op.Number count) h l = refl
case_grown names more g op.Words h l = refl
case_grown names more g op.Items h l = refl
case_grown names more g op.Negation h l = refl
case_grown names more g op.Inside h l = refl
case_grown names more g op.Statements h l = refl
case_grown names more g (op.Local id) h l = ap (λ o. Local (name_or o id)) (grown_get names more id g h)
case_grown names more g (op.Global slot) h l = refl
case_grown names more g (op.Owned runs slot) h l = refl
case_grown names more g (op.Aside runs which) h l = refl
case_grown names more g (op.Procedure index) h l = refl
case_grown names more g (op.Word runs breed word) h l = refl
case_grown names more g op.Nothing h l = refl

pub numbered_grown : (names more : Names) → Grows names more → (it : Op) → IsNumbered names it → IsNumbered more it
numbered_grown names more g (op.Number count) h = tt
numbered_grown names more g op.Words h = tt
numbered_grown names more g op.Items h = tt
numbered_grown names more g op.Negation h = tt
numbered_grown names more g op.Inside h = tt
numbered_grown names more g op.Statements h = tt
numbered_grown names more g (op.Local id) h = let le = grown_length names more g in omega (arith, h, le)
numbered_grown names more g (op.Global slot) h = tt
numbered_grown names more g (op.Owned runs slot) h = tt
numbered_grown names more g (op.Aside runs which) h = tt
numbered_grown names more g (op.Procedure index) h = tt
numbered_grown names more g (op.Word runs breed word) h = tt
numbered_grown names more g op.Nothing h = tt

item_grown : (d : Declared) (names more : Names) (ts us : List Node) → Grows names more → Grows ts us → (it : Item) (t : Node) → IsItem d names ts it t → IsItem d more us it t
item_grown d names more ts us g k it t h = record {
  op = case_grown names more g it.op h.numbered (label t) ∙ h.op;
  numbered = numbered_grown names more g it.op h.numbered;
  place = h.place;
  within = (let le = grown_length ts us k in let w = h.within in omega (arith, w, le));
  fits = h.fits;
  parts = range_grown ts us it.first it.count k h.within ∙ h.parts;
}

pub items_grown : (d : Declared) (names more : Names) (ts us : List Node) (items : List Item) → Grows names more → Grows ts us → length items ≤ length ts → AreItems d names ts items → AreItems d more us items
items_grown d names more ts us items g k le h i it t e f =
    let lt = slice_get_within items i it e in
    item_grown d names more ts us g k it t (h i it t e (sym (grown_get ts us i k (omega (arith, lt, le))) ∙ f))

some_same : {A : Type 0} (a b : A) → Some a ≡ Some b → a ≡ b
some_same a b e = cc

pub items_push : (d : Declared) (names : Names) (ts : List Node) (items : List Item) (it : Item) (t : Node) → AreItems d names ts items → slice_get ts (length items) ≡ Some t → IsItem d names ts it t → AreItems d names ts (items ++ it ∷ [])
items_push d names ts items it t h at new i other u e f = elim (get_snoc items it i other e) [
  | inl a ↦ h i other u a f
  | inr (a, b) ↦ let same : t ≡ u = some_same t u (sym at ∙ ap (slice_get ts) (sym a) ∙ f) in rw (← b, ← same) new
]

pub tree_seen : (ts : List (Bor Tree)) (i : ℕ) (t : Bor Tree) → i < length ts → t ≡ get_or ts i t → slice_get (trees_seen ts) i ≡ Some (plain t.now)
tree_seen ts i t lt is = slice_get-map (λ u. plain u.now) ts i ∙ ap (option_map (λ u. plain u.now)) (slice_get_read ts (length ts) i t refl lt is)

pub next_tree : (ts : List (Bor Tree)) (n i : ℕ) (t : Bor Tree) → i ≡ n → n < length ts → t ≡ get_or ts i t → slice_get (trees_seen ts) n ≡ Some (plain t.now)
next_tree ts n i t e lt is = tree_seen ts n t lt (rw (← e) is)

pub trees_length : (ts : List (Bor Tree)) → length (trees_seen ts) ≡ length ts
trees_length [] = refl
trees_length (t ∷ ts) = ap suc (trees_length ts)

pub still_fewer : (ts us : List (Bor Tree)) (items more : List Item) (it : Item) → Grows (trees_seen ts) (trees_seen us) → length items < length ts → more ≡ items ++ it ∷ [] → length more ≤ length us
still_fewer ts us items more it g lt is =
    let n : length more ≡ suc (length items) = rw is (omega (arith, length-append items (it ∷ []))) in
    omega (arith, n, lt, grown_length (trees_seen ts) (trees_seen us) g, trees_length ts, trees_length us)

-- one item more
pub step_right : (d : Declared) (names more : Names) (ts us : List (Bor Tree)) (items next : List Item) (it : Item) (t : Node) →
    AreItems d names (trees_seen ts) items → Grows names more → Grows (trees_seen ts) (trees_seen us) → length items < length ts → slice_get (trees_seen ts) (length items) ≡ Some t →
    IsItem d more (trees_seen us) it t → next ≡ items ++ it ∷ [] → AreItems d more (trees_seen us) next
step_right d names more ts us items next it t h g k lt at new is =
    let le : length items ≤ length (trees_seen ts) = omega (arith, lt, trees_length ts) in
    let there : slice_get (trees_seen us) (length items) ≡ Some t = grown_get (trees_seen ts) (trees_seen us) (length items) k (omega (arith, lt, trees_length ts)) ∙ at in
    rw is (items_push d more (trees_seen us) items it t (items_grown d names more (trees_seen ts) (trees_seen us) items g k le h) there new)

none_some : {A : Type 0} (x : A) → None ≡ Some x → ⊥
none_some x e = cc

-- What accessors give.

pub found_item : (d : Declared) (names : Names) (ts : List Node) (items : List Item) (i : ℕ) (it : Item) → AreItems d names ts items → length items ≡ length ts → slice_get items i ≡ Some it → IsItem d names ts it (node_or (slice_get ts i))
found_item d names ts items i it h e f =
    let lt = slice_get_within items i it f in
    let some : slice_get ts i ≡ Some (get_or ts i missing) = slice_get-get_or ts i missing (omega (arith, lt, e)) in
    rw some (h i it (get_or ts i missing) f some)

-- the node of a place where nothing is
nothing_right : (d : Declared) (names : Names) (ts : List Node) (it : Item) → it.op ≡ op.Items → it.span ≡ record { start = 0; len = 0 } → it.first ≡ 0 → it.count ≡ 0 → IsItem d names ts it missing
nothing_right d names ts it e f g h = record {
  op = ap (case_of_op names (label missing)) e;
  numbered = rw e tt;
  place = f;
  within = omega (arith, g, h);
  fits = omega (arith, g, h);
  parts = rw h refl;
}

pub no_item : (d : Declared) (names : Names) (ts : List Node) (items : List Item) (i : ℕ) (it : Item) → length items ≡ length ts → slice_get items i ≡ None →
    it.op ≡ op.Items → it.span ≡ record { start = 0; len = 0 } → it.first ≡ 0 → it.count ≡ 0 → IsItem d names ts it (node_or (slice_get ts i))
no_item d names ts items i it same none e f g h = elim (slice_get_cases items i).1 [
  | inl there ↦ absurd (none_some there.0 (sym none ∙ there.2))
  | inr (le, is) ↦ (let past : slice_get ts i ≡ None = slice_get_past ts i (omega (arith, le, same)) in rw past (nothing_right d names ts it e f g h))
]

pub part_some : (d : Declared) (names : Names) (ts : List Node) (it : Item) (t : Node) (at : ℕ) → IsItem d names ts it t → at < it.count → slice_get (parts t) at ≡ Some (node_or (slice_get ts (it.first + at)))
part_some d names ts it t at h lt =
    let there : it.first + at < length ts = (let w = h.within in omega (arith, w, lt)) in
    ap (λ xs. slice_get xs at) (sym h.parts) ∙ get_take it.count (drop it.first ts) at lt ∙ get_drop ts it.first at
    ∙ slice_get-get_or ts (it.first + at) missing there ∙ ap (λ o. Some (node_or o)) (sym (slice_get-get_or ts (it.first + at) missing there))

-- an item has as many parts as its node
pub part_count : (d : Declared) (names : Names) (ts : List Node) (it : Item) (t : Node) → IsItem d names ts it t → it.count ≡ length (parts t)
part_count d names ts it t h = sym (ranged it.first it.count ts h.within) ∙ ap length h.parts

pub part_none : (d : Declared) (names : Names) (ts : List Node) (it : Item) (t : Node) (at : ℕ) → IsItem d names ts it t → it.count ≤ at → slice_get (parts t) at ≡ None
part_none d names ts it t at h le = slice_get_past (parts t) at (let n = part_count d names ts it t h in omega (arith, n, le))

pub part_rest : (d : Declared) (names : Names) (ts : List Node) (it : Item) (t : Node) (at : ℕ) → IsItem d names ts it t → at < it.count → drop at (parts t) ≡ node_or (slice_get ts (it.first + at)) ∷ drop (at + 1) (parts t)
part_rest d names ts it t at h lt = drop_at (parts t) at (node_or (slice_get ts (it.first + at))) (part_some d names ts it t at h lt)

pub part_past : (d : Declared) (names : Names) (ts : List Node) (it : Item) (t : Node) (at : ℕ) → IsItem d names ts it t → it.count ≤ at → drop at (parts t) ≡ []
part_past d names ts it t at h le = drop_past (parts t) at (let n = part_count d names ts it t h in omega (arith, n, le))
