-- Equality is an equivalence.
use Rattle.std.specs.Prelude.{◌≡◌, Bool, true, false, ◌&&◌, refl}
use Rattle.std.specs.Str.{bytes_eq}
use Rattle.std.specs.Cmp.{IsEquivalence, bool_eq_equiv}
use Rattle.std.proofs.lemmas.Bool.{false≢true}
use Rattle.std.proofs.lemmas.Cmp.{nat_eq_equiv, int_eq_equiv, lists_equiv}
use Rattle.nl_value.specs.declared.sets.AgentKind.{AgentKind}
use Rattle.nl_value.specs.declared.sets.AgentKind.TheVariants.{Turtle, Patch, Link}
use Rattle.nl_value.specs.declared.sets.AgentSet.{AgentSet}
use Rattle.nl_value.specs.Sets.{set_kind}
use Rattle.nl_value.specs.Plain.{Plain, Plains, PlainNumber, PlainTruth, PlainWords, PlainItems, PlainTurtle, PlainPatch, PlainLink, PlainNobody, PlainSet, no_items, item_then}
use Rattle.nl_value.specs.Living.{Living, same_kind, same_sets}
use Rattle.nl_value.specs.Equality.{settled, alike, all_alike, same_values}

abbrev bytes_equiv : IsEquivalence bytes_eq
bytes_equiv = lists_equiv nat_eq_equiv

both_true : (a b : Bool) → a ≡ true → b ≡ true → (a && b) ≡ true
both_true true b e f = f
both_true false b e f = e

both_same : (a b c d : Bool) → a ≡ c → b ≡ d → (a && b) ≡ (c && d)
both_same a b c d e f = rw (e, f) refl

both_left : (a b : Bool) → (a && b) ≡ true → a ≡ true
both_left true b e = refl
both_left false b e = e

both_right : (a b : Bool) → (a && b) ≡ true → b ≡ true
both_right true b e = e
both_right false b e = absurd (false≢true e)

kind_refl : (k : AgentKind) → same_kind k k ≡ true
kind_refl Turtle = refl
kind_refl Patch = refl
kind_refl Link = refl

kind_symm : (k l : AgentKind) → same_kind k l ≡ same_kind l k
kind_symm Turtle Turtle = refl
kind_symm Patch Patch = refl
kind_symm Link Link = refl
kind_symm k l = refl

kind_congr : (k l m : AgentKind) → same_kind k l ≡ true → same_kind k m ≡ same_kind l m
kind_congr Turtle Turtle m h = refl
kind_congr Patch Patch m h = refl
kind_congr Link Link m h = refl
kind_congr k l m h = absurd (false≢true h)

sets_refl : (w : Living) (s : AgentSet) → same_sets w s s ≡ true
sets_refl w s = both_true (same_kind (set_kind s) (set_kind s)) (bytes_eq (w.members s) (w.members s)) (kind_refl (set_kind s)) (bytes_equiv.refl (w.members s))

sets_symm : (w : Living) (s t : AgentSet) → same_sets w s t ≡ same_sets w t s
sets_symm w s t =
    both_same (same_kind (set_kind s) (set_kind t)) (bytes_eq (w.members s) (w.members t)) (same_kind (set_kind t) (set_kind s)) (bytes_eq (w.members t) (w.members s))
    (kind_symm (set_kind s) (set_kind t)) (bytes_equiv.symm (w.members s) (w.members t))

sets_congr : (w : Living) (s t u : AgentSet) → same_sets w s t ≡ true → same_sets w s u ≡ same_sets w t u
sets_congr w s t u h =
    both_same (same_kind (set_kind s) (set_kind u)) (bytes_eq (w.members s) (w.members u)) (same_kind (set_kind t) (set_kind u)) (bytes_eq (w.members t) (w.members u))
    (kind_congr (set_kind s) (set_kind t) (set_kind u) (both_left (same_kind (set_kind s) (set_kind t)) (bytes_eq (w.members s) (w.members t)) h))
    (bytes_equiv.congr (w.members s) (w.members t) (w.members u) (both_right (same_kind (set_kind s) (set_kind t)) (bytes_eq (w.members s) (w.members t)) h))

mutual
  alike_refl : (w : Living) (p : Plain) → alike w p p ≡ true
  alike_refl w (PlainNumber m) = int_eq_equiv.refl m
  alike_refl w (PlainTruth m) = bool_eq_equiv.refl m
  alike_refl w (PlainWords m) = bytes_equiv.refl m
  alike_refl w (PlainItems ms) = all_alike_refl w ms
  alike_refl w (PlainTurtle m) = nat_eq_equiv.refl m
  alike_refl w (PlainPatch m) = nat_eq_equiv.refl m
  alike_refl w (PlainLink m) = nat_eq_equiv.refl m
  alike_refl w PlainNobody = refl
  alike_refl w (PlainSet s) = sets_refl w s

  all_alike_refl : (w : Living) (ps : Plains) → all_alike w ps ps ≡ true
  all_alike_refl w no_items = refl
  all_alike_refl w (item_then p ps) = both_true (alike w p p) (all_alike w ps ps) (alike_refl w p) (all_alike_refl w ps)

mutual
  alike_symm : (w : Living) (p q : Plain) → alike w p q ≡ alike w q p
  alike_symm w (PlainNumber m) (PlainNumber n) = int_eq_equiv.symm m n
  alike_symm w (PlainTruth m) (PlainTruth n) = bool_eq_equiv.symm m n
  alike_symm w (PlainWords m) (PlainWords n) = bytes_equiv.symm m n
  alike_symm w (PlainItems ms) (PlainItems ns) = all_alike_symm w ms ns
  alike_symm w (PlainTurtle m) (PlainTurtle n) = nat_eq_equiv.symm m n
  alike_symm w (PlainPatch m) (PlainPatch n) = nat_eq_equiv.symm m n
  alike_symm w (PlainLink m) (PlainLink n) = nat_eq_equiv.symm m n
  alike_symm w PlainNobody PlainNobody = refl
  alike_symm w (PlainSet s) (PlainSet t) = sets_symm w s t
  alike_symm w p q = refl

  all_alike_symm : (w : Living) (ps qs : Plains) → all_alike w ps qs ≡ all_alike w qs ps
  all_alike_symm w no_items no_items = refl
  all_alike_symm w no_items (item_then q qs) = refl
  all_alike_symm w (item_then p ps) no_items = refl
  all_alike_symm w (item_then p ps) (item_then q qs) = both_same (alike w p q) (all_alike w ps qs) (alike w q p) (all_alike w qs ps) (alike_symm w p q) (all_alike_symm w ps qs)

mutual
  alike_congr : (w : Living) (p q r : Plain) → alike w p q ≡ true → alike w p r ≡ alike w q r
  alike_congr w (PlainNumber m) (PlainNumber n) (PlainNumber o) h = int_eq_equiv.congr m n o h
  alike_congr w (PlainNumber m) (PlainNumber n) r h = refl
  alike_congr w (PlainTruth m) (PlainTruth n) (PlainTruth o) h = bool_eq_equiv.congr m n o h
  alike_congr w (PlainTruth m) (PlainTruth n) r h = refl
  alike_congr w (PlainWords m) (PlainWords n) (PlainWords o) h = bytes_equiv.congr m n o h
  alike_congr w (PlainWords m) (PlainWords n) r h = refl
  alike_congr w (PlainItems ms) (PlainItems ns) (PlainItems os) h = all_alike_congr w ms ns os h
  alike_congr w (PlainItems ms) (PlainItems ns) r h = refl
  alike_congr w (PlainTurtle m) (PlainTurtle n) (PlainTurtle o) h = nat_eq_equiv.congr m n o h
  alike_congr w (PlainTurtle m) (PlainTurtle n) r h = refl
  alike_congr w (PlainPatch m) (PlainPatch n) (PlainPatch o) h = nat_eq_equiv.congr m n o h
  alike_congr w (PlainPatch m) (PlainPatch n) r h = refl
  alike_congr w (PlainLink m) (PlainLink n) (PlainLink o) h = nat_eq_equiv.congr m n o h
  alike_congr w (PlainLink m) (PlainLink n) r h = refl
  alike_congr w PlainNobody PlainNobody r h = refl
  alike_congr w (PlainSet s) (PlainSet t) (PlainSet u) h = sets_congr w s t u h
  alike_congr w (PlainSet s) (PlainSet t) r h = refl
  alike_congr w p q r h = absurd (false≢true h)

  all_alike_congr : (w : Living) (ps qs rs : Plains) → all_alike w ps qs ≡ true → all_alike w ps rs ≡ all_alike w qs rs
  all_alike_congr w no_items no_items rs h = refl
  all_alike_congr w no_items (item_then q qs) rs h = absurd (false≢true h)
  all_alike_congr w (item_then p ps) no_items rs h = absurd (false≢true h)
  all_alike_congr w (item_then p ps) (item_then q qs) no_items h = refl
  all_alike_congr w (item_then p ps) (item_then q qs) (item_then r rs) h =
      both_same (alike w p r) (all_alike w ps rs) (alike w q r) (all_alike w qs rs)
      (alike_congr w p q r (both_left (alike w p q) (all_alike w ps qs) h))
      (all_alike_congr w ps qs rs (both_right (alike w p q) (all_alike w ps qs) h))

pub same_values_equiv : (w : Living) → IsEquivalence (same_values w)
same_values_equiv w = record {
  refl = λ a. alike_refl w (settled w a);
  symm = λ a b. alike_symm w (settled w a) (settled w b);
  congr = λ a b c. alike_congr w (settled w a) (settled w b) (settled w c);
}
