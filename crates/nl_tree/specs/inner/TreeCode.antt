-- A code for plain trees, by which a proof tells them apart: the nodes one after another, each with the number of its parts.
use Rattle.std.specs.Prelude.{◌≡◌, ℕ, zero, suc, ◌+◌, ◌≤◌, ℤ, pos, List, [], ◌∷◌, refl}
use Rattle.std.proofs.Common.{ap, arith}
use Rattle.std.specs.Coded.{Coded, code_by, coded_list, coded_ℕ, coded_ℤ, coded×}
use Rattle.nl_tree.specs.declared.tree.Label.{Label}
use Rattle.nl_tree.specs.declared.tree.Label.TheVariants as label
use Rattle.nl_tree.specs.Tree.{Node, node, Nodes, none, more}

-- a label as its kind, a number, a text and a list of texts
abbrev pub Written : Type 0
Written = ℕ × (ℤ × (List ℕ × List (List ℕ)))

abbrev pub label_written : Label → Written
label_written (label.Number n) = (0, (n, ([], [])))
label_written (label.Text bytes) = (1, (pos 0, (bytes, [])))
label_written label.List = (2, (pos 0, ([], [])))
label_written (label.Named bytes) = (3, (pos 0, (bytes, [])))
label_written label.Negate = (4, (pos 0, ([], [])))
label_written label.Paren = (5, (pos 0, ([], [])))
label_written label.Commands = (6, (pos 0, ([], [])))
label_written label.Reporter = (7, (pos 0, ([], [])))
label_written (label.Arrow names) = (8, (pos 0, ([], names)))

abbrev pub label_of : ℕ → ℤ → List ℕ → List (List ℕ) → Label
label_of zero n bytes names = label.Number n
label_of (suc zero) n bytes names = label.Text bytes
label_of (suc (suc zero)) n bytes names = label.List
label_of (suc (suc (suc zero))) n bytes names = label.Named bytes
label_of (suc (suc (suc (suc zero)))) n bytes names = label.Negate
label_of (suc (suc (suc (suc (suc zero))))) n bytes names = label.Paren
label_of (suc (suc (suc (suc (suc (suc zero)))))) n bytes names = label.Commands
label_of (suc (suc (suc (suc (suc (suc (suc zero))))))) n bytes names = label.Reporter
label_of (suc (suc (suc (suc (suc (suc (suc (suc k)))))))) n bytes names = label.Arrow names

abbrev pub label_read : Written → Label
label_read w = label_of w.0 w.1.0 w.1.1.0 w.1.1.1

label_again : (l : Label) → label_read (label_written l) ≡ l
label_again (label.Number n) = refl
label_again (label.Text bytes) = refl
label_again label.List = refl
label_again (label.Named bytes) = refl
label_again label.Negate = refl
label_again label.Paren = refl
label_again label.Commands = refl
label_again label.Reporter = refl
label_again (label.Arrow names) = refl

-- a node without its parts: label, place, number of parts
abbrev pub Item : Type 0
Item = Written × ((ℕ × ℕ) × ℕ)

abbrev pub count : Nodes → ℕ
count none = 0
count (more t ts) = suc (count ts)

abbrev mutual
  pub written : Node → List Item → List Item
  written (node l s ts) r = (label_written l, ((s.start, s.len), count ts)) ∷ all_written ts r

  pub all_written : Nodes → List Item → List Item
  all_written none r = r
  all_written (more t ts) r = written t (all_written ts r)

-- enough room to read a tree back
abbrev mutual
  pub room : Node → ℕ
  room (node l s ts) = suc (rooms ts)

  pub rooms : Nodes → ℕ
  rooms none = 1
  rooms (more t ts) = suc (room t + rooms ts)

abbrev pub nothing : Node
nothing = node label.List (record { start = 0; len = 0 }) none

abbrev pub with_node : Item → Nodes × List Item → Node × List Item
with_node i q = (node (label_read i.0) (record { start = i.1.0.0; len = i.1.0.1 }) q.0, q.1)

abbrev pub with_first : Node → Nodes × List Item → Nodes × List Item
with_first t q = (more t q.0, q.1)

abbrev mutual
  pub read : ℕ → List Item → Node × List Item
  read zero xs = (nothing, [])
  read (suc f) [] = (nothing, [])
  read (suc f) (i ∷ xs) = with_node i (read_all f i.1.1 xs)

  pub read_all : ℕ → ℕ → List Item → Nodes × List Item
  read_all zero n xs = (none, [])
  read_all (suc f) zero xs = (none, xs)
  read_all (suc f) (suc n) xs = with_first ((read f xs).0) (read_all f n ((read f xs).1))

mutual
  read-written : (t : Node) (f : ℕ) (r : List Item) → room t ≤ f → read f (written t r) ≡ (t, r)
  read-written (node l s ts) zero r h = absurd (omega (arith, h))
  read-written (node l s ts) (suc f) r h =
      rw (read_all-written ts f r (omega (arith, h)), label_again l) refl

  read_all-written : (ts : Nodes) (f : ℕ) (r : List Item) → rooms ts ≤ f → read_all f (count ts) (all_written ts r) ≡ (ts, r)
  read_all-written none zero r h = absurd (omega (arith, h))
  read_all-written none (suc f) r h = refl
  read_all-written (more t ts) zero r h = absurd (omega (arith, h))
  read_all-written (more t ts) (suc f) r h =
      rw (read-written t f (all_written ts r) (omega (arith, h)), read_all-written ts f r (omega (arith, h))) refl

abbrev pub to_code : Node → ℕ × List Item
to_code t = (room t, written t [])

abbrev pub from_code : ℕ × List Item → Node
from_code c = (read c.0 c.1).0

pub again : (t : Node) → from_code (to_code t) ≡ t
again t = ap (λ q. q.0) (read-written t (room t) [] (omega arith))

abbrev pub coded_item : Coded Item
coded_item =
    coded× (coded× coded_ℕ (coded× coded_ℤ (coded× (coded_list coded_ℕ) (coded_list (coded_list coded_ℕ))))) (coded× (coded× coded_ℕ coded_ℕ) coded_ℕ)

abbrev pub node_code : Coded Node
node_code = code_by (ℕ × List Item) (coded× coded_ℕ (coded_list coded_item)) to_code from_code again
