-- Lists of serials along chains.
use Rattle.std.proofs.Common.{◌≡◌, ℕ, ◌≤◌, Bool, true, false, List, [], ◌∷◌, ◌++◌, length, map, filter, Option, Some, None, ◌||◌, refl, sym, ap, ◌∙◌, arith, subst}
use Rattle.std.proofs.lemmas.List.{length-map}
use Rattle.std.proofs.lemmas.List.Sums.{count_by-le-length, length-filter}
use Rattle.std.proofs.lemmas.Grind.{common_steps}
use Rattle.nl_store_lists.specs.Laws.{IsInOrder}
use Rattle.nl_store_lists.specs.Chained.{has, IsOnce}
use Rattle.nl_store_lists.specs.Rising.{IsRisingBy}
use Rattle.nl_store_lists.proofs.Members.{has-first, has-later}
use Rattle.nl_store_lists.proofs.Rising.{rising-one, rising-same}
use Rattle.nl_store_lists.proofs.Threaded.{home-of}
use Rattle.nl_store_records.specs.Filed.{after, before, IsFiled}
use Rattle.nl_store_records.specs.declared.places.Border.{Border}
use Rattle.nl_store_records.specs.declared.record.Record.{Record}
use Rattle.nl_index.specs.Index.{first_of, serial_at}
use Rattle.nl_links.proofs.Holding.{first-key}
use Rattle.nl_store_lists.specs.Rolls.{listed_serial, passes, roll, IsRoll}
use Rattle.nl_store_lists.proofs.Walked.{numbers-rise, walked-long, walked-once, walked-rising, walked-same}
use Rattle.nl_store_files.specs.Walks.{serials_of, IsPath}
use Rattle.nl_store_files.proofs.Left.{path-of-walk}

-- a chain that is filed is a path from its first key
pub chain-path : (kind : ℕ) (borders : ℕ → Border) (at : ℕ → Option Record) (home : ℕ → Option ℕ) (lists : ℕ → List ℕ) (n : ℕ) → IsFiled kind borders at home lists → IsPath kind at (first_of (lists n)) (lists n)
chain-path kind borders at home lists n d = subst (λ x. IsPath kind at x (lists n)) (first-key kind borders at home lists n d)
    (path-of-walk kind borders at n None (lists n) (d.threaded.walk n) (λ k h. d.held k n (home-of home (after kind borders at) (before kind borders at) lists n k d.threaded h)))

map-where : (f g : ℕ → ℕ) (ks : List ℕ) → ((k : ℕ) → has ks k ≡ true → f k ≡ g k) → map f ks ≡ map g ks
map-where f g [] same = refl
map-where f g (k ∷ ks) same = ap (λ x. x ∷ map f ks) (same k (has-first k ks)) ∙ ap (λ xs. g k ∷ xs) (map-where f g ks (λ j h. same j (has-later k ks j h)))

pub filter-short : {X : Type 0} (p : X → Bool) (xs : List X) → length (filter p xs) ≤ length xs
filter-short p xs = subst (λ (n : ℕ). n ≤ length xs) (sym (length-filter p xs)) (count_by-le-length p xs)

pub filter-whole : {X : Type 0} (xs : List X) → filter (λ (x : X). true) xs ≡ xs
filter-whole [] = refl
filter-whole (x ∷ xs) = ap (λ ys. x ∷ ys) (filter-whole xs)

module _ {X : Type 0} (number_of : X → ℕ) (item : ℕ → Option X) (key_of : ℕ → Option ℕ) (n : ℕ) (d : IsRoll number_of item key_of n) (p : X → Bool) (at : ℕ → Option Record)
    (serials : (k : ℕ) (x : X) → item k ≡ Some x → serial_at at k ≡ number_of x) (ks : List ℕ) (once : IsOnce ks) (members : (k : ℕ) → has ks k ≡ passes p (item k)) where
  numbers : (k : ℕ) (o : Option X) → item k ≡ o → has ks k ≡ true → serial_at at k ≡ listed_serial number_of (item k)
  numbers k None e h = absurd (let z = sym (ap (passes p) e) ∙ sym (members k) ∙ h in cc)
  numbers k (Some x) e h = serials k x e ∙ sym (ap (listed_serial number_of) e)

  told : serials_of at ks ≡ map (λ k. listed_serial number_of (item k)) ks
  told = map-where (serial_at at) (λ k. listed_serial number_of (item k)) ks (λ k h. numbers k (item k) refl h)

  pub listed-once : IsOnce (serials_of at ks)
  listed-once = subst IsOnce (sym told) (walked-once number_of item key_of n d p ks once members)

  -- in the order of the chain
  pub listed-order : IsRisingBy (serial_at at) ks → serials_of at ks ≡ map number_of (filter p (roll item key_of n))
  listed-order r = told ∙ walked-rising number_of item key_of n d p ks once members (rising-same (serial_at at) (λ k. listed_serial number_of (item k)) ks (λ k h. sym (numbers k (item k) refl h)) r)

  -- sorted
  pub listed-sorted : (ys : List ℕ) → IsInOrder (serials_of at ks) ys → ys ≡ map number_of (filter p (roll item key_of n))
  listed-sorted ys s = rising-one (λ m. m) ys _ s.rises (numbers-rise number_of item key_of n d p) (λ m. s.same m ∙ ap (λ xs. has xs m) told ∙ walked-same number_of item key_of n d p ks once members m)

  -- how many there are
  pub listed-long : length ks ≡ length (filter p (roll item key_of n))
  listed-long = sym (length-map ks (λ k. listed_serial number_of (item k))) ∙ walked-long number_of item key_of n d p ks once members ∙ length-map (filter p (roll item key_of n)) number_of

  pub listed-short : length ks ≤ length (roll item key_of n)
  listed-short = subst (λ m. m ≤ length (roll item key_of n)) (sym listed-long) (filter-short p (roll item key_of n))

-- ---- two lists of keys

pub has-both : (xs ys : List ℕ) (k : ℕ) → has (xs ++ ys) k ≡ (has xs k || has ys k)
has-both [] ys k = refl
has-both (x ∷ xs) ys k = let ih = has-both xs ys k in grind (arith, common_steps)

pub once-both : (xs ys : List ℕ) → IsOnce xs → IsOnce ys → ((k : ℕ) → has xs k ≡ true → has ys k ≡ false) → IsOnce (xs ++ ys)
once-both [] ys a b apart = b
once-both (x ∷ xs) ys a b apart = (
  has-both xs ys x ∙ ap (λ c. c || has ys x) a.0 ∙ apart x (has-first x xs),
  once-both xs ys a.1 b (λ k h. apart k (has-later x xs k h)),
)
