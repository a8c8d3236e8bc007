-- Lemmas on a walk along a chain.
use Rattle.std.proofs.Common.{◌≡◌, ℕ, ◌+◌, ◌≤◌, true, List, [], ◌∷◌, ◌++◌, length, Option, Some, None, IsSome, refl, sym, ap, ◌∙◌, arith, subst, append_assoc}
use Rattle.std.proofs.lemmas.List.{append-nil}
use Rattle.std.specs.Option.{option_copied}
use Rattle.std.specs.Borrow.{Bor}
use Rattle.nl_store_lists.specs.Chained.{has, IsWalk}
use Rattle.nl_store_lists.proofs.Members.{has-first, has-later}
use Rattle.nl_store_records.specs.Filed.{after, next_of}
use Rattle.nl_store_records.specs.declared.places.Border.{Border}
use Rattle.nl_store_records.specs.declared.record.Record.{Record}
use Rattle.nl_index.specs.Index.{serial_at}
use Rattle.nl_store_files.specs.Walks.{IsPath, serials_of}
use Rattle.nl_store_files.specs.inner.Left.{IsLeft}

-- a walk through keys that are held is a path
pub path-of-walk : (chain : ℕ) (borders : ℕ → Border) (at : ℕ → Option Record) (n : ℕ) (from : Option ℕ) (ks : List ℕ) → IsWalk (after chain borders at n) from ks → ((k : ℕ) → has ks k ≡ true → IsSome (at k)) → IsPath chain at (after chain borders at n from) ks
path-of-walk chain borders at n from [] w held = w
path-of-walk chain borders at n from (k ∷ ks) w held =
    (w.0, held k (has-first k ks), path-of-walk chain borders at n (Some k) ks w.1 (λ j h. held j (has-later k ks j h)))

module _ (chain : ℕ) (at : ℕ → Option Record) (ks was now : List ℕ) (b a i : ℕ) where
  none-rest : (rest : List ℕ) → IsPath chain at None rest → now ++ serials_of at rest ≡ was ++ serials_of at ks → now ≡ was ++ serials_of at ks
  none-rest [] w e = sym (append-nil now) ∙ e
  none-rest (k ∷ rest) w e = absurd (let z = w.0 in cc)

  -- nothing is left where there is no key
  pub left-none : (here : Option ℕ) → here ≡ None → IsLeft chain at here ks was now b a i → now ≡ was ++ serials_of at ks
  left-none here h l = none-rest l.rest (subst (λ x. IsPath chain at x l.rest) h l.path) l.told

  done-rest : (rest : List ℕ) → length rest + i ≡ length ks → length ks ≤ i → now ++ serials_of at rest ≡ was ++ serials_of at ks → now ≡ was ++ serials_of at ks
  done-rest [] f s e = sym (append-nil now) ∙ e
  done-rest (k ∷ rest) f s e = absurd (omega arith)

  -- nothing is left after as many keys as there are
  pub left-done : (here : Option ℕ) → length ks ≤ i → IsLeft chain at here ks was now b a i → now ≡ was ++ serials_of at ks
  left-done here s l = done-rest l.rest l.far s l.told

  none-left : (rest : List ℕ) → IsPath chain at None rest → length rest + i ≡ length ks → i ≡ length ks
  none-left [] w f = omega (arith, f)
  none-left (k ∷ rest) w f = absurd (let z = w.0 in cc)

  -- all keys were passed where there is no key
  pub left-all : (here : Option ℕ) → here ≡ None → IsLeft chain at here ks was now b a i → i ≡ length ks
  left-all here h l = none-left l.rest (subst (λ x. IsPath chain at x l.rest) h l.path) l.far

  -- no more keys were passed than there are
  pub left-far : (here : Option ℕ) → IsLeft chain at here ks was now b a i → i ≤ length ks
  left-far here l = let f = l.far in omega arith

  -- what was read is no more than the keys
  pub left-reads : (here : Option ℕ) → IsLeft chain at here ks was now b a i → a ≤ b + length ks
  left-reads here l = let r = l.reads in omega arith

  some-rest : (key : ℕ) (rest : List ℕ) → IsPath chain at (Some key) rest → IsSome (at key)
  some-rest key [] w = absurd (cc)
  some-rest key (k ∷ rest) w = let e : key ≡ k = (let z = w.0 in cc) in subst (λ x. IsSome (at x)) (sym e) w.1

  -- the key that comes has a record
  pub left-some : (here : Option ℕ) (key : ℕ) → here ≡ Some key → IsLeft chain at here ks was now b a i → IsSome (at key)
  left-some here key h l = some-rest key l.rest (subst (λ x. IsPath chain at x l.rest) h l.path)

  next-rest : (key : ℕ) (rest : List ℕ) → IsPath chain at (Some key) rest → now ++ serials_of at rest ≡ was ++ serials_of at ks → a + length rest ≡ b + length ks → length rest + i ≡ length ks → IsLeft chain at (next_of chain (at key)) ks was (now ++ serial_at at key ∷ []) b (a + 1) (i + 1)
  next-rest key [] w e c f = absurd (cc)
  next-rest key (k ∷ rest) w e c f =
      let q : k ≡ key = (let z = w.0 in cc) in
      record {
        rest = rest;
        path = subst (λ x. IsPath chain at (next_of chain (at x)) rest) q w.2;
        told = append_assoc now (serial_at at key ∷ []) (serials_of at rest) ∙ ap (λ x. now ++ serial_at at x ∷ serials_of at rest) (sym q) ∙ e;
        reads = omega arith;
        far = omega arith;
      }

  pub left-next : (here : Option ℕ) (key : ℕ) → here ≡ Some key → IsLeft chain at here ks was now b a i → IsLeft chain at (next_of chain (at key)) ks was (now ++ serial_at at key ∷ []) b (a + 1) (i + 1)
  left-next here key h l = next-rest key l.rest (subst (λ x. IsPath chain at x l.rest) h l.path) l.told l.reads l.far

  more-rest : (key : ℕ) (rest : List ℕ) → IsPath chain at (Some key) rest → a + length rest ≡ b + length ks → a + 1 ≤ b + length ks
  more-rest key [] w c = absurd (cc)
  more-rest key (k ∷ rest) w c = omega arith

  -- one more read is one of the keys
  pub left-more : (here : Option ℕ) (key : ℕ) → here ≡ Some key → IsLeft chain at here ks was now b a i → a + 1 ≤ b + length ks
  left-more here key h l = more-rest key l.rest (subst (λ x. IsPath chain at x l.rest) h l.path) l.reads

pub left-as : (chain : ℕ) (at : ℕ → Option Record) (here here' : Option ℕ) (ks was now now' : List ℕ) (b a a' i : ℕ) → here ≡ here' → now ≡ now' → a ≡ a' → IsLeft chain at here ks was now b a i → IsLeft chain at here' ks was now' b a' i
left-as chain at here here' ks was now now' b a a' i e1 e2 e3 l =
    subst (λ x. IsLeft chain at here' ks was now' b x i) e3 (subst (λ x. IsLeft chain at here' ks was x b a i) e2 (subst (λ x. IsLeft chain at x ks was now b a i) e1 l))

pub left-first : (chain : ℕ) (at : ℕ → Option Record) (first : Option ℕ) (ks was : List ℕ) (b : ℕ) → IsPath chain at first ks → IsLeft chain at first ks was was b b 0
left-first chain at first ks was b w = record { rest = ks; path = w; told = refl; reads = refl; far = omega arith }

pub copied-some : (o : Option (Bor Record)) (r : Option Record) → option_copied o ≡ r → IsSome r → IsSome o
copied-some None r e h = absurd (let z = subst IsSome (sym e) h in cc)
copied-some (Some x) r e h = refl
