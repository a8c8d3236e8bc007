-- What becomes of the lists that records hold.
use Rattle.std.proofs.Common.{◌≡◌, ◌≢◌, ℕ, ◌<◌, List, Option, Some, None, IsSome, refl, sym, ap, ◌∙◌, inl, inr, arith, subst}
use mathlib.Core.Path.{fun_ext}
use Rattle.std.proofs.lemmas.Grind.{common_steps}
use Rattle.std.proofs.lemmas.Bool.{cases_eq}
use Rattle.nl_store_lists.specs.Chained.{at_number, put_last, take_out, IsPlace, Turns}
use Rattle.nl_store_lists.proofs.Places.{at-other, place-kept}
use Rattle.nl_store_lists.proofs.Threaded.{taken_out, put_at_end, stays_threaded}
use Rattle.nl_store_records.specs.Filed.{after, before, next_of, previous_of, apart_from, IsFiled, IsHeld, KeepsOthers, Redirects, Stays}
use Rattle.nl_store_records.specs.declared.places.Border.{Border}
use Rattle.nl_store_records.specs.declared.record.Record.{Record}
use Rattle.nl_store_records.proofs.Redirecting.{turns-by, turns-then, turns-behind, turns-without, passes, takes, keeps}

-- ---- records that are held

pub held-kept : (chain : ℕ) (old new : ℕ → Option Record) (key : ℕ) → KeepsOthers chain old new → IsSome (old key) → IsSome (new key)
held-kept chain old new key e h = go (old key) (new key) (e key) h
  where
    go : (a b : Option Record) → apart_from chain b ≡ apart_from chain a → IsSome a → IsSome b
    go None b s h = absurd (cc)
    go (Some x) None s h = absurd (cc)
    go (Some x) (Some y) s h = refl

pub keeps-trans : (chain : ℕ) (one two three : ℕ → Option Record) → KeepsOthers chain one two → KeepsOthers chain two three → KeepsOthers chain one three
keeps-trans chain one two three p q key = q key ∙ p key

pub place-held : (chain : ℕ) (borders : ℕ → Border) (at : ℕ → Option Record) (home : ℕ → Option ℕ) (lists : ℕ → List ℕ) (n : ℕ) (place : Option ℕ) → IsFiled chain borders at home lists → IsPlace home n place → IsHeld at place
place-held chain borders at home lists n None f np = tt
place-held chain borders at home lists n (Some key) f np = f.held key n np

pub IsHeld-kept : (chain : ℕ) (old new : ℕ → Option Record) (place : Option ℕ) → KeepsOthers chain old new → IsHeld old place → IsHeld new place
IsHeld-kept chain old new None e h = tt
IsHeld-kept chain old new (Some key) e h = held-kept chain old new key e h

-- ---- a key is taken out, or put last

-- what stands before the key leads to what stands after it, and then back
pub filed-without : (chain : ℕ) (borders borders' : ℕ → Border) (at at' : ℕ → Option Record) (f1 g1 : ℕ → Option ℕ → Option ℕ) (home : ℕ → Option ℕ) (lists : ℕ → List ℕ) (n k : ℕ) (p q : Option ℕ) →
    IsFiled chain borders at home lists → home k ≡ Some n → p ≡ before chain borders at n (Some k) → q ≡ after chain borders at n (Some k) →
    Redirects n p q (after chain borders at) f1 → Stays (before chain borders at) g1 →
    Redirects n q p g1 (before chain borders' at') → Stays f1 (after chain borders' at') →
    ((j : ℕ) → IsSome (at j) → IsSome (at' j)) →
    IsFiled chain borders' at' (at_number home k None) (take_out lists n k)
filed-without chain borders borders' at at' f1 g1 home lists n k p q d hk ep eq r1 s1 r2 s2 keep =
    let f = after chain borders at in
    let g = before chain borders at in
    let f' = after chain borders' at' in
    let g' = before chain borders' at' in
    let t = d.threaded in
    let np : IsPlace home n p = subst (IsPlace home n) (sym ep) (t.back.stays n (Some k) hk) in
    let nq : IsPlace home n q = subst (IsPlace home n) (sym eq) (t.forth.stays n (Some k) hk) in
    let tf = turns-without home k n p q f f' (turns-then home n p q f f1 f' (turns-by home n p q f f1 np r1) s2) in
    let tg = turns-without home k n q p g g' (turns-behind home n q p g g1 g' (λ m a na. s1 m a) (turns-by home n q p g1 g' nq r2)) in
    record {
      threaded = taken_out home f g f' g' lists n k t hk (rw (sym ep, sym eq) tf) (rw (sym ep, sym eq) tg);
      held = λ j m h. keep j (d.held j m (place-kept home k m (Some j) h).0);
    }

-- the key gets its places, the last key leads to it, and the border leads back to it
pub filed-last : (chain : ℕ) (borders borders' : ℕ → Border) (at at' : ℕ → Option Record) (f1 f2 g1 g2 : ℕ → Option ℕ → Option ℕ) (home : ℕ → Option ℕ) (lists : ℕ → List ℕ) (n k : ℕ) (p : Option ℕ) →
    IsFiled chain borders at home lists → home k ≡ None → p ≡ before chain borders at n None →
    Redirects n (Some k) None (after chain borders at) f1 → Redirects n p (Some k) f1 f2 → Stays f2 (after chain borders' at') →
    Redirects n (Some k) p (before chain borders at) g1 → Stays g1 g2 → Redirects n None (Some k) g2 (before chain borders' at') →
    ((j : ℕ) → IsSome (at j) → IsSome (at' j)) → IsSome (at k) →
    IsFiled chain borders' at' (at_number home k (Some n)) (put_last lists n k)
filed-last chain borders borders' at at' f1 f2 g1 g2 home lists n k p d none ep r1 r2 s3 u1 s2 u3 keep hold =
    let f = after chain borders at in
    let g = before chain borders at in
    let f' = after chain borders' at' in
    let g' = before chain borders' at' in
    let t = d.threaded in
    let np : IsPlace home n p = subst (IsPlace home n) (sym ep) (t.back.stays n None tt) in
    let tf = turns-then home n p (Some k) f f2 f' (turns-behind home n p (Some k) f f1 f2 (passes home n k None f f1 none r1) (turns-by home n p (Some k) f1 f2 np r2)) s3 in
    let tg = turns-behind home n None (Some k) g g2 g' (λ m a na. s2 m a ∙ passes home n k p g g1 none u1 m a na) (turns-by home n None (Some k) g2 g' tt u3) in
    let ends : f' n (Some k) ≡ None = s3 n (Some k) ∙ keeps home n k p (Some k) f1 f2 none np r2 ∙ takes n k n None f f1 r1 in
    let begins : g' n (Some k) ≡ p = keeps home n k None (Some k) g2 g' none tt u3 ∙ s2 n (Some k) ∙ takes n k n p g g1 u1 in
    record {
      threaded = put_at_end home f g f' g' lists n k t none (subst (λ x. Turns home n x (Some k) f f') ep tf) ends tg (begins ∙ ep);
      held = λ j m h. elim (cases_eq j k) [
        | inl e ↦ subst (λ x. IsSome (at' x)) (sym e) (keep k hold)
        | inr ne ↦ keep j (d.held j m (sym (at-other home k (Some n) j ne) ∙ h))
      ];
    }

-- ---- what stays

-- the same homes
pub filed-home : (chain : ℕ) (borders : ℕ → Border) (at : ℕ → Option Record) (home home' : ℕ → Option ℕ) (lists : ℕ → List ℕ) → ((k : ℕ) → home k ≡ home' k) → IsFiled chain borders at home lists → IsFiled chain borders at home' lists
filed-home chain borders at home home' lists h f = subst (λ x. IsFiled chain borders at x lists) (fun_ext h) f

-- the same places
pub filed-places : (chain : ℕ) (borders : ℕ → Border) (old new : ℕ → Option Record) (home : ℕ → Option ℕ) (lists : ℕ → List ℕ) →
    ((k : ℕ) → next_of chain (new k) ≡ next_of chain (old k)) → ((k : ℕ) → previous_of chain (new k) ≡ previous_of chain (old k)) →
    ((k : ℕ) → IsSome (old k) → IsSome (new k)) → IsFiled chain borders old home lists → IsFiled chain borders new home lists
filed-places chain borders old new home lists nx pv keep f = record {
  threaded = stays_threaded home (after chain borders old) (before chain borders old) (after chain borders new) (before chain borders new) lists f.threaded after-same before-same;
  held = λ k n h. keep k (f.held k n h);
}
  where
    after-same : (n : ℕ) (a : Option ℕ) → IsPlace home n a → after chain borders new n a ≡ after chain borders old n a
    after-same n None na = refl
    after-same n (Some k) na = nx k

    before-same : (n : ℕ) (a : Option ℕ) → IsPlace home n a → before chain borders new n a ≡ before chain borders old n a
    before-same n None na = refl
    before-same n (Some k) na = pv k

next_of-apart : (c d : ℕ) (r : Option Record) → c < 5 → d < 5 → c ≢ d → next_of d (apart_from c r) ≡ next_of d r
next_of-apart c d None hc hd ne = refl
next_of-apart c d (Some r) hc hd ne = grind (arith, common_steps)

previous_of-apart : (c d : ℕ) (r : Option Record) → c < 5 → d < 5 → c ≢ d → previous_of d (apart_from c r) ≡ previous_of d r
previous_of-apart c d None hc hd ne = refl
previous_of-apart c d (Some r) hc hd ne = grind (arith, common_steps)

-- writes to places of one kind leave the chains of another
pub filed-other : (c d : ℕ) (borders : ℕ → Border) (old new : ℕ → Option Record) (home : ℕ → Option ℕ) (lists : ℕ → List ℕ) → c < 5 → d < 5 → c ≢ d → KeepsOthers c old new → IsFiled d borders old home lists → IsFiled d borders new home lists
filed-other c d borders old new home lists hc hd ne e f =
    filed-places d borders old new home lists
    (λ k. sym (next_of-apart c d (new k) hc hd ne) ∙ ap (next_of d) (e k) ∙ next_of-apart c d (old k) hc hd ne)
    (λ k. sym (previous_of-apart c d (new k) hc hd ne) ∙ ap (previous_of d) (e k) ∙ previous_of-apart c d (old k) hc hd ne)
    (λ k h. held-kept c old new k e h) f
