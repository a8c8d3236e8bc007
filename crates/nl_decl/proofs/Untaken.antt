-- Where names are declared no more often than may stand together, none is taken.
use Rattle.std.proofs.Common.{◌≡◌, ℕ, ◌+◌, ◌<◌, ◌≤◌, Bool, true, false, not, ◌||◌, ◌&&◌, List, [], ◌∷◌, Some, None, bytes_eq, sym, ap, subst, ◌∙◌, refl, arith, if◌then◌else◌, is_some}
use Rattle.std.specs.List.{list_any}
use Rattle.nl_words.specs.Row.{row_named}
use Rattle.nl_words.specs.Rows.{rows}
use Rattle.nl_decl.specs.declared.claims.Claim.{Claim}
use Rattle.nl_decl.specs.declared.claims.Claim.TheVariants as claim
use Rattle.nl_decl.specs.declared.claims.Claimed.{Claimed}
use Rattle.nl_decl.specs.Claims.{may_share, clashes, first_clash}
use Rattle.nl_decl.proofs.Often.{tick, same_name}
use Rattle.nl_decl.proofs.Clashes.{same_claim, same_claim-is, claimed}
use Rattle.nl_decl.proofs.Linked.{self_claim}

-- a later declaration clashes with none of these where none of them declares its name in a way that may not stand beside it
free_step : (b s l : Bool) (k : ℕ) → (s ≡ false → tick b + k ≡ 0) → l ≡ false → ((b && not s) || l) ≡ false
free_step true true l k out later = later
free_step true false l k out later = let it = out refl in absurd (omega (arith, it))
free_step false s l k out later = later

none_clashes : (x : Claimed) (es : List Claimed) → ((c : Claim) → may_share c x.claim ≡ false → claimed c x.name es ≡ 0) → list_any (λ e. clashes e x) es ≡ false
none_clashes x [] none = refl
none_clashes x (e ∷ es) none =
    free_step (bytes_eq e.name x.name) (may_share e.claim x.claim) (list_any (λ y. clashes y x) es) (claimed e.claim x.name es)
    (λ apart. ap (λ b. tick (b && bytes_eq e.name x.name) + claimed e.claim x.name es) (sym (self_claim e.claim)) ∙ none e.claim apart)
    (none_clashes x es (λ c apart. omega (arith, none c apart)))

uncounted : (b c : Bool) (k : ℕ) → tick (b && c) + k ≡ 0 → tick c ≡ 1 → b ≡ false
uncounted true c k h one = absurd (omega (arith, h, one))
uncounted false c k h one = refl

both_false : (a b : Bool) → a ≡ false → b ≡ false → (a || b) ≡ false
both_false true b h k = cc
both_false false b h k = k

-- Declarations, widgets among them, of which each name is declared so often at most in each way: in no way but that of widgets twice, in no two
-- ways that may not stand together, and no built-in word.
module _ (total : Claim → List ℕ → ℕ)
    (once : (e : Claim) (n : List ℕ) → same_claim claim.Widget e ≡ false → total e n ≤ 1)
    (apart : (c e : Claim) (n : List ℕ) → same_claim claim.Widget e ≡ false → same_claim c e ≡ false → may_share c e ≡ false → 0 < total e n → total c n ≡ 0)
    (foreign : (e : Claim) (n : List ℕ) → 0 < total e n → is_some (row_named rows n) ≡ false) where
  none_before : (es cs : List Claimed) (x : Claimed) → ((c : Claim) (n : List ℕ) → claimed c n es + claimed c n (x ∷ cs) ≤ total c n) → tick (same_claim x.claim x.claim && bytes_eq x.name x.name) ≡ 1 → same_claim claim.Widget x.claim ≡ false →
      (c : Claim) (b : Bool) → same_claim c x.claim ≡ b → may_share c x.claim ≡ false → claimed c x.name es ≡ 0
  none_before es cs x within mine widget c true same share =
      subst (λ e. claimed e x.name es ≡ 0) (sym (same_claim-is c x.claim same)) (omega (arith, within x.claim x.name, mine, once x.claim x.name widget))
  none_before es cs x within mine widget c false other share =
      omega (arith, within c x.name, apart c x.claim x.name widget other share (omega (arith, within x.claim x.name, mine)))

  pub none_taken : (es cs : List Claimed) → ((c : Claim) (n : List ℕ) → claimed c n es + claimed c n cs ≤ total c n) → ((n : List ℕ) → claimed claim.Widget n cs ≡ 0) → first_clash es cs ≡ None
  none_taken es [] within widget = refl
  none_taken es (x ∷ cs) within widget =
      let mine : tick (same_claim x.claim x.claim && bytes_eq x.name x.name) ≡ 1 = ap (λ b. tick (b && bytes_eq x.name x.name)) (self_claim x.claim) ∙ same_name x.name in
      let no_widget = uncounted (same_claim claim.Widget x.claim) (bytes_eq x.name x.name) (claimed claim.Widget x.name cs) (widget x.name) (same_name x.name) in
      let row = foreign x.claim x.name (omega (arith, within x.claim x.name, mine)) in
      let free = none_clashes x es (λ c share. none_before es cs x within mine no_widget c (same_claim c x.claim) refl share) in
      let later = none_taken (x ∷ es) cs (λ c n. omega (arith, within c n)) (λ n. omega (arith, widget n)) in
      ap (λ b. if b then Some x.place else first_clash (x ∷ es) cs) (both_false (is_some (row_named rows x.name)) (list_any (λ e. clashes e x) es) row free) ∙ later
