-- What rounds put, round by round.
use Rattle.std.proofs.Common.{◌≡◌, ℕ, ◌≤◌, List, ◌++◌, Bool, true, false, Option, sym, ap, ◌∙◌, subst, append_assoc, append-nil}
use Rattle.nl_fixed.specs.Nouns.{Bytes}
use Rattle.nl_outer.specs.Bytes.{Appended, PartAppended}
use Rattle.nl_lanes.specs.Runs.{LoneRuns}
use Rattle.nl_lanes.specs.Turns.{Standing}
use Rattle.nl_lanes.specs.Rounds.{Ran, all_ended, round, rounds}
use Rattle.nl_lanes.specs.Pools.{HasFailed, IsSound, Shown, bytes_of}
use Rattle.nl_lanes.proofs.Puts.{Appended-more, PartAppended-more, bytes_of-append}
use Rattle.nl_lanes.proofs.Progress.{rounds-done, rounds-step}

-- these texts were put, and what is left of the rounds gives the others
pub record Driven (list : LoneRuns) (units : ℕ) (first now : Standing) (old mid : Option Bytes) : Type 0 where
  pub put : List ℕ
  pub written : Appended old mid (bytes_of list put)
  pub given : (rounds list units first).given ≡ put ++ (rounds list units now).given
  pub standing : (rounds list units first).standing ≡ (rounds list units now).standing

pub driven-more : (list : LoneRuns) (units : ℕ) (first now next : Standing) (old mid new : Option Bytes)
    → 1 ≤ units → IsSound list now → all_ended list now ≡ false
    → Driven list units first now old mid → next ≡ (round list units now).standing
    → Appended mid new (bytes_of list (round list units now).given)
    → Driven list units first next old new
driven-more list units first now next old mid new some sound going d is put =
    let e = rounds-step list units now some sound going in
    let one = (round list units now).given in
    let rest : Ran = rounds list units (round list units now).standing in
    let f : rounds list units next ≡ rest = ap (rounds list units) is in
    record {
      put = d.put ++ one;
      written = subst (Appended old new) (sym (bytes_of-append list d.put one))
          (Appended-more old mid new (bytes_of list d.put) (bytes_of list one) d.written put);
      given = d.given ∙ ap (λ (r : Ran). d.put ++ r.given) e ∙ sym (append_assoc d.put one rest.given)
          ∙ ap (λ (r : Ran). (d.put ++ one) ++ r.given) (sym f);
      standing = d.standing ∙ ap (λ (r : Ran). r.standing) e ∙ ap (λ (r : Ran). r.standing) (sym f);
    }

pub driven-whole : (list : LoneRuns) (units : ℕ) (first now : Standing) (old mid : Option Bytes) → all_ended list now ≡ true
    → Driven list units first now old mid → Appended old mid (bytes_of list (rounds list units first).given)
driven-whole list units first now old mid done d =
    let e = rounds-done list units now done in
    let f : (rounds list units first).given ≡ d.put =
    d.given ∙ ap (λ (r : Ran). d.put ++ r.given) e ∙ append-nil d.put in
    subst (λ l. Appended old mid (bytes_of list l)) (sym f) d.written

pub driven-standing : (list : LoneRuns) (units : ℕ) (first now : Standing) (old mid : Option Bytes) → all_ended list now ≡ true
    → Driven list units first now old mid → now ≡ (rounds list units first).standing
driven-standing list units first now old mid done d =
    sym (d.standing ∙ ap (λ (r : Ran). r.standing) (rounds-done list units now done))

-- a part of the next round
pub driven-part : (list : LoneRuns) (units : ℕ) (first : Standing) (now : Shown) (old mid new : Option Bytes) (failed : Bool)
    → now.failed ≡ failed → 1 ≤ units → now.list ≡ list → ((HasFailed now → ⊥) → IsSound list now.standing)
    → all_ended list now.standing ≡ false
    → Driven list units first now.standing old mid
    → PartAppended mid new (bytes_of list (round list units now.standing).given)
    → (HasFailed now → new ≡ mid)
    → PartAppended old new (bytes_of list (rounds list units first).given)
driven-part list units first now old mid new true is some same sound going d part none =
    let f = ap (bytes_of list) d.given ∙ bytes_of-append list d.put (rounds list units now.standing).given in
    record {
      kept = bytes_of list d.put;
      rest = bytes_of list (rounds list units now.standing).given;
      whole = f;
      appended = none is ∙ d.written;
    }
driven-part list units first now old mid new false is some same sound going d part none =
    let e = rounds-step list units now.standing some (sound (λ h. absurd cc)) going in
    let one = (round list units now.standing).given in
    let rest : List ℕ = (rounds list units (round list units now.standing).standing).given in
    let f = ap (bytes_of list) (d.given ∙ ap (λ (r : Ran). d.put ++ r.given) e)
    ∙ bytes_of-append list d.put (one ++ rest)
    ∙ ap (λ l. bytes_of list d.put ++ l) (bytes_of-append list one rest) in
    subst (PartAppended old new) (sym f)
    (PartAppended-more old mid new (bytes_of list d.put) (bytes_of list one) (bytes_of list rest) d.written part)
