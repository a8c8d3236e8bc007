-- What a round puts, turn by turn.
use Rattle.std.proofs.Common.{◌≡◌, ℕ, zero, suc, ◌+◌, ◌≤◌, ◌<◌, [], ◌++◌, Option, Result, Ok, Err, OnErr, length, refl, sym, ap, ◌∙◌, subst, append_assoc, arith}
use Rattle.nl_fixed.specs.Nouns.{Bytes}
use Rattle.nl_outer.specs.Bytes.{Appended, PartAppended}
use Rattle.nl_lanes.specs.Runs.{LoneRuns}
use Rattle.nl_lanes.specs.Turns.{Standing, turned}
use Rattle.nl_lanes.specs.Rounds.{before, round}
use Rattle.nl_lanes.specs.Pools.{HasFailed, Shown, bytes_of}
use Rattle.nl_lanes.proofs.Puts.{Appended-more, PartAppended-more, bytes_of-append}
use Rattle.nl_lanes.proofs.Turning.{first_turns, first_turns-given, first_turns-standing, round-front}

pub OnErr-all : {A E : Type 0} (r : Result A E) (P : Type 0) → P → OnErr r P
OnErr-all (Ok x) P p = tt
OnErr-all (Err e) P p = p

-- the bytes of one more turn
turn_bytes : (list : LoneRuns) (lanes units : ℕ) (s : Standing)
    → bytes_of list (first_turns list (lanes + 1) units s).given
    ≡ bytes_of list (first_turns list lanes units s).given
    ++ bytes_of list (before (turned list (lanes + 1) units (first_turns list lanes units s).standing).gives [])
turn_bytes list lanes units s =
    ap (bytes_of list) (first_turns-given list lanes units s)
    ∙ bytes_of-append list (first_turns list lanes units s).given
    (before (turned list (lanes + 1) units (first_turns list lanes units s).standing).gives [])

pub standing-more : (list list' : LoneRuns) (lanes units : ℕ) (s s' t : Standing) → list' ≡ list
    → s' ≡ (first_turns list lanes units s).standing → t ≡ (turned list' (lanes + 1) units s').standing
    → t ≡ (first_turns list (lanes + 1) units s).standing
standing-more list list' lanes units s s' t same at is =
    is ∙ ap (λ l. (turned l (lanes + 1) units s').standing) same
    ∙ ap (λ u. (turned list (lanes + 1) units u).standing) at
    ∙ sym (first_turns-standing list lanes units s)

same_bytes_of : (list list' : LoneRuns) (lanes units : ℕ) (s s' : Standing) → list' ≡ list
    → s' ≡ (first_turns list lanes units s).standing
    → bytes_of list' (before (turned list' (lanes + 1) units s').gives [])
    ≡ bytes_of list (before (turned list (lanes + 1) units (first_turns list lanes units s).standing).gives [])
same_bytes_of list list' lanes units s s' same at =
    ap (λ l. bytes_of l (before (turned l (lanes + 1) units s').gives [])) same
    ∙ ap (λ u. bytes_of list (before (turned list (lanes + 1) units u).gives [])) at

pub written-more : (list list' : LoneRuns) (lanes units : ℕ) (s s' : Standing) (old mid new : Option Bytes) → list' ≡ list
    → s' ≡ (first_turns list lanes units s).standing
    → Appended old mid (bytes_of list (first_turns list lanes units s).given)
    → Appended mid new (bytes_of list' (before (turned list' (lanes + 1) units s').gives []))
    → Appended old new (bytes_of list (first_turns list (lanes + 1) units s).given)
written-more list list' lanes units s s' old mid new same at first second =
    subst (Appended old new) (sym (turn_bytes list lanes units s))
    (Appended-more old mid new _ _ first (subst (Appended mid new) (same_bytes_of list list' lanes units s s' same at) second))

pub part-of-round : (list list' : LoneRuns) (lanes units : ℕ) (s s' : Standing) (old mid new : Option Bytes) → list' ≡ list
    → s' ≡ (first_turns list lanes units s).standing → lanes + 1 ≤ length s.lanes
    → Appended old mid (bytes_of list (first_turns list lanes units s).given)
    → PartAppended mid new (bytes_of list' (before (turned list' (lanes + 1) units s').gives []))
    → PartAppended old new (bytes_of list (round list units s).given)
part-of-round list list' lanes units s s' old mid new same at within first second =
    let f = round-front list (lanes + 1) units s within in
    let a = bytes_of list (first_turns list lanes units s).given in
    let b = bytes_of list (before (turned list (lanes + 1) units (first_turns list lanes units s).standing).gives []) in
    let e : bytes_of list (round list units s).given ≡ (a ++ b) ++ bytes_of list f.rest =
    ap (bytes_of list) f.whole ∙ bytes_of-append list (first_turns list (lanes + 1) units s).given f.rest
    ∙ ap (λ l. l ++ bytes_of list f.rest) (turn_bytes list lanes units s) in
    subst (PartAppended old new) (sym (e ∙ append_assoc a b (bytes_of list f.rest)))
    (PartAppended-more old mid new a b (bytes_of list f.rest) first
    (subst (PartAppended mid new) (same_bytes_of list list' lanes units s s' same at) second))

-- a pool that works so far hadn't failed before
pub never_failed : (n : ℕ) (old now : Shown) → (0 < n → HasFailed old → ⊥) → (n ≡ 0 → now ≡ old) → (HasFailed now → ⊥)
    → HasFailed old → ⊥
never_failed zero old now going first works failed = works (ap (λ (p : Shown). p.failed) (first refl) ∙ failed)
never_failed (suc n) old now going first works failed = going (omega arith) failed

-- and one that had failed puts nothing
pub failed_puts_none : (n : ℕ) (old now : Shown) (first mid last : Option Bytes) → (0 < n → HasFailed old → ⊥) → (n ≡ 0 → now ≡ old)
    → (n ≡ 0 → mid ≡ first) → (HasFailed now → last ≡ mid) → HasFailed old → last ≡ first
failed_puts_none zero old now first mid last going same kept none failed =
    none (ap (λ (p : Shown). p.failed) (same refl) ∙ failed) ∙ kept refl
failed_puts_none (suc n) old now first mid last going same kept none failed = absurd (going (omega arith) failed)
