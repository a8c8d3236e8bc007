-- Puts, one after another.
use Rattle.std.proofs.Common.{◌≡◌, ℕ, List, [], ◌++◌, Option, Some, None, Result, Ok, Err, refl, ap, sym, ◌∙◌, subst, append_assoc, append-nil}
use Rattle.nl_outer.specs.Bytes.{Appended, PartAppended}
use Rattle.nl_outer.specs.Faults.{Rose}
use Rattle.nl_cli.specs.declared.ends.End.{End}
use Rattle.nl_cli.specs.Outcome.{Given}
use Rattle.nl_cli.specs.inner.Stages.{Puts}

-- nothing was appended
pub Appended-nothing : (a : Option (List ℕ)) → Appended a a []
Appended-nothing None = refl
Appended-nothing (Some held) = ap Some (sym (append-nil held))

Appended-more : (a b c : Option (List ℕ)) (x y : List ℕ) → Appended a b x → Appended b c y → Appended a c (x ++ y)
Appended-more None b c x y p q = rw (q, p)
Appended-more (Some held) b c x y p q = rw (q, p) (ap Some (append_assoc held x y))

-- a prefix of what comes after whole bytes
PartAppended-more : (a b c : Option (List ℕ)) (x y : List ℕ) → Appended a b x → PartAppended b c y → PartAppended a c (x ++ y)
PartAppended-more a b c x y p part = record {
  kept = x ++ part.kept;
  rest = part.rest;
  whole = rw part.whole (sym (append_assoc x part.kept part.rest));
  appended = Appended-more a b c x part.kept p part.appended;
}

-- a prefix of the first bytes
PartAppended-less : (a b : Option (List ℕ)) (x y : List ℕ) → PartAppended a b x → PartAppended a b (x ++ y)
PartAppended-less a b x y part = record {
  kept = part.kept;
  rest = part.rest ++ y;
  whole = rw part.whole (append_assoc part.kept part.rest y);
  appended = part.appended;
}

-- a prefix that is empty
pub PartAppended-nothing : (a : Option (List ℕ)) (x : List ℕ) → PartAppended a a x
PartAppended-nothing a x = record { kept = []; rest = x; whole = refl; appended = Appended-nothing a }

-- what stops a put stops what would follow
pub Puts-stops : (sink : Given) (x y : List ℕ) (end : End) → Puts x sink (Err end) → Puts (x ++ y) sink (Err end)
Puts-stops sink x y End.Write p = (p.0, PartAppended-less _ _ x y p.1)
Puts-stops sink x y End.Memory p = (p.0, PartAppended-less _ _ x y p.1)
Puts-stops sink x y (End.Model _) p = p
Puts-stops sink x y (End.Plan _) p = p
Puts-stops sink x y (End.Read _) p = p

-- the same of equal bytes
pub Puts-same : (sink : Given) (x y : List ℕ) (r : Result (Unit {0}) End) → x ≡ y → Puts x sink r → Puts y sink r
Puts-same sink x y r same puts = subst (λ bytes. Puts bytes sink r) same puts

-- two puts in a row
pub Puts-then : (f g h : ℕ) (a b c : Option (List ℕ)) (x y : List ℕ) (r : Result (Unit {0}) End)
    → Puts x (record { faults_before = f; faults_after = g; before = a; after = b }) (Ok tt)
    → Puts y (record { faults_before = g; faults_after = h; before = b; after = c }) r
    → Puts (x ++ y) (record { faults_before = f; faults_after = h; before = a; after = c }) r
Puts-then f g h a b c x y (Ok _) p q = (q.0 ∙ p.0, Appended-more a b c x y p.1 q.1)
Puts-then f g h a b c x y (Err End.Write) p q = (subst (λ n. Rose n h) p.0 q.0, PartAppended-more a b c x y p.1 q.1)
Puts-then f g h a b c x y (Err End.Memory) p q = (q.0 ∙ p.0, PartAppended-more a b c x y p.1 q.1)
Puts-then f g h a b c x y (Err (End.Model _)) p q = q
Puts-then f g h a b c x y (Err (End.Plan _)) p q = q
Puts-then f g h a b c x y (Err (End.Read _)) p q = q

-- for the check
pub ruleset put_steps = (Appended-nothing, PartAppended-nothing)
