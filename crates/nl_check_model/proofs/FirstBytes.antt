-- The first bytes of a file, one more than the limit, say what the file says.
use Rattle.std.proofs.Common.{◌≡◌, ℕ, ◌+◌, ◌≤◌, Bool, true, false, length, take, nat_lt, Err, refl, sym, ap, ◌∙◌, subst, arith, take_all}
use Rattle.std.proofs.lemmas.Bool.Decides.{nat_tests}
use Rattle.std.proofs.lemmas.List.{length-take, take-take}
use Rattle.nl_fixed.specs.Nouns.{Bytes, Names}
use Rattle.nl_scan.specs.declared.token.ScanKind.{ScanKind}
use Rattle.nl_scan.specs.CodePart.{code_of}
use Rattle.nl_scan.specs.Place.{line_after, column_after}
use Rattle.nl_scan.specs.Tokens.{text_limit}
use Rattle.nl_check_model.specs.declared.faults.ModelFault.{ModelFault}
use Rattle.nl_check_model.specs.declared.faults.ModelKind.{ModelKind}
use Rattle.nl_check_model.specs.Laws.{FirstBytesSayAll}
use Rattle.nl_check_model.specs.Verdict.{CodeSays, FileSays, IsVerdict, Verdict, fault_at}

same_test : (limit : ℕ) (text : Bytes) → nat_lt limit (length (take (limit + 1) text)) ≡ nat_lt limit (length text)
same_test limit text = rw (length-take (limit + 1) text) (grind (arith, nat_tests))

-- a place is told by what stands before it
fault_by : ModelKind → Bytes → ModelFault
fault_by kind before = record { kind = kind; line = line_after before; column = column_after before }

fault_at-by : (text : Bytes) (kind : ModelKind) (place : ℕ) → fault_at text kind place ≡ fault_by kind (take place text)
unfolding fault_by
fault_at-by text kind place = refl

take_less : (limit : ℕ) (text : Bytes) → take limit (take (limit + 1) text) ≡ take limit text
take_less limit text = take-take limit (limit + 1) text (omega arith)

place-take : (text : Bytes) (limit : ℕ) (kind : ModelKind) → fault_at (take (limit + 1) text) kind limit ≡ fault_at text kind limit
place-take text limit kind = fault_at-by (take (limit + 1) text) kind limit ∙ ap (fault_by kind) (take_less limit text) ∙ sym (fault_at-by text kind limit)

says_by : (limit : ℕ) (widgets : Names) (text : Bytes) (v : Verdict) (long : Bool) → nat_lt limit (length text) ≡ long
    → FileSays limit long widgets (take (limit + 1) text) v → FileSays limit long widgets text v
says_by limit widgets text v true is said = said ∙ ap Err (place-take text limit (ModelKind.Scan ScanKind.TooLong))
says_by limit widgets text v false is said =
    let short : length text ≤ limit + 1 = grind (arith, nat_tests) in
    subst (λ bytes. CodeSays widgets (code_of bytes) v) (take_all (limit + 1) text short) said

says-take : (limit : ℕ) (widgets : Names) (text : Bytes) (v : Verdict)
    → FileSays limit (nat_lt limit (length (take (limit + 1) text))) widgets (take (limit + 1) text) v → FileSays limit (nat_lt limit (length text)) widgets text v
says-take limit widgets text v said =
    let here = subst (λ (long : Bool). FileSays limit long widgets (take (limit + 1) text) v) (same_test limit text) said in
    says_by limit widgets text v (nat_lt limit (length text)) refl here

pub first_bytes_say_all : FirstBytesSayAll
unfolding IsVerdict
first_bytes_say_all widgets file verdict said = says-take text_limit widgets file verdict said
